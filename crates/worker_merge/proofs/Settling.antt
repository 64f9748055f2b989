-- What the view of a worker says where it goes on and where it stops.
use Rattle.std.proofs.Common.{◌≡◌, ℕ, ◌<◌, ◌≤◌, ◌⊎◌, min, Bool, true, false, Option, Some, None, List, [], ◌∷◌, ◌++◌, length, length-append, refl, sym, ap, ◌∙◌, subst, inl, inr, ⊎_elim, arith, if◌then◌else◌}
use mathlib.Core.Logic.{dite}
use native.Mathlib.Decide.{dec_lt}
use Rattle.scan_core.specs.Times.{times}
use Rattle.scan_core.specs.Board.{lesser, claimed, ending, reported, harmed, saw_rows, saw_damage}
use Rattle.scan_core.specs.declared.view.ScanView.{ScanView}
use Rattle.scan_core.proofs.Keeping.{times-append}
use Rattle.scan_board.specs.declared.board.Go.TheVariants.{On, Enough, Harm}
use Rattle.scan_board.specs.Going.{harm_or_on}
use Rattle.scan_files.specs.Places.{Held}
use Rattle.worker_merge.specs.Draws.{Looked, IsLast, IsClean, known, IsGoodAt, IsBadAt, IsSettled}
use Rattle.worker_merge.proofs.Counting.{one_there, one_time}

-- the damage that a look told of
pub go_harm : (full : Bool) (d : Option ℕ) (k : ℕ) → Harm k ≡ (if full then Enough else harm_or_on d) → d ≡ Some k
go_harm true d k e = absurd (let no : Harm k ≡ Enough = e in cc)
go_harm false None k e = absurd (let no : Harm k ≡ On = e in cc)
go_harm false (Some j) k e = let is : k ≡ j = cc in ap (λ (x : ℕ). Some x) (sym is)

-- a look behind a draw
pub looked_after : (u m w : ScanView) (n : ℕ) → m ≡ claimed u n → Looked m w → Looked (claimed u n) w
looked_after u m w n is looked = looked ∙ ap (λ (x : ScanView). saw_damage (saw_rows x w.seen_rows) w.seen_damage) is

-- u drew the block n, and v is it after a look
module _ (u v : ScanView) (n : ℕ) (clean : IsClean u) (drew : Looked (claimed u n) v) where
  claims_are : v.claims ≡ u.claims ++ n ∷ []
  claims_are = ap (λ (w : ScanView). w.claims) drew

  least_is : v.least ≡ None
  least_is = ap (λ (w : ScanView). w.least) drew ∙ clean.least

  ended_is : v.ended ≡ false
  ended_is = ap (λ (w : ScanView). w.ended) drew ∙ clean.going

  reports_are : v.reports ≡ u.reports
  reports_are = ap (λ (w : ScanView). w.reports) drew

  pub may_report : v.reports < length v.claims
  may_report = let r = reports_are in let c = clean.reports in let l = ap (λ (x : List ℕ). length x) claims_are in omega (arith, length-append u.claims (n ∷ []))

  pub mine : 0 < times n v.claims
  mine = let e = ap (λ (x : List ℕ). times n x) claims_are in omega (arith, times-append n u.claims (n ∷ []), one_there n)

  -- the block was good, and is reported
  pub still_clean : (w : ScanView) → w ≡ reported v 0 → IsClean w
  still_clean w is = record {
    least = ap (λ (x : ScanView). x.least) is ∙ least_is;
    going = ap (λ (x : ScanView). x.ended) is ∙ ended_is;
    reports = let a = ap (λ (x : ScanView). x.reports) is in let b = ap (λ (x : ScanView). length x.claims) is in let r = reports_are in let c = clean.reports in let l = ap (λ (x : List ℕ). length x) claims_are in
        omega (arith, length-append u.claims (n ∷ []));
  }

  pub claims_more : (w : ScanView) → w ≡ reported v 0 → w.claims ≡ u.claims ++ n ∷ []
  claims_more w is = ap (λ (x : ScanView). x.claims) is ∙ claims_are

  module _ (fields : List (List ℕ)) (hs : List Held) (good : (b : ℕ) → 0 < times b u.claims → IsGoodAt fields hs b) where
    -- a claim is good, or is the last
    of_claims : (b : ℕ) → 0 < times b v.claims → IsGoodAt fields hs b ⊎ (b ≡ n)
    of_claims b h = dite (dec_lt 0 (times b u.claims)) (λ had. inl (good b had))
        (λ no. inr (one_time b n (let e = ap (λ (x : List ℕ). times b x) claims_are in let parts = times-append b u.claims (n ∷ []) in omega arith)))

    lesser_known : (l s : Option ℕ) (k : ℕ) → l ≡ None → s ≡ Some k → lesser l s ≡ Some k
    lesser_known None s k is at = at
    lesser_known (Some x) s k is at = absurd (cc)

    -- a lower block is known to be bad
    pub stopped_below : (k : ℕ) → v.seen_damage ≡ Some k → k < n → IsSettled fields hs v
    stopped_below k seen lt = let knows = lesser_known v.least v.seen_damage k least_is seen in record {
      bad = λ d e. absurd (let no : None ≡ Some d = sym least_is ∙ e in cc);
      claims = λ b h. ⊎_elim (λ g. inl g) (λ is. inr (k, knows, (let e = is in omega arith))) (of_claims b h);
      stopped = inr (k, knows);
    }

    known_le : (b : ℕ) (s : Option ℕ) → (k : ℕ) × (lesser (Some b) s ≡ Some k) × (k ≤ b)
    known_le b None = (b, refl, omega arith)
    known_le b (Some c) = (min b c, refl, omega arith)

    same_of : {c d : ℕ} → Some c ≡ Some d → c ≡ d
    same_of e = cc

    -- the block is bad, and is reported
    pub stopped_at : (w : ScanView) → w ≡ harmed v n → IsBadAt fields hs n → IsSettled fields hs w
    stopped_at w is bad =
        let least : w.least ≡ Some n = ap (λ (x : ScanView). x.least) is ∙ ap (λ (o : Option ℕ). lesser o (Some n)) least_is in
        let same : w.claims ≡ v.claims = ap (λ (x : ScanView). x.claims) is in
        let found = known_le n w.seen_damage in
        let knows : known w ≡ Some found.0 = ap (λ (o : Option ℕ). lesser o w.seen_damage) least ∙ found.1 in
        record {
          bad = λ d e. let at : n ≡ d = same_of (sym least ∙ e) in (subst (IsBadAt fields hs) at bad, subst (λ (x : ℕ). 0 < times x w.claims) at (subst (λ (l : List ℕ). 0 < times n l) (sym same) mine));
          claims = λ b h. ⊎_elim (λ g. inl g) (λ at. inr (found.0, knows, subst (λ (x : ℕ). found.0 ≤ x) (sym at) found.2)) (of_claims b (subst (λ (l : List ℕ). 0 < times b l) same h));
          stopped = inr (found.0, knows);
        }

-- no block was left
settled_ended : (u w : ScanView) (fields : List (List ℕ)) (hs : List Held) → IsClean u → ((b : ℕ) → 0 < times b u.claims → IsGoodAt fields hs b) → w ≡ ending u → IsSettled fields hs w
settled_ended u w fields hs clean good is = record {
  bad = λ d e. absurd (let no : None ≡ Some d = sym (ap (λ (x : ScanView). x.least) is ∙ clean.least) ∙ e in cc);
  claims = λ b h. inl (good b (subst (λ (l : List ℕ). 0 < times b l) (ap (λ (x : ScanView). x.claims) is) h));
  stopped = inl (ap (λ (x : ScanView). x.ended) is);
}

pub settled_last : (u w : ScanView) (fields : List (List ℕ)) (hs : List Held) → IsClean u → ((b : ℕ) → 0 < times b u.claims → IsGoodAt fields hs b) → IsLast u w → IsSettled fields hs w
settled_last u w fields hs clean good last = ⊎_elim (λ is. settled_ended u w fields hs clean good is) (λ t. stopped_below u w t.0 clean t.2 fields hs good t.1 t.3 t.4) last

-- where the seat has ended, no block was left, and its claims are those of before
pub claims_last : (u w : ScanView) → IsClean u → IsLast u w → w.ended ≡ true → w.claims ≡ u.claims
claims_last u w clean last ended = ⊎_elim (λ is. ap (λ (x : ScanView). x.claims) is) (λ t. absurd (let going = ended_is u w t.0 clean t.2 in let no : true ≡ false = sym ended ∙ going in cc)) last

-- a seat that met a bad block hasn't ended
pub harmed_going : (u v w : ScanView) (n : ℕ) → IsClean u → Looked (claimed u n) v → w ≡ harmed v n → w.ended ≡ true → ⊥
harmed_going u v w n clean drew is ended = let going = ap (λ (x : ScanView). x.ended) is ∙ ended_is u v n clean drew in let no : true ≡ false = sym ended ∙ going in cc
