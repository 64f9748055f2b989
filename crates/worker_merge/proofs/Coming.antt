-- The damage of a gathered board is the first bad block, and where it has none all blocks were drawn once.
use Rattle.std.proofs.Common.{◌≡◌, ℕ, zero, suc, ◌<◌, ◌≤◌, ◌⊎◌, min, Bool, true, false, Option, Some, None, List, [], ◌∷◌, ◌++◌, length, All, sym, refl, ap, ◌∙◌, subst, inl, inr, ⊎_elim, arith, if◌then◌else◌}
use Rattle.std.proofs.lemmas.Bool.Decides.{nat_tests}
use Rattle.std.proofs.lemmas.Grind.{flat_map-append}
use Rattle.std.proofs.lemmas.List.{append-nil}
use mathlib.Core.Option.{some, some-injective, some-ne-none}
use mathlib.Core.Logic.{dite}
use native.Mathlib.Decide.{dec_lt}
use lib.ListN.{get_elem?}
use Rattle.scan_core.specs.Times.{times, total}
use Rattle.scan_core.specs.Board.{once_below, AtMost, least_of}
use Rattle.scan_core.specs.declared.view.ScanView.{ScanView}
use Rattle.scan_core.proofs.Keeping.{total-at, some-positive, is_least, below_is, least-at, both_later, times-append}
use Rattle.scan_board.specs.declared.board.Board.{Board}
use Rattle.scan_board.specs.declared.seat.BoardSeat.{BoardSeat}
use Rattle.scan_board.specs.Seats.{BelongsTo, view_of, views_of}
use Rattle.scan_files.specs.Places.{Held}
use Rattle.worker_merge.specs.Draws.{known, ended_claims, taken, IsGoodAt, IsBadAt, IsSettled}

elem_of : {A : Type 0} (P : A → Type 0) (l : List A) (i : ℕ) (v : A) → All P l → get_elem? l i ≡ some v → P v
elem_of P [] i v all e = absurd (some-ne-none v (sym e))
elem_of P (x ∷ xs) zero v all e = subst P (some-injective x v e) (all 0 x (omega arith))
elem_of P (x ∷ xs) (suc i) v all e = elem_of P xs i v (λ k d lt. all (suc k) d (omega arith)) e

pub all_belong : (b : Board) (P : BoardSeat → Type 0) (ss : List BoardSeat) → All (λ s. BelongsTo b s × P s) ss → All (BelongsTo b) ss
all_belong b P ss all k d lt = (all k d lt).0

settled_views : (b : Board) (fields : List (List ℕ)) (hs : List Held) (ss : List BoardSeat) → All (λ s. BelongsTo b s × IsSettled fields hs (view_of s)) ss → All (IsSettled fields hs) (views_of ss)
settled_views b fields hs [] all k d lt = absurd (omega arith)
settled_views b fields hs (s ∷ ss) all zero d lt = (all 0 s (omega arith)).1
settled_views b fields hs (s ∷ ss) all (suc k) d lt = settled_views b fields hs ss (λ j e lt'. all (suc j) e (omega arith)) k d (omega arith)

above_is : (x n : ℕ) → (x < n → ⊥) → once_below x n ≡ 0
above_is x n h = grind (arith, nat_tests)

none_known : (d x : Option ℕ) → d ≡ None → AtMost d x → (k : ℕ) → x ≡ Some k → ⊥
none_known d x e p k is = let q = subst (λ (y : Option ℕ). AtMost y x) e p in let no : None ≡ Some k = sym q ∙ is in cc

-- what a gathered board and the workers of its seats say together
pub record Come (fields : List (List ℕ)) (hs : List Held) (vs : List ScanView) (blocks n r : ℕ) (d : Option ℕ) : Type 0 where
  pub claims : (x : ℕ) → total (λ v. times x v.claims) vs ≡ once_below x n
  pub damage : d ≡ least_of vs
  pub ended : All (λ v. v.ended ≡ true → n ≡ blocks) vs
  pub seen : All (λ v. (v.seen_rows ≤ r) × AtMost d v.seen_damage) vs
  pub settled : All (IsSettled fields hs) vs

module _ (fields : List (List ℕ)) (hs : List Held) (vs : List ScanView) (blocks n r : ℕ) (d : Option ℕ) (c : Come fields hs vs blocks n r d) where
  knows_no_less : (i : ℕ) (v : ScanView) → get_elem? vs i ≡ some v → AtMost d (known v)
  knows_no_less i v at = both_later d d v.least v.seen_damage (subst (λ (x : Option ℕ). AtMost x v.least) (sym c.damage) (least-at vs i v at))
      (elem_of (λ v. (v.seen_rows ≤ r) × AtMost d v.seen_damage) vs i v c.seen at).1

  below_next : (i : ℕ) (v : ScanView) → get_elem? vs i ≡ some v → (x : ℕ) → 0 < times x v.claims → x < n
  below_next i v at x h = let once = c.claims x in let here = total-at (λ (u : ScanView). times x u.claims) vs i v at in
      dite (dec_lt x n) (λ y. y) (λ no. absurd (let none_there = above_is x n no in omega arith))

  drawn_by : (x : ℕ) → x < n → (i : ℕ) × (v : ScanView) × (get_elem? vs i ≡ some v) × (0 < times x v.claims)
  drawn_by x h = some-positive (λ v. times x v.claims) vs (let once = c.claims x in let one = below_is x n h in omega arith)

  good_or_known : (x : ℕ) → x < n → IsGoodAt fields hs x ⊎ ((k : ℕ) × (k ≤ x) × AtMost d (Some k))
  good_or_known x h = let w = drawn_by x h in
      ⊎_elim (λ good. inl good) (λ t. inr (t.0, t.2, subst (AtMost d) t.1 (knows_no_less w.0 w.1 w.2))) ((elem_of (IsSettled fields hs) vs w.0 w.1 c.settled w.2).claims x w.3)

  -- the damage is the first bad block
  pub first_named : (k : ℕ) → d ≡ Some k → (k < n) × IsBadAt fields hs k × ((b : ℕ) → b < k → IsGoodAt fields hs b)
  first_named k e = let l = is_least vs k (sym c.damage ∙ e) in let bad = (elem_of (IsSettled fields hs) vs l.0 l.1 c.settled l.2).bad k l.3 in
      let within = below_next l.0 l.1 l.2 k bad.1 in (
        within,
        bad.0,
        λ b lt. ⊎_elim (λ good. good)
            (λ t. let less = subst (λ (x : Option ℕ). AtMost x (Some t.0)) e t.2 in let is : min k t.0 ≡ k = cc in let at_most = t.1 in absurd (omega arith))
            (good_or_known b (omega arith)),
      )

  -- with no damage each worker was told that no block is left
  all_ended : d ≡ None → (i : ℕ) (v : ScanView) → get_elem? vs i ≡ some v → v.ended ≡ true
  all_ended e i v at = ⊎_elim (λ done. done) (λ t. absurd (none_known d (known v) e (knows_no_less i v at) t.0 t.1)) (elem_of (IsSettled fields hs) vs i v c.settled at).stopped

  -- and all blocks were drawn
  whole_is : d ≡ None → 0 < length vs → n ≡ blocks
  whole_is e some_views = first_ended vs some_views c.ended (all_ended e)
    where
      first_ended : (us : List ScanView) → 0 < length us → All (λ v. v.ended ≡ true → n ≡ blocks) us → ((i : ℕ) (v : ScanView) → get_elem? us i ≡ some v → v.ended ≡ true) → n ≡ blocks
      first_ended [] h ended facts = absurd (omega arith)
      first_ended (u ∷ us) h ended facts = ended 0 u (omega arith) (facts 0 u refl)

  -- and are good
  pub each_good : d ≡ None → 0 < length vs → (b : ℕ) → b < blocks → IsGoodAt fields hs b
  each_good e some_views b lt = ⊎_elim (λ good. good) (λ t. absurd (none_known d (Some t.0) e t.2 t.0 refl)) (good_or_known b (let whole = whole_is e some_views in omega arith))

taken_times : (ss : List BoardSeat) (x : ℕ) → ((i : ℕ) (v : ScanView) → get_elem? (views_of ss) i ≡ some v → v.ended ≡ true) → times x (taken ss) ≡ total (λ v. times x v.claims) (views_of ss)
taken_times [] x ended = refl
taken_times (s ∷ ss) x ended =
    let all : ended_claims s ≡ (view_of s).claims = ap (λ (t : Bool). if t then (view_of s).claims else []) (ended 0 (view_of s) refl) in
    let own = ap (λ (l : List ℕ). times x l) all in
    let parts = times-append x (ended_claims s) (taken ss) in
    let rest = taken_times ss x (λ i v at. ended (suc i) v at) in
    omega arith

module _ (b : Board) (fields : List (List ℕ)) (hs : List Held) (ss : List BoardSeat) (blocks n r : ℕ) (d : Option ℕ) (settled : All (λ s. BelongsTo b s × IsSettled fields hs (view_of s)) ss)
    (claims : (x : ℕ) → total (λ v. times x v.claims) (views_of ss) ≡ once_below x n) (damage : d ≡ least_of (views_of ss)) (ended : All (λ v. v.ended ≡ true → n ≡ blocks) (views_of ss))
    (seen : All (λ v. (v.seen_rows ≤ r) × AtMost d v.seen_damage) (views_of ss)) where
  pub come : Come fields hs (views_of ss) blocks n r d
  come = record {
    claims = claims;
    damage = damage;
    ended = ended;
    seen = seen;
    settled = settled_views b fields hs ss settled;
  }

  -- with no damage, the claims of the seats that have ended are all blocks, each once
  pub each_once : d ≡ None → 0 < length (views_of ss) → (x : ℕ) → times x (taken ss) ≡ once_below x blocks
  each_once e some_views x = taken_times ss x (all_ended fields hs (views_of ss) blocks n r d come e) ∙ claims x ∙ ap (λ (m : ℕ). once_below x m) (whole_is fields hs (views_of ss) blocks n r d come e some_views)

pub count_views : (ss : List BoardSeat) → 0 < length ss → 0 < length (views_of ss)
count_views [] h = absurd (omega arith)
count_views (s ∷ ss) h = omega arith

-- a seat more
pub taken_ended : (ss ts : List BoardSeat) (s : BoardSeat) → ts ≡ ss ++ s ∷ [] → true ≡ (view_of s).ended → taken ts ≡ taken ss ++ (view_of s).claims
taken_ended ss ts s is ended =
    let all : ended_claims s ++ [] ≡ (view_of s).claims = ap (λ (t : Bool). (if t then (view_of s).claims else []) ++ []) (sym ended) ∙ append-nil (view_of s).claims in
    ap (λ (l : List BoardSeat). taken l) is ∙ flat_map-append ended_claims ss (s ∷ []) ∙ ap (λ (l : List ℕ). taken ss ++ l) all

pub taken_going : (ss ts : List BoardSeat) (s : BoardSeat) → ts ≡ ss ++ s ∷ [] → (view_of s).ended ≡ false → taken ts ≡ taken ss
taken_going ss ts s is going =
    let none : ended_claims s ++ [] ≡ [] = ap (λ (t : Bool). (if t then (view_of s).claims else []) ++ []) going in
    ap (λ (l : List BoardSeat). taken l) is ∙ flat_map-append ended_claims ss (s ∷ []) ∙ ap (λ (l : List ℕ). taken ss ++ l) none ∙ append-nil (taken ss)
