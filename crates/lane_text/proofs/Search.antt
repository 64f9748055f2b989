-- The first place at which a search finds the bytes of a piece is the first at which its characters stand.
use Rattle.std.proofs.Common.{◌≡◌, ℕ, zero, suc, ◌+◌, ◌-◌, ◌<◌, ◌≤◌, true, false, List, [], ◌∷◌, ◌++◌, inl, inr, ⊎_elim, Option, None, Some, refl, ap, sym, subst, ◌∙◌, arith, length, drop, get_or}
use Rattle.std.specs.Str.{IsUtf8, chars, all_scalars as scalars, encode_utf8_all as encodes}
use Rattle.std.specs.Char.{encode_utf8 as encode}
use Rattle.std.proofs.str.Laws as laws
use Rattle.std.proofs.Math.Utf8.{scalar}
use Rattle.std.proofs.lemmas.List.{drop_at, length-append, get_or_append_left, get_or-append-add}
use Rattle.std.proofs.lemmas.Str.{encodes-chars, scalars-chars, chars-encodes}
use Rattle.std.specs.Prelude.{nat_eq}
use Rattle.std.specs.List.{starts_with}
use Rattle.std.proofs.lemmas.Bool.Decides.{Decides-eqb}
use Rattle.std.proofs.lemmas.Slice.Eq.{starts_is}
use Rattle.memchr.specs.Find.{OccursAt}
use Rattle.lane_text.specs.Pieces.{after_piece, after_first}
use Rattle.lane_text.specs.Bytewise.{IsRest, IsPlain}
use Rattle.lane_text.proofs.Leads.{Lead, lead, Follow, IsLead}
use Rattle.lane_text.proofs.BytesAsChars.{Begins}
use Rattle.lane_text.proofs.CharSteps.{first_here, first_later, first_end, rest_from}
use Rattle.lane_text.proofs.Plain.{plain_here, plain_begins}

-- bytes that stand at the beginning
pub occurs_begins : (text piece : List ℕ) → OccursAt text piece 0 → Begins piece text
occurs_begins text [] o = record { rest = text; is = refl }
occurs_begins [] (x ∷ piece) o = absurd (let f = o.fits in omega arith)
occurs_begins (y ∷ text) (x ∷ piece) o =
    let fits = o.fits in
    let later : OccursAt text piece 0 = record {
      fits = omega arith;
      reads = λ j l. let r = o.reads (suc j) (omega arith) in let e : 0 + suc j ≡ suc (0 + j) = omega arith in ap (λ k. get_or (y ∷ text) k 0) (sym e) ∙ r;
    } in
    let found = occurs_begins text piece later in
    record { rest = found.rest; is = ap (λ l. y ∷ l) found.is ∙ ap (λ z. z ∷ (piece ++ found.rest)) (o.reads 0 (omega arith)) }

pub begins_occurs : (text piece rest : List ℕ) → text ≡ piece ++ rest → OccursAt text piece 0
begins_occurs text piece rest e = record {
  fits = omega (arith, ap length e, length-append piece rest);
  reads = λ j l. let z : 0 + j ≡ j = omega arith in ap (λ k. get_or text k 0) z ∙ ap (λ t. get_or t j 0) e ∙ get_or_append_left piece rest 0 j l;
}

-- bytes that follow are no first bytes
follow_at : (xs : List ℕ) (i : ℕ) → Follow xs → i < length xs → (128 ≤ get_or xs i 0) × (get_or xs i 0 < 192)
follow_at [] i f l = absurd (omega arith)
follow_at (x ∷ xs) zero f l = (f.0, f.1)
follow_at (x ∷ xs) (suc i) f l = follow_at xs i f.2 (omega arith)

pub within_char : (c : ℕ) (text : List ℕ) (k : ℕ) → Lead c → suc k < length (encode c) → (128 ≤ get_or (encode c ++ text) (suc k) 0) × (get_or (encode c ++ text) (suc k) 0 < 192)
within_char c text k l h =
    let at : get_or (encode c ++ text) (suc k) 0 ≡ get_or l.others k 0 = get_or_append_left (encode c) text 0 (suc k) h ∙ ap (λ x. get_or x (suc k) 0) l.is in
    let range = follow_at l.others k l.follow (omega (arith, ap length l.is)) in
    (omega (arith, range.0), omega (arith, range.1))

pub first_lead : (piece : List ℕ) (cs : List ℕ) → scalars cs ≡ true → encodes cs ≡ piece → 0 < length piece → IsLead (get_or piece 0 0)
first_lead piece [] s e l = absurd (omega (arith, ap length e))
first_lead piece (c ∷ cs) s e l =
    let parts = laws.both (scalar c) (scalars cs) s in
    let form = lead c parts.0 in
    subst IsLead (ap (λ x. get_or (x ++ encodes cs) 0 0) (sym form.is) ∙ ap (λ x. get_or x 0 0) e) form.leads

pub not_within : (b : ℕ) → IsLead b → 128 ≤ b → b < 192 → ⊥
not_within b (inl h) l m = omega arith
not_within b (inr h) l m = omega arith

-- a place after a character
later_occurs : (c : ℕ) (cs piece : List ℕ) (k : ℕ) → OccursAt (encodes cs) piece k → OccursAt (encodes (c ∷ cs)) piece (length (encode c) + k)
later_occurs c cs piece k o = record {
  fits = let f = o.fits in omega (arith, length-append (encode c) (encodes cs));
  reads = λ j l.
      let e : (length (encode c) + k) + j ≡ length (encode c) + (k + j) = omega arith in
      ap (λ i. get_or (encode c ++ encodes cs) i 0) e ∙ get_or-append-add (encode c) (encodes cs) (k + j) 0 ∙ o.reads j l;
}

earlier_occurs : (c : ℕ) (cs piece : List ℕ) (k n : ℕ) → n ≡ length (encode c) + k → OccursAt (encodes (c ∷ cs)) piece n → OccursAt (encodes cs) piece k
earlier_occurs c cs piece k n f o = record {
  fits = let g = o.fits in omega (arith, length-append (encode c) (encodes cs));
  reads = λ j l.
      let e : length (encode c) + (k + j) ≡ n + j = omega arith in
      sym (get_or-append-add (encode c) (encodes cs) (k + j) 0) ∙ ap (λ i. get_or (encode c ++ encodes cs) i 0) e ∙ o.reads j l;
}

module _ (piece : List ℕ) (utf8 : IsUtf8 piece) (plain : IsPlain piece) where
  text_is : (cs : List ℕ) → scalars cs ≡ true → IsUtf8 (encodes cs)
  text_is cs s = (cs, (s, refl))

  -- bytes that don't stand at the beginning are no piece that does
  none_here : (cs : List ℕ) → scalars cs ≡ true → (OccursAt (encodes cs) piece 0 → ⊥) → (o : Option (List ℕ)) → after_piece (chars piece) cs ≡ o → o ≡ None
  none_here cs s never None e = refl
  none_here cs s never (Some u) e =
      let found = plain_begins piece (encodes cs) u utf8 (text_is cs s) plain (ap (after_piece (chars piece)) (chars-encodes cs s) ∙ e) in
      absurd (never (begins_occurs (encodes cs) piece found.rest found.is))

  pub search_none : (cs : List ℕ) → scalars cs ≡ true → ((k : ℕ) → OccursAt (encodes cs) piece k → ⊥) → after_first (chars piece) cs ≡ None
  search_none [] s never = first_end (chars piece) [] refl ∙ none_here [] s (never 0) (after_piece (chars piece) []) refl
  search_none (c ∷ cs) s never =
      first_later (chars piece) (c ∷ cs) cs c refl (none_here (c ∷ cs) s (never 0) (after_piece (chars piece) (c ∷ cs)) refl)
      ∙ search_none cs (laws.both (scalar c) (scalars cs) s).1 (λ k o. never (length (encode c) + k) (later_occurs c cs piece k o))

  -- a first place that isn't the beginning lies after the first character
  past_char : (c : ℕ) (cs : List ℕ) (k : ℕ) → scalars (c ∷ cs) ≡ true → OccursAt (encodes (c ∷ cs)) piece (suc k)
      → (OccursAt (encodes (c ∷ cs)) piece 0 → ⊥) → length (encode c) ≤ suc k
  past_char c cs k s o never = ⊎_elim
      (λ h.
      let form = lead c (laws.both (scalar c) (scalars cs) s).0 in
      let range = within_char c (encodes cs) k form h in
      ⊎_elim
      (λ l.
      let e : suc k + 0 ≡ suc k = omega arith in
      let same : get_or (encodes (c ∷ cs)) (suc k) 0 ≡ get_or piece 0 0 = ap (λ i. get_or (encodes (c ∷ cs)) i 0) (sym e) ∙ o.reads 0 l in
      absurd (not_within (get_or piece 0 0) (first_lead piece (chars piece) (scalars-chars piece utf8) (encodes-chars piece utf8) l) (omega (arith, range.0)) (omega (arith, range.1))))
      (λ l. absurd (never (record { fits = omega arith; reads = λ j m. absurd (omega arith) })))
      (laws.order 0 (length piece)))
      (λ h. h)
      (laws.order (suc k) (length (encode c)))

  pub search_some : (cs : List ℕ) → scalars cs ≡ true → (k : ℕ) → OccursAt (encodes cs) piece k → ((j : ℕ) → j < k → OccursAt (encodes cs) piece j → ⊥)
      → (to : ℕ) → to ≡ k + length piece → IsRest (encodes cs) (after_first (chars piece) cs) (Some to)
  search_some cs s zero o never to e =
      let found = occurs_begins (encodes cs) piece o in
      let here = plain_here piece (encodes cs) found.rest utf8 (text_is cs s) plain found.is in
      let is : length piece ≡ to = omega arith in
      let first = first_here (chars piece) cs _ (ap (after_piece (chars piece)) (sym (chars-encodes cs s)) ∙ here.0) in
      subst (λ n. IsRest (encodes cs) (after_first (chars piece) cs) (Some n)) is (first, here.1, here.2)
  search_some [] s (suc k) o never to e = absurd (let f = o.fits in omega arith)
  search_some (c ∷ cs) s (suc k) o never to e =
      let past = past_char c cs k s o (never 0 (omega arith)) in
      let parts = laws.both (scalar c) (scalars cs) s in
      let left : suc k ≡ length (encode c) + (suc k - length (encode c)) = omega arith in
      let rest = search_some cs parts.1 (suc k - length (encode c)) (earlier_occurs c cs piece (suc k - length (encode c)) (suc k) left o)
      (λ j l p. never (length (encode c) + j) (omega arith) (later_occurs c cs piece j p)) ((suc k - length (encode c)) + length piece) refl in
      let same = first_later (chars piece) (c ∷ cs) cs c refl (none_here (c ∷ cs) s (never 0 (omega arith)) (after_piece (chars piece) (c ∷ cs)) refl) in
      let tail : drop (length (encode c)) (encodes (c ∷ cs)) ≡ encodes cs = drop_at (encode c) (encodes cs) (length (encode c)) refl in
      rest_from (encodes (c ∷ cs)) (after_first (chars piece) (c ∷ cs)) (length (encode c)) ((suc k - length (encode c)) + length piece) to
      (omega (arith, length-append (encode c) (encodes cs))) (omega arith)
      (subst (λ t. IsRest t (after_first (chars piece) (c ∷ cs)) (Some ((suc k - length (encode c)) + length piece))) (sym tail)
      (subst (λ o. IsRest (encodes cs) o (Some ((suc k - length (encode c)) + length piece))) (sym same) rest))

  -- the answer of a search
  pub found_none : (text : List ℕ) → IsUtf8 text → ((k : ℕ) → 0 ≤ k → k < length text + 1 → OccursAt text piece k → ⊥) → after_first (chars piece) (chars text) ≡ None
  found_none text t never =
      search_none (chars text) (scalars-chars text t) (λ k o.
      let p : OccursAt text piece k = subst (λ x. OccursAt x piece k) (encodes-chars text t) o in
      never k (omega arith) (let f = p.fits in omega arith) p)

  pub found_some : (text : List ℕ) → IsUtf8 text → (k : ℕ) → OccursAt text piece k → ((j : ℕ) → 0 ≤ j → j < k → OccursAt text piece j → ⊥)
      → IsRest text (after_first (chars piece) (chars text)) (Some (k + length piece))
  found_some text t k o never =
      subst (λ x. IsRest x (after_first (chars piece) (chars text)) (Some (k + length piece))) (encodes-chars text t)
      (search_some (chars text) (scalars-chars text t) k (subst (λ x. OccursAt x piece k) (sym (encodes-chars text t)) o)
      (λ j l p. never j (omega arith) l (subst (λ x. OccursAt x piece j) (encodes-chars text t) p)) (k + length piece) refl)

-- whether the text begins with the bytes of the piece decides whether it begins with its characters
pub starts_yes : (piece text : List ℕ) → IsUtf8 piece → IsUtf8 text → IsPlain piece → starts_with nat_eq text piece ≡ true
    → IsRest text (after_piece (chars piece) (chars text)) (Some (length piece))
starts_yes piece text p t plain h =
    let said = starts_is Decides-eqb text piece (starts_with nat_eq text piece) refl in
    plain_here piece text _ p t plain (said.0 h)

longer : (text piece rest : List ℕ) → text ≡ piece ++ rest → length piece ≤ length text
longer text piece rest e = omega (arith, length-append piece rest, ap length e)

pub starts_within : (piece text : List ℕ) → starts_with nat_eq text piece ≡ true → length piece ≤ length text
starts_within piece text h =
    let said = starts_is Decides-eqb text piece (starts_with nat_eq text piece) refl in
    longer text piece _ (said.0 h)

starts_never : (piece text : List ℕ) → IsUtf8 piece → IsUtf8 text → IsPlain piece → starts_with nat_eq text piece ≡ false
    → (o : Option (List ℕ)) → after_piece (chars piece) (chars text) ≡ o → o ≡ None
starts_never piece text p t plain h None e = refl
starts_never piece text p t plain h (Some u) e =
    let said = starts_is Decides-eqb text piece (starts_with nat_eq text piece) refl in
    let found = plain_begins piece text u p t plain e in
    let w : true ≡ false = sym (said.1 found.rest found.is) ∙ h in absurd (cc)

pub starts_not : (piece text : List ℕ) → IsUtf8 piece → IsUtf8 text → IsPlain piece → starts_with nat_eq text piece ≡ false → after_piece (chars piece) (chars text) ≡ None
starts_not piece text p t plain h = starts_never piece text p t plain h (after_piece (chars piece) (chars text)) refl
