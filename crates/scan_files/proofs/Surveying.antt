-- Indexes that are read one after the other.
use Rattle.std.proofs.Common.{◌≡◌, ℕ, zero, suc, ◌+◌, ◌*◌, ◌<◌, ◌≤◌, Bool, true, false, cond, not, List, [], ◌∷◌, ◌++◌, length, take, drop, get_or, map, min, filter, Option, Some, None, refl, sym, ap, ◌∙◌, subst, arith, add-one, zero-add, append_assoc, length-append}
use Rattle.std.specs.Prelude.{slice_get, All, count_by, sum_by, unwrap_or, IsSomeAnd}
use Rattle.std.proofs.lemmas.List.{append-nil, take_all, length-take, length-map, map-append, drop_more, drop_all}
use Rattle.std.proofs.lemmas.List.Sums.{sum_by-cons, sum_by-append, sum_by-take-le, sum_by_more}
use Rattle.file_meaning.specs.Files.{Entry, IsFile, StandEndToEnd}
use Rattle.range_meaning.specs.declared.Bounds.{Bounds}
use Rattle.scan_meaning.specs.Blocks.{Place, places_from}
use Rattle.scan_meaning.specs.Wanted.{are_apart}

-- entries that are gone through one after the other: what is there and what is to come is what is wanted
pub record Adding (limits : Bounds) (file : ℕ) (es : List Entry) (i : ℕ) (old now : List Place) (left_out : ℕ) : Type 0 where
  pub added : now ++ filter (λ p. not (are_apart p.entry limits)) (places_from file i (drop i es)) ≡ old ++ filter (λ p. not (are_apart p.entry limits)) (places_from file 0 es)
  pub skips : left_out + count_by (λ p. not (not (are_apart p.entry limits))) (places_from file i (drop i es)) ≡ count_by (λ p. not (not (are_apart p.entry limits))) (places_from file 0 es)

pub nothing_yet : (limits : Bounds) (file : ℕ) (es : List Entry) (old : List Place) → Adding limits file es 0 old old 0
nothing_yet limits file es old = record { added = refl; skips = omega arith }

one : (limits : Bounds) (file : ℕ) (es : List Entry) (i : ℕ) (e : Entry) → i < length es → e ≡ get_or es i e → places_from file i (drop i es) ≡ record { file = file; block = i; entry = e } ∷ places_from file (i + 1) (drop (i + 1) es)
one limits file es i e lt is =
    ap (λ (l : List Entry). places_from file i l) (drop_more es i e lt ∙ ap (λ (x : Entry). x ∷ drop (i + 1) es) (sym is)) ∙ ap (λ (n : ℕ). record { file = file; block = i; entry = e } ∷ places_from file n (drop (i + 1) es)) (sym (add-one i))

pub add_wanted : (limits : Bounds) (file : ℕ) (es : List Entry) (i : ℕ) (e : Entry) (old now : List Place) (left_out : ℕ) → i < length es → e ≡ get_or es i e → Adding limits file es i old now left_out → not (are_apart e limits) ≡ true → Adding limits file es (i + 1) old (now ++ record { file = file; block = i; entry = e } ∷ []) left_out
add_wanted limits file es i e old now left_out lt is so_far takes_it =
    let p : Place = record { file = file; block = i; entry = e } in
    let rest = places_from file (i + 1) (drop (i + 1) es) in
    let e1 = one limits file es i e lt is in
    let f : filter (λ p. not (are_apart p.entry limits)) (p ∷ rest) ≡ p ∷ filter (λ p. not (are_apart p.entry limits)) rest = ap (λ (b : Bool). cond b (p ∷ filter (λ p. not (are_apart p.entry limits)) rest) (filter (λ p. not (are_apart p.entry limits)) rest)) takes_it in
    let n : ℕ = count_by (λ p. not (not (are_apart p.entry limits))) rest in
    let c : count_by (λ p. not (not (are_apart p.entry limits))) (places_from file i (drop i es)) ≡ n = ap (λ (l : List Place). count_by (λ p. not (not (are_apart p.entry limits))) l) e1 ∙ sum_by-cons (λ (x : Place). cond (not (not (are_apart x.entry limits))) 1 0) p rest ∙ ap (λ (b : Bool). cond (not b) 1 0 + n) takes_it ∙ zero-add n in
    let before = so_far.skips in
    record {
      added = append_assoc now (p ∷ []) (filter (λ p. not (are_apart p.entry limits)) rest) ∙ ap (λ (l : List Place). now ++ l) (sym f) ∙ ap (λ (l : List Place). now ++ filter (λ p. not (are_apart p.entry limits)) l) (sym e1) ∙ so_far.added;
      skips = omega arith;
    }

pub skip_one : (limits : Bounds) (file : ℕ) (es : List Entry) (i : ℕ) (e : Entry) (old now : List Place) (left_out : ℕ) → i < length es → e ≡ get_or es i e → Adding limits file es i old now left_out → not (are_apart e limits) ≡ false → Adding limits file es (i + 1) old now (left_out + 1)
skip_one limits file es i e old now left_out lt is so_far leaves_it =
    let p : Place = record { file = file; block = i; entry = e } in
    let rest = places_from file (i + 1) (drop (i + 1) es) in
    let e1 = one limits file es i e lt is in
    let f : filter (λ p. not (are_apart p.entry limits)) (p ∷ rest) ≡ filter (λ p. not (are_apart p.entry limits)) rest = ap (λ (b : Bool). cond b (p ∷ filter (λ p. not (are_apart p.entry limits)) rest) (filter (λ p. not (are_apart p.entry limits)) rest)) leaves_it in
    let n : ℕ = count_by (λ p. not (not (are_apart p.entry limits))) rest in
    let c : count_by (λ p. not (not (are_apart p.entry limits))) (places_from file i (drop i es)) ≡ 1 + n = ap (λ (l : List Place). count_by (λ p. not (not (are_apart p.entry limits))) l) e1 ∙ sum_by-cons (λ (x : Place). cond (not (not (are_apart x.entry limits))) 1 0) p rest ∙ ap (λ (b : Bool). cond (not b) 1 0 + n) leaves_it in
    let before = so_far.skips in
    record {
      added = ap (λ (l : List Place). now ++ l) (sym f) ∙ ap (λ (l : List Place). now ++ filter (λ p. not (are_apart p.entry limits)) l) (sym e1) ∙ so_far.added;
      skips = omega arith;
    }

no_more : (file i : ℕ) (es : List Entry) → length es ≤ i → places_from file i (drop i es) ≡ []
no_more file zero [] le = refl
no_more file (suc i) [] le = refl
no_more file zero (e ∷ es) le = absurd (omega arith)
no_more file (suc i) (e ∷ es) le = ap (λ (l : List Entry). places_from file (suc i) l) (drop_all i es (omega arith))

pub added_all : (limits : Bounds) (file : ℕ) (es : List Entry) (i : ℕ) (old now : List Place) (left_out : ℕ) → length es ≤ i → Adding limits file es i old now left_out → now ≡ old ++ filter (λ p. not (are_apart p.entry limits)) (places_from file 0 es)
added_all limits file es i old now left_out le so_far =
    sym (append-nil now) ∙ ap (λ (l : List Place). now ++ filter (λ p. not (are_apart p.entry limits)) l) (sym (no_more file i es le)) ∙ so_far.added

pub skipped_all : (limits : Bounds) (file : ℕ) (es : List Entry) (i : ℕ) (old now : List Place) (left_out : ℕ) → length es ≤ i → Adding limits file es i old now left_out → left_out ≡ count_by (λ p. not (not (are_apart p.entry limits))) (places_from file 0 es)
skipped_all limits file es i old now left_out le so_far =
    let none : count_by (λ p. not (not (are_apart p.entry limits))) (places_from file i (drop i es)) ≡ 0 = ap (λ (l : List Place). count_by (λ p. not (not (are_apart p.entry limits))) l) (no_more file i es le) in
    let before = so_far.skips in
    omega arith
