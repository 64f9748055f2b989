-- A pattern matches where its pieces do, each at the first place that it can take.
use Rattle.std.proofs.Common.{◌≡◌, ℕ, Bool, true, false, List, [], ◌∷◌, ◌++◌, refl, ap, sym, ◌∙◌, cond, Option, None, Some}
use Rattle.std.specs.Prelude.{◌||◌, ◌&&◌, ◌==◌}
use Rattle.std.proofs.lemmas.List.{append_assoc}
use Rattle.eval_meaning.specs.Matching.{likes, some_suffix, first_and_rest}
use Rattle.lane_text.specs.Pieces.{put_first, pieces, after_piece, or_else, after_first, passes, floating, anchored}

-- u ends with v
record EndsWith (u v : List ℕ) : Type 0 where
  before : List ℕ
  is : u ≡ before ++ v

held : (b : Bool) (o : Option (List ℕ)) (u : List ℕ) → cond b o None ≡ Some u → o ≡ Some u
held true o u h = h
held false o u h = cc

-- a later place at which a piece stands leaves less
later_leaves : (piece xs ys u v : List ℕ) → after_piece piece (xs ++ ys) ≡ Some u → after_piece piece ys ≡ Some v → EndsWith u v
unfolding after_piece
later_leaves [] xs ys u v g h = record { before = xs; is = cc }
later_leaves (sign ∷ piece) [] ys u v g h = record { before = []; is = cc }
later_leaves (sign ∷ piece) (c ∷ xs) [] u v g h = cc
later_leaves (sign ∷ piece) (c ∷ xs) (d ∷ ys) u v g h =
    later_leaves piece (xs ++ d ∷ []) ys u v
    (ap (after_piece piece) (append_assoc xs (d ∷ []) ys) ∙ held (sign == 95 || sign == c) (after_piece piece (xs ++ d ∷ ys)) u g)
    (held (sign == 95 || sign == d) (after_piece piece ys) v h)

-- the piece stands at a place of the text, and v follows
record Stands (piece text v : List ℕ) : Type 0 where
  before : List ℕ
  suffix : List ℕ
  is : text ≡ before ++ suffix
  leaves : after_piece piece suffix ≡ Some v

first_by : (o : Option (List ℕ)) (piece : List ℕ) (c : ℕ) (text v : List ℕ) → after_piece piece (c ∷ text) ≡ o
    → (after_first piece text ≡ Some v → Stands piece text v) → or_else o (after_first piece text) ≡ Some v → Stands piece (c ∷ text) v
first_by None piece c text v e later h =
    let found = later h in
    record { before = c ∷ found.before; suffix = found.suffix; is = ap (λ l. c ∷ l) found.is; leaves = found.leaves }
first_by (Some u) piece c text v e later h = record { before = []; suffix = c ∷ text; is = refl; leaves = e ∙ h }

first_found : (piece text v : List ℕ) → after_first piece text ≡ Some v → Stands piece text v
unfolding after_first
first_found piece [] v h = record { before = []; suffix = []; is = refl; leaves = h }
first_found piece (c ∷ text) v h = first_by (after_piece piece (c ∷ text)) piece c text v refl (first_found piece text v) h

-- what passes also passes with a character before it
abbrev Grows : (List ℕ → Bool) → Type 0
Grows test = (c : ℕ) (text : List ℕ) → test text ≡ true → test (c ∷ text) ≡ true

grows_over : (test : List ℕ → Bool) → Grows test → (before text : List ℕ) → test text ≡ true → test (before ++ text) ≡ true
grows_over test grows [] text h = h
grows_over test grows (c ∷ before) text h = grows c (before ++ text) (grows_over test grows before text h)

right_of : (a b : Bool) → b ≡ true → (a || b) ≡ true
right_of true b h = refl
right_of false b h = h

absorbs : (a b : Bool) → (b ≡ true → a ≡ true) → (a || b) ≡ a
absorbs true b h = refl
absorbs false true h = sym (h refl)
absorbs false false h = refl

suffix_same : (f g : List ℕ → Bool) → ((text : List ℕ) → f text ≡ g text) → (text : List ℕ) → some_suffix f text ≡ some_suffix g text
suffix_same f g same [] = same []
suffix_same f g same (c ∷ text) = ap (λ b. b || some_suffix f text) (same (c ∷ text)) ∙ ap (λ b. g (c ∷ text) || b) (suffix_same f g same text)

no_suffix : (text : List ℕ) → some_suffix (λ s. false) text ≡ false
no_suffix [] = refl
no_suffix (c ∷ text) = no_suffix text

-- where the first place leaves u, and a later one passes, u passes
first_serves : (test : List ℕ → Bool) → Grows test → (piece : List ℕ) (c : ℕ) (text u : List ℕ) → after_piece piece (c ∷ text) ≡ Some u
    → (o : Option (List ℕ)) → after_first piece text ≡ o → passes test o ≡ true → test u ≡ true
first_serves test grows piece c text u e None f h = cc
first_serves test grows piece c text u e (Some v) f h =
    let found = first_found piece text v f in
    let whole : after_piece piece ((c ∷ found.before) ++ found.suffix) ≡ Some u = ap (λ l. after_piece piece (c ∷ l)) (sym found.is) ∙ e in
    let less = later_leaves piece (c ∷ found.before) found.suffix u v whole found.leaves in
    ap test less.is ∙ grows_over test grows less.before v h

first_decides : (test : List ℕ → Bool) → Grows test → (piece : List ℕ) (c : ℕ) (text : List ℕ) (o : Option (List ℕ)) → after_piece piece (c ∷ text) ≡ o
    → (passes test o || passes test (after_first piece text)) ≡ passes test (or_else o (after_first piece text))
first_decides test grows piece c text None e = refl
first_decides test grows piece c text (Some u) e =
    absorbs (test u) (passes test (after_first piece text)) (first_serves test grows piece c text u e (after_first piece text) refl)

found_first : (test : List ℕ → Bool) → Grows test → (piece text : List ℕ) → some_suffix (λ s. passes test (after_piece piece s)) text ≡ passes test (after_first piece text)
unfolding after_first
found_first test grows piece [] = refl
found_first test grows piece (c ∷ text) =
    ap (λ b. passes test (after_piece piece (c ∷ text)) || b) (found_first test grows piece text)
    ∙ first_decides test grows piece c text (after_piece piece (c ∷ text)) refl

floating_is : (ps : List (List ℕ)) (text : List ℕ) → floating ps text ≡ some_suffix (anchored ps) text
unfolding floating anchored
floating_is [] text = sym (no_suffix text)
floating_is (piece ∷ []) text = refl
floating_is (piece ∷ (next ∷ later)) text =
    sym (found_first (floating (next ∷ later))
    (λ c rest h. floating_is (next ∷ later) (c ∷ rest) ∙ right_of (anchored (next ∷ later) (c ∷ rest)) (some_suffix (anchored (next ∷ later)) rest) (sym (floating_is (next ∷ later) rest) ∙ h))
    piece text)

-- there is a first piece
pub record IsSome (ps : List (List ℕ)) : Type 0 where
  pub piece : List ℕ
  pub later : List (List ℕ)
  pub is : ps ≡ piece ∷ later

put_some : (sign : ℕ) (ps : List (List ℕ)) → IsSome (put_first sign ps)
put_some sign [] = record { piece = sign ∷ []; later = []; is = refl }
put_some sign (p ∷ ps) = record { piece = sign ∷ p; later = ps; is = refl }

some_by : (b : Bool) (sign : ℕ) (pattern : List ℕ) → IsSome (cond b ([] ∷ pieces pattern) (put_first sign (pieces pattern)))
some_by true sign pattern = record { piece = []; later = pieces pattern; is = refl }
some_by false sign pattern = put_some sign (pieces pattern)

pub pieces_some : (pattern : List ℕ) → IsSome (pieces pattern)
unfolding pieces
pieces_some [] = record { piece = []; later = []; is = refl }
pieces_some (sign ∷ pattern) = some_by (sign == 37) sign pattern

-- a `%` first
run_first : (ps : List (List ℕ)) → IsSome ps → (text : List ℕ) → some_suffix (anchored ps) text ≡ anchored ([] ∷ ps) text
unfolding anchored after_piece
run_first [] some text = absurd (let e = some.is in cc)
run_first (next ∷ later) some text = sym (floating_is (next ∷ later) text)

one_by : (b : Bool) (piece : List ℕ) (later : List (List ℕ)) (text : List ℕ) (test : Bool) → test ≡ anchored (piece ∷ later) text → (sign c : ℕ) → (sign == 95 || sign == c) ≡ b
    → (b && test) ≡ anchored ((sign ∷ piece) ∷ later) (c ∷ text)
unfolding anchored after_piece
one_by true piece [] text test h sign c e = rw e h
one_by true piece (next ∷ later) text test h sign c e = rw e h
one_by false piece [] text test h sign c e = rw e refl
one_by false piece (next ∷ later) text test h sign c e = rw e refl

-- another sign first
one_first : (sign : ℕ) (ps : List (List ℕ)) → IsSome ps → (rest : List ℕ → Bool) → ((text : List ℕ) → rest text ≡ anchored ps text) → (text : List ℕ)
    → first_and_rest (λ c. sign == 95 || sign == c) rest text ≡ anchored (put_first sign ps) text
unfolding anchored after_piece
one_first sign [] some rest same text = absurd (let e = some.is in cc)
one_first sign (piece ∷ []) some rest same [] = refl
one_first sign (piece ∷ (next ∷ later)) some rest same [] = refl
one_first sign (piece ∷ later) some rest same (c ∷ text) = one_by (sign == 95 || sign == c) piece later text (rest text) (same text) sign c refl

greedy_by : (b : Bool) (sign : ℕ) (pattern text : List ℕ) → ((cs : List ℕ) → likes pattern cs ≡ anchored (pieces pattern) cs)
    → (cond b (some_suffix (likes pattern)) (first_and_rest (λ c. sign == 95 || sign == c) (likes pattern))) text
    ≡ anchored (cond b ([] ∷ pieces pattern) (put_first sign (pieces pattern))) text
greedy_by true sign pattern text same = suffix_same (likes pattern) (anchored (pieces pattern)) same text ∙ run_first (pieces pattern) (pieces_some pattern) text
greedy_by false sign pattern text same = one_first sign (pieces pattern) (pieces_some pattern) (likes pattern) same text

pub greedy : (pattern text : List ℕ) → likes pattern text ≡ anchored (pieces pattern) text
unfolding likes pieces anchored after_piece
greedy [] text = refl
greedy (sign ∷ pattern) text = greedy_by (sign == 37) sign pattern text (greedy pattern)
