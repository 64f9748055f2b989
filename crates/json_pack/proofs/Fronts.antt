-- A file that is made, and what is added to it.
use Rattle.std.proofs.Common.{◌≡◌, ℕ, List, [], ◌++◌, length, take, Option, Some, None, Ok, Err, Result, refl, sym, ap, subst, ◌∙◌, arith, append-nil, Bool, true, false, bytes_eq, ◌∷◌, ◌==◌, min, zero, suc, append_assoc}
use Rattle.std.proofs.Math.Path.{fun_ext}
use Rattle.std.specs.Prelude.{OnOk, IsSome}
use Rattle.std.specs.Option.{ForSome, option_map}
use Rattle.std.proofs.lemmas.List.{take_all}
use Rattle.std.proofs.lemmas.Map.Text.{text_keys}
use Rattle.std.proofs.lemmas.Slice.Eq.{bytes_eq-Decides}
use Rattle.write_meaning.proofs.Paying.{itself}
use Rattle.snel_device.specs.Contents.{Contents, with_file, with_piece, Sets, Extends}
use Rattle.pack_meaning.specs.Lines.{Settings}
use Rattle.pack_meaning.specs.Packing.{Sum, packed, sum_of}
use Rattle.pack_meaning.specs.Cuts.{cut}
use Rattle.json_pack.specs.declared.packer.PackedRows.{PackedRows}
use Rattle.json_pack.specs.declared.sums.PackSum.{PackSum}
use Rattle.pack_blocks.specs.declared.finishing.Finished.{Finished}
use Rattle.pack_blocks.specs.Writing.{Finishes}
use Rattle.pack_blocks.proofs.Writing.{given_front}
use Rattle.std.proofs.lemmas.Bool.{eqb-true}
use Rattle.json_pack.specs.Packing.{HasRead}
use Rattle.json_pack.specs.Ending.{IsFront, EndsFile, BreaksFile, sum_for, SumsUp}
use Rattle.pack_blocks.specs.declared.writer.BlockWriter.{BlockWriter}
use Rattle.json_pack.specs.Packs.{file_for, sum_view, counted}

grown : (name piece : List ℕ) (f : Contents) → with_piece name piece (with_file name [] f) ≡ with_file name piece f
grown name piece f = fun_ext (λ q. at q (bytes_eq name q) refl)
  where
    at : (q : List ℕ) (b : Bool) → bytes_eq name q ≡ b → with_piece name piece (with_file name [] f) q ≡ with_file name piece f q
    at q true e = rw (e, itself name) refl
    at q false e = rw e refl

there : (name : List ℕ) (f : Contents) → with_file name [] f name ≡ Some []
there name f = grind (arith, text_keys, itself)

-- adding to a file that was just made
pub compose : (old mid new : Option Contents) (name piece : List ℕ) → Sets old mid name [] → Extends mid new name piece → Sets old new name piece
compose None mid new name piece s e = e ∙ ap (option_map (with_piece name piece)) s
compose (Some f) mid new name piece s e = e ∙ ap (option_map (with_piece name piece)) s ∙ ap (λ g. Some g) (grown name piece f)

told_at : Option Contents → List ℕ → Option (List ℕ)
told_at None q = None
told_at (Some h) q = h q

some_is : (o : Option (List ℕ)) → o ≡ Some [] → IsSome o
some_is None e = cc
some_is (Some b) e = refl

pub is_there : (old mid : Option Contents) (name : List ℕ) → Sets old mid name [] → ForSome mid (λ f. IsSome (f name))
unfolding told_at
is_there None mid name s = λ f is. absurd (none_some (sym s ∙ is))
  where
    none_some : {f : Contents} → None ≡ Some f → ⊥
    none_some e = cc
is_there (Some g) mid name s = λ f is. some_is (f name) (sym (ap (λ o. told_at o name) (sym s ∙ is)) ∙ there name g)

-- nothing is added
pub extends_none : (old : Option Contents) (name : List ℕ) → Extends old old name []
extends_none None name = refl
extends_none (Some f) name = ap (λ g. Some g) (fun_ext (λ q. at q (bytes_eq name q) refl))
  where
    kept : (o : Option (List ℕ)) → option_map (λ b. b ++ []) o ≡ o
    kept None = refl
    kept (Some b) = ap (λ c. Some c) (append-nil b)

    at : (q : List ℕ) (b : Bool) → bytes_eq name q ≡ b → f q ≡ with_piece name [] f q
    at q true e =
        let same : name ≡ q = (bytes_eq-Decides name q).0 e in
        rw e (ap f (sym same) ∙ sym (kept (f name)))
    at q false e = rw e refl

pub sets_all : {T E : Type 0} (r : Result T E) (left : Option (List ℕ)) (old mid new : Option Contents) (name : List ℕ) (f : List ℕ → List ℕ) → Sets old mid name []
    → OnOk r (ForSome left (λ b. Extends mid new name (f b))) → OnOk r (ForSome left (λ b. Sets old new name (f b)))
sets_all (Ok v) left old mid new name f s h = λ b is. compose old mid new name (f b) s (h b is)
sets_all (Err e) left old mid new name f s h = h

-- no bytes
pub no_bytes : (xs : List ℕ) (t : Bool) → t ≡ (length xs == 0) → t ≡ true → xs ≡ []
no_bytes [] t e h = refl
no_bytes (x ∷ xs) t e h = let none : length (x ∷ xs) ≡ 0 = eqb-true (length (x ∷ xs)) 0 (sym e ∙ h) in absurd (omega (arith, none))

-- one piece after the other
extended : (name a b : List ℕ) (f : Contents) → with_piece name b (with_piece name a f) ≡ with_piece name (a ++ b) f
extended name a b f = fun_ext (λ q. at q (bytes_eq name q) refl)
  where
    both : (o : Option (List ℕ)) → option_map (λ x. x ++ b) (option_map (λ x. x ++ a) o) ≡ option_map (λ x. x ++ (a ++ b)) o
    both None = refl
    both (Some x) = ap (λ c. Some c) (append_assoc x a b)

    at : (q : List ℕ) (t : Bool) → bytes_eq name q ≡ t → with_piece name b (with_piece name a f) q ≡ with_piece name (a ++ b) f q
    at q true e = rw (e, itself name) (both (f name))
    at q false e = rw e refl

pub extends_more : (old mid new : Option Contents) (name a b : List ℕ) → Extends old mid name a → Extends mid new name b → Extends old new name (a ++ b)
extends_more None mid new name a b e h = h ∙ ap (option_map (with_piece name b)) e
extends_more (Some f) mid new name a b e h = h ∙ ap (option_map (with_piece name b)) e ∙ ap (λ g. Some g) (extended name a b f)

pub extends_same : (old new : Option Contents) (name a b : List ℕ) → a ≡ b → Extends old new name a → Extends old new name b
extends_same old new name a b e h = subst (λ p. Extends old new name p) e h

-- the file is still there
still : (name piece : List ℕ) (f : Contents) → IsSome (f name) → IsSome (with_piece name piece f name)
still name piece f h = rw (itself name) (some (f name) h)
  where
    some : (o : Option (List ℕ)) → IsSome o → IsSome (option_map (λ x. x ++ piece) o)
    some None h = cc
    some (Some x) h = refl

pub still_there : (old new : Option Contents) (name piece : List ℕ) → ForSome old (λ f. IsSome (f name)) → Extends old new name piece → ForSome new (λ f. IsSome (f name))
still_there None new name piece h e = λ f is. absurd (none_some (sym e ∙ is))
  where
    none_some : {f : Contents} → None ≡ Some f → ⊥
    none_some e = cc
still_there (Some g) new name piece h e = λ f is.
    let same : Some (with_piece name piece g) ≡ Some f = sym e ∙ is in
    let found : with_piece name piece g ≡ f = cc in
    subst (λ (k : Contents). IsSome (k name)) found (still name piece g (h g refl))

-- fronts
pub front_of_front : (n : ℕ) (a b : List ℕ) → IsFront (a ++ b) (a ++ b) → IsFront (a ++ take n b) (a ++ b)
front_of_front n [] b h = (n, refl)
front_of_front n (x ∷ a) b h = let r = front_of_front n a b (whole (a ++ b)) in (suc r.0, ap (λ l. x ∷ l) r.1)
  where
    whole : (xs : List ℕ) → IsFront xs xs
    whole xs = (length xs, sym (take_all (length xs) xs (omega arith)))

pub whole_front : (xs : List ℕ) → IsFront xs xs
whole_front xs = (length xs, sym (take_all (length xs) xs (omega arith)))

take_twice : (m n : ℕ) (xs : List ℕ) → take m (take n xs) ≡ take (min m n) xs
take_twice zero n xs = let e : min 0 n ≡ 0 = omega arith in rw e refl
take_twice (suc m) zero xs = let e : min (suc m) 0 ≡ 0 = omega arith in rw e refl
take_twice (suc m) (suc n) [] = let e : min (suc m) (suc n) ≡ suc (min m n) = omega arith in rw e refl
take_twice (suc m) (suc n) (x ∷ xs) = let e : min (suc m) (suc n) ≡ suc (min m n) = omega arith in rw e (ap (λ l. x ∷ l) (take_twice m n xs))

pub front_trans : (a b c : List ℕ) → IsFront a b → IsFront b c → IsFront a c
front_trans a b c f g = (min f.0 g.0, f.1 ∙ ap (take f.0) g.1 ∙ take_twice f.0 g.0 c)

-- what was given away is a front of the file of the lines
pub read_front : (s : Settings) (before : List (List ℕ)) (given : List ℕ) (r : PackedRows) → HasRead s before given r → IsFront given (file_for s before)
read_front s before given r k = (length given, sym (given_front s.time_field s.most (packed s before) given r.writer k.writer))

-- the end of the file
pub ends_file : (tf : Option (List ℕ)) (w : BlockWriter) (last : Finished) (old new : Option Contents) (name piece : List ℕ) → Finishes tf w last → piece ≡ last.bytes → Extends old new name piece → EndsFile tf w old new name
ends_file tf w last old new name piece f same e most done given k =
    (piece, e, ap (λ p. given ++ p) same ∙ (f most done given k).file)

pub breaks_none : (tf : Option (List ℕ)) (w : BlockWriter) (told : Option Contents) (name : List ℕ) → BreaksFile tf w told told name
breaks_none tf w told name most done given k = ([], extends_none told name, rw (append-nil given) (length given, sym (given_front tf most done given w k)))

pub breaks_file : (tf : Option (List ℕ)) (w : BlockWriter) (last : Finished) (old new : Option Contents) (name piece : List ℕ) → Finishes tf w last → piece ≡ last.bytes → (n : ℕ) × Extends old new name (take n piece) → BreaksFile tf w old new name
breaks_file tf w last old new name piece f same cut most done given k =
    let whole = ap (λ p. given ++ p) same ∙ (f most done given k).file in
    (take cut.0 piece, cut.1, subst (λ x. IsFront (given ++ take cut.0 piece) x) whole (front_of_front cut.0 given piece (whole_front (given ++ piece))))

same_sum : (n n' b b' d d' l l' : ℕ) → n ≡ n' → b ≡ b' → d ≡ d' → l ≡ l' → (let x : Sum = record { rows = n; blocks = b; dropped = d; bytes = l } in let y : Sum = record { rows = n'; blocks = b'; dropped = d'; bytes = l' } in x ≡ y)
same_sum n n' b b' d d' l l' p q r t = rw (p, q, r, t) refl

pub sums_up : (tf : Option (List ℕ)) (r : PackedRows) (last : Finished) (sum : PackSum) → Finishes tf r.writer last → sum.rows ≡ last.rows → sum.blocks ≡ last.blocks → sum.dropped ≡ r.dropped → sum.bytes ≡ last.length
    → SumsUp tf r (sum_view sum)
sums_up tf r last sum f n b d l most done given k =
    let h = f most done given k in
    same_sum _ _ _ _ _ _ _ _ (n ∙ h.rows) (b ∙ h.blocks) d (l ∙ h.length)

pub sum_lines : (s : Settings) (lines : List (List ℕ)) (given : List ℕ) (r : PackedRows) (sum : Sum) → HasRead s lines given r → sum ≡ sum_for s.time_field s.most (packed s lines) r.dropped → sum ≡ counted (sum_of s lines)
unfolding sum_of
sum_lines s lines given r sum k e = e ∙ same_sum _ _ _ _ _ _ _ _ refl refl k.dropped refl
