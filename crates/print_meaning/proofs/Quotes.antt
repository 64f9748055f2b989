-- Names and texts are taken up to their closing quote, and their doubled quotes are single ones again.
use Rattle.std.proofs.Common.{◌≡◌, ℕ, suc, ◌-◌, ◌<◌, List, [], ◌∷◌, ◌++◌, length, Bool, true, false, cond, Some, Ok, refl, ap, ◌∙◌, arith, append_assoc, length-append}
use Rattle.std.specs.Prelude.{◌==◌, nat_lt}
use Rattle.std.specs.Option.{option_map}
use Rattle.std.proofs.Math.Seq.{take-append_seam}
use Rattle.std.proofs.lemmas.Bool.Decides.{nat_tests}
use Rattle.query_meaning.specs.declared.TokenKind.TheVariants as k
use Rattle.query_meaning.specs.Lexing.{begins_with, closing, or_one, name_cut, string_cut, cut_at}
use Rattle.query_meaning.specs.Tokens.{quoted, string, inner, undoubled, token_of}
use Rattle.tree_meaning.specs.WellFormed.{IsName}
use Rattle.print_meaning.specs.Pieces.{doubled, in_quotes, spelling}
use Rattle.print_meaning.proofs.Lexed.{Lexes}

same_byte : (q : ℕ) → (q == q) ≡ true
same_byte q = grind (arith, nat_tests)

equal_byte : (b q : ℕ) → (b == q) ≡ true → q ≡ b
equal_byte b q h = grind (arith, nat_tests)

module _ (q : ℕ) where
  closing_here : (rest : List ℕ) → begins_with q rest ≡ false → closing q (q ∷ rest) ≡ Some 1
  closing_here [] h = rw (same_byte q) refl
  closing_here (c ∷ bs) h = rw (same_byte q, h) refl

  closing_later : (b : ℕ) (bs : List ℕ) → (b == q) ≡ false → closing q (b ∷ bs) ≡ option_map suc (closing q bs)
  closing_later b [] e = rw e refl
  closing_later b (c ∷ bs) e = rw e refl

  closing_double : (bs : List ℕ) → closing q (q ∷ q ∷ bs) ≡ or_one (closing q bs)
  closing_double bs = rw (same_byte q) refl

  closes : (n rest : List ℕ) → begins_with q rest ≡ false → closing q (doubled q n ++ q ∷ rest) ≡ Some (suc (length (doubled q n)))
  closes [] rest h = closing_here rest h
  closes (b ∷ bs) rest h = go (b == q) refl (closes bs rest h)
    where
      go : (t : Bool) → (b == q) ≡ t → closing q (doubled q bs ++ q ∷ rest) ≡ Some (suc (length (doubled q bs))) → closing q (cond t (q ∷ q ∷ doubled q bs) (b ∷ doubled q bs) ++ q ∷ rest) ≡ Some (suc (length (cond t (q ∷ q ∷ doubled q bs) (b ∷ doubled q bs))))
      go true e next = closing_double (doubled q bs ++ q ∷ rest) ∙ ap or_one next
      go false e next = closing_later b (doubled q bs ++ q ∷ rest) e ∙ ap (option_map suc) next

  undoubles_other : (b : ℕ) (bs : List ℕ) → (b == q) ≡ false → undoubled q (b ∷ bs) ≡ b ∷ undoubled q bs
  undoubles_other b [] e = refl
  undoubles_other b (c ∷ bs) e = rw e refl

  undoubles_two : (bs : List ℕ) → undoubled q (q ∷ q ∷ bs) ≡ q ∷ undoubled q bs
  undoubles_two bs = rw (same_byte q) refl

  undoubles : (n : List ℕ) → undoubled q (doubled q n) ≡ n
  undoubles [] = refl
  undoubles (b ∷ bs) = go (b == q) refl (undoubles bs)
    where
      go : (t : Bool) → (b == q) ≡ t → undoubled q (doubled q bs) ≡ bs → undoubled q (cond t (q ∷ q ∷ doubled q bs) (b ∷ doubled q bs)) ≡ b ∷ bs
      go true e next = undoubles_two (doubled q bs) ∙ (λ i. equal_byte b q e i ∷ next i)
      go false e next = undoubles_other b (doubled q bs) e ∙ ap (λ (z : List ℕ). b ∷ z) next

  doubled_some : (n : List ℕ) → 0 < length n → 0 < length (doubled q n)
  doubled_some [] h = absurd (omega arith)
  doubled_some (b ∷ bs) h = go (b == q)
    where
      go : (t : Bool) → 0 < length (cond t (q ∷ q ∷ doubled q bs) (b ∷ doubled q bs))
      go true = omega arith
      go false = omega arith

  inside : (n : List ℕ) → inner (in_quotes q n) ≡ doubled q n
  inside n =
      let size : length (q ∷ doubled q n ++ q ∷ []) - 2 ≡ length (doubled q n) = omega (arith, length-append (doubled q n) (q ∷ [])) in
      rw size (take-append_seam (doubled q n) (q ∷ []))

  means_again : (n : List ℕ) → undoubled q (inner (in_quotes q n)) ≡ n
  means_again n = ap (undoubled q) (inside n) ∙ undoubles n

  closes_after : (n rest : List ℕ) → begins_with q rest ≡ false → closing q ((doubled q n ++ q ∷ []) ++ rest) ≡ Some (suc (length (doubled q n)))
  closes_after n rest h = ap (closing q) (append_assoc (doubled q n) (q ∷ []) rest) ∙ closes n rest h

  size_within : (n : List ℕ) → suc (length (doubled q n ++ q ∷ [])) ≡ suc (suc (length (doubled q n)))
  size_within n = omega (arith, length-append (doubled q n) (q ∷ []))

at_least : (least n : ℕ) → least < suc n → nat_lt n least ≡ false
at_least least n h = grind (arith, nat_tests)

name_is_cut : (n rest : List ℕ) → IsName n → begins_with 34 rest ≡ false → cut_at 34 ((doubled 34 n ++ 34 ∷ []) ++ rest) ≡ Ok (k.Quoted, suc (length (doubled 34 n ++ 34 ∷ [])))
unfolding cut_at name_cut
name_is_cut n rest some h =
    let long : nat_lt (suc (length (doubled 34 n))) 2 ≡ false = at_least 2 (suc (length (doubled 34 n))) (omega (arith, doubled_some 34 n some)) in
    rw (closes_after 34 n rest h, long, size_within 34 n) refl

string_is_cut : (p rest : List ℕ) → begins_with 39 rest ≡ false → cut_at 39 ((doubled 39 p ++ 39 ∷ []) ++ rest) ≡ Ok (k.Str, suc (length (doubled 39 p ++ 39 ∷ [])))
unfolding cut_at string_cut
string_is_cut p rest h =
    let long : nat_lt (suc (length (doubled 39 p))) 1 ≡ false = at_least 1 (suc (length (doubled 39 p))) (omega arith) in
    rw (closes_after 39 p rest h, long, size_within 39 p) refl

pub name_lexes : (n rest : List ℕ) → IsName n → begins_with 34 rest ≡ false → Lexes (quoted n) rest
unfolding spelling token_of
name_lexes n rest some h =
    record { kind = k.Quoted; head = 34; tail = doubled 34 n ++ 34 ∷ []; bytes = refl; visible = refl; cut = name_is_cut n rest some h; means = ap quoted (means_again 34 n); allowed = refl }

pub string_lexes : (p rest : List ℕ) → begins_with 39 rest ≡ false → Lexes (string p) rest
unfolding spelling token_of
string_lexes p rest h =
    record { kind = k.Str; head = 39; tail = doubled 39 p ++ 39 ∷ []; bytes = refl; visible = refl; cut = string_is_cut p rest h; means = ap string (means_again 39 p); allowed = refl }
