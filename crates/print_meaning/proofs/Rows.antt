-- A tree whose paths begin with the row's name loses exactly that.
use Rattle.std.proofs.Common.{◌≡◌, ℕ, List, [], ◌∷◌, Bool, true, Option, Some, None, map, refl, ap}
use Rattle.std.specs.Prelude.{All, IfSome}
use Rattle.std.specs.Option.{option_map}
use Rattle.std.specs.Str.{bytes_eq}
use Rattle.std.specs.Prelude.{suc}
use Rattle.std.proofs.Common.{arith}
use Rattle.std.proofs.lemmas.Cmp.{nat_list_eq_equiv}
use Rattle.tree_meaning.specs.Tree.{Step, name, at, Ex, Exs, Arms, lit, path, neg, no, bin, is, member, between, matching, choice, cast, call, trunc, extract, shift, agg_of_rows, agg, no_exs, ex, no_arms, arm, Outs, star, named}
use Rattle.query_meaning.specs.RowName.{short_path, short, short_exs, short_arms, short_outs}
use Rattle.tree_meaning.specs.WellFormed.{IsPath, IsFormed, AreFormed, ArmsAreFormed, IsOutput, AreOutputs, IsKey}

abbrev mutual
  pub long : List ℕ → Ex → Ex
  long row (lit v) = lit v
  long row (path r ss) = path r (name row ∷ ss)
  long row (neg e) = neg (long row e)
  long row (no e) = no (long row e)
  long row (bin o a b) = bin o (long row a) (long row b)
  long row (is w e) = is w (long row e)
  long row (member e es) = member (long row e) (long_exs row es)
  long row (between e a b) = between (long row e) (long row a) (long row b)
  long row (matching h e p) = matching h (long row e) p
  long row (choice r e) = choice (long_arms row r) (long row e)
  long row (cast c e) = cast c (long row e)
  long row (call f es) = call f (long_exs row es)
  long row (trunc p e) = trunc p (long row e)
  long row (extract p e) = extract p (long row e)
  long row (shift p a e) = shift p (long row a) (long row e)
  long row (agg_of_rows n) = agg_of_rows n
  long row (agg n e) = agg n (long row e)

  pub long_exs : List ℕ → Exs → Exs
  long_exs row no_exs = no_exs
  long_exs row (ex e es) = ex (long row e) (long_exs row es)

  pub long_arms : List ℕ → Arms → Arms
  long_arms row no_arms = no_arms
  long_arms row (arm a b r) = arm (long row a) (long row b) (long_arms row r)

abbrev pub long_item : List ℕ → Ex × Option (List ℕ) → Ex × Option (List ℕ)
long_item row i = (long row i.0, i.1)

abbrev pub long_key : List ℕ → Ex × Bool → Ex × Bool
long_key row k = (long row k.0, k.1)

abbrev pub long_outs : List ℕ → Outs → Outs
long_outs row star = star
long_outs row (named items) = named (map (long_item row) items)

same_name : (n : List ℕ) → bytes_eq n n ≡ true
same_name n = nat_list_eq_equiv.refl n

short_long_path : (row : List ℕ) (ss : List Step) → IsPath ss → short_path row (name row ∷ ss) ≡ ss
unfolding short_path
short_long_path row [] h = absurd h
short_long_path row (at i ∷ ss) h = absurd h
short_long_path row (name n ∷ ss) h = rw (same_name row) refl

mutual
  pub short_long : (row : List ℕ) (e : Ex) → IsFormed e → short row (long row e) ≡ e
  short_long row (lit v) h = refl
  short_long row (path r ss) h = ap (path r) (short_long_path row ss h.1)
  short_long row (neg e) h = ap neg (short_long row e h)
  short_long row (no e) h = ap no (short_long row e h)
  short_long row (bin o a b) h = λ i. bin o (short_long row a h.0 i) (short_long row b h.1 i)
  short_long row (is w e) h = ap (is w) (short_long row e h)
  short_long row (member e es) h = λ i. member (short_long row e h.0 i) (short_long_exs row es h.1 i)
  short_long row (between e a b) h = λ i. between (short_long row e h.0 i) (short_long row a h.1 i) (short_long row b h.2 i)
  short_long row (matching k e p) h = ap (λ x. matching k x p) (short_long row e h)
  short_long row (choice r e) h = λ i. choice (short_long_arms row r h.0 i) (short_long row e h.2 i)
  short_long row (cast c e) h = ap (cast c) (short_long row e h)
  short_long row (call f es) h = ap (call f) (short_long_exs row es h.0)
  short_long row (trunc p e) h = ap (trunc p) (short_long row e h.1)
  short_long row (extract p e) h = ap (extract p) (short_long row e h.1)
  short_long row (shift p a e) h = λ i. shift p (short_long row a h.1 i) (short_long row e h.2 i)
  short_long row (agg_of_rows n) h = refl
  short_long row (agg n e) h = ap (agg n) (short_long row e h.1)

  pub short_long_exs : (row : List ℕ) (es : Exs) → AreFormed es → short_exs row (long_exs row es) ≡ es
  short_long_exs row no_exs h = refl
  short_long_exs row (ex e es) h = λ i. ex (short_long row e h.0 i) (short_long_exs row es h.1 i)

  pub short_long_arms : (row : List ℕ) (r : Arms) → ArmsAreFormed r → short_arms row (long_arms row r) ≡ r
  short_long_arms row no_arms h = refl
  short_long_arms row (arm a b r) h = λ i. arm (short_long row a h.0 i) (short_long row b h.1 i) (short_long_arms row r h.2 i)

pub all_first : {A : Type 0} (P : A → Type 0) (x : A) (xs : List A) → All P (x ∷ xs) → P x
all_first P x xs h = h 0 x (omega arith)

pub all_rest : {A : Type 0} (P : A → Type 0) (x : A) (xs : List A) → All P (x ∷ xs) → All P xs
all_rest P x xs h = λ k d l. h (suc k) d (omega (arith, l))

pub short_long_list : (row : List ℕ) (es : List Ex) → All IsFormed es → map (short row) (map (long row) es) ≡ es
short_long_list row [] h = refl
short_long_list row (e ∷ es) h = λ i. short_long row e (all_first IsFormed e es h) i ∷ short_long_list row es (all_rest IsFormed e es h) i

short_long_items : (row : List ℕ) (items : List (Ex × Option (List ℕ))) → All IsOutput items → map (λ (i : Ex × Option (List ℕ)). (short row i.0, i.1)) (map (long_item row) items) ≡ items
short_long_items row [] h = refl
short_long_items row (x ∷ xs) h = λ i. (short_long row x.0 ((all_first IsOutput x xs h).0) i, x.1) ∷ short_long_items row xs (all_rest IsOutput x xs h) i

pub short_long_outs : (row : List ℕ) (o : Outs) → AreOutputs o → short_outs row (long_outs row o) ≡ o
short_long_outs row star h = refl
short_long_outs row (named items) h = ap named (short_long_items row items h.1)

pub short_long_order : (row : List ℕ) (ks : List (Ex × Bool)) → All IsKey ks → map (λ (k : Ex × Bool). (short row k.0, k.1)) (map (long_key row) ks) ≡ ks
short_long_order row [] h = refl
short_long_order row (k ∷ ks) h = λ i. (short_long row k.0 (all_first IsKey k ks h) i, k.1) ∷ short_long_order row ks (all_rest IsKey k ks h) i

pub short_long_option : (row : List ℕ) (o : Option Ex) → IfSome o IsFormed → option_map (short row) (option_map (long row) o) ≡ o
short_long_option row None h = refl
short_long_option row (Some e) h = ap Some (short_long row e h)
