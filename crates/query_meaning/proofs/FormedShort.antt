-- A well-formed query stays so where its paths lose the row's name.
use Rattle.std.proofs.Common.{◌≡◌, ℕ, suc, List, [], ◌∷◌, length, map, true, false, cond, Option, Some, None, refl, ap, arith}
use Rattle.std.specs.Prelude.{All, IfSome}
use Rattle.std.specs.Option.{option_map}
use Rattle.std.specs.Str.{bytes_eq}
use Rattle.std.proofs.lemmas.List.Elements.{All-cons}
use Rattle.tree_meaning.specs.Tree.{Step, name, at, Ex, Exs, Arms, lit, path, neg, no, bin, is, member, between, matching, choice, cast, call, trunc, extract, shift, agg_of_rows, agg, no_exs, ex, no_arms, arm, items, Outs, star, named, Query}
use Rattle.query_meaning.specs.RowName.{row_name, short_path, short, short_exs, short_arms, short_outs, without_row}
use Rattle.query_meaning.specs.Tokens.{Toks}
use Rattle.query_meaning.specs.Grammar.{IsQuery}
use Rattle.query_meaning.proofs.Formed.{AreTokens, written_formed}
use Rattle.tree_meaning.specs.WellFormed.{IsStep, IsPath, HasArm, IsFormed, AreFormed, ArmsAreFormed, IsOutput, AreOutputs, IsKey, IsWellFormed}

first_of_all : {A : Type 0} (P : A → Type 0) (x : A) (xs : List A) → All P (x ∷ xs) → P x
first_of_all P x xs h = h 0 x (omega arith)

rest_of_all : {A : Type 0} (P : A → Type 0) (x : A) (xs : List A) → All P (x ∷ xs) → All P xs
rest_of_all P x xs h = λ k d j. h (suc k) d (omega (arith, j))

path_short : (row : List ℕ) (ss : List Step) → IsPath ss → IsPath (short_path row ss)
unfolding short_path
path_short row [] f = f
path_short row (at i ∷ ss) f = f
path_short row (name n ∷ []) f = f
path_short row (name n ∷ at i ∷ ss) f = f
path_short row (name n ∷ name k ∷ ss) f =
    let first = first_of_all IsStep (name k) ss f.1 in
    let rest = rest_of_all IsStep (name k) ss f.1 in
    elim (bytes_eq n row) as (λ b. IsPath (cond b (name k ∷ ss) (name n ∷ name k ∷ ss))) [ true ↦ (first, rest) | false ↦ f ]

count_short : (row : List ℕ) (es : Exs) → length (items (short_exs row es)) ≡ length (items es)
count_short row no_exs = refl
count_short row (ex e es) = ap suc (count_short row es)

arm_short : (row : List ℕ) (r : Arms) → HasArm r → HasArm (short_arms row r)
arm_short row no_arms h = h
arm_short row (arm a b r) h = h

mutual
  formed_short : (row : List ℕ) (e : Ex) → IsFormed e → IsFormed (short row e)
  formed_short row (lit v) f = f
  formed_short row (path r ss) f = (f.0, path_short row ss f.1)
  formed_short row (neg e) f = formed_short row e f
  formed_short row (no e) f = formed_short row e f
  formed_short row (bin o a b) f = (formed_short row a f.0, formed_short row b f.1)
  formed_short row (is w e) f = formed_short row e f
  formed_short row (member e es) f = (formed_short row e f.0, all_short row es f.1, rw (count_short row es) f.2)
  formed_short row (between e a b) f = (formed_short row e f.0, formed_short row a f.1, formed_short row b f.2)
  formed_short row (matching h e p) f = formed_short row e f
  formed_short row (choice r e) f = (arms_short row r f.0, arm_short row r f.1, formed_short row e f.2)
  formed_short row (cast c e) f = formed_short row e f
  formed_short row (call g es) f = (all_short row es f.0, rw (count_short row es) f.1)
  formed_short row (trunc p e) f = (f.0, formed_short row e f.1)
  formed_short row (extract p e) f = (f.0, formed_short row e f.1)
  formed_short row (shift p a e) f = (f.0, formed_short row a f.1, formed_short row e f.2)
  formed_short row (agg_of_rows n) f = f
  formed_short row (agg n e) f = (f.0, formed_short row e f.1)

  all_short : (row : List ℕ) (es : Exs) → AreFormed es → AreFormed (short_exs row es)
  all_short row no_exs f = f
  all_short row (ex e es) f = (formed_short row e f.0, all_short row es f.1)

  arms_short : (row : List ℕ) (r : Arms) → ArmsAreFormed r → ArmsAreFormed (short_arms row r)
  arms_short row no_arms f = f
  arms_short row (arm a b r) f = (formed_short row a f.0, formed_short row b f.1, arms_short row r f.2)

each_short : {A : Type 0} (P : A → Type 0) (g : A → A) → ((x : A) → P x → P (g x)) → (xs : List A) → All P xs → All P (map g xs)
each_short P g k [] h = h
each_short P g k (x ∷ xs) h =
    All-cons P (g x) (map g xs) (k x (first_of_all P x xs h)) (each_short P g k xs (rest_of_all P x xs h))

count_map : {A B : Type 0} (g : A → B) (xs : List A) → length (map g xs) ≡ length xs
count_map g [] = refl
count_map g (x ∷ xs) = ap suc (count_map g xs)

outs_short : (row : List ℕ) (o : Outs) → AreOutputs o → AreOutputs (short_outs row o)
outs_short row star f = f
outs_short row (named outs) f =
    let shorter : Ex × Option (List ℕ) → Ex × Option (List ℕ) = λ i. (short row i.0, i.1) in
    (rw (count_map shorter outs) f.0, each_short IsOutput shorter (λ i h. (formed_short row i.0 h.0, h.1)) outs f.1)

maybe_short : (row : List ℕ) (o : Option Ex) → IfSome o IsFormed → IfSome (option_map (short row) o) IsFormed
maybe_short row None f = f
maybe_short row (Some e) f = formed_short row e f

pub query_short : (row : List ℕ) (q : Query) → IsWellFormed q → IsWellFormed (without_row row q)
query_short row q f =
    record {
      outs = outs_short row q.outs f.outs;
      source = f.source;
      alias = f.alias;
      filter = maybe_short row q.filter f.filter;
      keys = each_short IsFormed (short row) (formed_short row) q.keys f.keys;
      having = maybe_short row q.having f.having;
      order = each_short IsKey (λ k. (short row k.0, k.1)) (λ k h. formed_short row k.0 h) q.order f.order;
      take = f.take;
      skip = f.skip;
    }

-- a query of good tokens is well formed
pub query-formed : {q : Query} {s : Toks} → IsQuery s q → AreTokens s → IsWellFormed q
query-formed d g = rw d.bare (query_short (row_name d.raw) d.raw (written_formed d.written g))
