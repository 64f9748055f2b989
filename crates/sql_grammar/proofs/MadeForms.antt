-- The tree of a call, by its head.
use Rattle.std.proofs.Common.{◌≡◌, ℕ, List, [], ◌∷◌, ◌++◌, length, Some, None, true, false, cond, refl, ◌==◌, ⊎_elim, arith}
use Rattle.std.specs.Option.{option_map}
use Rattle.std.proofs.lemmas.Bool.Decides.{eqb_tells}
use Rattle.tree_meaning.specs.declared.Func.{Func}
use Rattle.tree_meaning.specs.declared.Func.TheVariants as func
use Rattle.tree_meaning.specs.declared.Part.{Part}
use Rattle.tree_meaning.specs.declared.AggName.{AggName}
use Rattle.tree_meaning.specs.Tree.{Ex, exs, call, agg, trunc, extract, shift}
use Rattle.query_meaning.specs.Grammar.{function, aggregate, truncation, extraction, addition}
use Rattle.query_meaning.specs.Reading.{made}
use Rattle.sql_grammar.specs.CallForms.{has_any, has_one, has_two, takes, only, both}

differ : (a b : ℕ) → (a ≡ b → ⊥) → (a == b) ≡ false
differ a b n = ⊎_elim (λ e. absurd (n e.1)) (λ e. e.0) (eqb_tells a b)

pub one_long : (es : List Ex) → (length es == 1) ≡ has_one es
one_long [] = refl
one_long (a ∷ []) = refl
one_long (a ∷ b ∷ es) = differ (length (a ∷ b ∷ es)) 1 (λ e. omega arith)

pub two_long : (es : List Ex) → (length es == 2) ≡ has_two es
two_long [] = refl
two_long (a ∷ []) = refl
two_long (a ∷ b ∷ []) = refl
two_long (a ∷ b ∷ c ∷ es) = differ (length (a ∷ b ∷ c ∷ es)) 2 (λ e. omega arith)

pub none_long : (es : List Ex) → (length es == 0) ≡ false → has_any es ≡ true
none_long [] e = absurd cc
none_long (a ∷ es) e = refl

pub nothing_long : (es : List Ex) → (length es == 0) ≡ true → has_any es ≡ false
nothing_long [] e = refl
nothing_long (a ∷ es) e = absurd (⊎_elim (λ x. omega (arith, x.1)) (λ x. let n : (length (a ∷ es) == 0) ≡ false = x.0 in cc) (eqb_tells (length (a ∷ es)) 0))

pub function_made : (f : Func) (es : List Ex) → made (function f) es ≡ cond (takes f es) (Some (call f (exs es))) None
unfolding made
function_made func.Coalesce [] = refl
function_made func.Coalesce (a ∷ []) = refl
function_made func.Coalesce (a ∷ b ∷ []) = refl
function_made func.Coalesce (a ∷ b ∷ c ∷ es) = refl
function_made func.NullIf [] = refl
function_made func.NullIf (a ∷ []) = refl
function_made func.NullIf (a ∷ b ∷ []) = refl
function_made func.NullIf (a ∷ b ∷ c ∷ es) = refl
function_made func.CharLength [] = refl
function_made func.CharLength (a ∷ []) = refl
function_made func.CharLength (a ∷ b ∷ []) = refl
function_made func.CharLength (a ∷ b ∷ c ∷ es) = refl
function_made func.UnixEpoch [] = refl
function_made func.UnixEpoch (a ∷ []) = refl
function_made func.UnixEpoch (a ∷ b ∷ []) = refl
function_made func.UnixEpoch (a ∷ b ∷ c ∷ es) = refl
function_made func.UnixMicro [] = refl
function_made func.UnixMicro (a ∷ []) = refl
function_made func.UnixMicro (a ∷ b ∷ []) = refl
function_made func.UnixMicro (a ∷ b ∷ c ∷ es) = refl

pub aggregate_made : (n : AggName) (es : List Ex) → made (aggregate n) es ≡ option_map (agg n) (only es)
unfolding made
aggregate_made n [] = refl
aggregate_made n (a ∷ []) = refl
aggregate_made n (a ∷ b ∷ []) = refl
aggregate_made n (a ∷ b ∷ c ∷ es) = refl

pub truncation_made : (p : Part) (es : List Ex) → made (truncation p) es ≡ option_map (trunc p) (only es)
unfolding made
truncation_made p [] = refl
truncation_made p (a ∷ []) = refl
truncation_made p (a ∷ b ∷ []) = refl
truncation_made p (a ∷ b ∷ c ∷ es) = refl

pub extraction_made : (p : Part) (es : List Ex) → made (extraction p) es ≡ option_map (extract p) (only es)
unfolding made
extraction_made p [] = refl
extraction_made p (a ∷ []) = refl
extraction_made p (a ∷ b ∷ []) = refl
extraction_made p (a ∷ b ∷ c ∷ es) = refl

pub addition_made : (p : Part) (es : List Ex) → made (addition p) es ≡ option_map (λ (x : Ex × Ex). shift p x.0 x.1) (both es)
unfolding made
addition_made p [] = refl
addition_made p (a ∷ []) = refl
addition_made p (a ∷ b ∷ []) = refl
addition_made p (a ∷ b ∷ c ∷ es) = refl

-- the last of a list apart
pub only_last : (e : Ex) → only ([] ++ e ∷ []) ≡ Some e
only_last e = refl

pub only_more : (es : List Ex) (f e : Ex) → only ((es ++ f ∷ []) ++ e ∷ []) ≡ None
only_more [] f e = refl
only_more (a ∷ []) f e = refl
only_more (a ∷ b ∷ es) f e = refl

pub both_last : (es : List Ex) (e : Ex) → both (es ++ e ∷ []) ≡ option_map (λ (x : Ex). (x, e)) (only es)
both_last [] e = refl
both_last (a ∷ []) e = refl
both_last (a ∷ b ∷ []) e = refl
both_last (a ∷ b ∷ c ∷ es) e = refl
