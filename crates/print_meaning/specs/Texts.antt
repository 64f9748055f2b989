-- The texts of the parts of a printed query.
use Rattle.std.specs.Prelude.{ℕ, zero, suc, Bool, List, [], ◌∷◌, ◌++◌, Option, Some, None, decimal, codes}
use Rattle.value_meaning.specs.Val.{Val}
use Rattle.query_meaning.specs.declared.Mark.{Mark}
use Rattle.query_meaning.specs.declared.Mark.TheVariants as m
use Rattle.query_meaning.specs.Words.{mark_text}
use Rattle.tree_meaning.specs.Tree.{Step, Ex, exs, arms, Outs}
use Rattle.print_meaning.specs.Pieces.{in_quotes, spelled}
use Rattle.print_meaning.specs.Print.{put_literal, put_steps, put, put_exs, put_arms, put_list, put_item, put_key, put_outs}

unfoldable pub literal_text : Val → List ℕ
literal_text v = spelled (put_literal v [])

unfoldable pub steps_text : List Step → List ℕ
steps_text ss = spelled (put_steps ss [])

-- an expression of a query whose row has this name
unfoldable pub text : List ℕ → Ex → List ℕ
text row e = spelled (put row e [])

-- expressions with `, ` between them
unfoldable pub list_text : List ℕ → List Ex → List ℕ
list_text row es = spelled (put_exs row (exs es) [])

-- the arms of a CASE, each behind a space
unfoldable pub arms_text : List ℕ → List (Ex × Ex) → List ℕ
arms_text row xs = spelled (put_arms row (arms xs) [])

-- a word with a space on both sides
abbrev pub between_text : Mark → List ℕ
between_text k = 32 ∷ mark_text k ++ 32 ∷ []

-- what stands behind a name, and what does not
abbrev pub alias_text : Option (List ℕ) → List ℕ
alias_text None = []
alias_text (Some n) = between_text m.As ++ in_quotes 34 n

-- the whole row, or the outputs
unfoldable pub outs_text : List ℕ → Outs → List ℕ
outs_text row o = spelled (put_outs row o [])

-- the outputs with `, ` between them
unfoldable pub items_text : List ℕ → List (Ex × Option (List ℕ)) → List ℕ
items_text row xs = spelled (put_list (put_item row) xs [])

-- the order keys with `, ` between them
unfoldable pub keys_text : List ℕ → List (Ex × Bool) → List ℕ
keys_text row xs = spelled (put_list (put_key row) xs [])

-- a word and an expression, if there is one
abbrev pub clause_text : List ℕ → List ℕ → Option Ex → List ℕ
clause_text word row None = []
clause_text word row (Some e) = word ++ text row e

-- a word and a number, if there is one
abbrev pub count_text : List ℕ → Option ℕ → List ℕ
count_text word None = []
count_text word (Some n) = word ++ decimal n

-- GROUP BY and its keys, if there are any
abbrev pub groups_text : List ℕ → List Ex → List ℕ
groups_text row [] = []
groups_text row (e ∷ es) = codes " GROUP BY " ++ list_text row (e ∷ es)

-- ORDER BY and its keys, if there are any
abbrev pub order_text : List ℕ → List (Ex × Bool) → List ℕ
order_text row [] = []
order_text row (k ∷ ks) = codes " ORDER BY " ++ keys_text row (k ∷ ks)

-- what stands before the member of a list at a place
abbrev pub separator : ℕ → List ℕ
separator zero = []
separator (suc place) = 44 ∷ 32 ∷ []
