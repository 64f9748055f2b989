-- Forms of expressions and queries, and their printed texts, written by hand.
use Rattle.std.specs.Prelude.{◌≡◌, ℕ, pos, List, [], ◌∷◌, true, false, map, Some, None, codes}
use Rattle.value_meaning.specs.Val as val
use Rattle.tree_meaning.specs.declared.BinOp.TheVariants as op
use Rattle.tree_meaning.specs.declared.IsWhat.TheVariants as what
use Rattle.tree_meaning.specs.declared.How.TheVariants as how
use Rattle.tree_meaning.specs.declared.CastTo.TheVariants as to
use Rattle.tree_meaning.specs.declared.Func.TheVariants as func
use Rattle.tree_meaning.specs.declared.Part.TheVariants as part
use Rattle.tree_meaning.specs.declared.AggName.TheVariants as aggs
use Rattle.tree_meaning.specs.Tree.{name, at, Ex, lit, path, neg, no, bin, is, member, between, matching, choice, cast, call, trunc, extract, shift, agg_of_rows, agg, exs, arms, named, Query}
use Rattle.print_meaning.specs.Texts.{text}
use Rattle.print_meaning.specs.Print.{query_text}

abbrev a : Ex
a = path 0 (name (codes "a") ∷ [])

abbrev number : ℕ → Ex
number n = lit (val.int (pos n))

-- the row's name is `t`
abbrev pub forms : List (Ex × List ℕ)
forms =
    (lit val.null, codes "NULL") ∷ (lit val.missing, codes "MISSING") ∷ (lit (val.truth true), codes "TRUE") ∷ (lit (val.truth false), codes "FALSE") ∷
    (number 17, codes "17") ∷ (lit (val.text (codes "it's")), codes "'it''s'") ∷
    (a, codes "\"t\".\"a\"") ∷ (path 0 (name (codes "a") ∷ at 3 ∷ name (codes "b\"c") ∷ []), codes "\"t\".\"a\"[3].\"b\"\"c\"") ∷
    (neg (number 5), codes "(-5)") ∷ (neg (neg a), codes "(-(-\"t\".\"a\"))") ∷ (no a, codes "(NOT \"t\".\"a\")") ∷
    (bin op.Add a (number 1), codes "(\"t\".\"a\" + 1)") ∷ (bin op.Sub a (neg (number 1)), codes "(\"t\".\"a\" - (-1))") ∷
    (bin op.Mul a (number 2), codes "(\"t\".\"a\" * 2)") ∷ (bin op.Div a (number 2), codes "(\"t\".\"a\" / 2)") ∷ (bin op.Rem a (number 2), codes "(\"t\".\"a\" % 2)") ∷
    (bin op.Eq a (number 1), codes "(\"t\".\"a\" = 1)") ∷ (bin op.Ne a (number 1), codes "(\"t\".\"a\" <> 1)") ∷ (bin op.Lt a (number 1), codes "(\"t\".\"a\" < 1)") ∷
    (bin op.Le a (number 1), codes "(\"t\".\"a\" <= 1)") ∷ (bin op.Gt a (number 1), codes "(\"t\".\"a\" > 1)") ∷ (bin op.Ge a (number 1), codes "(\"t\".\"a\" >= 1)") ∷
    (bin op.Or a (bin op.And a a), codes "(\"t\".\"a\" OR (\"t\".\"a\" AND \"t\".\"a\"))") ∷
    (is what.Missing a, codes "(\"t\".\"a\" IS MISSING)") ∷ (no (is what.Null a), codes "(NOT (\"t\".\"a\" IS NULL))") ∷
    (member a (exs (number 1 ∷ number 2 ∷ [])), codes "(\"t\".\"a\" IN (1, 2))") ∷ (between a (number 1) (number 2), codes "(\"t\".\"a\" BETWEEN 1 AND 2)") ∷
    (matching how.Like a (codes "x%"), codes "(\"t\".\"a\" LIKE 'x%')") ∷ (matching how.ILike a (codes "x_"), codes "(\"t\".\"a\" ILIKE 'x_')") ∷
    (matching how.Starts a (codes "x"), codes "STARTS_WITH(\"t\".\"a\", 'x')") ∷ (matching how.Contains a (codes "x"), codes "CONTAINS(\"t\".\"a\", 'x')") ∷
    (choice (arms ((a, number 1) ∷ (no a, number 2) ∷ [])) (lit val.null), codes "(CASE WHEN \"t\".\"a\" THEN 1 WHEN (NOT \"t\".\"a\") THEN 2 ELSE NULL END)") ∷
    (cast to.Integer a, codes "CAST(\"t\".\"a\" AS INTEGER)") ∷ (call func.Coalesce (exs (a ∷ number 1 ∷ number 2 ∷ [])), codes "COALESCE(\"t\".\"a\", 1, 2)") ∷
    (call func.UnixMicro (exs (a ∷ [])), codes "TO_UNIX_MICRO(\"t\".\"a\")") ∷
    (trunc part.Month a, codes "DATE_TRUNC(MONTH, \"t\".\"a\")") ∷ (extract part.Year a, codes "EXTRACT(YEAR FROM \"t\".\"a\")") ∷
    (shift part.Day (neg (number 1)) a, codes "DATE_ADD(DAY, (-1), \"t\".\"a\")") ∷
    (agg_of_rows aggs.CountAll, codes "COUNT(*)") ∷ (agg aggs.BoolOr a, codes "BOOL_OR(\"t\".\"a\")") ∷ []

-- `select a from t where not a=1`
abbrev pub refusing : Query
refusing = record { outs = named ((a, None) ∷ []); source = codes "t"; alias = None; filter = Some (no (bin op.Eq a (number 1))); keys = []; having = None; order = []; take = None; skip = 0 }

-- a query with each of its clauses
abbrev pub whole : Query
whole =
    record {
      outs = named ((a, Some (codes "x")) ∷ (agg_of_rows aggs.CountAll, None) ∷ []);
      source = codes "logs";
      alias = Some (codes "t");
      filter = Some a;
      keys = a ∷ number 1 ∷ [];
      having = Some (no a);
      order = (a, false) ∷ (number 1, true) ∷ [];
      take = Some 5;
      skip = 2;
    }

-- each is printed as it is written here
pub record ArePrintedSo : Type 0 where
  pub forms_so : map (λ f. text (codes "t") f.0) forms ≡ map (λ f. f.1) forms
  pub refusing_so : query_text refusing ≡ codes "SELECT \"t\".\"a\" FROM \"t\" WHERE (NOT (\"t\".\"a\" = 1))"
  pub whole_so : query_text whole ≡ codes "SELECT \"t\".\"a\" AS \"x\", COUNT(*) FROM \"logs\" AS \"t\" WHERE \"t\".\"a\" GROUP BY \"t\".\"a\", 1 HAVING (NOT \"t\".\"a\") ORDER BY \"t\".\"a\", 1 DESC LIMIT 5 OFFSET 2"
