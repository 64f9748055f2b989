-- What a query makes that isn't grouped.
use Rattle.std.proofs.Common.{◌≡◌, List, [], ◌∷◌, false, None, Option, refl, ap, ◌∙◌}
use Rattle.std.specs.Prelude.{Bool, map}
use Rattle.std.specs.List.{filter}
use Rattle.value_meaning.specs.Val.{Val}
use Rattle.tree_meaning.specs.Tree.{Ex, Outs, Query, star}
use Rattle.check_meaning.specs.Aggregates.{is_grouped}
use Rattle.check_meaning.specs.Places.{order_ex}
use Rattle.eval_meaning.specs.Pair.{Pair, alone}
use Rattle.eval_meaning.specs.Evaluation.{eval}
use Rattle.eval_meaning.specs.Passed.{passed, is_kept}
use Rattle.answer_meaning.specs.Made.{Made, made_whole, made_of_all, pairs_of}
use Rattle.made_meaning.specs.MadeRows.{made, made_rows, output_by}

pub made_by_rows : (q : Query) (rows : List Val) → is_grouped q ≡ false → made q rows ≡ made_rows q (passed q rows)
unfolding made
made_by_rows q rows h = rw h refl

-- a made row, by the parts of the query that it needs
abbrev row_of : Outs → Outs → List (Ex × Bool) → Pair → Made
row_of names outs order p =
    record { keys = map (λ k. eval (order_ex names k.0) p) order; output = output_by (λ e. eval e p) (pairs_of p.row) outs }

all_kept : (rows : List Val) → filter (is_kept None) (map alone rows) ≡ map alone rows
all_kept [] = refl
all_kept (r ∷ rows) = ap (λ l. alone r ∷ l) (all_kept rows)

each_whole : (names : Outs) (rows : List Val) → map (row_of names star []) (map alone rows) ≡ made_of_all rows
each_whole names [] = refl
each_whole names (r ∷ rows) = ap (λ l. made_whole r ∷ l) (each_whole names rows)

pub star_rows : (q : Query) (rows : List Val) → is_grouped q ≡ false → q.outs ≡ star → q.filter ≡ None → q.order ≡ [] → made q rows ≡ made_of_all rows
star_rows q rows h s f o =
    made_by_rows q rows h
    ∙ ap (λ (w : Option Ex). made_rows q (filter (is_kept w) (map alone rows))) f
    ∙ ap (made_rows q) (all_kept rows)
    ∙ ap (λ (x : Outs). map (row_of q.outs x q.order) (map alone rows)) s
    ∙ ap (λ (x : List (Ex × Bool)). map (row_of q.outs star x) (map alone rows)) o
    ∙ each_whole q.outs rows
