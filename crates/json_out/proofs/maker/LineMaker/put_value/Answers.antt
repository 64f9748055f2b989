use Rattle.std.proofs.Common.{◌≡◌, ◌++◌, ◌∙◌, sym, ap}
use Rattle.answer_meaning.specs.Made.{Output}
use Rattle.json_out.specs.Begun.{begun}
use Rattle.snel_values.specs.View.{view}
use Rattle.json_out.proofs.MorePairs.{pair_added}
use Rattle.json_out.proofs.IfAny.{some_pair, some_pair_text}
use Rattle.json_out.proofs.maker.LineMaker.put_value.Goals as goal

pub returns-in-Ok-clause-ok : goal.returns-in-Ok-clause-ok
returns-in-Ok-clause-ok c = rw (some_pair_text c.args.name.now c.args.self.now c.args.value.now c.in_default.not-Missing, ← c.self.view_is) c.in-Ok.ensures

pub returns-in-Ok-clause-pairs : goal.returns-in-Ok-clause-pairs
returns-in-Ok-clause-pairs c =
    λ output e.
    let f : c.self.inside.line ≡ begun output = cc in
    let one = some_pair c.args.name.now c.args.value.now c.in_default.not-Missing in
    pair_added c.self.inside.line c.put_value_pair.new.line output c.args.name.now (view c.args.value.now) c.in-Ok.ensures f
    ∙ ap (λ (more : Output). begun (output ++ more)) (sym one)
