use Rattle.std.proofs.Common.{◌≡◌, ℕ, refl, length, List, Option, map, ap, sym, subst, ◌∙◌}
use Rattle.value_meaning.specs.Val.{Val}
use Rattle.block_meaning.specs.Tables.{Table}
use Rattle.tree_meaning.specs.declared.AggName.{AggName}
use Rattle.program_meaning.specs.Registers.{value_at}
use Rattle.program_meaning.specs.Jobs.{Ends, Job}
use Rattle.lane_ssa.specs.Frames.{state_at}
use Rattle.hash_agg.specs.Groups.{GroupsStandFor}
use Rattle.hash_agg.specs.Items.{ShowsAll}
use Rattle.batch_groups.specs.Keyed.{operand_at}
use Rattle.batch_groups.specs.Gathered.{Gathered}
use Rattle.batch_groups.proofs.Showing.{operands_shown}
use Rattle.batch_groups.proofs.Taking.{one_each, over_takes, keyed_there, took}
use Rattle.batch_groups.proofs.sink.GroupSinkRowSink.take.Goals as goal

pub returns-then-self : goal.returns-then-self
returns-then-self c row e = over_takes c.args.self.now c.args.frame.now.job _ (ap (λ (g : Gathered). g.over) (sym c.self.view_is) ∙ c.if-self.true)

pub add_lane-requires-clause-one_each : goal.add_lane-requires-clause-one_each
add_lane-requires-clause-one_each c =
    let state = state_at c.args.block.now.0 c.args.frame.now c.args.lane in
    let aggs : c.ends-ends.result.now.aggs ≡ c.args.frame.now.job.ends.aggs = ap (λ (x : Ends). x.aggs) c.ends-ends.ensures.value ∙ ap (λ (j : Job). j.ends.aggs) c.job.ensures in
    ap length c.as_slice-shown.ensures.value
    ∙ one_each c.see_operands.new.shown.items state c.ends-ends.result.now.aggs c.args.frame.now.job.ends.aggs c.self.inside.groups.names
    (c.in_ok-see_operands.ensures c.args.block.now.0 c.requires.ran.legal) aggs (ap (λ (g : Gathered). g.groups.names) c.self.view_is ∙ c.requires.takes)

pub add_lane-requires-clause-shown : goal.add_lane-requires-clause-shown
add_lane-requires-clause-shown c =
    let state = state_at c.args.block.now.0 c.args.frame.now c.args.lane in
    let operands = map (operand_at state) c.ends-ends.result.now.aggs in
    (operands, subst (λ l. ShowsAll l operands) (sym c.as_slice-shown.ensures.value) (c.in_ok-see_operands.ensures c.args.block.now.0 c.requires.ran.legal), operands_shown c.args.block.now.0 c.args.lane c.requires.lane c.args.frame.now c.requires.ran.legal c.ends-ends.result.now.aggs)

pub returns : goal.returns
returns c row e =
    let state = state_at c.args.block.now.0 c.args.frame.now c.args.lane in
    let job = c.args.frame.now.job in
    let groups : c.ends-ends.result.now.groups ≡ job.ends.groups = ap (λ (x : Ends). x.groups) c.ends-ends.ensures.value ∙ ap (λ (j : Job). j.ends.groups) c.job.ensures in
    let aggs : c.ends-ends.result.now.aggs ≡ job.ends.aggs = ap (λ (x : Ends). x.aggs) c.ends-ends.ensures.value ∙ ap (λ (j : Job). j.ends.aggs) c.job.ensures in
    let operands = map (operand_at state) job.ends.aggs in
    let shows : ShowsAll c.as_slice-shown.result.now operands =
    subst (λ l. ShowsAll l operands) (sym c.as_slice-shown.ensures.value)
    (subst (λ l. ShowsAll c.see_operands.new.shown.items (map (operand_at state) l)) aggs (c.in_ok-see_operands.ensures c.args.block.now.0 c.requires.ran.legal)) in
    let keys = ap (λ (t : Table). map (value_at (state_at t c.args.frame.now c.args.lane)) c.ends-ends.result.now.groups) c.table.ensures
    ∙ ap (λ (l : List ℕ). map (value_at state) l) groups in
    took c.add_lane.result c.args.self.now (record { groups = c.add_lane.new.groups; over = c.add_lane.new.over }) job row _
    (keyed_there job row state _ e (c.requires.ran.ran c.args.lane c.requires.lane) _ operands keys refl)
    (c.add_lane.ensures.names ∙ ap (λ (g : Gathered). g.groups.names) c.self.view_is)
    (c.add_lane.ensures.limit ∙ ap (λ (g : Gathered). g.groups.limit) c.self.view_is)
    (ap (λ (g : Gathered). g.over) (sym c.self.view_is) ∙ c.if-self.false)
    (λ rows stand. c.add_lane.ensures.stand operands rows shows (subst (λ (g : Gathered). GroupsStandFor g.groups.names g.groups.entries rows) (sym c.self.view_is) stand))
