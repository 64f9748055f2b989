use Rattle.std.proofs.Common.{◌≡◌, List, ℕ, ap, map, subst, ◌∙◌}
use Rattle.std.specs.Prelude.{IfOk}
use Rattle.value_meaning.specs.Val.{Val}
use Rattle.block_meaning.specs.Tables.{Table}
use Rattle.program_meaning.specs.Jobs.{Ends, Job}
use Rattle.program_meaning.specs.Registers.{value_at}
use Rattle.lane_ssa.specs.Frames.{state_at}
use Rattle.block_lines.proofs.KeyedRows.{keys_there}
use Rattle.block_lines.proofs.row_parts.sort_keys.Goals as goal

pub returns-clause-keys : goal.returns-clause-keys
returns-clause-keys c row e =
    let frame = c.args.frame.now in
    let job = frame.job in
    let state = state_at c.args.block.now.0 frame c.args.lane in
    let sorts : c.ends.result.now.sorts ≡ job.ends.sorts = ap (λ (x : Ends). x.sorts) c.ends.ensures.value ∙ ap (λ (j : Job). j.ends.sorts) c.job.ensures in
    let are = ap (λ (t : Table). map (value_at (state_at t frame c.args.lane)) c.ends.result.now.sorts) c.table.ensures
    ∙ ap (λ (l : List ℕ). map (value_at state) l) sorts
    ∙ keys_there job row state _ e (c.requires.ran.ran c.args.lane c.requires.lane) in
    subst (λ (l : List Val). IfOk c.values_of.result (λ keys. keys ≡ l)) are c.values_of.ensures
