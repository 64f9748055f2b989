use Rattle.std.proofs.Common.{[], ◌∙◌}
use Rattle.lane_field.proofs.field.look_at.Goals as goal

pub look_in-requires : goal.look_in-requires
look_in-requires c = (c.field_at.ensures []).legal c.args.table.now c.requires.legal

pub returns-clause-value : goal.returns-clause-value
returns-clause-value c n named = c.look_in.ensures.value ∙ (c.field_at.ensures n).value c.args.table.now c.requires.legal named
