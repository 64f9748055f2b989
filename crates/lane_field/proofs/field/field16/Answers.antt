use Rattle.std.proofs.Common.{ap, ◌∙◌}
use Rattle.lane_base.specs.Shown.{value_under}
use Rattle.lane_field.proofs.Absent.{numbered, lacks, absent_lane}
use Rattle.lane_field.proofs.field.field16.Goals as goal

pub returns-clause-value : goal.returns-clause-value
returns-clause-value c n number i h =
    c.labelled16.ensures.value n (numbered c.args.table.now n c.args.symbol c.in-Some.label c.in-Some.is number) i h

pub returns-in_default-clause-value : goal.returns-in_default-clause-value
returns-in_default-clause-value c n number i h =
    ap (value_under c.args.table.now) (c.all_missing.ensures i)
    ∙ absent_lane c.args.table.now n (lacks c.args.table.now n c.args.symbol c.in_default.is number) c.args.m.0 c.args.a.now c.requires.legal i h
