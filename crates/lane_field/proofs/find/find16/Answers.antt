use Rattle.std.proofs.Common.{[], ap, ◌∙◌}
use Rattle.lane_field.specs.CellsOf.{denoted}
use Rattle.lane_field.proofs.Absent.{numbered, lacks, absent_lane}
use Rattle.lane_field.proofs.find.find16.Goals as goal

pub returns-in-Some-clause-value : goal.returns-in-Some-clause-value
returns-in-Some-clause-value c table legal rise n number i h =
    (c.fields_at.ensures n i h).value table legal (record { rise = rise; names = numbered table n c.args.symbol c.in-Some.symbol c.in-Some.is number })

pub returns-in-Some-clause-legal : goal.returns-in-Some-clause-legal
returns-in-Some-clause-legal c table lanes legal = record { lane = λ i h k. (c.fields_at.ensures [] i h).legal table legal }

pub returns-in-Some-clause-none : goal.returns-in-Some-clause-none
returns-in-Some-clause-none c i h outside = (c.fields_at.ensures [] i h).none outside

pub returns-in-None-clause-value : goal.returns-in-None-clause-value
returns-in-None-clause-value c table legal rise n number i h =
    ap (denoted table) (c.none.ensures i h)
    ∙ absent_lane table n (lacks table n c.args.symbol c.in-None.is number) c.args.m.0 c.args.a.now legal.legal i h
