use Rattle.std.proofs.Common.{sym, subst}
use Rattle.std.specs.Prelude.{All}
use Rattle.group_out.specs.Summaries.{IsPrintable}
use Rattle.batch_groups.proofs.Showing.{keys_shown}
use Rattle.batch_groups.proofs.adding.add_lane.Goals as goal

pub add_row-requires-clause-printable : goal.add_row-requires-clause-printable
add_row-requires-clause-printable c =
    subst (All IsPrintable) (sym c.of-keys.ensures) (keys_shown c.args.table.now c.args.lane c.requires.lane c.args.frame.now c.requires.legal c.args.registers.now)

pub add_row-requires-else-are_flat-clause-printable : goal.add_row-requires-else-are_flat-clause-printable
add_row-requires-else-are_flat-clause-printable c =
    subst (All IsPrintable) (sym c.in_ok-keys.ensures) (keys_shown c.args.table.now c.args.lane c.requires.lane c.args.frame.now c.requires.legal c.args.registers.now)
