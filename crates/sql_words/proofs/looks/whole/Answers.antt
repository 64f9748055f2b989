use Rattle.std.proofs.Common.{arith}
use Rattle.sql_words.proofs.Slices.{ordered, starts, ends}
use Rattle.sql_words.proofs.looks.whole.Goals as goal

pub range-requires-clause-start_le_end : goal.range-requires-clause-start_le_end
range-requires-clause-start_le_end c = omega (arith, ordered c.args.text.now c.args.token c.requires)

pub range-requires-clause-start_boundary : goal.range-requires-clause-start_boundary
range-requires-clause-start_boundary c = λ _. starts c.args.text.now c.args.token c.requires

pub range-requires-clause-end_boundary : goal.range-requires-clause-end_boundary
range-requires-clause-end_boundary c = ends c.args.text.now c.args.token c.utf8.text c.requires
