use Rattle.std.proofs.Common.{arith}
use Rattle.ion_cells.proofs.Bounds.{below_room}
use Rattle.ion_cells.proofs.numbers.+next_in.Goals as goal

pub overflow_mul-so_far : goal.overflow_mul-so_far
overflow_mul-so_far t c = omega (arith, (below_room c.args.so_far 0 c.args.room (omega arith) c.requires.short c.requires.small (omega arith)).1)

pub overflow_add-so_far : goal.overflow_add-so_far
overflow_add-so_far t c = omega (arith, (below_room c.args.so_far c.from.result c.args.room (omega arith) c.requires.short c.requires.small (omega arith)).1)

pub next_in-requires : goal.next_in-requires
next_in-requires t c = (omega arith, (omega arith, (below_room c.args.so_far c.from.result c.args.room (omega arith) c.requires.short c.requires.small (omega arith)).0))

pub overflow_mul-result : goal.overflow_mul-result
overflow_mul-result t c = omega (arith, (below_room c.args.so_far 0 c.args.room (omega arith) c.requires.short c.requires.small (omega arith)).1)

pub overflow_add-result : goal.overflow_add-result
overflow_add-result t c = omega (arith, (below_room c.args.so_far c.from-else-byte-lt128.result c.args.room (omega arith) c.requires.short c.requires.small (omega (arith, c.type_inv.bytes 0))).1)

pub returns-else-byte-lt128-clause-small : goal.returns-else-byte-lt128-clause-small
returns-else-byte-lt128-clause-small t c = (below_room c.args.so_far c.from-else-byte-lt128.result c.args.room (omega arith) c.requires.short c.requires.small (omega (arith, c.type_inv.bytes 0))).1
