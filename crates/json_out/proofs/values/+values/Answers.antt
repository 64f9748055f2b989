-- Lists and structs are of the value's size.
use Rattle.std.proofs.Common.{ap, arith}
use Rattle.value_meaning.specs.Val.{size}
use Rattle.json_out.proofs.values.+values.Goals as goal

pub put_value-put_list-requires : goal.put_value-put_list-requires
put_value-put_list-requires t c =
    let same = ap size (c.in-List.ensures.value c.args.table.now c.requires) in
    (omega (arith, same, c.decreases), rw c.in-List.ensures.within c.requires)

pub put_value-put_struct-requires : goal.put_value-put_struct-requires
put_value-put_struct-requires t c =
    let same = ap size (c.in-Struct.ensures.value c.args.table.now c.requires) in
    (omega (arith, same, c.decreases), rw c.in-Struct.ensures.within c.requires)
