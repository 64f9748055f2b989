use Rattle.std.proofs.Common.{refl}
use Rattle.lane_field.proofs.Nested.{value_of_bytes, tree_of}
use Rattle.lane_field.proofs.load.look_of.Goals as goal

pub returns-in-List-clause-value : goal.returns-in-List-clause-value
returns-in-List-clause-value c = value_of_bytes c.args.table.now c.args.cell.now c.bytes.result.now c.bytes.ensures.bytes

pub returns-in-List-clause-legal : goal.returns-in-List-clause-legal
returns-in-List-clause-legal c =
    tree_of c.args.table.now c.args.cell.now c.bytes.result.now _ c.bytes.ensures.bytes c.requires.legal (c.in-List.ensures.value c.args.table.now c.requires.fits) refl

pub returns-in-Struct-clause-value : goal.returns-in-Struct-clause-value
returns-in-Struct-clause-value c = value_of_bytes c.args.table.now c.args.cell.now c.bytes-in-Struct.result.now c.bytes-in-Struct.ensures.bytes

pub returns-in-Struct-clause-legal : goal.returns-in-Struct-clause-legal
returns-in-Struct-clause-legal c =
    tree_of c.args.table.now c.args.cell.now c.bytes-in-Struct.result.now _ c.bytes-in-Struct.ensures.bytes c.requires.legal (c.in-Struct.ensures.value c.args.table.now c.requires.fits) refl
