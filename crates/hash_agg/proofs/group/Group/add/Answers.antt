use Rattle.std.proofs.Common.{subst, sym, map}
use Rattle.agg_laws.specs.Parts.{part_name, part_kept}
use Rattle.hash_agg.specs.Items.{EachHasRoom}
use Rattle.hash_agg.proofs.group.Group.add.Goals as goal

pub add_each-requires-clause-room : goal.add_each-requires-clause-room
add_each-requires-clause-room c = subst (λ parts. EachHasRoom (map part_name parts) (map part_kept parts)) (sym c.as_mut_slice.ensures.value) c.requires.room
