use Rattle.std.proofs.Common.{subst, sym, map, List}
use Rattle.agg_laws.specs.declared.any_part.AnyPart.{AnyPart}
use Rattle.agg_laws.specs.Parts.{part_name, part_kept}
use Rattle.hash_agg.specs.Items.{EachTwoHaveRoom}
use Rattle.hash_agg.proofs.group.Group.merge.Goals as goal

pub merge_each-requires-clause-room : goal.merge_each-requires-clause-room
merge_each-requires-clause-room c =
    let a = c.as_mut_slice.ensures.value in
    let b = c.as_slice.ensures.value in
    subst (λ (z : List AnyPart × List AnyPart). EachTwoHaveRoom (map part_name z.0) (map part_kept z.0) (map part_kept z.1)) (λ i. (sym a i, sym b i)) c.requires.room
