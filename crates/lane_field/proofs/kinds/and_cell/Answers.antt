use Rattle.std.proofs.Common.{◌∙◌, ap, nat_eq}
use Rattle.std.specs.Prelude.{◌&&◌, ◌||◌}
use Rattle.lane_base.specs.Bits.{has}
use Rattle.lane_field.specs.Kinds.{mask_of}
use Rattle.lane_field.proofs.KindOf.{kind_is}
use Rattle.lane_field.proofs.kinds.and_cell.Goals as goal

pub returns-in-Some : goal.returns-in-Some
returns-in-Some c table h kind i =
    c.and_kind.ensures kind i
    ∙ ap (λ t. (nat_eq i c.args.lane && t) || has (mask_of kind c.args.masks) i) (kind_is c.args.cell c.in-Some.cell c.kind.result c.in-Some.is c.kind.ensures table h kind)
