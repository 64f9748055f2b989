use Rattle.std.proofs.Common.{sym}
use Rattle.value_meaning.proofs.OrderLaws.{val_neither, val_not_less}
use Rattle.value_meaning.proofs.order_is_exact.Goals as goal

pub returns : goal.returns
returns c a b = (λ h. val_neither a b h.0 h.1, λ e. (val_not_less a b e, val_not_less b a (sym e)))
