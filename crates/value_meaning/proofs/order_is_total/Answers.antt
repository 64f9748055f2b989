use Rattle.value_meaning.proofs.OrderLaws.{val_total}
use Rattle.value_meaning.proofs.order_is_total.Goals as goal

pub returns : goal.returns
returns c = val_total
