use Rattle.std.proofs.Common.{◌≡◌, sym, ◌∙◌, Ordering, true, refl}
use Rattle.std.specs.declared.cmp.Ordering.TheVariants.{Less, Equal, Greater}
use Rattle.std.specs.Ordering.{ordering_index}
use Rattle.std.specs.Bool.{◌==◌}
use Rattle.value_meaning.specs.Val.{Val}
use Rattle.value_meaning.specs.Order.{val_cmp}
use Rattle.value_meaning.proofs.OrderLaws.{val_exact, val_same}
use Rattle.snel_values.specs.View.{view}
use Rattle.snel_values.proofs.ordering.same.Goals as goal

is_same : (x y : Val) (o : Ordering) → o ≡ val_cmp x y → (ordering_index o == 1) ≡ true → x ≡ y
is_same x y Less e h = cc
is_same x y Equal e h = val_exact x y (sym e)
is_same x y Greater e h = cc

pub returns : goal.returns
returns c =
    let e = c.eq.ensures in (
      λ h. is_same _ _ c.order.result c.order.ensures (sym c.eq.ensures ∙ h),
      λ h. rw (c.eq.ensures, c.order.ensures, ← h, val_same (view c.args.a.now)) refl,
    )
