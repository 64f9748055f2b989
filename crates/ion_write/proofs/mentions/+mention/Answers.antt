use Rattle.std.proofs.Common.{◌≡◌, ◌+◌, ◌<◌, ◌*◌, length, suc, arith}
use Rattle.value_meaning.specs.Val.{vals, fields, size, vals_size, fields_size}
use Rattle.snel_values.specs.View.{view}
use Rattle.ion_write.proofs.Smaller.{value_smaller, pair_smaller}
use Rattle.ion_write.proofs.Mentioned.{names_next, texts_next}
use Rattle.ion_write.proofs.mentions.+mention.Goals as goal

pub mention_items-mention-requires : goal.mention_items-mention-requires
mention_items-mention-requires t c =
    let falls : suc (2 * size (view c.item-item.result)) < 2 * vals_size (vals c.args.items.now) = value_smaller _ _ _ _ c.as_slice-item-items.ensures (omega arith) c.item-item.is in
    (omega (arith, falls, c.decreases), tt)

pub mention_pairs-mention-requires : goal.mention_pairs-mention-requires
mention_pairs-mention-requires t c =
    let falls : suc (2 * size (view c.pair_at.result.1.now)) < 2 * fields_size (fields c.args.pairs.now) = pair_smaller _ _ _ _ c.pair_at.ensures in
    (omega (arith, falls, c.decreases), tt)

pub mention_pairs-loop-at-preserved : goal.mention_pairs-loop-at-preserved
mention_pairs-loop-at-preserved t c =
    let fs = c.args.pairs.now in
    let v = view c.pair_at.result.1.now in
    record {
      names = names_next fs c.loop-at.at c.pair_at.result.0 v c.loop-at.names.items c.push.new.self.items c.mention.new.names.items _ c.pair_at.ensures c.in_ok-push.ensures.items c.in_ok-mention.ensures.names c.loop-at.invariant.names;
      texts = texts_next fs c.loop-at.at c.pair_at.result.0.now v c.loop-at.texts.items c.mention.new.texts.items _ c.pair_at.ensures c.in_ok-mention.ensures.texts c.loop-at.invariant.texts;
    }
