use Rattle.std.proofs.Common.{sym, ap, ◌∙◌}
use Rattle.lane_base.specs.Registers.{seen}
use Rattle.snel_values.specs.View.{views}
use Rattle.agg_meaning.specs.Keys.{same_keys}
use Rattle.batch_groups.proofs.OneKey.{one_key}
use Rattle.batch_groups.proofs.lane_keys.LaneKeysRowKeys.are.Goals as goal

pub returns-then-keys-eq1 : goal.returns-then-keys-eq1
returns-then-keys-eq1 c =
    let k = c.self.inside in
    one_key k.table.now k.frame.now k.registers.now k.lane (seen k.first) c.args.keys.now c.index-keys-0.result c.same_look.result (sym c.len.ensures ∙ c.if-len-eq1.true) c.if-keys-eq1.true c.index-keys-0.is c.self.invariant.1 (c.same_look.ensures k.table.now)
    ∙ ap (λ keys. same_keys keys (views c.args.keys.now)) c.self.view_is

pub returns-else-len-eq1 : goal.returns-else-len-eq1
returns-else-len-eq1 c = c.are_keys.ensures c.self.inside.table.now ∙ ap (λ keys. same_keys keys (views c.args.keys.now)) c.self.view_is
