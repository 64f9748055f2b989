use Rattle.std.proofs.Common.{ap, ◌∙◌}
use Rattle.std.specs.Hash.DefaultHasher as sip
use Rattle.value_meaning.specs.Val.{vals}
use Rattle.key_places.specs.Hashes.{fed_vals}
use Rattle.batch_groups.proofs.lane_keys.LaneKeysRowKeys.hash.Goals as goal

pub returns : goal.returns
returns c =
    c.finish.ensures ∙ ap sip.finish (c.feed_keys.ensures c.self.inside.table.now ∙ ap (λ keys. fed_vals (vals keys) c.args.seed.now) c.self.view_is)
