use Rattle.std.proofs.Common.{◌≡◌, ◌<◌, length, rules, arith}
use Rattle.lane_field.proofs.Putting.{span_put}
use Rattle.lane_field.proofs.load.put_span.Goals as goal

pub returns : goal.returns
returns c i =
    let n : length c.args.spans.now.lanes ≡ 16 = search rules in
    let k : c.args.lane < length c.args.spans.now.lanes = omega (arith, c.requires) in
    span_put c.args.spans.now.lanes c.args.lane i c.args.bytes k
