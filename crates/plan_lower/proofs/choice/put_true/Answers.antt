use Rattle.plan_lower.proofs.Showing.{put_holds}
use Rattle.plan_lower.proofs.choice.put_true.Goals as goal

pub returns : goal.returns
returns c = put_holds c.put.result c.args.builder.now c.put.new.self c.args.mask c.args.of c.put.ensures.ok c.put.ensures.number
