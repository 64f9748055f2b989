use Rattle.plan_lower.proofs.Showing.{put_leaves}
use Rattle.plan_lower.proofs.choice.put_minus.Goals as goal

pub returns : goal.returns
returns c = put_leaves c.put.result c.args.builder.now c.put.new.self c.args.mask c.args.less c.put.ensures.ok c.put.ensures.number
