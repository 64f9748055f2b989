use Rattle.std.proofs.Common.{rules, ◌∙◌, arith}
use Rattle.key_places.proofs.Putting.{one_more}
use Rattle.key_places.proofs.rows.put_all.Goals as goal

pub loop-i-preserved : goal.loop-i-preserved
loop-i-preserved c = record {
  len = c.put.ensures.len ∙ c.loop-i.invariant.len;
  reached = one_more c.loop-i.rows c.put.new.rows c.args.hashes.now c.loop-i.i c.in-Ok.number _ (c.put.ensures.reached c.if-not-put.false) (omega arith) (search rules) (search rules) c.put.ensures.others c.loop-i.invariant.reached;
}
