use Rattle.std.proofs.Common.{◌≡◌, ◌≤◌, length, arith}
use Rattle.std.proofs.lemmas.Result.{IfOk-weaker}
use Rattle.snel_values.specs.View.{views}
use Rattle.ion_write.proofs.BlockMade.{views_long, block_stands, block_light}
use Rattle.ion_write.proofs.blocks.block_of.Goals as goal

pub returns-clause-block : goal.returns-clause-block
returns-clause-block c =
    let rows = c.args.rows.now in
    let long = views_long rows in
    let some : 1 ≤ length (views rows) = omega (arith, long, c.requires.some) in
    let few : length (views rows) ≤ 65_536 = omega (arith, long, c.requires.few) in
    IfOk-weaker c.write_block.result _ _ (λ bytes w. block_stands (views rows) bytes w some few c.know_rows.ensures c.requires.writable c.requires.light) c.write_block.ensures

pub returns-clause-light : goal.returns-clause-light
returns-clause-light c = IfOk-weaker c.write_block.result _ _ (λ bytes w. block_light (views c.args.rows.now) bytes w) c.write_block.ensures
