use Rattle.block_file.proofs.Lanes.{lane_shows}
use Rattle.block_file.proofs.chunk.Chunk.row.Goals as goal

pub returns : goal.returns
returns c =
    lane_shows c.self.inside.rows c.self.inside.count c.args.lane c.lane_of.result c.bytes.result.now c.args.self.now c.self.view_is c.requires c.self.invariant.1 c.self.invariant.0 c.lane_of.ensures c.bytes.ensures.bytes
