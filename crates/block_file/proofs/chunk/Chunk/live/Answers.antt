use Rattle.std.proofs.Common.{◌≡◌, ℕ, ◌-◌, ◌^◌, length, refl, sym, ap, ◌∙◌, arith}
use Rattle.block_file.proofs.Lanes.{lanes_long, lane_bits}
use Rattle.block_file.proofs.chunk.Chunk.live.Goals as goal

pub returns-then-self-eq16-clause-lanes : goal.returns-then-self-eq16-clause-lanes
returns-then-self-eq16-clause-lanes c =
    let long = lanes_long c.self.inside.rows c.self.inside.count c.self.invariant.1 c.self.invariant.0 in
    let all : length c.args.self.now ≡ 16 = ap length (sym c.self.view_is) ∙ long ∙ c.if-self-eq16.true in
    rw all refl

pub returns-else-self-eq16-clause-lanes : goal.returns-else-self-eq16-clause-lanes
returns-else-self-eq16-clause-lanes c =
    let long = lanes_long c.self.inside.rows c.self.inside.count c.self.invariant.1 c.self.invariant.0 in
    let all : length c.args.self.now ≡ c.self.inside.count = ap length (sym c.self.view_is) ∙ long in
    lane_bits c.self.inside.count (omega arith) ∙ ap (λ (n : ℕ). 2 ^ n - 1) (sym all)
