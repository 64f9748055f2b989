use Rattle.std.proofs.Common.{rules, w64, to_z-of_z, FitsSigned}
use Rattle.lane_field.proofs.Putting.{int_put, time_put, text_put, tree_put}
use Rattle.lane_field.proofs.load.put.Goals as goal

pub returns-in-Int : goal.returns-in-Int
returns-in-Int c i h =
    let f : FitsSigned w64 c.in-Int.number = search rules in
    let q = simp to_z-of_z at (c.put_number.ensures i) in
    rw c.in-Int.is (int_put c.args.lanes.now c.and_lane-lanes-in-Int.result.0 c.args.lane i c.requires.missing c.in-Int.number _ q (c.and_lane-lanes-in-Int.ensures i))

pub returns-in-Time : goal.returns-in-Time
returns-in-Time c i h =
    let f : FitsSigned w64 c.in-Time.micros = search rules in
    let q = simp to_z-of_z at (c.put_number-in-Time.ensures i) in
    rw c.in-Time.is (time_put c.args.lanes.now c.and_lane-lanes-in-Time.result.0 c.args.lane i c.requires.missing c.in-Time.micros _ q (c.and_lane-lanes-in-Time.ensures i))

pub returns-in-Text : goal.returns-in-Text
returns-in-Text c i h =
    rw c.in-Text.is (text_put c.args.lanes.now c.and_lane-lanes-in-Text.result.0 c.args.lane i c.requires.missing c.in-Text.bytes.now _ (c.put_span.ensures i) (c.and_lane-lanes-in-Text.ensures i))

pub returns-in-Tree : goal.returns-in-Tree
returns-in-Tree c i h =
    rw c.in-Tree.is (tree_put c.args.lanes.now c.and_lane-lanes-in-Tree.result.0 c.args.lane i c.requires.missing c.in-Tree.bytes.now _ (c.put_span-in-Tree.ensures i) (c.and_lane-lanes-in-Tree.ensures i))
