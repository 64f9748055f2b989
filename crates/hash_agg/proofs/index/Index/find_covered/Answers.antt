use Rattle.std.proofs.Common.{rules, ap, map, length, arith}
use Rattle.hash_agg.specs.Entries.{entry_of}
use Rattle.hash_agg.proofs.Covering.{none_covered, row_passed, row_ends}
use Rattle.hash_agg.proofs.index.Index.find_covered.Goals as goal

pub returns-in-Some-free_place : goal.returns-in-Some-free_place
returns-in-Some-free_place w c =
    row_ends c.args.self.now (map entry_of c.args.all.now) (w.K.RowKeys.values c.args.keys.now) c.hash-hash.result c.loop-step.step c.row_at.result c.as_slice-hashes.result.now c.as_slice-rows.result.now _ c.in_default.ensures c.as_slice-hashes.ensures.value c.as_slice-rows.ensures.value c.row_at.ensures.is c.row_at.ensures.within (search rules) c.loop-step.invariant
    c.in-Some-free_place._free c.in-Some-free_place.ensures.0 c.in-Some-free_place.ensures.1 c.requires c.hash-hash.ensures

pub loop-step-preserved : goal.loop-step-preserved
loop-step-preserved w c =
    row_passed c.args.self.now (map entry_of c.args.all.now) (w.K.RowKeys.values c.args.keys.now) c.hash-hash.result c.loop-step.step c.row_at.result c.as_slice-hashes.result.now c.as_slice-rows.result.now _ c.in_default.ensures c.as_slice-hashes.ensures.value c.as_slice-rows.ensures.value c.row_at.ensures.is c.row_at.ensures.within (search rules) c.loop-step.invariant

pub returns : goal.returns
returns w c =
    none_covered c.args.self.now (map entry_of c.args.all.now) (w.K.RowKeys.values c.args.keys.now) c.hash-hash.result c.loop-step.step c.requires c.hash-hash.ensures c.loop-step.invariant (λ s late below full.
    let long = ap length c.as_slice-rows.ensures.value in
    let done = c.loop-step-test.false in
    omega arith)
