use Rattle.std.proofs.Common.{◌≤◌, ◌^◌, Ok, refl, arith, ap, ◌∙◌}
use Rattle.json_rows.specs.LineViews.{settings_view}
use Rattle.json_pack.proofs.Fronts.{extends_none}
use Rattle.json_pack.proofs.Filling.{starts, starts_ahead, filled_accepted, filled_holds, filled_file, filled_sum, filled_front, still_filling, stop_refused, stop_before, so_far, goes_further_some, breaks_off_some, if_some}
use Rattle.json_pack.proofs.packing.fill.Goals as goal

pub returns-in_default-clause-front : goal.returns-in_default-clause-front
returns-in_default-clause-front g c = λ x is. (0, (0, extends_none _ _))

pub loop-packer-init : goal.loop-packer-init
loop-packer-init g c = record {
  ready = c.in-Ok.ensures.ready;
  filling = starts (settings_view c.args.settings.now) _ _ _ _ c.new-packer.result c.new-packer.ensures.rows c.new-packer.ensures.number c.new-packer.ensures.at (starts_ahead _ _ c.in-Ok.ensures.none) (extends_none _ _);
  within = omega (arith, c.new-packer.ensures.at);
  read_later = omega arith;
  write_later = omega arith;
  misses = refl;
  read_faults = refl;
  taken = refl;
}

pub returns-in-Ok-None-clause-file : goal.returns-in-Ok-None-clause-file
returns-in-Ok-None-clause-file g c =
    let ended = ap (λ o. Ok o) c.in-Ok-None.field-0-is in
    filled_file (settings_view c.args.settings.now) _ _ _ _ _ c.args.name.now c.pack_line.new.self (still_filling _ _ _ _ _ _ _ _ c.loop-packer.invariant.filling (c.in-Ok-None.ensures.same ended)) (c.in-Ok-None.ensures.ended ended) c.end_file.result c.end_file.ensures.file

pub returns-in-Ok-None-clause-accepted : goal.returns-in-Ok-None-clause-accepted
returns-in-Ok-None-clause-accepted g c =
    let ended = ap (λ o. Ok o) c.in-Ok-None.field-0-is in
    filled_accepted (settings_view c.args.settings.now) _ _ _ _ (g.F.Files.told c.loop-packer.files) c.args.name.now c.loop-packer.packer c.loop-packer.invariant.filling (c.in-Ok-None.ensures.ended ended) c.end_file.result

pub returns-in-Ok-None-clause-holds : goal.returns-in-Ok-None-clause-holds
returns-in-Ok-None-clause-holds g c =
    let ended = ap (λ o. Ok o) c.in-Ok-None.field-0-is in
    filled_holds (settings_view c.args.settings.now) _ _ _ _ (g.F.Files.told c.loop-packer.files) c.args.name.now c.loop-packer.packer c.loop-packer.invariant.filling (c.in-Ok-None.ensures.ended ended) c.end_file.result

pub returns-in-Ok-None-clause-sum : goal.returns-in-Ok-None-clause-sum
returns-in-Ok-None-clause-sum g c =
    let ended = ap (λ o. Ok o) c.in-Ok-None.field-0-is in
    filled_sum (settings_view c.args.settings.now) _ _ _ _ (g.F.Files.told c.loop-packer.files) c.args.name.now c.pack_line.new.self (still_filling _ _ _ _ _ _ _ _ c.loop-packer.invariant.filling (c.in-Ok-None.ensures.same ended)) (c.in-Ok-None.ensures.ended ended) c.end_file.result c.end_file.ensures.sum

pub returns-in-Ok-None-clause-front : goal.returns-in-Ok-None-clause-front
returns-in-Ok-None-clause-front g c =
    let ended = ap (λ o. Ok o) c.in-Ok-None.field-0-is in
    filled_front (settings_view c.args.settings.now) _ _ _ _ _ c.args.name.now c.pack_line.new.self (still_filling _ _ _ _ _ _ _ _ c.loop-packer.invariant.filling (c.in-Ok-None.ensures.same ended)) (c.in-Ok-None.ensures.ended ended) c.end_file.result c.end_file.ensures.broken

pub returns-in-Err-clause-refused : goal.returns-in-Err-clause-refused
returns-in-Err-clause-refused g c = stop_refused (settings_view c.args.settings.now) _ _ _ _ c.args.name.now c.loop-packer.packer _ c.loop-packer.invariant.filling c.in-Err.ensures.refused

pub returns-in-Err-clause-before : goal.returns-in-Err-clause-before
returns-in-Err-clause-before g c = stop_before (settings_view c.args.settings.now) _ _ _ _ c.args.name.now c.loop-packer.packer _ c.loop-packer.invariant.filling c.in-Err.ensures.refused

pub returns-in-Err-clause-front : goal.returns-in-Err-clause-front
returns-in-Err-clause-front g c = so_far (settings_view c.args.settings.now) _ _ _ _ c.args.name.now c.loop-packer.packer c.loop-packer.invariant.filling

pub returns-in-Err-put_piece-clause-front : goal.returns-in-Err-put_piece-clause-front
returns-in-Err-put_piece-clause-front g c =
    breaks_off_some (settings_view c.args.settings.now) _ _ _ _ _ _ c.args.name.now c.in-Ok-Some.closed _ c.loop-packer.packer c.pack_line.new.self _ c.loop-packer.invariant.filling c.in-Ok-Some.field-0-is c.in-Ok-Some.ensures.goes c.as_slice.ensures c.in-Err-put_piece.ensures.cut

pub loop-packer-preserved : goal.loop-packer-preserved
loop-packer-preserved g c = record {
  ready = c.in-Ok-Some.ensures.ready;
  filling = goes_further_some (settings_view c.args.settings.now) _ _ _ _ _ _ c.args.name.now c.in-Ok-Some.closed _ c.loop-packer.packer c.pack_line.new.self _ c.loop-packer.invariant.filling c.in-Ok-Some.field-0-is c.in-Ok-Some.ensures.goes c.as_slice.ensures c.in-Ok-put_piece.ensures.grown;
  within = if_some (λ _. c.pack_line.new.self.at ≤ 2 ^ 42) _ _ c.in-Ok-Some.field-0-is c.in-Ok-Some.ensures.within;
  read_later = omega (arith, c.loop-packer.invariant.read_later, c.in-Ok-Some.ensures.fault.later);
  write_later = omega (arith, c.loop-packer.invariant.write_later, c.in-Ok-put_piece.ensures.fault.later);
  misses = c.in-Ok-put_piece.ensures.same_misses ∙ c.loop-packer.invariant.misses;
  read_faults = c.in-Ok-put_piece.ensures.same_read_faults ∙ c.loop-packer.invariant.read_faults;
  taken = c.in-Ok-put_piece.ensures.same_taken ∙ c.loop-packer.invariant.taken;
}
