use Rattle.std.proofs.Common.{◌∙◌, sym, subst, List, arith, ◌≤◌, length}
use Rattle.file_meaning.specs.Files.{Entry}
use Rattle.scan_files.specs.Places.{file_at}
use Rattle.check_blocks.specs.Tested.{IsIndexed}
use Rattle.check_blocks.proofs.Finding.{at_is, placed, good_next, bad_here, none_bad, renamed}
use Rattle.check_blocks.proofs.scan.first_bad.Goals as goal

pub test_place-requires-clause-placed : goal.test_place-requires-clause-placed
test_place-requires-clause-placed g c = λ files is.
    let es = c.as_slice-entries.result.now in
    let e = c.index-entries-number.result in
    let at = at_is es c.loop-number.number _ e c.loop-number-test.true c.index-entries-number.is in
    let indexed = subst (λ (l : List Entry). IsIndexed (file_at files c.args.names.now c.args.file) c.args.index.now.field l) (sym c.as_slice-entries.ensures) (c.requires.indexed files (sym c.loop-number.invariant.told ∙ is)) in
    placed files c.args.names.now c.args.file c.loop-number.number c.loop-number.number c.args.index.now.field es e at indexed

pub returns-in-Ok-true-clause-found : goal.returns-in-Ok-true-clause-found
returns-in-Ok-true-clause-found g c = λ files is bytes there.
    let es = c.as_slice-entries.result.now in
    let e = c.index-entries-number.result in
    let at = at_is es c.loop-number.number _ e c.loop-number-test.true c.index-entries-number.is in
    let tested = c.in-Ok-true.ensures.tested files (c.loop-number.invariant.told ∙ is) bytes there in
    renamed c.args.file bytes _ _ _ _ _ c.as_str-field.ensures c.as_slice-entries.ensures
    (bad_here c.args.file bytes c.as_str-field.result.now es c.loop-number.number e at (c.loop-number.invariant.good files is bytes there) (sym c.in-Ok-true.field-0-test ∙ tested))

pub loop-number-preserved : goal.loop-number-preserved
loop-number-preserved g c =
    let es = c.as_slice-entries.result.now in
    let e = c.index-entries-number.result in
    let at = at_is es c.loop-number.number _ e c.loop-number-test.true c.index-entries-number.is in
    let before = c.loop-number.invariant.faults in
    let later = c.test_place.ensures.fault.later in
    record {
      told = c.test_place.ensures.told ∙ c.loop-number.invariant.told;
      same_misses = c.test_place.ensures.same_misses ∙ c.loop-number.invariant.same_misses;
      same_write_faults = c.test_place.ensures.same_write_faults ∙ c.loop-number.invariant.same_write_faults;
      faults = omega arith;
      good = λ files is bytes there.
          let tested = c.in-Ok-false.ensures.tested files (c.loop-number.invariant.told ∙ is) bytes there in
          good_next c.args.file bytes c.as_str-field.result.now es c.loop-number.number e at (c.loop-number.invariant.good files is bytes there) (sym c.in-Ok-false.field-0-test ∙ tested);
    }

pub returns-clause-found : goal.returns-clause-found
returns-clause-found g c = λ files is bytes there.
    let es = c.as_slice-entries.result.now in
    let last = c.loop-number-test.false in
    let all : length es ≤ c.loop-number.number = omega arith in
    renamed c.args.file bytes _ _ _ _ _ c.as_str-field.ensures c.as_slice-entries.ensures
    (none_bad c.args.file bytes c.as_str-field.result.now es c.loop-number.number all (c.loop-number.invariant.good files is bytes there))
