use Rattle.std.proofs.Common.{◌≡◌, ◌∙◌, ◌+◌, ◌<◌, ◌≤◌, ℕ, suc, refl, subst, arith, length}
use Rattle.query_run.proofs.CheckedFiles.{Progress, begins, goes_on, ends_here, caused_here, all_sound}
use Rattle.query_run.proofs.OneChecked.{some_at}
use Rattle.query_run.proofs.checking.check_files.Goals as goal

pub loop-number-init : goal.loop-number-init
loop-number-init g c = record {
  told = refl;
  same_write_faults = refl;
  misses = omega arith;
  read_faults = omega arith;
  faults = omega arith;
  progress = λ files is. begins files c.args.names.now (g.O.Out.holds c.args.out.now);
}

pub returns-in-Err-clause-ends : goal.returns-in-Err-clause-ends
returns-in-Err-clause-ends g c = λ files is verdict found.
    let names = c.args.names.now in
    let k = c.loop-number.number in
    let lt = c.loop-number-test.true in
    let count = c.len-number-end.ensures in
    let here : k < length names = omega arith in
    let name = some_at names k here in
    ends_here files names k name.0 name.1 (g.O.Out.holds c.args.out.now) (g.O.Out.holds c.loop-number.out) (g.O.Out.holds c.check_file.new.out)
    (c.loop-number.invariant.progress files is) c.in-Err.fault (c.in-Err.ensures.says files (c.loop-number.invariant.told ∙ is) name.0 name.1)

pub returns-in-Err-clause-cause : goal.returns-in-Err-clause-cause
returns-in-Err-clause-cause g c =
    let names = c.args.names.now in
    let k = c.loop-number.number in
    let lt = c.loop-number-test.true in
    let count = c.len-number-end.ensures in
    let here : k < length names = omega arith in
    let name = some_at names k here in
    caused_here (Unit {0}) names (g.F.Files.told c.args.files.now) k name.0 name.1 (g.O.Out.holds c.args.out.now) (g.O.Out.holds c.loop-number.out) (g.O.Out.holds c.check_file.new.out)
    c.loop-number.invariant.progress c.in-Err.fault c.in-Err.ensures.of_files (λ files is. c.in-Err.ensures.says files (c.loop-number.invariant.told ∙ is) name.0 name.1)

pub loop-number-preserved : goal.loop-number-preserved
loop-number-preserved g c =
    let names = c.args.names.now in
    let k = c.loop-number.number in
    let lt = c.loop-number-test.true in
    let count = c.len-number-end.ensures in
    let here : k < length names = omega arith in
    let name = some_at names k here in
    let next : suc k ≡ k + 1 = omega arith in
    let misses = c.loop-number.invariant.misses in
    let more_misses = c.check_file.ensures.absent.later in
    let reads = c.loop-number.invariant.read_faults in
    let more_reads = c.check_file.ensures.read_fault.later in
    let faults = c.loop-number.invariant.faults in
    let more_faults = c.check_file.ensures.write_fault.later in
    record {
      told = c.check_file.ensures.told ∙ c.loop-number.invariant.told;
      same_write_faults = c.check_file.ensures.same_write_faults ∙ c.loop-number.invariant.same_write_faults;
      misses = omega arith;
      read_faults = omega arith;
      faults = omega arith;
      progress = λ files is. subst (λ (n : ℕ). Progress files names n (g.O.Out.holds c.args.out.now) (g.O.Out.holds c.check_file.new.out)) next
          (goes_on files names k name.0 name.1 (g.O.Out.holds c.args.out.now) (g.O.Out.holds c.loop-number.out) (g.O.Out.holds c.check_file.new.out)
          (c.loop-number.invariant.progress files is) (c.in-Ok.ensures.says files (c.loop-number.invariant.told ∙ is) name.0 name.1));
    }

pub returns-clause-ends : goal.returns-clause-ends
returns-clause-ends g c = λ files is verdict found.
    let last = c.loop-number-test.false in
    let count = c.len-number-end.ensures in
    let done : length c.args.names.now ≤ c.loop-number.number = omega arith in
    (all_sound files c.args.names.now c.loop-number.number (g.O.Out.holds c.args.out.now) (g.O.Out.holds c.loop-number.out) done (c.loop-number.invariant.progress files is)).1

pub returns-clause-cause : goal.returns-clause-cause
returns-clause-cause g c = λ files is.
    let last = c.loop-number-test.false in
    let count = c.len-number-end.ensures in
    let done : length c.args.names.now ≤ c.loop-number.number = omega arith in
    (all_sound files c.args.names.now c.loop-number.number (g.O.Out.holds c.args.out.now) (g.O.Out.holds c.loop-number.out) done (c.loop-number.invariant.progress files is)).0
