use Rattle.std.proofs.Common.{◌-◌, sym, ◌∙◌, arith}
use Rattle.time_index.proofs.Told.{no_gap, no_index, is_file, cost_tail, cost_index, sees, Reads}
use Rattle.time_index.proofs.Found.{at_some, at_none}
use Rattle.time_index.proofs.files.read_sized.Goals as goal

pub returns-in_err-tail-clause-cost : goal.returns-in_err-tail-clause-cost
returns-in_err-tail-clause-cost g c =
    cost_tail _ _ _ _ _ c.requires c.read_tail.ensures.later c.read_tail.ensures.most

pub returns-in_default-clause-no_file : goal.returns-in_default-clause-no_file
returns-in_default-clause-no_file g c = λ _.
    no_gap _ _ c.args.size c.in_ok-tail.tail c.requires c.in_ok-tail.ensures.tail (sym c.gap_in.ensures.gap ∙ c.in_default.is)

pub returns-in_default-clause-cost : goal.returns-in_default-clause-cost
returns-in_default-clause-cost g c =
    cost_tail _ _ _ _ _ c.requires c.read_tail.ensures.later c.read_tail.ensures.most

pub returns-in_err-part-clause-cost : goal.returns-in_err-part-clause-cost
returns-in_err-part-clause-cost g c =
    cost_index _ _ c.args.size c.in_ok-tail.tail c.in-Some.gap _ _ _ (sym c.gap_in.ensures.gap ∙ c.in-Some.is) c.in-Some.ensures.most c.requires c.in_ok-tail.ensures.tail c.read_tail.ensures.later c.read_tail.ensures.most c.read_part.ensures.later c.read_part.ensures.most

pub returns-in_err-index-clause-cost : goal.returns-in_err-index-clause-cost
returns-in_err-index-clause-cost g c =
    cost_index _ _ c.args.size c.in_ok-tail.tail c.in-Some.gap _ _ _ (sym c.gap_in.ensures.gap ∙ c.in-Some.is) c.in-Some.ensures.most c.requires c.in_ok-tail.ensures.tail c.read_tail.ensures.later c.read_tail.ensures.most c.read_part.ensures.later c.read_part.ensures.most

pub returns-in-Some-2-clause-cost : goal.returns-in-Some-2-clause-cost
returns-in-Some-2-clause-cost g c =
    cost_index _ _ c.args.size c.in_ok-tail.tail c.in-Some.gap _ _ _ (sym c.gap_in.ensures.gap ∙ c.in-Some.is) c.in-Some.ensures.most c.requires c.in_ok-tail.ensures.tail c.read_tail.ensures.later c.read_tail.ensures.most c.read_part.ensures.later c.read_part.ensures.most

pub returns-clause-cost : goal.returns-clause-cost
returns-clause-cost g c =
    cost_index _ _ c.args.size c.in_ok-tail.tail c.in-Some.gap _ _ _ (sym c.gap_in.ensures.gap ∙ c.in-Some.is) c.in-Some.ensures.most c.requires c.in_ok-tail.ensures.tail c.read_tail.ensures.later c.read_tail.ensures.most c.read_part.ensures.later c.read_part.ensures.most

pub returns-in-Some-2-clause-file : goal.returns-in-Some-2-clause-file
returns-in-Some-2-clause-file g c =
    let size = c.args.size in
    let tail = c.in_ok-tail.tail in
    let part = c.in_ok-part.part.items in
    let gap = c.in-Some.gap in
    let index = c.in-Some-2.index in
    let seen = sees _ _ _ size tail part gap c.read_tail.ensures.told c.requires c.in_ok-tail.ensures.tail c.in_ok-part.ensures.part in
    let reads : Reads size tail part gap = record {
      enough = omega (arith, c.if-size-lt-LEAST_FILE_BYTES.false);
      within = c.in-Some.ensures.within;
      gap_is = sym c.gap_in.ensures.gap ∙ c.in-Some.is;
      long = c.in_ok-part.ensures.count;
    } in
    is_file _ _ size tail part gap index.field index.entries reads seen c.in-Some.ensures.spelled
    (at_some (size - 12 - gap) c.deref.result.now part c.in_ok-index.field-0 index c.in-Some-2.is c.deref.ensures.value c.in_ok-index.ensures.spelled)

pub returns-clause-no_file : goal.returns-clause-no_file
returns-clause-no_file g c =
    let size = c.args.size in
    let tail = c.in_ok-tail.tail in
    let part = c.in_ok-part.part.items in
    let gap = c.in-Some.gap in
    let seen = sees _ _ _ size tail part gap c.read_tail.ensures.told c.requires c.in_ok-tail.ensures.tail c.in_ok-part.ensures.part in
    let reads : Reads size tail part gap = record {
      enough = omega (arith, c.if-size-lt-LEAST_FILE_BYTES.false);
      within = c.in-Some.ensures.within;
      gap_is = sym c.gap_in.ensures.gap ∙ c.in-Some.is;
      long = c.in_ok-part.ensures.count;
    } in
    λ _. no_index _ _ size tail part gap reads seen (at_none (size - 12 - gap) c.deref.result.now part c.in_ok-index.field-0 c.in-None.is c.deref.ensures.value c.in_ok-index.ensures.read)
