use Rattle.std.proofs.lemmas.List.Sorted.{IsPermutation-sym, IsPermutation-trans}
use Rattle.answer_meaning.proofs.order_of_made_rows_is_free.Goals as goal

pub returns : goal.returns
returns c falling skip limit made others outputs same answer =
    record {
      arrangement = answer.arrangement;
      permutes = IsPermutation-trans others made answer.arrangement (IsPermutation-sym made others same) answer.permutes;
      sorted = answer.sorted;
      cut = answer.cut;
    }
