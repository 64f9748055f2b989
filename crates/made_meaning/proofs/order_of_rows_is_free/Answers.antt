use Rattle.std.proofs.lemmas.List.Sorted.{IsPermutation-sym, IsPermutation-trans}
use Rattle.made_meaning.specs.MadeRows.{made}
use Rattle.made_meaning.proofs.Shuffled.{made_shuffled}
use Rattle.made_meaning.proofs.order_of_rows_is_free.Goals as goal

pub returns : goal.returns
returns c q rows others outputs same answer =
    record {
      arrangement = answer.arrangement;
      permutes = IsPermutation-trans (made q others) (made q rows) answer.arrangement (IsPermutation-sym _ _ (made_shuffled q rows others same)) answer.permutes;
      sorted = answer.sorted;
      cut = answer.cut;
    }
