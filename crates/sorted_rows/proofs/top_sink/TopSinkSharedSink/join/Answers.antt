use Rattle.std.proofs.lemmas.Result.{on_ok_weaker}
use Rattle.std.proofs.lemmas.List.Sorted.{IsPermutation-refl}
use Rattle.sorted_rows.proofs.Adding.{joined}
use Rattle.sorted_rows.proofs.top_sink.TopSinkSharedSink.join.Goals as goal

pub returns : goal.returns
returns c job empty rows takes fresh grew =
    on_ok_weaker c.join.result
    (λ stands. record {
      order = rows;
      permutes = IsPermutation-refl rows;
      grew_by = joined c.args.self.now.top c.join.new.self empty.top c.args.other.top job rows fresh grew c.join.ensures.falling c.join.ensures.most stands;
    })
    c.join.ensures.stands
