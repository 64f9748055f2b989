use Rattle.std.proofs.Common.{arith, ◌≡◌, ap, ◌∙◌, nat_eq, nat_lt}
use Rattle.std.proofs.lemmas.Bool.Decides.{nat_tests}
use Rattle.std.specs.List.{list_any}
use Rattle.scan_core.specs.Times.{times}
use Rattle.scan_core.proofs.Counting.{any_times}
use Rattle.scan_core.proofs.view.Claims.has.Goals as goal

pub returns : goal.returns
returns c =
    let is : c.contains.result ≡ nat_lt 0 (times c.args.block c.args.self.now) =
    c.contains.ensures.value ∙ ap (list_any (λ y. nat_eq y c.args.block)) (c.deref.ensures.value ∙ c.self.view_is) ∙ any_times c.args.block c.args.self.now in
    grind (arith, nat_tests, is)
