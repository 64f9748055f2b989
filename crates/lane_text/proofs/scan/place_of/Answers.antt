use Rattle.std.proofs.Common.{subst, sym, length}
use Rattle.std.specs.Prelude.{unwrap_or}
use Rattle.lane_text.specs.Bytewise.{folded, Halts}
use Rattle.lane_text.proofs.SignPlaces.{place_plain, place_folded}
use Rattle.lane_text.proofs.scan.place_of.Goals as goal
use Rattle.lane_text.proofs.scan.place_of.Goals.{then-fold, else-fold}

pub returns : goal.returns
returns c = subst (Halts c.args.sign (folded c.args.fold c.args.text.now)) (sym c.unwrap_or.ensures) (elim c.if-fold.branch as (λ b. Halts c.args.sign (folded c.args.fold c.args.text.now) (unwrap_or c.if-fold.found (length c.args.text.now))) [
  | then-fold w ↦ subst (λ r. Halts c.args.sign (folded c.args.fold c.args.text.now) (unwrap_or r (length c.args.text.now))) (sym w.found-is)
      (place_folded c.args.fold c.args.sign w.to_ascii_uppercase.result c.args.text.now w.memchr2-found.result w.if-fold.true w.to_ascii_uppercase.ensures.value w.memchr2-found.ensures)
  | else-fold w ↦ subst (λ r. Halts c.args.sign (folded c.args.fold c.args.text.now) (unwrap_or r (length c.args.text.now))) (sym w.found-is)
      (place_plain c.args.fold c.args.sign c.args.text.now w.memchr-found.result w.if-fold.false w.memchr-found.ensures)
])
