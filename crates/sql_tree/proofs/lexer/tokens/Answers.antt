use Rattle.std.proofs.Common.{◌≡◌, ◌≤◌, ◌-◌, ◌∙◌, length-drop, refl, arith, length, drop, take, false, get_or}
use Rattle.std.proofs.lemmas.Grind.{common_steps}
use Rattle.query_meaning.specs.Lexing.{is_space}
use Rattle.sql_tree.proofs.SpanSteps.{at_start, token_step}
use Rattle.sql_tree.proofs.lexer.tokens.Goals as goal

pub places-init : goal.places-init
places-init c = (omega arith, at_start c.args.text.now c.as_bytes-bytes.result.now c.new-all.result c.as_bytes-bytes.ensures.value c.new-all.ensures)

pub places-preserved : goal.places-preserved
places-preserved c =
    let bs = c.as_bytes-bytes.result.now in
    let place = c.places.place in
    let space : is_space (get_or bs place 0) ≡ false = cc in
    let whole : take (length bs - place) (drop place bs) ≡ drop place bs = grind (arith, common_steps) in
    let within : c.in-Ok.length ≤ length (drop place bs) = rw whole at c.in-Ok.ensures.within in
    let step = token_step bs c.places.all place (c.in-Ok.kind, c.in-Ok.length) c.places-test.true space (rw whole at c.in-Ok.ensures.value) c.in-Ok.ensures.some within in
    let fits = simp length-drop at within in
    (omega arith, c.places.invariant.1 ∙ step ∙ (rw c.in_ok-push-in-Ok.ensures.ok refl))
