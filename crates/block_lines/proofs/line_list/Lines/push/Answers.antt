use Rattle.std.proofs.Common.{◌≡◌, ◌++◌, ◌∷◌, [], List, ℕ, length, ap, refl, ◌∙◌}
use Rattle.block_lines.specs.declared.line_list.Span.{Span}
use Rattle.block_lines.specs.LineSpans.{lines_at}
use Rattle.block_lines.proofs.LineBytes.{one_more, none_more, on_err}
use Rattle.block_lines.proofs.line_list.Lines.push.Goals as goal

pub returns-in_err-push-clause-err : goal.returns-in_err-push-clause-err
returns-in_err-push-clause-err c =
    let same = none_more c.self.inside.bytes c.push_all.new.self c.args.line.now c.in_ok-push_all.ensures.ok c.self.inside.spans.items c.self.invariant in
    on_err c.from_residual-in_err-push.result _ (ap (lines_at c.push_all.new.self) c.in_err-push.ensures.items ∙ same ∙ c.self.view_is)

pub returns-clause-ok : goal.returns-clause-ok
returns-clause-ok c =
    let span : Span = record { start = c.len-start.result; count = length c.args.line.now } in
    ap (lines_at c.push_all.new.self) c.in_ok-push.ensures.items
    ∙ one_more c.self.inside.bytes c.push_all.new.self c.args.line.now c.in_ok-push_all.ensures.ok c.self.inside.spans.items span c.len-start.ensures refl c.self.invariant
    ∙ ap (λ (l : List (List ℕ)). l ++ c.args.line.now ∷ []) c.self.view_is
