use Rattle.std.proofs.Common.{◌≡◌, ◌+◌, ◌-◌, ◌++◌, ◌∷◌, [], List, ℕ, ap, sym, subst, ◌∙◌, arith}
use Rattle.block_lines.specs.declared.line_list.Span.{Span}
use Rattle.block_lines.specs.LineSpans.{lines_at, AreSpansIn}
use Rattle.block_lines.specs.RowLines.{line_of}
use Rattle.block_lines.proofs.LineBytes.{row_there, no_shorter, count_is, one_more, one_more_in}
use Rattle.block_lines.proofs.line_list.Lines.push_row.Goals as goal

pub overflow_sub-count : goal.overflow_sub-count
overflow_sub-count c =
    let here = row_there c.args.block.now.1 c.args.first c.args.lane c.requires.lane c.requires.within in
    let next = c.in-Ok.ensures here.0 here.1 in
    omega (arith, c.len-start.ensures, c.len.ensures, no_shorter c.self.inside.bytes c.append_line.new.into (line_of c.args.frame.now.job here.0) next)

pub invariant_of-self-in-Ok-push : goal.invariant_of-self-in-Ok-push
invariant_of-self-in-Ok-push c =
    let here = row_there c.args.block.now.1 c.args.first c.args.lane c.requires.lane c.requires.within in
    let line = line_of c.args.frame.now.job here.0 in
    let next = c.in-Ok.ensures here.0 here.1 in
    let count = count_is c.self.inside.bytes c.append_line.new.into line next c.len-start.result c.len.result c.len-start.ensures c.len.ensures in
    let span : Span = record { start = c.len-start.result; count = c.len.result - c.len-start.result } in
    subst (AreSpansIn c.append_line.new.into) (sym c.in-Ok-push.ensures.items)
    (one_more_in c.self.inside.bytes c.append_line.new.into line next c.self.inside.spans.items span c.len-start.ensures count c.self.invariant)

pub returns-clause-ok : goal.returns-clause-ok
returns-clause-ok c row e =
    let line = line_of c.args.frame.now.job row in
    let next = c.in-Ok.ensures row e in
    let count = count_is c.self.inside.bytes c.append_line.new.into line next c.len-start.result c.len.result c.len-start.ensures c.len.ensures in
    let span : Span = record { start = c.len-start.result; count = c.len.result - c.len-start.result } in
    ap (lines_at c.append_line.new.into) c.in-Ok-push.ensures.items
    ∙ one_more c.self.inside.bytes c.append_line.new.into line next c.self.inside.spans.items span c.len-start.ensures count c.self.invariant
    ∙ ap (λ (l : List (List ℕ)). l ++ line ∷ []) c.self.view_is
