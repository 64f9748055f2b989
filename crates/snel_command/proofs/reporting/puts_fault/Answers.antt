use Rattle.std.proofs.Common.{subst, sym}
use Rattle.std.specs.Prelude.{OnOk}
use Rattle.std.specs.Io.KnownBytes.{Appends}
use Rattle.query_run.specs.declared.text_fault.TextFault.{TextFault}
use Rattle.snel_command.specs.Messages.{refused_words}
use Rattle.query_run.specs.TextFaults.{refused_view}
use Rattle.snel_command.proofs.reporting.puts_fault.Goals as goal

pub returns-in-Nested-clause-line : goal.returns-in-Nested-clause-line
returns-in-Nested-clause-line g c = subst (λ (f : TextFault). OnOk c.puts_at.result (Appends (g.E.Out.holds c.args.err.now) (g.E.Out.holds c.puts_at.new.err) (refused_words (refused_view f)))) (sym c.in-Nested.is) c.puts_at.ensures.line

pub returns-in-SameName-clause-line : goal.returns-in-SameName-clause-line
returns-in-SameName-clause-line g c = subst (λ (f : TextFault). OnOk c.puts_numbered.result (Appends (g.E.Out.holds c.args.err.now) (g.E.Out.holds c.puts_numbered.new.err) (refused_words (refused_view f)))) (sym c.in-SameName.is) c.puts_numbered.ensures.line

pub returns-in-NoSuchOrder-clause-line : goal.returns-in-NoSuchOrder-clause-line
returns-in-NoSuchOrder-clause-line g c = subst (λ (f : TextFault). OnOk c.puts_numbered-in-NoSuchOrder.result (Appends (g.E.Out.holds c.args.err.now) (g.E.Out.holds c.puts_numbered-in-NoSuchOrder.new.err) (refused_words (refused_view f)))) (sym c.in-NoSuchOrder.is) c.puts_numbered-in-NoSuchOrder.ensures.line
