use Rattle.std.proofs.Common.{ℕ, List, codes, OnOk, subst}
use Rattle.std.specs.Fmt.{decimal}
use Rattle.std.specs.Io.KnownBytes.{Appends}
use Rattle.snel_command.proofs.Sink.{two}
use Rattle.snel_command.proofs.reporting.puts_line_number.Goals as goal

pub returns-clause-line : goal.returns-clause-line
returns-clause-line g c =
    two c.puts-2.result _ _ _ (codes "snel: line ") (decimal c.args.number) c.in_ok-puts.ensures.line
    (subst (λ (t : List ℕ). OnOk c.puts-2.result (Appends (g.E.Out.holds c.puts.new.err) (g.E.Out.holds c.puts-2.new.err) t)) c.format.ensures.text c.puts-2.ensures.line)
