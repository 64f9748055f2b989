use Rattle.std.proofs.Common.{sym, ◌∙◌, ap, length}
use Rattle.query_tree.specs.Queries.{outs_view}
use Rattle.plan_lower.specs.Ends.{names_of}
use Rattle.plan_lower.proofs.OutputNames.{names_of_star, length_of_names}
use Rattle.plan_lower.proofs.named_outputs.emit_outs.Goals as goal

pub emit_items-requires-clause-names : goal.emit_items-requires-clause-names
emit_items-requires-clause-names c = ap length c.requires.names ∙ length_of_names (outs_view c.args.outputs.now) c.in-Named.items (ap outs_view c.in-Named.is)

pub returns-in-Star-clause-names : goal.returns-in-Star-clause-names
returns-in-Star-clause-names c = ap names_of c.new.ensures ∙ sym (c.requires.names ∙ names_of_star (outs_view c.args.outputs.now) (ap outs_view c.in-Star.is))
