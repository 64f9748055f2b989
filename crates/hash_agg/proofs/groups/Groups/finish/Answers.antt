use Rattle.std.proofs.Common.{◌∙◌, ap, map}
use Rattle.hash_agg.specs.Held.{Held}
use Rattle.hash_agg.specs.Finished.{row_of}
use Rattle.hash_agg.proofs.Finishing.{all_rows}
use Rattle.hash_agg.proofs.groups.Groups.finish.Goals as goal

pub returns : goal.returns
returns c =
    c.in_ok-rows.ensures ∙ all_rows c.self.inside.aggs.items c.self.inside.all.items c.self.invariant.1 ∙ ap (λ (h : Held). map (row_of h.names) h.entries) c.self.view_is
