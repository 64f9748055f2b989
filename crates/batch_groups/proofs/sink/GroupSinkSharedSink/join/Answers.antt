use Rattle.std.proofs.Common.{ap, sym, subst, refl, ◌∙◌}
use Rattle.hash_agg.specs.Held.{Held}
use Rattle.hash_agg.specs.Groups.{GroupsStandFor}
use Rattle.batch_groups.specs.Gathered.{Gathered}
use Rattle.batch_groups.proofs.Merged.{joins_over, joins_much, joins_both}
use Rattle.batch_groups.proofs.sink.GroupSinkSharedSink.join.Goals as goal

pub returns-then-self : goal.returns-then-self
returns-then-self c job empty rows takes begins grew =
    joins_over c.args.self.now empty c.args.other job rows begins grew (ap (λ (g : Gathered). g.over) (sym c.self.view_is) ∙ c.if-self.true)

pub returns-then-other : goal.returns-then-other
returns-then-other c job empty rows takes begins grew =
    joins_much c.args.self.now empty c.args.other job rows begins grew (ap (λ (g : Gathered). g.over) (sym c.other.view_is) ∙ c.if-other.true) _ (ap (λ (g : Gathered). g.groups) c.self.view_is) refl

pub returns : goal.returns
returns c job empty rows takes begins grew =
    joins_both c.args.self.now empty c.args.other job rows begins grew c.join_groups.result (ap (λ (g : Gathered). g.over) (sym c.other.view_is) ∙ c.if-other.false) (ap (λ (g : Gathered). g.over) (sym c.self.view_is) ∙ c.if-self.false) _
    (c.join_groups.ensures.names ∙ ap (λ (g : Gathered). g.groups.names) c.self.view_is)
    (c.join_groups.ensures.limit ∙ ap (λ (g : Gathered). g.groups.limit) c.self.view_is)
    (λ xs ys s t. c.join_groups.ensures.stand xs ys
    (subst (λ (g : Gathered). GroupsStandFor g.groups.names g.groups.entries xs) (sym c.self.view_is) s)
    (subst (λ (g : Gathered). GroupsStandFor g.groups.names g.groups.entries ys) (sym c.other.view_is) t))
