use Rattle.std.proofs.Common.{◌∙◌, sym, ap, subst, map}
use Rattle.hash_agg.specs.Groups.{partials_at}
use Rattle.hash_agg.specs.Held.{Held}
use Rattle.hash_agg.specs.Items.{EachTwoHaveRoom}
use Rattle.hash_agg.specs.Entries.{entry_of}
use Rattle.hash_agg.proofs.groups.Groups.merge.Goals as goal

pub join_all-requires-clause-room : goal.join_all-requires-clause-room
join_all-requires-clause-room c ks ss ts a b =
    let mine = ap (λ (h : Held). partials_at ks h.entries) (sym c.self.view_is) ∙ ap (λ l. partials_at ks (map entry_of l)) (sym c.in-Ok.ensures.items) ∙ a in
    let theirs = ap (λ (h : Held). partials_at ks h.entries) (sym c.other.view_is) ∙ b in
    let names = ap (λ (h : Held). h.names) (sym c.self.view_is) ∙ sym c.as_slice-3.ensures.value in
    subst (λ ns. EachTwoHaveRoom ns ss ts) names (c.requires.room ks ss ts mine theirs)
