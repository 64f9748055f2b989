use Rattle.std.proofs.Common.{◌≡◌, ◌<◌, ◌∷◌, [], ◌++◌, List, Bool, length, get_or, true, false, not, sym, subst, ap, ◌∙◌, arith}
use Rattle.std.specs.Ordering.{is_lt}
use Rattle.snel_values.specs.declared.made.MadeRow.{MadeRow}
use Rattle.order_limit.specs.Padded.{padded_cmp}
use Rattle.order_limit.specs.Top.{Top, StandsFor}
use Rattle.order_limit.proofs.Heaps.{turned_off, turned_on}
use Rattle.order_limit.proofs.Joining.{none_wanted}
use Rattle.order_limit.proofs.Standing.{unwanted}
use Rattle.order_limit.proofs.top_rows.TopK.wants.Goals as goal

pub returns-then-held-eq0 : goal.returns-then-held-eq0
returns-then-held-eq0 c e rows line h =
    let f = c.self.inside.falling.items in
    let most = c.self.inside.most in
    let items = c.self.inside.rows.items in
    let keys = c.args.keys.now in
    let long : c.len-held.result ≡ length items = c.len-held.ensures ∙ c.self.inside.rows.ok.0 in
    let full : ¬ (length items < most) = λ g. absurd (omega (arith, g, long, c.if-held-self.false)) in
    let keyed = c.requires.keyed ∙ ap (λ (t : Top). length t.falling) (sym c.self.view_is) in
    subst (λ (t : Top). StandsFor t (rows ++ (keys, line) ∷ [])) c.self.view_is
    (none_wanted f most items keys (omega (arith, long, c.if-held-eq0.true)) full keyed rows line (subst (λ (t : Top). StandsFor t rows) (sym c.self.view_is) h))

pub returns : goal.returns
returns c e rows line h =
    let f = c.self.inside.falling.items in
    let most = c.self.inside.most in
    let items = c.self.inside.rows.items in
    let keys = c.args.keys.now in
    let same = ap length c.as_slice-2.ensures.value in
    let long : c.len-held.result ≡ length items = c.len-held.ensures ∙ c.self.inside.rows.ok.0 in
    let full : length items ≡ most = omega (arith, c.self.invariant.few, c.if-held-self.false, long) in
    let some : 0 < most = omega (arith, full, long, c.if-held-eq0.false) in
    let keyed = c.requires.keyed ∙ ap (λ (t : Top). length t.falling) (sym c.self.view_is) in
    let last : (m : MadeRow) → is_lt (padded_cmp f keys (get_or items 0 m).keys) ≡ false =
    λ m. turned_off _ (subst (λ (l : List MadeRow). not (is_lt (padded_cmp f keys (get_or l 0 m).keys)) ≡ true) c.as_slice-2.ensures.value
    (subst (λ (g : List Bool). not (is_lt (padded_cmp g keys (get_or c.as_slice-2.result.now 0 m).keys)) ≡ true) c.as_slice.ensures.value (sym (c.is_last.ensures m) ∙ turned_on _ e))) in
    subst (λ (t : Top). StandsFor t (rows ++ (keys, line) ∷ [])) c.self.view_is
    (unwanted f most items keys some full (c.self.invariant.heap full) last keyed rows line (subst (λ (t : Top). StandsFor t rows) (sym c.self.view_is) h))
