use Rattle.std.proofs.Common.{◌≡◌, ◌∙◌, ◌<◌, sym, ap, true, length, arith}
use Rattle.agg_meaning.specs.Keys.{same_keys}
use Rattle.agg_meaning.proofs.Keys.{same_keys-exact}
use Rattle.hash_agg.proofs.Places.{entry_at}
use Rattle.hash_agg.proofs.index.is_at.Goals as goal

pub returns-clause-at : goal.returns-clause-at
returns-clause-at w c t =
    let g = c.index-all-number.result in
    let test : same_keys (w.K.RowKeys.values c.args.keys.now) g.keys ≡ true = ap (same_keys (w.K.RowKeys.values c.args.keys.now)) (sym c.as_slice.ensures) ∙ sym c.are.ensures ∙ t in
    let below : c.args.number < length c.args.all.now = let few = c.requires.few in let here = c.if-number-hashes.false in omega arith in
    (below, λ e. ap (λ x. x.0) (entry_at c.args.all.now c.args.number g e below c.index-all-number.is) ∙ sym (same_keys-exact _ _ test))
