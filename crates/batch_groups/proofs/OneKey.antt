-- One key, compared by what its register shows.
use Rattle.std.proofs.Common.{◌≡◌, ℕ, List, [], ◌∷◌, length, get_or, Bool, true, refl, sym, ap, ◌∙◌, arith}
use Rattle.std.specs.Prelude.{◌↔◌}
use Rattle.snel_values.specs.declared.value.Value.{Value}
use Rattle.snel_values.specs.View.{view, views}
use Rattle.block_meaning.specs.Tables.{Table}
use Rattle.program_meaning.specs.Registers.{value_at}
use Rattle.lane_base.specs.Shown.{Shown, value_under}
use Rattle.lane_ssa.specs.Frames.{FrameView, state_at}
use Rattle.agg_meaning.specs.Keys.{same_keys}
use Rattle.batch_groups.specs.Flat.{values_in, ShowsFirst}
use Rattle.batch_groups.proofs.KeyByKey.{one_alike}

pub one_key : (table : Table) (frame : FrameView) (registers : List ℕ) (lane : ℕ) (first : Shown) (keys : List Value) (key : Value) (o : Bool)
    → length registers ≡ 1 → length keys ≡ 1 → key ≡ get_or keys 0 key → ShowsFirst table frame registers lane first
    → (o ≡ true) ↔ (value_under table first ≡ view key) → o ≡ same_keys (values_in table frame registers lane) (views keys)
one_key table frame [] lane first keys key o h k at shows test = absurd (omega (arith, h))
one_key table frame (r ∷ s ∷ rs) lane first keys key o h k at shows test = absurd (omega (arith, h))
one_key table frame (r ∷ []) lane first [] key o h k at shows test = absurd (omega (arith, k))
one_key table frame (r ∷ []) lane first (w ∷ x ∷ ws) key o h k at shows test = absurd (omega (arith, k))
one_key table frame (r ∷ []) lane first (w ∷ []) key o h k at shows test =
    let v = value_at (state_at table frame lane) r in
    let own : value_under table first ≡ v = shows.value r refl in
    let other : view key ≡ view w = ap view at in
    one_alike (v ∷ []) (view w ∷ []) v (view w) o (omega arith) (omega arith) refl refl (λ t. sym own ∙ test.0 t ∙ other, λ e. test.1 (own ∙ e ∙ sym other))
