-- Each kind of step is one event of the machine.
use Rattle.std.proofs.Common.{◌≡◌, ℕ, ◌+◌, ◌%◌, ◌^◌, ◌<◌, min, Option, Some, List, map, get_or, set, sym, ap, ◌∙◌, arith, get_or-set_same, get_or-set_other, if◌then◌else◌}
use Rattle.std.proofs.lemmas.List.{map-set}
use mathlib.Core.Option.{some}
use mathlib.Core.Logic.{dite}
use native.Mathlib.Decide.{dec_lt}
use lib.ListN.{get_elem?}
use Rattle.atomic_table.specs.Table.{State}
use Rattle.scan_core.specs.declared.view.ScanView.{ScanView}
use Rattle.scan_core.specs.declared.event.ScanEvent.TheVariants as event
use Rattle.scan_core.specs.Board.{Scan, lesser, empty_view, claimed, ending, reported, harmed, saw_rows, saw_damage}
use Rattle.scan_core.specs.Events.{at, with, after}
use Rattle.scan_core.proofs.Keeping.{changed, rows_bound}
use Rattle.scan_core.proofs.Running.{lt_true, lt_false}
use Rattle.scan_board.specs.declared.running.Running.{Running}
use Rattle.scan_board.specs.declared.running.BoardKey.{BoardKey}
use Rattle.scan_board.specs.Damage.{damage_of}
use Rattle.scan_board.specs.Rule.{shown, Claims, Reports, Harms, LooksAtRows, LooksAtDamage}
use Rattle.scan_board.specs.Steps.{IsEvent}
use Rattle.scan_board.proofs.Moves.{view_at, past_in_seats, damage-min}
use Rattle.scan_board.proofs.Joining.{at_is}

after_room : (s : Scan) (k : ℕ) → s.next < s.blocks → after s (event.Claim k) ≡ changed s k (claimed (at s k) s.next) (s.next + 1) s.rows s.damage
after_room s k h = ap (λ b. if b then with s k (claimed (at s k) s.next) (s.next + 1) s.rows s.damage else with s k (ending (at s k)) s.next s.rows s.damage) (lt_true s.next s.blocks h)

after_full : (s : Scan) (k : ℕ) → (s.next < s.blocks → ⊥) → after s (event.Claim k) ≡ changed s k (ending (at s k)) s.next s.rows s.damage
after_full s k h = ap (λ b. if b then with s k (claimed (at s k) s.next) (s.next + 1) s.rows s.damage else with s k (ending (at s k)) s.next s.rows s.damage) (lt_false s.next s.blocks h)

module _ (key : BoardKey) where
  abbrev St : Type 0
  St = State (Unit {0}) Running

  -- what is shown once a seat's view and the words have changed
  shown_put : (s : St) (id : ℕ) (w : Running) (v : ScanView) (words : List ℕ) (homes : List _) (n r : ℕ) (d : Option ℕ)
      → w.view ≡ v → min (get_or words 0 0) key.blocks ≡ n → get_or words 1 0 ≡ r → damage_of (get_or words 2 0) ≡ d
      → shown key record { words = words; homes = homes; views = set s.views id w } ≡ changed (shown key s) id v n r d
  shown_put s id w v words homes n r d is_v is_n is_r is_d =
      ap (λ (z : ℕ × ℕ × Option ℕ × List ScanView). let t : Scan = record { blocks = key.blocks; enough = key.enough; next = z.0; rows = z.1; damage = z.2; views = z.3 } in t)
      (λ i. (is_n i, is_r i, is_d i, (map-set (λ (q : Running). q.view) s.views id w ∙ ap (set (map (λ (q : Running). q.view) s.views) id) is_v) i))

  view_is : (s : St) (id : ℕ) (m : Running) → get_elem? s.views id ≡ some m → m.view ≡ at (shown key s) id
  view_is s id m there = sym (at_is (shown key s).views id m.view empty_view (view_at key s id m there))

  pub event_claim : IsEvent key 0 1 (λ n. (n + 1) % 2 ^ 64) Claims event.Claim
  event_claim s t id m w h one may st = let x : ℕ = get_or s.words 0 0 in let few = past_in_seats key s h in let drawn = h.drawn in let small = h.small.0 in let three = h.three in
      let blocks = (h.each id m st.there).blocks (omega arith) in
      let fits : (x + 1) % 2 ^ 64 ≡ x + 1 = omega arith in
      let same0 = get_or-set_same s.words 0 ((x + 1) % 2 ^ 64) 0 (omega arith) in
      let same1 = get_or-set_other s.words 0 1 ((x + 1) % 2 ^ 64) 0 (λ e. omega arith) in
      let same2 = get_or-set_other s.words 0 2 ((x + 1) % 2 ^ 64) 0 (λ e. omega arith) in
      let here = view_is s id m st.there in
      ap (shown key) st.after ∙ dite (dec_lt x key.blocks)
      (λ room. let next : x ≡ (shown key s).next = omega arith in
      shown_put s id w (claimed (at (shown key s) id) (shown key s).next) (set s.words 0 ((x + 1) % 2 ^ 64)) s.homes ((shown key s).next + 1) (get_or s.words 1 0) (damage_of (get_or s.words 2 0))
      (ap (λ (q : Running). q.view) (st.tells.1 (omega arith)).0 ∙ (λ i. claimed (here i) (next i))) (omega arith) same1 (ap damage_of same2)
      ∙ sym (after_room (shown key s) id (omega arith)))
      (λ full. shown_put s id w (ending (at (shown key s) id)) (set s.words 0 ((x + 1) % 2 ^ 64)) s.homes (shown key s).next (get_or s.words 1 0) (damage_of (get_or s.words 2 0))
      (ap (λ (q : Running). q.view) (st.tells.2 (omega arith)) ∙ ap ending here) (omega arith) same1 (ap damage_of same2)
      ∙ sym (after_full (shown key s) id (λ less. full (omega arith))))

  pub event_rows : (n : ℕ) → n < 2 ^ 32 → IsEvent key 1 n (λ x. (x + n) % 2 ^ 64) Reports (λ k. event.Rows k n)
  event_rows n small_n s t id m w h one may st = let x : ℕ = get_or s.words 1 0 in let small = h.small.0 in let three = h.three in
      let bounded = h.kept.bounded in let bound = rows_bound (shown key s) h.kept in
      let fits : (x + n) % 2 ^ 64 ≡ x + n = omega arith in
      let same0 = get_or-set_other s.words 1 0 ((x + n) % 2 ^ 64) 0 (λ e. omega arith) in
      let same1 = get_or-set_same s.words 1 ((x + n) % 2 ^ 64) 0 (omega arith) in
      let same2 = get_or-set_other s.words 1 2 ((x + n) % 2 ^ 64) 0 (λ e. omega arith) in
      ap (shown key) st.after ∙ shown_put s id w (reported (at (shown key s) id) n) (set s.words 1 ((x + n) % 2 ^ 64)) s.homes (shown key s).next ((shown key s).rows + n) (shown key s).damage
      (ap (λ (q : Running). q.view) st.tells.1 ∙ ap (λ (v : ScanView). reported v n) (view_is s id m st.there)) (omega arith) (same1 ∙ fits) (ap damage_of same2)

  pub event_damage : (b : ℕ) → b < 2 ^ 32 → IsEvent key 2 b (λ x. min x b) Harms (λ k. event.Damage k b)
  event_damage b small s t id m w h one may st = let x : ℕ = get_or s.words 2 0 in let three = h.three in
      let same0 = get_or-set_other s.words 2 0 (min x b) 0 (λ e. omega arith) in
      let same1 = get_or-set_other s.words 2 1 (min x b) 0 (λ e. omega arith) in
      let same2 = get_or-set_same s.words 2 (min x b) 0 (omega arith) in
      ap (shown key) st.after ∙ shown_put s id w (harmed (at (shown key s) id) b) (set s.words 2 (min x b)) s.homes (shown key s).next (shown key s).rows (lesser (shown key s).damage (Some b))
      (ap (λ (q : Running). q.view) st.tells.1 ∙ ap (λ (v : ScanView). harmed v b) (view_is s id m st.there)) (omega arith) same1 (ap damage_of same2 ∙ damage-min key x b small)

  pub event_look_rows : IsEvent key 1 0 (λ x. x) LooksAtRows event.LookRows
  event_look_rows s t id m w h one may st = let x : ℕ = get_or s.words 1 0 in let three = h.three in
      let same0 = get_or-set_other s.words 1 0 x 0 (λ e. omega arith) in
      let same1 = get_or-set_same s.words 1 x 0 (omega arith) in
      let same2 = get_or-set_other s.words 1 2 x 0 (λ e. omega arith) in
      ap (shown key) st.after ∙ shown_put s id w (saw_rows (at (shown key s) id) x) (set s.words 1 x) s.homes (shown key s).next (shown key s).rows (shown key s).damage
      (ap (λ (q : Running). q.view) st.tells.1 ∙ ap (λ (v : ScanView). saw_rows v x) (view_is s id m st.there)) (omega arith) same1 (ap damage_of same2)

  pub event_look_damage : IsEvent key 2 0 (λ x. x) LooksAtDamage event.LookDamage
  event_look_damage s t id m w h one may st = let x : ℕ = get_or s.words 2 0 in let three = h.three in
      let same0 = get_or-set_other s.words 2 0 x 0 (λ e. omega arith) in
      let same1 = get_or-set_other s.words 2 1 x 0 (λ e. omega arith) in
      let same2 = get_or-set_same s.words 2 x 0 (omega arith) in
      ap (shown key) st.after ∙ shown_put s id w (saw_damage (at (shown key s) id) (damage_of x)) (set s.words 2 x) s.homes (shown key s).next (shown key s).rows (shown key s).damage
      (ap (λ (q : Running). q.view) st.tells.1 ∙ ap (λ (v : ScanView). saw_damage v (damage_of x)) (view_is s id m st.there)) (omega arith) same1 (ap damage_of same2)
