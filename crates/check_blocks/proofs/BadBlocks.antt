-- One block that is tested.
use Rattle.std.proofs.Common.{◌≡◌, ℕ, Bool, true, false, cond, List, [], ◌∷◌, length, Option, Some, None, refl, sym, ap, ◌∙◌}
use Rattle.std.specs.Prelude.{is_none, unwrap_or, ◌↔◌, IsTrue, not}
use Rattle.std.specs.Option.{option_and_then}
use Rattle.value_meaning.specs.Val.{Val}
use Rattle.block_meaning.specs.Tables.{Table}
use Rattle.block_meaning.specs.Blocks.{IsBlock, IsDamaged}
use Rattle.range_meaning.specs.Excluded.{IsSoundEntry}
use Rattle.scan_meaning.specs.Blocks.{Place, Block, block_of, stored_rows, is_sound, good_rows}
use Rattle.scan_meaning.specs.Batches.{is_bad}
use Rattle.scan_meaning.proofs.Exact.{rows_exact, damaged_exact, ranges_exact}
use Rattle.snel_device.specs.Contents.{Contents}
use Rattle.scan_files.specs.Places.{Held, block_held, block_at, file_at}
use Rattle.check_blocks.specs.Tested.{block_in}

module _ (b : Block) where
  tested : (rows : List Val) (t : Bool) → stored_rows b ≡ Some rows → is_sound b.field b.place.entry rows ≡ t → good_rows b ≡ cond t (Some rows) None
  unfolding good_rows
  tested rows t stored sound = ap (λ (o : Option (List Val)). option_and_then (λ r. cond (is_sound b.field b.place.entry r) (Some r) None) o) stored ∙ ap (λ (s : Bool). cond s (Some rows) None) sound

  none_damaged : IsDamaged b.place.entry.rows b.bytes → good_rows b ≡ None
  unfolding good_rows
  none_damaged damaged = ap (λ (o : Option (List Val)). option_and_then (λ r. cond (is_sound b.field b.place.entry r) (Some r) None) o) ((damaged_exact b).1 damaged)

  bad_if : (t : Bool) (rows : List Val) → good_rows b ≡ cond t (Some rows) None → is_bad b ≡ not t
  bad_if true rows e = ap (λ (o : Option (List Val)). is_none o) e
  bad_if false rows e = ap (λ (o : Option (List Val)). is_none o) e

  sound_is : (t : Bool) (rows : List Val) → IsTrue t ↔ IsSoundEntry b.field b.place.entry rows → is_sound b.field b.place.entry rows ≡ t
  sound_is true rows both = (ranges_exact b.field b.place.entry rows).1 (both.0 refl)
  sound_is false rows both = on (is_sound b.field b.place.entry rows) refl
    where
      on : (s : Bool) → is_sound b.field b.place.entry rows ≡ s → s ≡ false
      on true is = sym (both.1 ((ranges_exact b.field b.place.entry rows).0 is))
      on false is = refl

  -- a block that was opened is bad where its range doesn't hold
  pub bad_by_range : (table : Table) (rows : List Val) (t : Bool) → IsBlock table rows b.bytes → length rows ≡ b.place.entry.rows → IsTrue t ↔ IsSoundEntry b.field b.place.entry rows → not t ≡ is_bad b
  bad_by_range table rows t block count both = sym (bad_if t rows (tested rows t ((rows_exact b rows).1 (table, block, count)) (sound_is t rows both)))

  -- a damaged block is bad
  pub bad_by_damage : IsDamaged b.place.entry.rows b.bytes → true ≡ is_bad b
  bad_by_damage damaged = sym (ap (λ (o : Option (List Val)). is_none o) (none_damaged damaged))

-- the block that was read is the one at the place
pub is_block_at : (files : Contents) (names : List (List ℕ)) (p : Place) (h : Held) (bytes field : List ℕ) → ((fields : List (List ℕ)) → block_held fields h ≡ block_at files names fields p) → file_at files names p.file ≡ Some bytes → block_in field h ≡ block_of bytes field p
unfolding block_at
is_block_at files names p h bytes field held is =
    let one = held (field ∷ []) in
    let place : h.place ≡ p = ap (λ (b : Block). b.place) one in
    let own : h.bytes ≡ (block_of bytes [] p).bytes = ap (λ (b : Block). b.bytes) one ∙ ap (λ (o : Option (List ℕ)). (block_of (unwrap_or o []) [] p).bytes) is in
    ap (λ (x : Place). record { place = x; field = field; bytes = h.bytes }) place ∙ ap (λ (l : List ℕ). record { place = p; field = field; bytes = l }) own
