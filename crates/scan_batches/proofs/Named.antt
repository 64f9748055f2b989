-- The first bad block of a batch, by its numbers.
use Rattle.std.proofs.Common.{◌≡◌, ℕ, zero, suc, ◌<◌, List, [], ◌∷◌, length, Option, Some, refl, sym, ap, ◌∙◌, subst, arith}
use Rattle.std.specs.Prelude.{slice_get, Err, IsErrOf, ◌≤◌}
use Rattle.std.specs.Option.{ForSome}
use Rattle.snel_device.specs.Contents.{Contents}
use Rattle.snel_device.specs.Causes.{HasCause}
use Rattle.scan_meaning.specs.Blocks.{Place, Block}
use Rattle.scan_meaning.specs.Batches.{first_bad}
use Rattle.scan_files.specs.Places.{Held, block_held, blocks_held, blocks_at}
use Rattle.scan_batches.specs.Scans.{SaysOfBatch, NamesBlock, IsReading}
use Rattle.scan_batches.specs.declared.fault.BatchFault.TheVariants.{Bad}
use Rattle.scan_batches.specs.declared.fault.ScanFault.{ScanFault}
use Rattle.scan_batches.specs.declared.fault.ScanFault.TheVariants.{Damaged, ReadFault}

-- the bytes that the numbered block was read to
held_at : (fields : List (List ℕ)) (hs : List Held) (k : ℕ) (b : Block) → slice_get (blocks_held fields hs) k ≡ Some b → (h : Held) × (slice_get hs k ≡ Some h) × (b ≡ block_held fields h)
held_at fields [] k b at = absurd (cc)
held_at fields (h ∷ hs) zero b at = (h, refl, cc)
held_at fields (h ∷ hs) (suc k) b at = held_at fields hs k b at

within : {A : Type 0} (xs : List A) (k : ℕ) (x : A) → slice_get xs k ≡ Some x → k < length xs
within [] k x at = absurd (cc)
within (y ∷ ys) zero x at = omega arith
within (y ∷ ys) (suc k) x at = let h = within ys k x at in omega arith

fault_is : {T : Type 0} (f g : ScanFault) → IsErrOf {T = T} {E = ScanFault} (Err f) g → f ≡ g
fault_is f g e = cc

module _ (fields : List (List ℕ)) (hs seen : List Held) (lent : seen ≡ hs) (k : ℕ) (says : SaysOfBatch (blocks_held fields seen) (Bad k)) where
  pub found : (h : Held) × (slice_get seen k ≡ Some h) × (says.0 ≡ block_held fields h)
  found = held_at fields seen k says.0 says.1

  pub is_within : (again : List Held) → again ≡ hs → k < length again
  is_within again same = within again k found.0 (ap (λ (l : List Held). slice_get l k) (same ∙ sym lent) ∙ found.1)

  module _ (again : List Held) (same : again ≡ hs) (fault : ScanFault) (names_it : (h : Held) → slice_get again k ≡ Some h → fault ≡ Damaged h.place.file h.place.block) where
    pub is_damaged : fault ≡ Damaged (found.0).place.file (found.0).place.block
    is_damaged = names_it found.0 (ap (λ (l : List Held). slice_get l k) (same ∙ sym lent) ∙ found.1)

    pub reading : IsReading fault
    reading = subst (λ (f : ScanFault). IsReading f) (sym is_damaged) tt

    pub no_read_fault : {T : Type 0} (before now : ℕ) → before ≤ now → HasCause before now (IsErrOf {T = T} {E = ScanFault} (Err fault) ReadFault)
    no_read_fault before now le = record { later = le; rose = λ e. absurd (other (sym is_damaged ∙ fault_is fault ReadFault e)) }
      where
        other : Damaged (found.0).place.file (found.0).place.block ≡ ReadFault → ⊥
        other e = cc

    pub names : (told before : Option Contents) (at : List (List ℕ)) (ps : List Place) → ForSome told (λ files. (fs : List (List ℕ)) → blocks_held fs hs ≡ blocks_at files at fs ps) → ForSome told (λ files. NamesBlock fault (λ b. first_bad (blocks_at files at fields ps) ≡ Some b))
    names told before at ps are = λ files is.
        let same_blocks : blocks_held fields seen ≡ blocks_at files at fields ps = ap (λ (l : List Held). blocks_held fields l) lent ∙ are files is fields in
        let by_place : says.0 ≡ block_held fields found.0 = found.2 in
        subst (λ (f : ScanFault). NamesBlock f (λ b. first_bad (blocks_at files at fields ps) ≡ Some b)) (sym is_damaged)
        (says.0, record { of_file = ap (λ (b : Block). b.place.file) by_place; of_block = ap (λ (b : Block). b.place.block) by_place }, ap (λ (l : List Block). first_bad l) (sym same_blocks) ∙ says.2)
