-- Cells: which bytes denote which value (Ion 1.0, "Typed value formats", in the profile of docs/FORMAT.md).
-- One case for each line of the table of cells there.
use Rattle.std.specs.Prelude.{◌≡◌, ℕ, suc, ◌+◌, ◌*◌, ◌^◌, ◌<◌, ◌≤◌, ◌≢◌, ◌⊎◌, pos, negsuc, List, [], ◌∷◌, ◌++◌, length, Some, Contains, if◌then◌else◌}
use Rattle.std.specs.Str.{IsUtf8}
use Rattle.value_meaning.specs.Val.{Val, Vals, Fields, missing, null, truth, int, time, text, list, struct, no_vals, val, no_fields, field}
use Rattle.block_meaning.specs.declared.TheConstants.{MOST_DEPTH}
use Rattle.block_meaning.specs.Numbers.{IsVarUInt, magnitude}
use Rattle.block_meaning.specs.Timestamps.{IsTimestamp}
use Rattle.block_meaning.specs.Tables.{Table, text_of}

-- The low nibble 14 says that a VarUInt length follows. In a struct, type 13, so does 1, and there is at least one pair.
abbrev pub SaysLength : ℕ → ℕ → ℕ → Type 0
SaysLength first t n = (first ≡ 16 * t + 14) ⊎ ((first ≡ 209) × (t ≡ 13) × (0 < n))

-- the head of a cell of type t whose payload has n bytes: the length in the low nibble, or behind the first byte
abbrev pub IsHead : ℕ → ℕ → List ℕ → Type 0
IsHead t n [] = ⊥
IsHead t n (first ∷ []) = (n ≤ 13) × (first ≡ 16 * t + n) × (first ≢ 209)
IsHead t n (first ∷ v ∷ vs) = SaysLength first t n × IsVarUInt (v ∷ vs) n

-- the bytes are a cell of type t with this payload
pub record HasPayload (t : ℕ) (payload bytes : List ℕ) : Type 0 where
  pub head : List ℕ
  pub heads : IsHead t (length payload) head
  pub parts : bytes ≡ head ++ payload

-- a payload of at most so many bytes that is a magnitude
pub record IsMagnitude (most : ℕ) (payload : List ℕ) (n : ℕ) : Type 0 where
  pub short : length payload ≤ most
  pub spells : n ≡ magnitude payload

-- the types that have a null: low nibble 15
abbrev pub null_types : List ℕ
null_types = 0 ∷ 1 ∷ 2 ∷ 3 ∷ 6 ∷ 7 ∷ 8 ∷ 11 ∷ 13 ∷ []

-- The bytes are a cell that denotes the value and stands within so many lists and structs.
abbrev mutual
  pub IsCell : Table → ℕ → Val → List ℕ → Type 0
  IsCell table depth missing bytes = ⊥
  IsCell table depth null bytes = (t : ℕ) × Contains null_types t × (bytes ≡ (16 * t + 15) ∷ [])
  IsCell table depth (truth b) bytes = bytes ≡ (if b then 17 else 16) ∷ []
  IsCell table depth (int (pos n)) bytes = (payload : List ℕ) × HasPayload 2 payload bytes × IsMagnitude 8 payload n × (n < 2 ^ 63)
  IsCell table depth (int (negsuc n)) bytes = (payload : List ℕ) × HasPayload 3 payload bytes × IsMagnitude 8 payload (suc n) × (n < 2 ^ 63)
  IsCell table depth (time t) bytes = (payload : List ℕ) × HasPayload 6 payload bytes × IsTimestamp t payload
  IsCell table depth (text s) bytes =
      ((payload : List ℕ) × (number : ℕ) × HasPayload 7 payload bytes × IsMagnitude 4 payload number × (text_of table number ≡ Some s))
      ⊎ (HasPayload 8 s bytes × IsUtf8 s)
  IsCell table depth (list vs) bytes = (payload : List ℕ) × HasPayload 11 payload bytes × (depth < MOST_DEPTH) × AreCells table (suc depth) vs payload
  IsCell table depth (struct fs) bytes = (payload : List ℕ) × HasPayload 13 payload bytes × (depth < MOST_DEPTH) × ArePairs table (suc depth) 10 fs payload

  -- cells end to end
  pub AreCells : Table → ℕ → Vals → List ℕ → Type 0
  AreCells table depth no_vals bytes = bytes ≡ []
  AreCells table depth (val v vs) bytes =
      (first : List ℕ) × (rest : List ℕ) × (bytes ≡ first ++ rest) × IsCell table depth v first × AreCells table depth vs rest

  -- pairs of a label and a cell end to end, the labels strictly increasing from low on
  pub ArePairs : Table → ℕ → ℕ → Fields → List ℕ → Type 0
  ArePairs table depth low no_fields bytes = bytes ≡ []
  ArePairs table depth low (field name v fs) bytes =
      (label : ℕ) × (mark : List ℕ) × (cell : List ℕ) × (rest : List ℕ) × (bytes ≡ mark ++ (cell ++ rest)) × (low ≤ label)
      × (text_of table label ≡ Some name) × IsVarUInt mark label × IsCell table depth v cell × ArePairs table depth (suc label) fs rest
