-- Lines of an input, one after the other.
use Rattle.std.specs.Prelude.{◌≡◌, ◌⊎◌, ℕ, suc, ◌-◌, ◌<◌, ◌≤◌, min, Bool, true, false, List, [], ◌∷◌, ◌++◌, length, take, drop, Option, Some, None, ⊤}
use Rattle.std.specs.Option.{option_map}
use Rattle.pack_meaning.specs.declared.TheConstants.{MOST_LINE_BYTES}
use Rattle.pack_meaning.specs.Splitting.{line_end, lines_of, content, HasNoEnd}
use Rattle.json_pack.specs.declared.reader.LineReader.{LineReader}

-- the bytes of the piece that weren't looked at yet
abbrev pub unread : LineReader → List ℕ
unread r = take (r.until - r.from) (drop r.from r.piece.items)

pub record IsReady (r : LineReader) : Type 0 where
  pub ordered : r.from ≤ r.until
  pub within : r.until ≤ length r.piece.items
  pub some : 1 ≤ length r.piece.items

-- what follows the bytes that were looked at, where the input tells what is left
abbrev pub ahead : LineReader → Option (List ℕ) → Option (List ℕ)
ahead r left = option_map (λ bytes. unread r ++ bytes) left

-- What stands before the first line end, where there is one, or all was added to the line.
abbrev pub TakesFront : Bool → List ℕ → List ℕ → List ℕ → List ℕ → Type 0
TakesFront true old new line longer = (part : List ℕ) × HasNoEnd part × (longer ≡ line ++ part) × (old ≡ part ++ line_end ∷ new)
TakesFront false old new line longer = (part : List ℕ) × HasNoEnd part × (longer ≡ line ++ part) × (old ≡ part) × (new ≡ [])

-- The text is all of the line but the byte that ends it, or a front of it, which is longer than a line may be.
abbrev pub IsTextOf : List ℕ → List ℕ → Type 0
IsTextOf text line = (content line ≡ text) ⊎ ((MOST_LINE_BYTES < length text) × (MOST_LINE_BYTES < length (content line)))

-- The bytes begin with a line of this text and of so many bytes, as far as a line may be long, and then the rest follows.
pub record BeginsWith (bytes rest text : List ℕ) (n : ℕ) : Type 0 where
  pub line : List ℕ
  pub later : List (List ℕ)
  pub split : lines_of bytes ≡ line ∷ later
  pub counted : min n (suc MOST_LINE_BYTES) ≡ min (length line) (suc MOST_LINE_BYTES)
  pub text_of : IsTextOf text line
  pub short : length text ≤ MOST_LINE_BYTES → (later ≡ lines_of rest) × (length line ≤ suc MOST_LINE_BYTES)

abbrev pub HasLine : Option (List ℕ) → Option (List ℕ) → List ℕ → ℕ → Type 0
HasLine None rest text n = ⊤
HasLine (Some bytes) None text n = ⊥
HasLine (Some bytes) (Some rest) text n = BeginsWith bytes rest text n

abbrev pub IsAllRead : Option (List ℕ) → Type 0
IsAllRead None = ⊤
IsAllRead (Some bytes) = bytes ≡ []
