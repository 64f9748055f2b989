-- Files by their names, and what calls do to them where they are told. Names and files are lists of bytes.
use Rattle.std.specs.Prelude.{◌≡◌, ℕ, ◌+◌, ◌≤◌, List, ◌++◌, length, take, drop, Option, Some, IsSomeAnd}
use Rattle.std.specs.Option.{option_map}
use Rattle.std.specs.Map.{update}
use Rattle.std.specs.Str.{bytes_eq}

-- the bytes of the file of each name, where there is one
abbrev pub Contents : Type 0
Contents = List ℕ → Option (List ℕ)

-- the file is there, and has n bytes from this place on
abbrev pub IsWithin : Contents → List ℕ → ℕ → ℕ → Type 0
IsWithin files name at n = IsSomeAnd (files name) (λ bytes. at + n ≤ length bytes)

-- the file has this piece at this place
abbrev pub HasAt : Contents → List ℕ → ℕ → List ℕ → Type 0
HasAt files name at piece = IsSomeAnd (files name) (λ bytes. piece ≡ take (length piece) (drop at bytes))

-- the files, with one of this name and these bytes
abbrev pub with_file : List ℕ → List ℕ → Contents → Contents
with_file name bytes files = update bytes_eq files name (Some bytes)

-- the files, with this piece added at the end of the one of this name
abbrev pub with_piece : List ℕ → List ℕ → Contents → Contents
with_piece name piece files = update bytes_eq files name (option_map (λ bytes. bytes ++ piece) (files name))

-- The file of this name has these bytes now, and no other file changed. Untold files stay untold.
abbrev pub Sets : Option Contents → Option Contents → List ℕ → List ℕ → Type 0
Sets old new name bytes = new ≡ option_map (with_file name bytes) old

-- The file of this name grew by this piece, and no other file changed. Untold files stay untold.
abbrev pub Extends : Option Contents → Option Contents → List ℕ → List ℕ → Type 0
Extends old new name piece = new ≡ option_map (with_piece name piece) old
