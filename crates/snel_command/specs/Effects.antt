-- What a command does to the outside beside what it writes: which bytes it reads, and what it changes.
use Rattle.std.specs.Prelude.{◌≡◌, ◌⊎◌, ℕ, ◌≤◌, List, [], ◌∷◌, Option, ⊤}
use Rattle.std.specs.Option.{ForSome, option_map}
use Rattle.std.specs.Io.KnownBytes.{IsAtEnd}
use Rattle.snel_device.specs.Causes.{Rose}
use Rattle.snel_device.specs.Contents.{Contents, with_file}
use Rattle.query_run.specs.Ends.{Reads}
use Rattle.make_meaning.specs.LogQuery.{text}
use Rattle.json_pack.specs.Making.{made_file}
use Rattle.snel_command.specs.Packs.{MakesFile}
use Rattle.snel_command.specs.Makes.{MakesLog}
use Rattle.snel_words.specs.Words.{Ask, query, check, pack, make}

-- A count of bytes that were read: a query's rises by at most its cost, also that of the query over the file of a log, and that of a
-- command that reads no file stands still.
abbrev pub ReadsBytes : Ask → Option Contents → ℕ → ℕ → Type 0
ReadsBytes (query settings sql names) told before now = Reads sql names told before now
ReadsBytes (check names) told before now = ⊤
ReadsBytes (make start count name) told before now = Reads text (name ∷ []) (option_map (with_file name (made_file start count)) told) before now
ReadsBytes ask told before now = now ≡ before

-- Which files there are and what they hold: packing and making a log make one, and no other command changes any.
abbrev pub ChangesFiles : Ask → Option (List ℕ) → ℕ → Option Contents → Option Contents → Type 0
ChangesFiles (pack p name) left status old new = MakesFile p name left status old new
ChangesFiles (make start count name) left status old new = MakesLog start count name status old new
ChangesFiles ask left status old new = new ≡ old

-- the count of failed writes to files: no command but packing and making a log writes to one
abbrev pub WritesFiles : Ask → ℕ → ℕ → Type 0
WritesFiles (pack p name) before now = before ≤ now
WritesFiles (make start count name) before now = before ≤ now
WritesFiles ask before now = now ≡ before

-- the input's bytes: packing has taken all where it is done, and no other command takes one
abbrev pub TakesInput : Ask → ℕ → Option (List ℕ) → Option (List ℕ) → Type 0
TakesInput (pack p name) status old new = status ≡ 0 → ForSome old (λ bytes. IsAtEnd new)
TakesInput ask status old new = new ≡ old

-- a failed read: packing reads the input, and all other commands read files
abbrev pub ReadFailed : Ask → ℕ → ℕ → ℕ → ℕ → Type 0
ReadFailed (pack p name) files_before files_now input_before input_now = Rose input_before input_now
ReadFailed ask files_before files_now input_before input_now = Rose files_before files_now

-- a failed write: packing and making a log write to files too
abbrev pub WriteFailed : Ask → ℕ → ℕ → ℕ → ℕ → Type 0
WriteFailed (pack p name) files_before files_now out_before out_now = Rose files_before files_now ⊎ Rose out_before out_now
WriteFailed (make start count name) files_before files_now out_before out_now = Rose files_before files_now ⊎ Rose out_before out_now
WriteFailed ask files_before files_now out_before out_now = Rose out_before out_now
