-- The line that a call writes to standard error, by how it came out.
use Rattle.std.specs.Prelude.{ℕ, List, [], ◌∷◌, ◌++◌, codes, slice_get, unwrap_or, Result, Ok, Err}
use Rattle.std.specs.Fmt.{decimal}
use Rattle.query_run.specs.TextFaults.{refused_view}
use Rattle.query_run.specs.declared.query_fault.QueryFault.TheVariants.{Text, Absent, NotAFile, Damaged, Groups, ReadFault, WriteFault, OutOfMemory}
use Rattle.snel_words.specs.Words.{Ask, query, check, pack, make}
use Rattle.json_pack.specs.declared.sums.PackFault.{PackFault}
use Rattle.json_pack.specs.declared.sums.PackFault.TheVariants as of_pack
use Rattle.snel_command.specs.Makes.{most_groups}
use Rattle.snel_command.specs.Messages.{about, numbered, query_line, why_words}
use Rattle.snel_command.specs.declared.outcome.Refusal.{Refusal}
use Rattle.snel_command.specs.declared.outcome.Refusal.TheVariants.{Words, Query, Pack}
use Rattle.snel_command.specs.declared.outcome.Done.{Done}
use Rattle.snel_command.specs.declared.outcome.Done.TheVariants.{All, Counted}

-- the names of the files that a command is about
abbrev pub names_of : Ask → List (List ℕ)
names_of (query settings sql names) = names
names_of (check names) = names
names_of (pack p name) = name ∷ []
names_of (make start count name) = name ∷ []
names_of ask = []

-- the most groups that a command allows
abbrev pub limit_of : Ask → ℕ
limit_of (query settings sql names) = settings.groups
limit_of (make start count name) = most_groups
limit_of ask = 0

-- the name of the file with this number, from 0 on
abbrev pub name_at : List (List ℕ) → ℕ → List ℕ
name_at names k = unwrap_or (slice_get names k) []

-- the line of each fault of packing
abbrev pub pack_line : List (List ℕ) → PackFault → List ℕ
pack_line names of_pack.Exists = about (name_at names 0) (codes ": exists already\n")
pack_line names (of_pack.Line n why) = numbered (codes "snel: line ") n ++ (codes ": " ++ (why_words why ++ codes "\n"))
pack_line names of_pack.ReadFault = codes "snel: input: read failed\n"
pack_line names of_pack.WriteFault = codes "snel: write failed\n"
pack_line names of_pack.OutOfMemory = codes "snel: out of memory\n"

-- the line of each refusal, where this is the limit on groups
abbrev pub refusal_line : ℕ → List (List ℕ) → Refusal → List ℕ
refusal_line limit names Words = codes "snel: words not understood\n"
refusal_line limit names (Query (Text f)) = query_line (refused_view f)
refusal_line limit names (Query (Absent k)) = about (name_at names k) (codes ": no such file\n")
refusal_line limit names (Query (NotAFile k)) = about (name_at names k) (codes ": not a block file\n")
refusal_line limit names (Query (Damaged file block)) = about (name_at names file) (codes ": block " ++ (decimal block ++ codes " is damaged\n"))
refusal_line limit names (Query Groups) = codes "snel: more than " ++ (decimal limit ++ codes " groups\n")
refusal_line limit names (Query ReadFault) = codes "snel: files: read failed\n"
refusal_line limit names (Query WriteFault) = codes "snel: write failed\n"
refusal_line limit names (Query OutOfMemory) = codes "snel: out of memory\n"
refusal_line limit names (Pack f) = pack_line names f

-- nothing, or the counts of blocks
abbrev pub done_line : Done → List ℕ
done_line All = []
done_line (Counted r s) = numbered (codes "blocks read ") r ++ (numbered (codes ", skipped ") s ++ codes "\n")

abbrev pub line_of : ℕ → List (List ℕ) → Result Done Refusal → List ℕ
line_of limit names (Ok d) = done_line d
line_of limit names (Err r) = refusal_line limit names r
