-- The rows of a made log. The values of a row are cut from one state, each from bits of its own; its time comes from the
-- row's number, counted from 0.
use Rattle.std.specs.Prelude.{ℕ, zero, suc, ◌+◌, ◌*◌, ◌/◌, ◌%◌, ◌^◌, ◌==◌, if◌then◌else◌, ℤ, pos, List, [], ◌∷◌, ◌++◌, slice_index_or, codes}
use Rattle.std.specs.Fmt.{decimal}
use Rattle.value_meaning.specs.Val.{Val, null, int, time, text, struct, fields}
use Rattle.value_meaning.specs.Pairs.{Pairs}
use Rattle.log_meaning.specs.States.{state_at}

-- the programs that ask
abbrev pub agents : List (List ℕ)
agents = codes "curl/8.0" ∷ codes "Mozilla/5.0" ∷ codes "bot" ∷ codes "app/2.1" ∷ []

abbrev pub agent_of : ℕ → List ℕ
agent_of state = slice_index_or agents (state / 2 ^ 60 % 4) []

-- how many bytes were sent
abbrev pub bytes_of : ℕ → ℕ
bytes_of state = state / 2 ^ 32 % 65_536

-- one of fifty paths, `/p0` to `/p49`
abbrev pub path_of : ℕ → List ℕ
path_of state = codes "/p" ++ decimal (state / 2 ^ 48 % 50)

-- the statuses; 200 is the most frequent
abbrev pub codes_of_status : List ℕ
codes_of_status = 200 ∷ 200 ∷ 200 ∷ 301 ∷ 404 ∷ 500 ∷ 200 ∷ 204 ∷ []

abbrev pub status_of : ℕ → ℕ
status_of state = slice_index_or codes_of_status (state / 2 ^ 40 % 8) 0

-- NULL in each row whose number leaves 5 by 11
abbrev pub status_value : ℕ → ℕ → Val
status_value number state = if number % 11 == 5 then null else int (pos (status_of state))

-- the pair of the status, absent in each row whose number leaves 3 by 7
unfoldable pub status_pairs : ℕ → ℕ → Pairs
status_pairs number state = if number % 7 == 3 then [] else (codes "status", status_value number state) ∷ []

-- one row a second, from 2023-11-14T22:13:20Z on
abbrev pub time_of : ℕ → ℤ
time_of number = pos (1_700_000_000_000_000 + number * 1_000_000)

-- the pairs that stand in every row before the status
unfoldable pub first_pairs : ℕ → Pairs
first_pairs state =
    (codes "agent", text (agent_of state)) ∷ (codes "bytes", int (pos (bytes_of state))) ∷ (codes "path", text (path_of state)) ∷ []

unfoldable pub row_pairs : ℕ → ℕ → Pairs
row_pairs number state = first_pairs state ++ status_pairs number state ++ (codes "time", time (time_of number)) ∷ []

-- the row with this number, from its state
abbrev pub row_from : ℕ → ℕ → Val
row_from number state = struct (fields (row_pairs number state))

-- row `number` of the log with this start: its state is the one after the states of the rows before
abbrev pub log_row : ℕ → ℕ → Val
log_row start number = row_from number (state_at start (suc number))

-- the first rows of the log with this start, so many
abbrev pub log_rows : ℕ → ℕ → List Val
log_rows start zero = []
log_rows start (suc count) = log_rows start count ++ log_row start count ∷ []
