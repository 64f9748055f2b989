-- How many files a command names, and within which limits it queries, packs and makes a log.
use Rattle.std.specs.Prelude.{◌≤◌, ℕ, List, length, IfSome, ⊤}
use Rattle.snel_words.specs.declared.ask.Settings.{Settings}
use Rattle.snel_words.specs.Words.{Ask, Packing, query, check, pack, make}

-- one to sixty-four names
pub record AreFew (names : List (List ℕ)) : Type 0 where
  pub some : 1 ≤ length names
  pub few : length names ≤ 64

-- the limits of a query's settings
pub record AreSettings (settings : Settings) : Type 0 where
  pub some_workers : 1 ≤ settings.workers
  pub few_workers : settings.workers ≤ 64
  pub some_groups : 1 ≤ settings.groups
  pub few_groups : settings.groups ≤ 16777216

-- the limits of packing
pub record IsWithinLimits (packing : Packing) : Type 0 where
  pub block : packing.block ≤ 1000000
  pub time : IfSome packing.time (λ field. (1 ≤ length field) × (length field ≤ 255))

-- a command over files names so many, and a query's settings, packing and the rows of a log are within their limits
abbrev pub HasNames : Ask → Type 0
HasNames (query settings sql names) = AreFew names × AreSettings settings
HasNames (check names) = AreFew names
HasNames (pack packing name) = IsWithinLimits packing
HasNames (make start rows name) = rows ≤ 1_000_000
HasNames ask = ⊤
