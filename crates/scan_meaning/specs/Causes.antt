-- What stands against each named file, and what reading costs.
use Rattle.std.specs.Prelude.{◌≡◌, ◌≤◌, ℕ, ◌+◌, List, take, slice_get, Option, Some, sum_by}
use Rattle.std.specs.Option.{ForSome}
use Rattle.snel_device.specs.Contents.{Contents}
use Rattle.file_meaning.specs.Reading.{index_cost}
use Rattle.tree_meaning.specs.Tree.{Query}
use Rattle.scan_meaning.specs.Batches.{Counts, front, size_of}
use Rattle.scan_meaning.specs.Opened.{Opened, Named, IsNamed, AreOpened}
use Rattle.scan_meaning.specs.Verdicts.{Verdict, scan, Finds}

-- The file with this number is so, and those before it are block files.
pub record IsFirst (files : Contents) (names : List (List ℕ)) (k : ℕ) (file : Named) : Type 0 where
  pub before : List Opened
  pub are : AreOpened files (take k names) before
  pub name : List ℕ
  pub at : slice_get names k ≡ Some name
  pub is : IsNamed (files name) file

-- the bytes of all tails and indexes
abbrev pub index_costs : Contents → List (List ℕ) → ℕ
index_costs files names = sum_by (λ n. index_cost (files n)) names

-- the most bytes that a query may read on a verdict: those of tails and indexes, and those of the blocks of batches that count
abbrev pub Costs : Query → Contents → List (List ℕ) → Verdict → ℕ → Type 0
Costs q files names (scan bs n) cost = (count : ℕ) × Counts q bs count × (cost ≡ index_costs files names + size_of (front count bs))
Costs q files names v cost = cost ≡ index_costs files names

-- where files tell, a count of bytes that were read rose by no more than the cost
abbrev pub StaysWithin : Query → List (List ℕ) → Option Contents → ℕ → ℕ → Type 0
StaysWithin q names told before now =
    ForSome told (λ files. (v : Verdict) (cost : ℕ) → Finds q names (Some files) v → Costs q files names v cost → now ≤ before + cost)
