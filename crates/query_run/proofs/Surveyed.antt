-- What is found where all named files can be opened: the blocks that are to be scanned.
use Rattle.std.proofs.Common.{◌≡◌, ℕ, ◌+◌, ◌≤◌, List, [], ◌∷◌, length, map, Option, Some, None, refl, sym, ap, ◌∙◌, subst, arith}
use Rattle.std.specs.Prelude.{unwrap_or, All}
use Rattle.std.specs.Option.{ForSome}
use Rattle.std.specs.Io.KnownBytes.{Appends}
use Rattle.std.proofs.lemmas.List.{take_all}
use Rattle.snel_device.specs.Contents.{Contents}
use Rattle.tree_meaning.specs.Tree.{Query}
use Rattle.scan_meaning.specs.Blocks.{Place, Block}
use Rattle.scan_meaning.specs.Batches.{front, size_of, Counts}
use Rattle.scan_meaning.specs.Opened.{Opened, opened, IsNamed, AreNamed, blocks_from}
use Rattle.scan_meaning.specs.Verdicts.{Verdict, scan, untold, wanted, skipped, FindsInFiles, Finds, statuses, IsAmong}
use Rattle.scan_meaning.specs.Answers.{EndsScan, EndsAs}
use Rattle.scan_meaning.specs.Causes.{index_costs, Costs, StaysWithin}
use Rattle.scan_meaning.proofs.Named.{one_verdict, no_refusal}
use Rattle.scan_files.specs.Places.{blocks_at, IsPlaced}
use Rattle.scan_files.specs.Surveys.{Surveys, FirstIsThere}
use Rattle.query_run.specs.Faults.{OfScan}

-- all files can be read
module _ (q : Query) (names : List (List ℕ)) (told : Option Contents) (fields : List (List ℕ)) (places : List Place) (left_out : ℕ) (surveyed : ForSome told (λ files. Surveys q names (length names) files fields places left_out)) where
  abbrev pub Bs : Contents → List Block
  Bs files = blocks_at files names fields places

  pub finds_scan : (files : Contents) → told ≡ Some files → FindsInFiles q names files (scan (blocks_at files names fields places) left_out)
  finds_scan files is =
      let s = surveyed files is in
      let fs = map (λ o. opened o) s.files_are in
      let all = blocks_from 0 fs in
      record {
        files_are = fs;
        are = subst (λ (ns : List (List ℕ)). AreNamed files ns fs) (take_all (length names) names (omega arith)) s.are;
        is = ap (λ (l : List Block). scan l left_out) s.blocks ∙ ap (λ (n : ℕ). scan (wanted q all) n) s.skips ∙ sym (ap (λ (o : Option Verdict). unwrap_or o (scan (wanted q all) (skipped q all))) (no_refusal 0 s.files_are));
      }

  pub is_scan : (files : Contents) → told ≡ Some files → (v : Verdict) → FindsInFiles q names files v → v ≡ scan (blocks_at files names fields places) left_out
  is_scan files is v found = one_verdict q names (Some files) v (scan (blocks_at files names fields places) left_out) found (finds_scan files is)

  pub scan_is : (files : Contents) → told ≡ Some files → (bs : List Block) (n : ℕ) → FindsInFiles q names files (scan bs n) → (bs ≡ blocks_at files names fields places) × (n ≡ left_out)
  scan_is files is bs n found = both (is_scan files is (scan bs n) found)
    where
      both : scan bs n ≡ scan (blocks_at files names fields places) left_out → (bs ≡ blocks_at files names fields places) × (n ≡ left_out)
      both e = (cc, cc)

  pub all_placed : (mid : Option Contents) (seen : List Place) → mid ≡ told → seen ≡ places → ForSome mid (λ files. All (λ p. IsPlaced files names p) seen)
  all_placed mid seen same is_seen = λ files is. subst (λ (l : List Place). All (λ p. IsPlaced files names p) l) (sym is_seen) (surveyed files (sym same ∙ is)).placed

  pub found_scan : (P : List Block → Type 0) → ((files : Contents) → told ≡ Some files → P (blocks_at files names fields places)) → OfScan q names told P
  found_scan P h = λ files is. (blocks_at files names fields places, (left_out, finds_scan files is), h files is)

  pub there : 1 ≤ length names → (files : Contents) → told ≡ Some files → FirstIsThere files names
  there some files is = on names (surveyed files is).files_are (subst (λ (ns : List (List ℕ)). AreNamed files ns (map (λ o. opened o) (surveyed files is).files_are)) (take_all (length names) names (omega arith)) (surveyed files is).are) some
    where
      on : (ns : List (List ℕ)) (os : List Opened) → AreNamed files ns (map (λ o. opened o) os) → 1 ≤ length ns → FirstIsThere files ns
      on [] os are some = absurd (omega arith)
      on (n ∷ ns) [] are some = absurd are
      on (n ∷ ns) (o ∷ os) are some = (n, refl, λ none. absurd (subst (λ (f : Option (List ℕ)). IsNamed f (opened o)) none are.0))

  -- how the query ended, by how the scan of these blocks did
  pub ends : (limit status : ℕ) (old new : Option (List ℕ)) → IsAmong status (statuses (scan [] 0)) → IsAmong status (statuses untold) → ForSome told (λ files. EndsScan q limit (blocks_at files names fields places) status old new) → ((added : List ℕ) × Appends old new added) → (v : Verdict) → Finds q names told v → EndsAs q limit v status old new
  ends limit status old new among also h took v found = on told refl found
    where
      on : (t : Option Contents) → told ≡ t → Finds q names t v → EndsAs q limit v status old new
      on None is f = subst (λ (w : Verdict). EndsAs q limit w status old new) (sym f) record { allowed = also; wrote = took }
      on (Some files) is f = subst (λ (w : Verdict). EndsAs q limit w status old new) (sym (is_scan files is v f)) record { allowed = among; wrote = h files is }

  -- the bytes of tails and indexes, and those of the blocks of batches that count, are within the cost
  abbrev pub Reading : ℕ → ℕ → Type 0
  Reading before now = ForSome told (λ files. (count : ℕ) → Counts q (blocks_at files names fields places) count → now ≤ before + size_of (front count (blocks_at files names fields places)))

  pub scan_cost : (start before now : ℕ) → ForSome told (λ files. before ≤ start + index_costs files names) → Reading before now → StaysWithin q names told start now
  scan_cost start before now indexes blocks = λ files is v cost found costs. on files is v cost (is_scan files is v found) costs
    where
      on : (files : Contents) → told ≡ Some files → (v : Verdict) (cost : ℕ) → v ≡ scan (blocks_at files names fields places) left_out → Costs q files names v cost → now ≤ start + cost
      on files is v cost same costs =
          let c : Costs q files names (scan (blocks_at files names fields places) left_out) cost = subst (λ (w : Verdict). Costs q files names w cost) same costs in
          let most = blocks files is c.0 c.1 in
          let before_is = indexes files is in
          let total = c.2 in
          omega arith
