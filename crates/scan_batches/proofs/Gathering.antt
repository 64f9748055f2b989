-- Gathering the rows of blocks, batch by batch.
use Rattle.std.proofs.Common.{◌≡◌, ℕ, ◌+◌, ◌*◌, ◌^◌, ◌<◌, ◌≤◌, ◌/◌, min, List, [], ◌++◌, length, take, drop, Option, Some, None, refl, sym, ap, ◌∙◌, subst, arith, take-append-drop}
use Rattle.std.specs.Option.{ForSome}
use Rattle.std.proofs.Math.Logic.{⊎_elim}
use Rattle.std.proofs.lemmas.Bool.{cases_lt}
use Rattle.std.proofs.lemmas.List.{take_all, length-append, length-map, length-take}
use Rattle.std.proofs.lemmas.List.Sums.{sum_by-append, sum_by-take-le}
use Rattle.snel_device.specs.Contents.{Contents}
use Rattle.snel_device.specs.Causes.{raised}
use Rattle.value_meaning.specs.Val.{Val}
use Rattle.tree_meaning.specs.Tree.{Query}
use Rattle.eval_meaning.specs.Pair.{Pair}
use Rattle.eval_meaning.specs.Passed.{passed}
use Rattle.scan_meaning.specs.Blocks.{Place, Block}
use Rattle.scan_meaning.specs.Batches.{rows_of, is_bad, first_bad, count_passed, size_of, front, batch}
use Rattle.scan_meaning.proofs.Batches.{front_more, rows-append, size_within, find_behind, find_before}
use Rattle.scan_meaning.proofs.Plain.{passed-append}
use Rattle.scan_files.specs.Places.{block_at, blocks_at, room_of}
use Rattle.scan_files.proofs.Parts.{batch_at, room_more, room_front}
use Rattle.scan_batches.specs.Scans.{chunks_of, NamesBlock}
use Rattle.scan_batches.specs.Gathers.{Gathers, Gathered, StopsGathering}
use Rattle.scan_batches.specs.declared.fault.ScanFault.{ScanFault}
use Rattle.scan_batches.specs.declared.fault.ScanFault.TheVariants.{Damaged, ReadFault, WriteFault, OutOfMemory}
use Rattle.scan_batches.proofs.Few.{rows_few, chunks_few, passed_few}

-- After so many batches: these blocks were read, none of them is bad, and what gathers stands for their rows.
pub record Gathering (told : Option Contents) (q : Query) (names fields : List (List ℕ)) (ps : List Place) (j : ℕ) (stands : List Val → Type 0) (chunks kept : ℕ) : Type 0 where
  pub bs : List Block
  pub are : ForSome told (λ files. bs ≡ front j (blocks_at files names fields ps))
  pub count : length bs ≤ 64 * j
  pub good : first_bad bs ≡ None
  pub stand : stands (rows_of bs)
  pub chunks_are : chunks ≡ chunks_of bs
  pub kept_are : kept ≡ count_passed q bs

pub starts : (told : Option Contents) (q : Query) (names fields : List (List ℕ)) (ps : List Place) (stands : List Val → Type 0) (chunks kept : ℕ) → stands [] → chunks ≡ 0 → kept ≡ 0 → Gathering told q names fields ps 0 stands chunks kept
starts told q names fields ps stands chunks kept stand c k = record {
  bs = [];
  are = λ files is. refl;
  count = omega arith;
  good = refl;
  stand = stand;
  chunks_are = c;
  kept_are = k;
}

first_behind : (j : ℕ) (bs : List Block) (b : Block) → first_bad (front j bs) ≡ None → first_bad (batch j bs) ≡ Some b → first_bad bs ≡ Some b
first_behind j bs b good bad =
    let n = 64 * (j + 1) in
    let own = ap (λ l. first_bad l) (front_more j bs) ∙ find_behind is_bad (front j bs) (batch j bs) good ∙ bad in
    ap (λ l. first_bad l) (sym (take-append-drop n bs)) ∙ find_before is_bad (take n bs) (drop n bs) b own

pub part_few : (j : ℕ) (ps part : List Place) → part ≡ take 64 (drop (64 * j) ps) → length part ≤ 64
part_few j ps part is =
    let e : length part ≡ min 64 (length (drop (64 * j) ps)) = ap (λ (l : List Place). length l) is ∙ length-take 64 (drop (64 * j) ps) in
    omega arith

pub room_within : (j : ℕ) (ps : List Place) → room_of (take (64 * j) ps) ≤ room_of ps
room_within j ps = sum_by-take-le (λ p. p.entry.length) ps (64 * j)

-- the blocks of the batch behind them, as they were read
abbrev pub Collected : Option Contents → Query → List (List ℕ) → List (List ℕ) → List Place → (List Val → Type 0) → (List Val → Type 0) → ℕ → ℕ → ℕ → ℕ → Type 0
Collected told q names fields part stands now_stands chunks now_chunks kept now_kept =
    (more : List Block) × ForSome told (λ files. more ≡ blocks_at files names fields part) × (length more ≡ length part)
    × ((rows : List Val) → stands rows → Gathers q more rows now_stands chunks now_chunks kept now_kept)

module _ (told : Option Contents) (q : Query) (names fields : List (List ℕ)) (ps : List Place) (j : ℕ) (stands : List Val → Type 0) (chunks kept : ℕ) (g : Gathering told q names fields ps j stands chunks kept) where
  pub ends : length ps ≤ 64 * j → 64 * j ≤ 2 ^ 26 → (bs : List Block) × ForSome told (λ files. bs ≡ blocks_at files names fields ps) × Gathered q bs stands chunks kept
  ends all le =
      let few = rows_few g.bs in
      let count = g.count in (
        g.bs,
        λ files is. g.are files is ∙ take_all (64 * j) (blocks_at files names fields ps) (let n = length-map ps (block_at files names fields) in omega arith),
        record { good = g.good; stand = g.stand; few = omega arith; chunks_are = g.chunks_are; kept_are = g.kept_are },
      )

  module _ (part : List Place) (is_part : part ≡ take 64 (drop (64 * j) ps)) where
    of_part : (files : Contents) → blocks_at files names fields part ≡ batch j (blocks_at files names fields ps)
    of_part files = batch_at files names fields j ps part is_part

    -- a batch that couldn't be read, or has a bad block
    pub stopped : (other : Option Contents) → other ≡ told → (fault : ScanFault) → ForSome other (λ files. NamesBlock fault (λ b. first_bad (blocks_at files names fields part) ≡ Some b)) → ForSome told (λ files. NamesBlock fault (λ b. first_bad (blocks_at files names fields ps) ≡ Some b))
    stopped other same (Damaged f n) names_it = λ files is.
        let h = names_it files (same ∙ is) in
        let good : first_bad (front j (blocks_at files names fields ps)) ≡ None = ap (λ (l : List Block). first_bad l) (sym (g.are files is)) ∙ g.good in
        let bad : first_bad (batch j (blocks_at files names fields ps)) ≡ Some h.0 = ap (λ (l : List Block). first_bad l) (sym (of_part files)) ∙ h.2 in
        (h.0, h.1, first_behind j (blocks_at files names fields ps) h.0 good bad)
    stopped other same ReadFault names_it = λ files is. tt
    stopped other same WriteFault names_it = λ files is. tt
    stopped other same OutOfMemory names_it = λ files is. tt

    -- how far a failed read came
    pub came_to : (fault : ScanFault) (before mid now : ℕ) → mid ≤ before + room_of (take (64 * j) ps) → now ≤ mid + room_of part → ForSome told (λ files. StopsGathering fault (blocks_at files names fields ps) before now)
    came_to ReadFault before mid now read more = λ files is.
        let bs = blocks_at files names fields ps in
        let e : room_of (take (64 * (j + 1)) ps) ≡ room_of (take (64 * j) ps) + room_of part = room_more j ps part is_part in
        let f : room_of (take (64 * (j + 1)) ps) ≡ size_of (front (j + 1) bs) = room_front files names fields (j + 1) ps in (
          j,
          λ i grown. ⊎_elim (λ (l : j < i). let within : size_of (front (j + 1) bs) ≤ size_of (front i bs) = size_within (j + 1) i bs (omega arith) in absurd (omega arith)) (λ (h : i ≤ j). h) (cases_lt j i),
          ap (λ (l : List Block). first_bad l) (sym (g.are files is)) ∙ g.good,
        )
    came_to (Damaged f n) before mid now read more = λ files is. tt
    came_to WriteFault before mid now read more = λ files is. tt
    came_to OutOfMemory before mid now read more = λ files is. tt

    -- a batch more
    module _ (other : Option Contents) (same : other ≡ told) (p : Query) (same_query : p ≡ q) (now_stands : List Val → Type 0) (now_chunks now_kept : ℕ) (c : Collected other p names fields part stands now_stands chunks now_chunks kept now_kept) where
      abbrev all : List Block
      all = g.bs ++ c.0

      h : Gathers p c.0 (rows_of g.bs) now_stands chunks now_chunks kept now_kept
      h = c.3 (rows_of g.bs) g.stand

      all_good : first_bad all ≡ None
      all_good = find_behind is_bad g.bs c.0 g.good ∙ h.good

      pub more : length part ≤ 64 → 64 * (j + 1) ≤ 2 ^ 27 → Gathering told q names fields ps (j + 1) now_stands now_chunks now_kept
      more few le =
          let counts : length all ≡ length g.bs + length c.0 = length-append g.bs c.0 in
          let before = g.count in
          let own : length c.0 ≡ length part = c.2 in
          let rows : rows_of all ≡ rows_of g.bs ++ rows_of c.0 = rows-append g.bs c.0 in
          let pass : passed q (rows_of all) ≡ passed q (rows_of g.bs) ++ passed q (rows_of c.0) = ap (λ (l : List Val). passed q l) rows ∙ passed-append q (rows_of g.bs) (rows_of c.0) in
          let kept_all : count_passed q all ≡ count_passed q g.bs + count_passed q c.0 = ap (λ (l : List Pair). length l) pass ∙ length-append (passed q (rows_of g.bs)) (passed q (rows_of c.0)) in
          let ran : chunks_of all ≡ chunks_of g.bs + chunks_of c.0 = sum_by-append (λ (b : Block). (b.place.entry.rows + 15) / 16) g.bs c.0 in
          let few_rows = rows_few all in
          let few_chunks = chunks_few all all_good in
          let few_kept = passed_few q all in
          let c_is : now_chunks ≡ raised chunks (chunks_of c.0) = h.chunks_are in
          let k_is : now_kept ≡ raised kept (count_passed q c.0) = subst (λ (x : Query). now_kept ≡ raised kept (count_passed x c.0)) same_query h.kept_are in
          let c_was : chunks ≡ chunks_of g.bs = g.chunks_are in
          let k_was : kept ≡ count_passed q g.bs = g.kept_are in
          record {
            bs = all;
            are = λ files is.
                ap (λ (l : List Block). l ++ c.0) (g.are files is) ∙ ap (λ (l : List Block). front j (blocks_at files names fields ps) ++ l) (c.1 files (same ∙ is) ∙ of_part files)
                ∙ sym (front_more j (blocks_at files names fields ps));
            count = omega arith;
            good = all_good;
            stand = subst (λ (l : List Val). now_stands l) (sym rows) h.stand;
            chunks_are = omega arith;
            kept_are = omega arith;
          }
