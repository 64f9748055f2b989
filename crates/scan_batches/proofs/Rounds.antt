-- A scan of places in files that may be told, while lines are put.
use Rattle.std.proofs.Common.{◌≡◌, inl, inr, ℕ, ◌+◌, ◌-◌, ◌*◌, ◌^◌, ◌<◌, ◌≤◌, min, true, List, [], ◌++◌, length, take, drop, Option, Some, None, refl, sym, ap, ◌∙◌, subst, arith, append_assoc}
use Rattle.std.specs.Prelude.{◌≢◌, Err}
use Rattle.std.specs.Option.{ForSome}
use Rattle.std.specs.Io.KnownBytes.{Appends}
use Rattle.std.proofs.lemmas.List.{append-nil, length-take, length-map, length-append}
use Rattle.snel_device.specs.Contents.{Contents}
use Rattle.snel_device.specs.Causes.{raised}
use Rattle.tree_meaning.specs.Tree.{Query}
use Rattle.scan_meaning.specs.Blocks.{Place, Block}
use Rattle.scan_meaning.specs.Batches.{first_bad, front, batch, size_of, is_plain, need, IsShort, BatchCounts, Counts}
use Rattle.scan_meaning.specs.Answers.{StopsPutting}
use Rattle.scan_meaning.proofs.Batches.{among, size_within}
use Rattle.scan_meaning.proofs.Plain.{cut_both, cut_none}
use Rattle.scan_files.specs.Places.{block_at, blocks_at, room_of}
use Rattle.scan_files.proofs.Parts.{batch_at, room_more, room_front}
use Rattle.scan_batches.specs.Lines.{text_of, let_through, left_of, TakesPart, TakesSome}
use Rattle.scan_batches.specs.Scans.{Scans, NamesBlock, IsReading}
use Rattle.scan_batches.specs.Outcome.{ScansTo, Finished}
use Rattle.scan_batches.specs.declared.fault.ScanFault.{ScanFault}
use Rattle.scan_batches.specs.declared.fault.ScanFault.TheVariants.{Damaged, ReadFault, WriteFault, OutOfMemory}
use Rattle.scan_batches.proofs.Texts.{Appends-both, Appends-nothing, text-append}
use Rattle.scan_batches.proofs.Progress.{Scanned, nothing_scanned, makes_nothing, is_enough, is_short, opens, steps, finished, stops_at, stops_reading, stops_putting, cut_lines, cost_so_far}

-- After so many batches: what OFFSET and LIMIT have left, what was put, and, where files are told, what was scanned.
pub record Underway (told : Option Contents) (q : Query) (names fields : List (List ℕ)) (ps : List Place) (j skip : ℕ) (most : Option ℕ) (put chunks kept : ℕ) (old now : Option (List ℕ)) : Type 0 where
  pub lines : List (List ℕ)
  pub skip_is : skip ≡ q.skip - length lines
  pub most_is : most ≡ left_of q.take (length lines - q.skip)
  pub appends : Appends old now (text_of (let_through q.skip q.take lines))
  pub put_is : put ≡ raised 0 (length (let_through q.skip q.take lines))
  pub scanned : ForSome told (λ files. Scanned q (blocks_at files names fields ps) j lines chunks kept)

left_nothing : (skip : ℕ) (most : Option ℕ) → most ≡ left_of most (0 - skip)
left_nothing skip None = refl
left_nothing skip (Some n) = let e : n ≡ n - (0 - skip) = omega arith in ap (λ (k : ℕ). Some k) e

left_more : (most : Option ℕ) (m n : ℕ) → left_of (left_of most m) n ≡ left_of most (m + n)
left_more None m n = refl
left_more (Some l) m n = let e : l - m - n ≡ l - (m + n) = omega arith in ap (λ (k : ℕ). Some k) e

raised_more : (a m n : ℕ) → raised (raised a m) n ≡ raised a (m + n)
raised_more a m n = omega arith

pub starts : (told : Option Contents) (q : Query) (names fields : List (List ℕ)) (ps : List Place) (skip : ℕ) (most : Option ℕ) (chunks kept : ℕ) (a : Option (List ℕ)) → is_plain q ≡ true → skip ≡ q.skip → most ≡ q.take → chunks ≡ 0 → kept ≡ 0 → Underway told q names fields ps 0 skip most 0 chunks kept a a
starts told q names fields ps skip most chunks kept a plain s t c k =
    let none : List (List ℕ) = [] in
    let nothing : let_through q.skip q.take none ≡ [] = cut_none q.skip q.take none refl in
    let zero_put : 0 ≡ raised 0 0 = omega arith in
    let all : q.skip ≡ q.skip - 0 = omega arith in
    record {
      lines = [];
      skip_is = s ∙ all;
      most_is = t ∙ left_nothing q.skip q.take;
      appends = subst (λ (l : List (List ℕ)). Appends a a (text_of l)) (sym nothing) (Appends-nothing a);
      put_is = zero_put ∙ ap (λ (l : List (List ℕ)). raised 0 (length l)) (sym nothing);
      scanned = λ files is. nothing_scanned q (blocks_at files names fields ps) chunks kept c k (makes_nothing q plain);
    }

module _ (told : Option Contents) (q : Query) (plain : is_plain q ≡ true) (names fields : List (List ℕ)) (ps : List Place) (j skip : ℕ) (most : Option ℕ) (put chunks kept : ℕ) (old now : Option (List ℕ)) (u : Underway told q names fields ps j skip most put chunks kept old now) where
  abbrev Bs : Contents → List Block
  Bs files = blocks_at files names fields ps

  count_of : (files : Contents) → length (blocks_at files names fields ps) ≡ length ps
  count_of files = length-map ps (block_at files names fields)

  long_front : (files : Contents) → length (front j (blocks_at files names fields ps)) ≡ min (64 * j) (length ps)
  long_front files = length-take (64 * j) (blocks_at files names fields ps) ∙ ap (λ (n : ℕ). min (64 * j) n) (count_of files)

  enough : skip ≡ 0 → most ≡ Some 0 → ¬ IsShort (need q) (length u.lines)
  enough s t = is_enough q plain (length u.lines) (sym u.skip_is ∙ s) (sym u.most_is ∙ t)

  too_few : (skip ≡ 0 → most ≢ Some 0) → IsShort (need q) (length u.lines)
  too_few other = is_short q plain (length u.lines) (λ s t. other (u.skip_is ∙ s) (u.most_is ∙ t))

  -- the end, since enough rows passed or all blocks are scanned
  pub ends_full : length ps ≤ 2 ^ 26 → skip ≡ 0 → most ≡ Some 0 → (read : ℕ) → read ≡ 64 * j → 64 * j ≤ length ps → ForSome told (λ files. Finished q (blocks_at files names fields ps) put read chunks kept old now)
  ends_full few s t read read_is le = λ files is.
      let n = count_of files in
      let e = long_front files in
      let read_all : read ≡ length (front j (blocks_at files names fields ps)) = omega arith in
      finished q plain (blocks_at files names fields ps) j u.lines chunks kept (u.scanned files is) old now u.appends (omega arith) (inr (enough s t)) put read u.put_is read_all

  pub ends_all : length ps ≤ 2 ^ 26 → (read : ℕ) → read ≡ length ps → length ps ≤ 64 * j → ForSome told (λ files. Finished q (blocks_at files names fields ps) put read chunks kept old now)
  ends_all few read read_is le = λ files is.
      let e = long_front files in
      let n = count_of files in
      let read_all : read ≡ length (front j (blocks_at files names fields ps)) = omega arith in
      let all : length (blocks_at files names fields ps) ≤ 64 * j = omega arith in
      finished q plain (blocks_at files names fields ps) j u.lines chunks kept (u.scanned files is) old now u.appends (omega arith) (inl all) put read u.put_is read_all

  pub took_some : TakesSome old now
  took_some = (text_of (let_through q.skip q.take u.lines), u.appends)

  -- the bytes that were read are within those of the batches that count
  pub cost_at : 64 * j < length ps + 64 → (before taken : ℕ) → taken ≤ before + room_of (take (64 * j) ps) → ForSome told (λ files. (count : ℕ) → Counts q (blocks_at files names fields ps) count → taken ≤ before + size_of (front count (blocks_at files names fields ps)))
  cost_at le before taken read = λ files is count counts.
      let n = count_of files in
      let e : room_of (take (64 * j) ps) ≡ size_of (front j (blocks_at files names fields ps)) = room_front files names fields j ps in
      let within : size_of (front j (blocks_at files names fields ps)) ≤ size_of (front count (blocks_at files names fields ps)) = cost_so_far q (blocks_at files names fields ps) j count (u.scanned files is).counted (λ z. omega arith) counts in
      omega arith

  -- a batch more
  module _ (part : List Place) (is_part : part ≡ take 64 (drop (64 * j) ps)) (open_cut : skip ≡ 0 → most ≢ Some 0) where
    counts_at : (files : Contents) → told ≡ Some files → BatchCounts q (blocks_at files names fields ps) j
    counts_at files is = opens q plain (blocks_at files names fields ps) j u.lines chunks kept (u.scanned files is) (too_few open_cut)

    of_part : (files : Contents) → blocks_at files names fields part ≡ batch j (blocks_at files names fields ps)
    of_part files = batch_at files names fields j ps part is_part

    pub cost_more : 64 * j < length ps → (before mid taken : ℕ) → mid ≤ before + room_of (take (64 * j) ps) → taken ≤ mid + room_of part → ForSome told (λ files. (count : ℕ) → Counts q (blocks_at files names fields ps) count → taken ≤ before + size_of (front count (blocks_at files names fields ps)))
    cost_more lt before mid taken read more = λ files is count counts.
        let n = count_of files in
        let next : j < count = among q (blocks_at files names fields ps) j count (counts_at files is) (omega arith) counts in
        let e : room_of (take (64 * (j + 1)) ps) ≡ room_of (take (64 * j) ps) + room_of part = room_more j ps part is_part in
        let f : room_of (take (64 * (j + 1)) ps) ≡ size_of (front (j + 1) (blocks_at files names fields ps)) = room_front files names fields (j + 1) ps in
        let within : size_of (front (j + 1) (blocks_at files names fields ps)) ≤ size_of (front count (blocks_at files names fields ps)) = size_within (j + 1) count (blocks_at files names fields ps) (omega arith) in
        omega arith

    -- a batch that couldn't be read or scanned
    pub stopped : (fault : ScanFault) (before mid taken c k : ℕ) (other : Option Contents) → other ≡ told → IsReading fault → ForSome other (λ files. NamesBlock fault (λ b. first_bad (blocks_at files names fields part) ≡ Some b)) → mid ≤ before + room_of (take (64 * j) ps) → taken ≤ mid + room_of part → ForSome told (λ files. ScansTo q (blocks_at files names fields ps) (Err fault) before taken c k old now)
    stopped (Damaged f n) before mid taken c k other same reading names_it read more = λ files is.
        let h = names_it files (same ∙ is) in
        let bad : first_bad (batch j (blocks_at files names fields ps)) ≡ Some h.0 = ap (λ (l : List Block). first_bad l) (sym (of_part files)) ∙ h.2 in
        (h.0, h.1, stops_at q plain (blocks_at files names fields ps) j u.lines chunks kept (u.scanned files is) old now u.appends (counts_at files is) h.0 bad)
    stopped ReadFault before mid taken c k other same reading names_it read more = λ files is.
        let e : room_of (take (64 * (j + 1)) ps) ≡ room_of (take (64 * j) ps) + room_of part = room_more j ps part is_part in
        let f : room_of (take (64 * (j + 1)) ps) ≡ size_of (front (j + 1) (blocks_at files names fields ps)) = room_front files names fields (j + 1) ps in
        stops_reading q plain (blocks_at files names fields ps) j u.lines chunks kept (u.scanned files is) old now u.appends before taken (omega arith)
    stopped WriteFault before mid taken c k other same reading names_it read more = absurd reading
    stopped OutOfMemory before mid taken c k other same reading names_it read more = λ files is.
        cut_lines q plain (blocks_at files names fields ps) j u.lines chunks kept (u.scanned files is) 10 (λ e. omega arith) old now (text_of (let_through q.skip q.take u.lines)) u.appends ([], sym (append-nil (text_of (let_through q.skip q.take u.lines))))

    -- a batch whose lines were made
    module _ (more : List (List ℕ)) (c k : ℕ) (other : Option Contents) (same : other ≡ told) (scans : ForSome other (λ files. Scans q (blocks_at files names fields part) more chunks c kept k)) where
      scanned_more : ForSome told (λ files. Scanned q (blocks_at files names fields ps) (j + 1) (u.lines ++ more) c k)
      scanned_more = λ files is.
          steps q plain (blocks_at files names fields ps) j u.lines chunks kept (u.scanned files is) (counts_at files is) more c k
          (subst (λ (l : List Block). Scans q l more chunks c kept k) (of_part files) (scans files (same ∙ is)))

      both : let_through q.skip q.take (u.lines ++ more) ≡ let_through q.skip q.take u.lines ++ let_through skip most more
      both =
          cut_both q.skip q.take u.lines more
          ∙ ap (λ (n : ℕ). let_through q.skip q.take u.lines ++ let_through n (left_of q.take (length u.lines - q.skip)) more) (sym u.skip_is)
          ∙ ap (λ (o : Option ℕ). let_through q.skip q.take u.lines ++ let_through skip o more) (sym u.most_is)

      both_text : text_of (let_through q.skip q.take (u.lines ++ more)) ≡ text_of (let_through q.skip q.take u.lines) ++ text_of (let_through skip most more)
      both_text = ap (λ (l : List (List ℕ)). text_of l) both ∙ text-append (let_through q.skip q.take u.lines) (let_through skip most more)

      pub put_more : (new : Option (List ℕ)) (n new_skip new_put : ℕ) (new_most : Option ℕ) → Appends now new (text_of (let_through skip most more)) → n ≡ length (let_through skip most more) → new_put ≡ raised put n → new_skip ≡ skip - length more → new_most ≡ left_of most (length more - skip) → Underway told q names fields ps (j + 1) new_skip new_most new_put c k old new
      put_more new n new_skip new_put new_most took count sum s t =
          let all : length (u.lines ++ more) ≡ length u.lines + length more = length-append u.lines more in
          let skip_was : skip ≡ q.skip - length u.lines = u.skip_is in
          let fewer : new_skip ≡ q.skip - length (u.lines ++ more) = omega arith in
          let over : (length u.lines - q.skip) + (length more - skip) ≡ length (u.lines ++ more) - q.skip = omega arith in
          record {
            lines = u.lines ++ more;
            skip_is = fewer;
            most_is = t ∙ ap (λ (o : Option ℕ). left_of o (length more - skip)) u.most_is ∙ left_more q.take (length u.lines - q.skip) (length more - skip) ∙ ap (λ (m : ℕ). left_of q.take m) over;
            appends = subst (λ (l : List ℕ). Appends old new l) (sym both_text) (Appends-both old now new (text_of (let_through q.skip q.take u.lines)) (text_of (let_through skip most more)) u.appends took);
            put_is = sum ∙ ap (λ (m : ℕ). raised put m) count ∙ ap (λ (m : ℕ). raised m (length (let_through skip most more))) u.put_is
                ∙ raised_more 0 (length (let_through q.skip q.take u.lines)) (length (let_through skip most more))
                ∙ ap (λ (m : ℕ). raised 0 m) (sym (ap (λ (l : List (List ℕ)). length l) both ∙ length-append (let_through q.skip q.take u.lines) (let_through skip most more)));
            scanned = scanned_more;
          }

      took_part : (new : Option (List ℕ)) (h : TakesPart now new (text_of (let_through skip most more))) → Appends old new (text_of (let_through q.skip q.take u.lines) ++ h.added)
      took_part new h = Appends-both old now new (text_of (let_through q.skip q.take u.lines)) h.added u.appends h.appends

      pub put_part : (new : Option (List ℕ)) → TakesPart now new (text_of (let_through skip most more)) → ForSome told (λ files. StopsPutting q (blocks_at files names fields ps) old new)
      put_part new h = λ files is.
          let front_text = text_of (let_through q.skip q.take u.lines) in
          let parts : text_of (let_through q.skip q.take (u.lines ++ more)) ≡ (front_text ++ h.added) ++ h.front.0 = both_text ∙ ap (λ (l : List ℕ). front_text ++ l) h.front.1 ∙ sym (append_assoc front_text h.added h.front.0) in
          stops_putting q plain (blocks_at files names fields ps) j u.lines chunks kept (u.scanned files is) (counts_at files is) more c k (in_batch files is) old new h.added (took_part new h) (h.front.0, parts)
        where
          in_batch : (files : Contents) → told ≡ Some files → Scans q (batch j (blocks_at files names fields ps)) more chunks c kept k
          in_batch files is = subst (λ (l : List Block). Scans q l more chunks c kept k) (of_part files) (scans files (same ∙ is))

      pub put_some : (new : Option (List ℕ)) → TakesPart now new (text_of (let_through skip most more)) → TakesSome old new
      put_some new h = (text_of (let_through q.skip q.take u.lines) ++ h.added, took_part new h)

-- a scan with the same query
pub same_scans : (told : Option Contents) (q p : Query) (blocks : Contents → List Block) (more : List (List ℕ)) (c d k l : ℕ) → p ≡ q → ForSome told (λ files. Scans p (blocks files) more c d k l) → ForSome told (λ files. Scans q (blocks files) more c d k l)
same_scans told q p blocks more c d k l same h = λ files is. subst (λ (x : Query). Scans x (blocks files) more c d k l) same (h files is)
