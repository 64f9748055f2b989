-- Rows, one after the other.
use Rattle.std.proofs.Common.{◌≡◌, ℕ, suc, ◌+◌, ◌-◌, ◌*◌, ◌^◌, ◌<◌, ◌≤◌, min, Bool, true, false, ◌&&◌, nat_le, nat_lt, List, [], ◌∷◌, ◌++◌, length, map, take, sum_by, Option, refl, sym, ap, subst, ◌∙◌, arith, append-nil, append_assoc, true≢false}
use Rattle.std.specs.Prelude.{flat_map, ◌==◌}
use Rattle.std.specs.Str.{IsUtf8}
use Rattle.std.proofs.lemmas.Bool.{le-leb, leb-true, eqb-true}
use Rattle.std.proofs.lemmas.List.{length-append, length-map, map-append}
use Rattle.std.proofs.lemmas.List.Sums.{sum_by-append}
use Rattle.value_meaning.specs.Val.{Val, vals}
use Rattle.value_meaning.specs.Sound.{IsSound, AreSound}
use Rattle.snel_values.specs.declared.value.Value.{Value}
use Rattle.snel_values.specs.View.{view, views}
use Rattle.file_meaning.specs.declared.TheConstants.{MOST_BLOCKS}
use Rattle.file_meaning.specs.Files.{Entry, index_bytes, tail_bytes}
use Rattle.write_meaning.specs.Weights.{weight}
use Rattle.write_meaning.specs.Standing.{IsWritableRow, AreWritableRows}
use Rattle.pack_meaning.specs.Cuts.{Rows, fits, IsCutSoFar, cut, last_block, EachFits}
use Rattle.pack_meaning.specs.PackedFiles.{block_of, entry_of, entries_of, field_name, file_of, index_of, MayBePacked}
use Rattle.pack_meaning.proofs.Cutting.{cut_starts, cut_joined, cut_closed, cut_ended, fits_from, fits_weight, fits_length}
use Rattle.pack_meaning.proofs.Files.{entries_count}
use Rattle.pack_blocks.specs.declared.writer.BlockWriter.{BlockWriter}
use Rattle.pack_blocks.specs.declared.finishing.Finished.{Finished}
use Rattle.pack_blocks.specs.Files.{HasBlocks}
use Rattle.pack_blocks.specs.Writing.{IsWriting, IsGoing, CanTake, Adds, IsFullFor, MayClose, HasAll, ClosesAll, IsFinished, Finishes}
use Rattle.pack_blocks.proofs.Files.{bytes_joined, entries_joined, indexed, listed_count}

no_blocks : (most : ℕ) → length (cut most []) ≤ MOST_BLOCKS
unfolding cut
no_blocks most = omega arith

pub writes_none : (tf : Option (List ℕ)) (most : ℕ) (w : BlockWriter) → w.most ≡ most → w.weight ≡ 0 → w.rows.items ≡ [] → w.entries ≡ [] → w.written ≡ 0 → w.count ≡ 0
    → most ≤ 1_000_000 → length (field_name tf) ≤ 255 → IsUtf8 (field_name tf) → IsWriting tf most [] [] w
writes_none tf most w m we r e wr c low short name = record {
  limit = m;
  may = record { short_name = omega (arith, short); name = name; low = low; sound = tt; writable = tt; fit = tt; few = no_blocks most };
  closed = [];
  so_far = subst (IsCutSoFar most [] []) (sym (ap views r)) (cut_starts most);
  fit = ap (fits most) (ap views r) ∙ fits_from most [] (omega arith) (omega arith);
  weighed = ap (λ rs. sum_by weight (views rs)) r ∙ sym we;
  writable = subst AreWritableRows (sym (ap views r)) tt;
  blocks = record { all = refl; listed = e };
  written = wr;
  short = omega (arith, wr);
  few = omega (arith, ap length e);
  counted = omega (arith, c);
}

le_false : (a b : ℕ) → b < a → nat_le a b ≡ false
le_false a b h = decided (nat_le a b) refl
  where
    decided : (t : Bool) → nat_le a b ≡ t → t ≡ false
    decided true e = absurd (omega (arith, leb-true a b e))
    decided false e = refl

le_same : (a b c : ℕ) → (a ≤ c → b ≤ c) → (b ≤ c → a ≤ c) → nat_le a c ≡ nat_le b c
le_same a b c f g = decided (nat_le b c) refl
  where
    decided : (t : Bool) → nat_le b c ≡ t → nat_le a c ≡ t
    decided true e = le-leb a c (g (leb-true b c e))
    decided false e = refuted (nat_le a c) refl
      where
        refuted : (u : Bool) → nat_le a c ≡ u → u ≡ false
        refuted true k = sym (le-leb b c (f (leb-true a c k))) ∙ e
        refuted false k = refl

fits_parts : (most : ℕ) (rows : Rows) → fits most rows ≡ (nat_le (sum_by weight rows) most && nat_le (length rows) 65_536)
unfolding fits
fits_parts most rows = refl

-- whether a row fits into the open block
takes_is : (most total w n : ℕ) (block : Rows) (v : Val) → sum_by weight block ≡ total → length block ≡ n → w ≡ weight v → most < 2 ^ 32 → total ≤ most
    → (nat_le (min (total + w) (2 ^ 64 - 1)) most && nat_lt n 65_536) ≡ fits most (block ++ v ∷ [])
takes_is most total w n block v weighed counted is few low =
    let whole : sum_by weight (block ++ v ∷ []) ≡ total + w = omega (arith, sum_by-append weight block (v ∷ []), weighed, is) in
    let longer : length (block ++ v ∷ []) ≡ suc n = omega (arith, length-append block (v ∷ []), counted) in
    let light : nat_le (min (total + w) (2 ^ 64 - 1)) most ≡ nat_le (sum_by weight (block ++ v ∷ [])) most =
    le_same _ _ most (λ h. omega (arith, h, whole, few)) (λ h. omega (arith, h, whole)) in
    sym (fits_parts most (block ++ v ∷ []) ∙ ap (λ b. b && nat_le (length (block ++ v ∷ [])) 65_536) (sym light)
    ∙ ap (λ k. nat_le (min (total + w) (2 ^ 64 - 1)) most && nat_le k 65_536) longer)

-- the same of a writer
module _ (tf : Option (List ℕ)) (most : ℕ) (done : Rows) (given : List ℕ) (old : BlockWriter) (v : Val) (w : ℕ) (t : Bool) (k : IsWriting tf most done given old)
    (light : weight v ≤ most) (weighed : w ≡ min (weight v) (2 ^ 64 - 1)) (tested : t ≡ (nat_le (min (old.weight + w) (2 ^ 64 - 1)) old.most && nat_lt (length old.rows.items) 65_536)) where
  pub same_weight : w ≡ weight v
  same_weight = omega (arith, weighed, light, k.may.low)

  low : old.weight ≤ most
  low = omega (arith, fits_weight most (views old.rows.items) k.fit, k.weighed)

  pub fits_so : t ≡ fits most (views old.rows.items ++ v ∷ [])
  fits_so =
      tested ∙ ap (λ n. nat_le (min (old.weight + w) (2 ^ 64 - 1)) n && nat_lt (length old.rows.items) 65_536) k.limit
      ∙ takes_is most old.weight w (length old.rows.items) (views old.rows.items) v k.weighed (length-map old.rows.items view) same_weight (omega (arith, k.may.low)) low

fits_alone : (most : ℕ) (v : Val) → weight v ≤ most → fits most (v ∷ []) ≡ true
fits_alone most v h = fits_from most (v ∷ []) (omega arith) (omega arith)

some_row : (most : ℕ) (block : Rows) (v : Val) → weight v ≤ most → fits most (block ++ v ∷ []) ≡ false → 1 ≤ length block
some_row most [] v h e = absurd (true≢false (sym (fits_alone most v h) ∙ e))
some_row most (b ∷ bs) v h e = omega arith

-- the open block may be closed where a row does not fit any more
pub may_close : (tf : Option (List ℕ)) (old : BlockWriter) (v : Val) (w : ℕ) (t : Bool) → CanTake tf old v → w ≡ min (weight v) (2 ^ 64 - 1)
    → t ≡ (nat_le (min (old.weight + w) (2 ^ 64 - 1)) old.most && nat_lt (length old.rows.items) 65_536) → t ≡ false → MayClose old
may_close tf old v w t can weighed tested full =
    let g = can.going in
    let k = g.is in
    let block = views old.rows.items in
    let f = sym (fits_so tf g.most g.done g.given old v w t k can.light weighed tested) ∙ full in
    record {
      some = omega (arith, some_row g.most block v can.light f, length-map old.rows.items view);
      few = omega (arith, fits_length g.most block k.fit, length-map old.rows.items view);
      writable = k.writable;
      light = omega (arith, fits_weight g.most block k.fit, k.may.low);
      start = omega (arith, k.short, k.few);
    }

sound_more : (rows : Rows) (v : Val) → AreSound (vals rows) → IsSound v → AreSound (vals (rows ++ v ∷ []))
sound_more [] v h s = (s, tt)
sound_more (r ∷ rs) v h s = (h.0, sound_more rs v h.1 s)

writable_more : (rows : Rows) (v : Val) → AreWritableRows rows → IsWritableRow v → AreWritableRows (rows ++ v ∷ [])
writable_more [] v h s = (s, tt)
writable_more (r ∷ rs) v h s = (h.0, writable_more rs v h.1 s)

fit_more : (most : ℕ) (rows : Rows) (v : Val) → EachFits most rows → weight v ≤ most → EachFits most (rows ++ v ∷ [])
fit_more most [] v h s = (s, tt)
fit_more most (r ∷ rs) v h s = (h.0, fit_more most rs v h.1 s)

may_more : (tf : Option (List ℕ)) (most : ℕ) (done : Rows) (v : Val) → MayBePacked tf most done → IsSound v → IsWritableRow v → weight v ≤ most
    → length (cut most (done ++ v ∷ [])) ≤ MOST_BLOCKS → MayBePacked tf most (done ++ v ∷ [])
may_more tf most done v m s w l few = record {
  short_name = m.short_name;
  name = m.name;
  low = m.low;
  sound = sound_more done v m.sound s;
  writable = writable_more done v m.writable w;
  fit = fit_more most done v m.fit l;
  few = few;
}

last_one : (block : Rows) (v : Val) → length (last_block (block ++ v ∷ [])) ≡ 1
last_one [] v = refl
last_one (b ∷ bs) v = refl

-- how many blocks there are while one is open
count_open : (most : ℕ) (done : Rows) (closed : List Rows) (block : Rows) (v : Val) → IsCutSoFar most done closed (block ++ v ∷ []) → length (cut most done) ≡ length closed + 1
count_open most done closed block v so_far =
    omega (arith, ap length (cut_ended most done closed (block ++ v ∷ []) so_far), length-append closed (last_block (block ++ v ∷ [])), last_one block v)

entry_count : (tf : Option (List ℕ)) (closed : List Rows) (given : List ℕ) (entries : List Entry) → HasBlocks tf closed given entries → length entries ≡ length closed
entry_count tf closed given entries k = ap length k.listed ∙ entries_count tf 0 closed

views_more : (xs : List Value) (row : Value) (ys : List Value) → ys ≡ xs ++ row ∷ [] → views ys ≡ views xs ++ view row ∷ []
views_more xs row ys e = ap views e ∙ map-append view xs (row ∷ [])

-- the row joins the open block
module _ (tf : Option (List ℕ)) (old : BlockWriter) (row : Value) (w : ℕ) (t : Bool) (can : CanTake tf old (view row)) (weighed : w ≡ min (weight (view row)) (2 ^ 64 - 1))
    (tested : t ≡ (nat_le (min (old.weight + w) (2 ^ 64 - 1)) old.most && nat_lt (length old.rows.items) 65_536)) where
  lighter : (most : ℕ) (done : Rows) (given : List ℕ) → IsWriting tf most done given old → weight (view row) ≤ most
  lighter most done given k = omega (arith, can.light, can.going.is.limit, k.limit)

  joins : (most : ℕ) (done : Rows) (given : List ℕ) (k : IsWriting tf most done given old) → t ≡ true → fits most (views old.rows.items ++ view row ∷ []) ≡ true
  joins most done given k fitting = sym (fits_so tf most done given old (view row) w t k (lighter most done given k) weighed tested) ∙ fitting

  opens : (most : ℕ) (done : Rows) (given : List ℕ) (k : IsWriting tf most done given old) → t ≡ false → fits most (views old.rows.items ++ view row ∷ []) ≡ false
  opens most done given k apart = sym (fits_so tf most done given old (view row) w t k (lighter most done given k) weighed tested) ∙ apart

  count_joined : (most : ℕ) (done : Rows) (given : List ℕ) (k : IsWriting tf most done given old) → t ≡ true → length (cut most (done ++ view row ∷ [])) ≡ length old.entries + 1
  count_joined most done given k fitting =
      omega (arith, count_open most (done ++ view row ∷ []) k.closed (views old.rows.items) (view row) (cut_joined most done k.closed (views old.rows.items) (view row) k.so_far (joins most done given k fitting)), entry_count tf k.closed given old.entries k.blocks)

  count_opened : (most : ℕ) (done : Rows) (given : List ℕ) (k : IsWriting tf most done given old) → t ≡ false → length (cut most (done ++ view row ∷ [])) ≡ length old.entries + 2
  count_opened most done given k apart =
      omega (
        arith,
        count_open most (done ++ view row ∷ []) (k.closed ++ views old.rows.items ∷ []) [] (view row) (cut_closed most done k.closed (views old.rows.items) (view row) k.so_far (opens most done given k apart)),
        length-append k.closed (views old.rows.items ∷ []),
        entry_count tf k.closed given old.entries k.blocks,
      )

  pub row_joined : (new : BlockWriter) (bytes : List ℕ) → t ≡ true → IsSound (view row) → length old.entries + 1 ≤ MOST_BLOCKS → new.rows.items ≡ old.rows.items ++ row ∷ []
      → new.weight ≡ min (old.weight + w) (2 ^ 64 - 1) → new.most ≡ old.most → new.entries ≡ old.entries → new.written ≡ old.written → new.count ≡ min (old.count + 1) (2 ^ 64 - 1)
      → bytes ≡ [] → Adds tf (view row) old new bytes
  row_joined new bytes fitting sound few r we m e wr c b most done given k =
      let v = view row in
      let block = views old.rows.items in
      let f = joins most done given k fitting in
      let same : views new.rows.items ≡ block ++ v ∷ [] = views_more old.rows.items row new.rows.items r in
      let nothing : given ++ bytes ≡ given = ap (λ x. given ++ x) b ∙ append-nil given in
      let heavy = fits_weight most (block ++ v ∷ []) f in
      record {
        limit = m ∙ k.limit;
        may = may_more tf most done v k.may sound can.writable (lighter most done given k) (omega (arith, count_joined most done given k fitting, few));
        closed = k.closed;
        so_far = subst (IsCutSoFar most (done ++ v ∷ []) k.closed) (sym same) (cut_joined most done k.closed block v k.so_far f);
        fit = ap (fits most) same ∙ f;
        weighed = omega (arith, ap (sum_by weight) same, sum_by-append weight block (v ∷ []), k.weighed, same_weight tf most done given old v w t k (lighter most done given k) weighed tested, we, heavy, k.may.low);
        writable = subst AreWritableRows (sym same) (writable_more block v k.writable can.writable);
        blocks = record { all = nothing ∙ k.blocks.all; listed = e ∙ k.blocks.listed };
        written = wr ∙ k.written ∙ sym (ap length nothing);
        short = omega (arith, wr, k.short, ap length e);
        few = omega (arith, few, ap length e);
        counted = omega (arith, c, k.counted, length-append done (v ∷ []));
      }

  pub joined_full : t ≡ true → MOST_BLOCKS < length old.entries + 1 → IsFullFor tf (view row) old
  joined_full fitting many most done given k = omega (arith, count_joined most done given k fitting, many)

  pub row_opened : (new : BlockWriter) (bytes : List ℕ) → t ≡ false → IsSound (view row) → length old.entries + 2 ≤ MOST_BLOCKS → bytes ≡ block_of (views old.rows.items) → length bytes ≤ 1_000_032
      → new.rows.items ≡ row ∷ [] → new.weight ≡ w → new.most ≡ old.most → new.entries ≡ old.entries ++ entry_of tf old.written (views old.rows.items) ∷ []
      → new.written ≡ old.written + length bytes → new.count ≡ min (old.count + 1) (2 ^ 64 - 1) → Adds tf (view row) old new bytes
  row_opened new bytes apart sound few b short r we m e wr c most done given k =
      let v = view row in
      let block = views old.rows.items in
      let f = opens most done given k apart in
      let same : views new.rows.items ≡ v ∷ [] = ap views r in
      let more : length new.entries ≡ length old.entries + 1 = omega (arith, ap length e, length-append old.entries (entry_of tf old.written block ∷ [])) in
      record {
        limit = m ∙ k.limit;
        may = may_more tf most done v k.may sound can.writable (lighter most done given k) (omega (arith, count_opened most done given k apart, few));
        closed = k.closed ++ block ∷ [];
        so_far = subst (IsCutSoFar most (done ++ v ∷ []) (k.closed ++ block ∷ [])) (sym same) (cut_closed most done k.closed block v k.so_far f);
        fit = ap (fits most) same ∙ fits_alone most v (lighter most done given k);
        weighed = omega (arith, ap (sum_by weight) same, we, same_weight tf most done given old v w t k (lighter most done given k) weighed tested);
        writable = subst AreWritableRows (sym same) (can.writable, tt);
        blocks = record {
          all = ap (λ x. given ++ x) b ∙ ap (λ x. x ++ block_of block) k.blocks.all ∙ ap (λ x. flat_map block_of k.closed ++ x) (sym (append-nil (block_of block))) ∙ sym (bytes_joined k.closed (block ∷ []));
          listed = e ∙ ap (λ n. old.entries ++ entry_of tf n block ∷ []) (k.written ∙ ap length k.blocks.all) ∙ ap (λ es. es ++ entry_of tf (length (flat_map block_of k.closed)) block ∷ []) k.blocks.listed
              ∙ ap (λ n. entries_of tf 0 k.closed ++ entry_of tf n block ∷ []) (omega arith) ∙ sym (entries_joined tf 0 k.closed block);
        };
        written = omega (arith, wr, k.written, length-append given bytes);
        short = omega (arith, wr, k.short, short, more);
        few = omega (arith, more, few);
        counted = omega (arith, c, k.counted, length-append done (v ∷ []));
      }

  pub opened_full : t ≡ false → MOST_BLOCKS < length old.entries + 2 → IsFullFor tf (view row) old
  opened_full apart many most done given k = omega (arith, count_opened most done given k apart, many)

none_open : (block : Rows) → length block ≡ 0 → last_block block ≡ []
none_open [] e = refl
none_open (b ∷ bs) e = absurd (omega (arith, e))

one_open : (block : Rows) → 1 ≤ length block → last_block block ≡ block ∷ []
one_open [] h = absurd (omega (arith, h))
one_open (b ∷ bs) h = refl

-- no block is open at the end
pub closes_none : (tf : Option (List ℕ)) (w : BlockWriter) (bytes : List ℕ) → w.rows.items ≡ [] → bytes ≡ [] → ClosesAll tf w w bytes
closes_none tf w bytes r b most done given k =
    let nothing : given ++ bytes ≡ given = ap (λ x. given ++ x) b ∙ append-nil given in
    let all : cut most done ≡ k.closed =
    cut_ended most done k.closed (views w.rows.items) k.so_far ∙ ap (λ x. k.closed ++ x) (none_open (views w.rows.items) (ap length (ap views r))) ∙ append-nil k.closed in
    record {
      all = subst (λ bs. HasBlocks tf bs (given ++ bytes) w.entries) (sym all) (record { all = nothing ∙ k.blocks.all; listed = k.blocks.listed });
      written = k.written ∙ sym (ap length nothing);
      counted = k.counted;
    }

-- the last block is open
pub may_close_last : (tf : Option (List ℕ)) (w : BlockWriter) → IsGoing tf w → 1 ≤ length w.rows.items → MayClose w
may_close_last tf w g some =
    let k = g.is in
    let block = views w.rows.items in
    record {
      some = some;
      few = omega (arith, fits_length g.most block k.fit, length-map w.rows.items view);
      writable = k.writable;
      light = omega (arith, fits_weight g.most block k.fit, k.may.low);
      start = omega (arith, k.short, k.few);
    }

pub closes_last : (tf : Option (List ℕ)) (old new : BlockWriter) (bytes : List ℕ) → 1 ≤ length old.rows.items → bytes ≡ block_of (views old.rows.items)
    → new.entries ≡ old.entries ++ entry_of tf old.written (views old.rows.items) ∷ [] → new.written ≡ old.written + length bytes → new.count ≡ old.count → ClosesAll tf old new bytes
closes_last tf old new bytes some b e wr c most done given k =
    let block = views old.rows.items in
    let all : cut most done ≡ k.closed ++ block ∷ [] =
    cut_ended most done k.closed block k.so_far ∙ ap (λ x. k.closed ++ x) (one_open block (omega (arith, some, length-map old.rows.items view))) in
    record {
      all = subst (λ bs. HasBlocks tf bs (given ++ bytes) new.entries) (sym all) (record {
        all = ap (λ x. given ++ x) b ∙ ap (λ x. x ++ block_of block) k.blocks.all ∙ ap (λ x. flat_map block_of k.closed ++ x) (sym (append-nil (block_of block))) ∙ sym (bytes_joined k.closed (block ∷ []));
        listed = e ∙ ap (λ n. old.entries ++ entry_of tf n block ∷ []) (k.written ∙ ap length k.blocks.all) ∙ ap (λ es. es ++ entry_of tf (length (flat_map block_of k.closed)) block ∷ []) k.blocks.listed
            ∙ ap (λ n. entries_of tf 0 k.closed ++ entry_of tf n block ∷ []) (omega arith) ∙ sym (entries_joined tf 0 k.closed block);
      });
      written = omega (arith, wr, k.written, length-append given bytes);
      counted = c ∙ k.counted;
    }

-- what was given away is a front of the file
pub given_front : (tf : Option (List ℕ)) (most : ℕ) (done : Rows) (given : List ℕ) (w : BlockWriter) → IsWriting tf most done given w → take (length given) (file_of tf most done) ≡ given
unfolding file_of
given_front tf most done given w k =
    let block = views w.rows.items in
    let whole : flat_map block_of (cut most done) ≡ given ++ flat_map block_of (last_block block) =
    ap (flat_map block_of) (cut_ended most done k.closed block k.so_far) ∙ bytes_joined k.closed (last_block block) ∙ ap (λ x. x ++ flat_map block_of (last_block block)) (sym k.blocks.all) in
    ap (take (length given)) (ap (λ x. x ++ index_of tf (cut most done)) whole ∙ append_assoc given (flat_map block_of (last_block block)) (index_of tf (cut most done)))
    ∙ front given (flat_map block_of (last_block block) ++ index_of tf (cut most done))
  where
    front : (a b : List ℕ) → take (length a) (a ++ b) ≡ a
    front [] b = refl
    front (x ∷ a) b = ap (λ l. x ∷ l) (front a b)

-- the bytes of the last block, the index and the tail end the file
pub finished : (tf : Option (List ℕ)) (old new : BlockWriter) (last : List ℕ) (f : Finished) → ClosesAll tf old new last → f.bytes ≡ last ++ (index_bytes (field_name tf) new.entries ++ tail_bytes new.written)
    → f.rows ≡ new.count → f.blocks ≡ length new.entries → f.length ≡ old.written + length f.bytes → Finishes tf old f
finished tf old new last f closes b r n l most done given k =
    let h = closes most done given k in
    let file : given ++ f.bytes ≡ file_of tf most done =
    indexed tf most done (given ++ last) (given ++ f.bytes) new.entries (field_name tf) h.all refl
    (ap (λ x. given ++ x) b ∙ sym (append_assoc given last (index_bytes (field_name tf) new.entries ++ tail_bytes new.written))
    ∙ ap (λ i. (given ++ last) ++ (index_bytes (field_name tf) new.entries ++ tail_bytes i)) h.written) in
    record {
      file = file;
      rows = r ∙ h.counted;
      blocks = n ∙ listed_count tf most done (given ++ last) new.entries h.all;
      length = l ∙ omega (arith, k.written, length-append given f.bytes, ap length file);
    }

-- whether rows are held
pub no_items : (xs : List Value) (t : Bool) → t ≡ (length xs == 0) → t ≡ true → xs ≡ []
no_items [] t e h = refl
no_items (x ∷ xs) t e h = let none : length (x ∷ xs) ≡ 0 = eqb-true (length (x ∷ xs)) 0 (sym e ∙ h) in absurd (omega (arith, none))

pub some_items : (xs : List Value) (t : Bool) → t ≡ (length xs == 0) → t ≡ false → 1 ≤ length xs
some_items [] t e h = absurd (true≢false (sym e ∙ h))
some_items (x ∷ xs) t e h = omega arith
