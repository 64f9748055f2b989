-- Logs, row by row.
use Rattle.std.proofs.Common.{◌≡◌, ◌⊎◌, inr, ℕ, zero, suc, ◌+◌, ◌-◌, ◌<◌, ◌≤◌, Bool, true, false, List, [], ◌∷◌, ◌++◌, length, take, Option, Ok, Err, Result, refl, sym, ap, subst, ◌∙◌, arith, append-nil, append_assoc}
use Rattle.std.specs.Prelude.{OnOk, OnErr, IfOk, IfErr, flat_map}
use Rattle.std.proofs.lemmas.List.{length-append}
use Rattle.value_meaning.specs.Val.{Val}
use Rattle.snel_device.specs.Contents.{Contents, Sets, Extends}
use Rattle.write_meaning.specs.Weights.{weight}
use Rattle.write_meaning.specs.Standing.{IsWritableRow}
use Rattle.log_meaning.specs.Rows.{log_row, log_rows}
use Rattle.log_meaning.specs.Laws.{RowsMayBeWritten, RowsAreLight}
use Rattle.pack_meaning.specs.Cuts.{Rows, fits, cut, cut_on, IsCutSoFar}
use Rattle.snel_values.specs.View.{views}
use Rattle.pack_meaning.specs.PackedFiles.{block_of, index_of, file_of}
use Rattle.pack_meaning.proofs.Files.{files_hold}
use Rattle.pack_blocks.specs.declared.writer.BlockWriter.{BlockWriter}
use Rattle.pack_blocks.specs.Writing.{IsWriting, CanTake, IsFullFor, Adds}
use Rattle.pack_blocks.proofs.Files.{bytes_joined}
use Rattle.json_pack.specs.declared.packer.PackedRows.{PackedRows}
use Rattle.json_pack.specs.declared.sums.PackSum.{PackSum}
use Rattle.json_pack.specs.declared.sums.PackFault.{PackFault}
use Rattle.json_pack.specs.declared.sums.PackFault.TheVariants.{Exists, WriteFault, OutOfMemory}
use Rattle.json_pack.specs.Packs.{sum_view}
use Rattle.json_pack.specs.Ending.{IsFront, EndsFile, BreaksFile, sum_for, SumsUp}
use Rattle.json_pack.specs.Making.{time_field, most, made_file, made_sum, HoldsLog, LeavesLogFront, HasMade, CanMake, MakesRow, IsMaking}
use Rattle.json_pack.proofs.Fronts.{compose, extends_more, extends_same, front_of_front, front_trans, whole_front}

-- there are at most as many blocks as rows, and one
count_at : (b : ℕ) (block : Rows) (r : Val) (rs : Rows) → length (cut_on b (block ++ r ∷ []) rs) ≤ length rs + 1 → length (cut_on b (r ∷ []) rs) ≤ length rs + 1 → (t : Bool) → fits b (block ++ r ∷ []) ≡ t
    → length (cut_on b block (r ∷ rs)) ≤ length (r ∷ rs) + 1
count_at b block r rs joined closed true e = rw e (omega (arith, joined))
count_at b block r rs joined closed false e = rw e (omega (arith, closed))

count_on : (b : ℕ) (block rows : Rows) → length (cut_on b block rows) ≤ length rows + 1
count_on b [] [] = omega arith
count_on b (x ∷ xs) [] = omega arith
count_on b block (r ∷ rs) = count_at b block r rs (count_on b (block ++ r ∷ []) rs) (count_on b (r ∷ []) rs) (fits b (block ++ r ∷ [])) refl

few_blocks : (b : ℕ) (rows : Rows) → length (cut b rows) ≤ length rows + 1
unfolding cut
few_blocks b rows = count_on b [] rows

row_count : (start count : ℕ) → length (log_rows start count) ≡ count
row_count start zero = refl
row_count start (suc count) = omega (arith, length-append (log_rows start count) (log_row start count ∷ []), row_count start count)

-- the next row may be added, and there is room for its block
pub can_take_row : (start count : ℕ) (v : Val) (r : PackedRows) → CanMake start count r → RowsMayBeWritten → RowsAreLight → count < 1_000_000 → v ≡ log_row start count → CanTake time_field r.writer v
can_take_row start count v r k written light few e = record {
  going = record { most = most; done = log_rows start count; given = k.given; is = k.made };
  writable = subst IsWritableRow (sym e) (written start count (omega (arith, few)));
  light = omega (arith, ap weight e, light start count);
}

pub never_full : (start count : ℕ) (v : Val) (r : PackedRows) → CanMake start count r → count < 1_000_000 → IsFullFor time_field v r.writer → ⊥
never_full start count v r k few full =
    absurd (omega (arith, full most (log_rows start count) k.given k.made, few_blocks most (log_rows start count ++ v ∷ []), length-append (log_rows start count) (v ∷ []), row_count start count, few))

pub row_made : (start count : ℕ) (v : Val) (old new : PackedRows) (writer : BlockWriter) (closed : List ℕ) → Adds time_field v old.writer writer closed → v ≡ log_row start count → new.writer ≡ writer → MakesRow start count old new closed
row_made start count v old new writer closed adds e w given k =
    let more = adds most (log_rows start count) given k in
    subst (λ x. IsWriting time_field most (log_rows start count ++ x ∷ []) (given ++ closed) new.writer) e (subst (λ x. IsWriting time_field most (log_rows start count ++ v ∷ []) (given ++ closed) x) (sym w) more)

-- before the first row
pub log_starts : (start : ℕ) (told : Option Contents) (name : List ℕ) (r : PackedRows) → IsWriting time_field most [] [] r.writer → r.dropped ≡ 0 → Extends told told name [] → IsMaking start 0 told told name r
log_starts start told name r k d e = record { given = []; made = k; dropped = d; added = e }

pub can_make : (start made : ℕ) (log : ℕ × ℕ) (old new : Option Contents) (name : List ℕ) (r : PackedRows) → log ≡ (start, made) → IsMaking start made old new name r → CanMake log.0 log.1 r
can_make start made log old new name r e m = subst (λ l. CanMake l.0 l.1 r) (sym e) (record { given = m.given; made = m.made })

-- the next row was added
made_next : (start made next : ℕ) (log : ℕ × ℕ) (p q : PackedRows) (closed : List ℕ) → log ≡ (start, made) → MakesRow log.0 log.1 p q closed → next ≡ made + 1 → (given : List ℕ) → HasMade start made given p → HasMade start next (given ++ closed) q
made_next start made next log p q closed e m n given k =
    let step = subst (λ l. MakesRow l.0 l.1 p q closed) e m in
    let same : suc made ≡ next = omega (arith, n) in
    subst (λ i. HasMade start i (given ++ closed) q) same (step given k)

pub making_goes : (start made next : ℕ) (log : ℕ × ℕ) (old told new : Option Contents) (name closed piece : List ℕ) (p q : PackedRows) → log ≡ (start, made) → IsMaking start made old told name p → MakesRow log.0 log.1 p q closed
    → q.dropped ≡ p.dropped → piece ≡ closed → Extends told new name piece → next ≡ made + 1 → IsMaking start next old new name q
making_goes start made next log old told new name closed piece p q e m g d same x n = record {
  given = m.given ++ closed;
  made = made_next start made next log p q closed e g n m.given m.made;
  dropped = d ∙ m.dropped;
  added = extends_more old told new name m.given closed m.added (extends_same told new name piece closed same x);
}

-- what was given away is a front of the file of all rows
record IsMore (start made count : ℕ) : Type 0 where
  pub rest : Rows
  pub is : log_rows start count ≡ log_rows start made ++ rest

more_rows : (start made k : ℕ) → IsMore start made (made + k)
more_rows start made zero = let e : made + 0 ≡ made = omega arith in record { rest = []; is = rw e (sym (append-nil (log_rows start made))) }
more_rows start made (suc k) =
    let m = more_rows start made k in
    let e : made + suc k ≡ suc (made + k) = omega arith in
    record { rest = m.rest ++ log_row start (made + k) ∷ []; is = rw e (ap (λ l. l ++ log_row start (made + k) ∷ []) m.is ∙ append_assoc (log_rows start made) m.rest (log_row start (made + k) ∷ [])) }

more_of : (start made count : ℕ) → made ≤ count → IsMore start made count
more_of start made count h = let e : made + (count - made) ≡ count = omega (arith, h) in subst (IsMore start made) e (more_rows start made (count - made))

front_more : (tf : Option (List ℕ)) (b : ℕ) (done rest : Rows) (given : List ℕ) (w : BlockWriter) → IsWriting tf b done given w → take (length given) (file_of tf b (done ++ rest)) ≡ given
unfolding file_of IsCutSoFar
front_more tf b done rest given w k =
    let later = cut_on b (views w.rows.items) rest in
    let whole : flat_map block_of (cut b (done ++ rest)) ≡ given ++ flat_map block_of later =
    ap (flat_map block_of) (k.so_far rest) ∙ bytes_joined k.closed later ∙ ap (λ x. x ++ flat_map block_of later) (sym k.blocks.all) in
    ap (take (length given)) (ap (λ x. x ++ index_of tf (cut b (done ++ rest))) whole ∙ append_assoc given (flat_map block_of later) (index_of tf (cut b (done ++ rest))))
    ∙ front given (flat_map block_of later ++ index_of tf (cut b (done ++ rest)))
  where
    front : (a c : List ℕ) → take (length a) (a ++ c) ≡ a
    front [] c = refl
    front (x ∷ a) c = ap (λ l. x ∷ l) (front a c)

given_in : (start made count : ℕ) (given : List ℕ) (r : PackedRows) → HasMade start made given r → made ≤ count → IsFront given (made_file start count)
given_in start made count given r k h =
    let m = more_of start made count h in
    (length given, sym (ap (λ rows. take (length given) (file_of time_field most rows)) m.is ∙ front_more time_field most (log_rows start made) m.rest given r.writer k))

pub made_front : (start made count : ℕ) (old new : Option Contents) (name : List ℕ) (r : PackedRows) → IsMaking start made old new name r → made ≤ count → (n : ℕ) × Extends old new name (take n (made_file start count))
made_front start made count old new name r m h =
    let f = given_in start made count m.given r m.made h in
    (f.0, extends_same old new name m.given (take f.0 (made_file start count)) f.1 m.added)

pub making_breaks : (start made count : ℕ) (log : ℕ × ℕ) (old told new : Option Contents) (name closed piece : List ℕ) (p q : PackedRows) → log ≡ (start, made) → IsMaking start made old told name p → MakesRow log.0 log.1 p q closed → made < count
    → piece ≡ closed → (n : ℕ) × Extends told new name (take n piece) → (n : ℕ) × Extends old new name (take n (made_file start count))
making_breaks start made count log old told new name closed piece p q e m g h same cut_off =
    let n = cut_off.0 in
    let k = made_next start made (made + 1) log p q closed e g refl m.given m.made in
    let part = front_of_front n m.given closed (whole_front (m.given ++ closed)) in
    let all = front_trans (m.given ++ take n closed) (m.given ++ closed) (made_file start count) part (given_in start (made + 1) count (m.given ++ closed) q k (omega (arith, h))) in (
      all.0,
      extends_same old new name (m.given ++ take n closed) (take all.0 (made_file start count)) all.1
          (extends_more old told new name m.given (take n closed) m.added (extends_same told new name (take n piece) (take n closed) (ap (take n) same) cut_off.1)),
    )

-- all rows were added
module _ (start made count : ℕ) (old told new : Option Contents) (name : List ℕ) (p : PackedRows) (m : IsMaking start made old told name p) (e : made ≡ count) where
  all : HasMade start count m.given p
  all = subst (λ i. HasMade start i m.given p) e m.made

  pub log_file : {T E : Type 0} (r : Result T E) → OnOk r (EndsFile time_field p.writer told new name) → OnOk r (Extends old new name (made_file start count))
  log_file (Ok v) h =
      let x = h most (log_rows start count) m.given all in
      extends_same old new name (m.given ++ x.0) (made_file start count) x.2 (extends_more old told new name m.given x.0 m.added x.1)
  log_file (Err x) h = tt

  pub log_holds : {T E : Type 0} (r : Result T E) → OnOk r (HoldsLog start count)
  log_holds (Ok v) = files_hold time_field most (log_rows start count) all.may
  log_holds (Err x) = tt

  pub log_sum : {E : Type 0} (r : Result PackSum E) → IfOk r (λ sum. SumsUp time_field p (sum_view sum)) → IfOk r (λ sum. sum_view sum ≡ made_sum start count)
  log_sum (Ok v) h = h most (log_rows start count) m.given all ∙ ap (λ d. sum_for time_field most (log_rows start count) d) m.dropped
  log_sum (Err x) h = tt

  pub log_front : {T E : Type 0} (r : Result T E) → OnErr r (BreaksFile time_field p.writer told new name) → OnErr r ((n : ℕ) × Extends old new name (take n (made_file start count)))
  log_front (Ok v) h = tt
  log_front (Err x) h =
      let k = h most (log_rows start count) m.given all in
      (k.2.0, extends_same old new name (m.given ++ k.0) (take k.2.0 (made_file start count)) k.2.1 (extends_more old told new name m.given k.0 m.added k.1))

-- over the empty file that was made before
pub sets_made : {T E : Type 0} (r : Result T E) (old mid new : Option Contents) (name bytes : List ℕ) → Sets old mid name [] → OnOk r (Extends mid new name bytes) → OnOk r (Sets old new name bytes)
sets_made (Ok v) old mid new name bytes s h = compose old mid new name bytes s h
sets_made (Err x) old mid new name bytes s h = tt

pub leaves_made : {T E : Type 0} (r : Result T E) (start count : ℕ) (old mid new : Option Contents) (name : List ℕ) → Sets old mid name [] → OnErr r ((n : ℕ) × Extends mid new name (take n (made_file start count)))
    → OnErr r (LeavesLogFront start count old new name)
leaves_made (Ok v) start count old mid new name s h = tt
leaves_made (Err x) start count old mid new name s h = inr (h.0, compose old mid new name (take h.0 (made_file start count)) s h.1)

pub only_made : {T : Type 0} (r : Result T PackFault) → IfErr r (λ f. (f ≡ WriteFault) ⊎ (f ≡ OutOfMemory)) → IfErr r (λ f. (f ≡ Exists) ⊎ (f ≡ WriteFault) ⊎ (f ≡ OutOfMemory))
only_made (Ok v) h = tt
only_made (Err f) h = inr h
