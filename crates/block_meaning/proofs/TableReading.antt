-- Reading a symbol table answers exactly the table that stands at the front.
use Rattle.std.proofs.Common.{◌≡◌, ℕ, zero, suc, ◌+◌, ◌<◌, ◌≤◌, Bool, true, false, List, [], ◌∷◌, ◌++◌, length, take, drop, Option, Some, None, cond, eqb, refl, sym, ap, ◌∙◌, arith, inl, inr, append_assoc, Ordering}
use Rattle.std.specs.Prelude.{◌&&◌, is_some}
use Rattle.std.specs.Option.{option_map, option_and_then}
use Rattle.std.specs.Ordering.{nat_cmp, is_lt}
use Rattle.std.specs.declared.cmp.Ordering.TheVariants.{Less, Equal, Greater}
use Rattle.std.specs.Cmp.Lexicographic.{slice_cmp}
use Rattle.std.specs.Str.{is_utf8}
use Rattle.std.proofs.lemmas.Bool.Decides.{nat_tests}
use Rattle.std.proofs.lemmas.List.{take_at, drop_at, take-append-drop, length-append, length-take, append-nil}
use Rattle.std.proofs.lemmas.Option.{cond_some}
use Rattle.std.proofs.lemmas.Str.{IsUtf8-from_is_utf8, is_utf8-from_IsUtf8}
use Rattle.block_meaning.specs.Numbers.{IsVarUInt, var_uint}
use Rattle.block_meaning.specs.Tables.{Table, TextsRise}
use Rattle.block_meaning.specs.Cells.{IsHead, HasPayload}
use Rattle.block_meaning.specs.CellReading.{head_at}
use Rattle.block_meaning.specs.Blocks.{AreTexts, IsTable, payload_of, only_payload, listed_in, texts_in, is_above, texts_by, table_at}
use Rattle.block_meaning.specs.Laws.{HasFront, TablesAreRead}
use Rattle.block_meaning.proofs.Answered.{chosen, some_is, none_is, then_is, map_is, and_true}
use Rattle.block_meaning.proofs.NumberReading.{var_uint-takes, var_uint-again}
use Rattle.block_meaning.proofs.CellReading.{head_takes, head_again}
use Rattle.block_meaning.proofs.NestedReading.{payload_some}
use Rattle.block_meaning.proofs.CellSteps.{is_some_map}

is_same : (n k : ℕ) → eqb n k ≡ true → n ≡ k
is_same n k e = grind (arith, nat_tests)

is_same_back : (n k : ℕ) → n ≡ k → eqb n k ≡ true
is_same_back n k e = grind (arith, nat_tests)

as_head : (head : List ℕ) (t u n m : ℕ) → t ≡ u → n ≡ m → IsHead t n head → IsHead u m head
as_head head t u n m e f h = rw (← e, ← f) h

as_number : (front : List ℕ) (n m : ℕ) → n ≡ m → IsVarUInt front n → IsVarUInt front m
as_number front n m e h = rw (← e) h

-- a payload and what follows it, at the front
headed : (t : ℕ) (bytes payload rest : List ℕ) (x : ℕ × ℕ × List ℕ) → head_at bytes ≡ Some x → x.0 ≡ t → take x.1 x.2 ≡ payload → drop x.1 x.2 ≡ rest → HasFront (HasPayload t payload) bytes rest
headed t bytes payload rest x e k p d =
    let h = head_takes bytes x.0 x.1 x.2 e in
    let long : x.1 ≡ length payload = rw (← p) (omega (arith, length-take x.1 x.2, h.fits)) in
    let heads = as_head h.head x.0 t x.1 (length payload) k long h.heads in
    let split : x.2 ≡ payload ++ rest = sym (take-append-drop x.1 x.2) ∙ (λ i. p i ++ d i) in
    (h.head ++ payload, h.parts ∙ ap (λ (r : List ℕ). h.head ++ r) split ∙ sym (append_assoc h.head payload rest), record { head = h.head; heads = heads; parts = refl })

pub payload_takes : (t : ℕ) (bytes payload rest : List ℕ) → payload_of t bytes ≡ Some (payload, rest) → HasFront (HasPayload t payload) bytes rest
unfolding payload_of
payload_takes t bytes payload rest e =
    let x = then_is _ (head_at bytes) _ e in
    elim (chosen (eqb (x.0).0 t) _ _ _ x.2) [
      | inl a ↦
          let p = some_is _ _ a.1 in
          headed t bytes payload rest x.0 x.1 (is_same _ t a.0) (ap (λ (q : List ℕ × List ℕ). q.0) p) (ap (λ (q : List ℕ × List ℕ). q.1) p)
      | inr a ↦ absurd (none_is _ a.1)
    ]

pub payload_again : (t : ℕ) (payload front rest : List ℕ) → HasPayload t payload front → payload_of t (front ++ rest) ≡ Some (payload, rest)
unfolding payload_of
payload_again t payload front rest h =
    let read = head_again h.head t (length payload) (payload ++ rest) h.heads (omega (arith, length-append payload rest)) in
    let same = is_same_back t t refl in
    let f = take_at payload rest (length payload) refl in
    let g = drop_at payload rest (length payload) refl in
    rw (h.parts, append_assoc h.head payload rest, read, same, f, g) refl

pub payload_shrinks : (t : ℕ) (bytes : List ℕ) (x : List ℕ × List ℕ) → payload_of t bytes ≡ Some x → length x.1 < length bytes
payload_shrinks t bytes x e =
    let c = payload_takes t bytes x.0 x.1 e in
    omega (arith, ap length c.1, length-append c.0 x.1, payload_some t x.0 c.0 c.2)

is_empty : (bytes : List ℕ) → eqb (length bytes) 0 ≡ true → bytes ≡ []
is_empty [] e = refl
is_empty (b ∷ bs) e = absurd (let k : suc (length bs) ≡ 0 = is_same _ 0 e in omega arith)

only_front : (t : ℕ) (payload bytes rest : List ℕ) → rest ≡ [] → HasFront (HasPayload t payload) bytes rest → HasPayload t payload bytes
only_front t payload bytes rest e h = rw (h.1, e, append-nil h.0) h.2

pub only_takes : (t : ℕ) (bytes payload : List ℕ) → only_payload t bytes ≡ Some payload → HasPayload t payload bytes
unfolding only_payload
only_takes t bytes payload e =
    let x = then_is _ (payload_of t bytes) _ e in
    let b = cond_some (eqb (length (x.0).1) 0) _ _ x.2 in
    let c = payload_takes t bytes (x.0).0 (x.0).1 x.1 in
    rw b.1 at (only_front t (x.0).0 bytes (x.0).1 (is_empty _ b.0) c)

pub only_again : (t : ℕ) (payload bytes : List ℕ) → HasPayload t payload bytes → only_payload t bytes ≡ Some payload
unfolding only_payload
only_again t payload bytes h = rw (rw (append-nil bytes) at (payload_again t payload bytes [] h)) refl

-- the struct of the one pair 7 with the list of the texts
record Listed (texts cell : List ℕ) : Type 0 where
  pair : List ℕ
  holds : HasPayload 13 pair cell
  label : List ℕ
  listed : List ℕ
  parts : pair ≡ label ++ listed
  labels : IsVarUInt label 7
  lists : HasPayload 11 texts listed

listed_takes : (cell texts : List ℕ) → listed_in cell ≡ Some texts → Listed texts cell
unfolding listed_in
listed_takes cell texts e =
    let pair = then_is _ (only_payload 13 cell) _ e in
    let l = then_is _ (var_uint pair.0) _ pair.2 in
    elim (chosen (eqb (l.0).0 7) _ _ _ l.2) [
      | inl a ↦
          let w = var_uint-takes pair.0 (l.0).0 (l.0).1 l.1 in
          let labels = as_number w.0 (l.0).0 7 (is_same _ 7 a.0) w.1 in
          record { pair = pair.0; holds = only_takes 13 cell pair.0 pair.1; label = w.0; listed = (l.0).1; parts = w.2; labels = labels; lists = only_takes 11 (l.0).1 texts a.1 }
      | inr a ↦ absurd (none_is _ a.1)
    ]

listed_again : (cell texts : List ℕ) → Listed texts cell → listed_in cell ≡ Some texts
unfolding listed_in
listed_again cell texts h =
    let read : var_uint h.pair ≡ Some (7, h.listed) = rw h.parts (var_uint-again h.label 7 h.listed h.labels) in
    rw (only_again 13 h.pair cell h.holds, read) (only_again 11 texts h.listed h.lists)

-- the count of the annotation's bytes, the annotation 3, and that struct
record Noted (texts content : List ℕ) : Type 0 where
  count : List ℕ
  annotation : List ℕ
  cell : List ℕ
  parts : content ≡ count ++ (annotation ++ cell)
  counts : IsVarUInt count (length annotation)
  annotates : IsVarUInt annotation 3
  lists : Listed texts cell

noted_takes : (content texts : List ℕ) (x y : ℕ × List ℕ) → var_uint content ≡ Some x → var_uint x.1 ≡ Some y → y.0 ≡ 3 → length x.1 ≡ length y.1 + x.0 → Listed texts y.1 → Noted texts content
noted_takes content texts x y e f three long l =
    let u = var_uint-takes content x.0 x.1 e in
    let v = var_uint-takes x.1 y.0 y.1 f in
    let n : x.0 ≡ length v.0 = omega (arith, ap length v.2, length-append v.0 y.1) in
    let counts = as_number u.0 x.0 (length v.0) n u.1 in
    let annotates = as_number v.0 y.0 3 three v.1 in
    record { count = u.0; annotation = v.0; cell = y.1; parts = u.2 ∙ ap (λ (r : List ℕ). u.0 ++ r) v.2; counts = counts; annotates = annotates; lists = l }

texts_in-takes : (content texts : List ℕ) → texts_in content ≡ Some texts → Noted texts content
unfolding texts_in
texts_in-takes content texts e =
    let x = then_is _ (var_uint content) _ e in
    let y = then_is _ (var_uint (x.0).1) _ x.2 in
    elim (chosen (eqb (y.0).0 3 && eqb (length (x.0).1) (length (y.0).1 + (x.0).0)) _ _ _ y.2) [
      | inl a ↦
          let p = and_true _ _ a.0 in
          noted_takes content texts x.0 y.0 x.1 y.1 (is_same _ 3 p.0) (is_same _ _ p.1) (listed_takes (y.0).1 texts a.1)
      | inr a ↦ absurd (none_is _ a.1)
    ]

texts_in-again : (content texts : List ℕ) → Noted texts content → texts_in content ≡ Some texts
unfolding texts_in
texts_in-again content texts h =
    let first : var_uint content ≡ Some (length h.annotation, h.annotation ++ h.cell) = rw h.parts (var_uint-again h.count (length h.annotation) (h.annotation ++ h.cell) h.counts) in
    let second = var_uint-again h.annotation 3 h.cell h.annotates in
    let long = is_same_back (length (h.annotation ++ h.cell)) (length h.cell + length h.annotation) (omega (arith, length-append h.annotation h.cell)) in
    rw (first, second, long) (listed_again h.cell texts h.lists)

-- texts that rise, above the one before if there is one
abbrev RiseFrom : Option (List ℕ) → Table → Type 0
RiseFrom None ts = TextsRise ts
RiseFrom (Some s) ts = TextsRise (s ∷ ts)

lt_is : (o : Ordering) → is_lt o ≡ true → o ≡ Less
lt_is Less e = refl
lt_is Equal e = cc
lt_is Greater e = cc

rise_is : (before : Option (List ℕ)) (t : List ℕ) (ts : Table) → is_above before t ≡ true → TextsRise (t ∷ ts) → RiseFrom before (t ∷ ts)
rise_is None t ts e r = r
rise_is (Some s) t ts e r = (lt_is (slice_cmp nat_cmp s t) e, r)

rise_back : (before : Option (List ℕ)) (t : List ℕ) (ts : Table) → RiseFrom before (t ∷ ts) → (is_above before t ≡ true) × TextsRise (t ∷ ts)
rise_back None t ts r = (refl, r)
rise_back (Some s) t ts r = (rw r.0 refl, r.1)

rise_none : (before : Option (List ℕ)) → RiseFrom before []
rise_none None = tt
rise_none (Some s) = tt

texts_take : (before : Option (List ℕ)) (fuel : ℕ) (bytes : List ℕ) (ts : Table) → texts_by before fuel bytes ≡ Some ts → AreTexts ts bytes × RiseFrom before ts
texts_take before fuel [] [] e = (refl, rise_none before)
texts_take before fuel [] (t ∷ ts) e = absurd cc
texts_take before zero (b ∷ bs) ts e = absurd (none_is ts e)
texts_take before (suc fuel) (b ∷ bs) ts e =
    let p = then_is _ (payload_of 8 (b ∷ bs)) _ e in
    elim (chosen (is_utf8 (p.0).0 && is_above before (p.0).0) _ _ _ p.2) [
      | inl a ↦
          let tests = and_true _ _ a.0 in
          let m = map_is (λ (us : Table). (p.0).0 ∷ us) (texts_by (Some (p.0).0) fuel (p.0).1) ts a.1 in
          let c = payload_takes 8 (b ∷ bs) (p.0).0 (p.0).1 p.1 in
          let others = texts_take (Some (p.0).0) fuel (p.0).1 m.0 m.1 in
          rw (← m.2) ((c.0, (p.0).1, c.1, c.2, IsUtf8-from_is_utf8 (p.0).0 tests.0, others.0), rise_is before (p.0).0 m.0 tests.1 others.1)
      | inr a ↦ absurd (none_is ts a.1)
    ]

texts_step : (before : Option (List ℕ)) (fuel : ℕ) (first rest t : List ℕ) (ts : Table) → 0 < length first → payload_of 8 (first ++ rest) ≡ Some (t, rest) → is_utf8 t ≡ true → is_above before t ≡ true → texts_by (Some t) fuel rest ≡ Some ts → texts_by before (suc fuel) (first ++ rest) ≡ Some (t ∷ ts)
texts_step before fuel [] rest t ts h e u r k = absurd (omega arith)
texts_step before fuel (b ∷ bs) rest t ts h e u r k = rw (e, u, r, k) refl

texts_again : (before : Option (List ℕ)) (fuel : ℕ) (ts : Table) (bytes : List ℕ) → length bytes ≤ fuel → AreTexts ts bytes → RiseFrom before ts → texts_by before fuel bytes ≡ Some ts
texts_again before fuel [] [] h c r = refl
texts_again before fuel [] (b ∷ bs) h c r = absurd cc
texts_again before zero (t ∷ ts) bytes h c r = absurd (omega (arith, ap length c.2, length-append c.0 c.1, payload_some 8 t c.0 c.3))
texts_again before (suc fuel) (t ∷ ts) bytes h c r =
    let some = payload_some 8 t c.0 c.3 in
    let back = rise_back before t ts r in
    let others = texts_again (Some t) fuel ts c.1 (omega (arith, ap length c.2, length-append c.0 c.1)) c.5 back.1 in
    rw c.2 (texts_step before fuel c.0 c.1 t ts some (payload_again 8 t c.0 c.1 c.3) (is_utf8-from_IsUtf8 t c.4) back.0 others)

table_takes : (table : Table) (content front : List ℕ) → HasPayload 14 content front → (texts : List ℕ) → Noted texts content → AreTexts table texts → TextsRise table → IsTable table front
table_takes table content front outer texts n stand rise =
    record { content = content; outer = outer; count = n.count; annotation = n.annotation; cell = n.cell; parts = n.parts; counts = n.counts; annotates = n.annotates; pair = n.lists.pair; holds = n.lists.holds; label = n.lists.label; listed = n.lists.listed; pair_parts = n.lists.parts; labels = n.lists.labels; texts = texts; lists = n.lists.lists; stand = stand; rise = rise }

pub tables_take : (table : Table) (bytes rest : List ℕ) → table_at bytes ≡ Some (table, rest) → HasFront (IsTable table) bytes rest
unfolding table_at
tables_take table bytes rest e =
    let p = then_is _ (payload_of 14 bytes) _ e in
    let cells = then_is _ (texts_in (p.0).0) _ p.2 in
    let m = map_is (λ (t : Table). (t, (p.0).1)) (texts_by None (length cells.0) cells.0) _ cells.2 in
    let ts = texts_take None (length cells.0) cells.0 m.0 m.1 in
    let c = payload_takes 14 bytes (p.0).0 (p.0).1 p.1 in
    let t-is : m.0 ≡ table = ap (λ (q : Table × List ℕ). q.0) m.2 in
    let rest-is : (p.0).1 ≡ rest = ap (λ (q : Table × List ℕ). q.1) m.2 in
    (c.0, c.1 ∙ ap (λ (r : List ℕ). c.0 ++ r) rest-is, rw t-is at (table_takes m.0 (p.0).0 c.0 c.2 cells.0 (texts_in-takes (p.0).0 cells.0 cells.1) ts.0 ts.1))

pub tables_again : (table : Table) (front rest : List ℕ) → IsTable table front → table_at (front ++ rest) ≡ Some (table, rest)
unfolding table_at
tables_again table front rest h =
    let listed : Listed h.texts h.cell = record { pair = h.pair; holds = h.holds; label = h.label; listed = h.listed; parts = h.pair_parts; labels = h.labels; lists = h.lists } in
    let noted : Noted h.texts h.content = record { count = h.count; annotation = h.annotation; cell = h.cell; parts = h.parts; counts = h.counts; annotates = h.annotates; lists = listed } in
    rw (payload_again 14 h.content front rest h.outer, texts_in-again h.content h.texts noted, texts_again None (length h.texts) table h.texts (omega arith) h.stand h.rise) refl

pub tables_read : TablesAreRead
tables_read table bytes rest = (λ e. tables_take table bytes rest e, λ h. rw h.1 (tables_again table h.0 rest h.2))

-- fuel, and one text more

same_then : {A B : Type 0} (g h : A → Option B) (o : Option A) → ((x : A) → o ≡ Some x → g x ≡ h x) → option_and_then g o ≡ option_and_then h o
same_then g h None e = refl
same_then g h (Some x) e = e x refl

either : (c : Bool) (o q : Option Table) → o ≡ q → cond c o None ≡ cond c q None
either true o q e = e
either false o q e = refl

-- more fuel than bytes changes nothing
pub texts_fuel : (before : Option (List ℕ)) (j k : ℕ) (bytes : List ℕ) → length bytes ≤ j → length bytes ≤ k → texts_by before j bytes ≡ texts_by before k bytes
texts_fuel before j k [] g h = refl
texts_fuel before zero k (b ∷ bs) g h = absurd (omega arith)
texts_fuel before (suc j) zero (b ∷ bs) g h = absurd (omega arith)
texts_fuel before (suc j) (suc k) (b ∷ bs) g h =
    same_then _ _ (payload_of 8 (b ∷ bs)) (λ p e.
    let less = payload_shrinks 8 (b ∷ bs) p e in
    either (is_utf8 p.0 && is_above before p.0) _ _ (ap (option_map (λ (us : Table). p.0 ∷ us)) (texts_fuel (Some p.0) j k p.1 (omega arith) (omega arith))))

-- one text more is read
pub texts_next : (before : Option (List ℕ)) (j k : ℕ) (bytes : List ℕ) (p : List ℕ × List ℕ) → payload_of 8 bytes ≡ Some p → is_utf8 p.0 ≡ true → is_above before p.0 ≡ true → length bytes ≤ j → length p.1 ≤ k → texts_by before j bytes ≡ option_map (λ (us : Table). p.0 ∷ us) (texts_by (Some p.0) k p.1)
texts_next before j k [] p e u r g h = absurd (omega (arith, payload_shrinks 8 [] p e))
texts_next before zero k (b ∷ bs) p e u r g h = absurd (omega arith)
texts_next before (suc j) k (b ∷ bs) p e u r g h =
    let less = payload_shrinks 8 (b ∷ bs) p e in
    rw (e, u, r) (ap (option_map (λ (us : Table). p.0 ∷ us)) (texts_fuel (Some p.0) j k p.1 (omega arith) h))

pub texts_next_some : (before : Option (List ℕ)) (j k : ℕ) (bytes : List ℕ) (p : List ℕ × List ℕ) → payload_of 8 bytes ≡ Some p → is_utf8 p.0 ≡ true → is_above before p.0 ≡ true → length bytes ≤ j → length p.1 ≤ k → is_some (texts_by before j bytes) ≡ is_some (texts_by (Some p.0) k p.1)
texts_next_some before j k bytes p e u r g h = rw (texts_next before j k bytes p e u r g h) (is_some_map (λ (us : Table). p.0 ∷ us) (texts_by (Some p.0) k p.1))

-- where no text stands, the bytes are no texts
pub texts_stop : (before : Option (List ℕ)) (j : ℕ) (bytes : List ℕ) → payload_of 8 bytes ≡ None → 0 < length bytes → texts_by before j bytes ≡ None
texts_stop before j [] e h = absurd (omega arith)
texts_stop before zero (b ∷ bs) e h = refl
texts_stop before (suc j) (b ∷ bs) e h = rw e refl

-- nor where the first is no UTF-8 or doesn't rise
pub texts_stop_test : (before : Option (List ℕ)) (j : ℕ) (bytes : List ℕ) (p : List ℕ × List ℕ) → payload_of 8 bytes ≡ Some p → (is_utf8 p.0 && is_above before p.0) ≡ false → texts_by before j bytes ≡ None
texts_stop_test before j [] p e t = absurd (omega (arith, payload_shrinks 8 [] p e))
texts_stop_test before zero (b ∷ bs) p e t = refl
texts_stop_test before (suc j) (b ∷ bs) p e t = rw (e, t) refl
