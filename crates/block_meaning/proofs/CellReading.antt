-- Reading a cell that holds no cells answers exactly the cell that stands at the front.
use Rattle.std.proofs.Common.{◌≡◌, ℕ, zero, suc, ◌+◌, ◌*◌, ◌/◌, ◌%◌, ◌^◌, ◌<◌, ◌≤◌, true, false, List, [], ◌∷◌, ◌++◌, length, take, drop, Option, Some, None, ltb, eqb, ◌||◌, refl, sym, ap, ◌∙◌, arith, ◌⊎◌, inl, inr, pos, negsuc, append_assoc}
use Rattle.std.specs.Prelude.{◌≢◌, Contains}
use Rattle.std.specs.Str.{is_utf8}
use Rattle.std.proofs.lemmas.Bool.{ltb-false, le-ltb}
use Rattle.std.proofs.lemmas.Bool.Decides.{nat_tests}
use Rattle.std.proofs.lemmas.List.{take_at, drop_at, take-append-drop, length-append, length-take}
use Rattle.std.proofs.lemmas.Option.{cond_some}
use Rattle.std.proofs.lemmas.Str.{IsUtf8-from_is_utf8, is_utf8-from_IsUtf8}
use Rattle.value_meaning.specs.Val.{Val, missing, null, truth, int, time, text, list, struct}
use Rattle.block_meaning.specs.Numbers.{IsVarUInt, var_uint, magnitude}
use Rattle.block_meaning.specs.Timestamps.{timestamp}
use Rattle.block_meaning.specs.Tables.{Table, text_of}
use Rattle.block_meaning.specs.Cells.{SaysLength, IsHead, HasPayload, IsMagnitude, null_types, IsCell}
use Rattle.block_meaning.specs.CellReading.{counted, head_at, is_null_byte, one_byte, whole, below_zero, negative, symbol, scalar, with_payload, or_byte, cell_by}
use Rattle.block_meaning.proofs.Answered.{chosen, some_is, none_is, then_is, map_is, or_true, or_false}
use Rattle.block_meaning.proofs.NumberReading.{var_uint-takes, var_uint-again}
use Rattle.block_meaning.proofs.TimeReading.{meant-is-read, read-is-meant}

-- a head at the front, and its payload behind it
pub record Headed (bytes : List ℕ) (t n : ℕ) (rest : List ℕ) : Type 0 where
  pub head : List ℕ
  pub heads : IsHead t n head
  pub parts : bytes ≡ head ++ rest
  pub fits : n ≤ length rest

-- a length at the front
record Counts (least n : ℕ) (bytes rest : List ℕ) : Type 0 where
  mark : List ℕ
  spells : IsVarUInt mark n
  parts : bytes ≡ mark ++ rest
  enough : least ≤ n
  fits : n ≤ length rest

counted_is : (s least : ℕ) (bytes : List ℕ) (t n : ℕ) (rest : List ℕ) (x : ℕ × List ℕ) → var_uint bytes ≡ Some x → least ≤ x.0 → x.0 ≤ length x.1 → ◌≡◌ {A = ℕ × ℕ × List ℕ} (s, x.0, x.1) (t, n, rest) → (s ≡ t) × Counts least n bytes rest
counted_is s least bytes t n rest x read low high e =
    let e0 : s ≡ t = ap (λ (p : ℕ × ℕ × List ℕ). p.0) e in
    let e1 : x.0 ≡ n = ap (λ (p : ℕ × ℕ × List ℕ). p.1) e in
    let e2 : x.1 ≡ rest = ap (λ (p : ℕ × ℕ × List ℕ). p.2) e in
    let w = var_uint-takes bytes x.0 x.1 read in
    (e0, record { mark = w.0; spells = rw (← e1) w.1; parts = w.2 ∙ ap (λ (r : List ℕ). w.0 ++ r) e2; enough = rw (← e1) low; fits = rw (← e1, ← e2) high })

counted_takes : (s least : ℕ) (bytes : List ℕ) (t n : ℕ) (rest : List ℕ) → counted s least bytes ≡ Some (t, n, rest) → (s ≡ t) × Counts least n bytes rest
unfolding counted
counted_takes s least bytes t n rest e =
    let a = then_is _ (var_uint bytes) _ e in
    elim (chosen (ltb (a.0).0 least || ltb (length (a.0).1) (a.0).0) _ _ _ a.2) [
      | inl c ↦ absurd (none_is _ c.1)
      | inr c ↦
          let tests = or_false _ _ c.0 in
          counted_is s least bytes t n rest a.0 a.1 (ltb-false _ _ tests.0) (ltb-false _ _ tests.1) (some_is _ _ c.1)
    ]

counted_again : (t least n : ℕ) (mark rest : List ℕ) → IsVarUInt mark n → least ≤ n → n ≤ length rest → counted t least (mark ++ rest) ≡ Some (t, n, rest)
unfolding counted
counted_again t least n mark rest v h f =
    let low : ltb n least ≡ false = le-ltb _ _ h in
    let room : ltb (length rest) n ≡ false = le-ltb _ _ f in
    rw (var_uint-again mark n rest v, low, room) refl

long_head : (t n : ℕ) (mark : List ℕ) (h : ℕ) → SaysLength h t n → IsVarUInt mark n → IsHead t n (h ∷ mark)
long_head t n [] h e v = absurd v.spells
long_head t n (b ∷ bs) h e v = (e, v)

short_head : (h : ℕ) (bytes : List ℕ) (t n : ℕ) (rest : List ℕ) → h ≢ 209 → h % 16 < 14 → h % 16 ≤ length bytes → ◌≡◌ {A = ℕ × ℕ × List ℕ} (h / 16, h % 16, bytes) (t, n, rest) → Headed (h ∷ bytes) t n rest
short_head h bytes t n rest a l k e =
    let e0 : h / 16 ≡ t = ap (λ (p : ℕ × ℕ × List ℕ). p.0) e in
    let e1 : h % 16 ≡ n = ap (λ (p : ℕ × ℕ × List ℕ). p.1) e in
    let e2 : bytes ≡ rest = ap (λ (p : ℕ × ℕ × List ℕ). p.2) e in
    record { head = h ∷ []; heads = (omega arith, omega arith, a); parts = ap (λ (r : List ℕ). h ∷ r) e2; fits = rw (← e1, ← e2) k }

pub head_takes : (bytes : List ℕ) (t n : ℕ) (rest : List ℕ) → head_at bytes ≡ Some (t, n, rest) → Headed bytes t n rest
unfolding head_at
head_takes [] t n rest e = absurd cc
head_takes (h ∷ bytes) t n rest e =
    elim (chosen (eqb h 209) _ _ _ e) [
      | inl a ↦
          let m : h ≡ 209 = grind (arith, nat_tests, a.0) in
          let w = counted_takes 13 1 bytes t n rest a.1 in
          record { head = h ∷ w.1.mark; heads = long_head t n w.1.mark h (inr (m, sym w.0, w.1.enough)) w.1.spells; parts = ap (λ (r : List ℕ). h ∷ r) w.1.parts; fits = w.1.fits }
      | inr a ↦ elim (chosen (ltb (h % 16) 14) _ _ _ a.1) [
        | inl b ↦ elim (chosen (ltb (length bytes) (h % 16)) _ _ _ b.1) [
          | inl c ↦ absurd (none_is _ c.1)
          | inr c ↦
              let apart : h ≢ 209 = grind (arith, nat_tests, a.0) in
              let small : h % 16 < 14 = grind (arith, nat_tests, b.0) in
              short_head h bytes t n rest apart small (ltb-false _ _ c.0) (some_is _ _ c.1)
        ]
        | inr b ↦ elim (chosen (eqb (h % 16) 14) _ _ _ b.1) [
          | inl c ↦
              let m : h % 16 ≡ 14 = grind (arith, nat_tests, c.0) in
              let w = counted_takes (h / 16) 0 bytes t n rest c.1 in
              let q : h / 16 ≡ t = w.0 in
              record { head = h ∷ w.1.mark; heads = long_head t n w.1.mark h (inl (omega arith)) w.1.spells; parts = ap (λ (r : List ℕ). h ∷ r) w.1.parts; fits = w.1.fits }
          | inr c ↦ absurd (none_is _ c.1)
        ]
      ]
    ]

pub head_again : (head : List ℕ) (t n : ℕ) (rest : List ℕ) → IsHead t n head → n ≤ length rest → head_at (head ++ rest) ≡ Some (t, n, rest)
unfolding head_at
head_again [] t n rest h f = absurd h
head_again (b ∷ []) t n rest h f =
    let r : b % 16 ≡ n = omega arith in
    let q : b / 16 ≡ t = omega arith in
    let apart = h.2 in
    let other : eqb b 209 ≡ false = grind (arith, nat_tests) in
    let small : ltb (b % 16) 14 ≡ true = grind (arith, nat_tests) in
    let room : ltb (length rest) (b % 16) ≡ false = le-ltb _ _ (omega arith) in
    rw (other, small, room, r, q) refl
head_again (b ∷ v ∷ vs) t n rest h f = long_again h.0
  where
    long_again : SaysLength b t n → head_at ((b ∷ v ∷ vs) ++ rest) ≡ Some (t, n, rest)
    long_again (inl e) =
        let r : b % 16 ≡ 14 = omega arith in
        let q : b / 16 ≡ t = omega arith in
        let other : eqb b 209 ≡ false = grind (arith, nat_tests) in
        rw (other, r, counted_again (b / 16) 0 n (v ∷ vs) rest h.1 (omega arith) f, q) refl
    long_again (inr e) = rw (e.0, counted_again 13 1 n (v ∷ vs) rest h.1 e.2 f, e.1) refl

-- a cell of one byte

is_byte : (h k : ℕ) → eqb h k ≡ true → h ≡ k
is_byte h k e = grind (arith, nat_tests)

null_is : (h : ℕ) → is_null_byte h ≡ true → (t : ℕ) × Contains null_types t × (h ≡ 16 * t + 15)
null_is h e =
    elim (or_true _ (eqb h 223) e) [
      | inr a ↦ (13, (8, omega arith, refl), is_byte h 223 a)
      | inl e ↦ elim (or_true _ (eqb h 191) e) [
        | inr a ↦ (11, (7, omega arith, refl), is_byte h 191 a)
        | inl e ↦ elim (or_true _ (eqb h 143) e) [
          | inr a ↦ (8, (6, omega arith, refl), is_byte h 143 a)
          | inl e ↦ elim (or_true _ (eqb h 127) e) [
            | inr a ↦ (7, (5, omega arith, refl), is_byte h 127 a)
            | inl e ↦ elim (or_true _ (eqb h 111) e) [
              | inr a ↦ (6, (4, omega arith, refl), is_byte h 111 a)
              | inl e ↦ elim (or_true _ (eqb h 63) e) [
                | inr a ↦ (3, (3, omega arith, refl), is_byte h 63 a)
                | inl e ↦ elim (or_true _ (eqb h 47) e) [
                  | inr a ↦ (2, (2, omega arith, refl), is_byte h 47 a)
                  | inl e ↦ elim (or_true _ (eqb h 31) e) [
                    | inr a ↦ (1, (1, omega arith, refl), is_byte h 31 a)
                    | inl a ↦ (0, (0, omega arith, refl), is_byte h 15 a)
                  ]
                ]
              ]
            ]
          ]
        ]
      ]
    ]

null_again : (t : ℕ) → Contains null_types t → is_null_byte (16 * t + 15) ≡ true
null_again t (zero, l, e) = rw (← e) refl
null_again t (suc zero, l, e) = rw (← e) refl
null_again t (suc (suc zero), l, e) = rw (← e) refl
null_again t (suc (suc (suc zero)), l, e) = rw (← e) refl
null_again t (suc (suc (suc (suc zero))), l, e) = rw (← e) refl
null_again t (suc (suc (suc (suc (suc zero)))), l, e) = rw (← e) refl
null_again t (suc (suc (suc (suc (suc (suc zero))))), l, e) = rw (← e) refl
null_again t (suc (suc (suc (suc (suc (suc (suc zero)))))), l, e) = rw (← e) refl
null_again t (suc (suc (suc (suc (suc (suc (suc (suc zero))))))), l, e) = rw (← e) refl
null_again t (suc (suc (suc (suc (suc (suc (suc (suc (suc k)))))))), l, e) = absurd (omega arith)

one_takes : (table : Table) (depth h : ℕ) (v : Val) → one_byte h ≡ Some v → IsCell table depth v (h ∷ [])
unfolding one_byte
one_takes table depth h v e =
    elim (chosen (is_null_byte h) _ _ _ e) [
      | inl a ↦
          let w = null_is h a.0 in
          rw (← some_is _ _ a.1) (w.0, w.1, ap (λ (b : ℕ). b ∷ []) w.2)
      | inr a ↦ elim (chosen (eqb h 16) _ _ _ a.1) [
        | inl b ↦ rw (← some_is _ _ b.1) (ap (λ (b : ℕ). b ∷ []) (is_byte h 16 b.0))
        | inr b ↦ elim (chosen (eqb h 17) _ _ _ b.1) [
          | inl c ↦ rw (← some_is _ _ c.1) (ap (λ (b : ℕ). b ∷ []) (is_byte h 17 c.0))
          | inr c ↦ absurd (none_is _ c.1)
        ]
      ]
    ]

apart : (h k : ℕ) → h % 16 < 15 → k % 16 ≡ 15 → eqb h k ≡ false
apart h k l e = grind (arith, nat_tests)

pub one_none : (h : ℕ) → h % 16 < 15 → 32 ≤ h → one_byte h ≡ None
unfolding one_byte
one_none h l w =
    let a : eqb h 16 ≡ false = grind (arith, nat_tests) in
    let b : eqb h 17 ≡ false = grind (arith, nat_tests) in
    rw (apart h 15 l refl, apart h 31 l refl, apart h 47 l refl, apart h 63 l refl, apart h 111 l refl, apart h 127 l refl, apart h 143 l refl, apart h 191 l refl, apart h 223 l refl, a, b) refl

-- a cell whose payload is read by p
pub record Held (p : ℕ → List ℕ → Option Val) (v : Val) (bytes rest : List ℕ) : Type 0 where
  pub kind : ℕ
  pub payload : List ℕ
  pub front : List ℕ
  pub has : HasPayload kind payload front
  pub parts : bytes ≡ front ++ rest
  pub read : p kind payload ≡ Some v

-- a cell of one byte
pub record Single (v : Val) (bytes rest : List ℕ) : Type 0 where
  pub byte : ℕ
  pub parts : bytes ≡ byte ∷ rest
  pub spells : one_byte byte ≡ Some v

module _ (p : ℕ → List ℕ → Option Val) where
  held_at : (t n : ℕ) (bytes rest after : List ℕ) (v : Val) → Headed bytes t n rest → p t (take n rest) ≡ Some v → drop n rest ≡ after → Held p v bytes after
  held_at t n bytes rest after v h e d =
      let long : n ≡ length (take n rest) = omega (arith, length-take n rest, h.fits) in
      record {
        kind = t;
        payload = take n rest;
        front = h.head ++ take n rest;
        has = record { head = h.head; heads = rw (← long) h.heads; parts = refl };
        parts = h.parts ∙ ap (λ (r : List ℕ). h.head ++ r) (sym (take-append-drop n rest) ∙ ap (λ (r : List ℕ). take n rest ++ r) d) ∙ sym (append_assoc h.head (take n rest) after);
        read = e;
      }

  payload_takes : (bytes : List ℕ) (v : Val) (rest : List ℕ) → with_payload p bytes ≡ Some (v, rest) → Held p v bytes rest
  payload_takes bytes v rest e =
      let a = then_is _ (head_at bytes) _ e in
      let b = map_is _ (p (a.0).0 (take (a.0).1 (a.0).2)) _ a.2 in
      let e0 : b.0 ≡ v = ap (λ (q : Val × List ℕ). q.0) b.2 in
      let e1 : drop (a.0).1 (a.0).2 ≡ rest = ap (λ (q : Val × List ℕ). q.1) b.2 in
      held_at (a.0).0 (a.0).1 bytes (a.0).2 rest v (head_takes bytes (a.0).0 (a.0).1 (a.0).2 a.1) (b.1 ∙ ap Some e0) e1

  pub by_takes : (bytes : List ℕ) (v : Val) (rest : List ℕ) → cell_by p bytes ≡ Some (v, rest) → Single v bytes rest ⊎ Held p v bytes rest
  unfolding cell_by
  by_takes [] v rest e = absurd cc
  by_takes (h ∷ bytes) v rest e = go (one_byte h) refl e
    where
      go : (o : Option Val) → one_byte h ≡ o → or_byte o bytes (with_payload p (h ∷ bytes)) ≡ Some (v, rest) → Single v (h ∷ bytes) rest ⊎ Held p v (h ∷ bytes) rest
      go None s e = inr (payload_takes (h ∷ bytes) v rest e)
      go (Some w) s e =
          let e0 : w ≡ v = ap (λ (q : Val × List ℕ). q.0) (some_is _ _ e) in
          let e1 : bytes ≡ rest = ap (λ (q : Val × List ℕ). q.1) (some_is _ _ e) in
          inl (record { byte = h; parts = ap (λ (r : List ℕ). h ∷ r) e1; spells = s ∙ ap Some e0 })

  pub one_again : (h : ℕ) (v : Val) (rest : List ℕ) → one_byte h ≡ Some v → cell_by p (h ∷ rest) ≡ Some (v, rest)
  unfolding cell_by
  one_again h v rest e = rw e refl

  by_head : (h : ℕ) (rest : List ℕ) → h % 16 < 15 → 32 ≤ h → cell_by p (h ∷ rest) ≡ with_payload p (h ∷ rest)
  unfolding cell_by
  by_head h rest l w = rw (one_none h l w) refl

  long_low : (b t n : ℕ) → SaysLength b t n → (b % 16 < 15) × (16 * t ≤ b)
  long_low b t n (inl e) = (omega arith, omega arith)
  long_low b t n (inr e) = let k = e.0 in let m = e.1 in (omega arith, omega arith)

  by_heads : (head : List ℕ) (t n : ℕ) (rest : List ℕ) → IsHead t n head → 2 ≤ t → cell_by p (head ++ rest) ≡ with_payload p (head ++ rest)
  by_heads [] t n rest h low = absurd h
  by_heads (b ∷ []) t n rest h low = by_head b rest (omega arith) (omega arith)
  by_heads (b ∷ v ∷ vs) t n rest h low =
      let k = long_low b t n h.0 in
      by_head b (v ∷ vs ++ rest) k.0 (omega arith)

  pub by_again : (t : ℕ) (payload front rest : List ℕ) (v : Val) → 2 ≤ t → HasPayload t payload front → p t payload ≡ Some v → cell_by p (front ++ rest) ≡ Some (v, rest)
  by_again t payload front rest v low h e =
      let room : length payload ≤ length (payload ++ rest) = omega (arith, length-append payload rest) in
      let start = by_heads h.head t (length payload) (payload ++ rest) h.heads low in
      let read = head_again h.head t (length payload) (payload ++ rest) h.heads room in
      let f = take_at payload rest (length payload) refl in
      let g = drop_at payload rest (length payload) refl in
      rw (h.parts, append_assoc h.head payload rest) (start ∙ (rw (read, f, g, e) refl))

-- payloads

whole_takes : (payload : List ℕ) (v : Val) → whole payload ≡ Some v → (n : ℕ) × (int (pos n) ≡ v) × IsMagnitude 8 payload n × (n < 2 ^ 63)
whole_takes payload v e =
    elim (chosen (ltb 8 (length payload)) _ _ _ e) [
      | inl a ↦ absurd (none_is _ a.1)
      | inr a ↦
          let b = cond_some (ltb (magnitude payload) (2 ^ 63)) _ _ a.1 in
          let low : magnitude payload < 2 ^ 63 = grind (arith, nat_tests, b.0) in
          (magnitude payload, b.1, record { short = ltb-false _ _ a.0; spells = refl }, low)
    ]

whole_again : (payload : List ℕ) (n : ℕ) → IsMagnitude 8 payload n → n < 2 ^ 63 → whole payload ≡ Some (int (pos n))
whole_again payload n m h =
    let short : ltb 8 (length payload) ≡ false = le-ltb _ _ m.short in
    let e = m.spells in
    let low : ltb n (2 ^ 63) ≡ true = grind (arith, nat_tests) in
    rw (short, ← e, low) refl

negative_takes : (payload : List ℕ) (v : Val) → negative payload ≡ Some v → (n : ℕ) × (int (negsuc n) ≡ v) × IsMagnitude 8 payload (suc n) × (n < 2 ^ 63)
negative_takes payload v e =
    elim (chosen (ltb 8 (length payload)) _ _ _ e) [
      | inl a ↦ absurd (none_is _ a.1)
      | inr a ↦ go (magnitude payload) refl a.1 (ltb-false _ _ a.0)
    ]
  where
    go : (m : ℕ) → m ≡ magnitude payload → below_zero m ≡ Some v → length payload ≤ 8 → (n : ℕ) × (int (negsuc n) ≡ v) × IsMagnitude 8 payload (suc n) × (n < 2 ^ 63)
    go zero e h s = absurd cc
    go (suc n) e h s =
        let b = cond_some (ltb n (2 ^ 63)) _ _ h in
        let low : n < 2 ^ 63 = grind (arith, nat_tests, b.0) in
        (n, b.1, record { short = s; spells = e }, low)

negative_again : (payload : List ℕ) (n : ℕ) → IsMagnitude 8 payload (suc n) → n < 2 ^ 63 → negative payload ≡ Some (int (negsuc n))
negative_again payload n m h =
    let short : ltb 8 (length payload) ≡ false = le-ltb _ _ m.short in
    let e = m.spells in
    let low : ltb n (2 ^ 63) ≡ true = grind (arith, nat_tests) in
    rw (short, ← e, low) refl

symbol_takes : (table : Table) (payload : List ℕ) (v : Val) → symbol table payload ≡ Some v → (s : List ℕ) × (text s ≡ v) × IsMagnitude 4 payload (magnitude payload) × (text_of table (magnitude payload) ≡ Some s)
symbol_takes table payload v e =
    elim (chosen (ltb 4 (length payload)) _ _ _ e) [
      | inl a ↦ absurd (none_is _ a.1)
      | inr a ↦
          let b = map_is text (text_of table (magnitude payload)) v a.1 in
          (b.0, b.2, record { short = ltb-false _ _ a.0; spells = refl }, b.1)
    ]

symbol_again : (table : Table) (payload : List ℕ) (n : ℕ) (s : List ℕ) → IsMagnitude 4 payload n → text_of table n ≡ Some s → symbol table payload ≡ Some (text s)
symbol_again table payload n s m h =
    let short : ltb 4 (length payload) ≡ false = le-ltb _ _ m.short in
    rw (short, ← m.spells, h) refl

-- no list and no struct
abbrev pub IsFlat : Val → Type 0
IsFlat (list vs) = ⊥
IsFlat (struct fs) = ⊥
IsFlat v = Unit {0}

module _ (table : Table) (depth : ℕ) where
  pub scalar_takes : (t : ℕ) (payload front : List ℕ) (v : Val) → HasPayload t payload front → scalar table t payload ≡ Some v → IsCell table depth v front
  unfolding scalar
  scalar_takes t payload front v p e =
      elim (chosen (eqb t 2) _ _ _ e) [
        | inl a ↦
            let m : t ≡ 2 = is_byte t 2 a.0 in
            let w = whole_takes payload v a.1 in
            rw (← w.1) (payload, rw m at p, w.2, w.3)
        | inr a ↦ elim (chosen (eqb t 3) _ _ _ a.1) [
          | inl b ↦
              let m : t ≡ 3 = is_byte t 3 b.0 in
              let w = negative_takes payload v b.1 in
              rw (← w.1) (payload, rw m at p, w.2, w.3)
          | inr b ↦ elim (chosen (eqb t 6) _ _ _ b.1) [
            | inl c ↦
                let m : t ≡ 6 = is_byte t 6 c.0 in
                let w = map_is time (timestamp payload) v c.1 in
                rw (← w.2) (payload, rw m at p, read-is-meant w.0 payload w.1)
            | inr c ↦ elim (chosen (eqb t 7) _ _ _ c.1) [
              | inl d ↦
                  let m : t ≡ 7 = is_byte t 7 d.0 in
                  let w = symbol_takes table payload v d.1 in
                  rw (← w.1) (inl (payload, magnitude payload, rw m at p, w.2, w.3))
              | inr d ↦ elim (chosen (eqb t 8) _ _ _ d.1) [
                | inl f ↦
                    let m : t ≡ 8 = is_byte t 8 f.0 in
                    let w = cond_some (is_utf8 payload) _ _ f.1 in
                    rw (← w.1) (inr (rw m at p, IsUtf8-from_is_utf8 payload w.0))
                | inr f ↦ absurd (none_is _ f.1)
              ]
            ]
          ]
        ]
      ]

  pub single_takes : (v : Val) (bytes rest : List ℕ) → Single v bytes rest → (front : List ℕ) × (bytes ≡ front ++ rest) × IsCell table depth v front
  single_takes v bytes rest s = (s.byte ∷ [], s.parts, one_takes table depth s.byte v s.spells)

  -- p reads what holds no cells as the scalars do
  module _ (p : ℕ → List ℕ → Option Val) (plain : (t : ℕ) (payload : List ℕ) → t < 11 → p t payload ≡ scalar table t payload) where
    pub plain_again : (v : Val) (front rest : List ℕ) → IsFlat v → IsCell table depth v front → cell_by p (front ++ rest) ≡ Some (v, rest)
    unfolding scalar one_byte
    plain_again missing front rest f c = absurd c
    plain_again null front rest f c = rw c.2 (one_again p (16 * c.0 + 15) null rest (rw (null_again c.0 c.1) refl))
    plain_again (truth true) front rest f c = rw c (one_again p 17 (truth true) rest refl)
    plain_again (truth false) front rest f c = rw c (one_again p 16 (truth false) rest refl)
    plain_again (int (pos n)) front rest f c = by_again p 2 c.0 front rest _ (omega arith) c.1 (plain 2 c.0 (omega arith) ∙ whole_again c.0 n c.2 c.3)
    plain_again (int (negsuc n)) front rest f c = by_again p 3 c.0 front rest _ (omega arith) c.1 (plain 3 c.0 (omega arith) ∙ negative_again c.0 n c.2 c.3)
    plain_again (time t) front rest f c = by_again p 6 c.0 front rest _ (omega arith) c.1 (plain 6 c.0 (omega arith) ∙ (rw (meant-is-read t c.0 c.2) refl))
    plain_again (text s) front rest f (inl c) = by_again p 7 c.0 front rest _ (omega arith) c.2 (plain 7 c.0 (omega arith) ∙ symbol_again table c.0 c.1 s c.3 c.4)
    plain_again (text s) front rest f (inr c) = by_again p 8 s front rest _ (omega arith) c.0 (plain 8 s (omega arith) ∙ (rw (is_utf8-from_IsUtf8 s c.1) refl))
    plain_again (list vs) front rest f c = absurd f
    plain_again (struct fs) front rest f c = absurd f
