-- A name's file always is something: there is none, it is no block file, or it is one.
use Rattle.std.proofs.Common.{◌≡◌, ℕ, zero, suc, ◌+◌, ◌/◌, ◌%◌, ◌^◌, ◌<◌, ◌≤◌, Bool, true, false, cond, List, [], ◌∷◌, ◌++◌, length, take, drop, map, get_or, Option, Some, None, refl, sym, ap, ◌∙◌, subst, arith, take-append-drop}
use Rattle.std.specs.Prelude.{◌&&◌, flat_map, codes}
use Rattle.std.specs.Int.{to_be_bytes, bytes_high_first, byte_at, cast_unsigned, w16, w32, w64}
use Rattle.std.specs.Str.{IsUtf8, bytes_eq}
use Rattle.std.proofs.lemmas.List.{map-append, length-map, length-append, length-take-le}
use Rattle.std.proofs.lemmas.Slice.Eq.{bytes_eq-Decides}
use Rattle.std.proofs.Math.Seq.{drop-append_seam}
use Rattle.std.proofs.Math.Logic.{⊎_elim}
use lib.Utf8.{encode, encodes, next, scalar, scalars, scalar_cases}
use lib.Dec.{T, ltb}
use lib.Dec as dec
use Rattle.snel_device.specs.Contents.{Contents}
use Rattle.snel_device.proofs.Told.{same_name}
use Rattle.file_meaning.specs.Files.{Entry, IsIndex, IsFile, entry_bytes, index_bytes, tail_bytes}
use Rattle.file_meaning.specs.Reading.{file_in}
use Rattle.file_meaning.proofs.Spelled.{file_reads}
use Rattle.file_meaning.proofs.Believed.{file_is}
use Rattle.scan_meaning.specs.Opened.{Named, absent, no_file, opened, IsNamed, AreNamed}

-- a number's lowest byte
abbrev clamp : ℕ → ℕ
clamp n = n % 256

-- each number is a byte
abbrev IsSmall : List ℕ → Type 0
IsSmall l = map clamp l ≡ l

clamp_twice : (m : ℕ) → m % 256 % 256 ≡ m % 256
clamp_twice m = omega arith

clamp_low : (m : ℕ) → m < 256 → m % 256 ≡ m
clamp_low m h = omega arith

small_cons : (x : ℕ) (xs : List ℕ) → clamp x ≡ x → IsSmall xs → IsSmall (x ∷ xs)
small_cons x xs h k = ap (λ (a : ℕ). a ∷ map clamp xs) h ∙ ap (λ (l : List ℕ). x ∷ l) k

small_both : (xs ys : List ℕ) → IsSmall xs → IsSmall ys → IsSmall (xs ++ ys)
small_both xs ys h k = map-append clamp xs ys ∙ ap (λ (l : List ℕ). l ++ map clamp ys) h ∙ ap (λ (l : List ℕ). xs ++ l) k

byte_small : (i n : ℕ) → clamp (byte_at i n) ≡ byte_at i n
byte_small zero n = clamp_twice n
byte_small (suc i) n = clamp_twice (n / 256 ^ suc i)

bytes_small : (k n : ℕ) → IsSmall (bytes_high_first k n)
bytes_small zero n = refl
bytes_small (suc k) n = small_cons (byte_at k n) (bytes_high_first k n) (byte_small k n) (bytes_small k n)

ltb→lt : (a b : ℕ) → ltb a b ≡ true → a < b
ltb→lt a b h = dec.ltb→lt a b (subst T (sym h) tt)

all_below : (c : ℕ) → scalar c ≡ true → c < 1114112
all_below c s = ⊎_elim (λ (h : c < 55296). omega arith) (λ (h : (57344 ≤ c) × (c < 1114112)). h.1) (scalar_cases c s)

-- the bytes of a character
char_small : (c : ℕ) → scalar c ≡ true → IsSmall (encode c)
unfolding encode
char_small c s = on (ltb c 128) (ltb c 2048) (ltb c 65536) refl refl refl
  where
    next_small : (m : ℕ) → clamp (128 + m % 64) ≡ 128 + m % 64
    next_small m = omega arith

    on : (x y z : Bool) → ltb c 128 ≡ x → ltb c 2048 ≡ y → ltb c 65536 ≡ z
        → IsSmall (cond x (c ∷ []) (cond y ((192 + c / 64) ∷ next c ∷ []) (cond z ((224 + c / 4096) ∷ next (c / 64) ∷ next c ∷ []) ((240 + c / 262144) ∷ next (c / 4096) ∷ next (c / 64) ∷ next c ∷ []))))
    on true y z a b d = let below = ltb→lt c 128 a in small_cons c [] (clamp_low c (omega arith)) refl
    on false true z a b d =
        let below = ltb→lt c 2048 b in
        small_cons (192 + c / 64) (next c ∷ []) (clamp_low (192 + c / 64) (omega arith)) (small_cons (next c) [] (next_small c) refl)
    on false false true a b d =
        let below = ltb→lt c 65536 d in
        small_cons (224 + c / 4096) (next (c / 64) ∷ next c ∷ []) (clamp_low (224 + c / 4096) (omega arith))
        (small_cons (next (c / 64)) (next c ∷ []) (next_small (c / 64)) (small_cons (next c) [] (next_small c) refl))
    on false false false a b d =
        let below : c < 1114112 = all_below c s in
        small_cons (240 + c / 262144) (next (c / 4096) ∷ next (c / 64) ∷ next c ∷ []) (clamp_low (240 + c / 262144) (omega arith))
        (small_cons (next (c / 4096)) (next (c / 64) ∷ next c ∷ []) (next_small (c / 4096))
        (small_cons (next (c / 64)) (next c ∷ []) (next_small (c / 64)) (small_cons (next c) [] (next_small c) refl)))

chars_small : (cs : List ℕ) → scalars cs ≡ true → IsSmall (encodes cs)
chars_small [] s = refl
chars_small (c ∷ cs) s = let both = parts (scalar c) (scalars cs) s in small_both (encode c) (encodes cs) (char_small c both.0) (chars_small cs both.1)
  where
    parts : (a b : Bool) → (a && b) ≡ true → (a ≡ true) × (b ≡ true)
    parts true b h = (refl, h)
    parts false b h = absurd (cc)

text_small : (s : List ℕ) → IsUtf8 s → IsSmall s
text_small s h = subst (λ (l : List ℕ). IsSmall l) h.1.1 (chars_small h.0 h.1.0)

entry_small : (e : Entry) → IsSmall (entry_bytes e)
entry_small e =
    let least = to_be_bytes w64 (cast_unsigned w64 e.least) in
    let greatest = to_be_bytes w64 (cast_unsigned w64 e.greatest) in
    small_both (to_be_bytes w64 e.start) (to_be_bytes w32 e.length ++ (to_be_bytes w32 e.rows ++ (least ++ greatest))) (bytes_small 8 e.start)
    (small_both (to_be_bytes w32 e.length) (to_be_bytes w32 e.rows ++ (least ++ greatest)) (bytes_small 4 e.length)
    (small_both (to_be_bytes w32 e.rows) (least ++ greatest) (bytes_small 4 e.rows)
    (small_both least greatest (bytes_small 8 (cast_unsigned w64 e.least)) (bytes_small 8 (cast_unsigned w64 e.greatest)))))

entries_small : (es : List Entry) → IsSmall (flat_map entry_bytes es)
entries_small [] = refl
entries_small (e ∷ es) = small_both (entry_bytes e) (flat_map entry_bytes es) (entry_small e) (entries_small es)

-- what stands behind the blocks of a file
abbrev Behind : List ℕ → List Entry → ℕ → List ℕ
Behind f es n = index_bytes f es ++ tail_bytes n

behind_small : (f : List ℕ) (es : List Entry) (n : ℕ) → IsUtf8 f → IsSmall (Behind f es n)
behind_small f es n utf8 =
    let entries = flat_map entry_bytes es in
    small_both (index_bytes f es) (tail_bytes n)
    (small_both (codes "SNX1") (to_be_bytes w16 (length f) ++ (f ++ (to_be_bytes w32 (length es) ++ entries))) refl
    (small_both (to_be_bytes w16 (length f)) (f ++ (to_be_bytes w32 (length es) ++ entries)) (bytes_small 2 (length f))
    (small_both f (to_be_bytes w32 (length es) ++ entries) (text_small f utf8)
    (small_both (to_be_bytes w32 (length es)) entries (bytes_small 4 (length es)) (entries_small es)))))
    (small_both (to_be_bytes w64 n) (codes "SNX1") (bytes_small 8 n) refl)

-- what is a block file is one still, once each number is a byte
clamped : (bytes f : List ℕ) (es : List Entry) → IsFile bytes f es → IsFile (map clamp bytes) f es
clamped bytes f es file =
    let n = length file.blocks in
    let same : length (map clamp file.blocks) ≡ n = length-map file.blocks clamp in
    record {
      blocks = map clamp file.blocks;
      parts = ap (λ (l : List ℕ). map clamp l) file.parts ∙ map-append clamp file.blocks (Behind f es n)
          ∙ ap (λ (l : List ℕ). map clamp file.blocks ++ l) (behind_small f es n file.index.name)
          ∙ ap (λ (m : ℕ). map clamp file.blocks ++ Behind f es m) (sym same);
      index = subst (λ (m : ℕ). IsIndex f es m) (sym same) file.index;
    }

are_clamped : (l : List ℕ) (i : ℕ) → get_or (map clamp l) i 0 < 256
are_clamped [] i = omega arith
are_clamped (x ∷ l) zero = omega arith
are_clamped (x ∷ l) (suc i) = are_clamped l i

-- the bytes, where they are a block file once each number is a byte: they are one, or none
module _ (bytes f : List ℕ) (es : List Entry) (low : IsFile (map clamp bytes) f es) where
  abbrev Start : ℕ
  Start = length low.blocks

  long : length bytes ≡ Start + length (Behind f es Start)
  long = sym (length-map bytes clamp) ∙ ap (λ (l : List ℕ). length l) low.parts ∙ length-append low.blocks (Behind f es Start)

  is_one : drop Start bytes ≡ Behind f es Start → IsFile bytes f es
  is_one same =
      let all = long in
      let n : length (take Start bytes) ≡ Start = length-take-le Start bytes (omega arith) in
      record {
        blocks = take Start bytes;
        parts = sym (take-append-drop Start bytes) ∙ ap (λ (l : List ℕ). take Start bytes ++ l) same ∙ ap (λ (m : ℕ). take Start bytes ++ Behind f es m) (sym n);
        index = subst (λ (m : ℕ). IsIndex f es m) (sym n) low.index;
      }

  tails : (m n : ℕ) → length (Behind f es m) ≡ length (Behind f es n)
  tails m n = length-append (index_bytes f es) (tail_bytes m) ∙ sym (length-append (index_bytes f es) (tail_bytes n))

  behind_is : IsFile bytes f es → drop Start bytes ≡ Behind f es Start
  behind_is file =
      let n = length file.blocks in
      let all = long in
      let own : length bytes ≡ n + length (Behind f es n) = ap (λ (l : List ℕ). length l) file.parts ∙ length-append file.blocks (Behind f es n) in
      let tail = tails n Start in
      let same : n ≡ Start = omega arith in
      subst (λ (m : ℕ). drop m bytes ≡ Behind f es m) same (ap (λ (l : List ℕ). drop n l) file.parts ∙ drop-append_seam file.blocks (Behind f es n))

  on_test : (t : Bool) → bytes_eq (drop Start bytes) (Behind f es Start) ≡ t → (named : Named) × IsNamed (Some bytes) named
  on_test true is = (opened record { bytes = bytes; field = f; entries = es }, (refl, is_one ((bytes_eq-Decides (drop Start bytes) (Behind f es Start)).0 is)))
  on_test false is = (
    no_file,
    λ g ds file.
        let i : List ℕ × List Entry = (f, es) in
        let j : List ℕ × List Entry = (g, ds) in
        let read = sym (file_reads (map clamp bytes) g ds (clamped bytes g ds file)) ∙ file_reads (map clamp bytes) f es low in
        let same : j ≡ i = cc in
        let own = subst (λ (x : List ℕ × List Entry). IsFile bytes x.0 x.1) same file in
        let yes = subst (λ (l : List ℕ). bytes_eq (drop Start bytes) l ≡ true) (behind_is own) (same_name (drop Start bytes)) in
        absurd (cc),
  )

named_bytes : (bytes : List ℕ) → (f : Named) × IsNamed (Some bytes) f
named_bytes bytes = on (file_in (map clamp bytes)) refl
  where
    on : (o : Option (List ℕ × List Entry)) → file_in (map clamp bytes) ≡ o → (f : Named) × IsNamed (Some bytes) f
    on None is = (no_file, λ g ds file. let read = file_reads (map clamp bytes) g ds (clamped bytes g ds file) in absurd (cc))
    on (Some i) is =
        let low = file_is (map clamp bytes) i.0 i.1 (are_clamped bytes) is in
        on_test bytes i.0 i.1 low (bytes_eq (drop (length low.blocks) bytes) (Behind i.0 i.1 (length low.blocks))) refl

some_named : (file : Option (List ℕ)) → (f : Named) × IsNamed file f
some_named None = (absent, tt)
some_named (Some bytes) = named_bytes bytes

-- the files of these names
pub all_some : (files : Contents) (names : List (List ℕ)) → (fs : List Named) × AreNamed files names fs
all_some files [] = ([], tt)
all_some files (n ∷ ns) =
    let f = some_named (files n) in
    let fs = all_some files ns in
    (f.0 ∷ fs.0, (f.1, fs.1))
