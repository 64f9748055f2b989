-- Lines of bytes that come piece by piece.
use Rattle.std.proofs.Common.{◌≡◌, ◌≢◌, inl, inr, ℕ, zero, suc, ◌+◌, ◌-◌, ◌<◌, ◌≤◌, min, Bool, true, false, ◌==◌, List, [], ◌∷◌, ◌++◌, length, take, drop, Option, Some, None, refl, sym, ap, subst, ◌∙◌, arith, append_assoc, append-nil}
use Rattle.std.specs.Option.{option_map}
use Rattle.std.specs.Prelude.{IfSome}
use Rattle.json_pack.proofs.Consumed.{consumed_more}
use Rattle.std.specs.Io.KnownBytes.{Consumes, IsAtEnd}
use Rattle.std.proofs.lemmas.Bool.{eqb-true, eq-eqb}
use Rattle.std.proofs.lemmas.List.{take_all, length-append}
use Rattle.memchr.specs.Find.{IsFirstByte, Passes, is_byte}
use Rattle.pack_meaning.specs.declared.TheConstants.{MOST_LINE_BYTES}
use Rattle.pack_meaning.specs.Splitting.{line_end, lines_of, with_byte, content, HasNoEnd}
use Rattle.pack_meaning.proofs.Splitting.{first_line, last_line, content_ended, content_bare}
use Rattle.json_pack.specs.Reading.{TakesFront, BeginsWith, HasLine, IsAllRead}

-- no line end stands before the place
no_end : (bytes : List ℕ) (i : ℕ) → ((k : ℕ) → k < i → ¬ Passes (is_byte 10) bytes k) → HasNoEnd (take i bytes)
no_end bytes zero h = tt
no_end [] (suc i) h = tt
no_end (b ∷ bs) (suc i) h = (λ e. h 0 (omega arith) (eq-eqb b 10 e), no_end bs i (λ k l p. h (suc k) (omega arith) p))

-- the byte at the place ends a line
parted : (bytes : List ℕ) (i : ℕ) → i < length bytes → Passes (is_byte 10) bytes i → bytes ≡ take i bytes ++ line_end ∷ drop (suc i) bytes
parted [] i h p = absurd (omega arith)
parted (b ∷ bs) zero h p = ap (λ c. c ∷ bs) (eqb-true b 10 p)
parted (b ∷ bs) (suc i) h p = ap (λ l. b ∷ l) (parted bs i (omega arith) p)

none_left : (k : ℕ) (xs : List ℕ) → xs ≡ [] → drop k xs ≡ []
none_left zero xs e = e
none_left (suc k) xs e = rw e refl

twice : (n size : ℕ) (xs : List ℕ) → drop (n + size) xs ≡ drop size (drop n xs)
twice zero size xs = let e : 0 + size ≡ size = omega arith in rw e refl
twice (suc n) size [] = none_left (suc n + size) [] refl ∙ sym (none_left size [] refl)
twice (suc n) size (x ∷ xs) = let e : suc n + size ≡ suc (n + size) = omega arith in rw e (twice n size xs)

take_none : (n : ℕ) (xs : List ℕ) → xs ≡ [] → take n xs ≡ []
take_none zero xs e = refl
take_none (suc n) xs e = rw e refl

drop_take : (k m : ℕ) (xs : List ℕ) → drop k (take m xs) ≡ take (m - k) (drop k xs)
drop_take zero m xs = let e : m - 0 ≡ m = omega arith in rw e refl
drop_take (suc k) zero xs = let e : 0 - suc k ≡ 0 = omega arith in rw e refl
drop_take (suc k) (suc m) [] = let e : suc m - suc k ≡ m - k = omega arith in rw e (sym (take_none (m - k) _ refl))
drop_take (suc k) (suc m) (x ∷ xs) = let e : suc m - suc k ≡ m - k = omega arith in rw e (drop_take k m xs)

-- a line end is found in what wasn't looked at yet
pub front_some : (piece : List ℕ) (from until place next : ℕ) (unread line longer : List ℕ) → unread ≡ take (until - from) (drop from piece) → IsFirstByte (is_byte 10) unread (Some place)
    → next ≡ from + (place + 1) → longer ≡ line ++ take place unread → TakesFront true (take (until - from) (drop from piece)) (take (until - next) (drop next piece)) line longer
front_some piece from until place next unread line longer u f n l =
    let rest : drop (suc place) unread ≡ take (until - next) (drop next piece) =
    ap (drop (suc place)) u ∙ drop_take (suc place) (until - from) (drop from piece)
    ∙ ap (λ k. take k (drop (suc place) (drop from piece))) (omega (arith, n)) ∙ ap (take (until - next)) (sym (twice from (suc place) piece) ∙ ap (λ k. drop k piece) (omega (arith, n))) in
    (take place unread, no_end unread place (λ k h p. f.0.before k (omega arith) h p), l, sym u ∙ parted unread place f.0.high f.1 ∙ ap (λ r. take place unread ++ line_end ∷ r) rest)

-- none is
pub front_none : (piece : List ℕ) (from until : ℕ) (unread line longer : List ℕ) → unread ≡ take (until - from) (drop from piece) → IsFirstByte (is_byte 10) unread None → longer ≡ line ++ unread
    → TakesFront false (take (until - from) (drop from piece)) (take (until - until) (drop until piece)) line longer
front_none piece from until unread line longer u f l =
    let all : take (length unread) unread ≡ unread = take_all (length unread) unread (omega arith) in
    let zero_left : until - until ≡ 0 = omega arith in
    (unread, subst HasNoEnd all (no_end unread (length unread) (λ k h p. f k (omega arith) (omega arith) p)), l, sym u, rw zero_left refl)

pub no_end_both : (a b : List ℕ) → HasNoEnd a → HasNoEnd b → HasNoEnd (a ++ b)
no_end_both [] b h k = k
no_end_both (x ∷ a) b h k = (h.0, no_end_both a b h.1 k)

-- the line that was found
pub bare_found : (found : Bool) (old new line longer : List ℕ) → TakesFront found old new line longer → HasNoEnd line → HasNoEnd longer
bare_found true old new line longer t h = subst HasNoEnd (sym t.2) (no_end_both line t.0 h t.1)
bare_found false old new line longer t h = subst HasNoEnd (sym t.2) (no_end_both line t.0 h t.1)

found_in : (bytes left line longer old new : List ℕ) (n : ℕ) → bytes ≡ line ++ (old ++ left) → HasNoEnd line → TakesFront true old new line longer → n ≡ length longer + 1 → BeginsWith bytes (new ++ left) longer n
found_in bytes left line longer old new n e h t c =
    let bare = bare_found true old new line longer t h in
    let whole : bytes ≡ longer ++ line_end ∷ (new ++ left) =
    e ∙ ap (λ o. line ++ (o ++ left)) t.3 ∙ ap (λ r. line ++ r) (append_assoc t.0 (line_end ∷ new) left) ∙ sym (append_assoc line t.0 (line_end ∷ new ++ left))
    ∙ ap (λ l. l ++ line_end ∷ (new ++ left)) (sym t.2) in
    let long : length (longer ++ line_end ∷ []) ≡ n = omega (arith, length-append longer (line_end ∷ []), c) in
    record {
      line = longer ++ line_end ∷ [];
      later = lines_of (new ++ left);
      split = ap lines_of whole ∙ first_line longer (new ++ left) bare;
      counted = ap (λ k. min k (suc MOST_LINE_BYTES)) (sym long);
      text_of = inl (content_ended longer bare);
      short = λ few. (refl, omega (arith, few, long, c));
    }

pub line_found : (whole left : Option (List ℕ)) (line longer old new : List ℕ) (n : ℕ) → Consumes whole (option_map (λ b. old ++ b) left) line → HasNoEnd line → TakesFront true old new line longer
    → n ≡ length longer + 1 → HasLine whole (option_map (λ b. new ++ b) left) longer n
line_found None left line longer old new n e h t c = tt
line_found (Some bytes) None line longer old new n e h t c = absurd e
line_found (Some bytes) (Some rest) line longer old new n e h t c = found_in bytes rest line longer old new n e h t c

-- no line end yet
pub line_grows : (whole left : Option (List ℕ)) (line longer old new : List ℕ) → Consumes whole (option_map (λ b. old ++ b) left) line → TakesFront false old new line longer
    → Consumes whole (option_map (λ b. new ++ b) left) longer
line_grows None left line longer old new e t = tt
line_grows (Some bytes) None line longer old new e t = absurd e
line_grows (Some bytes) (Some rest) line longer old new e t =
    e ∙ ap (λ o. line ++ (o ++ rest)) t.3 ∙ sym (append_assoc line t.0 rest) ∙ ap (λ l. l ++ rest) (sym t.2) ∙ ap (λ r. longer ++ (r ++ rest)) (sym t.4)

pub grows_further : (old new line longer : List ℕ) → TakesFront false old new line longer → 1 ≤ length old → length line < length longer
grows_further old new line longer t h = omega (arith, ap length t.2, length-append line t.0, ap length t.3, h)

-- The input has ended.
ended_in : (bytes rest line : List ℕ) (n : ℕ) → bytes ≡ line ++ rest → rest ≡ [] → HasNoEnd line → n ≡ length line → 1 ≤ n → BeginsWith bytes rest line n
ended_in bytes rest line n e z h c some =
    let whole : bytes ≡ line = e ∙ ap (λ r. line ++ r) z ∙ append-nil line in
    record {
      line = line;
      later = [];
      split = ap lines_of whole ∙ last_line line h (omega (arith, c, some));
      counted = ap (λ k. min k (suc MOST_LINE_BYTES)) c;
      text_of = inl (content_bare line h);
      short = λ few. (sym (ap lines_of z), omega (arith, few));
    }

at_end : (new rest : List ℕ) → new ≡ [] → rest ≡ [] → new ++ rest ≡ []
at_end new rest e z = ap (λ r. r ++ rest) e ∙ z

pub line_ended : (whole left : Option (List ℕ)) (line new : List ℕ) (n : ℕ) → Consumes whole (option_map (λ b. new ++ b) left) line → IsAtEnd left → new ≡ [] → HasNoEnd line → n ≡ length line → 1 ≤ n
    → HasLine whole (option_map (λ b. new ++ b) left) line n
line_ended None left line new n e z u h c some = tt
line_ended (Some bytes) None line new n e z u h c some = absurd e
line_ended (Some bytes) (Some rest) line new n e z u h c some = ended_in bytes (new ++ rest) line n e (at_end new rest u z) h c some

pub all_ended : (whole left : Option (List ℕ)) (line new : List ℕ) → Consumes whole (option_map (λ b. new ++ b) left) line → IsAtEnd left → new ≡ [] → line ≡ [] → IsAllRead whole
all_ended None left line new e z u l = tt
all_ended (Some bytes) None line new e z u l = absurd e
all_ended (Some bytes) (Some rest) line new e z u l = e ∙ ap (λ x. x ++ (new ++ rest)) l ∙ at_end new rest u z

-- A line is longer than it may be.
record IsLong (bytes line : List ℕ) : Type 0 where
  pub whole : List ℕ
  pub later : List (List ℕ)
  pub split : lines_of bytes ≡ whole ∷ later
  pub all : length line ≤ length whole
  pub inner : length line ≤ length (content whole)

other : (b : ℕ) → b ≢ line_end → (b == line_end) ≡ false
other b n = at (b == line_end) refl
  where
    at : (t : Bool) → (b == line_end) ≡ t → (b == line_end) ≡ false
    at true e = absurd (n (eqb-true b line_end e))
    at false e = e

first_byte : (b : ℕ) (ls : List (List ℕ)) (bytes : List ℕ) → b ≢ line_end → lines_of bytes ≡ ls → IsLong (b ∷ bytes) (b ∷ [])
first_byte b [] bytes n e = record {
  whole = b ∷ [];
  later = [];
  split = rw (other b n, e) refl;
  all = omega arith;
  inner = rw (other b n) (omega arith);
}
first_byte b (l ∷ ls) bytes n e = record {
  whole = b ∷ l;
  later = ls;
  split = rw (other b n, e) refl;
  all = omega arith;
  inner = rw (other b n) (omega arith);
}

long_line : (line rest : List ℕ) → HasNoEnd line → 1 ≤ length line → IsLong (line ++ rest) line
long_line [] rest h some = absurd (omega (arith, some))
long_line (b ∷ []) rest h some = first_byte b (lines_of rest) rest h.0 refl
long_line (b ∷ c ∷ line) rest h some =
    let k = long_line (c ∷ line) rest h.1 (omega arith) in
    record {
      whole = b ∷ k.whole;
      later = k.later;
      split = rw (other b h.0) (ap (with_byte b) k.split);
      all = omega (arith, k.all);
      inner = rw (other b h.0) (omega (arith, k.inner));
    }

long_in : (bytes rest line : List ℕ) (n : ℕ) → bytes ≡ line ++ rest → HasNoEnd line → MOST_LINE_BYTES < length line → n ≡ length line → BeginsWith bytes rest line n
long_in bytes rest line n e h many c =
    let k = long_line line rest h (omega (arith, many)) in
    record {
      line = k.whole;
      later = k.later;
      split = ap lines_of e ∙ k.split;
      counted = omega (arith, c, many, k.all);
      text_of = inr (many, omega (arith, many, k.inner));
      short = λ few. absurd (omega (arith, few, many));
    }

pub line_long : (whole left : Option (List ℕ)) (line new : List ℕ) (n : ℕ) → Consumes whole (option_map (λ b. new ++ b) left) line → HasNoEnd line → MOST_LINE_BYTES < length line → n ≡ length line
    → HasLine whole (option_map (λ b. new ++ b) left) line n
line_long None left line new n e h many c = tt
line_long (Some bytes) None line new n e h many c = absurd e
line_long (Some bytes) (Some rest) line new n e h many c = long_in bytes (new ++ rest) line n e h many c

-- nothing is taken
pub nothing_taken : (whole : Option (List ℕ)) (line : List ℕ) → line ≡ [] → Consumes whole whole line
nothing_taken None line e = tt
nothing_taken (Some bytes) line e = ap (λ l. l ++ bytes) (sym e)

-- a read puts bytes ahead that were left
pub ahead_same : (old new : Option (List ℕ)) (unread piece : List ℕ) → Consumes old new piece → unread ≡ [] → Consumes (option_map (λ b. unread ++ b) old) (option_map (λ b. piece ++ b) new) []
ahead_same None new unread piece e u = tt
ahead_same (Some xs) None unread piece e u = absurd e
ahead_same (Some xs) (Some ys) unread piece e u = ap (λ v. v ++ xs) u ∙ e

-- the last line, where it isn't empty
pub last_told : (whole left : Option (List ℕ)) (line new : List ℕ) (o : Option ℕ) → Consumes whole (option_map (λ b. new ++ b) left) line → IsAtEnd left → new ≡ [] → HasNoEnd line
    → IfSome o (λ n. (n ≡ length line) × (1 ≤ n)) → IfSome o (λ n. HasLine whole (option_map (λ b. new ++ b) left) line n)
last_told whole left line new None e z u h k = tt
last_told whole left line new (Some n) e z u h k = line_ended whole left line new n e z u h k.0 k.1

-- what is ahead stays, and so does the line
pub as_far : (whole mid new : Option (List ℕ)) (line same : List ℕ) → Consumes whole mid line → Consumes mid new [] → same ≡ line → Consumes whole new same
as_far whole mid new line same e k l = consumed_more whole mid new line [] same e k (l ∙ sym (append-nil line))
