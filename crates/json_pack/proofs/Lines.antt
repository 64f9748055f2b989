-- Lines, one by one.
use Rattle.std.proofs.Common.{◌≡◌, inl, inr, ℕ, suc, ◌+◌, ◌-◌, ◌^◌, ◌<◌, ◌≤◌, min, Bool, true, false, not, ◌&&◌, nat_lt, List, [], ◌∷◌, ◌++◌, length, take, Option, Some, None, refl, sym, ap, subst, ◌∙◌, arith, append-nil, append_assoc}
use Rattle.std.specs.Prelude.{if◌then◌else◌, IfSome, option_map}
use Rattle.std.specs.List.{filter_map, cons_option, list_all}
use Rattle.std.specs.Option.{ForSome}
use Rattle.std.proofs.lemmas.Bool.{lt-ltb, ltb-true}
use Rattle.std.proofs.lemmas.List.{length-append}
use Rattle.std.proofs.lemmas.List.Sums.{sum_by-append}
use Rattle.serde_json.specs.Data.{Data, Members}
use Rattle.serde_json.specs.Find.{as_object}
use Rattle.value_meaning.specs.Val.{Val}
use Rattle.file_meaning.specs.declared.TheConstants.{MOST_BLOCKS}
use Rattle.write_meaning.specs.Weights.{weight}
use Rattle.write_meaning.specs.Standing.{IsWritableRow}
use Rattle.pack_meaning.specs.declared.LineWhy.{LineWhy}
use Rattle.pack_meaning.specs.declared.LineWhy.TheVariants.{TooLong, Number, TooLarge, TooMuch, Full}
use Rattle.pack_meaning.specs.declared.TheConstants.{MOST_LINE_BYTES, MOST_INPUT_BYTES}
use Rattle.pack_meaning.specs.Splitting.{lines_of, content, HasNoEnd}
use Rattle.pack_meaning.proofs.Splitting.{content_bare}
use Rattle.pack_meaning.specs.Rows.{row_in, member_fractions}
use Rattle.pack_meaning.specs.Lines.{Settings, Line, blank, refused, row, is_blank, fitting, of_members, of_object, of_json, json_of, line_of}
use Rattle.pack_meaning.specs.Cuts.{Rows, cut}
use Rattle.pack_meaning.specs.Packing.{Refusal, row_of, dropped_of, packed, dropped_from, bytes_in, is_too_much, is_full, reason_of, reason_at, first_of, refusal_from, refusal}
use Rattle.json_rows.specs.LineViews.{counted}
use Rattle.pack_blocks.specs.declared.writer.BlockWriter.{BlockWriter}
use Rattle.pack_blocks.specs.Writing.{CanTake, Adds, IsFullFor}
use Rattle.pack_blocks.proofs.Writing.{given_front}
use Rattle.json_pack.specs.declared.packer.PackedRows.{PackedRows}
use Rattle.json_pack.specs.declared.packer.LinePacker.{LinePacker}
use Rattle.json_pack.specs.Reading.{IsTextOf, BeginsWith, HasLine}
use Rattle.json_pack.specs.Packs.{file_for}
use Rattle.json_pack.specs.Packing.{HasRead, CanPack, IsLike, AddsLine, AddsRow, RefusesRow, RefusesText, counted_bytes, TakesLine, RefusesLine, IsUpTo, IsToldUpTo, IsPacking, GoesOn, StopsHere, StopsAt}

-- a row that a line comes to isn't too heavy
fitting_light : (most : ℕ) (u v : Val) (n d : ℕ) → fitting most u n ≡ row v d → weight v ≤ most
fitting_light most u v n d e = at (nat_lt most (weight u)) refl e
  where
    at : (b : Bool) → nat_lt most (weight u) ≡ b → (if b then refused TooLarge else row u n) ≡ row v d → weight v ≤ most
    at true h k = cc
    at false h k =
        let same : u ≡ v = cc in
        below (nat_lt most (weight v)) refl (ap (λ w. nat_lt most (weight w)) (sym same) ∙ h)
      where
        below : (c : Bool) → nat_lt most (weight v) ≡ c → nat_lt most (weight v) ≡ false → weight v ≤ most
        below c e f = grind (arith, lt-ltb)

members_light : (s : Settings) (ms : Members) (v : Val) (d : ℕ) → of_members s ms ≡ row v d → weight v ≤ s.most
members_light s ms v d e = at (not s.drops && nat_lt 0 (member_fractions ms)) e
  where
    at : (b : Bool) → (if b then refused Number else fitting s.most (row_in s.time_field ms) (member_fractions ms)) ≡ row v d → weight v ≤ s.most
    at true k = cc
    at false k = fitting_light s.most (row_in s.time_field ms) v (member_fractions ms) d k

json_light : (s : Settings) (o : Option Data) (v : Val) (d : ℕ) → of_json s o ≡ row v d → weight v ≤ s.most
json_light s None v d e = cc
json_light s (Some j) v d e = at (as_object j) e
  where
    at : (o : Option Members) → of_object s o ≡ row v d → weight v ≤ s.most
    at None k = cc
    at (Some ms) k = members_light s ms v d k

pub row_light : (s : Settings) (text : List ℕ) (v : Val) (d : ℕ) → line_of s text ≡ row v d → weight v ≤ s.most
unfolding line_of
row_light s text v d e = long (nat_lt MOST_LINE_BYTES (length text)) e
  where
    long : (b : Bool) → (if b then refused TooLong else (if list_all is_blank text then blank else of_json s (json_of text))) ≡ row v d → weight v ≤ s.most
    long true k = cc
    long false k = bare (list_all is_blank text) k
      where
        bare : (c : Bool) → (if c then blank else of_json s (json_of text)) ≡ row v d → weight v ≤ s.most
        bare true k = cc
        bare false k = json_light s (json_of text) v d k

-- a line by its count
pub record IsRow (l : Line) (v : Val) (n : ℕ) : Type 0 where
  pub dropped : ℕ
  pub is : l ≡ row v dropped
  pub count : n ≡ min dropped (2 ^ 64 - 1)

pub row_counted : (l : Line) (v : Val) (n : ℕ) → counted l ≡ row v n → IsRow l v n
row_counted blank v n e = cc
row_counted (refused why) v n e = cc
row_counted (row u d) v n e = let same : u ≡ v = cc in let count : min d (2 ^ 64 - 1) ≡ n = cc in record { dropped = d; is = ap (λ w. row w d) same; count = sym count }

blank_counted : (l : Line) → counted l ≡ blank → l ≡ blank
blank_counted blank e = refl
blank_counted (refused why) e = cc
blank_counted (row u d) e = cc

mapped : (h : List ℕ → Option Val) (ls : List (List ℕ)) (l : List ℕ) → filter_map h (ls ++ l ∷ []) ≡ filter_map h ls ++ cons_option (h l) []
mapped h [] l = refl
mapped h (k ∷ ls) l = rw (mapped h ls l) (inner (h k) (filter_map h ls) (cons_option (h l) []))
  where
    inner : (o : Option Val) (a b : Rows) → cons_option o (a ++ b) ≡ cons_option o a ++ b
    inner None a b = refl
    inner (Some v) a b = refl

packed_more : (s : Settings) (ls : List (List ℕ)) (l : List ℕ) → packed s (ls ++ l ∷ []) ≡ packed s ls ++ cons_option (row_of (line_of s (content l))) []
packed_more s ls l = mapped (λ k. row_of (line_of s (content k))) ls l

dropped_more : (s : Settings) (ls : List (List ℕ)) (l : List ℕ) → dropped_from s (ls ++ l ∷ []) ≡ dropped_from s ls + dropped_of (line_of s (content l))
dropped_more s ls l = omega (arith, sum_by-append (λ k. dropped_of (line_of s (content k))) ls (l ∷ []))

lt_false : (a b : ℕ) → b ≤ a → nat_lt a b ≡ false
lt_false a b h = decided (nat_lt a b) refl
  where
    decided : (t : Bool) → nat_lt a b ≡ t → t ≡ false
    decided true e = absurd (omega (arith, ltb-true a b e))
    decided false e = refl

not_full : (s : Settings) (rows : Rows) (v : Val) → length (cut s.most (rows ++ v ∷ [])) ≤ MOST_BLOCKS → is_full s rows v ≡ false
unfolding is_full
not_full s rows v h = lt_false _ _ h

is_too_full : (s : Settings) (rows : Rows) (v : Val) → MOST_BLOCKS < length (cut s.most (rows ++ v ∷ [])) → is_full s rows v ≡ true
unfolding is_full
is_too_full s rows v h = lt-ltb _ _ h

-- a text that is too long is refused
too_long : (s : Settings) (text : List ℕ) → MOST_LINE_BYTES < length text → line_of s text ≡ refused TooLong
unfolding line_of
too_long s text h = rw (lt-ltb MOST_LINE_BYTES (length text) h) refl

short_of : (s : Settings) (text : List ℕ) → (line_of s text ≡ refused TooLong → ⊥) → length text ≤ MOST_LINE_BYTES
short_of s text n = decided (nat_lt MOST_LINE_BYTES (length text)) refl
  where
    decided : (t : Bool) → nat_lt MOST_LINE_BYTES (length text) ≡ t → length text ≤ MOST_LINE_BYTES
    decided true e = absurd (n (too_long s text (ltb-true _ _ e)))
    decided false e = below (nat_lt MOST_LINE_BYTES (length text)) e
      where
        below : (t : Bool) → nat_lt MOST_LINE_BYTES (length text) ≡ false → length text ≤ MOST_LINE_BYTES
        below t f = grind (arith, lt-ltb)

pub short_blank : (s : Settings) (text : List ℕ) → counted (line_of s text) ≡ blank → length text ≤ MOST_LINE_BYTES
short_blank s text e = short_of s text (λ long. clash (ap counted (sym long) ∙ e))
  where
    clash : refused TooLong ≡ blank → ⊥
    clash e = cc

pub short_row : (s : Settings) (text : List ℕ) (v : Val) (n : ℕ) → counted (line_of s text) ≡ row v n → length text ≤ MOST_LINE_BYTES
short_row s text v n e = short_of s text (λ long. clash (ap counted (sym long) ∙ e))
  where
    clash : refused TooLong ≡ row v n → ⊥
    clash e = cc

pub light_row : (s : Settings) (text : List ℕ) (v : Val) (n : ℕ) → counted (line_of s text) ≡ row v n → weight v ≤ s.most
light_row s text v n e = let r = row_counted (line_of s text) v n e in row_light s text v r.dropped r.is

-- a blank line
pub blank_added : (s : Settings) (text : List ℕ) (r : PackedRows) (closed : List ℕ) → counted (line_of s text) ≡ blank → closed ≡ [] → AddsLine s text r r closed
blank_added s text r closed e z before line given like k =
    let is : line_of s (content line) ≡ blank = like ∙ blank_counted _ e in
    let same : packed s (before ++ line ∷ []) ≡ packed s before = packed_more s before line ∙ ap (λ l. packed s before ++ cons_option (row_of l) []) is ∙ append-nil (packed s before) in
    let nothing : given ++ closed ≡ given = ap (λ x. given ++ x) z ∙ append-nil given in
    record {
      read = record {
        writer = rw (same, nothing) k.writer;
        dropped = omega (arith, k.dropped, dropped_more s before line, ap dropped_of is);
      };
      accepted = ap (reason_of s (packed s before)) is;
    }

-- a row's line
pub row_line : (s : Settings) (text : List ℕ) (v : Val) (n : ℕ) (old new : PackedRows) (closed : List ℕ) → counted (line_of s text) ≡ row v n → AddsRow s v n old new closed → AddsLine s text old new closed
row_line s text v n old new closed e adds before line given like k = adds before line given (ap counted like ∙ e) k

pub row_refused : (s : Settings) (text : List ℕ) (v : Val) (n : ℕ) (old : PackedRows) (o : Option LineWhy) → counted (line_of s text) ≡ row v n → IfSome o (λ why. RefusesRow s v n old why)
    → IfSome o (λ why. RefusesText s text old why)
row_refused s text v n old None e h = tt
row_refused s text v n old (Some why) e h = λ before line given like k. h before line given (ap counted like ∙ e) k

pub text_refused : (s : Settings) (text : List ℕ) (old : PackedRows) (o : Option LineWhy) → IfSome o (λ why. line_of s text ≡ refused why) → IfSome o (λ why. RefusesText s text old why)
text_refused s text old None h = tt
text_refused s text old (Some why) h = λ before line given like k. ap (reason_of s (packed s before)) (like ∙ h)

-- the writer may take a row
pub can_take : (s : Settings) (v : Val) (r : PackedRows) → CanPack s r → IsWritableRow v → weight v ≤ s.most → CanTake s.time_field r.writer v
can_take s v r k w l = record { going = record { most = s.most; done = packed s k.before; given = k.given; is = k.read.writer }; writable = w; light = l }

packed_row : (s : Settings) (before : List (List ℕ)) (line : List ℕ) (v : Val) (n : ℕ) → counted (line_of s (content line)) ≡ row v n → packed s (before ++ line ∷ []) ≡ packed s before ++ v ∷ []
packed_row s before line v n e =
    let found = row_counted _ v n e in
    packed_more s before line ∙ ap (λ l. packed s before ++ cons_option (row_of l) []) found.is

pub row_added : (s : Settings) (v : Val) (n : ℕ) (old new : PackedRows) (writer : BlockWriter) (closed : List ℕ) → Adds s.time_field v old.writer writer closed → new.writer ≡ writer
    → new.dropped ≡ min (old.dropped + n) (2 ^ 64 - 1) → AddsRow s v n old new closed
row_added s v n old new writer closed adds w d before line given e k =
    let found = row_counted _ v n e in
    let same : packed s (before ++ line ∷ []) ≡ packed s before ++ v ∷ [] = packed_row s before line v n e in
    let more = adds s.most (packed s before) given k.writer in
    record {
      read = record {
        writer = rw (same, w) more;
        dropped = omega (arith, d, k.dropped, dropped_more s before line, ap dropped_of found.is, found.count);
      };
      accepted = ap (reason_of s (packed s before)) found.is ∙ rw (not_full s (packed s before) v more.may.few) refl;
    }

pub row_full : (s : Settings) (v : Val) (n : ℕ) (old : PackedRows) → IsFullFor s.time_field v old.writer → RefusesRow s v n old Full
row_full s v n old full before line given e k =
    let found = row_counted _ v n e in
    ap (reason_of s (packed s before)) found.is ∙ rw (is_too_full s (packed s before) v (full s.most (packed s before) given k.writer)) refl

-- whether a line reaches too far
not_too_much : (before : ℕ) (line : List ℕ) → before + counted_bytes (length line) ≤ MOST_INPUT_BYTES → is_too_much before line ≡ false
unfolding is_too_much
not_too_much before line h = lt_false _ _ h

too_much : (before : ℕ) (line : List ℕ) → MOST_INPUT_BYTES < before + counted_bytes (length line) → is_too_much before line ≡ true
unfolding is_too_much
too_much before line h = lt-ltb _ _ h

pub line_too_much : (s : Settings) (text : List ℕ) (n end : ℕ) (old : LinePacker) → end ≡ min (old.at + counted_bytes n) (2 ^ 64 - 1) → MOST_INPUT_BYTES < end → RefusesLine s text n old TooMuch
line_too_much s text n end old e h before line given like c k sized =
    rw (too_much (bytes_in before) line (omega (arith, e, h, c, sized))) refl

pub line_refused : (s : Settings) (text : List ℕ) (n end : ℕ) (old : LinePacker) (o : Option LineWhy) → end ≡ min (old.at + counted_bytes n) (2 ^ 64 - 1) → end ≤ MOST_INPUT_BYTES
    → IfSome o (λ why. RefusesText s text old.rows why) → IfSome o (λ why. RefusesLine s text n old why)
line_refused s text n end old None e h r = tt
line_refused s text n end old (Some why) e h r = λ before line given like c k sized.
    rw (not_too_much (bytes_in before) line (omega (arith, e, h, c, sized))) (r before line given like k)

-- the line comes to the same as its text
like_text : (s : Settings) (text line : List ℕ) → IsTextOf text line → IsLike s line text
like_text s text line (inl e) = ap (line_of s) e
like_text s text line (inr h) = too_long s (content line) h.1 ∙ sym (too_long s text h.0)

-- one more line
module _ (s : Settings) (bytes rest : List ℕ) (text given : List ℕ) (n : ℕ) (old : LinePacker) (before : List (List ℕ)) (k : HasRead s before given old.rows) (u : IsUpTo s bytes rest before old) (next : List ℕ)
    (h : BeginsWith rest next text n) where
  opened : refusal s (lines_of bytes) ≡ first_of (suc (length before)) (reason_at s before h.line) (refusal_from s (before ++ h.line ∷ []) h.later)
  opened = u.refusals ∙ ap (refusal_from s before) h.split

  goes_in : (new : LinePacker) (closed : List ℕ) → TakesLine s text n old new closed → 1 ≤ n → IsUpTo s bytes next (before ++ h.line ∷ []) new
  goes_in new closed t some =
      let later = (h.short t.short).0 in
      let long = (h.short t.short).1 in
      let g = t.adds before h.line given (like_text s text h.line h.text_of) k in
      let reason : reason_at s before h.line ≡ None = rw (not_too_much (bytes_in before) h.line (omega (arith, t.at, t.within, h.counted, u.sized))) g.accepted in
      record {
        split = u.split ∙ ap (λ ls. before ++ ls) (h.split ∙ ap (λ ls. h.line ∷ ls) later) ∙ sym (append_assoc before (h.line ∷ []) (lines_of next));
        refusals = opened ∙ ap (λ o. first_of (suc (length before)) o (refusal_from s (before ++ h.line ∷ []) h.later)) reason ∙ ap (refusal_from s (before ++ h.line ∷ [])) later;
        sized = omega (arith, sum_by-append length before (h.line ∷ []), u.sized, t.at, h.counted, long);
        numbered = omega (arith, t.number, u.numbered, u.low, u.within, length-append before (h.line ∷ []));
        low = omega (arith, t.number, u.low, t.at, some);
        within = t.within;
      }

  stops_in : (number : ℕ) (why : LineWhy) → RefusesLine s text n old why → number ≡ min (old.number + 1) (2 ^ 64 - 1) → StopsHere s bytes given (record { number = number; why = why })
  stops_in number why r c =
      let next_number : suc (length before) ≡ number = omega (arith, u.numbered, u.low, u.within, c) in
      let reason : reason_at s before h.line ≡ Some why = r before h.line given (like_text s text h.line h.text_of) h.counted k u.sized in
      record {
        refused = opened ∙ ap (λ o. first_of (suc (length before)) o (refusal_from s (before ++ h.line ∷ []) h.later)) reason ∙ ap (λ i. Some (record { number = i; why = why })) next_number;
        front = (length given, sym (ap (λ ls. take (length given) (file_for s ls)) (firsts (number - 1) (omega (arith, next_number))) ∙ given_front s.time_field s.most (packed s before) given old.rows.writer k.writer));
      }
    where
      firsts : (i : ℕ) → i ≡ length before → take i (lines_of bytes) ≡ before
      firsts i e = ap (take i) u.split ∙ ap (λ j. take j (before ++ lines_of rest)) e ∙ front before (lines_of rest)
        where
          front : (a b : List (List ℕ)) → take (length a) (a ++ b) ≡ a
          front [] b = refl
          front (x ∷ a) b = ap (λ l. x ∷ l) (front a b)

pub line_goes : (s : Settings) (old_rest new_rest : Option (List ℕ)) (text : List ℕ) (n : ℕ) (old new : LinePacker) (closed : List ℕ) → HasLine old_rest new_rest text n → HasNoEnd text → 1 ≤ n
    → TakesLine s text n old new closed → GoesOn s old_rest new_rest old new closed
line_goes s old_rest new_rest text n old new closed h bare some t whole given k = at whole old_rest new_rest h k.up_to
  where
    bare_line : AddsLine s text old.rows new.rows closed → HasRead s (k.before ++ text ∷ []) (given ++ closed) new.rows
    bare_line adds = (adds k.before text given (ap (line_of s) (content_bare text bare)) k.read).read

    at : (w o m : Option (List ℕ)) → HasLine o m text n → IsToldUpTo s w o k.before old → IsPacking s w m (given ++ closed) new
    at None o m h u = record { before = k.before ++ text ∷ []; read = bare_line t.adds; up_to = tt }
    at (Some bytes) None m h u = absurd u
    at (Some bytes) (Some rest) None h u = absurd h
    at (Some bytes) (Some rest) (Some next) h u = record {
      before = k.before ++ h.line ∷ [];
      read = (t.adds k.before h.line given (like_text s text h.line h.text_of) k.read).read;
      up_to = goes_in s bytes rest text given n old k.before k.read u next h new closed t some;
    }

stops_told : (s : Settings) (old_rest new_rest : Option (List ℕ)) (text : List ℕ) (n number : ℕ) (old : LinePacker) (why : LineWhy) → HasLine old_rest new_rest text n → RefusesLine s text n old why
    → number ≡ min (old.number + 1) (2 ^ 64 - 1) → StopsAt s old_rest old (record { number = number; why = why })
stops_told s old_rest new_rest text n number old why h r c whole given k = at whole old_rest new_rest h k.up_to
  where
    at : (w o m : Option (List ℕ)) → HasLine o m text n → IsToldUpTo s w o k.before old → ForSome w (λ bytes. StopsHere s bytes given (record { number = number; why = why }))
    at None o m h u = λ b is. cc
    at (Some bytes) None m h u = absurd u
    at (Some bytes) (Some rest) None h u = absurd h
    at (Some bytes) (Some rest) (Some next) h u = λ b is.
        let same : bytes ≡ b = cc in
        subst (λ x. StopsHere s x given (record { number = number; why = why })) same (stops_in s bytes rest text given n old k.before k.read u next h number why r c)

pub line_stops : (s : Settings) (old_rest new_rest : Option (List ℕ)) (text : List ℕ) (n number : ℕ) (old : LinePacker) (o : Option LineWhy) (p : Option Refusal) → HasLine old_rest new_rest text n
    → IfSome o (λ why. RefusesLine s text n old why) → number ≡ min (old.number + 1) (2 ^ 64 - 1) → p ≡ option_map (λ why. record { number = number; why = why }) o → IfSome p (λ r. StopsAt s old_rest old r)
line_stops s old_rest new_rest text n number old None p h r c e = rw e tt
line_stops s old_rest new_rest text n number old (Some why) p h r c e = rw e (stops_told s old_rest new_rest text n number old why h r c)

-- the same of an option that is there
pub line_goes_some : (s : Settings) (old_rest new_rest : Option (List ℕ)) (text : List ℕ) (o : Option ℕ) (n : ℕ) (old new : LinePacker) (closed : List ℕ) → o ≡ Some n → IfSome o (λ k. HasLine old_rest new_rest text k)
    → HasNoEnd text → IfSome o (λ k. 1 ≤ k) → TakesLine s text n old new closed → GoesOn s old_rest new_rest old new closed
line_goes_some s old_rest new_rest text None n old new closed e h bare some t = cc
line_goes_some s old_rest new_rest text (Some m) n old new closed e h bare some t =
    let same : n ≡ m = cc in
    line_goes s old_rest new_rest text m old new closed h bare some (subst (λ k. TakesLine s text k old new closed) same t)

pub line_stops_some : (s : Settings) (old_rest new_rest : Option (List ℕ)) (text : List ℕ) (i : Option ℕ) (n number : ℕ) (old : LinePacker) (o : Option LineWhy) (p : Option Refusal) → i ≡ Some n
    → IfSome i (λ k. HasLine old_rest new_rest text k) → IfSome o (λ why. RefusesLine s text n old why) → number ≡ min (old.number + 1) (2 ^ 64 - 1)
    → p ≡ option_map (λ why. record { number = number; why = why }) o → IfSome p (λ r. StopsAt s old_rest old r)
line_stops_some s old_rest new_rest text None n number old o p e h r c q = cc
line_stops_some s old_rest new_rest text (Some m) n number old o p e h r c q =
    let same : n ≡ m = cc in
    line_stops s old_rest new_rest text m number old o p h (subst (λ k. IfSome o (λ why. RefusesLine s text k old why)) same r) c q
