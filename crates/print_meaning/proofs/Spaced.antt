-- In a printed query each token is taken before what follows it.
use Rattle.std.proofs.Common.{◌≡◌, ℕ, zero, suc, ◌^◌, pos, negsuc, ◌<◌, List, [], ◌∷◌, Bool, true, false, Option, Some, None, refl, arith}
use Rattle.std.specs.Prelude.{All, IfSome, unwrap_or}
use Rattle.std.proofs.lemmas.Bool.Decides.{nat_tests}
use Rattle.value_meaning.specs.Val as val
use Rattle.query_meaning.specs.declared.Mark.{Mark}
use Rattle.query_meaning.specs.declared.Mark.TheVariants as m
use Rattle.query_meaning.specs.declared.FunctionWord.{FunctionWord}
use Rattle.query_meaning.specs.declared.FunctionWord.TheVariants as f
use Rattle.tree_meaning.specs.declared.BinOp.{BinOp}
use Rattle.tree_meaning.specs.declared.BinOp.TheVariants as op
use Rattle.tree_meaning.specs.declared.IsWhat.{IsWhat}
use Rattle.tree_meaning.specs.declared.IsWhat.TheVariants as what
use Rattle.tree_meaning.specs.declared.How.TheVariants as how
use Rattle.tree_meaning.specs.declared.Part.{Part}
use Rattle.tree_meaning.specs.Tree.{Step, name, at, Ex, Exs, Arms, lit, path, neg, no, bin, is, member, between, matching, choice, cast, call, trunc, extract, shift, agg_of_rows, agg, no_exs, ex, no_arms, arm, Outs, star, named, Query}
use Rattle.query_meaning.specs.Lexing.{is_digit, is_word_byte, begins_with, is_ended}
use Rattle.query_meaning.specs.Tokens.{mark, quoted, string, num}
use Rattle.query_meaning.specs.RowName.{row_name}
use Rattle.tree_meaning.specs.WellFormed.{IsName, IsLiteral, IsPath, IsStep, IsFormed, AreFormed, ArmsAreFormed, IsOutput, AreOutputs, IsKey, IsCount, IsWellFormed}
use Rattle.print_meaning.specs.Pieces.{Pieces, space, token, spelling, spelled}
use Rattle.print_meaning.specs.Print.{key, title, op_mark, what_mark, func_word, agg_word, put_head, put_part, put_comma, put_between, put_literal, put_steps, put, put_exs, put_other_exs, put_arms, put_others, put_list, put_alias, put_item, put_outs, put_filter, put_groups, put_direction, put_key, put_order, put_count, skipped, printed}
use Rattle.print_meaning.proofs.Rows.{all_first, all_rest}
use Rattle.print_meaning.proofs.Lexed.{Lexes, AreSpaced}
use Rattle.print_meaning.proofs.Signs.{open_lexes, close_lexes, open_index_lexes, close_index_lexes, comma_lexes, dot_lexes, star_lexes, plus_lexes, minus_lexes, slash_lexes, percent_lexes, equal_lexes, unequal_lexes, less_lexes, at_most_lexes, greater_lexes, at_least_lexes}
use Rattle.print_meaning.proofs.PlainWords.{first, is_reserved, reserved_lexes, function_lexes, part_lexes, cast_lexes}
use Rattle.print_meaning.proofs.Quotes.{name_lexes, string_lexes}
use Rattle.print_meaning.proofs.Numbers.{number_lexes, digit_first}
use Rattle.print_meaning.proofs.Moments.{moment_lexes}

-- what follows an expression: the end, a space, `)` or `,`
data Stops : List ℕ → Type 0 where
  at_end : Stops []
  at_space : {bs : List ℕ} → Stops (32 ∷ bs)
  at_close : {bs : List ℕ} → Stops (41 ∷ bs)
  at_comma : {bs : List ℕ} → Stops (44 ∷ bs)

stops_word : {bs : List ℕ} → Stops bs → first is_word_byte bs ≡ false
stops_word at_end = refl
stops_word at_space = refl
stops_word at_close = refl
stops_word at_comma = refl

stops_byte : (q : ℕ) → 32 < q → q < 41 → {bs : List ℕ} → Stops bs → begins_with q bs ≡ false
stops_byte q low high at_end = refl
stops_byte q low high at_space = grind (arith, nat_tests)
stops_byte q low high at_close = grind (arith, nat_tests)
stops_byte q low high at_comma = grind (arith, nat_tests)

stops_digit : {bs : List ℕ} → Stops bs → first is_digit bs ≡ false
stops_digit at_end = refl
stops_digit at_space = refl
stops_digit at_close = refl
stops_digit at_comma = refl

stops_number : {bs : List ℕ} → Stops bs → is_ended bs ≡ true
unfolding is_ended
stops_number at_end = refl
stops_number at_space = refl
stops_number at_close = refl
stops_number at_comma = refl

before_close : (s : Pieces) → Stops (spelled (key m.Close ∷ s))
unfolding spelling
before_close s = at_close

before_comma : (s : Pieces) → Stops (spelled (put_comma s))
unfolding spelling
before_comma s = at_comma

before_open : (s : Pieces) → first is_word_byte (spelled (key m.Open ∷ s)) ≡ false
unfolding spelling
before_open s = refl

index_ends : (s : Pieces) → (first is_digit (spelled (key m.CloseIndex ∷ s)) ≡ false) × (is_ended (spelled (key m.CloseIndex ∷ s)) ≡ true)
unfolding spelling is_ended
index_ends s = (refl, refl)

-- a reserved word before a space, and before what ends an expression
spaced_word : (k : Mark) → is_reserved k ≡ true → (bs : List ℕ) → Lexes (mark k) (32 ∷ bs)
spaced_word k r bs = reserved_lexes k r (32 ∷ bs) refl

last_word : (k : Mark) → is_reserved k ≡ true → {bs : List ℕ} → Stops bs → Lexes (mark k) bs
last_word k r {bs} s = reserved_lexes k r bs (stops_word s)

last_string : (p : List ℕ) {bs : List ℕ} → Stops bs → Lexes (string p) bs
last_string p {bs} s = string_lexes p bs (stops_byte 39 (omega arith) (omega arith) s)

last_name : (n : List ℕ) → IsName n → {bs : List ℕ} → Stops bs → Lexes (quoted n) bs
last_name n h {bs} s = name_lexes n bs h (stops_byte 34 (omega arith) (omega arith) s)

last_number : (n : ℕ) → n < 2 ^ 63 → {bs : List ℕ} → Stops bs → Lexes (num n) bs
last_number n h {bs} s = number_lexes n bs h (stops_digit s) (stops_number s)

op_spaced : (o : BinOp) (bs : List ℕ) → Lexes (mark (op_mark o)) (32 ∷ bs)
op_spaced op.Add bs = plus_lexes (32 ∷ bs)
op_spaced op.Sub bs = minus_lexes (32 ∷ bs) refl
op_spaced op.Mul bs = star_lexes (32 ∷ bs)
op_spaced op.Div bs = slash_lexes (32 ∷ bs)
op_spaced op.Rem bs = percent_lexes (32 ∷ bs)
op_spaced op.Eq bs = equal_lexes (32 ∷ bs)
op_spaced op.Ne bs = unequal_lexes (32 ∷ bs)
op_spaced op.Lt bs = less_lexes bs
op_spaced op.Le bs = at_most_lexes (32 ∷ bs)
op_spaced op.Gt bs = greater_lexes bs
op_spaced op.Ge bs = at_least_lexes (32 ∷ bs)
op_spaced op.And bs = spaced_word m.And refl bs
op_spaced op.Or bs = spaced_word m.Or refl bs

what_spaced : (w : IsWhat) {bs : List ℕ} → Stops bs → Lexes (mark (what_mark w)) bs
what_spaced what.Null s = last_word m.Null refl s
what_spaced what.Missing s = last_word m.Missing refl s
what_spaced what.True s = last_word m.True refl s
what_spaced what.False s = last_word m.False refl s

head_spaced : (w : FunctionWord) (s : Pieces) → AreSpaced s → AreSpaced (put_head w s)
head_spaced w s h = (function_lexes w (spelled (key m.Open ∷ s)) (before_open s), (open_lexes (spelled s), h))

part_spaced : (p : Part) (s : Pieces) → Stops (spelled s) → AreSpaced s → AreSpaced (put_part p s)
part_spaced p s stops h = (part_lexes p (spelled s) (stops_word stops), h)

comma_spaced : (s : Pieces) → AreSpaced s → AreSpaced (put_comma s)
comma_spaced s h = (comma_lexes (32 ∷ spelled s), h)

part_and_comma : (p : Part) (s : Pieces) → AreSpaced s → AreSpaced (put_part p (put_comma s))
part_and_comma p s a = part_spaced p (put_comma s) (before_comma s) (comma_spaced s a)

part_and_from : (p : Part) (s : Pieces) → AreSpaced s → AreSpaced (put_part p (put_between m.From s))
part_and_from p s a = part_spaced p (put_between m.From s) at_space (spaced_word m.From refl (spelled s), a)

close_spaced : (s : Pieces) → AreSpaced s → AreSpaced (key m.Close ∷ s)
close_spaced s h = (close_lexes (spelled s), h)

text_spaced : (p : List ℕ) (s : Pieces) → AreSpaced s → AreSpaced (put_comma (token (string p) ∷ key m.Close ∷ s))
text_spaced p s a = comma_spaced (token (string p) ∷ key m.Close ∷ s) (last_string p (before_close s), close_spaced s a)

literal_spaced : (v : val.Val) → IsLiteral v → (s : Pieces) → Stops (spelled s) → AreSpaced s → AreSpaced (put_literal v s)
literal_spaced val.missing h s stops a = (last_word m.Missing refl stops, a)
literal_spaced val.null h s stops a = (last_word m.Null refl stops, a)
literal_spaced (val.truth true) h s stops a = (last_word m.True refl stops, a)
literal_spaced (val.truth false) h s stops a = (last_word m.False refl stops, a)
literal_spaced (val.int (pos n)) h s stops a = (last_number n h stops, a)
literal_spaced (val.int (negsuc n)) h s stops a = absurd h
literal_spaced (val.time t) h s stops a = (moment_lexes t (spelled s) h, a)
literal_spaced (val.text p) h s stops a = (last_string p stops, a)
literal_spaced (val.list vs) h s stops a = absurd h
literal_spaced (val.struct fs) h s stops a = absurd h

-- steps don't go on with the name before them
no_quote : (ss : List Step) (s : Pieces) → Stops (spelled s) → begins_with 34 (spelled (put_steps ss s)) ≡ false
unfolding spelling
no_quote [] s stops = stops_byte 34 (omega arith) (omega arith) stops
no_quote (name n ∷ ss) s stops = refl
no_quote (at i ∷ ss) s stops = refl

steps_spaced : (ss : List Step) → All IsStep ss → (s : Pieces) → Stops (spelled s) → AreSpaced s → AreSpaced (put_steps ss s)
steps_spaced [] h s stops a = a
steps_spaced (name n ∷ ss) h s stops a =
    (dot_lexes (spelled (title n ∷ put_steps ss s)), (name_lexes n (spelled (put_steps ss s)) (all_first IsStep (name n) ss h) (no_quote ss s stops), steps_spaced ss (all_rest IsStep (name n) ss h) s stops a))
steps_spaced (at i ∷ ss) h s stops a =
    let small : i < 2 ^ 32 = all_first IsStep (at i) ss h in
    let ends = index_ends (put_steps ss s) in
    (open_index_lexes (spelled (token (num i) ∷ key m.CloseIndex ∷ put_steps ss s)), (number_lexes i (spelled (key m.CloseIndex ∷ put_steps ss s)) (omega (arith, small)) ends.0 ends.1, (close_index_lexes (spelled (put_steps ss s)), steps_spaced ss (all_rest IsStep (at i) ss h) s stops a)))

path_steps : (ss : List Step) → IsPath ss → All IsStep ss
path_steps [] h = absurd h
path_steps (at i ∷ ss) h = absurd h
path_steps (name n ∷ ss) h = whole
  where
    whole : All IsStep (name n ∷ ss)
    whole zero d l = h.0
    whole (suc j) d l = h.1 j d (omega (arith, l))

head_first : (w : FunctionWord) (s : Pieces) → begins_with 45 (spelled (put_head w s)) ≡ false
unfolding spelling
head_first f.Coalesce s = refl
head_first f.NullIf s = refl
head_first f.CharLength s = refl
head_first f.ToUnixEpoch s = refl
head_first f.ToUnixMicro s = refl
head_first f.StartsWith s = refl
head_first f.EndsWith s = refl
head_first f.Contains s = refl
head_first f.DateTrunc s = refl
head_first f.Extract s = refl
head_first f.DateAdd s = refl
head_first f.Count s = refl
head_first f.Sum s = refl
head_first f.Min s = refl
head_first f.Max s = refl
head_first f.Avg s = refl
head_first f.Earliest s = refl
head_first f.Latest s = refl
head_first f.BoolAnd s = refl
head_first f.BoolOr s = refl

-- no expression begins with a minus sign
no_minus : (row : List ℕ) (e : Ex) → IsFormed e → (s : Pieces) → begins_with 45 (spelled (put row e s)) ≡ false
unfolding spelling
no_minus row (lit val.missing) h s = refl
no_minus row (lit val.null) h s = refl
no_minus row (lit (val.truth true)) h s = refl
no_minus row (lit (val.truth false)) h s = refl
no_minus row (lit (val.int (pos n))) h s = digit_first n (spelled s) h
no_minus row (lit (val.int (negsuc n))) h s = absurd h
no_minus row (lit (val.time t)) h s = refl
no_minus row (lit (val.text p)) h s = refl
no_minus row (lit (val.list vs)) h s = absurd h
no_minus row (lit (val.struct fs)) h s = absurd h
no_minus row (path r ss) h s = refl
no_minus row (neg e) h s = refl
no_minus row (no e) h s = refl
no_minus row (bin o a b) h s = refl
no_minus row (is w e) h s = refl
no_minus row (member e es) h s = refl
no_minus row (between e a b) h s = refl
no_minus row (matching how.Like e p) h s = refl
no_minus row (matching how.ILike e p) h s = refl
no_minus row (matching how.Starts e p) h s = refl
no_minus row (matching how.Ends e p) h s = refl
no_minus row (matching how.Contains e p) h s = refl
no_minus row (choice r e) h s = refl
no_minus row (cast c e) h s = refl
no_minus row (call g es) h s = head_first (func_word g) (put_exs row es (key m.Close ∷ s))
no_minus row (trunc p e) h s = refl
no_minus row (extract p e) h s = refl
no_minus row (shift p a e) h s = refl
no_minus row (agg_of_rows n) h s = head_first (agg_word n) (key m.Star ∷ key m.Close ∷ s)
no_minus row (agg n e) h s = head_first (agg_word n) (put row e (key m.Close ∷ s))

-- CASE goes on with a space
arms_first : (row : List ℕ) (r : Arms) (s : Pieces) → first is_word_byte (spelled (put_arms row r (space ∷ s))) ≡ false
arms_first row no_arms s = refl
arms_first row (arm a b r) s = refl

-- more members begin with `,`, and none with what follows
others_stop : (row : List ℕ) (es : Exs) (s : Pieces) → Stops (spelled s) → Stops (spelled (put_other_exs row es s))
others_stop row no_exs s stops = stops
others_stop row (ex e es) s stops = before_comma _

arms_stop : (row : List ℕ) (r : Arms) (s : Pieces) → Stops (spelled s) → Stops (spelled (put_arms row r s))
arms_stop row no_arms s stops = stops
arms_stop row (arm a b r) s stops = at_space

module _ (row : List ℕ) (named_row : IsName row) where
  mutual
    spaced : (e : Ex) → IsFormed e → (s : Pieces) → Stops (spelled s) → AreSpaced s → AreSpaced (put row e s)
    spaced (lit v) h s stops a = literal_spaced v h s stops a
    spaced (path r ss) h s stops a = (name_lexes row (spelled (put_steps ss s)) named_row (no_quote ss s stops), steps_spaced ss (path_steps ss h.1) s stops a)
    spaced (neg e) h s stops a = (open_lexes _, (minus_lexes (spelled (put row e (key m.Close ∷ s))) (no_minus row e h (key m.Close ∷ s)), spaced e h (key m.Close ∷ s) (before_close s) (close_spaced s a)))
    spaced (no e) h s stops a = (open_lexes _, (spaced_word m.Not refl _, spaced e h (key m.Close ∷ s) (before_close s) (close_spaced s a)))
    spaced (bin o x y) h s stops a = (open_lexes _, spaced x h.0 _ at_space (op_spaced o _, spaced y h.1 (key m.Close ∷ s) (before_close s) (close_spaced s a)))
    spaced (is w e) h s stops a = (open_lexes _, spaced e h _ at_space (spaced_word m.Is refl _, (what_spaced w (before_close s), close_spaced s a)))
    spaced (member e es) h s stops a =
        (open_lexes _, spaced e h.0 _ at_space (spaced_word m.In refl _, (open_lexes _, exs_spaced es h.1 (key m.Close ∷ key m.Close ∷ s) (before_close (key m.Close ∷ s)) (close_spaced (key m.Close ∷ s) (close_spaced s a)))))
    spaced (between e x y) h s stops a = (open_lexes _, spaced e h.0 _ at_space (spaced_word m.Between refl _, spaced x h.1 _ at_space (spaced_word m.And refl _, spaced y h.2 (key m.Close ∷ s) (before_close s) (close_spaced s a))))
    spaced (matching how.Like e p) h s stops a = (open_lexes _, spaced e h _ at_space (spaced_word m.Like refl _, (last_string p (before_close s), close_spaced s a)))
    spaced (matching how.ILike e p) h s stops a = (open_lexes _, spaced e h _ at_space (spaced_word m.ILike refl _, (last_string p (before_close s), close_spaced s a)))
    spaced (matching how.Starts e p) h s stops a = head_spaced f.StartsWith _ (spaced e h (put_comma (token (string p) ∷ key m.Close ∷ s)) (before_comma (token (string p) ∷ key m.Close ∷ s)) (text_spaced p s a))
    spaced (matching how.Ends e p) h s stops a = head_spaced f.EndsWith _ (spaced e h (put_comma (token (string p) ∷ key m.Close ∷ s)) (before_comma (token (string p) ∷ key m.Close ∷ s)) (text_spaced p s a))
    spaced (matching how.Contains e p) h s stops a = head_spaced f.Contains _ (spaced e h (put_comma (token (string p) ∷ key m.Close ∷ s)) (before_comma (token (string p) ∷ key m.Close ∷ s)) (text_spaced p s a))
    spaced (choice r e) h s stops a =
        (open_lexes _, (reserved_lexes m.Case refl _ (arms_first row r _), arms_spaced r h.0 _ at_space (spaced_word m.Else refl _, spaced e h.2 _ at_space (last_word m.End refl (before_close s), close_spaced s a))))
    spaced (cast c e) h s stops a =
        (reserved_lexes m.Cast refl _ (before_open _), (open_lexes _, spaced e h _ at_space (spaced_word m.As refl _, (cast_lexes c _ (stops_word (before_close s)), close_spaced s a))))
    spaced (call g es) h s stops a = head_spaced (func_word g) _ (exs_spaced es h.0 (key m.Close ∷ s) (before_close s) (close_spaced s a))
    spaced (trunc p e) h s stops a =
        let rest = put row e (key m.Close ∷ s) in
        head_spaced f.DateTrunc (put_part p (put_comma rest)) (part_and_comma p rest (spaced e h.1 (key m.Close ∷ s) (before_close s) (close_spaced s a)))
    spaced (extract p e) h s stops a =
        let rest = put row e (key m.Close ∷ s) in
        head_spaced f.Extract (put_part p (put_between m.From rest)) (part_and_from p rest (spaced e h.1 (key m.Close ∷ s) (before_close s) (close_spaced s a)))
    spaced (shift p x e) h s stops a =
        let rest = put row e (key m.Close ∷ s) in
        head_spaced f.DateAdd (put_part p (put_comma (put row x (put_comma rest))))
        (part_and_comma p (put row x (put_comma rest)) (spaced x h.1 (put_comma rest) (before_comma rest) (comma_spaced rest (spaced e h.2 (key m.Close ∷ s) (before_close s) (close_spaced s a)))))
    spaced (agg_of_rows n) h s stops a = head_spaced (agg_word n) (key m.Star ∷ key m.Close ∷ s) (star_lexes _, close_spaced s a)
    spaced (agg n e) h s stops a = head_spaced (agg_word n) _ (spaced e h.1 (key m.Close ∷ s) (before_close s) (close_spaced s a))

    exs_spaced : (es : Exs) → AreFormed es → (s : Pieces) → Stops (spelled s) → AreSpaced s → AreSpaced (put_exs row es s)
    exs_spaced no_exs h s stops a = a
    exs_spaced (ex e es) h s stops a = spaced e h.0 (put_other_exs row es s) (others_stop row es s stops) (other_exs_spaced es h.1 s stops a)

    other_exs_spaced : (es : Exs) → AreFormed es → (s : Pieces) → Stops (spelled s) → AreSpaced s → AreSpaced (put_other_exs row es s)
    other_exs_spaced no_exs h s stops a = a
    other_exs_spaced (ex e es) h s stops a = comma_spaced _ (spaced e h.0 (put_other_exs row es s) (others_stop row es s stops) (other_exs_spaced es h.1 s stops a))

    arms_spaced : (r : Arms) → ArmsAreFormed r → (s : Pieces) → Stops (spelled s) → AreSpaced s → AreSpaced (put_arms row r s)
    arms_spaced no_arms h s stops a = a
    arms_spaced (arm x y r) h s stops a =
        (spaced_word m.When refl _, spaced x h.0 _ at_space (spaced_word m.Then refl _, spaced y h.1 (put_arms row r s) (arms_stop row r s stops) (arms_spaced r h.2 s stops a)))

  -- members behind a first one, each of which is spaced before a space, a comma or the end
  module _ {A : Type 0} (P : A → Type 0) (print : A → Pieces → Pieces) (member_spaced : (x : A) → P x → (s : Pieces) → Stops (spelled s) → AreSpaced s → AreSpaced (print x s)) where
    members_stop : (xs : List A) (s : Pieces) → Stops (spelled s) → Stops (spelled (put_others print xs s))
    members_stop [] s stops = stops
    members_stop (x ∷ xs) s stops = before_comma _

    members_spaced : (xs : List A) → All P xs → (s : Pieces) → Stops (spelled s) → AreSpaced s → AreSpaced (put_others print xs s)
    members_spaced [] h s stops a = a
    members_spaced (x ∷ xs) h s stops a =
        comma_spaced _ (member_spaced x (all_first P x xs h) (put_others print xs s) (members_stop xs s stops) (members_spaced xs (all_rest P x xs h) s stops a))

    list_spaced : (xs : List A) → All P xs → (s : Pieces) → Stops (spelled s) → AreSpaced s → AreSpaced (put_list print xs s)
    list_spaced [] h s stops a = a
    list_spaced (x ∷ xs) h s stops a =
        member_spaced x (all_first P x xs h) (put_others print xs s) (members_stop xs s stops) (members_spaced xs (all_rest P x xs h) s stops a)

  alias_stops : (n : Option (List ℕ)) (s : Pieces) → Stops (spelled s) → Stops (spelled (put_alias n s))
  alias_stops None s stops = stops
  alias_stops (Some n) s stops = at_space

  alias_spaced : (n : Option (List ℕ)) → IfSome n IsName → (s : Pieces) → Stops (spelled s) → AreSpaced s → AreSpaced (put_alias n s)
  alias_spaced None h s stops a = a
  alias_spaced (Some n) h s stops a = (spaced_word m.As refl _, (last_name n h stops, a))

  item_spaced : (x : Ex × Option (List ℕ)) → IsOutput x → (s : Pieces) → Stops (spelled s) → AreSpaced s → AreSpaced (put_item row x s)
  item_spaced x h s stops a = spaced x.0 h.0 (put_alias x.1 s) (alias_stops x.1 s stops) (alias_spaced x.1 h.1 s stops a)

  -- before a space
  outs_spaced : (o : Outs) → AreOutputs o → (s : Pieces) → AreSpaced s → AreSpaced (put_outs row o (space ∷ s))
  outs_spaced star h s a = (star_lexes _, a)
  outs_spaced (named items) h s a = list_spaced IsOutput (put_item row) item_spaced items h.1 (space ∷ s) at_space a

  filter_stops : (k : Mark) (o : Option Ex) (s : Pieces) → Stops (spelled s) → Stops (spelled (put_filter k row o s))
  filter_stops k None s stops = stops
  filter_stops k (Some e) s stops = at_space

  filter_spaced : (k : Mark) → is_reserved k ≡ true → (o : Option Ex) → IfSome o IsFormed → (s : Pieces) → Stops (spelled s) → AreSpaced s → AreSpaced (put_filter k row o s)
  filter_spaced k r None h s stops a = a
  filter_spaced k r (Some e) h s stops a = (spaced_word k r _, spaced e h s stops a)

  groups_stop : (es : List Ex) (s : Pieces) → Stops (spelled s) → Stops (spelled (put_groups row es s))
  groups_stop [] s stops = stops
  groups_stop (e ∷ es) s stops = at_space

  groups_spaced : (es : List Ex) → All IsFormed es → (s : Pieces) → Stops (spelled s) → AreSpaced s → AreSpaced (put_groups row es s)
  groups_spaced [] h s stops a = a
  groups_spaced (e ∷ es) h s stops a = (spaced_word m.Group refl _, (spaced_word m.By refl _, list_spaced IsFormed (put row) spaced (e ∷ es) h s stops a))

  direction_stops : (falling : Bool) (s : Pieces) → Stops (spelled s) → Stops (spelled (put_direction falling s))
  direction_stops true s stops = at_space
  direction_stops false s stops = stops

  direction_spaced : (falling : Bool) (s : Pieces) → Stops (spelled s) → AreSpaced s → AreSpaced (put_direction falling s)
  direction_spaced true s stops a = (last_word m.Desc refl stops, a)
  direction_spaced false s stops a = a

  key_spaced : (x : Ex × Bool) → IsKey x → (s : Pieces) → Stops (spelled s) → AreSpaced s → AreSpaced (put_key row x s)
  key_spaced x h s stops a = spaced x.0 h (put_direction x.1 s) (direction_stops x.1 s stops) (direction_spaced x.1 s stops a)

  order_stops : (ks : List (Ex × Bool)) (s : Pieces) → Stops (spelled s) → Stops (spelled (put_order row ks s))
  order_stops [] s stops = stops
  order_stops (x ∷ xs) s stops = at_space

  order_spaced : (ks : List (Ex × Bool)) → All IsKey ks → (s : Pieces) → Stops (spelled s) → AreSpaced s → AreSpaced (put_order row ks s)
  order_spaced [] h s stops a = a
  order_spaced (x ∷ xs) h s stops a = (spaced_word m.Order refl _, (spaced_word m.By refl _, list_spaced IsKey (put_key row) key_spaced (x ∷ xs) h s stops a))

count_stops : (k : Mark) (n : Option ℕ) (s : Pieces) → Stops (spelled s) → Stops (spelled (put_count k n s))
count_stops k None s stops = stops
count_stops k (Some n) s stops = at_space

count_spaced : (k : Mark) → is_reserved k ≡ true → (n : Option ℕ) → IfSome n IsCount → (s : Pieces) → Stops (spelled s) → AreSpaced s → AreSpaced (put_count k n s)
count_spaced k r None h s stops a = a
count_spaced k r (Some n) h s stops a = (spaced_word k r _, (last_number n h stops, a))

skip_counts : (n : ℕ) → IsCount n → IfSome (skipped n) IsCount
skip_counts zero h = tt
skip_counts (suc n) h = h

row_is_name : (source : List ℕ) (alias : Option (List ℕ)) → IsName source → IfSome alias IsName → IsName (unwrap_or alias source)
row_is_name source None h g = h
row_is_name source (Some n) h g = g

-- each token of a printed query is taken before what follows it
pub query-spaced : (q : Query) → IsWellFormed q → AreSpaced (printed q)
unfolding printed
query-spaced q h =
    let row = row_name q in
    let is_row : IsName row = row_is_name q.source q.alias h.source h.alias in
    let skip = put_count m.Offset (skipped q.skip) [] in
    let skip_stops : Stops (spelled skip) = count_stops m.Offset (skipped q.skip) [] at_end in
    let skip_spaced : AreSpaced skip = count_spaced m.Offset refl (skipped q.skip) (skip_counts q.skip h.skip) [] at_end tt in
    let take = put_count m.Limit q.take skip in
    let take_stops : Stops (spelled take) = count_stops m.Limit q.take skip skip_stops in
    let take_spaced : AreSpaced take = count_spaced m.Limit refl q.take h.take skip skip_stops skip_spaced in
    let order = put_order row q.order take in
    let ordered : AreSpaced order = order_spaced row is_row q.order h.order take take_stops take_spaced in
    let having = put_filter m.Having row q.having order in
    let having_stops : Stops (spelled having) = filter_stops row is_row m.Having q.having order (order_stops row is_row q.order take take_stops) in
    let having_spaced : AreSpaced having = filter_spaced row is_row m.Having refl q.having h.having order (order_stops row is_row q.order take take_stops) ordered in
    let keys = put_groups row q.keys having in
    let keys_stop : Stops (spelled keys) = groups_stop row is_row q.keys having having_stops in
    let keys_spaced : AreSpaced keys = groups_spaced row is_row q.keys h.keys having having_stops having_spaced in
    let filter = put_filter m.Where row q.filter keys in
    let filter_stops' : Stops (spelled filter) = filter_stops row is_row m.Where q.filter keys keys_stop in
    let filter_spaced' : AreSpaced filter = filter_spaced row is_row m.Where refl q.filter h.filter keys keys_stop keys_spaced in
    let alias = put_alias q.alias filter in
    let alias_stops' : Stops (spelled alias) = alias_stops row is_row q.alias filter filter_stops' in
    let alias_spaced' : AreSpaced alias = alias_spaced row is_row q.alias h.alias filter filter_stops' filter_spaced' in
    (spaced_word m.Select refl _, outs_spaced row is_row q.outs h.outs _ (spaced_word m.From refl _, (last_name q.source h.source alias_stops', alias_spaced')))
