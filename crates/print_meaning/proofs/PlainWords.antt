-- The printed words are taken before what follows them, and none is refused.
use Rattle.std.proofs.Common.{◌≡◌, ℕ, suc, List, [], ◌∷◌, ◌++◌, length, Bool, true, false, cond, Ok, refl, ap}
use Rattle.query_meaning.specs.declared.TokenKind.TheVariants as k
use Rattle.query_meaning.specs.declared.Mark.{Mark}
use Rattle.query_meaning.specs.declared.Mark.TheVariants as m
use Rattle.query_meaning.specs.declared.FunctionWord.{FunctionWord}
use Rattle.query_meaning.specs.declared.FunctionWord.TheVariants as f
use Rattle.tree_meaning.specs.declared.CastTo.{CastTo}
use Rattle.tree_meaning.specs.declared.CastTo.TheVariants as to
use Rattle.tree_meaning.specs.declared.Part.{Part}
use Rattle.tree_meaning.specs.declared.Part.TheVariants as part
use Rattle.query_meaning.specs.Words.{reserved_word, is_refused, function_text, part_text, cast_text}
use Rattle.query_meaning.specs.Lexing.{is_space, starts_word, is_word_byte, run, cut_at}
use Rattle.query_meaning.specs.Tokens.{Tok, mark, word, token_of}
use Rattle.print_meaning.specs.Pieces.{spelling}
use Rattle.print_meaning.proofs.Lexed.{Lexes}

-- the first byte passes
abbrev pub first : (ℕ → Bool) → List ℕ → Bool
first p [] = false
first p (b ∷ bs) = p b

-- each byte passes
abbrev pub each : (ℕ → Bool) → List ℕ → Bool
each p [] = true
each p (b ∷ bs) = cond (p b) (each p bs) false

pub run_stops : (p : ℕ → Bool) (rest : List ℕ) → first p rest ≡ false → run p rest ≡ 0
run_stops p [] h = refl
run_stops p (b ∷ bs) h = rw h refl

pub run_over : (p : ℕ → Bool) (w rest : List ℕ) → each p w ≡ true → first p rest ≡ false → run p (w ++ rest) ≡ length w
run_over p [] rest h s = run_stops p rest s
run_over p (b ∷ bs) rest h s = go (p b) h (λ g. run_over p bs rest g s)
  where
    go : (t : Bool) → cond t (each p bs) false ≡ true → (each p bs ≡ true → run p (bs ++ rest) ≡ length bs) → cond t (suc (run p (bs ++ rest))) 0 ≡ suc (length bs)
    go true g next = ap suc (next g)
    go false g next = absurd cc

-- what the bytes of a word are
pub record IsWord (t : Tok) (head : ℕ) (tail : List ℕ) : Type 0 where
  starts : starts_word head ≡ true
  goes_on : each is_word_byte tail ≡ true
  visible : is_space head ≡ false
  means : token_of k.Word (head ∷ tail) ≡ t
  allowed : is_refused (head ∷ tail) ≡ false

word_cut : (head : ℕ) (tail rest : List ℕ) → starts_word head ≡ true → each is_word_byte tail ≡ true → first is_word_byte rest ≡ false → cut_at head (tail ++ rest) ≡ Ok (k.Word, suc (length tail))
unfolding cut_at
word_cut head tail rest s g e = rw (s, run_over is_word_byte tail rest g e) refl

word_lexes : (t : Tok) (head : ℕ) (tail rest : List ℕ) → spelling t ≡ head ∷ tail → IsWord t head tail → first is_word_byte rest ≡ false → Lexes t rest
word_lexes t head tail rest e w s =
    record { kind = k.Word; head = head; tail = tail; bytes = e; visible = w.visible; cut = word_cut head tail rest w.starts w.goes_on s; means = w.means; allowed = w.allowed }

-- the reserved words
abbrev pub is_reserved : Mark → Bool
is_reserved m.Select = true
is_reserved m.From = true
is_reserved m.Where = true
is_reserved m.Group = true
is_reserved m.By = true
is_reserved m.Having = true
is_reserved m.Order = true
is_reserved m.Limit = true
is_reserved m.Offset = true
is_reserved m.As = true
is_reserved m.And = true
is_reserved m.Or = true
is_reserved m.Not = true
is_reserved m.Is = true
is_reserved m.Null = true
is_reserved m.Missing = true
is_reserved m.True = true
is_reserved m.False = true
is_reserved m.In = true
is_reserved m.Between = true
is_reserved m.Like = true
is_reserved m.ILike = true
is_reserved m.Case = true
is_reserved m.When = true
is_reserved m.Then = true
is_reserved m.Else = true
is_reserved m.End = true
is_reserved m.Cast = true
is_reserved m.Asc = true
is_reserved m.Desc = true
is_reserved _ = false

pub reserved_lexes : (w : Mark) → is_reserved w ≡ true → (rest : List ℕ) → first is_word_byte rest ≡ false → Lexes (mark w) rest
unfolding spelling token_of reserved_word is_refused
reserved_lexes m.Select r rest s = word_lexes (mark m.Select) 83 (69 ∷ 76 ∷ 69 ∷ 67 ∷ 84 ∷ []) rest refl (record { starts = refl; goes_on = refl; visible = refl; means = refl; allowed = refl }) s
reserved_lexes m.From r rest s = word_lexes (mark m.From) 70 (82 ∷ 79 ∷ 77 ∷ []) rest refl (record { starts = refl; goes_on = refl; visible = refl; means = refl; allowed = refl }) s
reserved_lexes m.Where r rest s = word_lexes (mark m.Where) 87 (72 ∷ 69 ∷ 82 ∷ 69 ∷ []) rest refl (record { starts = refl; goes_on = refl; visible = refl; means = refl; allowed = refl }) s
reserved_lexes m.Group r rest s = word_lexes (mark m.Group) 71 (82 ∷ 79 ∷ 85 ∷ 80 ∷ []) rest refl (record { starts = refl; goes_on = refl; visible = refl; means = refl; allowed = refl }) s
reserved_lexes m.By r rest s = word_lexes (mark m.By) 66 (89 ∷ []) rest refl (record { starts = refl; goes_on = refl; visible = refl; means = refl; allowed = refl }) s
reserved_lexes m.Having r rest s = word_lexes (mark m.Having) 72 (65 ∷ 86 ∷ 73 ∷ 78 ∷ 71 ∷ []) rest refl (record { starts = refl; goes_on = refl; visible = refl; means = refl; allowed = refl }) s
reserved_lexes m.Order r rest s = word_lexes (mark m.Order) 79 (82 ∷ 68 ∷ 69 ∷ 82 ∷ []) rest refl (record { starts = refl; goes_on = refl; visible = refl; means = refl; allowed = refl }) s
reserved_lexes m.Limit r rest s = word_lexes (mark m.Limit) 76 (73 ∷ 77 ∷ 73 ∷ 84 ∷ []) rest refl (record { starts = refl; goes_on = refl; visible = refl; means = refl; allowed = refl }) s
reserved_lexes m.Offset r rest s = word_lexes (mark m.Offset) 79 (70 ∷ 70 ∷ 83 ∷ 69 ∷ 84 ∷ []) rest refl (record { starts = refl; goes_on = refl; visible = refl; means = refl; allowed = refl }) s
reserved_lexes m.As r rest s = word_lexes (mark m.As) 65 (83 ∷ []) rest refl (record { starts = refl; goes_on = refl; visible = refl; means = refl; allowed = refl }) s
reserved_lexes m.And r rest s = word_lexes (mark m.And) 65 (78 ∷ 68 ∷ []) rest refl (record { starts = refl; goes_on = refl; visible = refl; means = refl; allowed = refl }) s
reserved_lexes m.Or r rest s = word_lexes (mark m.Or) 79 (82 ∷ []) rest refl (record { starts = refl; goes_on = refl; visible = refl; means = refl; allowed = refl }) s
reserved_lexes m.Not r rest s = word_lexes (mark m.Not) 78 (79 ∷ 84 ∷ []) rest refl (record { starts = refl; goes_on = refl; visible = refl; means = refl; allowed = refl }) s
reserved_lexes m.Is r rest s = word_lexes (mark m.Is) 73 (83 ∷ []) rest refl (record { starts = refl; goes_on = refl; visible = refl; means = refl; allowed = refl }) s
reserved_lexes m.Null r rest s = word_lexes (mark m.Null) 78 (85 ∷ 76 ∷ 76 ∷ []) rest refl (record { starts = refl; goes_on = refl; visible = refl; means = refl; allowed = refl }) s
reserved_lexes m.Missing r rest s = word_lexes (mark m.Missing) 77 (73 ∷ 83 ∷ 83 ∷ 73 ∷ 78 ∷ 71 ∷ []) rest refl (record { starts = refl; goes_on = refl; visible = refl; means = refl; allowed = refl }) s
reserved_lexes m.True r rest s = word_lexes (mark m.True) 84 (82 ∷ 85 ∷ 69 ∷ []) rest refl (record { starts = refl; goes_on = refl; visible = refl; means = refl; allowed = refl }) s
reserved_lexes m.False r rest s = word_lexes (mark m.False) 70 (65 ∷ 76 ∷ 83 ∷ 69 ∷ []) rest refl (record { starts = refl; goes_on = refl; visible = refl; means = refl; allowed = refl }) s
reserved_lexes m.In r rest s = word_lexes (mark m.In) 73 (78 ∷ []) rest refl (record { starts = refl; goes_on = refl; visible = refl; means = refl; allowed = refl }) s
reserved_lexes m.Between r rest s = word_lexes (mark m.Between) 66 (69 ∷ 84 ∷ 87 ∷ 69 ∷ 69 ∷ 78 ∷ []) rest refl (record { starts = refl; goes_on = refl; visible = refl; means = refl; allowed = refl }) s
reserved_lexes m.Like r rest s = word_lexes (mark m.Like) 76 (73 ∷ 75 ∷ 69 ∷ []) rest refl (record { starts = refl; goes_on = refl; visible = refl; means = refl; allowed = refl }) s
reserved_lexes m.ILike r rest s = word_lexes (mark m.ILike) 73 (76 ∷ 73 ∷ 75 ∷ 69 ∷ []) rest refl (record { starts = refl; goes_on = refl; visible = refl; means = refl; allowed = refl }) s
reserved_lexes m.Case r rest s = word_lexes (mark m.Case) 67 (65 ∷ 83 ∷ 69 ∷ []) rest refl (record { starts = refl; goes_on = refl; visible = refl; means = refl; allowed = refl }) s
reserved_lexes m.When r rest s = word_lexes (mark m.When) 87 (72 ∷ 69 ∷ 78 ∷ []) rest refl (record { starts = refl; goes_on = refl; visible = refl; means = refl; allowed = refl }) s
reserved_lexes m.Then r rest s = word_lexes (mark m.Then) 84 (72 ∷ 69 ∷ 78 ∷ []) rest refl (record { starts = refl; goes_on = refl; visible = refl; means = refl; allowed = refl }) s
reserved_lexes m.Else r rest s = word_lexes (mark m.Else) 69 (76 ∷ 83 ∷ 69 ∷ []) rest refl (record { starts = refl; goes_on = refl; visible = refl; means = refl; allowed = refl }) s
reserved_lexes m.End r rest s = word_lexes (mark m.End) 69 (78 ∷ 68 ∷ []) rest refl (record { starts = refl; goes_on = refl; visible = refl; means = refl; allowed = refl }) s
reserved_lexes m.Cast r rest s = word_lexes (mark m.Cast) 67 (65 ∷ 83 ∷ 84 ∷ []) rest refl (record { starts = refl; goes_on = refl; visible = refl; means = refl; allowed = refl }) s
reserved_lexes m.Asc r rest s = word_lexes (mark m.Asc) 65 (83 ∷ 67 ∷ []) rest refl (record { starts = refl; goes_on = refl; visible = refl; means = refl; allowed = refl }) s
reserved_lexes m.Desc r rest s = word_lexes (mark m.Desc) 68 (69 ∷ 83 ∷ 67 ∷ []) rest refl (record { starts = refl; goes_on = refl; visible = refl; means = refl; allowed = refl }) s
reserved_lexes _ r rest s = absurd cc

pub function_lexes : (w : FunctionWord) (rest : List ℕ) → first is_word_byte rest ≡ false → Lexes (word (function_text w)) rest
unfolding spelling token_of reserved_word is_refused
function_lexes f.Coalesce rest s = word_lexes (word (function_text f.Coalesce)) 67 (79 ∷ 65 ∷ 76 ∷ 69 ∷ 83 ∷ 67 ∷ 69 ∷ []) rest refl (record { starts = refl; goes_on = refl; visible = refl; means = refl; allowed = refl }) s
function_lexes f.NullIf rest s = word_lexes (word (function_text f.NullIf)) 78 (85 ∷ 76 ∷ 76 ∷ 73 ∷ 70 ∷ []) rest refl (record { starts = refl; goes_on = refl; visible = refl; means = refl; allowed = refl }) s
function_lexes f.CharLength rest s = word_lexes (word (function_text f.CharLength)) 67 (72 ∷ 65 ∷ 82 ∷ 95 ∷ 76 ∷ 69 ∷ 78 ∷ 71 ∷ 84 ∷ 72 ∷ []) rest refl (record { starts = refl; goes_on = refl; visible = refl; means = refl; allowed = refl }) s
function_lexes f.ToUnixEpoch rest s = word_lexes (word (function_text f.ToUnixEpoch)) 84 (79 ∷ 95 ∷ 85 ∷ 78 ∷ 73 ∷ 88 ∷ 95 ∷ 69 ∷ 80 ∷ 79 ∷ 67 ∷ 72 ∷ []) rest refl (record { starts = refl; goes_on = refl; visible = refl; means = refl; allowed = refl }) s
function_lexes f.ToUnixMicro rest s = word_lexes (word (function_text f.ToUnixMicro)) 84 (79 ∷ 95 ∷ 85 ∷ 78 ∷ 73 ∷ 88 ∷ 95 ∷ 77 ∷ 73 ∷ 67 ∷ 82 ∷ 79 ∷ []) rest refl (record { starts = refl; goes_on = refl; visible = refl; means = refl; allowed = refl }) s
function_lexes f.StartsWith rest s = word_lexes (word (function_text f.StartsWith)) 83 (84 ∷ 65 ∷ 82 ∷ 84 ∷ 83 ∷ 95 ∷ 87 ∷ 73 ∷ 84 ∷ 72 ∷ []) rest refl (record { starts = refl; goes_on = refl; visible = refl; means = refl; allowed = refl }) s
function_lexes f.EndsWith rest s = word_lexes (word (function_text f.EndsWith)) 69 (78 ∷ 68 ∷ 83 ∷ 95 ∷ 87 ∷ 73 ∷ 84 ∷ 72 ∷ []) rest refl (record { starts = refl; goes_on = refl; visible = refl; means = refl; allowed = refl }) s
function_lexes f.Contains rest s = word_lexes (word (function_text f.Contains)) 67 (79 ∷ 78 ∷ 84 ∷ 65 ∷ 73 ∷ 78 ∷ 83 ∷ []) rest refl (record { starts = refl; goes_on = refl; visible = refl; means = refl; allowed = refl }) s
function_lexes f.DateTrunc rest s = word_lexes (word (function_text f.DateTrunc)) 68 (65 ∷ 84 ∷ 69 ∷ 95 ∷ 84 ∷ 82 ∷ 85 ∷ 78 ∷ 67 ∷ []) rest refl (record { starts = refl; goes_on = refl; visible = refl; means = refl; allowed = refl }) s
function_lexes f.Extract rest s = word_lexes (word (function_text f.Extract)) 69 (88 ∷ 84 ∷ 82 ∷ 65 ∷ 67 ∷ 84 ∷ []) rest refl (record { starts = refl; goes_on = refl; visible = refl; means = refl; allowed = refl }) s
function_lexes f.DateAdd rest s = word_lexes (word (function_text f.DateAdd)) 68 (65 ∷ 84 ∷ 69 ∷ 95 ∷ 65 ∷ 68 ∷ 68 ∷ []) rest refl (record { starts = refl; goes_on = refl; visible = refl; means = refl; allowed = refl }) s
function_lexes f.Count rest s = word_lexes (word (function_text f.Count)) 67 (79 ∷ 85 ∷ 78 ∷ 84 ∷ []) rest refl (record { starts = refl; goes_on = refl; visible = refl; means = refl; allowed = refl }) s
function_lexes f.Sum rest s = word_lexes (word (function_text f.Sum)) 83 (85 ∷ 77 ∷ []) rest refl (record { starts = refl; goes_on = refl; visible = refl; means = refl; allowed = refl }) s
function_lexes f.Min rest s = word_lexes (word (function_text f.Min)) 77 (73 ∷ 78 ∷ []) rest refl (record { starts = refl; goes_on = refl; visible = refl; means = refl; allowed = refl }) s
function_lexes f.Max rest s = word_lexes (word (function_text f.Max)) 77 (65 ∷ 88 ∷ []) rest refl (record { starts = refl; goes_on = refl; visible = refl; means = refl; allowed = refl }) s
function_lexes f.Avg rest s = word_lexes (word (function_text f.Avg)) 65 (86 ∷ 71 ∷ []) rest refl (record { starts = refl; goes_on = refl; visible = refl; means = refl; allowed = refl }) s
function_lexes f.Earliest rest s = word_lexes (word (function_text f.Earliest)) 69 (65 ∷ 82 ∷ 76 ∷ 73 ∷ 69 ∷ 83 ∷ 84 ∷ []) rest refl (record { starts = refl; goes_on = refl; visible = refl; means = refl; allowed = refl }) s
function_lexes f.Latest rest s = word_lexes (word (function_text f.Latest)) 76 (65 ∷ 84 ∷ 69 ∷ 83 ∷ 84 ∷ []) rest refl (record { starts = refl; goes_on = refl; visible = refl; means = refl; allowed = refl }) s
function_lexes f.BoolAnd rest s = word_lexes (word (function_text f.BoolAnd)) 66 (79 ∷ 79 ∷ 76 ∷ 95 ∷ 65 ∷ 78 ∷ 68 ∷ []) rest refl (record { starts = refl; goes_on = refl; visible = refl; means = refl; allowed = refl }) s
function_lexes f.BoolOr rest s = word_lexes (word (function_text f.BoolOr)) 66 (79 ∷ 79 ∷ 76 ∷ 95 ∷ 79 ∷ 82 ∷ []) rest refl (record { starts = refl; goes_on = refl; visible = refl; means = refl; allowed = refl }) s

pub part_lexes : (p : Part) (rest : List ℕ) → first is_word_byte rest ≡ false → Lexes (word (part_text p)) rest
unfolding spelling token_of reserved_word is_refused
part_lexes part.Microsecond rest s = word_lexes (word (part_text part.Microsecond)) 77 (73 ∷ 67 ∷ 82 ∷ 79 ∷ 83 ∷ 69 ∷ 67 ∷ 79 ∷ 78 ∷ 68 ∷ []) rest refl (record { starts = refl; goes_on = refl; visible = refl; means = refl; allowed = refl }) s
part_lexes part.Second rest s = word_lexes (word (part_text part.Second)) 83 (69 ∷ 67 ∷ 79 ∷ 78 ∷ 68 ∷ []) rest refl (record { starts = refl; goes_on = refl; visible = refl; means = refl; allowed = refl }) s
part_lexes part.Minute rest s = word_lexes (word (part_text part.Minute)) 77 (73 ∷ 78 ∷ 85 ∷ 84 ∷ 69 ∷ []) rest refl (record { starts = refl; goes_on = refl; visible = refl; means = refl; allowed = refl }) s
part_lexes part.Hour rest s = word_lexes (word (part_text part.Hour)) 72 (79 ∷ 85 ∷ 82 ∷ []) rest refl (record { starts = refl; goes_on = refl; visible = refl; means = refl; allowed = refl }) s
part_lexes part.Day rest s = word_lexes (word (part_text part.Day)) 68 (65 ∷ 89 ∷ []) rest refl (record { starts = refl; goes_on = refl; visible = refl; means = refl; allowed = refl }) s
part_lexes part.Week rest s = word_lexes (word (part_text part.Week)) 87 (69 ∷ 69 ∷ 75 ∷ []) rest refl (record { starts = refl; goes_on = refl; visible = refl; means = refl; allowed = refl }) s
part_lexes part.Month rest s = word_lexes (word (part_text part.Month)) 77 (79 ∷ 78 ∷ 84 ∷ 72 ∷ []) rest refl (record { starts = refl; goes_on = refl; visible = refl; means = refl; allowed = refl }) s
part_lexes part.Quarter rest s = word_lexes (word (part_text part.Quarter)) 81 (85 ∷ 65 ∷ 82 ∷ 84 ∷ 69 ∷ 82 ∷ []) rest refl (record { starts = refl; goes_on = refl; visible = refl; means = refl; allowed = refl }) s
part_lexes part.Year rest s = word_lexes (word (part_text part.Year)) 89 (69 ∷ 65 ∷ 82 ∷ []) rest refl (record { starts = refl; goes_on = refl; visible = refl; means = refl; allowed = refl }) s

pub cast_lexes : (c : CastTo) (rest : List ℕ) → first is_word_byte rest ≡ false → Lexes (word (cast_text c)) rest
unfolding spelling token_of reserved_word is_refused
cast_lexes to.Integer rest s = word_lexes (word (cast_text to.Integer)) 73 (78 ∷ 84 ∷ 69 ∷ 71 ∷ 69 ∷ 82 ∷ []) rest refl (record { starts = refl; goes_on = refl; visible = refl; means = refl; allowed = refl }) s
cast_lexes to.Boolean rest s = word_lexes (word (cast_text to.Boolean)) 66 (79 ∷ 79 ∷ 76 ∷ 69 ∷ 65 ∷ 78 ∷ []) rest refl (record { starts = refl; goes_on = refl; visible = refl; means = refl; allowed = refl }) s
