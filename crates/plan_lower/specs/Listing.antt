-- The listing of a job: its instructions and its ends, each on a line of its own.
use Rattle.std.specs.Prelude.{ℕ, List, [], ◌++◌, take, Option, None, Some, if◌then◌else◌, codes}
use Rattle.std.specs.Fmt.{decimal, signed_decimal}
use Rattle.std.specs.List.{enumerate_from, flat_map}
use Rattle.value_meaning.specs.Val.{Val}
use Rattle.value_meaning.specs.Val as val
use Rattle.tree_meaning.specs.declared.BinOp.{BinOp}
use Rattle.tree_meaning.specs.declared.BinOp.TheVariants as op
use Rattle.tree_meaning.specs.declared.IsWhat.{IsWhat}
use Rattle.tree_meaning.specs.declared.IsWhat.TheVariants as what
use Rattle.tree_meaning.specs.declared.How.{How}
use Rattle.tree_meaning.specs.declared.How.TheVariants as how
use Rattle.tree_meaning.specs.declared.CastTo.{CastTo}
use Rattle.tree_meaning.specs.declared.CastTo.TheVariants as to
use Rattle.tree_meaning.specs.declared.Func.{Func}
use Rattle.tree_meaning.specs.declared.Func.TheVariants as func
use Rattle.tree_meaning.specs.declared.Part.{Part}
use Rattle.tree_meaning.specs.declared.Part.TheVariants as part
use Rattle.tree_meaning.specs.declared.AggName.{AggName}
use Rattle.tree_meaning.specs.declared.AggName.TheVariants as aggs
use Rattle.print_meaning.specs.Pieces.{in_quotes}
use Rattle.print_meaning.specs.Texts.{literal_text}
use Rattle.program_meaning.specs.Instructions.{Instr, makes_mask}
use Rattle.program_meaning.specs.Instructions as instr
use Rattle.program_meaning.specs.Programs.{mask_count, value_count}
use Rattle.program_meaning.specs.Jobs.{Ends, Job}

-- a mask register and a value register
abbrev pub mask_name : ℕ → List ℕ
mask_name m = codes "m" ++ decimal m

abbrev pub value_name : ℕ → List ℕ
value_name r = codes "r" ++ decimal r

unfoldable pub op_text : BinOp → List ℕ
op_text op.Add = codes "add"
op_text op.Sub = codes "sub"
op_text op.Mul = codes "mul"
op_text op.Div = codes "div"
op_text op.Rem = codes "rem"
op_text op.Eq = codes "eq"
op_text op.Ne = codes "ne"
op_text op.Lt = codes "lt"
op_text op.Le = codes "le"
op_text op.Gt = codes "gt"
op_text op.Ge = codes "ge"
op_text op.And = codes "and"
op_text op.Or = codes "or"

unfoldable pub what_text : IsWhat → List ℕ
what_text what.Null = codes "null"
what_text what.Missing = codes "missing"
what_text what.True = codes "true"
what_text what.False = codes "false"

unfoldable pub how_text : How → List ℕ
how_text how.Like = codes "like"
how_text how.ILike = codes "ilike"
how_text how.Starts = codes "starts"
how_text how.Ends = codes "ends"
how_text how.Contains = codes "contains"

unfoldable pub to_text : CastTo → List ℕ
to_text to.Integer = codes "integer"
to_text to.Boolean = codes "boolean"

unfoldable pub func_text : Func → List ℕ
func_text func.Coalesce = codes "coalesce"
func_text func.NullIf = codes "nullif"
func_text func.CharLength = codes "charlength"
func_text func.UnixEpoch = codes "unixepoch"
func_text func.UnixMicro = codes "unixmicro"

unfoldable pub part_text : Part → List ℕ
part_text part.Microsecond = codes "microsecond"
part_text part.Second = codes "second"
part_text part.Minute = codes "minute"
part_text part.Hour = codes "hour"
part_text part.Day = codes "day"
part_text part.Week = codes "week"
part_text part.Month = codes "month"
part_text part.Quarter = codes "quarter"
part_text part.Year = codes "year"

unfoldable pub agg_text : AggName → List ℕ
agg_text aggs.CountAll = codes "countall"
agg_text aggs.Count = codes "count"
agg_text aggs.Sum = codes "sum"
agg_text aggs.Min = codes "min"
agg_text aggs.Max = codes "max"
agg_text aggs.Avg = codes "avg"
agg_text aggs.Earliest = codes "earliest"
agg_text aggs.Latest = codes "latest"
agg_text aggs.BoolAnd = codes "booland"
agg_text aggs.BoolOr = codes "boolor"

-- a literal as in a query, but a number with `-` before its digits where it is negative
unfoldable pub constant_text : Val → List ℕ
constant_text (val.int n) = signed_decimal n
constant_text v = literal_text v

-- a word and the mask under which a value is made
abbrev pub under_text : List ℕ → ℕ → List ℕ
under_text word m = word ++ codes " " ++ mask_name m

-- a value register behind a space
abbrev pub operand_text : ℕ → List ℕ
operand_text r = codes " " ++ value_name r

-- a word, the mask under which a value is made, and the value that it is made of
abbrev pub of_one_text : List ℕ → ℕ → ℕ → List ℕ
of_one_text word m a = under_text word m ++ operand_text a

-- the same of two values
abbrev pub of_two_text : List ℕ → ℕ → ℕ → ℕ → List ℕ
of_two_text word m a b = under_text word m ++ operand_text a ++ operand_text b

-- a word, the mask, what is asked for, and the value
abbrev pub asked_text : List ℕ → ℕ → List ℕ → ℕ → List ℕ
asked_text word m what a = under_text word m ++ codes " " ++ what ++ operand_text a

-- what a register is made from
unfoldable pub made_text : Instr → List ℕ
made_text instr.all = codes "all"
made_text (instr.holding m a) = of_one_text (codes "true") m a
made_text (instr.minus m k) = under_text (codes "minus") m ++ codes " " ++ mask_name k
made_text (instr.root m) = under_text (codes "root") m
made_text (instr.field m a n) = under_text (codes "field") m ++ operand_text a ++ codes " " ++ in_quotes 34 n
made_text (instr.at m a i) = under_text (codes "at") m ++ operand_text a ++ codes " " ++ decimal i
made_text (instr.const m v) = under_text (codes "const") m ++ codes " " ++ constant_text v
made_text (instr.bin m o a b) = of_two_text (op_text o) m a b
made_text (instr.neg m a) = of_one_text (codes "neg") m a
made_text (instr.not m a) = of_one_text (codes "not") m a
made_text (instr.is m w a) = asked_text (codes "is") m (what_text w) a
made_text (instr.first m a b) = of_two_text (codes "first") m a b
made_text (instr.merge m k a b) = under_text (codes "merge") m ++ codes " " ++ mask_name k ++ operand_text a ++ operand_text b
made_text (instr.matching m h a s) = of_one_text (how_text h) m a ++ codes " " ++ in_quotes 39 s
made_text (instr.cast m c a) = asked_text (codes "cast") m (to_text c) a
made_text (instr.length m f a) = of_one_text (func_text f) m a
made_text (instr.unix m f a) = of_one_text (func_text f) m a
made_text (instr.trunc m p a) = asked_text (codes "trunc") m (part_text p) a
made_text (instr.extract m p a) = asked_text (codes "extract") m (part_text p) a
made_text (instr.shift m p n a) = asked_text (codes "shift") m (part_text p) n ++ operand_text a

-- a text and the end of its line
abbrev pub line : List ℕ → List ℕ
line text = text ++ codes "\n"

-- the register that an instruction makes behind m masks and v values
abbrev pub made_name : ℕ → ℕ → Instr → List ℕ
made_name m v x = if makes_mask x then mask_name m else value_name v

unfoldable pub instr_line : ℕ → ℕ → Instr → List ℕ
instr_line m v x = line (made_name m v x ++ codes " = " ++ made_text x)

-- the instructions, each behind those that stand before it
unfoldable pub program_text : List Instr → List ℕ
program_text xs = flat_map (λ i. instr_line (mask_count (take i.0 xs)) (value_count (take i.0 xs)) i.1) (enumerate_from 0 xs)

unfoldable pub out_line : List ℕ × ℕ → List ℕ
out_line o = line (codes "out " ++ in_quotes 34 o.0 ++ operand_text o.1)

unfoldable pub sort_line : ℕ → List ℕ
sort_line r = line (codes "sort" ++ operand_text r)

unfoldable pub group_line : ℕ → List ℕ
group_line r = line (codes "group" ++ operand_text r)

-- the register of an operand, if there is one
abbrev pub optional_text : Option ℕ → List ℕ
optional_text None = []
optional_text (Some r) = operand_text r

unfoldable pub agg_line : AggName × Option ℕ → List ℕ
agg_line a = line (codes "agg " ++ agg_text a.0 ++ optional_text a.1)

-- the whole row, or the outputs
unfoldable pub outs_text : Ends → List ℕ
outs_text e = if e.star then line (codes "star") else flat_map out_line e.outs

unfoldable pub ends_text : Ends → List ℕ
ends_text e =
    line (codes "keep " ++ mask_name e.keep)
    ++ outs_text e
    ++ flat_map sort_line e.sorts
    ++ flat_map group_line e.groups
    ++ flat_map agg_line e.aggs

-- a line for each instruction; the mask of the rows that pass; `star` or a line for each output; and a line for each sort key,
-- group key and aggregate
unfoldable pub listing_text : Job → List ℕ
listing_text job = program_text job.program ++ ends_text job.ends
