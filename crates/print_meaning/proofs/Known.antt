-- The printed words are known again, and are no reserved words.
use Rattle.std.proofs.Common.{◌≡◌, Some, refl}
use Rattle.query_meaning.specs.declared.FunctionWord.{FunctionWord}
use Rattle.query_meaning.specs.declared.FunctionWord.TheVariants as f
use Rattle.tree_meaning.specs.declared.CastTo.{CastTo}
use Rattle.tree_meaning.specs.declared.CastTo.TheVariants as to
use Rattle.tree_meaning.specs.declared.Part.{Part}
use Rattle.tree_meaning.specs.declared.Part.TheVariants as part
use Rattle.query_meaning.specs.Words.{function_word, function_text, part_word, part_text, cast_word, cast_text}

pub function-known : (w : FunctionWord) → function_word (function_text w) ≡ Some w
unfolding function_word
function-known f.Coalesce = refl
function-known f.NullIf = refl
function-known f.CharLength = refl
function-known f.ToUnixEpoch = refl
function-known f.ToUnixMicro = refl
function-known f.StartsWith = refl
function-known f.EndsWith = refl
function-known f.Contains = refl
function-known f.DateTrunc = refl
function-known f.Extract = refl
function-known f.DateAdd = refl
function-known f.Count = refl
function-known f.Sum = refl
function-known f.Min = refl
function-known f.Max = refl
function-known f.Avg = refl
function-known f.Earliest = refl
function-known f.Latest = refl
function-known f.BoolAnd = refl
function-known f.BoolOr = refl

pub part-known : (p : Part) → part_word (part_text p) ≡ Some p
unfolding part_word
part-known part.Microsecond = refl
part-known part.Second = refl
part-known part.Minute = refl
part-known part.Hour = refl
part-known part.Day = refl
part-known part.Week = refl
part-known part.Month = refl
part-known part.Quarter = refl
part-known part.Year = refl

pub cast-known : (c : CastTo) → cast_word (cast_text c) ≡ Some c
unfolding cast_word
cast-known to.Integer = refl
cast-known to.Boolean = refl
