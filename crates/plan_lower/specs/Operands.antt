-- The forms of one operand and of two, with what each makes of the values of its operands.
use Rattle.std.specs.Prelude.{Option, Some, None}
use Rattle.value_meaning.specs.Val.{Val, missing}
use Rattle.tree_meaning.specs.Tree.{Ex, neg, no, bin, is, matching, cast, trunc, extract, shift}
use Rattle.eval_meaning.specs.Logic.{not_of, is_of}
use Rattle.eval_meaning.specs.Numbers.{negative}
use Rattle.eval_meaning.specs.Casts.{cast_of}
use Rattle.eval_meaning.specs.Matching.{matching_of}
use Rattle.eval_meaning.specs.Times.{trunc_of, extract_of, shift_of}
use Rattle.eval_meaning.specs.Evaluation.{binary}

-- the operand of a form of one
abbrev pub operand_of : Ex → Option Ex
operand_of (neg e) = Some e
operand_of (no e) = Some e
operand_of (is w e) = Some e
operand_of (matching h e s) = Some e
operand_of (cast c e) = Some e
operand_of (trunc p e) = Some e
operand_of (extract p e) = Some e
operand_of e = None

-- what it makes of its operand's value
abbrev pub of_operand : Ex → Val → Val
of_operand (neg e) = negative
of_operand (no e) = not_of
of_operand (is w e) = is_of w
of_operand (matching h e s) = matching_of h s
of_operand (cast c e) = cast_of c
of_operand (trunc p e) = trunc_of p
of_operand (extract p e) = extract_of p
of_operand e = λ v. missing

-- the operands of a form of two
abbrev pub operands_of : Ex → Option (Ex × Ex)
operands_of (bin o a b) = Some (a, b)
operands_of (shift p n e) = Some (n, e)
operands_of e = None

-- what it makes of their values
abbrev pub of_operands : Ex → Val → Val → Val
of_operands (bin o a b) = binary o
of_operands (shift p n e) = shift_of p
of_operands e = λ v w. missing
