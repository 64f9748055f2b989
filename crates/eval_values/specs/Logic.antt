-- What the classes of values stand for.
use Rattle.eval_values.specs.declared.logic.Logic.{Logic as LogicCode}
use Rattle.eval_values.specs.declared.logic.Logic.TheVariants as code
use Rattle.eval_meaning.specs.Logic.{Logic, holds, fails, unknown, other}

abbrev pub logic_view : LogicCode → Logic
logic_view code.Holds = holds
logic_view code.Fails = fails
logic_view code.Unknown = unknown
logic_view code.Other = other
