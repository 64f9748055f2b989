use Rattle.std.proofs.Common.{arith}
use Rattle.query_meaning.specs.declared.TokenKind.TheVariants as kind
use Rattle.sql_words.proofs.Slices.{wide_by}
use Rattle.sql_words.proofs.looks.look_of.Goals as goal

pub inside-requires-clause-wide : goal.inside-requires-clause-wide
inside-requires-clause-wide c = wide_by c.args.text.now c.args.token kind.Quoted c.requires c.in-Quoted.is (omega arith)

pub inside-requires-in-Str-clause-wide : goal.inside-requires-in-Str-clause-wide
inside-requires-in-Str-clause-wide c = wide_by c.args.text.now c.args.token kind.Str c.requires c.in-Str.is (omega arith)

pub inside-requires-in-Moment-clause-wide : goal.inside-requires-in-Moment-clause-wide
inside-requires-in-Moment-clause-wide c = wide_by c.args.text.now c.args.token kind.Moment c.requires c.in-Moment.is (omega arith)
