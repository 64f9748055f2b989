use Rattle.std.proofs.Common.{◌∙◌}
use Rattle.sql_words.proofs.Slices.{starts_inside, ends_inside, inside_is}
use Rattle.sql_words.proofs.looks.inside.Goals as goal

pub range-requires-clause-start_boundary : goal.range-requires-clause-start_boundary
range-requires-clause-start_boundary c = λ _. starts_inside c.args.text.now c.args.token c.utf8.text c.requires.token

pub range-requires-clause-end_boundary : goal.range-requires-clause-end_boundary
range-requires-clause-end_boundary c = ends_inside c.args.text.now c.args.token c.requires.token

pub returns : goal.returns
returns c = c.range.ensures.value ∙ inside_is c.args.text.now c.args.token c.requires.token c.requires.wide
