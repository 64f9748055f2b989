-- What the heads of calls stand for.
use Rattle.sql_grammar.specs.declared.heads.Head.{Head as HeadCode}
use Rattle.sql_grammar.specs.declared.heads.Head.TheVariants as of
use Rattle.query_meaning.specs.Grammar.{Head, function, aggregate, truncation, extraction, addition}

abbrev pub head_view : HeadCode → Head
head_view (of.Function f) = function f
head_view (of.Aggregate n) = aggregate n
head_view (of.Truncation p) = truncation p
head_view (of.Extraction p) = extraction p
head_view (of.Addition p) = addition p
