-- By computing.
use Rattle.std.proofs.Common.{refl}
use Rattle.std.specs.Fmt.{digits}
use Rattle.print_meaning.specs.Pieces.{spelling}
use Rattle.plan_lower.specs.Listing.{op_text, what_text, how_text, to_text, func_text, part_text, agg_text, constant_text, made_text, instr_line, program_text, out_line, sort_line, group_line, agg_line, outs_text, ends_text, listing_text}
use Rattle.front_tests.proofs.each_line_is_listed_so.Goals as goal

pub returns : goal.returns
unfolding listing_text program_text ends_text outs_text instr_line made_text constant_text out_line sort_line group_line agg_line op_text what_text how_text to_text func_text part_text agg_text spelling digits
returns c = refl
