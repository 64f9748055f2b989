-- By computing.
use Rattle.std.proofs.Common.{refl}
use Rattle.std.specs.Str.{is_utf8, chars}
use lib.Utf8.{encode}
use Rattle.jiff_core.specs.Calendar.{days_from_civil, day_count, days_of_years, days_of_months}
use Rattle.time_meaning.specs.Moments.{moment, is_real}
use Rattle.block_meaning.specs.Numbers.{var_uint, var_int, magnitude}
use Rattle.block_meaning.specs.Timestamps.{or_least, clock, cut, fraction, moment_of, timestamp}
use Rattle.block_meaning.specs.Tables.{text_of}
use Rattle.block_meaning.specs.CellReading.{counted, head_at, one_byte, scalar, node, cell_by, flat_cell, cell_to}
use Rattle.block_meaning.specs.Blocks.{payload_of, only_payload, listed_in, texts_in, table_at, rows_in, block_in}
use Rattle.block_meaning.proofs.examples_are_read_so.Goals as goal

pub returns : goal.returns
unfolding block_in table_at payload_of texts_in listed_in only_payload var_uint var_int head_at counted rows_in cell_to flat_cell cell_by one_byte node scalar magnitude text_of is_utf8 chars encode timestamp or_least clock cut fraction moment_of moment is_real days_from_civil day_count days_of_years days_of_months
returns c = record { blocks_so = refl; tables_so = refl; cells_so = refl; deepest = refl; too_deep = refl }
