use Rattle.std.proofs.Common.{◌≡◌, ◌-◌, ap, sym, arith, to_z-of_z, w64}
use Rattle.std.specs.Prelude.{FitsSigned}
use Rattle.jiff_core.proofs.SignedLemmas.{signed_arith}
use Rattle.std.specs.Option.{option_map}
use Rattle.block_meaning.specs.Numbers.{magnitude}
use Rattle.block_meaning.specs.CellReading.{blank_table}
use Rattle.ion_cells.specs.declared.tag.Tag.TheVariants as tags
use Rattle.ion_cells.specs.Shown.{shown, cell_last}
use Rattle.ion_cells.proofs.Signed.{whole_is, below_zero_is}
use Rattle.ion_cells.proofs.Denoting.{holds_in, holds_here, symbol_here, symbol_named, items_denote, pairs_denote, time_denotes, time_is, items_legal, pairs_legal, symbol_within}
use Rattle.ion_cells.proofs.cell.Cell.content.Goals as goal

pub magnitude-requires : goal.magnitude-requires
magnitude-requires c = (holds_here c.args.self.now tags.Whole _ c.in-Whole.is c.payload-payload.ensures).0

pub overflow_cast-result : goal.overflow_cast-result
overflow_cast-result c =
    let h = holds_here c.args.self.now tags.Whole _ c.in-Whole.is c.payload-payload.ensures in
    omega (arith, c.magnitude.ensures, h.1)

pub magnitude-requires-in-Negative : goal.magnitude-requires-in-Negative
magnitude-requires-in-Negative c = (holds_here c.args.self.now tags.Negative _ c.in-Negative.is c.payload-payload.ensures).0

pub overflow_sub-result : goal.overflow_sub-result
overflow_sub-result c =
    let h = holds_here c.args.self.now tags.Negative _ c.in-Negative.is c.payload-payload.ensures in
    omega (arith, c.magnitude-in-Negative.ensures, h.1.1)

pub overflow_cast-result-in-Negative : goal.overflow_cast-result-in-Negative
overflow_cast-result-in-Negative c =
    let h = holds_here c.args.self.now tags.Negative _ c.in-Negative.is c.payload-payload.ensures in
    omega (arith, c.magnitude-in-Negative.ensures, h.1.1, h.1.2)

pub unreachable-requires : goal.unreachable-requires
unreachable-requires c = time_is (blank_table c.args.self.now.last) _ (shown (blank_table c.args.self.now.last) c.args.self.now) c.in-None.ensures (holds_here c.args.self.now tags.Time _ c.in-Time.is c.payload-payload.ensures)

pub magnitude-requires-in-Symbol : goal.magnitude-requires-in-Symbol
magnitude-requires-in-Symbol c =
    let h = holds_here c.args.self.now tags.Symbol _ c.in-Symbol.is c.payload-payload.ensures in
    omega (arith, h.0)

pub overflow_cast-result-in-Symbol : goal.overflow_cast-result-in-Symbol
overflow_cast-result-in-Symbol c =
    let h = symbol_within c.args.self.now.last _ _ (holds_here c.args.self.now tags.Symbol _ c.in-Symbol.is c.payload-payload.ensures) in
    omega (arith, c.magnitude-in-Symbol.ensures, h.1)

pub from_utf8_unchecked-requires : goal.from_utf8_unchecked-requires
from_utf8_unchecked-requires c = (holds_here c.args.self.now tags.Text _ c.in-Text.is c.payload-payload.ensures).0

pub of_bytes-requires : goal.of_bytes-requires
of_bytes-requires c = items_legal c.args.self.now.last _ _ (holds_here c.args.self.now tags.List _ c.in-List.is c.payload-payload.ensures)

pub of_bytes-requires-in-Struct : goal.of_bytes-requires-in-Struct
of_bytes-requires-in-Struct c = pairs_legal c.args.self.now.last _ _ (holds_here c.args.self.now tags.Struct _ c.in-Struct.is c.payload-payload.ensures)

pub returns-in-Null-clause-value : goal.returns-in-Null-clause-value
returns-in-Null-clause-value c table h = sym (holds_in c.args.self.now tags.Null _ c.in-Null.is c.payload-payload.ensures table h)

pub returns-in-Null-clause-symbol : goal.returns-in-Null-clause-symbol
returns-in-Null-clause-symbol c = ap (option_map magnitude) (symbol_here c.args.self.now tags.Null _ c.in-Null.is c.payload-payload.ensures)

pub returns-in-False-clause-value : goal.returns-in-False-clause-value
returns-in-False-clause-value c table h = sym (holds_in c.args.self.now tags.False _ c.in-False.is c.payload-payload.ensures table h)

pub returns-in-False-clause-symbol : goal.returns-in-False-clause-symbol
returns-in-False-clause-symbol c = ap (option_map magnitude) (symbol_here c.args.self.now tags.False _ c.in-False.is c.payload-payload.ensures)

pub returns-in-True-clause-value : goal.returns-in-True-clause-value
returns-in-True-clause-value c table h = sym (holds_in c.args.self.now tags.True _ c.in-True.is c.payload-payload.ensures table h)

pub returns-in-True-clause-symbol : goal.returns-in-True-clause-symbol
returns-in-True-clause-symbol c = ap (option_map magnitude) (symbol_here c.args.self.now tags.True _ c.in-True.is c.payload-payload.ensures)

pub returns-in-Whole-clause-value : goal.returns-in-Whole-clause-value
returns-in-Whole-clause-value c table h =
    let w = holds_in c.args.self.now tags.Whole _ c.in-Whole.is c.payload-payload.ensures table h in
    rw (c.magnitude.ensures, whole_is _ w.1) (sym w.2)

pub returns-in-Whole-clause-symbol : goal.returns-in-Whole-clause-symbol
returns-in-Whole-clause-symbol c = ap (option_map magnitude) (symbol_here c.args.self.now tags.Whole _ c.in-Whole.is c.payload-payload.ensures)

pub returns-in-Negative-clause-value : goal.returns-in-Negative-clause-value
returns-in-Negative-clause-value c table h =
    let w = holds_in c.args.self.now tags.Negative _ c.in-Negative.is c.payload-payload.ensures table h in
    let m : c.magnitude-in-Negative.result - 1 ≡ w.1.0 = omega (arith, c.magnitude-in-Negative.ensures, w.1.1) in
    rw (m, below_zero_is w.1.0 w.1.2) (sym w.1.3)

pub returns-in-Negative-clause-symbol : goal.returns-in-Negative-clause-symbol
returns-in-Negative-clause-symbol c = ap (option_map magnitude) (symbol_here c.args.self.now tags.Negative _ c.in-Negative.is c.payload-payload.ensures)

pub returns-in-Some-clause-value : goal.returns-in-Some-clause-value
returns-in-Some-clause-value c table h =
    let d = time_denotes table _ _ _ c.in-Some.ensures (holds_in c.args.self.now tags.Time _ c.in-Time.is c.payload-payload.ensures table h) in
    let fits : FitsSigned w64 c.in-Some.micros = omega (arith, signed_arith, d.1.0, d.1.1) in
    rw (to_z-of_z {w = w64} fits) d.0

pub returns-in-Some-clause-symbol : goal.returns-in-Some-clause-symbol
returns-in-Some-clause-symbol c = ap (option_map magnitude) (symbol_here c.args.self.now tags.Time _ c.in-Time.is c.payload-payload.ensures)

pub returns-in-Some-clause-within : goal.returns-in-Some-clause-within
returns-in-Some-clause-within c =
    let d = time_denotes (blank_table c.args.self.now.last) _ _ _ c.in-Some.ensures (holds_here c.args.self.now tags.Time _ c.in-Time.is c.payload-payload.ensures) in
    let fits : FitsSigned w64 c.in-Some.micros = omega (arith, signed_arith, d.1.0, d.1.1) in
    rw (to_z-of_z {w = w64} fits) d.1

pub returns-in-Symbol-clause-value : goal.returns-in-Symbol-clause-value
returns-in-Symbol-clause-value c table h =
    symbol_named table _ _ _ c.magnitude-in-Symbol.ensures (holds_in c.args.self.now tags.Symbol _ c.in-Symbol.is c.payload-payload.ensures table h)

pub returns-in-Symbol-clause-symbol : goal.returns-in-Symbol-clause-symbol
returns-in-Symbol-clause-symbol c =
    rw c.magnitude-in-Symbol.ensures (ap (option_map magnitude) (symbol_here c.args.self.now tags.Symbol _ c.in-Symbol.is c.payload-payload.ensures))

pub returns-in-Symbol-clause-within : goal.returns-in-Symbol-clause-within
unfolding cell_last
returns-in-Symbol-clause-within c =
    rw c.magnitude-in-Symbol.ensures (symbol_within c.args.self.now.last _ _ (holds_here c.args.self.now tags.Symbol _ c.in-Symbol.is c.payload-payload.ensures))

pub returns-in-Text-clause-value : goal.returns-in-Text-clause-value
returns-in-Text-clause-value c table h =
    let w = holds_in c.args.self.now tags.Text _ c.in-Text.is c.payload-payload.ensures table h in
    rw c.from_utf8_unchecked.ensures (sym w.1)

pub returns-in-Text-clause-symbol : goal.returns-in-Text-clause-symbol
returns-in-Text-clause-symbol c = ap (option_map magnitude) (symbol_here c.args.self.now tags.Text _ c.in-Text.is c.payload-payload.ensures)

pub returns-in-List-clause-value : goal.returns-in-List-clause-value
returns-in-List-clause-value c table h =
    items_denote table _ _ _ (c.of_bytes.ensures.values table) (holds_in c.args.self.now tags.List _ c.in-List.is c.payload-payload.ensures table h)

pub returns-in-List-clause-symbol : goal.returns-in-List-clause-symbol
returns-in-List-clause-symbol c = ap (option_map magnitude) (symbol_here c.args.self.now tags.List _ c.in-List.is c.payload-payload.ensures)

pub returns-in-List-clause-within : goal.returns-in-List-clause-within
unfolding cell_last
returns-in-List-clause-within c = c.of_bytes.ensures.last

pub returns-in-Struct-clause-value : goal.returns-in-Struct-clause-value
returns-in-Struct-clause-value c table h =
    pairs_denote table _ _ _ (c.of_bytes-in-Struct.ensures.pairs table) (holds_in c.args.self.now tags.Struct _ c.in-Struct.is c.payload-payload.ensures table h)

pub returns-in-Struct-clause-symbol : goal.returns-in-Struct-clause-symbol
returns-in-Struct-clause-symbol c = ap (option_map magnitude) (symbol_here c.args.self.now tags.Struct _ c.in-Struct.is c.payload-payload.ensures)

pub returns-in-Struct-clause-within : goal.returns-in-Struct-clause-within
unfolding cell_last
returns-in-Struct-clause-within c = c.of_bytes-in-Struct.ensures.last
