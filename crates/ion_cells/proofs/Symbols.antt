-- Which numbers have a text under a table with this last number.
use Rattle.std.proofs.Common.{◌≡◌, ℕ, ◌-◌, ◌<◌, ◌≤◌, Bool, true, false, length, refl, arith}
use Rattle.std.specs.Prelude.{is_some, nat_le, ◌&&◌}
use Rattle.std.proofs.lemmas.Bool.Decides.{nat_tests}
use Rattle.block_meaning.specs.Tables.{text_of}
use Rattle.block_meaning.specs.CellReading.{blank_table}
use Rattle.block_meaning.proofs.Symbols.{text_of_some, text_of_below, text_of_above}
use Rattle.block_meaning.proofs.LastSymbol.{length_blank}

pub symbol_is : (last n : ℕ) → is_some (text_of (blank_table last) n) ≡ (nat_le 10 n && nat_le n last)
symbol_is last n = go (nat_le 10 n) (nat_le n last) refl refl
  where
    size : length (blank_table last) ≡ last - 9
    size = length_blank last

    go : (a b : Bool) → nat_le 10 n ≡ a → nat_le n last ≡ b → is_some (text_of (blank_table last) n) ≡ (a && b)
    go false b e f =
        let low : n < 10 = grind (arith, nat_tests) in
        rw (text_of_below (blank_table last) n low) refl
    go true false e f =
        let low : 10 ≤ n = grind (arith, nat_tests) in
        let high : last < n = grind (arith, nat_tests) in
        rw (text_of_above (blank_table last) n (omega (arith, size))) refl
    go true true e f =
        let low : 10 ≤ n = grind (arith, nat_tests) in
        let high : n ≤ last = grind (arith, nat_tests) in
        rw (text_of_some (blank_table last) n low (omega (arith, size))).1 refl
