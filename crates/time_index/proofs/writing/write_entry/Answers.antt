use Rattle.std.proofs.Common.{◌≡◌, ◌++◌, ℤ, ap, ◌∙◌, subst, FitsSigned, to_z, of_z, rules}
use Rattle.std.proofs.lemmas.Int.{to_z-of_z}
use Rattle.std.specs.Int.{to_be_bytes, cast_unsigned, w32, w64}
use Rattle.file_meaning.specs.Files.{Entry, entry_bytes}
use Rattle.time_index.proofs.Pushed.{on_ok, five}
use Rattle.time_index.proofs.writing.write_entry.Goals as goal

pub returns : goal.returns
returns c =
    let old = c.args.into.now in
    let start = to_be_bytes w64 c.entry.inside.start in
    let long = to_be_bytes w32 c.entry.inside.length in
    let rows = to_be_bytes w32 c.entry.inside.rows in
    let least = to_be_bytes w64 (cast_unsigned w64 c.entry.inside.least) in
    let greatest = to_be_bytes w64 (cast_unsigned w64 c.entry.inside.greatest) in
    let n1 = c.put_u64.new.into in
    let n2 = c.put_u32.new.into in
    let n3 = c.put_u32-2.new.into in
    let n4 = c.put_i64.new.into in
    let n5 = c.put_i64-2.new.into in
    let f : FitsSigned w64 c.entry.inside.least = search rules in
    let g : FitsSigned w64 c.entry.inside.greatest = search rules in
    let signed = λ (z : ℤ). to_be_bytes w64 (cast_unsigned w64 z) in
    let fourth : n4 ≡ n3 ++ least = c.in_ok-put_i64.ensures ∙ ap (λ (z : ℤ). n3 ++ signed z) (to_z-of_z w64 c.entry.inside.least f) in
    let fifth = ap (λ (z : ℤ). n4 ++ signed z) (to_z-of_z w64 c.entry.inside.greatest g) in
    on_ok c.put_i64-2.result (n5 ≡ n4 ++ signed (to_z w64 (of_z w64 c.entry.inside.greatest))) (n5 ≡ old ++ entry_bytes c.args.entry.now)
    (λ last. subst (λ (e : Entry). n5 ≡ old ++ entry_bytes e) c.entry.view_is (five old start long rows least greatest n1 n2 n3 n4 n5 c.in_ok-put_u64.ensures c.in_ok-put_u32.ensures c.in_ok-put_u32-2.ensures fourth (last ∙ fifth)))
    c.put_i64-2.ensures
