use Rattle.std.proofs.Common.{refl, ap, sym, arith, length, ◌∙◌, ◌++◌, ◌+◌}
use Rattle.file_meaning.specs.Files.{StandEndToEnd, index_bytes, tail_bytes}
use Rattle.pack_blocks.proofs.Files.{listed_count, stands}
use Rattle.pack_blocks.proofs.Writing.{finished}
use Rattle.pack_blocks.proofs.writer.BlockWriter.finish.Goals as goal

pub write_index-requires-clause-few : goal.write_index-requires-clause-few
write_index-requires-clause-few c =
    let g = c.requires in
    let h = c.in_ok-bytes.ensures g.most g.done g.given g.is in
    omega (arith, ap length c.as_slice.ensures, listed_count _ g.most g.done _ _ h.all, g.is.may.few)

pub write_index-requires-clause-stand : goal.write_index-requires-clause-stand
write_index-requires-clause-stand c =
    let g = c.requires in
    let h = c.in_ok-bytes.ensures g.most g.done g.given g.is in
    rw (c.as_slice.ensures, h.written) (stands _ g.most g.done _ _ g.is.may h.all)

pub overflow_cast-result : goal.overflow_cast-result
overflow_cast-result c =
    let g = c.requires in
    let h = c.in_ok-bytes.ensures g.most g.done g.given g.is in
    record { fits = omega (arith, c.len.ensures, listed_count _ g.most g.done _ _ h.all, g.is.may.few) }

pub returns : goal.returns
returns c =
    finished _ c.args.self c.close_last.new.self c.in_ok-bytes.bytes _ c.in_ok-bytes.ensures
    (c.in_ok-write_index.ensures.added ∙ ap (λ es. c.in_ok-bytes.bytes ++ (index_bytes c.name_of.result.now es ++ tail_bytes c.close_last.new.self.written)) c.as_slice.ensures
    ∙ ap (λ n. c.in_ok-bytes.bytes ++ (index_bytes n c.close_last.new.self.entries ++ tail_bytes c.close_last.new.self.written)) c.name_of.ensures)
    refl c.len.ensures (ap (λ n. c.args.self.written + n) c.len-2.ensures)
