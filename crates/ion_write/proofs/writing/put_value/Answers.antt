use Rattle.std.proofs.lemmas.Result.{on_ok_weaker}
use Rattle.write_meaning.proofs.Encoded.{encodings_are_cells}
use Rattle.ion_write.proofs.writing.put_value.Goals as goal

pub returns-clause-cell : goal.returns-clause-cell
returns-clause-cell c =
    on_ok_weaker c.append_value.result (λ e. record {
      bytes = _;
      added = e;
      cell = encodings_are_cells _ 0 _ c.know.ensures c.requires.few c.know-2.ensures c.requires.writable c.requires.names c.requires.light;
    }) c.append_value.ensures
