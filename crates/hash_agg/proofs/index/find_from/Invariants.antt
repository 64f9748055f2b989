use Rattle.std.proofs.Common.{◌≡◌, take, map, None}
use Rattle.hash_agg.specs.Groups.{partials_at}
use Rattle.hash_agg.specs.Entries.{entry_of}
use Rattle.hash_agg.proofs.index.find_from.Given as goal

abbrev pub invariant-loop-i : goal.invariant-loop-i
invariant-loop-i w l = partials_at (w.K.RowKeys.values l.keys) (take l.i (map entry_of l.all)) ≡ None
