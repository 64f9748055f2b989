use Rattle.std.proofs.Common.{sym, subst}
use Rattle.snel_device.specs.Contents.{Extends}
use Rattle.json_pack.proofs.Fronts.{extends_none, no_bytes}
use Rattle.json_pack.proofs.appending.put_piece.Goals as goal

pub returns-then-is_empty-clause-grown : goal.returns-then-is_empty-clause-grown
returns-then-is_empty-clause-grown g c =
    subst (λ p. Extends (g.F.Files.told c.args.files.now) (g.F.Files.told c.args.files.now) c.args.name.now p) (sym (no_bytes _ _ c.is_empty.ensures c.if-is_empty.true)) (extends_none _ _)
