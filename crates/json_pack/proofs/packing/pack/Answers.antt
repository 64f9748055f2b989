use Rattle.pack_meaning.specs.Splitting.{lines_of}
use Rattle.json_rows.specs.LineViews.{settings_view}
use Rattle.json_pack.specs.Packs.{file_for}
use Rattle.json_pack.proofs.Fronts.{is_there, sets_all}
use Rattle.json_pack.proofs.Filling.{set_front, set_before}
use Rattle.json_pack.proofs.packing.pack.Goals as goal

pub fill-requires-clause-there : goal.fill-requires-clause-there
fill-requires-clause-there g c = is_there _ _ _ c.in-Ok.ensures.made

pub returns-in-Ok-clause-file : goal.returns-in-Ok-clause-file
returns-in-Ok-clause-file g c = sets_all c.fill.result _ _ _ _ _ (λ b. file_for (settings_view c.args.settings.now) (lines_of b)) c.in-Ok.ensures.made c.fill.ensures.file

pub returns-in-Ok-clause-before : goal.returns-in-Ok-clause-before
returns-in-Ok-clause-before g c = set_before c.fill.result _ _ _ _ _ _ c.in-Ok.ensures.made c.fill.ensures.before

pub returns-in-Ok-clause-front : goal.returns-in-Ok-clause-front
returns-in-Ok-clause-front g c = set_front c.fill.result _ _ _ _ _ _ c.in-Ok.ensures.made c.fill.ensures.front
