use Rattle.std.proofs.Common.{◌≡◌, refl, ℕ, List, length, ap, sym, ◌∙◌, Option, Some, subst}
use Rattle.std.specs.Prelude.{slice_get}
use Rattle.std.specs.Vec.{with_items}
use Rattle.std.specs.Option.{ForSome}
use Rattle.std.proofs.lemmas.List.{with_items_is}
use Rattle.snel_device.specs.Contents.{Contents}
use Rattle.file_meaning.specs.Files.{Entry}
use Rattle.scan_meaning.specs.Blocks.{Place, Block}
use Rattle.scan_files.specs.Places.{block_at}
use Rattle.scan_files.proofs.Blocks.{within, is_block, same_block}
use Rattle.scan_files.proofs.read.read_block.Goals as goal

pub read_at-requires : goal.read_at-requires
read_at-requires g c =
    let at = ap (λ (p : Place). slice_get c.args.names.now p.file) (sym c.place.view_is) ∙ sym c.in-Some.ensures in
    let start = ap (λ (e : Entry). e.start) c.entry.view_is ∙ ap (λ (p : Place). p.entry.start) c.place.view_is in
    let long = c.deref_mut.ensures.len ∙ c.in-Ok.ensures.len ∙ ap (λ (e : Entry). e.length) c.entry.view_is ∙ ap (λ (p : Place). p.entry.length) c.place.view_is in
    within _ c.args.names.now c.args.place.now _ _ _ at start long c.requires.placed

pub returns-in-Ok-read_at-clause-block : goal.returns-in-Ok-read_at-clause-block
returns-in-Ok-read_at-clause-block g c =
    let at = ap (λ (p : Place). slice_get c.args.names.now p.file) (sym c.place.view_is) ∙ sym c.in-Some.ensures in
    let start = ap (λ (e : Entry). e.start) c.entry.view_is ∙ ap (λ (p : Place). p.entry.start) c.place.view_is in
    let room = c.read_at.auto.into ∙ c.deref_mut.ensures.len in
    let long = room ∙ c.in-Ok.ensures.len ∙ ap (λ (e : Entry). e.length) c.entry.view_is ∙ ap (λ (p : Place). p.entry.length) c.place.view_is in
    same_block _ c.args.names.now c.args.place.now _ c.read_at.new.into _ c.place.view_is (with_items_is c.in-Ok.bytes c.read_at.new.into room)
    (is_block _ _ c.args.names.now c.args.place.now _ c.read_at.new.into _ at start long refl c.in-Ok-read_at.ensures.bytes)
