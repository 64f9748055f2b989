use Rattle.std.proofs.Common.{sym, subst, FitsSigned, w64, rules}
use Rattle.std.proofs.lemmas.Int.{to_z-of_z}
use Rattle.file_meaning.specs.Files.{Entry}
use Rattle.range_meaning.specs.declared.Bounds.{Bounds}
use Rattle.range_meaning.specs.declared.Bounds.TheVariants.{Between}
use Rattle.range_meaning.specs.Excluded.{IsExcluded}
use Rattle.time_index.proofs.Apart.{apart_is, apart_was}
use Rattle.time_index.proofs.excluding.excluded.Goals as goal

pub returns-in-Between : goal.returns-in-Between
returns-in-Between c =
    let f : FitsSigned w64 c.entry.inside.least = search rules in
    let g : FitsSigned w64 c.entry.inside.greatest = search rules in
    let h : FitsSigned w64 c.in-Between.low = search rules in
    let k : FitsSigned w64 c.in-Between.high = search rules in
    let exact = simp to_z-of_z at c.are_apart.ensures in
    let low = c.in-Between.low in
    let high = c.in-Between.high in
    let entry : Entry = record { start = c.entry.inside.start; length = c.entry.inside.length; rows = c.entry.inside.rows; least = c.entry.inside.least; greatest = c.entry.inside.greatest } in (
      λ t. subst (λ (b : Bounds). IsExcluded c.args.entry.now b) (sym c.in-Between.is) (subst (λ (e : Entry). IsExcluded e (Between low high)) c.entry.view_is (apart_is entry low high (exact.0 t))),
      λ x. exact.1 (apart_was entry low high (subst (λ (e : Entry). IsExcluded e (Between low high)) (sym c.entry.view_is) (subst (λ (b : Bounds). IsExcluded c.args.entry.now b) c.in-Between.is x))),
    )
