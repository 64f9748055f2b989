-- The values of groups.
use Rattle.std.proofs.Common.{◌≡◌, List, [], ◌∷◌, map, ◌∙◌, refl, ap, arith}
use Rattle.std.proofs.lemmas.List.Elements.{All-tail}
use Rattle.value_meaning.specs.Val.{Val}
use Rattle.tree_meaning.specs.declared.AggName.{AggName}
use Rattle.agg_meaning.specs.Partials.{finished}
use Rattle.hash_agg.specs.Groups.{values_of, aggregates_of, partials_of}
use Rattle.hash_agg.proofs.GroupLaws.{values_are_aggregates}
use Rattle.agg_laws.specs.declared.any_part.AnyPart.{AnyPart}
use Rattle.agg_laws.specs.Parts.{part_name, part_kept}
use Rattle.hash_agg.specs.declared.group.Group.{Group}
use Rattle.hash_agg.specs.Entries.{entry_of, names_of}
use Rattle.hash_agg.specs.Finished.{finished_row, row_of}
use Rattle.hash_agg.proofs.Rows.{HaveNames}

abbrev pub part_value : AnyPart → Val
part_value p = finished (part_name p) (part_kept p)

pub all_values : (parts : List AnyPart) → map part_value parts ≡ values_of (map part_name parts) (map part_kept parts)
all_values [] = refl
all_values (p ∷ ps) = ap (λ l. part_value p ∷ l) (all_values ps)

pub all_rows : (names : List AggName) (all : List Group) → HaveNames names all → map finished_row all ≡ map (row_of names) (map entry_of all)
all_rows names [] h = refl
all_rows names (g ∷ gs) h =
    let here : names_of g ≡ names = h 0 g (omega arith) in
    λ i. (g.keys, values_of (here i) (map part_kept g.parts.items)) ∷ all_rows names gs (All-tail (λ (x : Group). names_of x ≡ names) g gs h) i

-- the values of the partials of no rows
pub empty_values : (names : List AggName) (slice parts : List AnyPart) (vs : List Val) → slice ≡ parts → map part_name parts ≡ names → map part_kept parts ≡ partials_of names [] → vs ≡ values_of (map part_name slice) (map part_kept slice) → vs ≡ aggregates_of names []
empty_values names slice parts vs e n s is =
    is ∙ ap (λ l. values_of (map part_name l) (map part_kept l)) e ∙ (λ i. values_of (n i) (s i)) ∙ values_are_aggregates names []
