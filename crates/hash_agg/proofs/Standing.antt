-- Groups stand for the rows that were added.
use Rattle.std.proofs.Common.{◌≡◌, List, [], ◌∷◌, ◌++◌, length, Some, refl, sym, ap, subst, arith}
use Rattle.value_meaning.specs.Val.{Val}
use Rattle.tree_meaning.specs.declared.AggName.{AggName}
use Rattle.agg_meaning.specs.Keys.{same_keys}
use Rattle.hash_agg.specs.Groups.{partials_of, GroupsStandFor}
use Rattle.hash_agg.proofs.GroupLaws.{groups_merged}
use Rattle.agg_laws.specs.declared.seen.Seen.{Seen}
use Rattle.agg_laws.proofs.Adding.{shown_alone}
use Rattle.hash_agg.specs.Items.{ShowsAll, alone_all}
use Rattle.hash_agg.specs.Laws.{AddingStands, JoiningStands}
use Rattle.hash_agg.proofs.Places.{by_test}

-- the partials of one row are those of what is shown of it
row_states : (names : List AggName) (items : List Seen) (vs : List Val) → length items ≡ length names → ShowsAll items vs → partials_of names (vs ∷ []) ≡ alone_all names items
row_states [] items vs e s = refl
row_states (n ∷ ns) [] vs e s = absurd (omega arith)
row_states (n ∷ ns) (x ∷ xs) [] e s = absurd s
row_states (n ∷ ns) (x ∷ xs) (v ∷ vs) e s = λ i. shown_alone n x v s.0 i ∷ row_states ns xs vs (omega arith) s.1 i

one_stands : (names : List AggName) (keys : List Val) (items : List Seen) (vs : List Val) → length items ≡ length names → ShowsAll items vs → GroupsStandFor names ((keys, alone_all names items) ∷ []) ((keys, vs) ∷ [])
one_stands names keys items vs e s ks = by_test (same_keys ks keys)
    (λ t. rw t (ap Some (sym (row_states names items vs e s))))
    (λ t. rw t refl)

pub adding : AddingStands
adding old new keys items vs rows e s joins stands =
    subst (λ ns. GroupsStandFor ns new.entries (rows ++ (keys, vs) ∷ [])) (sym joins.names)
    (groups_merged old.names old.entries ((keys, alone_all old.names items) ∷ []) new.entries joins.entries rows ((keys, vs) ∷ []) stands (one_stands old.names keys items vs e s))

pub joining : JoiningStands
joining old other new rows more e joins stands others =
    subst (λ ns. GroupsStandFor ns new.entries (rows ++ more)) (sym joins.names)
    (groups_merged old.names old.entries other.entries new.entries joins.entries rows more stands (subst (λ ns. GroupsStandFor ns other.entries more) e others))
