use Rattle.std.proofs.lemmas.List.Sorted.{IsPermutation-map}
use Rattle.agg_meaning.proofs.Filters.{filter-shuffled}
use Rattle.made_meaning.specs.OverGroups.{groups, over}
use Rattle.made_meaning.specs.MadeRows.{has_true, made_group}
use Rattle.group_out.specs.Rows.{keyed}
use Rattle.group_out.proofs.order_of_groups_is_free.Goals as goal

pub returns : goal.returns
returns c q all gs same =
    let kept = filter-shuffled (λ g. has_true q.having (over q g)) (groups q.keys all) gs same in
    IsPermutation-map keyed _ _ (IsPermutation-map (made_group q) _ _ kept)
