use Rattle.query_tree.specs.Queries.{query_view}
use Rattle.sorted_rows.proofs.Sorting.{has_keys, enough_still, made_sorted}
use Rattle.sorted_rows.proofs.sort.sort_rows.Goals as goal

pub gather_all-requires-clause-takes : goal.gather_all-requires-clause-takes
gather_all-requires-clause-takes g c =
    λ lifetimes lives. has_keys c.args.job.now (query_view c.args.query.now) c.requires.simulates c.requires.ungrouped c.in-Ok.sink.top c.in-Ok.ensures

pub finish_cut-requires : goal.finish_cut-requires
finish_cut-requires g c =
    let all = c.in-Ok-gather_all.ensures.gathered in
    let grown = all.2.stand in
    record { enough = enough_still c.args.job.now (query_view c.args.query.now) c.requires.simulates c.requires.ungrouped c.in-Ok.sink.top c.in-Ok.ensures c.gather_all.new.sink.top grown.order grown.order grown.grew_by }

pub returns-in-Ok-finish_cut-clause-sorted : goal.returns-in-Ok-finish_cut-clause-sorted
returns-in-Ok-finish_cut-clause-sorted g c =
    let q = query_view c.args.query.now in
    let all = c.in-Ok-gather_all.ensures.gathered in
    let grown = all.2.stand in (
      all.0,
      all.1,
      record {
        good = all.2.good;
        arranged = made_sorted c.args.job.now q c.requires.simulates c.requires.ungrouped c.in-Ok.sink.top c.in-Ok.ensures c.gather_all.new.sink.top grown.order _ grown.grew_by grown.permutes c.in-Ok-finish_cut.rows c.in-Ok-finish_cut.ensures;
        few = all.2.few;
        chunks_are = all.2.chunks_are;
        kept_are = all.2.kept_are;
      },
    )
