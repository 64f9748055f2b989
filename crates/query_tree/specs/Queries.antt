-- What the code's queries stand for.
use Rattle.query_tree.specs.declared.query.Query.{Query as QueryCode}
use Rattle.query_tree.specs.declared.query.Outputs.{Outputs}
use Rattle.query_tree.specs.declared.query.Outputs.TheVariants as of
use Rattle.tree_meaning.specs.Tree.{Outs, star, named, Query}

abbrev pub outs_view : Outputs → Outs
outs_view of.Star = star
outs_view (of.Named items) = named items

abbrev pub query_view : QueryCode → Query
query_view q =
    record {
      outs = outs_view q.outputs;
      source = q.source;
      alias = q.alias;
      filter = q.filter;
      keys = q.keys;
      having = q.having;
      order = q.order;
      take = q.take;
      skip = q.skip;
    }
