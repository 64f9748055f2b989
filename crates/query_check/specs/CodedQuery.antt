-- The code of queries, by which a proof tells them apart.
use Rattle.std.specs.Prelude.{◌≡◌, ℕ, List, Bool, Option, Some, None, refl}
use Rattle.std.specs.Coded.{Coded, code_by, coded×, coded_option, coded_list, coded_ℕ, coded_bool}
use Rattle.tree_meaning.specs.Tree.{Ex, Outs, star, named, Query}
use Rattle.tree_meaning.specs.Code.{coded_ex}

abbrev pub of_outs : Outs → Option (List (Ex × Option (List ℕ)))
of_outs star = None
of_outs (named items) = Some items

abbrev pub to_outs : Option (List (Ex × Option (List ℕ))) → Outs
to_outs None = star
to_outs (Some items) = named items

pub outs_back : (o : Outs) → to_outs (of_outs o) ≡ o
outs_back star = refl
outs_back (named items) = refl

abbrev coded_outs : Coded Outs
coded_outs =
    code_by (Option (List (Ex × Option (List ℕ)))) (coded_option (coded_list (coded× coded_ex (coded_option (coded_list coded_ℕ))))) of_outs to_outs outs_back

abbrev Parts : Type 0
Parts = Outs × (List ℕ × (Option (List ℕ) × (Option Ex × (List Ex × (Option Ex × (List (Ex × Bool) × (Option ℕ × ℕ)))))))

abbrev coded_parts : Coded Parts
coded_parts =
    coded× coded_outs (coded× (coded_list coded_ℕ) (coded× (coded_option (coded_list coded_ℕ)) (coded× (coded_option coded_ex) (coded× (coded_list coded_ex) (coded× (coded_option coded_ex) (coded× (coded_list (coded× coded_ex coded_bool)) (coded× (coded_option coded_ℕ) coded_ℕ)))))))

abbrev of_query : Query → Parts
of_query q = (q.outs, (q.source, (q.alias, (q.filter, (q.keys, (q.having, (q.order, (q.take, q.skip))))))))

abbrev to_query : Parts → Query
to_query p =
    record {
      outs = p.0;
      source = p.1.0;
      alias = p.1.1.0;
      filter = p.1.1.1.0;
      keys = p.1.1.1.1.0;
      having = p.1.1.1.1.1.0;
      order = p.1.1.1.1.1.1.0;
      take = p.1.1.1.1.1.1.1.0;
      skip = p.1.1.1.1.1.1.1.1;
    }

abbrev pub coded_query : Coded Query
coded_query = code_by Parts coded_parts of_query to_query (λ _. refl)
