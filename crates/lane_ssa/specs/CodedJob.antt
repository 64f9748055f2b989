-- The code of jobs and ends, by which a proof tells them apart.
use Rattle.std.specs.Prelude.{ℕ, List, Bool, Option, refl}
use base.Stored.{gnum}
use Rattle.std.specs.Coded.{Coded, code_by, coded×, coded_option, coded_list, coded_ℕ, coded_bool}
use Rattle.tree_meaning.specs.declared.AggName.{AggName}
use Rattle.tree_meaning.specs.Code.{aggs_number, aggs_inj}
use Rattle.program_meaning.specs.Code.{coded_instr}
use Rattle.program_meaning.specs.Instructions.{Instr}
use Rattle.program_meaning.specs.Jobs.{Ends, Job}

abbrev pub coded_agg : Coded AggName
coded_agg = record { code = λ x. gnum (aggs_number x); inj = aggs_inj }

abbrev pub coded_aggs : Coded (List (AggName × Option ℕ))
coded_aggs = coded_list (coded× coded_agg (coded_option coded_ℕ))

abbrev pub coded_outs : Coded (List (List ℕ × ℕ))
coded_outs = coded_list (coded× (coded_list coded_ℕ) coded_ℕ)

abbrev Parts : Type 0
Parts = ℕ × (Bool × (Bool × (List (List ℕ × ℕ) × (List ℕ × (List ℕ × List (AggName × Option ℕ))))))

abbrev coded_parts : Coded Parts
coded_parts = coded× coded_ℕ (coded× coded_bool (coded× coded_bool (coded× coded_outs (coded× (coded_list coded_ℕ) (coded× (coded_list coded_ℕ) coded_aggs)))))

abbrev of_ends : Ends → Parts
of_ends e = (e.keep, (e.star, (e.grouped, (e.outs, (e.sorts, (e.groups, e.aggs))))))

abbrev to_ends : Parts → Ends
to_ends p =
    record {
      keep = p.0;
      star = p.1.0;
      grouped = p.1.1.0;
      outs = p.1.1.1.0;
      sorts = p.1.1.1.1.0;
      groups = p.1.1.1.1.1.0;
      aggs = p.1.1.1.1.1.1;
    }

abbrev pub coded_ends : Coded Ends
coded_ends = code_by Parts coded_parts of_ends to_ends (λ _. refl)

abbrev pub coded_job : Coded Job
coded_job = code_by (List Instr × Ends) (coded× (coded_list coded_instr) coded_ends) (λ j. (j.program, j.ends)) (λ p. record { program = p.0; ends = p.1 }) (λ _. refl)
