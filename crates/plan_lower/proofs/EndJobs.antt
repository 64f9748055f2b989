-- From the registers of a program to what a job shows.
use Rattle.std.proofs.Common.{◌≡◌, ℕ, ◌<◌, Bool, true, ◌&&◌, if◌then◌else◌, List, [], ◌∷◌, map, length, All, refl, ap, sym, subst, ◌∙◌, arith}
use Rattle.std.proofs.Math.ListN.{get_or-map}
use Rattle.std.proofs.lemmas.List.{length-map}
use Rattle.tree_meaning.specs.Tree.{Ex, Query}
use Rattle.check_meaning.specs.Places.{output_exs}
use Rattle.check_meaning.specs.Aggregates.{aggregates, is_grouped}
use Rattle.eval_meaning.specs.Pair.{Pair}
use Rattle.eval_meaning.specs.Evaluation.{eval}
use Rattle.eval_meaning.specs.Passed.{is_kept}
use Rattle.program_meaning.specs.Instructions.{Instr}
use Rattle.program_meaning.specs.Instructions as instr
use Rattle.program_meaning.specs.Programs.{mask_count, value_count, IsProgram}
use Rattle.program_meaning.specs.Registers.{Lane, live_lane, after, mask_at, value_at}
use Rattle.program_meaning.specs.Jobs.{Ends, Job, AreEnds}
use Rattle.program_meaning.specs.Simulation.{passes, if_ungrouped, if_grouped, order_exs, ShowsNamed, Simulates}
use Rattle.program_meaning.proofs.Persist.{mask_stays}
use Rattle.plan_lower.specs.Emitting.{Keeps}
use Rattle.plan_lower.specs.Ends.{registers_of, EmitsEnds}
use Rattle.plan_lower.proofs.Showing.{mask_known}

mapped_twice : {A B C : Type 0} (f : A → B) (g : B → C) (xs : List A) → map g (map f xs) ≡ map (λ x. g (f x)) xs
mapped_twice f g [] = refl
mapped_twice f g (x ∷ xs) = ap (λ l. g (f x) ∷ l) (mapped_twice f g xs)

is_nil : {A : Type 0} (xs : List A) → length xs ≡ 0 → xs ≡ []
is_nil [] h = refl
is_nil (x ∷ xs) h = absurd (omega (arith, h))

-- the program of all lanes and the row, then of WHERE, then of what the ends name
module _ (q : Query) (e : Ends) (p1 p2 p3 : List Instr) (keep : ℕ) (begun : p1 ≡ instr.all ∷ instr.root 0 ∷ []) (filtered : Keeps p1 p2 q.filter 0 keep) (emitted : EmitsEnds p2 p3 q keep e) where
  -- the lanes that pass
  kept_in : (l : Lane) → mask_at (after l p3) keep ≡ passes q l
  kept_in l =
      mask_stays l p2 p3 keep emitted.extends filtered.made
      ∙ filtered.mask l
      ∙ ap (λ (p : List Instr). mask_at (after l p) 0 && is_kept q.filter l.pair) begun

  shows_named : (p : Pair) → is_kept q.filter p ≡ true → ShowsNamed e q (after (live_lane p) p3) p
  shows_named p h =
      let l = live_lane p in
      let inside : mask_at (after l p2) keep ≡ true = sym (mask_stays l p2 p3 keep emitted.extends filtered.made) ∙ kept_in l ∙ h in
      record {
        outs = sym (mapped_twice (λ (o : List ℕ × ℕ). o.1) (λ r. value_at (after l p3) r) e.outs) ∙ emitted.outs.values l inside;
        sorts = emitted.sorts.values l inside;
        groups = emitted.groups.values l inside;
        aggs = emitted.aggs.values l inside;
      }

  outs_made : (os : List (List ℕ × ℕ)) → All (λ (r : ℕ). r < value_count p3) (registers_of os) → All (λ (o : List ℕ × ℕ). o.1 < value_count p3) os
  outs_made os h k d inside =
      subst (λ n. n < value_count p3) (get_or-map (λ (o : List ℕ × ℕ). o.1) os k d) (h k d.1 (omega (arith, inside, length-map os (λ (o : List ℕ × ℕ). o.1))))

  -- what stands in no grouped query
  none_of : (es : List Ex) → e.grouped ≡ true → length (if_ungrouped q es) ≡ 0
  none_of es h = ap (λ (b : Bool). length (if b then [] else es)) (sym emitted.grouped ∙ h)

  pub are_ends : AreEnds (mask_count p3) (value_count p3) e
  are_ends =
      record {
        keep = subst (λ k. k < mask_count p3) (sym emitted.keep) (mask_known p2 p3 keep emitted.extends filtered.made);
        outs = outs_made e.outs emitted.outs.made;
        sorts = emitted.sorts.made;
        groups = emitted.groups.made;
        aggs = emitted.aggs.made;
        no_outs = λ h. is_nil e.outs (sym (length-map e.outs (λ (o : List ℕ × ℕ). o.1)) ∙ emitted.outs.count ∙ none_of (output_exs q.outs) h);
        no_sorts = λ h. is_nil e.sorts (emitted.sorts.count ∙ none_of (order_exs q) h);
      }

  simulates_as : IsProgram p3 → Simulates (record { program = p3; ends = e }) q
  simulates_as program =
      record {
        is_job = record { program = program; ends = are_ends };
        star = emitted.star;
        grouped = emitted.grouped;
        names = emitted.names;
        sorts = emitted.sorts.count;
        groups = emitted.groups.count;
        aggs = emitted.aggs.forms;
        kept = λ l. ap (mask_at (after l p3)) emitted.keep ∙ kept_in l;
        shows = shows_named;
      }

  job_is : (job : Job) → job.program ≡ p3 → job.ends ≡ e → record { program = p3; ends = e } ≡ job
  job_is job p is = λ i. record { program = sym p i; ends = sym is i }

  pub simulates : (job : Job) → IsProgram p3 → job.program ≡ p3 → job.ends ≡ e → Simulates job q
  simulates job program p is = subst (λ j. Simulates j q) (job_is job p is) (simulates_as program)
