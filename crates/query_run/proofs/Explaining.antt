-- How explaining a text may end.
use Rattle.std.proofs.Common.{◌≡◌, ◌⊎◌, inl, inr, ℕ, List, [], take, drop, Option, refl, sym, subst, ◌∙◌, arith, take-append-drop}
use Rattle.std.proofs.lemmas.List.{append-nil}
use Rattle.std.specs.Io.KnownBytes.{Appends}
use Rattle.tree_meaning.specs.Tree.{Query}
use Rattle.program_meaning.specs.Jobs.{Job}
use Rattle.program_meaning.specs.Simulation.{Simulates}
use Rattle.plan_lower.specs.Listing.{listing_text}
use Rattle.query_run.specs.declared.query_fault.QueryFault.{QueryFault}
use Rattle.query_run.specs.declared.query_fault.QueryFault.TheVariants.{Text, Absent, NotAFile, Damaged, Groups, ReadFault, WriteFault, OutOfMemory}
use Rattle.query_run.specs.Queries.{Accepts}
use Rattle.query_run.specs.Jobs.{Compiles}
use Rattle.query_run.specs.Statuses.{status_of}
use Rattle.query_run.specs.Faults.{SaysOfText}
use Rattle.query_run.specs.Explained.{EndsExplained}
use Rattle.query_run.proofs.Accepted.{one_accepted, not_both, compiled_is_accepted}
use Rattle.query_run.proofs.Sink.{Keeps-same}

neither : {A : Type 0} (n : ℕ) → (n ≡ 0 → ⊥) → (n ≡ 9 → ⊥) → (n ≡ 0) ⊎ (n ≡ 9) → A
neither n done cut (inl e) = absurd (done e)
neither n done cut (inr e) = absurd (cut e)

-- a text that isn't compiled: nothing was put
pub not_compiled : (sql : List ℕ) (fault : QueryFault) (a : Option (List ℕ)) → SaysOfText sql fault → EndsExplained sql (status_of fault) a a
not_compiled sql (Text f) a h = record {
  only = refl;
  refused = λ r. refl;
  accepted = λ k. absurd (not_both sql _ k h);
  listed = λ q k e. neither 3 (λ z. omega arith) (λ z. omega arith) e;
  quiet = λ x y. Keeps-same a;
}
not_compiled sql OutOfMemory a h = record {
  only = refl;
  refused = λ r. refl;
  accepted = λ k. refl;
  listed = λ q k e. neither 10 (λ z. omega arith) (λ z. omega arith) e;
  quiet = λ x y. Keeps-same a;
}
not_compiled sql (Absent k) a h = absurd h
not_compiled sql (NotAFile k) a h = absurd h
not_compiled sql (Damaged f b) a h = absurd h
not_compiled sql Groups a h = absurd h
not_compiled sql ReadFault a h = absurd h
not_compiled sql WriteFault a h = absurd h

module _ (sql : List ℕ) (job : Job) (compiles : Compiles sql job) (old new : Option (List ℕ)) (piece : List ℕ) (is : piece ≡ listing_text job) where
  simulates : (q : Query) → Accepts sql q → Simulates job q
  simulates q accepts = let same = one_accepted sql compiles.q q compiles.accepts accepts in subst (λ (x : Query). Simulates job x) same compiles.simulates

  -- the whole listing was put
  pub whole_listing : Appends old new piece → EndsExplained sql 0 old new
  whole_listing h = record {
    only = refl;
    refused = λ r. absurd (not_both sql r.0 (compiled_is_accepted sql job compiles) r.1);
    accepted = λ k. refl;
    listed = λ q accepts e. record {
      job = job;
      simulates = simulates q accepts;
      added = piece;
      appends = h;
      whole = λ z. is;
      front = ([], sym is ∙ sym (append-nil piece));
    };
    quiet = λ x y. absurd (x refl);
  }

  -- some of it was put
  pub cut_listing : (n : ℕ) → Appends old new (take n piece) → EndsExplained sql 9 old new
  cut_listing n h = record {
    only = refl;
    refused = λ r. absurd (not_both sql r.0 (compiled_is_accepted sql job compiles) r.1);
    accepted = λ k. refl;
    listed = λ q accepts e. record {
      job = job;
      simulates = simulates q accepts;
      added = take n piece;
      appends = h;
      whole = λ z. absurd (omega arith);
      front = (drop n piece, sym is ∙ sym (take-append-drop n piece));
    };
    quiet = λ x y. absurd (y refl);
  }
