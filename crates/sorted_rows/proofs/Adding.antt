-- First rows to which rows of a scan are added.
use Rattle.std.proofs.Common.{◌≡◌, ℕ, List, [], ◌∷◌, ◌++◌, map, sym, subst}
use Rattle.value_meaning.specs.Val.{Val}
use Rattle.program_meaning.specs.Jobs.{Job}
use Rattle.block_lines.specs.RowLines.{keyed_line, line_of}
use Rattle.order_limit.specs.Arranged.{Row}
use Rattle.order_limit.specs.Top.{Top, StandsFor}
use Rattle.order_limit.proofs.Standing.{standing_first}
use Rattle.sorted_rows.specs.Grown.{GrewBy, IsFresh}

-- one row more, put or known not to be among the first
pub one_more : (old new : Top) (job : Job) (row : Val) (keys : List Val) (line : List ℕ) → keys ≡ (keyed_line job row).0 → line ≡ line_of job row → new.falling ≡ old.falling → new.most ≡ old.most
    → ((rows : List Row) → StandsFor old rows → StandsFor new (rows ++ (keys, line) ∷ [])) → GrewBy old new job (row ∷ [])
one_more old new job row keys line k l f m stands = record {
  falling = f;
  most = m;
  stands = λ before h.
      let same : (keys, line) ≡ keyed_line job row = λ i. (k i, l i) in
      subst (λ (r : Row). StandsFor new (before ++ r ∷ [])) same (stands before h);
}

-- what another that was empty grew by
pub joined : (old new empty other : Top) (job : Job) (rows : List Val) → IsFresh old empty → GrewBy empty other job rows → new.falling ≡ old.falling → new.most ≡ old.most
    → ((before others : List Row) → StandsFor old before → StandsFor other others → StandsFor new (before ++ others)) → GrewBy old new job rows
joined old new empty other job rows fresh grew f m stands = record {
  falling = f;
  most = m;
  stands = λ before h. stands before (map (keyed_line job) rows) h (grew.stands [] (subst (λ t. StandsFor t []) (sym fresh) (standing_first old.falling old.most)));
}
