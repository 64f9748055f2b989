-- First rows that grow by the rows of a scan.
use Rattle.std.proofs.Common.{◌≡◌, List, [], ◌++◌, map, length, refl, sym, ap, subst, ◌∙◌, append_assoc, append-nil}
use Rattle.std.proofs.lemmas.List.{map-append}
use Rattle.value_meaning.specs.Val.{Val}
use Rattle.program_meaning.specs.Jobs.{Job}
use Rattle.block_lines.specs.RowLines.{keyed_line}
use Rattle.order_limit.specs.Arranged.{Row}
use Rattle.order_limit.specs.Top.{Top, no_rows, StandsFor}

-- It has the flags and the limit of before, and stands for what it stood for with the sort keys and lines of these rows behind it.
pub record GrewBy (old new : Top) (job : Job) (rows : List Val) : Type 0 where
  pub falling : new.falling ≡ old.falling
  pub most : new.most ≡ old.most
  pub stands : (before : List Row) → StandsFor old before → StandsFor new (before ++ map (keyed_line job) rows)

-- rows of the job have as many sort keys as there are flags
abbrev pub HasKeysOf : Top → Job → Type 0
HasKeysOf t job = length job.ends.sorts ≡ length t.falling

-- the second is empty, with the flags and the limit of the first
abbrev pub IsFresh : Top → Top → Type 0
IsFresh t empty = empty ≡ no_rows t.falling t.most

pub grew_by_none : (t : Top) (job : Job) → GrewBy t t job []
grew_by_none t job = record {
  falling = refl;
  most = refl;
  stands = λ before h. subst (λ l. StandsFor t l) (sym (append-nil before)) h;
}

pub grew_by_both : (a b c : Top) (job : Job) (xs ys : List Val) → GrewBy a b job xs → GrewBy b c job ys → GrewBy a c job (xs ++ ys)
grew_by_both a b c job xs ys h k = record {
  falling = k.falling ∙ h.falling;
  most = k.most ∙ h.most;
  stands = λ before s.
      let f = keyed_line job in
      let all : (before ++ map f xs) ++ map f ys ≡ before ++ map f (xs ++ ys) =
      append_assoc before (map f xs) (map f ys) ∙ ap (λ l. before ++ l) (sym (map-append f xs ys)) in
      subst (λ l. StandsFor c l) all (k.stands (before ++ map f xs) (h.stands before s));
}

pub takes_more : (a b : Top) (job : Job) (rows : List Val) → HasKeysOf a job → GrewBy a b job rows → HasKeysOf b job
takes_more a b job rows h k = h ∙ ap length (sym k.falling)

pub fresh_takes : (t empty : Top) (job : Job) → HasKeysOf t job → IsFresh t empty → HasKeysOf empty job
fresh_takes t empty job h k = h ∙ ap (λ (x : Top). length x.falling) (sym k)

pub begins_still : (a b empty : Top) (job : Job) (rows : List Val) → GrewBy a b job rows → IsFresh a empty → IsFresh b empty
begins_still a b empty job rows h k = k ∙ (λ i. no_rows (sym h.falling i) (sym h.most i))
