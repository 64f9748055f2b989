-- Gathered groups that grow.
use Rattle.std.proofs.Common.{◌≡◌, ℕ, List, [], ◌∷◌, ◌++◌, map, Bool, true, false, sym, ap, subst, refl, ◌∙◌, append_assoc, append-nil}
use Rattle.std.proofs.lemmas.List.{map-append}
use Rattle.value_meaning.specs.Val.{Val}
use Rattle.program_meaning.specs.Jobs.{Job}
use Rattle.hash_agg.specs.Groups.{Keyed}
use Rattle.batch_groups.specs.Keyed.{keyed_row}
use Rattle.batch_groups.specs.Gathered.{Gathered, StandFor, Takes, Grew, Begins}

pub grew_by_none : (s : Gathered) (job : Job) → Grew s s job []
grew_by_none s job = record {
  names = refl;
  limit = refl;
  stand = λ xs h. subst (StandFor s.groups s.over) (sym (append-nil xs)) h;
}

pub grew_by_both : (a b c : Gathered) (job : Job) (xs ys : List Val) → Grew a b job xs → Grew b c job ys → Grew a c job (xs ++ ys)
grew_by_both a b c job xs ys h k = record {
  names = k.names ∙ h.names;
  limit = k.limit ∙ h.limit;
  stand = λ zs s.
      let e : zs ++ map (keyed_row job) (xs ++ ys) ≡ (zs ++ map (keyed_row job) xs) ++ map (keyed_row job) ys = ap (λ (l : List Keyed). zs ++ l) (map-append (keyed_row job) xs ys) ∙ sym (append_assoc zs (map (keyed_row job) xs) (map (keyed_row job) ys)) in
      subst (StandFor c.groups c.over) (sym e) (k.stand (zs ++ map (keyed_row job) xs) (h.stand zs s));
}

pub takes_more : (a b : Gathered) (job : Job) (rows : List Val) → Takes a job → Grew a b job rows → Takes b job
takes_more a b job rows h k = k.names ∙ h

pub fresh_takes : (s empty : Gathered) (job : Job) → Takes s job → Begins s empty → Takes empty job
fresh_takes s empty job h k = k.names ∙ h

pub begins_still : (a b empty : Gathered) (job : Job) (rows : List Val) → Grew a b job rows → Begins a empty → Begins b empty
begins_still a b empty job rows h k = record {
  names = k.names ∙ sym h.names;
  limit = k.limit ∙ sym h.limit;
  none = k.none;
  within = k.within;
}
