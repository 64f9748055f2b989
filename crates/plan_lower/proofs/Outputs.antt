-- Expressions and outputs, one behind the other.
use Rattle.std.proofs.Common.{◌≡◌, ℕ, ◌+◌, ◌<◌, refl, ap, sym, subst, ◌∙◌, List, [], ◌∷◌, ◌++◌, length-append, take, Option, Some}
use Rattle.std.specs.Prelude.{slice_get}
use Rattle.std.proofs.lemmas.List.{map-append}
use Rattle.std.proofs.lemmas.List.Elements.{All-push}
use Rattle.value_meaning.specs.Val.{Val}
use Rattle.tree_meaning.specs.Tree.{Ex}
use Rattle.eval_meaning.specs.Evaluation.{eval}
use Rattle.program_meaning.specs.Instructions.{Instr}
use Rattle.program_meaning.specs.Programs.{mask_count, value_count}
use Rattle.program_meaning.specs.Registers.{after, value_at}
use Rattle.program_meaning.proofs.Persist.{extends_itself, extends_further, mask_stays}
use Rattle.plan_lower.specs.Emitting.{Emits, EmitsAll}
use Rattle.plan_lower.specs.Ends.{exs_of, names_of, registers_of}
use Rattle.plan_lower.proofs.Items.{all_nil, take_more}
use Rattle.plan_lower.proofs.Showing.{ap2, values_known, values_stay}

pub emits_none : (old : List Instr) (m : ℕ) → EmitsAll old old [] m []
emits_none old m = record { extends = extends_itself old; count = refl; made = all_nil (λ (r : ℕ). r < value_count old); values = λ l inside. refl }

-- one expression more
pub emits_more : (old mid new : List Instr) (es : List Ex) (e : Ex) (m : ℕ) (rs : List ℕ) (r : ℕ) → m < mask_count old → EmitsAll old mid es m rs → Emits mid new e m r → EmitsAll old new (es ++ e ∷ []) m (rs ++ r ∷ [])
emits_more old mid new es e m rs r known h k =
    record {
      extends = extends_further old mid new h.extends k.extends;
      count = simp (length-append) (rw h.count refl);
      made = All-push (λ (r : ℕ). r < value_count new) rs r (values_known mid new rs k.extends h.made) k.made;
      values = λ l inside.
          map-append (λ r. value_at (after l new) r) rs (r ∷ [])
          ∙ ap2 (λ (vs : List Val) (v : Val). vs ++ v ∷ [])
          (values_stay l mid new rs k.extends h.made ∙ h.values l inside)
          (k.value l (mask_stays l old mid m h.extends known ∙ inside))
          ∙ sym (map-append (λ e. eval e l.pair) es (e ∷ []));
    }

-- the expression at a place
pub listed_more : (old mid new : List Instr) (es : List Ex) (k m r : ℕ) (e d : Ex) (rs more : List ℕ) → m < mask_count old → slice_get es k ≡ Some e → d ≡ e → more ≡ rs ++ r ∷ [] → EmitsAll old mid (take k es) m rs → Emits mid new d m r
    → EmitsAll old new (take (k + 1) es) m more
listed_more old mid new es k m r e d rs more known at same is h j =
    subst (λ l. EmitsAll old new l m more) (sym (take_more es k e at))
    (subst (λ l. EmitsAll old new (take k es ++ e ∷ []) m l) (sym is)
    (emits_more old mid new (take k es) e m rs r known h (subst (λ x. Emits mid new x m r) same j)))

-- one output more
pub named_more : (outs more : List (List ℕ × ℕ)) (names : List (List ℕ)) (k : ℕ) (n : List ℕ) (r : ℕ) → slice_get names k ≡ Some n → more ≡ outs ++ (n, r) ∷ [] → names_of outs ≡ take k names → names_of more ≡ take (k + 1) names
named_more outs more names k n r at is h =
    ap names_of is ∙ map-append (λ (o : List ℕ × ℕ). o.0) outs ((n, r) ∷ []) ∙ ap (λ l. l ++ n ∷ []) h ∙ sym (take_more names k n at)

pub outputs_more : (old mid new : List Instr) (outs more : List (List ℕ × ℕ)) (items : List (Ex × Option (List ℕ))) (k m r : ℕ) (i : Ex × Option (List ℕ)) (n : List ℕ) → m < mask_count old → slice_get items k ≡ Some i → more ≡ outs ++ (n, r) ∷ []
    → EmitsAll old mid (exs_of (take k items)) m (registers_of outs) → Emits mid new i.0 m r → EmitsAll old new (exs_of (take (k + 1) items)) m (registers_of more)
outputs_more old mid new outs more items k m r i n known at is h j =
    let registers : registers_of more ≡ registers_of outs ++ r ∷ [] = ap registers_of is ∙ map-append (λ (o : List ℕ × ℕ). o.1) outs ((n, r) ∷ []) in
    let exs : exs_of (take (k + 1) items) ≡ exs_of (take k items) ++ i.0 ∷ [] = ap exs_of (take_more items k i at) ∙ map-append (λ (o : Ex × Option (List ℕ)). o.0) (take k items) (i ∷ []) in
    subst (λ es. EmitsAll old new es m (registers_of more)) (sym exs)
    (subst (λ rs. EmitsAll old new (exs_of (take k items) ++ i.0 ∷ []) m rs) (sym registers) (emits_more old mid new (exs_of (take k items)) i.0 m (registers_of outs) r known h j))
