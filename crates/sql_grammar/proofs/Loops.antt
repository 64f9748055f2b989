-- Turns of the parser's loops.
use Rattle.std.proofs.Common.{◌≡◌, ℕ, suc, ◌+◌, ◌-◌, ◌<◌, List, [], ◌∷◌, ◌++◌, Option, Some, None, refl, sym, ap, ◌∙◌, arith, append_assoc}
use Rattle.std.specs.Option.{option_map}
use Rattle.query_meaning.specs.declared.Mark.TheVariants as m
use Rattle.tree_meaning.specs.declared.BinOp.{BinOp}
use Rattle.query_meaning.specs.declared.Level.{Level}
use Rattle.tree_meaning.specs.Tree.{Step, Ex, bin, Arms, no_arms, arm, arms}
use Rattle.query_meaning.specs.Tokens.{Toks}
use Rattle.sql_words.specs.declared.fault.ParseFault.{ParseFault}
use Rattle.sql_words.specs.declared.fault.ParseFault.TheVariants as fault
use Rattle.sql_words.specs.Gives.{Fails}
use Rattle.sql_grammar.specs.Rules as rule
use Rattle.query_meaning.specs.Reading.{◌>>=◌, match_option, after, operator_at, step_at, steps_at, Reader, more_by, whens_by, list_by}

-- what is read stands behind these
abbrev pub behind_list : {A : Type 0} → List A → List A × Toks → List A × Toks
behind_list front x = (front ++ x.0, x.1)

regroup : {A : Type 0} (front : List A) (w : A) (o : Option (List A × Toks)) → option_map (behind_list front) (option_map (λ (y : List A × Toks). (w ∷ y.0, y.1)) o) ≡ option_map (behind_list (front ++ w ∷ [])) o
regroup front w None = refl
regroup {A} front w (Some x) = ap (λ (z : List A). let o : Option (List A × Toks) = Some (z, x.1) in o) (sym (append_assoc front (w ∷ []) x.0))

ended : {A : Type 0} (xs : List A) → xs ++ [] ≡ xs
ended [] = refl
ended (x ∷ xs) = ap (λ (z : List _). x ∷ z) (ended xs)

module _ (room turn : ℕ) (h : turn < room) where
  next : room - turn ≡ suc (room - (turn + 1))
  next = omega arith

  -- steps of a path
  module _ (read : Option (List Step × Toks)) (front : List Step) (rest : Toks) (sofar : read ≡ option_map (behind_list front) (steps_at (room - turn) rest)) where
    pub steps_stop : step_at rest ≡ Some None → read ≡ Some (front, rest)
    steps_stop e = sofar ∙ (rw (next, e) (ap (λ (z : List Step). let o : Option (List Step × Toks) = Some (z, rest) in o) (ended front)))

    pub steps_fail : step_at rest ≡ None → read ≡ None
    steps_fail e = sofar ∙ (rw (next, e) refl)

    pub steps_go_on : (s : Step) (behind : Toks) → step_at rest ≡ Some (Some (s, behind)) → read ≡ option_map (behind_list (front ++ s ∷ [])) (steps_at (room - (turn + 1)) behind)
    steps_go_on s behind e = sofar ∙ (rw (next, e) (regroup front s (steps_at (room - (turn + 1)) behind)))

  -- operands of a level
  module _ (f : Reader Ex) (l : Level) (read : Option (Ex × Toks)) (left : Ex) (rest : Toks) (sofar : read ≡ more_by f l (room - turn) left rest) where
    pub chain_stops : None ≡ operator_at l rest → read ≡ Some (left, rest)
    chain_stops e = rw (sofar, next, ← e) refl

    pub chain_goes_on : (o : BinOp) (r : Toks) → Some (o, r) ≡ operator_at l rest → (b : Ex) (behind : Toks) → f r ≡ Some (b, behind) → read ≡ more_by f l (room - (turn + 1)) (bin o left b) behind
    chain_goes_on o r e b behind g = rw (sofar, next, ← e, g) refl

    pub chain_fails : (o : BinOp) (r : Toks) → Some (o, r) ≡ operator_at l rest → f r ≡ None → read ≡ None
    chain_fails o r e g = rw (sofar, next, ← e, g) refl

  -- forms with commas between them
  module _ {A : Type 0} (f : Reader A) (read : Option (List A × Toks)) (front : List A) (rest behind : Toks) (w : A) (sofar : read ≡ option_map (behind_list front) (list_by f (room - turn) rest)) (one : f rest ≡ Some (w, behind)) where
    pub list_goes_on : (r : Toks) → Some r ≡ after m.Comma behind → read ≡ option_map (behind_list (front ++ w ∷ [])) (list_by f (room - (turn + 1)) r)
    list_goes_on r e = rw (sofar, next, one, ← e) (regroup front w (list_by f (room - (turn + 1)) r))

    pub list_stops : None ≡ after m.Comma behind → read ≡ Some (front ++ w ∷ [], behind)
    list_stops e = rw (sofar, next, one, ← e) refl

-- the arms in front of these
abbrev pub with_front : List (Ex × Ex) → Arms → Arms
with_front [] r = r
with_front (x ∷ xs) r = arm x.0 x.1 (with_front xs r)

abbrev pub behind_arms : List (Ex × Ex) → Arms × Toks → Arms × Toks
behind_arms front x = (with_front front x.0, x.1)

pub with_front-none : (xs : List (Ex × Ex)) → with_front xs no_arms ≡ arms xs
with_front-none [] = refl
with_front-none (x ∷ xs) = ap (arm x.0 x.1) (with_front-none xs)

with_front-push : (xs : List (Ex × Ex)) (a b : Ex) (r : Arms) → with_front (xs ++ (a, b) ∷ []) r ≡ with_front xs (arm a b r)
with_front-push [] a b r = refl
with_front-push (x ∷ xs) a b r = ap (arm x.0 x.1) (with_front-push xs a b r)

abbrev Armed : Type 0
Armed = Option (Arms × Toks)

regroup_arms : (front : List (Ex × Ex)) (a b : Ex) (o : Armed) → option_map (behind_arms front) (option_map (λ (x : Arms × Toks). (arm a b x.0, x.1)) o) ≡ option_map (behind_arms (front ++ (a, b) ∷ [])) o
regroup_arms front a b None = refl
regroup_arms front a b (Some x) = ap (λ (z : Arms). let o : Armed = Some (z, x.1) in o) (sym (with_front-push front a b x.0))

-- an arm, and what is made of it
module _ (f : Reader Ex) (k : (Ex × Ex) × Toks → Armed) where
  with_value : (a : Ex) (o : Option (Ex × Toks)) → (o >>= λ b. k ((a, b.0), b.1)) ≡ ((o >>= λ b. (let p : Option ((Ex × Ex) × Toks) = Some ((a, b.0), b.1) in p)) >>= k)
  with_value a None = refl
  with_value a (Some b) = refl

  behind_then : (a : Ex) (o : Option Toks) → (o >>= λ s. f s >>= λ b. k ((a, b.0), b.1)) ≡ ((o >>= λ s. f s >>= λ b. (let p : Option ((Ex × Ex) × Toks) = Some ((a, b.0), b.1) in p)) >>= k)
  behind_then a None = refl
  behind_then a (Some s) = with_value a (f s)

  with_test : (o : Option (Ex × Toks)) → (o >>= λ a. after m.Then a.1 >>= λ s. f s >>= λ b. k ((a.0, b.0), b.1)) ≡ ((o >>= λ a. after m.Then a.1 >>= λ s. f s >>= λ b. (let p : Option ((Ex × Ex) × Toks) = Some ((a.0, b.0), b.1) in p)) >>= k)
  with_test None = refl
  with_test (Some a) = behind_then a.0 (after m.Then a.1)

  behind_when : (o : Option Toks) → (o >>= λ r. f r >>= λ a. after m.Then a.1 >>= λ s. f s >>= λ b. k ((a.0, b.0), b.1)) ≡ ((o >>= λ r. f r >>= λ a. after m.Then a.1 >>= λ s. f s >>= λ b. (let p : Option ((Ex × Ex) × Toks) = Some ((a.0, b.0), b.1) in p)) >>= k)
  behind_when None = refl
  behind_when (Some r) = with_test (f r)

-- an arm, and more where another WHEN follows
more_arms : Reader Ex → ℕ → (Ex × Ex) × Toks → Armed
more_arms f n x = match_option (after m.When x.1) (Some (arm x.0.0 x.0.1 no_arms, x.1)) (λ _. option_map (λ (y : Arms × Toks). (arm x.0.0 x.0.1 y.0, y.1)) (whens_by f n x.1))

arm_first : (f : Reader Ex) (n : ℕ) (ts : Toks) → whens_by f (suc n) ts ≡ (rule.arm f ts >>= more_arms f n)
unfolding more_arms
arm_first f n ts = behind_when f (more_arms f n) (after m.When ts)

module _ (room turn : ℕ) (h : turn < room) (f : Reader Ex) (read : Armed) (front : List (Ex × Ex)) (rest : Toks) (sofar : read ≡ option_map (behind_arms front) (whens_by f (room - turn) rest)) where
  pub no_arm : rule.arm f rest ≡ None → read ≡ None
  no_arm e = sofar ∙ (rw (next room turn h, arm_first f (room - (turn + 1)) rest, e) refl)

  module _ (w : Ex × Ex) (behind : Toks) (one : rule.arm f rest ≡ Some (w, behind)) where
    pub whens_stop : None ≡ after m.When behind → read ≡ Some (arms (front ++ w ∷ []), behind)
    unfolding more_arms
    whens_stop e = rw (sofar, next room turn h, arm_first f (room - (turn + 1)) rest, one, ← e) (ap (λ (z : Arms). let o : Armed = Some (z, behind) in o) (sym (with_front-push front w.0 w.1 no_arms) ∙ with_front-none (front ++ w ∷ [])))

    pub whens_go_on : (q : Toks) → Some q ≡ after m.When behind → read ≡ option_map (behind_arms (front ++ w ∷ [])) (whens_by f (room - (turn + 1)) behind)
    unfolding more_arms
    whens_go_on q e = rw (sofar, next room turn h, arm_first f (room - (turn + 1)) rest, one, ← e) (regroup_arms front w.0 w.1 (whens_by f (room - (turn + 1)) behind))

-- a fault that a call handed on
pub handed_on : {X Y : Type 0} (e : ParseFault) (o : Option X) (read : Option Y) → Fails e o → (o ≡ None → read ≡ None) → Fails e read
handed_on fault.NotAQuery o read h go = go h
handed_on fault.OutOfMemory o read h go = tt
