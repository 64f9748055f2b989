-- What a job that simulates a query makes of rows is what the query makes of them.
use Rattle.std.proofs.Common.{◌≡◌, ℕ, zero, suc, ◌+◌, Bool, true, false, cond, List, [], ◌∷◌, map, Option, refl, sym, ◌∙◌, ap, subst, ◌++◌}
use Rattle.std.specs.Prelude.{length, if◌then◌else◌}
use Rattle.std.specs.List.{filter, enumerate_from}
use Rattle.std.proofs.lemmas.List.{length-map}
use Rattle.value_meaning.specs.Val.{Val}
use Rattle.tree_meaning.specs.Tree.{Ex, Outs, star, named, Query}
use Rattle.check_meaning.specs.Names.{names, output_name}
use Rattle.check_meaning.specs.Places.{output_exs, order_ex}
use Rattle.check_meaning.specs.Aggregates.{is_grouped}
use Rattle.eval_meaning.specs.Evaluation.{eval}
use Rattle.eval_meaning.specs.Passed.{is_kept, passed}
use Rattle.eval_meaning.specs.Pair.{Pair, alone}
use Rattle.program_meaning.specs.Registers.{State, live_lane, value_at}
use Rattle.program_meaning.specs.Jobs.{Job}
use Rattle.program_meaning.specs.Simulation.{is_star, if_ungrouped, order_exs, Simulates, ShowsNamed}
use Rattle.answer_meaning.specs.Made.{Output, Made, pairs_of}
use Rattle.made_meaning.specs.MadeRows.{named_value, has_value, output_of, made, made_row, made_rows}
use Rattle.made_meaning.proofs.Ungrouped.{made_by_rows}
use Rattle.answer_meaning.specs.Lines.{line_text}
use Rattle.block_lines.specs.RowLines.{registers_on, keeps, named_register, shown_pairs, job_output, kept_rows, line_of, lines_of, keyed_line, made_lines, made_keyed}

abbrev Out : Type 0
Out = List ℕ × ℕ

abbrev Item : Type 0
Item = Ex × Option (List ℕ)

module _ (job : Job) (q : Query) (simulates : Simulates job q) (row : Val) where
  pub keeps_is : keeps job row ≡ is_kept q.filter (alone row)
  keeps_is = simulates.kept (live_lane (alone row))

  shows_is : keeps job row ≡ true → ShowsNamed job.ends q (registers_on job row) (alone row)
  shows_is k = simulates.shows (alone row) (sym keeps_is ∙ k)

pair_is : {A B : Type 0} (a b : A) (c d : B) (xs ys : List (A × B)) → a ≡ b → c ≡ d → xs ≡ ys → (a, c) ∷ xs ≡ (b, d) ∷ ys
pair_is a b c d xs ys p q r = λ i. (p i, q i) ∷ r i

-- outputs with these names and these values are the pairs of them
zipped : (s : State) (p : Pair) (outs : List Out) (k : ℕ) (items : List Item)
    → map (λ (o : Out). o.0) outs ≡ map (λ (o : ℕ × Item). output_name o.0 o.1) (enumerate_from k items)
    → map (λ (o : Out). value_at s o.1) outs ≡ map (λ (e : Ex). eval e p) (map (λ (o : Item). o.0) items)
    → map (named_register s) outs ≡ map (named_value (λ e. eval e p)) (enumerate_from k items)
zipped s p [] k [] n v = refl
zipped s p [] k (i ∷ items) n v = absurd (cc)
zipped s p (o ∷ outs) k [] n v = absurd (cc)
zipped s p (o ∷ outs) k (i ∷ items) n v =
    let name : o.0 ≡ output_name k i = cc in
    let value : value_at s o.1 ≡ eval i.0 p = cc in
    pair_is o.0 (output_name k i) (value_at s o.1) (eval i.0 p) (map (named_register s) outs) (map (named_value (λ e. eval e p)) (enumerate_from (k + 1) items))
    name value (zipped s p outs (k + 1) items (cc) (cc))

by_outs : (outs : Outs) (is_all : Bool) (ends : List Out) (s : State) (row : Val) → is_all ≡ is_star outs → map (λ (o : Out). o.0) ends ≡ names outs
    → map (λ (o : Out). value_at s o.1) ends ≡ map (λ (e : Ex). eval e (alone row)) (output_exs outs)
    → (if is_all then pairs_of row else shown_pairs s ends) ≡ output_of outs (alone row)
unfolding names
by_outs star is_all ends s row a n v = rw a refl
by_outs (named items) is_all ends s row a n v = rw a (ap (filter has_value) (zipped s (alone row) ends 1 items n v))

ungrouped : {A : Type 0} (q : Query) (xs : List A) → is_grouped q ≡ false → if_ungrouped q xs ≡ xs
ungrouped q xs h = rw h refl

module _ (job : Job) (q : Query) (simulates : Simulates job q) (single : is_grouped q ≡ false) where
  pub output_is : (row : Val) → keeps job row ≡ true → job_output job row ≡ output_of q.outs (alone row)
  output_is row k =
      by_outs q.outs job.ends.star job.ends.outs (registers_on job row) row simulates.star (simulates.names ∙ ungrouped q (names q.outs) single)
      ((shows_is job q simulates row k).outs ∙ ap (λ es. map (λ (e : Ex). eval e (alone row)) es) (ungrouped q (output_exs q.outs) single))

  pub line_is : (row : Val) → keeps job row ≡ true → line_of job row ≡ line_text (made_row q (alone row)).output
  line_is row k = ap line_text (output_is row k)

  pub keys_are : (row : Val) → keeps job row ≡ true → map (value_at (registers_on job row)) job.ends.sorts ≡ (made_row q (alone row)).keys
  keys_are row k =
      (shows_is job q simulates row k).sorts
      ∙ ap (λ es. map (λ (e : Ex). eval e (alone row)) es) (ungrouped q (order_exs q) single)
      ∙ each_key q.order
    where
      each_key : (order : List (Ex × Bool)) → map (λ (e : Ex). eval e (alone row)) (map (λ (k : Ex × Bool). order_ex q.outs k.0) order) ≡ map (λ (k : Ex × Bool). eval (order_ex q.outs k.0) (alone row)) order
      each_key [] = refl
      each_key (k ∷ order) = ap (λ (l : List Val). eval (order_ex q.outs k.0) (alone row) ∷ l) (each_key order)

  pub keyed_is : (row : Val) → keeps job row ≡ true → keyed_line job row ≡ ((made_row q (alone row)).keys, line_text (made_row q (alone row)).output)
  keyed_is row k = λ i. (keys_are row k i, line_is row k i)

module _ (job : Job) (q : Query) (simulates : Simulates job q) where
  -- what is made of each row that is kept, and of each pair that passes
  pub kept_map : {A : Type 0} (f : Val → A) (g : Pair → A) → ((row : Val) → keeps job row ≡ true → f row ≡ g (alone row)) → (rows : List Val) → map f (kept_rows job rows) ≡ map g (passed q rows)
  kept_map f g same [] = refl
  kept_map f g same (r ∷ rows) = by_test (keeps job r) refl (kept_map f g same rows)
    where
      by_test : (b : Bool) → keeps job r ≡ b → map f (kept_rows job rows) ≡ map g (passed q rows) → map f (kept_rows job (r ∷ rows)) ≡ map g (passed q (r ∷ rows))
      by_test true k rest =
          let k2 : is_kept q.filter (alone r) ≡ true = sym (keeps_is job q simulates r) ∙ k in
          rw (k, k2) (λ i. same r k i ∷ rest i)
      by_test false k rest =
          let k2 : is_kept q.filter (alone r) ≡ false = sym (keeps_is job q simulates r) ∙ k in
          rw (k, k2) rest

  -- as many rows are kept
  pub kept_many : (rows : List Val) → length (kept_rows job rows) ≡ length (passed q rows)
  kept_many rows =
      sym (length-map (kept_rows job rows) (λ (r : Val). zero))
      ∙ ap (λ (l : List ℕ). length l) (kept_map (λ (r : Val). zero) (λ (p : Pair). zero) (λ row k. refl) rows)
      ∙ length-map (passed q rows) (λ (p : Pair). zero)

-- what is made of the rows of pairs, and of the pairs
over_made : {A : Type 0} (q : Query) (f : Made → A) (ps : List Pair) → map (λ (p : Pair). f (made_row q p)) ps ≡ map f (made_rows q ps)
over_made q f [] = refl
over_made q f (p ∷ ps) = ap (λ l. f (made_row q p) ∷ l) (over_made q f ps)

module _ (job : Job) (q : Query) (simulates : Simulates job q) (single : is_grouped q ≡ false) where
  each_made : {A : Type 0} (f : Val → A) (g : Made → A) → ((row : Val) → keeps job row ≡ true → f row ≡ g (made_row q (alone row))) → (rows : List Val) → map f (kept_rows job rows) ≡ map g (made q rows)
  each_made f g same rows =
      kept_map job q simulates f (λ (p : Pair). g (made_row q p)) same rows
      ∙ over_made q g (passed q rows)
      ∙ ap (λ (ms : List Made). map g ms) (sym (made_by_rows q rows single))

  -- the lines of the rows that are kept are what the query makes
  pub lines_are : (rows : List Val) → lines_of job (kept_rows job rows) ≡ made_lines q rows
  lines_are rows = each_made (line_of job) (λ (m : Made). line_text m.output) (line_is job q simulates single) rows

  pub keyed_are : (rows : List Val) → map (keyed_line job) (kept_rows job rows) ≡ made_keyed q rows
  keyed_are rows = each_made (keyed_line job) (λ (m : Made). (m.keys, line_text m.output)) (keyed_is job q simulates single) rows

  pub added_lines : (rows : List Val) (old new : List (List ℕ)) → new ≡ old ++ lines_of job (kept_rows job rows) → new ≡ old ++ made_lines q rows
  added_lines rows old new h = h ∙ ap (λ (l : List (List ℕ)). old ++ l) (lines_are rows)

  pub added_keyed : (rows : List Val) (old new : List (List Val × List ℕ)) → new ≡ old ++ map (keyed_line job) (kept_rows job rows) → new ≡ old ++ made_keyed q rows
  added_keyed rows old new h = h ∙ ap (λ (l : List (List Val × List ℕ)). old ++ l) (keyed_are rows)
