-- What is read is in the grammar.
use Rattle.std.proofs.Common.{◌≡◌, ℕ, zero, suc, ◌≤◌, List, [], ◌∷◌, Some, Bool, true, refl, ap, ◌∙◌, arith}
use Rattle.std.specs.Prelude.{nat_le}
use Rattle.std.proofs.lemmas.Bool.Decides.{nat_tests}
use Rattle.value_meaning.specs.Val.{Val}
use Rattle.query_meaning.specs.declared.Mark.{Mark}
use Rattle.query_meaning.specs.declared.Mark.TheVariants as m
use Rattle.query_meaning.specs.declared.FunctionWord.{FunctionWord}
use Rattle.query_meaning.specs.declared.FunctionWord.TheVariants as f
use Rattle.query_meaning.specs.declared.Level.{Level}
use Rattle.query_meaning.specs.declared.Level.TheVariants as lv
use Rattle.tree_meaning.specs.declared.BinOp.{BinOp}
use Rattle.tree_meaning.specs.declared.IsWhat.{IsWhat}
use Rattle.tree_meaning.specs.declared.How.{How}
use Rattle.tree_meaning.specs.declared.Func.{Func}
use Rattle.tree_meaning.specs.declared.Func.TheVariants as func
use Rattle.tree_meaning.specs.declared.Part.{Part}
use Rattle.tree_meaning.specs.Parts.{is_cut_to, is_extracted, is_added}
use Rattle.tree_meaning.specs.declared.AggName.TheVariants as aggs
use Rattle.tree_meaning.specs.Tree.{Step, name, at, Ex, neg, no, bin, matching, agg_of_rows}
use Rattle.query_meaning.specs.Words.{function_word, part_word, cast_word}
use Rattle.query_meaning.specs.Tokens.{Tok, Toks, mark, word, quoted, string, moment, num, no_token}
use Rattle.query_meaning.specs.Grammar as g
use Rattle.query_meaning.specs.Grammar.{Head, function, aggregate, truncation, extraction, addition, skip_of}
use Rattle.query_meaning.specs.Reading.{is_mark, after, said, Reader, or_op, and_op, sum_op, term_op, op_of, compare_of, what_of, how_of, literal_of, operator_at, compare_at, what_at, more_by, chain_by, prefixed, name_at, word_at, string_at, num_at, index_at, field_at, step_at, steps_at, is_at, like_at, list_by, among_by, range_by, test_by, is_test, tested_by, pred_by, whens_by, else_by, case_by, parens_by, cast_end, cast_by, match_of, part_at, head_at, made_one, made_two, made_many, made, match_end, match_by, args_by, rows_at, call_by, marked_by, word_by, prim_by, minus_by, term_by, sum_by, neg_by, and_by, or_by, expr_at}
use Rattle.query_meaning.proofs.Steps.{some_is, bind_then, map_then, match_then, if_then, is_mark-true, after-some, said-some, name_at-some, word_at-some, string_at-some, num_at-some}

-- f reads forms of R alone
abbrev pub Takes : {A : Type 0} → (Toks → A → Toks → Type 0) → Reader A → Type 0
Takes {A} R f = (ts : Toks) (x : A × Toks) → f ts ≡ Some x → R ts x.0 x.1

or_joins : (k : Mark) (o : BinOp) → or_op k ≡ Some o → g.Joins lv.Or k o
or_joins m.Or o e = rw (← some_is _ _ e) g.by_or
or_joins _ o e = absurd cc

and_joins : (k : Mark) (o : BinOp) → and_op k ≡ Some o → g.Joins lv.And k o
and_joins m.And o e = rw (← some_is _ _ e) g.by_and
and_joins _ o e = absurd cc

sum_joins : (k : Mark) (o : BinOp) → sum_op k ≡ Some o → g.Joins lv.Sum k o
sum_joins m.Plus o e = rw (← some_is _ _ e) g.by_plus
sum_joins m.Minus o e = rw (← some_is _ _ e) g.by_minus
sum_joins _ o e = absurd cc

term_joins : (k : Mark) (o : BinOp) → term_op k ≡ Some o → g.Joins lv.Term k o
term_joins m.Star o e = rw (← some_is _ _ e) g.by_star
term_joins m.Slash o e = rw (← some_is _ _ e) g.by_slash
term_joins m.Percent o e = rw (← some_is _ _ e) g.by_percent
term_joins _ o e = absurd cc

joins_of : (l : Level) (k : Mark) (o : BinOp) → op_of l k ≡ Some o → g.Joins l k o
joins_of lv.Or k o e = or_joins k o e
joins_of lv.And k o e = and_joins k o e
joins_of lv.Sum k o e = sum_joins k o e
joins_of lv.Term k o e = term_joins k o e

compares_of : (k : Mark) (o : BinOp) → compare_of k ≡ Some o → g.Compares k o
compares_of m.Equal o e = rw (← some_is _ _ e) g.by_equal
compares_of m.Unequal o e = rw (← some_is _ _ e) g.by_unequal
compares_of m.Less o e = rw (← some_is _ _ e) g.by_less
compares_of m.AtMost o e = rw (← some_is _ _ e) g.by_at_most
compares_of m.Greater o e = rw (← some_is _ _ e) g.by_greater
compares_of m.AtLeast o e = rw (← some_is _ _ e) g.by_at_least
compares_of _ o e = absurd cc

asks_of : (k : Mark) (w : IsWhat) → what_of k ≡ Some w → g.Asks k w
asks_of m.Null w e = rw (← some_is _ _ e) g.for_null
asks_of m.Missing w e = rw (← some_is _ _ e) g.for_missing
asks_of m.True w e = rw (← some_is _ _ e) g.for_true
asks_of m.False w e = rw (← some_is _ _ e) g.for_false
asks_of _ w e = absurd cc

likens_of : (k : Mark) (h : How) → how_of k ≡ Some h → g.Likens k h
likens_of m.Like h e = rw (← some_is _ _ e) g.by_like
likens_of m.ILike h e = rw (← some_is _ _ e) g.by_ilike
likens_of _ h e = absurd cc

denotes_of : (k : Mark) (v : Val) → literal_of k ≡ Some v → g.Denotes k v
denotes_of m.Null v e = rw (← some_is _ _ e) g.is_null
denotes_of m.Missing v e = rw (← some_is _ _ e) g.is_missing
denotes_of m.True v e = rw (← some_is _ _ e) g.is_true
denotes_of m.False v e = rw (← some_is _ _ e) g.is_false
denotes_of _ v e = absurd cc

matches_of : (w : FunctionWord) (h : How) → match_of w ≡ Some h → g.Matches w h
matches_of f.StartsWith h e = rw (← some_is _ _ e) g.by_starts_with
matches_of f.EndsWith h e = rw (← some_is _ _ e) g.by_ends_with
matches_of f.Contains h e = rw (← some_is _ _ e) g.by_contains
matches_of _ h e = absurd cc

-- an operator of the level stands at the front
abbrev Begins : Level → Toks → BinOp × Toks → Type 0
Begins l ts x = (k : Mark) × g.Joins l k x.0 × (ts ≡ mark k ∷ x.1)

operator-some : (l : Level) (ts : Toks) (x : BinOp × Toks) → operator_at l ts ≡ Some x → Begins l ts x
unfolding operator_at
operator-some l ts x e = let s = said-some (op_of l) ts x e in (s.0, joins_of l s.0 x.0 s.1, s.2)

compare-some : (ts : Toks) (x : BinOp × Toks) → compare_at ts ≡ Some x → (k : Mark) × g.Compares k x.0 × (ts ≡ mark k ∷ x.1)
unfolding compare_at
compare-some ts x e = let s = said-some compare_of ts x e in (s.0, compares_of s.0 x.0 s.1, s.2)

what-some : (ts : Toks) (x : IsWhat × Toks) → what_at ts ≡ Some x → (k : Mark) × g.Asks k x.0 × (ts ≡ mark k ∷ x.1)
unfolding what_at
what-some ts x e = let s = said-some what_of ts x e in (s.0, asks_of s.0 x.0 s.1, s.2)

more-takes : (l : Level) (f : Reader Ex) → Takes (g.Operand l) f → (n : ℕ) (a : Ex) → Takes (g.More l a) (more_by f l n a)
more-takes l f t zero a ts x e = absurd cc
more-takes l f t (suc n) a ts x e =
    match_then (operator_at l ts) _ _ _ e (λ none h. rw (← some_is _ _ h) g.stop) (λ o is h.
    bind_then (f o.1) _ x h (λ b read h2.
    let j = operator-some l ts o is in
    let d = more-takes l f t n (bin o.0 a b.0) b.1 x h2 in
    rw j.2 (g.more j.1 (t o.1 b read) d)))

chain-takes : (l : Level) (f : Reader Ex) → Takes (g.Operand l) f → (n : ℕ) → Takes (g.Chain l) (chain_by f l n)
chain-takes l f t n ts x e =
    bind_then (f ts) _ x e (λ a read h. g.chain (t ts a read) (more-takes l f t n a.0 a.1 x h))

prefixed-takes : (R : Toks → Ex → Toks → Type 0) (k : Mark) (wrap : Ex → Ex) (f : Reader Ex) → Takes R f → ((e : Ex) (s t : Toks) → R s e t → R (mark k ∷ s) (wrap e) t) → Takes R (prefixed k wrap f)
prefixed-takes R k wrap f t w [] x e = t [] x e
prefixed-takes R k wrap f t w (a ∷ ts) x e =
    if_then (is_mark k a) _ _ _ e (λ b h.
    map_then _ (prefixed k wrap f ts) x h (λ y read h2.
    let d = prefixed-takes R k wrap f t w ts y read in
    rw (is_mark-true k a b, ← h2) (w _ _ _ d))) (λ b h. t (a ∷ ts) x h)

-- a step stands at the front
data OneStep : Toks → Step → Toks → Type 0 where
  dot : {k : Tok} {n : List ℕ} {s : Toks} → g.Name k n → OneStep (mark m.Dot ∷ k ∷ s) (name n) s
  index : {i : ℕ} {s : Toks} → i ≤ 4_294_967_295 → OneStep (mark m.OpenIndex ∷ num i ∷ mark m.CloseIndex ∷ s) (at i) s

one_more : {s u t : Toks} {p : Step} {ps : List Step} → OneStep s p u → g.Steps u ps t → g.Steps s (p ∷ ps) t
one_more (dot n) r = g.dotted n r
one_more (index h) r = g.indexed h r

le_of : (a b : ℕ) → nat_le a b ≡ true → a ≤ b
le_of a b e = grind (arith, nat_tests)

index-some : (ts : Toks) (x : Step × Toks) → index_at ts ≡ Some x → (i : ℕ) × (i ≤ 4_294_967_295) × (ts ≡ num i ∷ mark m.CloseIndex ∷ x.1) × (at i ≡ x.0)
unfolding index_at
index-some ts x e =
    bind_then (num_at ts) _ x e (λ i read h.
    if_then (nat_le i.0 4_294_967_295) _ _ _ h
    (λ small h2. map_then _ (after m.CloseIndex i.1) x h2 (λ r close h3.
    rw (← h3) (i.0, le_of i.0 4_294_967_295 small, num_at-some ts i read ∙ ap (λ (s : Toks). num i.0 ∷ s) (after-some m.CloseIndex i.1 r close), refl)))
    (λ large h2. absurd cc))

field-some : (ts : Toks) (x : Step × Toks) → field_at ts ≡ Some x → (k : Tok) × (n : List ℕ) × g.Name k n × (ts ≡ k ∷ x.1) × (name n ≡ x.0)
unfolding field_at
field-some ts x e =
    map_then _ (name_at ts) x e (λ n read h. let s = name_at-some ts n read in rw (← h) (s.0, n.0, s.1, s.2, refl))

index_is : (ts r u : Toks) (p : Step) (i : ℕ) → i ≤ 4_294_967_295 → ts ≡ mark m.OpenIndex ∷ r → r ≡ num i ∷ mark m.CloseIndex ∷ u → at i ≡ p → OneStep ts p u
index_is ts r u p i h e f g = rw (e, f, ← g) (index h)

index_step : (ts r : Toks) (x : Step × Toks) → ts ≡ mark m.OpenIndex ∷ r → index_at r ≡ Some x → OneStep ts x.0 x.1
index_step ts r x e read = let s = index-some r x read in index_is ts r x.1 x.0 s.0 s.1 e s.2 s.3

field_is : (ts r u : Toks) (p : Step) (k : Tok) (n : List ℕ) → g.Name k n → ts ≡ mark m.Dot ∷ r → r ≡ k ∷ u → name n ≡ p → OneStep ts p u
field_is ts r u p k n h e f g = rw (e, f, ← g) (dot h)

field_step : (ts r : Toks) (x : Step × Toks) → ts ≡ mark m.Dot ∷ r → field_at r ≡ Some x → OneStep ts x.0 x.1
field_step ts r x e read = let s = field-some r x read in field_is ts r x.1 x.0 s.0 s.1 s.2 e s.3 s.4

step-takes : (ts : Toks) (x : Step × Toks) → step_at ts ≡ Some (Some x) → OneStep ts x.0 x.1
unfolding step_at
step-takes ts x e =
    match_then (after m.Dot ts) _ _ _ e
    (λ none h. match_then (after m.OpenIndex ts) _ _ _ h (λ none2 h2. absurd cc) (λ r open_ h2.
    map_then Some (index_at r) (Some x) h2 (λ y read h3.
    index_step ts r x (after-some m.OpenIndex ts r open_) (read ∙ ap Some (some_is _ _ h3)))))
    (λ r dot_ h. map_then Some (field_at r) (Some x) h (λ y read h2.
    field_step ts r x (after-some m.Dot ts r dot_) (read ∙ ap Some (some_is _ _ h2))))

steps-take : (n : ℕ) → Takes g.Steps (steps_at n)
steps-take zero ts x e = absurd cc
steps-take (suc n) ts x e =
    bind_then (step_at ts) _ x e (λ o read h.
    match_then o _ _ _ h (λ none h2. rw (← some_is _ _ h2) g.no_steps) (λ p some h2.
    map_then _ (steps_at n p.1) x h2 (λ y others h3.
    rw (← h3) (one_more (step-takes ts p (read ∙ ap Some some)) (steps-take n p.1 y others)))))

like_is : (a : Ex) (ts r u : Toks) (k : Mark) (h : How) (p : List ℕ) (e : Ex) → g.Likens k h → ts ≡ mark k ∷ r → r ≡ string p ∷ u → matching h a p ≡ e → g.Test a ts e u
like_is a ts r u k h p e by f g' q = rw (f, g', ← q) (g.likened by)

like-takes : (a : Ex) (ts : Toks) (x : Ex × Toks) → like_at a ts ≡ Some x → g.Test a ts x.0 x.1
unfolding like_at
like-takes a ts x e =
    bind_then (said how_of ts) _ x e (λ h read h1.
    map_then _ (string_at h.1) x h1 (λ p read2 h2.
    let s = said-some how_of ts h read in
    let d = like_is a ts h.1 p.1 s.0 h.0 p.0 (matching h.0 a p.0) (likens_of s.0 h.0 s.1) s.2 (string_at-some h.1 p read2) refl in
    rw (← h2) d))

-- what follows IS, behind a sum
is-takes : (ts r : Toks) (a : Ex) → g.Chain lv.Sum ts a (mark m.Is ∷ r) → (x : Ex × Toks) → is_at a r ≡ Some x → g.Pred ts x.0 x.1
unfolding is_at
is-takes ts r a first x e =
    match_then (after m.Not r) _ _ _ e
    (λ none h. map_then _ (what_at r) x h (λ w read h2. let s = what-some r w read in rw (← h2) (g.asked s.1 (rw s.2 at first))))
    (λ q not_ h. map_then _ (what_at q) x h (λ w read h2. let s = what-some q w read in rw (← h2) (g.asked_not s.1 (rw (after-some m.Not r q not_, s.2) at first))))

pub list-takes : (f : Reader Ex) → Takes g.Expr f → (n : ℕ) → Takes g.Exprs (list_by f n)
list-takes f t zero ts x e = absurd cc
list-takes f t (suc n) ts x e =
    bind_then (f ts) _ x e (λ a read h.
    match_then (after m.Comma a.1) _ _ _ h (λ none h2. rw (← some_is _ _ h2) (g.last_expr (t ts a read))) (λ r comma h2.
    map_then _ (list_by f n r) x h2 (λ o others h3.
    let d = list-takes f t n r o others in
    rw (← h3) (g.more_exprs (rw (after-some m.Comma a.1 r comma) at (t ts a read)) d))))

-- a part that a function takes, and a mark behind it
part-some : (takes : Part → Bool) (k : Mark) (ts : Toks) (x : Part × Toks) → part_at takes k ts ≡ Some x → (n : List ℕ) × (part_word n ≡ Some x.0) × (takes x.0 ≡ true) × (ts ≡ word n ∷ mark k ∷ x.1)
unfolding part_at
part-some takes k ts x e =
    bind_then (word_at ts) _ x e (λ w read h.
    bind_then (part_word w.0) _ x h (λ p known h2.
    if_then (takes p) _ _ _ h2
    (λ b h3. map_then _ (after k w.1) x h3 (λ r next h4.
    rw (← h4) (w.0, known, b, word_at-some ts w read ∙ ap (λ (s : Toks). word w.0 ∷ s) (after-some k w.1 r next))))
    (λ b h3. absurd cc)))

plain_takes : {w : FunctionWord} {h : Head} (ts : Toks) (x : Head × Toks) → g.Calls w h → Some (h, ts) ≡ Some x → g.Opens w ts x.0 x.1
plain_takes ts x c e = rw (← some_is _ _ e) (g.nothing c)

head-takes : (w : FunctionWord) (ts : Toks) (x : Head × Toks) → head_at w ts ≡ Some x → g.Opens w ts x.0 x.1
unfolding head_at
head-takes f.DateTrunc ts x e = map_then _ (part_at is_cut_to m.Comma ts) x e (λ p read h. let s = part-some is_cut_to m.Comma ts p read in rw (s.3, ← h) (g.cut_to s.1 s.2))
head-takes f.Extract ts x e = map_then _ (part_at is_extracted m.From ts) x e (λ p read h. let s = part-some is_extracted m.From ts p read in rw (s.3, ← h) (g.part_from s.1 s.2))
head-takes f.DateAdd ts x e = map_then _ (part_at is_added m.Comma ts) x e (λ p read h. let s = part-some is_added m.Comma ts p read in rw (s.3, ← h) (g.added s.1 s.2))
head-takes f.Coalesce ts x e = plain_takes ts x g.by_coalesce e
head-takes f.NullIf ts x e = plain_takes ts x g.by_null_if e
head-takes f.CharLength ts x e = plain_takes ts x g.by_char_length e
head-takes f.ToUnixEpoch ts x e = plain_takes ts x g.by_unix_epoch e
head-takes f.ToUnixMicro ts x e = plain_takes ts x g.by_unix_micro e
head-takes f.StartsWith ts x e = absurd cc
head-takes f.EndsWith ts x e = absurd cc
head-takes f.Contains ts x e = absurd cc
head-takes f.Count ts x e = plain_takes ts x g.by_count e
head-takes f.Sum ts x e = plain_takes ts x g.by_sum e
head-takes f.Min ts x e = plain_takes ts x g.by_min e
head-takes f.Max ts x e = plain_takes ts x g.by_max e
head-takes f.Avg ts x e = plain_takes ts x g.by_avg e
head-takes f.Earliest ts x e = plain_takes ts x g.by_earliest e
head-takes f.Latest ts x e = plain_takes ts x g.by_latest e
head-takes f.BoolAnd ts x e = plain_takes ts x g.by_bool_and e
head-takes f.BoolOr ts x e = plain_takes ts x g.by_bool_or e

one_made : (h : Head) (a e : Ex) → made_one h a ≡ Some e → g.Makes h (a ∷ []) e
one_made (function func.Coalesce) a e p = rw (← some_is _ _ p) g.coalesce
one_made (function func.NullIf) a e p = absurd cc
one_made (function func.CharLength) a e p = rw (← some_is _ _ p) g.char_length
one_made (function func.UnixEpoch) a e p = rw (← some_is _ _ p) g.unix_epoch
one_made (function func.UnixMicro) a e p = rw (← some_is _ _ p) g.unix_micro
one_made (aggregate n) a e p = rw (← some_is _ _ p) g.aggregated
one_made (truncation n) a e p = rw (← some_is _ _ p) g.truncated
one_made (extraction n) a e p = rw (← some_is _ _ p) g.extracted
one_made (addition n) a e p = absurd cc

two_made : (h : Head) (a b e : Ex) → made_two h a b ≡ Some e → g.Makes h (a ∷ b ∷ []) e
two_made (function func.Coalesce) a b e p = rw (← some_is _ _ p) g.coalesce
two_made (function func.NullIf) a b e p = rw (← some_is _ _ p) g.null_if
two_made (function func.CharLength) a b e p = absurd cc
two_made (function func.UnixEpoch) a b e p = absurd cc
two_made (function func.UnixMicro) a b e p = absurd cc
two_made (aggregate n) a b e p = absurd cc
two_made (truncation n) a b e p = absurd cc
two_made (extraction n) a b e p = absurd cc
two_made (addition n) a b e p = rw (← some_is _ _ p) g.shifted

many_made : (h : Head) (a : Ex) (es : List Ex) (e : Ex) → made_many h (a ∷ es) ≡ Some e → g.Makes h (a ∷ es) e
many_made (function func.Coalesce) a es e p = rw (← some_is _ _ p) g.coalesce
many_made (function func.NullIf) a es e p = absurd cc
many_made (function func.CharLength) a es e p = absurd cc
many_made (function func.UnixEpoch) a es e p = absurd cc
many_made (function func.UnixMicro) a es e p = absurd cc
many_made (aggregate n) a es e p = absurd cc
many_made (truncation n) a es e p = absurd cc
many_made (extraction n) a es e p = absurd cc
many_made (addition n) a es e p = absurd cc

makes_of : (h : Head) (es : List Ex) (e : Ex) → made h es ≡ Some e → g.Makes h es e
unfolding made
makes_of h [] e p = absurd cc
makes_of h (a ∷ []) e p = one_made h a e p
makes_of h (a ∷ b ∷ []) e p = two_made h a b e p
makes_of h (a ∷ b ∷ c ∷ es) e p = many_made h a (b ∷ c ∷ es) e p

-- `*` behind COUNT
rows-some : (w : FunctionWord) (ts r : Toks) → rows_at w ts ≡ Some r → (w ≡ f.Count) × (ts ≡ mark m.Star ∷ r)
unfolding rows_at
rows-some f.Count ts r e = (refl, after-some m.Star ts r e)
rows-some _ ts r e = absurd cc

rows_take : (w : List ℕ) (fw : FunctionWord) → function_word w ≡ Some fw → fw ≡ f.Count → (u : Toks) → g.Prim (word w ∷ mark m.Open ∷ mark m.Star ∷ mark m.Close ∷ u) (agg_of_rows aggs.CountAll) u
rows_take w fw known same u = g.a_count (known ∙ ap Some same)

module _ (f : Reader Ex) (t : Takes g.Expr f) where
  module _ (s : Reader Ex) (ts_ : Takes (g.Chain lv.Sum) s) (n : ℕ) where
    among-takes : (a : Ex) (ts r : Toks) (x : Ex × Toks) → ts ≡ mark m.In ∷ r → among_by f n a r ≡ Some x → g.Test a ts x.0 x.1
    unfolding among_by
    among-takes a ts r x is_in e =
        bind_then (after m.Open r) _ x e (λ q open_ h.
        bind_then (list_by f n q) _ x h (λ es read h2.
        map_then _ (after m.Close es.1) x h2 (λ u close h3.
        rw (is_in, after-some m.Open r q open_, ← h3) (g.among (rw (after-some m.Close es.1 u close) at (list-takes f t n q es read))))))

    range-takes : (a : Ex) (ts r : Toks) (x : Ex × Toks) → ts ≡ mark m.Between ∷ r → range_by s a r ≡ Some x → g.Test a ts x.0 x.1
    unfolding range_by
    range-takes a ts r x is_between e =
        bind_then (s r) _ x e (λ b read h.
        bind_then (after m.And b.1) _ x h (λ q and_ h2.
        map_then _ (s q) x h2 (λ c read2 h3.
        rw (is_between, ← h3) (g.from_to (rw (after-some m.And b.1 q and_) at (ts_ r b read)) (ts_ q c read2)))))

    test-takes : (a : Ex) (ts : Toks) (x : Ex × Toks) → test_by s f n a ts ≡ Some x → g.Test a ts x.0 x.1
    unfolding test_by
    test-takes a ts x e =
        match_then (after m.In ts) _ _ _ e
        (λ none h. match_then (after m.Between ts) _ _ _ h (λ none2 h2. like-takes a ts x h2) (λ r is_between h2. range-takes a ts r x (after-some m.Between ts r is_between) h2))
        (λ r is_in h. among-takes a ts r x (after-some m.In ts r is_in) h)

    tested-takes : (ts : Toks) (y : Ex × Toks) → g.Chain lv.Sum ts y.0 y.1 → (x : Ex × Toks) → tested_by s f n y.0 y.1 ≡ Some x → g.Pred ts x.0 x.1
    unfolding tested_by
    tested-takes ts y first x e =
        match_then (compare_at y.1) _ _ _ e
        (λ none h. match_then (after m.Is y.1) _ _ _ h
        (λ none2 h2. match_then (after m.Not y.1) _ _ _ h2
        (λ none3 h3. if_then (is_test y.1) _ _ _ h3 (λ b h4. g.tested first (test-takes y.0 y.1 x h4)) (λ b h4. rw (← some_is _ _ h4) (g.alone first)))
        (λ r not_ h3. map_then _ (test_by s f n y.0 r) x h3 (λ z read h4. rw (← h4) (g.tested_not (rw (after-some m.Not y.1 r not_) at first) (test-takes y.0 r z read)))))
        (λ r is_ h2. is-takes ts r y.0 (rw (after-some m.Is y.1 r is_) at first) x h2))
        (λ o is_ h. map_then _ (s o.1) x h (λ b read h2. let c = compare-some y.1 o is_ in rw (← h2) (g.compared c.1 (rw c.2 at first) (ts_ o.1 b read))))

    pred-takes : Takes g.Pred (pred_by s f n)
    unfolding pred_by
    pred-takes ts x e = bind_then (s ts) _ x e (λ a read h. tested-takes ts a (ts_ ts a read) x h)

  whens-take : (n : ℕ) → Takes g.Whens (whens_by f n)
  whens-take zero ts x e = absurd cc
  whens-take (suc n) ts x e =
      bind_then (after m.When ts) _ x e (λ r when h.
      bind_then (f r) _ x h (λ a read h2.
      bind_then (after m.Then a.1) _ x h2 (λ s then h3.
      bind_then (f s) _ x h3 (λ b read2 h4.
      let first = rw (after-some m.Then a.1 s then) at (t r a read) in
      match_then (after m.When b.1) _ _ _ h4
      (λ none h5. rw (after-some m.When ts r when, ← some_is _ _ h5) (g.last_when first (t s b read2)))
      (λ q more h5. map_then _ (whens_by f n b.1) x h5 (λ o others h6.
      let d = whens-take n b.1 o others in
      rw (after-some m.When ts r when, ← h6) (g.more_whens first (t s b read2) d)))))))

  else-takes : (ts : Toks) (x : Ex × Toks) → else_by f ts ≡ Some x → g.Else ts x.0 (mark m.End ∷ x.1)
  unfolding else_by
  else-takes ts x e =
      match_then (after m.Else ts) _ _ _ e
      (λ none h. map_then _ (after m.End ts) x h (λ r end h2. rw (after-some m.End ts r end, ← h2) g.without))
      (λ r else h. bind_then (f r) _ x h (λ a read h2. map_then _ (after m.End a.1) x h2 (λ q end h3.
      rw (after-some m.Else ts r else, ← h3) (g.otherwise (rw (after-some m.End a.1 q end) at (t r a read))))))

  case-takes : (n : ℕ) (ts : Toks) (x : Ex × Toks) → case_by f n ts ≡ Some x → g.Prim (mark m.Case ∷ ts) x.0 x.1
  unfolding case_by
  case-takes n ts x e =
      bind_then (whens_by f n ts) _ x e (λ a read h.
      map_then _ (else_by f a.1) x h (λ b read2 h2.
      rw (← h2) (g.a_case (whens-take n ts a read) (else-takes a.1 b read2))))

  parens-take : (ts : Toks) (x : Ex × Toks) → parens_by f ts ≡ Some x → g.Prim (mark m.Open ∷ ts) x.0 x.1
  unfolding parens_by
  parens-take ts x e =
      bind_then (f ts) _ x e (λ a read h.
      map_then _ (after m.Close a.1) x h (λ r close h2. rw (← h2) (g.in_parens (rw (after-some m.Close a.1 r close) at (t ts a read)))))

  cast_ends : (ts r : Toks) (a : Ex) → g.Expr ts a r → (x : Ex × Toks) → cast_end a r ≡ Some x → g.Prim (mark m.Cast ∷ mark m.Open ∷ ts) x.0 x.1
  unfolding cast_end
  cast_ends ts r a first x e =
      bind_then (after m.As r) _ x e (λ q as_ h.
      bind_then (word_at q) _ x h (λ w read h2.
      bind_then (cast_word w.0) _ x h2 (λ c known h3.
      map_then _ (after m.Close w.1) x h3 (λ u close h4.
      rw (← h4) (g.a_cast (rw (after-some m.As r q as_, word_at-some q w read, after-some m.Close w.1 u close) at first) known)))))

  cast-takes : (ts : Toks) (x : Ex × Toks) → cast_by f ts ≡ Some x → g.Prim (mark m.Cast ∷ ts) x.0 x.1
  unfolding cast_by
  cast-takes ts x e =
      bind_then (after m.Open ts) _ x e (λ r open_ h.
      bind_then (f r) _ x h (λ a read h2.
      rw (after-some m.Open ts r open_) (cast_ends r a.1 a.0 (t r a read) x h2)))

  marked-takes : (n : ℕ) (k : Mark) (ts : Toks) (x : Ex × Toks) → marked_by f n k ts ≡ Some x → g.Prim (mark k ∷ ts) x.0 x.1
  unfolding marked_by
  marked-takes n m.Open ts x e = parens-take ts x e
  marked-takes n m.Case ts x e = case-takes n ts x e
  marked-takes n m.Cast ts x e = cast-takes ts x e
  marked-takes n m.Null ts x e = rw (← some_is _ _ e) (g.a_literal g.is_null)
  marked-takes n m.Missing ts x e = rw (← some_is _ _ e) (g.a_literal g.is_missing)
  marked-takes n m.True ts x e = rw (← some_is _ _ e) (g.a_literal g.is_true)
  marked-takes n m.False ts x e = rw (← some_is _ _ e) (g.a_literal g.is_false)
  marked-takes n _ ts x e = absurd cc

  match_ends : (w : List ℕ) (fw : FunctionWord) (h : How) → function_word w ≡ Some fw → g.Matches fw h → (ts r : Toks) (a : Ex) → g.Expr ts a r → (x : Ex × Toks) → match_end h a r ≡ Some x → g.Prim (word w ∷ mark m.Open ∷ ts) x.0 x.1
  unfolding match_end
  match_ends w fw h known by ts r a first x e =
      bind_then (after m.Comma r) _ x e (λ q comma h1.
      bind_then (string_at q) _ x h1 (λ p read h2.
      map_then _ (after m.Close p.1) x h2 (λ u close h3.
      rw (← h3) (g.a_match known by (rw (after-some m.Comma r q comma, string_at-some q p read, after-some m.Close p.1 u close) at first)))))

  match-takes : (w : List ℕ) (fw : FunctionWord) (h : How) → function_word w ≡ Some fw → g.Matches fw h → (ts : Toks) (x : Ex × Toks) → match_by f h ts ≡ Some x → g.Prim (word w ∷ mark m.Open ∷ ts) x.0 x.1
  unfolding match_by
  match-takes w fw h known by ts x e =
      bind_then (f ts) _ x e (λ a read h1. match_ends w fw h known by ts a.1 a.0 (t ts a read) x h1)

  args-take : (n : ℕ) (w : List ℕ) (fw : FunctionWord) → function_word w ≡ Some fw → (ts : Toks) (x : Ex × Toks) → args_by f n fw ts ≡ Some x → g.Prim (word w ∷ mark m.Open ∷ ts) x.0 x.1
  unfolding args_by
  args-take n w fw known ts x e =
      bind_then (head_at fw ts) _ x e (λ h read h1.
      bind_then (list_by f n h.1) _ x h1 (λ es read2 h2.
      bind_then (made h.0 es.0) _ x h2 (λ c makes h3.
      map_then _ (after m.Close es.1) x h3 (λ u close h4.
      rw (← h4) (g.a_call known (head-takes fw ts h read) (rw (after-some m.Close es.1 u close) at (list-takes f t n h.1 es read2)) (makes_of h.0 es.0 c makes))))))

  call-takes : (n : ℕ) (w : List ℕ) (fw : FunctionWord) → function_word w ≡ Some fw → (ts : Toks) (x : Ex × Toks) → call_by f n fw ts ≡ Some x → g.Prim (word w ∷ mark m.Open ∷ ts) x.0 x.1
  unfolding call_by
  call-takes n w fw known ts x e =
      match_then (rows_at fw ts) _ _ _ e
      (λ none h. match_then (match_of fw) _ _ _ h (λ none2 h2. args-take n w fw known ts x h2) (λ by is_ h2. match-takes w fw by known (matches_of fw by is_) ts x h2))
      (λ r star_ h. map_then _ (after m.Close r) x h (λ u close h2.
      let s = rows-some fw ts r star_ in
      rw (s.1, after-some m.Close r u close, ← h2) (rows_take w fw known s.0 u)))

  word-takes : (n : ℕ) (w : List ℕ) (ts : Toks) (x : Ex × Toks) → word_by f n w ts ≡ Some x → g.Prim (word w ∷ ts) x.0 x.1
  unfolding word_by
  word-takes n w ts x e =
      match_then (after m.Open ts) _ _ _ e
      (λ none h. map_then _ (steps_at n ts) x h (λ p read h2. rw (← h2) (g.a_path g.bare (steps-take n ts p read))))
      (λ r open_ h. bind_then (function_word w) _ x h (λ fw known h2. rw (after-some m.Open ts r open_) (call-takes n w fw known r x h2)))

  prim-takes : (n : ℕ) → Takes g.Prim (prim_by f n)
  unfolding prim_by
  prim-takes n [] x e = absurd cc
  prim-takes n (num k ∷ ts) x e = rw (← some_is _ _ e) g.a_number
  prim-takes n (string p ∷ ts) x e = rw (← some_is _ _ e) g.a_string
  prim-takes n (moment p ∷ ts) x e = rw (← some_is _ _ e) g.a_moment
  prim-takes n (word w ∷ ts) x e = word-takes n w ts x e
  prim-takes n (quoted w ∷ ts) x e = map_then _ (steps_at n ts) x e (λ p read h. rw (← h) (g.a_path g.in_quotes (steps-take n ts p read)))
  prim-takes n (mark k ∷ ts) x e = marked-takes n k ts x e
  prim-takes n (no_token ∷ ts) x e = absurd cc

  or-takes : (n : ℕ) → Takes g.Expr (or_by f n)
  or-takes n =
      let minuses : Takes g.Minus (minus_by f n) = prefixed-takes g.Minus m.Minus neg _ (λ ts x e. g.unsigned (prim-takes n ts x e)) (λ e s t r. g.minus r) in
      let terms : Takes (g.Chain lv.Term) (term_by f n) = chain-takes lv.Term _ (λ ts x e. g.of_term (minuses ts x e)) n in
      let sums : Takes (g.Chain lv.Sum) (sum_by f n) = chain-takes lv.Sum _ (λ ts x e. g.of_sum (terms ts x e)) n in
      let negs : Takes g.Neg (neg_by f n) = prefixed-takes g.Neg m.Not no _ (λ ts x e. g.plain (pred-takes _ sums n ts x e)) (λ e s t r. g.negated r) in
      let ands : Takes (g.Chain lv.And) (and_by f n) = chain-takes lv.And _ (λ ts x e. g.of_and (negs ts x e)) n in
      chain-takes lv.Or _ (λ ts x e. g.of_or (ands ts x e)) n

pub expr-takes : (n : ℕ) → Takes g.Expr (expr_at n)
unfolding expr_at
expr-takes zero ts x e = absurd cc
expr-takes (suc n) ts x e = or-takes (expr_at n) (expr-takes n) n ts x e
