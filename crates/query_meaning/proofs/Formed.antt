-- Trees of good tokens are well formed.
use Rattle.std.proofs.Common.{◌≡◌, ℕ, ◌<◌, ◌≤◌, ◌^◌, List, [], ◌∷◌, length, Bool, true, Option, Some, None, refl, arith}
use Rattle.std.specs.Prelude.{All, IfSome}
use Rattle.std.proofs.lemmas.List.Elements.{All-nil, All-cons}
use Rattle.value_meaning.specs.Val.{Val}
use Rattle.time_meaning.specs.Moments.{IsTime}
use Rattle.query_meaning.specs.declared.Mark.{Mark}
use Rattle.query_meaning.specs.declared.FunctionWord.{FunctionWord}
use Rattle.query_meaning.specs.declared.Level.{Level}
use Rattle.tree_meaning.specs.Parts.{is_cut_to, is_extracted, is_added}
use Rattle.tree_meaning.specs.Tree.{Step, name, at, Ex, Arms, exs, items, Outs, Query}
use Rattle.query_meaning.specs.Tokens.{Tok, Toks, mark, word, quoted, string, moment, num, no_token}
use Rattle.query_meaning.specs.Grammar.{Denotes, is_null, is_missing, is_true, is_false, Head, function, aggregate, truncation, extraction, addition, Calls, by_coalesce, by_null_if, by_char_length, by_unix_epoch, by_unix_micro, by_count, by_sum, by_min, by_max, by_avg, by_earliest, by_latest, by_bool_and, by_bool_or, Opens, nothing, cut_to, part_from, added, Makes, coalesce, null_if, char_length, unix_epoch, unix_micro, aggregated, truncated, extracted, shifted, Name, bare, in_quotes, Steps, no_steps, dotted, indexed, Chain, chain, More, stop, more, Operand, of_or, of_and, of_sum, of_term, Neg, plain, negated, Pred, alone, compared, asked, asked_not, tested, tested_not, Test, among, from_to, likened, Minus, unsigned, minus, Prim, a_number, a_string, a_moment, a_literal, a_path, in_parens, a_case, a_cast, a_call, a_match, a_count, Whens, last_when, more_whens, Else, without, otherwise, Exprs, last_expr, more_exprs, Alias, no_alias, alias, as_alias, Items, last_item, more_items, Outputs, all, listed, Direction, rising, ascending, descending, Keys, last_key, more_keys, Filter, no_filter, filter, Groups, no_groups, groups, Order, no_order, order, Count, no_count, count, skip_of, Written, written}
use Rattle.tree_meaning.specs.WellFormed.{IsName, IsLiteral, IsStep, IsOfRows, HasArm, IsFormed, AreFormed, ArmsAreFormed, IsOutput, AreOutputs, IsKey, IsCount, IsWellFormed}

-- what every token of a text is
abbrev pub IsToken : Tok → Type 0
IsToken (mark k) = Unit {0}
IsToken (word n) = IsName n
IsToken (quoted n) = IsName n
IsToken (string p) = Unit {0}
IsToken (moment t) = IsTime t
IsToken (num n) = n < 2 ^ 63
IsToken no_token = Unit {0}

abbrev pub AreTokens : Toks → Type 0
AreTokens [] = Unit {0}
AreTokens (t ∷ ts) = IsToken t × AreTokens ts

literal_formed : {k : Mark} {v : Val} → Denotes k v → IsLiteral v
literal_formed is_null = tt
literal_formed is_missing = tt
literal_formed is_true = tt
literal_formed is_false = tt

-- what stands before the expressions of a call
abbrev IsHead : Head → Type 0
IsHead (function f) = Unit {0}
IsHead (aggregate n) = IsOfRows n → ⊥
IsHead (truncation p) = is_cut_to p ≡ true
IsHead (extraction p) = is_extracted p ≡ true
IsHead (addition p) = is_added p ≡ true

calls_formed : {w : FunctionWord} {h : Head} → Calls w h → IsHead h
calls_formed by_coalesce = tt
calls_formed by_null_if = tt
calls_formed by_char_length = tt
calls_formed by_unix_epoch = tt
calls_formed by_unix_micro = tt
calls_formed by_count = λ e. cc
calls_formed by_sum = λ e. cc
calls_formed by_min = λ e. cc
calls_formed by_max = λ e. cc
calls_formed by_avg = λ e. cc
calls_formed by_earliest = λ e. cc
calls_formed by_latest = λ e. cc
calls_formed by_bool_and = λ e. cc
calls_formed by_bool_or = λ e. cc

opens_formed : {w : FunctionWord} {h : Head} {s t : Toks} → Opens w s h t → AreTokens s → IsHead h × AreTokens t
opens_formed (nothing c) g = (calls_formed c, g)
opens_formed (cut_to w c) g = (c, g.1.1)
opens_formed (part_from w c) g = (c, g.1.1)
opens_formed (added w c) g = (c, g.1.1)

makes_formed : {h : Head} {es : List Ex} {e : Ex} → Makes h es e → IsHead h → AreFormed (exs es) → IsFormed e
makes_formed coalesce h f = (f, omega arith)
makes_formed null_if h f = (f, refl)
makes_formed char_length h f = (f, refl)
makes_formed unix_epoch h f = (f, refl)
makes_formed unix_micro h f = (f, refl)
makes_formed aggregated h f = (h, f.0)
makes_formed truncated h f = (h, f.0)
makes_formed extracted h f = (h, f.0)
makes_formed shifted h f = (h, f.0, f.1.0)

name_formed : {k : Tok} {n : List ℕ} → Name k n → IsToken k → IsName n
name_formed bare g = g
name_formed in_quotes g = g

steps_formed : {ss : List Step} {s t : Toks} → Steps s ss t → AreTokens s → All IsStep ss × AreTokens t
steps_formed no_steps g = (All-nil IsStep, g)
steps_formed (dotted {n = n} {ss = ss} k r) g =
    let behind = steps_formed r g.1.1 in (All-cons IsStep (name n) ss (name_formed k g.1.0) behind.0, behind.1)
steps_formed (indexed {i = i} {ss = ss} h r) g =
    let behind = steps_formed r g.1.1.1 in (All-cons IsStep (at i) ss (omega (arith, h)) behind.0, behind.1)

mutual
  pub chain_formed : {l : Level} {e : Ex} {s t : Toks} → Chain l s e t → AreTokens s → IsFormed e × AreTokens t
  chain_formed (chain d r) g = let x = operand_formed d g in more_formed r x.0 x.1

  more_formed : {l : Level} {a e : Ex} {s t : Toks} → More l a s e t → IsFormed a → AreTokens s → IsFormed e × AreTokens t
  more_formed stop f g = (f, g)
  more_formed (more j d r) f g = let x = operand_formed d g.1 in more_formed r (f, x.0) x.1

  operand_formed : {l : Level} {e : Ex} {s t : Toks} → Operand l s e t → AreTokens s → IsFormed e × AreTokens t
  operand_formed (of_or d) g = chain_formed d g
  operand_formed (of_and d) g = neg_formed d g
  operand_formed (of_sum d) g = chain_formed d g
  operand_formed (of_term d) g = minus_formed d g

  neg_formed : {e : Ex} {s t : Toks} → Neg s e t → AreTokens s → IsFormed e × AreTokens t
  neg_formed (plain d) g = pred_formed d g
  neg_formed (negated d) g = neg_formed d g.1

  pred_formed : {e : Ex} {s t : Toks} → Pred s e t → AreTokens s → IsFormed e × AreTokens t
  pred_formed (alone d) g = chain_formed d g
  pred_formed (compared c d b) g = let x = chain_formed d g in let y = chain_formed b x.1.1 in ((x.0, y.0), y.1)
  pred_formed (asked a d) g = let x = chain_formed d g in (x.0, x.1.1.1)
  pred_formed (asked_not a d) g = let x = chain_formed d g in (x.0, x.1.1.1.1)
  pred_formed (tested d b) g = let x = chain_formed d g in test_formed b x.0 x.1
  pred_formed (tested_not d b) g = let x = chain_formed d g in test_formed b x.0 x.1.1

  test_formed : {a e : Ex} {s t : Toks} → Test a s e t → IsFormed a → AreTokens s → IsFormed e × AreTokens t
  test_formed (among d) f g = let x = exprs_formed d g.1.1 in ((f, x.0, x.1), x.2.1)
  test_formed (from_to a b) f g = let x = chain_formed a g.1 in let y = chain_formed b x.1.1 in ((f, x.0, y.0), y.1)
  test_formed (likened h) f g = (f, g.1.1)

  minus_formed : {e : Ex} {s t : Toks} → Minus s e t → AreTokens s → IsFormed e × AreTokens t
  minus_formed (unsigned d) g = prim_formed d g
  minus_formed (minus d) g = minus_formed d g.1

  prim_formed : {e : Ex} {s t : Toks} → Prim s e t → AreTokens s → IsFormed e × AreTokens t
  prim_formed a_number g = g
  prim_formed a_string g = g
  prim_formed a_moment g = g
  prim_formed (a_literal d) g = (literal_formed d, g.1)
  prim_formed (a_path k p) g = let x = steps_formed p g.1 in ((refl, (name_formed k g.0, x.0)), x.1)
  prim_formed (in_parens d) g = let x = chain_formed d g.1 in (x.0, x.1.1)
  prim_formed (a_case w d) g = let x = whens_formed w g.1 in let y = else_formed d x.2 in ((x.0, x.1, y.0), y.1.1)
  prim_formed (a_cast d c) g = let x = chain_formed d g.1.1 in (x.0, x.1.1.1.1)
  prim_formed (a_call k o d c) g =
      let x = opens_formed o g.1.1 in let y = exprs_formed d x.1 in (makes_formed c x.0 y.0, y.2.1)
  prim_formed (a_match k c d) g = let x = chain_formed d g.1.1 in (x.0, x.1.1.1.1)
  prim_formed (a_count k) g = (refl, g.1.1.1.1)

  whens_formed : {a : Arms} {s t : Toks} → Whens s a t → AreTokens s → ArmsAreFormed a × HasArm a × AreTokens t
  whens_formed (last_when c d) g = let x = chain_formed c g.1 in let y = chain_formed d x.1.1 in ((x.0, y.0, tt), tt, y.1)
  whens_formed (more_whens c d w) g =
      let x = chain_formed c g.1 in let y = chain_formed d x.1.1 in let z = whens_formed w y.1 in ((x.0, y.0, z.0), tt, z.2)

  else_formed : {e : Ex} {s t : Toks} → Else s e t → AreTokens s → IsFormed e × AreTokens t
  else_formed without g = (tt, g)
  else_formed (otherwise d) g = chain_formed d g.1

  exprs_formed : {es : List Ex} {s t : Toks} → Exprs s es t → AreTokens s → AreFormed (exs es) × (1 ≤ length (items (exs es))) × AreTokens t
  exprs_formed (last_expr d) g = let x = chain_formed d g in ((x.0, tt), omega arith, x.1)
  exprs_formed (more_exprs d r) g = let x = chain_formed d g in let y = exprs_formed r x.1.1 in ((x.0, y.0), omega arith, y.2)

all_formed : (es : List Ex) → AreFormed (exs es) → All IsFormed es
all_formed [] f = All-nil IsFormed
all_formed (e ∷ es) f = All-cons IsFormed e es f.0 (all_formed es f.1)

alias_formed : {o : Option (List ℕ)} {s t : Toks} → Alias s o t → AreTokens s → IfSome o IsName × AreTokens t
alias_formed no_alias g = (tt, g)
alias_formed (alias k) g = (name_formed k g.0, g.1)
alias_formed (as_alias k) g = (name_formed k g.1.0, g.1.1)

items_formed : {is : List (Ex × Option (List ℕ))} {s t : Toks} → Items s is t → AreTokens s → (1 ≤ length is) × All IsOutput is × AreTokens t
items_formed (last_item {e = e} {n = n} d a) g =
    let x = chain_formed d g in let y = alias_formed a x.1 in
    (omega arith, All-cons IsOutput (e, n) [] (x.0, y.0) (All-nil IsOutput), y.1)
items_formed (more_items {e = e} {n = n} {items = is} d a r) g =
    let x = chain_formed d g in let y = alias_formed a x.1 in let z = items_formed r y.1.1 in
    (omega arith, All-cons IsOutput (e, n) is (x.0, y.0) z.1, z.2)

outputs_formed : {o : Outs} {s t : Toks} → Outputs s o t → AreTokens s → AreOutputs o × AreTokens t
outputs_formed all g = (tt, g.1)
outputs_formed (listed d) g = let x = items_formed d g in ((x.0, x.1), x.2)

direction_formed : {d : Bool} {s t : Toks} → Direction s d t → AreTokens s → AreTokens t
direction_formed rising g = g
direction_formed ascending g = g.1
direction_formed descending g = g.1

keys_formed : {ks : List (Ex × Bool)} {s t : Toks} → Keys s ks t → AreTokens s → All IsKey ks × AreTokens t
keys_formed (last_key {e = e} {d = d} x y) g =
    let f = chain_formed x g in let h = direction_formed y f.1 in (All-cons IsKey (e, d) [] f.0 (All-nil IsKey), h)
keys_formed (more_keys {e = e} {d = d} {ks = ks} x y r) g =
    let f = chain_formed x g in let h = direction_formed y f.1 in let z = keys_formed r h.1 in
    (All-cons IsKey (e, d) ks f.0 z.0, z.1)

filter_formed : {k : Mark} {o : Option Ex} {s t : Toks} → Filter k s o t → AreTokens s → IfSome o IsFormed × AreTokens t
filter_formed no_filter g = (tt, g)
filter_formed (filter d) g = chain_formed d g.1

groups_formed : {es : List Ex} {s t : Toks} → Groups s es t → AreTokens s → All IsFormed es × AreTokens t
groups_formed no_groups g = (All-nil IsFormed, g)
groups_formed (groups {es = es} d) g = let x = exprs_formed d g.1.1 in (all_formed es x.0, x.2)

order_formed : {ks : List (Ex × Bool)} {s t : Toks} → Order s ks t → AreTokens s → All IsKey ks × AreTokens t
order_formed no_order g = (All-nil IsKey, g)
order_formed (order d) g = keys_formed d g.1.1

count_formed : {k : Mark} {o : Option ℕ} {s t : Toks} → Count k s o t → AreTokens s → IfSome o IsCount × AreTokens t
count_formed no_count g = (tt, g)
count_formed count g = (g.1.0, g.1.1)

skip_formed : (o : Option ℕ) → IfSome o IsCount → IsCount (skip_of o)
skip_formed None h = omega arith
skip_formed (Some n) h = h

pub written_formed : {q : Query} {s : Toks} → Written s q → AreTokens s → IsWellFormed q
written_formed (written {skip = skip} o k a w g v r l z) h =
    let outs = outputs_formed o h.1 in
    let behind = outs.1.1 in
    let other = alias_formed a behind.1 in
    let where_ = filter_formed w other.1 in
    let by = groups_formed g where_.1 in
    let having = filter_formed v by.1 in
    let rising = order_formed r having.1 in
    let limit = count_formed l rising.1 in
    let offset = count_formed z limit.1 in
    record {
      outs = outs.0;
      source = name_formed k behind.0;
      alias = other.0;
      filter = where_.0;
      keys = by.0;
      having = having.0;
      order = rising.0;
      take = limit.0;
      skip = skip_formed skip offset.0;
    }
