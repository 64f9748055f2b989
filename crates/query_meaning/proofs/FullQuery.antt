-- A query of the grammar is read, and the tokens have no other.
use Rattle.std.proofs.Common.{◌≡◌, ℕ, zero, suc, ◌<◌, ◌≤◌, List, [], ◌∷◌, length, Option, Some, None, Bool, true, false, cond, refl, sym, ap, ◌∙◌, arith}
use Rattle.query_meaning.specs.declared.Mark.{Mark}
use Rattle.query_meaning.specs.declared.Mark.TheVariants as m
use Rattle.tree_meaning.specs.Tree.{Ex, Outs, Query}
use Rattle.query_meaning.specs.Tokens.{Tok, Toks, mark, word, quoted, string, moment, num, no_token}
use Rattle.query_meaning.specs.Grammar.{Name, bare, in_quotes, Expr, Alias, no_alias, alias, as_alias, Items, last_item, more_items, Outputs, all, listed, Direction, rising, ascending, descending, Keys, last_key, more_keys, Filter, no_filter, filter, Groups, no_groups, groups, Order, no_order, order, Count, no_count, count, skip_of, Written, written, IsQuery}
use Rattle.query_meaning.specs.Reading.{is_mark, after, name_at, num_at, list_by, expr_at, alias_at, item_by, outputs_by, direction_at, key_by, filter_by, groups_by, order_by, count_at, window_at, raw_in, raw_of, query_of}
use Rattle.query_meaning.proofs.Steps.{some_is, is_mark-true}
use Rattle.query_meaning.proofs.Full.{strength, chain_less, exprs_less, expr_full, list_full, no_star, starry, name_at-name}

-- which part of a query a mark begins, in their order; 0 begins none
abbrev pub rank : Mark → ℕ
rank m.Where = 1
rank m.Group = 2
rank m.Having = 3
rank m.Order = 4
rank m.Limit = 5
rank m.Offset = 6
rank _ = 0

-- which part of a query begins here, the end being the last
abbrev pub part : Toks → ℕ
part [] = 7
part (mark k ∷ ts) = rank k
part (word n ∷ ts) = 0
part (quoted n ∷ ts) = 0
part (string n ∷ ts) = 0
part (moment n ∷ ts) = 0
part (num n ∷ ts) = 0
part (no_token ∷ ts) = 0

mark_one : (j k : Mark) → mark j ≡ mark k → j ≡ k
mark_one j k e = cc

-- a later part begins with no mark of an earlier one
after_part : (k : Mark) (ts : Toks) → rank k < part ts → after k ts ≡ None
after_part k [] h = refl
after_part k (word n ∷ ts) h = refl
after_part k (quoted n ∷ ts) h = refl
after_part k (string n ∷ ts) h = refl
after_part k (moment n ∷ ts) h = refl
after_part k (num n ∷ ts) h = refl
after_part k (no_token ∷ ts) h = refl
after_part k (mark j ∷ ts) h = go (is_mark k (mark j)) (λ b. mark_one j k (is_mark-true k (mark j) b))
  where
    go : (b : Bool) → (b ≡ true → j ≡ k) → cond b (Some ts) None ≡ None
    go true f = absurd (omega (arith, ap rank (f refl)))
    go false f = refl

weak_mark : (k : Mark) (ts : Toks) → 1 ≤ rank k → strength (mark k ∷ ts) < 1
weak_mark m.Where ts h = omega arith
weak_mark m.Group ts h = omega arith
weak_mark m.Having ts h = omega arith
weak_mark m.Order ts h = omega arith
weak_mark m.Limit ts h = omega arith
weak_mark m.Offset ts h = omega arith
weak_mark _ ts h = absurd (omega arith)

weak_part : (ts : Toks) → 1 ≤ part ts → strength ts < 1
weak_part [] h = omega arith
weak_part (word n ∷ ts) h = omega arith
weak_part (quoted n ∷ ts) h = omega arith
weak_part (string n ∷ ts) h = omega arith
weak_part (moment n ∷ ts) h = omega arith
weak_part (num n ∷ ts) h = omega arith
weak_part (no_token ∷ ts) h = omega arith
weak_part (mark k ∷ ts) h = weak_mark k ts h

nameless : (ts : Toks) → 1 ≤ part ts → name_at ts ≡ None
unfolding name_at
nameless [] h = refl
nameless (word n ∷ ts) h = absurd (omega arith)
nameless (quoted n ∷ ts) h = absurd (omega arith)
nameless (string n ∷ ts) h = refl
nameless (moment n ∷ ts) h = refl
nameless (num n ∷ ts) h = refl
nameless (no_token ∷ ts) h = refl
nameless (mark k ∷ ts) h = refl

-- nothing goes on with an expression, a name or a direction here
record Ends (ts : Toks) : Type 0 where
  weak : strength ts < 1
  no_as : after m.As ts ≡ None
  no_name : name_at ts ≡ None
  no_asc : after m.Asc ts ≡ None
  no_desc : after m.Desc ts ≡ None

part_ends : (ts : Toks) → 1 ≤ part ts → Ends ts
part_ends ts h = record { weak = weak_part ts h; no_as = after_part m.As ts h; no_name = nameless ts h; no_asc = after_part m.Asc ts h; no_desc = after_part m.Desc ts h }

comma_ends : (ts : Toks) → Ends (mark m.Comma ∷ ts)
unfolding name_at
comma_ends ts = record { weak = omega arith; no_as = refl; no_name = refl; no_asc = refl; no_desc = refl }

from_ends : (ts : Toks) → Ends (mark m.From ∷ ts)
unfolding name_at
from_ends ts = record { weak = omega arith; no_as = refl; no_name = refl; no_asc = refl; no_desc = refl }

no_as_name : {k : Tok} {n : List ℕ} → Name k n → (s : Toks) → (after m.As (k ∷ s) ≡ None) × (strength (k ∷ s) < 1)
no_as_name bare s = (refl, omega arith)
no_as_name in_quotes s = (refl, omega arith)

alias_full : {s t : Toks} {n : Option (List ℕ)} → Alias s n t → Ends t → alias_at s ≡ Some (n, t)
unfolding alias_at
alias_full no_alias e = rw (e.no_as, e.no_name) refl
alias_full (alias {s = s} k) e = rw ((no_as_name k s).0, name_at-name k s) refl
alias_full (as_alias {s = s} k) e = rw (name_at-name k s) refl

alias_weak : {s t : Toks} {n : Option (List ℕ)} → Alias s n t → Ends t → strength s < 1
alias_weak no_alias e = e.weak
alias_weak (alias {s = s} k) e = (no_as_name k s).1
alias_weak (as_alias k) e = omega arith

alias_less : {s t : Toks} {n : Option (List ℕ)} → Alias s n t → length t ≤ length s
alias_less no_alias = omega arith
alias_less (alias k) = omega arith
alias_less (as_alias k) = omega arith

item_full : (n : ℕ) {e : Ex} {o : Option (List ℕ)} {s t u : Toks} → Expr s e t → Alias t o u → length s < n → Ends u → item_by (expr_at n) s ≡ Some ((e, o), u)
unfolding item_by
item_full n d a h e = rw (expr_full n d h (alias_weak a e), alias_full a e) refl

items_less : {s t : Toks} {os : List (Ex × Option (List ℕ))} → Items s os t → length t < length s
items_less (last_item d a) = omega (arith, chain_less d, alias_less a)
items_less (more_items d a r) = omega (arith, chain_less d, alias_less a, items_less r)

items_full : (n : ℕ) {os : List (Ex × Option (List ℕ))} {s t : Toks} → Items s os t → length s < n → (k : ℕ) → length s < k → Ends t → after m.Comma t ≡ None → list_by (item_by (expr_at n)) k s ≡ Some (os, t)
items_full n (last_item d a) h zero j w e = absurd (omega arith)
items_full n (last_item d a) h (suc k) j w e = rw (item_full n d a h w, e) refl
items_full n (more_items d a r) h zero j w e = absurd (omega arith)
items_full n (more_items {u = u} d a r) h (suc k) j w e =
    let shorter = chain_less d in
    let shorter2 = alias_less a in
    rw (item_full n d a h (comma_ends u), items_full n r (omega arith) k (omega arith) w e) refl

starry_item : (n : ℕ) (r : Toks) → item_by (expr_at n) (mark m.Star ∷ r) ≡ None
unfolding item_by
starry_item n r = rw (starry n r) refl

outputs_full : (n : ℕ) {o : Outs} {s t : Toks} → Outputs s o t → length s < n → Ends t → after m.Comma t ≡ None → outputs_by (expr_at n) n s ≡ Some (o, t)
unfolding outputs_by
outputs_full n all h w e = refl
outputs_full n {s = s} (listed d) h w e =
    let read = items_full n d h n h w e in
    rw (no_star (item_by (expr_at n)) (starry_item n) n s _ read, read) refl

outputs_less : {o : Outs} {s t : Toks} → Outputs s o t → length t < length s
outputs_less all = omega arith
outputs_less (listed d) = items_less d

direction_full : {s t : Toks} {d : Bool} → Direction s d t → Ends t → direction_at s ≡ (d, t)
unfolding direction_at
direction_full rising e = rw (e.no_desc, e.no_asc) refl
direction_full ascending e = refl
direction_full descending e = refl

direction_weak : {s t : Toks} {d : Bool} → Direction s d t → Ends t → strength s < 1
direction_weak rising e = e.weak
direction_weak ascending e = omega arith
direction_weak descending e = omega arith

direction_less : {s t : Toks} {d : Bool} → Direction s d t → length t ≤ length s
direction_less rising = omega arith
direction_less ascending = omega arith
direction_less descending = omega arith

key_full : (n : ℕ) {e : Ex} {d : Bool} {s t u : Toks} → Expr s e t → Direction t d u → length s < n → Ends u → key_by (expr_at n) s ≡ Some ((e, d), u)
unfolding key_by
key_full n d a h e = rw (expr_full n d h (direction_weak a e), direction_full a e) refl

keys_less : {s t : Toks} {ks : List (Ex × Bool)} → Keys s ks t → length t < length s
keys_less (last_key d a) = omega (arith, chain_less d, direction_less a)
keys_less (more_keys d a r) = omega (arith, chain_less d, direction_less a, keys_less r)

keys_full : (n : ℕ) {ks : List (Ex × Bool)} {s t : Toks} → Keys s ks t → length s < n → (k : ℕ) → length s < k → Ends t → after m.Comma t ≡ None → list_by (key_by (expr_at n)) k s ≡ Some (ks, t)
keys_full n (last_key d a) h zero j w e = absurd (omega arith)
keys_full n (last_key d a) h (suc k) j w e = rw (key_full n d a h w, e) refl
keys_full n (more_keys d a r) h zero j w e = absurd (omega arith)
keys_full n (more_keys {u = u} d a r) h (suc k) j w e =
    let shorter = chain_less d in
    let shorter2 = direction_less a in
    rw (key_full n d a h (comma_ends u), keys_full n r (omega arith) k (omega arith) w e) refl

filter_full : (n : ℕ) {k : Mark} {o : Option Ex} {s t : Toks} → Filter k s o t → length s < n → rank k < part t → 1 ≤ part t → after k (mark k ∷ []) ≡ Some [] → filter_by (expr_at n) k s ≡ Some (o, t)
unfolding filter_by
filter_full n {k} {t = t} no_filter h p q found = rw (after_part k t p) refl
filter_full n {k} (filter {s = s} d) h p q found = rw (here k s found, expr_full n d (omega arith) (weak_part _ q)) refl
  where
    here : (k : Mark) (s : Toks) → after k (mark k ∷ []) ≡ Some [] → after k (mark k ∷ s) ≡ Some s
    here k s e = go (is_mark k (mark k)) e
      where
        go : (b : Bool) → cond b (let o : Option Toks = Some [] in o) None ≡ Some [] → cond b (Some s) None ≡ Some s
        go true e = refl
        go false e = absurd cc

filter_part : {k : Mark} {o : Option Ex} {s t : Toks} → Filter k s o t → rank k ≤ part t → rank k ≤ part s
filter_part no_filter h = h
filter_part (filter d) h = omega arith

filter_less : {k : Mark} {o : Option Ex} {s t : Toks} → Filter k s o t → length t ≤ length s
filter_less no_filter = omega arith
filter_less (filter d) = omega (arith, chain_less d)

groups_full : (n : ℕ) {es : List Ex} {s t : Toks} → Groups s es t → length s < n → 2 < part t → groups_by (expr_at n) n s ≡ Some (es, t)
unfolding groups_by
groups_full n {t = t} no_groups h p = rw (after_part m.Group t p) refl
groups_full n {t = t} (groups d) h p = list_full n d (omega arith) (weak_part t (omega arith)) (after_part m.Comma t (omega arith))

groups_part : {es : List Ex} {s t : Toks} → Groups s es t → 2 ≤ part t → 2 ≤ part s
groups_part no_groups h = h
groups_part (groups d) h = omega arith

groups_less : {es : List Ex} {s t : Toks} → Groups s es t → length t ≤ length s
groups_less no_groups = omega arith
groups_less (groups d) = omega (arith, exprs_less d)

order_full : (n : ℕ) {ks : List (Ex × Bool)} {s t : Toks} → Order s ks t → length s < n → 4 < part t → order_by (expr_at n) n s ≡ Some (ks, t)
unfolding order_by
order_full n {t = t} no_order h p = rw (after_part m.Order t p) refl
order_full n {t = t} (order d) h p = keys_full n d (omega arith) n (omega arith) (part_ends t (omega arith)) (after_part m.Comma t (omega arith))

order_part : {ks : List (Ex × Bool)} {s t : Toks} → Order s ks t → 4 ≤ part t → 4 ≤ part s
order_part no_order h = h
order_part (order d) h = omega arith

limit_full : {o : Option ℕ} {s t : Toks} → Count m.Limit s o t → 5 < part t → count_at m.Limit s ≡ Some (o, t)
unfolding count_at num_at
limit_full {t = t} no_count p = rw (after_part m.Limit t p) refl
limit_full count p = refl

limit_part : {o : Option ℕ} {s t : Toks} → Count m.Limit s o t → 5 ≤ part t → 5 ≤ part s
limit_part no_count h = h
limit_part count h = omega arith

offset_read : {o : Option ℕ} {s t : Toks} → Count m.Offset s o t → t ≡ [] → (count_at m.Offset s ≡ Some (o, t)) × (6 ≤ part s)
unfolding count_at num_at
offset_read no_count e = rw e (refl, omega arith)
offset_read count e = (refl, omega arith)

window_full : {take skip : Option ℕ} {s t : Toks} → Count m.Limit s take t → Count m.Offset t skip [] → window_at s ≡ Some (take, skip_of skip)
unfolding window_at
window_full d e = rw (limit_full d (omega (arith, (offset_read e refl).1)), (offset_read e refl).0) refl

raw_full : (n : ℕ) {q : Query} {s : Toks} → Written s q → length s < n → raw_in n s ≡ Some q
unfolding raw_in
raw_full n (written {k = k} {s = s} {t = t} o a b w g v r l z) h =
    let past_offset = (offset_read z refl).1 in
    let past_limit = limit_part l (omega arith) in
    let past_order = order_part r (omega arith) in
    let past_having = filter_part v (omega arith) in
    let past_groups = groups_part g (omega arith) in
    let past_filter = filter_part w (omega arith) in
    let less_outs = outputs_less o in
    let less_alias = alias_less b in
    let less_filter = filter_less w in
    let less_groups = groups_less g in
    let less_having = filter_less v in
    let read_outs = outputs_full n o (omega arith) (from_ends (k ∷ t)) refl in
    let read_name = name_at-name a t in
    let read_alias = alias_full b (part_ends _ past_filter) in
    let read_filter = filter_full n w (omega arith) (omega arith) (omega arith) refl in
    let read_groups = groups_full n g (omega arith) (omega arith) in
    let read_having = filter_full n v (omega arith) (omega arith) (omega arith) refl in
    let read_order = order_full n r (omega arith) (omega arith) in
    let read_window = window_full l z in
    rw (read_outs, read_name, read_alias, read_filter, read_groups, read_having, read_order, read_window) refl

pub raw-full : {q : Query} {s : Toks} → Written s q → raw_of s ≡ Some q
unfolding raw_of
raw-full {s = s} d = raw_full (suc (length s)) d (omega arith)

pub query-full : {q : Query} {s : Toks} → IsQuery s q → query_of s ≡ Some q
unfolding query_of
query-full d = rw (raw-full d.written, d.bare) refl

-- a list of tokens has at most one query
pub one_query : {p q : Query} {s : Toks} → IsQuery s p → IsQuery s q → p ≡ q
one_query a b = some_is _ _ (sym (query-full a) ∙ query-full b)
