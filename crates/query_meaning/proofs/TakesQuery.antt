-- What is read as a query is one.
use Rattle.std.proofs.Common.{◌≡◌, ℕ, zero, suc, List, [], ◌∷◌, length, Option, Some, None, Bool, true, false, refl, sym}
use Rattle.query_meaning.specs.declared.Mark.{Mark}
use Rattle.query_meaning.specs.declared.Mark.TheVariants as m
use Rattle.tree_meaning.specs.Tree.{Ex, Query}
use Rattle.query_meaning.specs.Tokens.{Toks}
use Rattle.query_meaning.specs.Grammar as g
use Rattle.query_meaning.specs.Grammar.{skip_of}
use Rattle.query_meaning.specs.Reading.{match_option, after, Reader, name_at, num_at, list_by, expr_at, alias_at, item_by, outputs_by, direction_at, key_by, filter_by, groups_by, order_by, count_at, whole, window_at, raw_in, raw_of, query_of}
use Rattle.query_meaning.proofs.Steps.{some_is, bind_then, map_then, match_then, after-some, name_at-some, num_at-some}
use Rattle.query_meaning.proofs.Takes.{Takes, list-takes, expr-takes}

-- what may follow FROM and an expression: a name, or none
bare_alias : (ts : Toks) (o : Option (List ℕ × Toks)) → name_at ts ≡ o → g.Alias ts (match_option o (let n : Option (List ℕ) × Toks = (None, ts) in n) (λ x. (Some x.0, x.1))).0 (match_option o (let n : Option (List ℕ) × Toks = (None, ts) in n) (λ x. (Some x.0, x.1))).1
bare_alias ts None e = g.no_alias
bare_alias ts (Some x) e = let s = name_at-some ts x e in rw s.2 (g.alias s.1)

alias-takes : Takes g.Alias alias_at
unfolding alias_at
alias-takes ts x e =
    match_then (after m.As ts) _ _ _ e
    (λ none h. rw (← some_is _ _ h) (bare_alias ts (name_at ts) refl))
    (λ r as_ h. map_then _ (name_at r) x h (λ n read h2.
    let s = name_at-some r n read in
    rw (after-some m.As ts r as_, s.2, ← h2) (g.as_alias s.1)))

abbrev rest_of : Toks → Option Toks → Bool × Toks
rest_of ts o = match_option o (false, ts) (λ r. (false, r))

ascending_or : (ts : Toks) (o : Option Toks) → after m.Asc ts ≡ o → g.Direction ts (rest_of ts o).0 (rest_of ts o).1
ascending_or ts None e = g.rising
ascending_or ts (Some r) e = rw (after-some m.Asc ts r e) g.ascending

abbrev either_rest : Toks → Option Toks → Bool × Toks
either_rest ts o = match_option o (rest_of ts (after m.Asc ts)) (λ r. (true, r))

descending_or : (ts : Toks) (o : Option Toks) → after m.Desc ts ≡ o → g.Direction ts (either_rest ts o).0 (either_rest ts o).1
descending_or ts None e = ascending_or ts (after m.Asc ts) refl
descending_or ts (Some r) e = rw (after-some m.Desc ts r e) g.descending

direction : (ts : Toks) → g.Direction ts (direction_at ts).0 (direction_at ts).1
unfolding direction_at
direction ts = descending_or ts (after m.Desc ts) refl

module _ (f : Reader Ex) (t : Takes g.Expr f) where
  item-then : {P : Type 0} (ts : Toks) (x : (Ex × Option (List ℕ)) × Toks) → item_by f ts ≡ Some x → ((u : Toks) → g.Expr ts x.0.0 u → g.Alias u x.0.1 x.1 → P) → P
  unfolding item_by
  item-then ts x e go =
      bind_then (f ts) _ x e (λ a read h.
      map_then _ (alias_at a.1) x h (λ n read2 h2. go a.1 (rw (← h2) (t ts a read)) (rw (← h2) (alias-takes a.1 n read2))))

  items-take : (n : ℕ) → Takes g.Items (list_by (item_by f) n)
  items-take zero ts x e = absurd cc
  items-take (suc n) ts x e =
      bind_then (item_by f ts) _ x e (λ a read h.
      item-then ts a read (λ u here name.
      match_then (after m.Comma a.1) _ _ _ h (λ none h2. rw (← some_is _ _ h2) (g.last_item here name)) (λ r comma h2.
      map_then _ (list_by (item_by f) n r) x h2 (λ o others h3.
      let d = items-take n r o others in
      rw (← h3) (g.more_items here (rw (after-some m.Comma a.1 r comma) at name) d)))))

  outputs-take : (n : ℕ) → Takes g.Outputs (outputs_by f n)
  unfolding outputs_by
  outputs-take n ts x e =
      match_then (after m.Star ts) _ _ _ e
      (λ none h. map_then _ (list_by (item_by f) n ts) x h (λ o read h2. rw (← h2) (g.listed (items-take n ts o read))))
      (λ r star_ h. rw (after-some m.Star ts r star_, ← some_is _ _ h) g.all)

  filter-takes : (k : Mark) → Takes (g.Filter k) (filter_by f k)
  unfolding filter_by
  filter-takes k ts x e =
      match_then (after k ts) _ _ _ e
      (λ none h. rw (← some_is _ _ h) g.no_filter)
      (λ r at_ h. map_then _ (f r) x h (λ a read h2. rw (after-some k ts r at_, ← h2) (g.filter (t r a read))))

  groups-take : (n : ℕ) → Takes g.Groups (groups_by f n)
  unfolding groups_by
  groups-take n ts x e =
      match_then (after m.Group ts) _ _ _ e
      (λ none h. rw (← some_is _ _ h) g.no_groups)
      (λ r group h. bind_then (after m.By r) _ x h (λ q by h2.
      rw (after-some m.Group ts r group, after-some m.By r q by) (g.groups (list-takes f t n q x h2))))

  key-then : {P : Type 0} (ts : Toks) (x : (Ex × Bool) × Toks) → key_by f ts ≡ Some x → ((u : Toks) → g.Expr ts x.0.0 u → g.Direction u x.0.1 x.1 → P) → P
  unfolding key_by
  key-then ts x e go = map_then _ (f ts) x e (λ a read h. go a.1 (rw (← h) (t ts a read)) (rw (← h) (direction a.1)))

  keys-take : (n : ℕ) → Takes g.Keys (list_by (key_by f) n)
  keys-take zero ts x e = absurd cc
  keys-take (suc n) ts x e =
      bind_then (key_by f ts) _ x e (λ a read h.
      key-then ts a read (λ u here way.
      match_then (after m.Comma a.1) _ _ _ h (λ none h2. rw (← some_is _ _ h2) (g.last_key here way)) (λ r comma h2.
      map_then _ (list_by (key_by f) n r) x h2 (λ o others h3.
      let d = keys-take n r o others in
      rw (← h3) (g.more_keys here (rw (after-some m.Comma a.1 r comma) at way) d)))))

  order-takes : (n : ℕ) → Takes g.Order (order_by f n)
  unfolding order_by
  order-takes n ts x e =
      match_then (after m.Order ts) _ _ _ e
      (λ none h. rw (← some_is _ _ h) g.no_order)
      (λ r order h. bind_then (after m.By r) _ x h (λ q by h2.
      rw (after-some m.Order ts r order, after-some m.By r q by) (g.order (keys-take n q x h2))))

count-takes : (k : Mark) → Takes (g.Count k) (count_at k)
unfolding count_at
count-takes k ts x e =
    match_then (after k ts) _ _ _ e
    (λ none h. rw (← some_is _ _ h) g.no_count)
    (λ r at_ h. map_then _ (num_at r) x h (λ a read h2. rw (after-some k ts r at_, num_at-some r a read, ← h2) g.count))

whole-some : {A : Type 0} (a b : A) (ts : Toks) → whole (a, ts) ≡ Some b → (a ≡ b) × (ts ≡ [])
whole-some a b [] e = (some_is _ _ e, refl)
whole-some a b (t ∷ ts) e = absurd cc

-- LIMIT, OFFSET and the end
record Window (ts : Toks) (x : Option ℕ × ℕ) : Type 0 where
  between : Toks
  skip : Option ℕ
  limit : g.Count m.Limit ts x.0 between
  offset : g.Count m.Offset between skip []
  skips : skip_of skip ≡ x.1

window-takes : (ts : Toks) (x : Option ℕ × ℕ) → window_at ts ≡ Some x → Window ts x
unfolding window_at
window-takes ts x e =
    bind_then (count_at m.Limit ts) _ x e (λ a read h.
    bind_then (count_at m.Offset a.1) _ x h (λ b read2 h2.
    let w = whole-some (a.0, skip_of b.0) x b.1 h2 in
    let rest : g.Count m.Offset a.1 b.0 [] = rw w.1 at (count-takes m.Offset a.1 b read2) in
    rw (← w.0) (record { between = a.1; skip = b.0; limit = count-takes m.Limit ts a read; offset = rest; skips = refl })))

written_by : (n : ℕ) (ts : Toks) (q : Query) → raw_in n ts ≡ Some q → g.Written ts q
unfolding raw_in
written_by n ts q e =
    bind_then (after m.Select ts) _ q e (λ s select h.
    bind_then (outputs_by (expr_at n) n s) _ q h (λ o read h2.
    bind_then (after m.From o.1) _ q h2 (λ f from h3.
    bind_then (name_at f) _ q h3 (λ k read2 h4.
    bind_then (alias_at k.1) _ q h4 (λ a read3 h5.
    bind_then (filter_by (expr_at n) m.Where a.1) _ q h5 (λ w read4 h6.
    bind_then (groups_by (expr_at n) n w.1) _ q h6 (λ g' read5 h7.
    bind_then (filter_by (expr_at n) m.Having g'.1) _ q h7 (λ h' read6 h8.
    bind_then (order_by (expr_at n) n h'.1) _ q h8 (λ b read7 h9.
    bind_then (window_at b.1) _ q h9 (λ l read8 h10.
    let t = expr-takes n in
    let source = name_at-some f k read2 in
    let outs = rw (after-some m.From o.1 f from, source.2) at (outputs-take (expr_at n) t n s o read) in
    let window = window-takes b.1 l read8 in
    let all = g.written outs source.1 (alias-takes k.1 a read3) (filter-takes (expr_at n) t m.Where a.1 w read4) (groups-take (expr_at n) t n w.1 g' read5) (filter-takes (expr_at n) t m.Having g'.1 h' read6) (order-takes (expr_at n) t n h'.1 b read7) window.limit window.offset in
    rw (after-some m.Select ts s select, ← some_is _ _ h10, ← window.skips) all))))))))))

pub raw-takes : (ts : Toks) (q : Query) → raw_of ts ≡ Some q → g.Written ts q
unfolding raw_of
raw-takes ts q e = written_by (suc (length ts)) ts q e

pub query-takes : (ts : Toks) (q : Query) → query_of ts ≡ Some q → g.IsQuery ts q
unfolding query_of
query-takes ts q e = map_then _ (raw_of ts) q e (λ r read h. record { raw = r; written = raw-takes ts r read; bare = sym h })
