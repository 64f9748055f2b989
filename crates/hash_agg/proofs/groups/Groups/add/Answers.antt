use Rattle.std.proofs.Common.{rules, ◌≡◌, ◌∙◌, ◌<◌, ◌≤◌, List, [], ◌∷◌, ◌++◌, None, sym, ap, subst, refl, arith, map, length, get_or}
use Rattle.std.proofs.lemmas.List.{length-set, length-append}
use Rattle.hash_agg.specs.Groups.{Entry, partials_at, AreApart}
use Rattle.value_meaning.specs.Val.{Val}
use Rattle.hash_agg.specs.declared.group.Group.{Group}
use Rattle.hash_agg.specs.Items.{alone_all, EachHasRoom}
use Rattle.hash_agg.specs.Entries.{entry_of}
use Rattle.tree_meaning.specs.declared.AggName.{AggName}
use Rattle.hash_agg.specs.Held.{Held}
use Rattle.hash_agg.specs.Adds.{only_at}
use Rattle.hash_agg.proofs.Rows.{HaveNames, here_room, here_found, there_apart, there_named, there_joins, there_covers, new_apart, new_joins, named_pushed, moved}
use Rattle.hash_agg.proofs.groups.Groups.add.Goals as goal

pub add-requires-clause-room : goal.add-requires-clause-room
add-requires-clause-room w c =
    let names = c.self.inside.aggs.items in
    let all = c.self.inside.all.items in
    let at = c.in-Some.at in
    let g = c.index_mut.result.now in
    let ks = w.K.RowKeys.values c.args.keys.now in
    let v = c.as_slice.ensures.value in
    let place = subst (λ (l : List Group). (e : Entry) → (get_or (map entry_of l) at e).0 ≡ ks) v c.in-Some.ensures.1 in
    let below : at < length all = let k = ap length v in omega (arith, c.in-Some.ensures.0) in
    let is = c.index_mut.ensures.value in
    let apart = c.self.invariant.0 in
    let named = c.self.invariant.1 in
    here_room names all at g ks below is apart named place (λ ss e. subst (λ ns. EachHasRoom ns ss) (sym (ap (λ (h : Held). h.names) c.self.view_is)) (c.requires.room ss (ap (λ (h : Held). partials_at ks h.entries) (sym c.self.view_is) ∙ e)))

pub invariant_of-self : goal.invariant_of-self
invariant_of-self w c =
    let names = c.self.inside.aggs.items in
    let all = c.self.inside.all.items in
    let at = c.in-Some.at in
    let g = c.index_mut.result.now in
    let ks = w.K.RowKeys.values c.args.keys.now in
    let v = c.as_slice.ensures.value in
    let place = subst (λ (l : List Group). (e : Entry) → (get_or (map entry_of l) at e).0 ≡ ks) v c.in-Some.ensures.1 in
    let below : at < length all = let k = ap length v in omega (arith, c.in-Some.ensures.0) in
    let is = c.index_mut.ensures.value in
    let apart = c.self.invariant.0 in
    let named = c.self.invariant.1 in
    let few = c.self.invariant.2 in
    let long = length-set all at c.add.new.self in
    (there_apart names all at g ks below is apart named place c.add.new.self c.args.items.now c.add.ensures.names c.add.ensures.entry, there_named names all at g ks below is apart named place c.add.new.self c.args.items.now c.add.ensures.names c.add.ensures.entry, omega arith, there_covers names all at g ks below is apart named place c.add.new.self c.args.items.now c.add.ensures.names c.add.ensures.entry c.self.inside.index c.self.invariant.3)

pub returns-in-Some-clause-ok : goal.returns-in-Some-clause-ok
returns-in-Some-clause-ok w c =
    let names = c.self.inside.aggs.items in
    let all = c.self.inside.all.items in
    let at = c.in-Some.at in
    let g = c.index_mut.result.now in
    let ks = w.K.RowKeys.values c.args.keys.now in
    let v = c.as_slice.ensures.value in
    let place = subst (λ (l : List Group). (e : Entry) → (get_or (map entry_of l) at e).0 ≡ ks) v c.in-Some.ensures.1 in
    let below : at < length all = let k = ap length v in omega (arith, c.in-Some.ensures.0) in
    let is = c.index_mut.ensures.value in
    let apart = c.self.invariant.0 in
    let named = c.self.invariant.1 in
    moved (λ ns. only_at ks (alone_all ns c.args.items.now)) _ _ _ c.self.view_is (record { names = refl; limit = refl; entries = there_joins names all at g ks below is apart named place c.add.new.self c.args.items.now c.add.ensures.names c.add.ensures.entry })

pub returns-in-Some-clause-over : goal.returns-in-Some-clause-over
returns-in-Some-clause-over w c =
    let names = c.self.inside.aggs.items in
    let all = c.self.inside.all.items in
    let at = c.in-Some.at in
    let g = c.index_mut.result.now in
    let ks = w.K.RowKeys.values c.args.keys.now in
    let v = c.as_slice.ensures.value in
    let place = subst (λ (l : List Group). (e : Entry) → (get_or (map entry_of l) at e).0 ≡ ks) v c.in-Some.ensures.1 in
    let below : at < length all = let k = ap length v in omega (arith, c.in-Some.ensures.0) in
    let is = c.index_mut.ensures.value in
    let apart = c.self.invariant.0 in
    let named = c.self.invariant.1 in
    let found = here_found names all at g ks below is apart named place in
    (λ e. cc, λ n. let none : partials_at ks (map entry_of all) ≡ None = ap (λ (h : Held). partials_at ks h.entries) c.self.view_is ∙ n.0 in cc)

pub invariant_of-self-in-None : goal.invariant_of-self-in-None
invariant_of-self-in-None w c =
    let names = c.self.inside.aggs.items in
    let all = c.self.inside.all.items in
    let group = c.in_ok-group-in-None.group in
    let ks = w.K.RowKeys.values c.args.keys.now in
    let states = alone_all names c.args.items.now in
    let none : partials_at ks (map entry_of all) ≡ None = ap (λ l. partials_at ks (map entry_of l)) (sym c.as_slice.ensures.value) ∙ c.in-None.ensures in
    let a = c.as_slice-in-None.ensures.value in
    let entry : entry_of group ≡ (ks, states) = c.in_ok-group-in-None.ensures.entry ∙ ap (λ (l : List AggName). (ks, alone_all l c.args.items.now)) a in
    let named = c.in_ok-group-in-None.ensures.names ∙ a in
    let pushed = c.in-Ok.ensures.items in
    let long = length-append all (group ∷ []) in
    let few : length (all ++ group ∷ []) ≤ c.self.inside.limit = let n = c.len.ensures in let f = c.if-len-self.false in omega arith in
    let three : AreApart (map entry_of c.push.new.self.items) × HaveNames names c.push.new.self.items × length c.push.new.self.items ≤ c.self.inside.limit =
    subst (λ (l : List Group). AreApart (map entry_of l) × HaveNames names l × length l ≤ c.self.inside.limit) (sym pushed) (new_apart names all ks states group none entry c.self.invariant.0, named_pushed names all group c.self.invariant.1 named, few) in
    (three.0, three.1, three.2, search rules)

pub returns-in-Ok-clause-ok : goal.returns-in-Ok-clause-ok
returns-in-Ok-clause-ok w c =
    let names = c.self.inside.aggs.items in
    let all = c.self.inside.all.items in
    let group = c.in_ok-group-in-None.group in
    let ks = w.K.RowKeys.values c.args.keys.now in
    let states = alone_all names c.args.items.now in
    let none : partials_at ks (map entry_of all) ≡ None = ap (λ l. partials_at ks (map entry_of l)) (sym c.as_slice.ensures.value) ∙ c.in-None.ensures in
    let a = c.as_slice-in-None.ensures.value in
    let entry : entry_of group ≡ (ks, states) = c.in_ok-group-in-None.ensures.entry ∙ ap (λ (l : List AggName). (ks, alone_all l c.args.items.now)) a in
    let named = c.in_ok-group-in-None.ensures.names ∙ a in
    let pushed = c.in-Ok.ensures.items in
    let joins = λ (ls : List Val). ap (λ l. partials_at ls (map entry_of l)) pushed ∙ new_joins names all ks states group none entry ls in
    moved (λ ns. only_at ks (alone_all ns c.args.items.now)) _ _ _ c.self.view_is (record { names = refl; limit = refl; entries = joins })
