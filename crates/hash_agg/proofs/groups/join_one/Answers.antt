use Rattle.std.proofs.Common.{◌≡◌, ◌∙◌, ◌<◌, List, None, sym, ap, subst, refl, arith, map, length, get_or}
use Rattle.hash_agg.specs.Groups.{Entry, partials_at, AreApart}
use Rattle.hash_agg.specs.declared.group.Group.{Group}
use Rattle.hash_agg.specs.Items.{EachTwoHaveRoom}
use Rattle.hash_agg.specs.Entries.{entry_of, names_of}
use Rattle.hash_agg.specs.Adds.{one_if_none}
use Rattle.hash_agg.proofs.Rows.{here_named, here_found, joint_apart, joint_joins, joint_covers, new_apart, new_joins}
use Rattle.hash_agg.proofs.groups.join_one.Goals as goal

pub merge-requires-clause-room : goal.merge-requires-clause-room
merge-requires-clause-room c =
    let names = names_of c.args.group in
    let all = c.args.all.now.items in
    let at = c.in-Some.at in
    let g = c.index_mut.result.now in
    let ks = c.args.group.keys in
    let v = c.as_slice.ensures.value in
    let place = λ (e : Entry). subst (λ (l : List Group). (e : Entry) → (get_or (map entry_of l) at e).0 ≡ ks) v c.in-Some.ensures.1 e in
    let below : at < length all = let k = ap length v in omega (arith, c.in-Some.ensures.0) in
    let is = c.index_mut.ensures.value in
    let apart = c.requires.apart in
    let named = c.requires.named in
    subst (λ ns. EachTwoHaveRoom ns (entry_of g).1 (entry_of c.args.group).1) (sym (here_named names all at g ks below is apart named place)) (c.requires.room (entry_of g).1 (here_found names all at g ks below is apart named place))

pub returns-in-Some-clause-len : goal.returns-in-Some-clause-len
returns-in-Some-clause-len c =
    let names = names_of c.args.group in
    let all = c.args.all.now.items in
    let at = c.in-Some.at in
    let g = c.index_mut.result.now in
    let ks = c.args.group.keys in
    let v = c.as_slice.ensures.value in
    let place = λ (e : Entry). subst (λ (l : List Group). (e : Entry) → (get_or (map entry_of l) at e).0 ≡ ks) v c.in-Some.ensures.1 e in
    let below : at < length all = let k = ap length v in omega (arith, c.in-Some.ensures.0) in
    let is = c.index_mut.ensures.value in
    let apart = c.requires.apart in
    let named = c.requires.named in
    let found = ap one_if_none (here_found names all at g ks below is apart named place) in
    omega arith

pub returns-in-Some-clause-apart : goal.returns-in-Some-clause-apart
returns-in-Some-clause-apart c =
    let names = names_of c.args.group in
    let all = c.args.all.now.items in
    let at = c.in-Some.at in
    let g = c.index_mut.result.now in
    let ks = c.args.group.keys in
    let v = c.as_slice.ensures.value in
    let place = λ (e : Entry). subst (λ (l : List Group). (e : Entry) → (get_or (map entry_of l) at e).0 ≡ ks) v c.in-Some.ensures.1 e in
    let below : at < length all = let k = ap length v in omega (arith, c.in-Some.ensures.0) in
    let is = c.index_mut.ensures.value in
    let apart = c.requires.apart in
    let named = c.requires.named in
    joint_apart names all at g ks below is apart named place c.merge.new.self c.args.group c.merge.ensures.names c.merge.ensures.entry

pub returns-in-Some-clause-joins : goal.returns-in-Some-clause-joins
returns-in-Some-clause-joins c =
    let names = names_of c.args.group in
    let all = c.args.all.now.items in
    let at = c.in-Some.at in
    let g = c.index_mut.result.now in
    let ks = c.args.group.keys in
    let v = c.as_slice.ensures.value in
    let place = λ (e : Entry). subst (λ (l : List Group). (e : Entry) → (get_or (map entry_of l) at e).0 ≡ ks) v c.in-Some.ensures.1 e in
    let below : at < length all = let k = ap length v in omega (arith, c.in-Some.ensures.0) in
    let is = c.index_mut.ensures.value in
    let apart = c.requires.apart in
    let named = c.requires.named in
    joint_joins names all at g ks below is apart named place c.merge.new.self c.args.group c.merge.ensures.names c.merge.ensures.entry

pub returns-in-Some-clause-covers : goal.returns-in-Some-clause-covers
returns-in-Some-clause-covers c =
    let names = names_of c.args.group in
    let all = c.args.all.now.items in
    let at = c.in-Some.at in
    let g = c.index_mut.result.now in
    let ks = c.args.group.keys in
    let v = c.as_slice.ensures.value in
    let place = λ (e : Entry). subst (λ (l : List Group). (e : Entry) → (get_or (map entry_of l) at e).0 ≡ ks) v c.in-Some.ensures.1 e in
    let below : at < length all = let k = ap length v in omega (arith, c.in-Some.ensures.0) in
    let is = c.index_mut.ensures.value in
    let apart = c.requires.apart in
    let named = c.requires.named in
    joint_covers names all at g ks below is apart named place c.merge.new.self c.args.group c.merge.ensures.names c.merge.ensures.entry c.args.index.now c.requires.covers

pub returns-in-Ok-clause-apart : goal.returns-in-Ok-clause-apart
returns-in-Ok-clause-apart c =
    let names = names_of c.args.group in
    let all = c.args.all.now.items in
    let ks = c.args.group.keys in
    let none : partials_at ks (map entry_of all) ≡ None = (λ i. partials_at ks (map entry_of (sym c.as_slice.ensures.value i))) ∙ c.in-None.ensures in
    let pushed = c.in-Ok.ensures.items in
    subst (λ (l : List Group). AreApart (map entry_of l)) (sym pushed) (new_apart names all ks (entry_of c.args.group).1 c.args.group none refl c.requires.apart)

pub returns-in-Ok-clause-joins : goal.returns-in-Ok-clause-joins
returns-in-Ok-clause-joins c ls =
    let names = names_of c.args.group in
    let all = c.args.all.now.items in
    let ks = c.args.group.keys in
    let none : partials_at ks (map entry_of all) ≡ None = (λ i. partials_at ks (map entry_of (sym c.as_slice.ensures.value i))) ∙ c.in-None.ensures in
    let pushed = c.in-Ok.ensures.items in
    ap (λ l. partials_at ls (map entry_of l)) pushed ∙ new_joins names all ks (entry_of c.args.group).1 c.args.group none refl ls
