use Rattle.std.proofs.Common.{rules, ◌≡◌, ◌∙◌, ◌<◌, refl, sym, ap, map, length, get_or, arith}
use Rattle.std.proofs.lemmas.List.{length-map}
use Rattle.key_places.specs.Hashes.{hash_of}
use Rattle.hash_agg.specs.Groups.{Entry}
use Rattle.hash_agg.specs.Entries.{entry_of}
use Rattle.hash_agg.proofs.Places.{entry_at}
use Rattle.hash_agg.proofs.Covering.{covers_more}
use Rattle.hash_agg.proofs.index.Index.cover_one.Goals as goal

pub returns-in-Ok-push : goal.returns-in-Ok-push
returns-in-Ok-push c =
    let all = c.args.all.now in
    let es = map entry_of all in
    let x = c.grow.new.self in
    let seed = c.args.self.now.seed in
    let g = c.index-all-place.result in
    let place = c.len-place.result in
    let counted : place ≡ length c.args.self.now.hashes.items = search rules in
    let placed : place ≡ length x.hashes.items = counted ∙ sym (ap length c.grow.ensures.hashes) in
    let numbered : c.in-Ok.number ≡ place = search rules in
    let below : place < length all = let here = c.if-place-all.false in omega arith in
    let long = length-map all entry_of in
    covers_more x (record { seed = x.seed; hashes = c.push.new.self; rows = c.put_in.new.rows }) es c.hash_values-hash.result c.in-Ok.number refl c.in-Ok-push.ensures.items c.put_in.ensures.others (c.put_in.ensures.reached c.if-put_in.true) (numbered ∙ placed) (omega arith)
    (λ (e : Entry).
    c.hash_values-hash.ensures ∙ ap (hash_of seed) c.as_slice.ensures ∙ sym (ap (λ (f : Entry). hash_of seed f.0) (entry_at all place g e below c.index-all-place.is)) ∙ ap (λ k. hash_of seed (get_or es k e).0) placed ∙ ap (λ s. hash_of s (get_or es (length x.hashes.items) e).0) (sym c.grow.ensures.seed))
    (c.grow.ensures.covers es c.requires)
