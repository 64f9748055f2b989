use Rattle.std.proofs.Common.{◌≡◌, ◌∙◌, sym, ap, length, get_or, map, arith}
use Rattle.std.proofs.lemmas.List.{length-map, get_or-map, get_or_default}
use Rattle.agg_meaning.specs.Partials.{joined}
use Rattle.agg_laws.specs.Parts.{part_name, part_kept}
use Rattle.hash_agg.proofs.Steps.{name_here, two_room_here, more_names, more_states, partially-all}
use Rattle.hash_agg.proofs.group.merge_each.Goals as goal

pub merge-requires-clause-name : goal.merge-requires-clause-name
merge-requires-clause-name c =
    let parts = c.loop-i.parts in
    let old = c.args.parts.now in
    let more = c.args.more.now in
    let i = c.loop-i.i in
    let p = c.index-parts-i.result in
    let q = c.index-more-i.result in
    let long = c.loop-i.auto.parts in
    let lm = length-map more part_name in
    let ls = length-map more part_kept in
    let lo = length-map old part_name in
    let same = ap length c.requires.names in
    let seen : part_kept q ≡ get_or (map part_kept more) i (part_kept q) = ap part_kept c.index-more-i.is ∙ sym (get_or-map part_kept more i q (part_kept q) (omega arith)) in
    name_here parts old i p (omega arith) long c.loop-i.invariant.names ∙ ap (λ l. get_or l i (part_name p)) c.requires.names ∙ get_or_default (map part_name more) i (part_name p) (part_name q) (omega arith) ∙ get_or-map part_name more i q (part_name q) (omega arith) ∙ sym (ap part_name c.index-more-i.is)

pub merge-requires-clause-room : goal.merge-requires-clause-room
merge-requires-clause-room c =
    let parts = c.loop-i.parts in
    let old = c.args.parts.now in
    let more = c.args.more.now in
    let i = c.loop-i.i in
    let p = c.index-parts-i.result in
    let q = c.index-more-i.result in
    let long = c.loop-i.auto.parts in
    let lm = length-map more part_name in
    let ls = length-map more part_kept in
    let lo = length-map old part_name in
    let same = ap length c.requires.names in
    let seen : part_kept q ≡ get_or (map part_kept more) i (part_kept q) = ap part_kept c.index-more-i.is ∙ sym (get_or-map part_kept more i q (part_kept q) (omega arith)) in
    two_room_here parts old i p (omega arith) long c.loop-i.invariant.names (map part_kept more) c.loop-i.invariant.states (map part_kept more) (part_kept q) (part_kept q) seen c.requires.room

pub loop-i-preserved : goal.loop-i-preserved
loop-i-preserved c =
    let parts = c.loop-i.parts in
    let old = c.args.parts.now in
    let more = c.args.more.now in
    let i = c.loop-i.i in
    let p = c.index-parts-i.result in
    let q = c.index-more-i.result in
    let long = c.loop-i.auto.parts in
    let lm = length-map more part_name in
    let ls = length-map more part_kept in
    let lo = length-map old part_name in
    let same = ap length c.requires.names in
    let seen : part_kept q ≡ get_or (map part_kept more) i (part_kept q) = ap part_kept c.index-more-i.is ∙ sym (get_or-map part_kept more i q (part_kept q) (omega arith)) in
    let joins = c.merge.ensures.joins ∙ ap (joined (part_name (get_or parts i p)) (part_kept (get_or parts i p))) seen in
    record {
      names = more_names parts old i p (omega arith) long c.loop-i.invariant.names (map part_kept more) c.loop-i.invariant.states c.merge.new.self c.merge.ensures.name;
      states = more_states parts old i p (omega arith) long c.loop-i.invariant.names (map part_kept more) c.loop-i.invariant.states c.merge.new.self (part_kept q) (omega arith) joins;
    }

pub returns-clause-states : goal.returns-clause-states
returns-clause-states c =
    let old = c.args.parts.now in
    let more = c.args.more.now in
    let lm = length-map more part_name in
    let ls = length-map more part_kept in
    let lo = length-map old part_name in
    let los = length-map old part_kept in
    let same = ap length c.requires.names in
    let long = c.loop-i.auto.parts in
    c.loop-i.invariant.states ∙ partially-all c.loop-i.i (map part_name old) (map part_kept old) (map part_kept more) (omega arith) (omega arith) (omega arith)
