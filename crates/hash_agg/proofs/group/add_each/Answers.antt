use Rattle.std.proofs.Common.{◌∙◌, sym, ap, get_or, map, arith}
use Rattle.std.proofs.lemmas.List.{length-map}
use Rattle.agg_meaning.specs.Partials.{joined, counted}
use Rattle.agg_laws.specs.declared.seen.Seen.TheVariants as seen
use Rattle.agg_laws.specs.Alone.{alone}
use Rattle.agg_laws.specs.Parts.{part_name, part_kept}
use Rattle.hash_agg.specs.Items.{alone_all}
use Rattle.hash_agg.proofs.Steps.{name_here, room_here, more_names, more_states, length-alone, alone-at, partially-all}
use Rattle.hash_agg.proofs.group.add_each.Goals as goal

pub add-requires : goal.add-requires
add-requires c = room_here c.loop-i.parts c.args.parts.now c.loop-i.i c.index-parts-i.result (omega arith) c.loop-i.auto.parts c.loop-i.invariant.names (alone_all (map part_name c.args.parts.now) c.args.items.now) c.loop-i.invariant.states c.requires.room

pub loop-i-preserved : goal.loop-i-preserved
loop-i-preserved c =
    let parts = c.loop-i.parts in
    let old = c.args.parts.now in
    let i = c.loop-i.i in
    let p = c.index-parts-i.result in
    let items = c.args.items.now in
    let alones = alone_all (map part_name old) items in
    let long = c.loop-i.auto.parts in
    let ln = length-map old part_name in
    let la = length-alone (map part_name old) items (omega arith) in
    let before = name_here parts old i p (omega arith) long c.loop-i.invariant.names in
    let shown = alone-at i (map part_name old) items (part_name p) seen.Missing (counted 0) (omega arith) (omega arith) in
    let joins = c.add.ensures.joins ∙ ap (λ t. joined (part_name (get_or parts i p)) (part_kept (get_or parts i p)) t) (ap (λ n. alone n (get_or items i seen.Missing)) before ∙ sym shown) in
    record {
      names = more_names parts old i p (omega arith) long c.loop-i.invariant.names alones c.loop-i.invariant.states c.add.new.self c.add.ensures.name;
      states = more_states parts old i p (omega arith) long c.loop-i.invariant.names alones c.loop-i.invariant.states c.add.new.self (counted 0) (omega arith) joins;
    }

pub returns-clause-states : goal.returns-clause-states
returns-clause-states c =
    let ln = length-map c.args.parts.now part_name in
    let ls = length-map c.args.parts.now part_kept in
    let la = length-alone (map part_name c.args.parts.now) c.args.items.now (omega arith) in
    let a = c.loop-i.auto.parts in
    c.loop-i.invariant.states ∙ partially-all c.loop-i.i (map part_name c.args.parts.now) (map part_kept c.args.parts.now) (alone_all (map part_name c.args.parts.now) c.args.items.now) (omega arith) (omega arith) (omega arith)
