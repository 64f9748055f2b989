use Rattle.std.proofs.Common.{◌≡◌, ◌<◌, ◌++◌, ◌∷◌, [], ◌∙◌, sym, ap, subst, Err, ℕ, arith}
use Rattle.hash_agg.specs.Held.{Held}
use Rattle.hash_agg.proofs.Standing.{adding}
use Rattle.batch_groups.specs.Keyed.{count_keys}
use Rattle.batch_groups.proofs.Counting.{over_added}
use Rattle.batch_groups.proofs.Rooms.{room_to_add}
use Rattle.batch_groups.proofs.Taking.{of_one_more}
use Rattle.batch_groups.specs.Gathered.{StandFor}
use Rattle.hash_agg.specs.Groups.{GroupsStandFor}
use Rattle.batch_groups.proofs.adding.add_row.Goals as goal

pub add-requires-clause-room : goal.add-requires-clause-room
add-requires-clause-room w c = room_to_add c.args.groups.now c.args.count.now c.requires.few (w.K.RowKeys.values c.args.keys.now)

pub returns-in-Ok-clause-few : goal.returns-in-Ok-clause-few
returns-in-Ok-clause-few w c =
    of_one_more c.args.groups.now c.add.new.self c.args.count.now (w.K.RowKeys.values c.args.keys.now) c.args.shown.now c.requires.shown.0 c.requires.few (omega arith) c.requires.one_each c.requires.shown.1 c.in-Ok.ensures.ok c.requires.printable c.requires.shown.2

pub returns-in-Ok-clause-stand : goal.returns-in-Ok-clause-stand
returns-in-Ok-clause-stand w c operands rows shows stand =
    let added = adding c.args.groups.now c.add.new.self (w.K.RowKeys.values c.args.keys.now) c.args.shown.now operands rows c.requires.one_each shows c.in-Ok.ensures.ok stand in
    subst (λ b. StandFor c.add.new.self b (rows ++ (w.K.RowKeys.values c.args.keys.now, operands) ∷ [])) (sym c.requires.open) added

pub returns-in-Err-Over-clause-stand : goal.returns-in-Err-Over-clause-stand
returns-in-Err-Over-clause-stand w c operands rows shows stand =
    let why = c.add.ensures.over.0 (c.in-Err-Over.is ∙ ap Err c.in-Err-Over.field-0-is) in
    let more = over_added c.args.groups.now.names c.args.groups.now.entries rows (w.K.RowKeys.values c.args.keys.now) operands c.args.groups.now.limit c.know.ensures.apart stand why.0 why.1 in
    subst (λ (g : Held). g.limit < count_keys (rows ++ (w.K.RowKeys.values c.args.keys.now, operands) ∷ [])) (sym c.in-Err-Over.ensures.err) more
