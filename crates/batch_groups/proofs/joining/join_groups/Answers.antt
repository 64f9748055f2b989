use Rattle.std.proofs.Common.{◌≡◌, ◌<◌, ◌++◌, ◌∙◌, sym, ap, subst, Err}
use Rattle.hash_agg.specs.Held.{Held}
use Rattle.hash_agg.proofs.Standing.{joining}
use Rattle.hash_agg.specs.Groups.{GroupsStandFor}
use Rattle.batch_groups.specs.Keyed.{count_keys}
use Rattle.batch_groups.specs.Gathered.{StandFor}
use Rattle.batch_groups.proofs.Counting.{over_merged}
use Rattle.batch_groups.proofs.Rooms.{room_to_merge}
use Rattle.batch_groups.proofs.Merged.{of_both}
use Rattle.batch_groups.proofs.joining.join_groups.Goals as goal

pub merge-requires-clause-room : goal.merge-requires-clause-room
merge-requires-clause-room c = room_to_merge c.args.groups.now c.args.others c.args.count.now c.args.more c.requires.few c.requires.others c.requires.both c.requires.names

pub returns-in-Ok-clause-few : goal.returns-in-Ok-clause-few
returns-in-Ok-clause-few c =
    of_both c.args.groups.now c.args.others c.merge.new.self c.args.count.now c.args.more c.requires.few c.requires.others c.requires.both c.requires.names c.in-Ok.ensures.ok

pub returns-in-Ok-clause-stand : goal.returns-in-Ok-clause-stand
returns-in-Ok-clause-stand c rows more stand others =
    let added = joining c.args.groups.now c.args.others c.merge.new.self rows more (sym c.requires.names) c.in-Ok.ensures.ok stand others in
    subst (λ b. StandFor c.merge.new.self b (rows ++ more)) (sym c.requires.open) added

pub returns-in-Err-Over-clause-stand : goal.returns-in-Err-Over-clause-stand
returns-in-Err-Over-clause-stand c rows more stand others =
    let why = c.merge.ensures.over.0 (c.in-Err-Over.is ∙ ap Err c.in-Err-Over.field-0-is) in
    let same = subst (λ ns. GroupsStandFor ns c.args.others.entries more) (sym c.requires.names) others in
    let much = over_merged c.args.groups.now.names c.args.groups.now.entries c.args.others.entries rows more c.args.groups.now.limit c.know.ensures.apart c.know-2.ensures.apart stand same why in
    subst (λ (g : Held). g.limit < count_keys (rows ++ more)) (sym c.in-Err-Over.ensures.err) much
