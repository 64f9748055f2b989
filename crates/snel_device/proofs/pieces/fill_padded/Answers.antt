use Rattle.std.proofs.Common.{◌≡◌, ◌∙◌, ap, List, ℕ, min, drop, length, replicate, rules, arith, length-drop}
use Rattle.snel_device.proofs.Fronts.{padded_by}
use Rattle.snel_device.proofs.pieces.fill_padded.Goals as goal

pub returns : goal.returns
returns c =
    let n : ℕ = c.copy_front.result in
    let room : ℕ = length c.args.into.now in
    let bytes : List ℕ = drop c.args.at c.args.bytes.now in
    let zeros : c.fill.new.self ≡ replicate room 0 = c.fill.ensures.after (search rules) in
    let count : n ≡ min (length bytes) room = omega (arith, length-drop {A = ℕ}) in
    padded_by bytes room n c.copy_front.new.into count c.copy_front.ensures.front (c.copy_front.ensures.rest ∙ ap (drop n) zeros)
