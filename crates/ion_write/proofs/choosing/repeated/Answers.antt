use Rattle.std.proofs.Common.{◌≡◌, ◌≤◌, ◌++◌, [], append-nil, sym, ◌∙◌, arith, length}
use Rattle.ion_write.specs.Mentions.{shown, repeats}
use Rattle.ion_write.proofs.InOrder.{repeated, repeats_end}
use Rattle.ion_write.proofs.choosing.repeated.Goals as goal

pub returns : goal.returns
returns c =
    let sorted = c.sort_unstable.new.self.items in
    let none = repeats_end sorted c.loop-at.at (omega arith) in
    let all : shown c.loop-at.twice.items ++ [] ≡ repeats (shown sorted) = rw none at c.loop-at.invariant in
    repeated c.args.all.items sorted (shown c.loop-at.twice.items) c.sort_unstable.ensures.permutation c.sort_unstable.ensures.sorted (sym (append-nil (shown c.loop-at.twice.items)) ∙ all)
