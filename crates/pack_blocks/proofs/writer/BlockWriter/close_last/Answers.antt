use Rattle.std.proofs.Common.{refl, arith, ◌∙◌, ap, sym, length, subst, ◌≤◌}
use Rattle.pack_blocks.proofs.Writing.{closes_none, closes_last, may_close_last, no_items, some_items}
use Rattle.pack_blocks.proofs.writer.BlockWriter.close_last.Goals as goal

pub close-requires : goal.close-requires
close-requires c = may_close_last _ _ c.requires (omega (arith, some_items _ _ c.is_empty.ensures c.if-is_empty.false, ap length c.as_slice.ensures.value))

pub returns-then-is_empty : goal.returns-then-is_empty
returns-then-is_empty c = closes_none _ _ _ (sym c.as_slice.ensures.value ∙ no_items _ _ c.is_empty.ensures c.if-is_empty.true) c.new.ensures

pub returns-in_ok-last : goal.returns-in_ok-last
returns-in_ok-last c =
    closes_last _ c.args.self.now c.close.new.self c.in_ok-last.last (omega (arith, some_items _ _ c.is_empty.ensures c.if-is_empty.false, ap length c.as_slice.ensures.value))
    c.in_ok-last.ensures.block c.in_ok-last.ensures.entries c.in_ok-last.ensures.written c.in_ok-last.ensures.count
