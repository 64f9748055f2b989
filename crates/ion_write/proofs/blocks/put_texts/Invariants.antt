use Rattle.std.proofs.Common.{◌≡◌, ◌++◌, drop}
use Rattle.write_meaning.specs.BlockBytes.{texts_bytes}
use Rattle.ion_write.specs.Mentions.{shown}
use Rattle.ion_write.proofs.blocks.put_texts.Given as goal

abbrev pub invariant-loop-text : goal.invariant-loop-text
invariant-loop-text l = l.out.items ++ texts_bytes (shown (drop l.text-index l.texts)) ≡ l.fn.out.items ++ texts_bytes (shown l.texts)
