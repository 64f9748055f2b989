-- Counts of faults that stand still.
use Rattle.std.proofs.Common.{inl, inr, arith}
use Rattle.snel_device.specs.Causes.{Rose}
use Rattle.snel_words.specs.Words.{Ask, nothing, query, check, pack, explain, make}
use Rattle.snel_command.specs.Effects.{ReadFailed, WriteFailed}

none_rose : Rose 0 0 → ⊥
none_rose h = omega (arith, h)

pub never_read : (ask : Ask) → ReadFailed ask 0 0 0 0 → ⊥
never_read nothing h = none_rose h
never_read (query settings sql names) h = none_rose h
never_read (check names) h = none_rose h
never_read (pack p name) h = none_rose h
never_read (explain sql) h = none_rose h
never_read (make start count name) h = none_rose h

pub never_written : (ask : Ask) → WriteFailed ask 0 0 0 0 → ⊥
never_written nothing h = none_rose h
never_written (query settings sql names) h = none_rose h
never_written (check names) h = none_rose h
never_written (pack p name) h = elim h [ inl r ↦ none_rose r | inr r ↦ none_rose r ]
never_written (explain sql) h = none_rose h
never_written (make start count name) h = elim h [ inl r ↦ none_rose r | inr r ↦ none_rose r ]
