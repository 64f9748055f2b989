-- What the code's value of the words says.
use Rattle.std.specs.Option.{option_map}
use Rattle.snel_words.specs.Words as says
use Rattle.snel_words.specs.declared.ask.Packing.{Packing}
use Rattle.snel_words.specs.declared.ask.Ask.{Ask}
use Rattle.snel_words.specs.declared.ask.Ask.TheVariants.{Nothing, Query, Check, Pack, Explain, Make}

-- how lines are packed
abbrev pub packing_view : Packing → says.Packing
packing_view p = record { time = option_map (λ t. t.now) p.time; block = p.block; drops = p.drop_fractions }

-- what is asked
abbrev pub ask_view : Ask → says.Ask
ask_view Nothing = says.nothing
ask_view (Query settings sql names) = says.query settings sql.now names
ask_view (Check names) = says.check names
ask_view (Pack packing name) = says.pack (packing_view packing) name.now
ask_view (Explain sql) = says.explain sql.now
ask_view (Make start rows name) = says.make start rows name.now
