-- How a call may end that found no memory for its words.
use Rattle.std.specs.Option.{option_map}
use Rattle.std.proofs.Common.{ℕ, List, [], ◌∷◌, Option, Some, None, Err, refl, sym, inl, inr, append-nil, arith}
use Rattle.std.specs.Io.KnownBytes.{Appends}
use Rattle.snel_device.specs.Contents.{Contents, with_file}
use Rattle.make_meaning.specs.LogQuery.{text}
use Rattle.json_pack.specs.Making.{made_file}
use Rattle.query_run.specs.declared.query_fault.QueryFault.TheVariants.{OutOfMemory}
use Rattle.query_run.proofs.Nothing as of_query
use Rattle.snel_words.specs.Words.{Ask, nothing, query, check, pack, explain, make}
use Rattle.snel_command.specs.declared.outcome.Refusal.TheVariants.{Query}
use Rattle.snel_command.specs.Causes.{Says}
use Rattle.snel_command.specs.Ends.{Ends}
use Rattle.snel_command.specs.Effects.{ReadsBytes, ChangesFiles, WritesFiles, TakesInput}
use Rattle.snel_command.specs.Comes.{ComesPacked}
use Rattle.snel_command.specs.Headline.{Headline}
use Rattle.snel_command.specs.Stops.{Stops, StaysQuiet}
use Rattle.snel_command.proofs.Sink.{Keeps-same}
use Rattle.snel_command.proofs.MadeSo.{puts_none}

pub headline : (ask : Ask) (told : Option Contents) (a : Option (List ℕ)) → Headline ask told 10 a a
headline ask told a = record {
  answers = λ settings sql names q asks accepts. (of_query.headline sql settings.groups names told a).of_query q accepts;
  made = λ start count name asks files is. puts_none start count 10 a (λ e. omega (arith, e));
}

adds_none : (a : Option (List ℕ)) → Appends a a []
adds_none None = tt
adds_none (Some xs) = sym (append-nil xs)

pub ends : (ask : Ask) (told : Option Contents) (left a : Option (List ℕ)) → Ends ask told left 10 a a
ends nothing told left a = record { allowed = refl; wrote = Keeps-same a }
ends (query settings sql names) told left a = of_query.ends sql settings.groups names told a
ends (check names) told left a = of_query.checks names told a
ends (pack p name) told left a = record {
  allowed = refl;
  done = λ e. absurd (omega (arith, e));
  front = λ bytes is. (0, adds_none a);
  quiet = λ done written. Keeps-same a;
}
ends (make start count name) told left a = record {
  allowed = refl;
  found = λ files is. refl;
  done = λ e. absurd (omega (arith, e));
  lined = λ least most. absurd (omega (arith, most));
  quiet = λ e. Keeps-same a;
}
ends (explain sql) told left a = record {
  only = refl;
  refused = λ r. refl;
  accepted = λ r. refl;
  listed = λ q accepts status. absurd (elim status [ inl e ↦ omega (arith, e) | inr e ↦ omega (arith, e) ]);
  quiet = λ done written. Keeps-same a;
}

pub stops : (ask : Ask) (told : Option Contents) (before now : ℕ) (old new : Option (List ℕ)) → Stops ask told 10 before now old new
stops nothing told before now old new = tt
stops (query settings sql names) told before now old new = record {
  bad = λ q e accepts plain. absurd (omega (arith, e));
  unread = λ q e accepts. absurd (omega (arith, e));
  cut = λ q e accepts plain. absurd (omega (arith, e));
  unwritten = λ q least most accepts other. absurd (omega (arith, most));
}
stops (check names) told before now old new = tt
stops (pack p name) told before now old new = tt
stops (explain sql) told before now old new = tt
stops (make start count name) told before now old new = tt

pub says : (ask : Ask) (told : Option Contents) (left : Option (List ℕ)) → Says ask told left (Err (Query OutOfMemory))
says nothing told left = tt
says (query settings sql names) told left = tt
says (check names) told left = tt
says (pack p name) told left = tt
says (explain sql) told left = tt
says (make start count name) told left = tt

pub reads : (ask : Ask) (told : Option Contents) (n : ℕ) → ReadsBytes ask told n n
reads nothing told n = refl
reads (query settings sql names) told n = of_query.reads sql names told n
reads (check names) told n = tt
reads (pack p name) told n = refl
reads (explain sql) told n = refl
reads (make start count name) told n = of_query.reads text (name ∷ []) (option_map (with_file name (made_file start count)) told) n

pub quiet : (ask : Ask) (a : Option (List ℕ)) → StaysQuiet ask 10 a a
quiet nothing a = λ least most. Keeps-same a
quiet (query settings sql names) a = λ least most. Keeps-same a
quiet (check names) a = tt
quiet (pack p name) a = tt
quiet (explain sql) a = λ least most. Keeps-same a
quiet (make start count name) a = tt

pub changes : (ask : Ask) (left : Option (List ℕ)) (told : Option Contents) → ChangesFiles ask left 10 told told
changes nothing left told = refl
changes (query settings sql names) left told = refl
changes (check names) left told = refl
changes (pack p name) left told = record {
  whole = λ e. absurd (omega (arith, e));
  holds = λ e. absurd (omega (arith, e));
  before = λ e. absurd (omega (arith, e));
  front = λ bytes is. inl refl;
  kept = λ e. absurd (omega (arith, e));
}
changes (explain sql) left told = refl
changes (make start count name) left told = record {
  whole = λ e. absurd (omega (arith, e));
  holds = λ e. absurd (omega (arith, e));
  queried = λ least most. absurd (omega (arith, most));
  front = inl refl;
  kept = λ e. refl;
}

pub writes : (ask : Ask) (n : ℕ) → WritesFiles ask n n
writes nothing n = refl
writes (query settings sql names) n = refl
writes (check names) n = refl
writes (pack p name) n = omega arith
writes (explain sql) n = refl
writes (make start count name) n = omega arith

pub takes : (ask : Ask) (left : Option (List ℕ)) → TakesInput ask 10 left left
takes nothing left = refl
takes (query settings sql names) left = refl
takes (check names) left = refl
takes (pack p name) left = λ e. absurd (omega (arith, e))
takes (explain sql) left = refl
takes (make start count name) left = refl

pub packs : (ask : Ask) (told : Option Contents) (left : Option (List ℕ)) (a b c d e f : ℕ) → ComesPacked ask told left 10 a b c d e f
packs nothing told left a b c d e f = tt
packs (query settings sql names) told left a b c d e f = tt
packs (check names) told left a b c d e f = tt
packs (pack p name) told left a b c d e f = record {
  exists = λ files is. record { only = λ x. absurd (omega (arith, x)); always = λ h. inr refl };
  refused = λ files bytes is has none no_write no_read. record { only = λ x. absurd (omega (arith, x)); always = λ h. inr refl };
  done = λ files bytes is has none accepted no_write no_read no_put. inr refl;
}
packs (explain sql) told left a b c d e f = tt
packs (make start count name) told left a b c d e f = record {
  exists = λ files is. record { only = λ x. absurd (omega (arith, x)); always = λ h. inr refl };
  done = λ files is none no_write no_put. inr (inr refl);
}
