use Rattle.std.proofs.Common.{◌≡◌, drop, sym, ap, subst, ◌∙◌}
use Rattle.std.specs.Prelude.{IfOk, option_copied}
use Rattle.snel_words.specs.Words.{Ask}
use Rattle.snel_words.specs.Asked.{ask_view}
use Rattle.snel_words.proofs.Places.{drop_at, drop_past}
use Rattle.snel_words.proofs.Commands.{no_words, of_query, of_check, of_explain, of_pack, of_make, of_other}
use Rattle.snel_words.proofs.reading.read_words.Goals as goal

pub returns-in_default : goal.returns-in_default
returns-in_default c = no_words c.args.words.now (drop_past c.args.words.now 0 (sym c.get.ensures ∙ ap option_copied c.in_default.is))

pub returns-then-eq : goal.returns-then-eq
returns-then-eq c =
    subst (λ (a : Ask). IfOk c.read_query.result (λ ask. ask_view ask ≡ a))
    (of_query c.args.words.now (drop 1 c.args.words.now) c.in-Some.command.now
    (drop_at c.args.words.now 0 c.in-Some.command.now (sym c.get.ensures ∙ ap option_copied c.in-Some.is)) (sym c.eq.ensures ∙ c.if-eq.true)) c.read_query.ensures

pub returns-then-eq-2 : goal.returns-then-eq-2
returns-then-eq-2 c =
    subst (λ (a : Ask). IfOk c.read_check.result (λ ask. ask_view ask ≡ a))
    (of_check c.args.words.now (drop 1 c.args.words.now) c.in-Some.command.now
    (drop_at c.args.words.now 0 c.in-Some.command.now (sym c.get.ensures ∙ ap option_copied c.in-Some.is))
    (sym c.eq.ensures ∙ c.if-eq.false) (sym c.eq-2.ensures ∙ c.if-eq-2.true)) c.read_check.ensures

pub returns-then-eq-3 : goal.returns-then-eq-3
returns-then-eq-3 c =
    c.read_explain.ensures ∙ of_explain c.args.words.now (drop 1 c.args.words.now) c.in-Some.command.now
    (drop_at c.args.words.now 0 c.in-Some.command.now (sym c.get.ensures ∙ ap option_copied c.in-Some.is))
    (sym c.eq.ensures ∙ c.if-eq.false) (sym c.eq-2.ensures ∙ c.if-eq-2.false) (sym c.eq-3.ensures ∙ c.if-eq-3.true)

pub returns-then-eq-4 : goal.returns-then-eq-4
returns-then-eq-4 c =
    c.read_pack.ensures ∙ of_pack c.args.words.now (drop 1 c.args.words.now) c.in-Some.command.now
    (drop_at c.args.words.now 0 c.in-Some.command.now (sym c.get.ensures ∙ ap option_copied c.in-Some.is))
    (sym c.eq.ensures ∙ c.if-eq.false) (sym c.eq-2.ensures ∙ c.if-eq-2.false) (sym c.eq-3.ensures ∙ c.if-eq-3.false) (sym c.eq-4.ensures ∙ c.if-eq-4.true)

pub returns-then-eq-5 : goal.returns-then-eq-5
returns-then-eq-5 c =
    c.read_make.ensures ∙ of_make c.args.words.now (drop 1 c.args.words.now) c.in-Some.command.now
    (drop_at c.args.words.now 0 c.in-Some.command.now (sym c.get.ensures ∙ ap option_copied c.in-Some.is))
    (sym c.eq.ensures ∙ c.if-eq.false) (sym c.eq-2.ensures ∙ c.if-eq-2.false) (sym c.eq-3.ensures ∙ c.if-eq-3.false) (sym c.eq-4.ensures ∙ c.if-eq-4.false) (sym c.eq-5.ensures ∙ c.if-eq-5.true)

pub returns : goal.returns
returns c =
    of_other c.args.words.now (drop 1 c.args.words.now) c.in-Some.command.now
    (drop_at c.args.words.now 0 c.in-Some.command.now (sym c.get.ensures ∙ ap option_copied c.in-Some.is))
    (sym c.eq.ensures ∙ c.if-eq.false) (sym c.eq-2.ensures ∙ c.if-eq-2.false) (sym c.eq-3.ensures ∙ c.if-eq-3.false) (sym c.eq-4.ensures ∙ c.if-eq-4.false) (sym c.eq-5.ensures ∙ c.if-eq-5.false)
