use Rattle.std.proofs.lemmas.Bool.Decides.{eqb_tells}
use Rattle.std.proofs.Common.{◌≡◌, ◌==◌, ⊎_elim, ℕ, false}
use Rattle.sql_words.proofs.Doubled.{leaves_out, keeps_first, keeps_other}
use Rattle.sql_words.proofs.quotes.undoubled_bytes.Goals.{then-held+then-is_quote, else-held+in_ok-push, else-held-via-then-held+else-is_quote, else-held-via-else-held}
use Rattle.sql_words.proofs.quotes.undoubled_bytes.Goals as goal

neq-eqb : {a b : ℕ} → (a ≡ b → ⊥) → (a == b) ≡ false
neq-eqb {a} {b} n = ⊎_elim (λ e. absurd (n e.1)) (λ e. e.0) (eqb_tells a b)

pub loop-byte-preserved : goal.loop-byte-preserved
loop-byte-preserved c =
    elim c.if-held.branch [
      | then-held+then-is_quote w ↦ rw (w.all-is, w.held-is) (leaves_out c.args.quote c.loop-byte.byte-index c.args.bytes.now c.loop-byte.all.items _ c.loop-byte-test.true c.loop-byte.held c.loop-byte.invariant w.if-held.true w.if-is_quote.true)
      | else-held+in_ok-push w ↦ rw (w.all-is, w.held-is, w.in_ok-push.ensures.items) (
          elim w.else-held.branch [
            | else-held-via-then-held+else-is_quote v ↦ keeps_other c.args.quote c.loop-byte.byte-index c.args.bytes.now c.loop-byte.all.items _ c.loop-byte-test.true c.loop-byte.held c.loop-byte.invariant (neq-eqb v.if-is_quote.false)
            | else-held-via-else-held v ↦ keeps_first c.args.quote c.loop-byte.byte-index c.args.bytes.now c.loop-byte.all.items _ c.loop-byte-test.true c.loop-byte.held c.loop-byte.invariant v.if-held.false
          ])
    ]
