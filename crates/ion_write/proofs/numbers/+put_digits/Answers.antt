use Rattle.std.proofs.Common.{◌≡◌, ◌++◌, ◌∷◌, [], ◌<◌, ◌%◌, sym, ap, ◌∙◌, append_assoc, arith}
use Rattle.write_meaning.specs.Encoding as meant
use Rattle.write_meaning.proofs.Digits.{digits_last}
use Rattle.ion_write.proofs.numbers.+put_digits.Goals as goal

pub returns : goal.returns
returns t c =
    let last = digits_last c.args.base c.args.room c.args.number (omega arith) (omega arith) in
    c.in_ok-push.ensures.items ∙ rw (c.in_ok-put_digits.ensures, append_assoc) (ap (λ ds. c.args.out.now.items ++ ds) (sym last))
