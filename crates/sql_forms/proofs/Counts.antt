-- A form that stands in itself several times.
use Rattle.std.proofs.Common.{◌≡◌, ℕ, zero, suc, ◌+◌, refl, ap, ◌∙◌, add-one}
use Rattle.tree_meaning.specs.Tree.{Ex}
use Rattle.query_meaning.specs.Reading.{times}

innermost : (wrap : Ex → Ex) (n : ℕ) (e : Ex) → times wrap n (wrap e) ≡ wrap (times wrap n e)
innermost wrap zero e = refl
innermost wrap (suc n) e = ap wrap (innermost wrap n e)

-- one more of them counted
pub one_more : (wrap : Ex → Ex) (n : ℕ) (whole below inner : Ex) → whole ≡ times wrap n below → below ≡ wrap inner → whole ≡ times wrap (n + 1) inner
one_more wrap n whole below inner sofar e = sofar ∙ (rw (e, add-one) (innermost wrap n inner))

-- as many as were to be counted
pub all_counted : (wrap : Ex → Ex) (n most : ℕ) (whole below : Ex) → whole ≡ times wrap n below → n ≡ most → whole ≡ times wrap most below
all_counted wrap n most whole below e f = e ∙ ap (λ k. times wrap k below) f
