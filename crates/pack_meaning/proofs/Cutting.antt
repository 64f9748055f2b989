-- Cutting row by row makes the one cut.
use Rattle.std.proofs.Common.{◌≡◌, ◌↔◌, ℕ, ◌+◌, ◌≤◌, Bool, true, false, ◌&&◌, nat_le, List, [], ◌∷◌, ◌++◌, length, sum_by, IsTrue, if◌then◌else◌, refl, sym, ap, subst, ◌∙◌, arith, append_assoc, append-nil, true≢false}
use Rattle.std.proofs.lemmas.Bool.{leb-true, le-leb}
use Rattle.std.proofs.lemmas.List.{length-append}
use Rattle.std.proofs.lemmas.List.Sums.{sum_by-append}
use Rattle.write_meaning.specs.Weights.{weight}
use Rattle.pack_meaning.specs.Cuts.{Rows, fits, IsFull, AreCut, last_block, cut_on, cut, IsCutSoFar, EachFits}
use Rattle.pack_meaning.specs.Laws.{CutsAreMade}

both : (a b : Bool) → (a && b) ≡ true → (a ≡ true) × (b ≡ true)
both true true e = (refl, refl)
both true false e = cc
both false b e = cc

and : (a b : Bool) → a ≡ true → b ≡ true → (a && b) ≡ true
and a b e f = rw (e, f) refl

pub fits_from : (most : ℕ) (rows : Rows) → sum_by weight rows ≤ most → length rows ≤ 65_536 → fits most rows ≡ true
unfolding fits
fits_from most rows h k = and _ _ (le-leb _ _ h) (le-leb _ _ k)

pub fits_weight : (most : ℕ) (rows : Rows) → fits most rows ≡ true → sum_by weight rows ≤ most
unfolding fits
fits_weight most rows e = leb-true _ _ (both _ _ e).0

pub fits_length : (most : ℕ) (rows : Rows) → fits most rows ≡ true → length rows ≤ 65_536
unfolding fits
fits_length most rows e = leb-true _ _ (both _ _ e).1

-- a front of rows that fit fits
fits_front : (most : ℕ) (a b : Rows) → fits most (a ++ b) ≡ true → fits most a ≡ true
fits_front most a b e =
    let w = fits_weight most (a ++ b) e in
    let l = fits_length most (a ++ b) e in
    fits_from most a (omega (arith, w, sum_by-append weight a b)) (omega (arith, l, length-append a b))

fits_alone : (most : ℕ) (r : _) → weight r ≤ most → fits most (r ∷ []) ≡ true
fits_alone most r h = fits_from most (r ∷ []) (omega arith) (omega arith)

fits_none : (most : ℕ) → fits most [] ≡ true
fits_none most = fits_from most [] (omega arith) (omega arith)

no_row : (most : ℕ) (block : Rows) (r : _) → weight r ≤ most → fits most (block ++ r ∷ []) ≡ false → 1 ≤ length block
no_row most [] r h e = absurd (true≢false (sym (fits_alone most r h) ∙ e))
no_row most (b ∷ bs) r h e = omega arith

not_true : (b : Bool) → b ≡ false → ¬ IsTrue b
not_true b e h = true≢false (sym h ∙ e)

step : (most : ℕ) (block : Rows) (r : _) (rs : Rows) (b : Bool) → fits most (block ++ r ∷ []) ≡ b
    → cut_on most block (r ∷ rs) ≡ (if b then cut_on most (block ++ r ∷ []) rs else block ∷ cut_on most (r ∷ []) rs)
step most block r rs b e = rw e refl

made_at : (most : ℕ) (block : Rows) (r : _) (rs : Rows) → fits most block ≡ true → weight r ≤ most
    → (fits most (block ++ r ∷ []) ≡ true → AreCut most (cut_on most (block ++ r ∷ []) rs) ((block ++ r ∷ []) ++ rs)) → AreCut most (cut_on most (r ∷ []) rs) (r ∷ rs)
    → (b : Bool) → fits most (block ++ r ∷ []) ≡ b → AreCut most (cut_on most block (r ∷ rs)) (block ++ r ∷ rs)
made_at most block r rs f h joined closed true e =
    rw (step most block r rs true e) (subst (AreCut most (cut_on most (block ++ r ∷ []) rs)) (append_assoc block (r ∷ []) rs) (joined e))
made_at most block r rs f h joined closed false e =
    rw (step most block r rs false e) (r ∷ rs, refl, no_row most block r h e, f, not_true _ e, closed)

-- what is made from an open block on is the cut of the block and the rows
made : (most : ℕ) (block rows : Rows) → fits most block ≡ true → EachFits most rows → AreCut most (cut_on most block rows) (block ++ rows)
made most [] [] f h = refl
made most (b ∷ bs) [] f h = ([], refl, omega arith, f, tt, refl)
made most block (r ∷ rs) f h =
    made_at most block r rs f h.0 (λ e. made most (block ++ r ∷ []) rs e h.1) (made most (r ∷ []) rs (fits_alone most r h.0) h.1) _ refl

-- a block that is full is closed, and the rows that follow are cut as if there were none before
closes : (most : ℕ) (block rest : Rows) → 1 ≤ length block → IsFull most block rest → EachFits most rest → cut_on most block rest ≡ block ∷ cut_on most [] rest
closes most [] rest some full h = absurd (omega arith)
closes most (b ∷ bs) [] some full h = refl
closes most (b ∷ bs) (r ∷ rs) some full h =
    step most (b ∷ bs) r rs false (refused _ full) ∙ ap (λ cs. (b ∷ bs) ∷ cs) (sym (step most [] r rs true (fits_alone most r h.0)))
  where
    refused : (t : Bool) → ¬ IsTrue t → t ≡ false
    refused true n = absurd (n refl)
    refused false n = refl

-- rows that fit join the open block
joins : (most : ℕ) (block more rest : Rows) → fits most (block ++ more) ≡ true → cut_on most block (more ++ rest) ≡ cut_on most (block ++ more) rest
joins most block [] rest f = ap (λ b. cut_on most b rest) (sym (append-nil block))
joins most block (r ∷ more) rest f =
    let all : fits most ((block ++ r ∷ []) ++ more) ≡ true = rw append_assoc f in
    step most block r (more ++ rest) true (fits_front most (block ++ r ∷ []) more all) ∙ joins most (block ++ r ∷ []) more rest all
    ∙ ap (λ b. cut_on most b rest) (append_assoc block (r ∷ []) more)

rest_fits : (most : ℕ) (a b : Rows) → EachFits most (a ++ b) → EachFits most b
rest_fits most [] b h = h
rest_fits most (r ∷ a) b h = rest_fits most a b h.1

one : (most : ℕ) (blocks : List Rows) (rows : Rows) → EachFits most rows → AreCut most blocks rows → cut_on most [] rows ≡ blocks
one most [] rows h c = ap (cut_on most []) c
one most (block ∷ blocks) rows h c =
    let rest = c.0 in
    let left : EachFits most rest = rest_fits most block rest (subst (EachFits most) c.1 h) in
    ap (cut_on most []) c.1 ∙ joins most [] block rest c.3 ∙ closes most block rest c.2 c.4 left ∙ ap (λ cs. block ∷ cs) (one most blocks rest left c.5)

pub cuts_made : CutsAreMade
unfolding cut
cuts_made most rows blocks h = (λ e. subst (λ bs. AreCut most bs rows) e (made most [] rows (fits_none most) h), λ c. one most blocks rows h c)

-- Nothing is closed before the first row.
pub cut_starts : (most : ℕ) → IsCutSoFar most [] [] []
unfolding cut IsCutSoFar
cut_starts most rest = refl

after_one : (done : Rows) (r : _) (rest : Rows) → (done ++ r ∷ []) ++ rest ≡ done ++ r ∷ rest
after_one done r rest = append_assoc done (r ∷ []) rest

-- The row joins the open block.
pub cut_joined : (most : ℕ) (done : Rows) (closed : List Rows) (block : Rows) (r : _) → IsCutSoFar most done closed block → fits most (block ++ r ∷ []) ≡ true
    → IsCutSoFar most (done ++ r ∷ []) closed (block ++ r ∷ [])
unfolding cut IsCutSoFar
cut_joined most done closed block r so_far f rest =
    ap (cut_on most []) (after_one done r rest) ∙ so_far (r ∷ rest) ∙ ap (λ cs. closed ++ cs) (step most block r rest true f)

-- The open block is closed, and the row opens the next.
pub cut_closed : (most : ℕ) (done : Rows) (closed : List Rows) (block : Rows) (r : _) → IsCutSoFar most done closed block → fits most (block ++ r ∷ []) ≡ false
    → IsCutSoFar most (done ++ r ∷ []) (closed ++ block ∷ []) (r ∷ [])
unfolding cut IsCutSoFar
cut_closed most done closed block r so_far f rest =
    ap (cut_on most []) (after_one done r rest) ∙ so_far (r ∷ rest) ∙ ap (λ cs. closed ++ cs) (step most block r rest false f)
    ∙ sym (append_assoc closed (block ∷ []) (cut_on most (r ∷ []) rest))

-- The open block is closed at the end.
pub cut_ended : (most : ℕ) (done : Rows) (closed : List Rows) (block : Rows) → IsCutSoFar most done closed block → cut most done ≡ closed ++ last_block block
unfolding IsCutSoFar
cut_ended most done closed block so_far = ap (cut most) (sym (append-nil done)) ∙ so_far []
