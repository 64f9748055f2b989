-- Lines up to their ends.
use Rattle.std.proofs.Common.{◌≡◌, ◌≢◌, ℕ, ◌≤◌, Bool, true, false, not, ◌==◌, List, [], ◌∷◌, ◌++◌, length, refl, sym, ap, ◌∙◌, arith}
use Rattle.std.proofs.lemmas.Bool.{eqb-true}
use Rattle.std.specs.List.{filter, concat}
use Rattle.pack_meaning.specs.Splitting as splitting
use Rattle.pack_meaning.specs.Splitting.{line_end, with_byte, lines_of, content, HasNoEnd}
use Rattle.pack_meaning.specs.Laws.{LinesAre}

other : (b : ℕ) → b ≢ line_end → (b == line_end) ≡ false
other b n = at (b == line_end) refl
  where
    at : (t : Bool) → (b == line_end) ≡ t → (b == line_end) ≡ false
    at true e = absurd (n (eqb-true b line_end e))
    at false e = e

-- the bytes before a line end are the first line
pub first_line : (line rest : List ℕ) → HasNoEnd line → lines_of (line ++ line_end ∷ rest) ≡ (line ++ line_end ∷ []) ∷ lines_of rest
first_line [] rest h = refl
first_line (b ∷ bs) rest h = rw (other b h.0, first_line bs rest h.1) refl

-- bytes without a line end are one line
pub last_line : (line : List ℕ) → HasNoEnd line → 1 ≤ length line → lines_of line ≡ line ∷ []
last_line [] h some = absurd (omega arith)
last_line (b ∷ []) h some = rw (other b h.0) refl
last_line (b ∷ c ∷ bs) h some = rw (other b h.0, last_line (c ∷ bs) h.1 (omega arith)) refl

joined : (b : ℕ) (ls : List (List ℕ)) → concat (with_byte b ls) ≡ b ∷ concat ls
joined b [] = refl
joined b (l ∷ ls) = refl

-- end to end the lines are the input
pub lines_whole : (bytes : List ℕ) → concat (lines_of bytes) ≡ bytes
lines_whole [] = refl
lines_whole (b ∷ bs) = at (lines_whole bs) (b == line_end) refl
  where
    at : concat (lines_of bs) ≡ bs → (t : Bool) → (b == line_end) ≡ t → concat (lines_of (b ∷ bs)) ≡ b ∷ bs
    at ih true e = rw e (ap (λ l. line_end ∷ l) ih ∙ ap (λ c. c ∷ bs) (sym (eqb-true b line_end e)))
    at ih false e = rw (e, joined b (lines_of bs)) (ap (λ l. b ∷ l) ih)

pub content_bare : (line : List ℕ) → HasNoEnd line → content line ≡ line
content_bare [] h = refl
content_bare (b ∷ bs) h = rw (other b h.0) (ap (λ l. b ∷ l) (content_bare bs h.1))

pub content_ended : (line : List ℕ) → HasNoEnd line → content (line ++ line_end ∷ []) ≡ line
content_ended [] h = refl
content_ended (b ∷ bs) h = rw (other b h.0) (ap (λ l. b ∷ l) (content_ended bs h.1))

pub lines_split : LinesAre
lines_split line rest = record {
  first = first_line line rest;
  last = last_line line;
  whole = lines_whole rest;
  inner = content_ended line;
  bare = content_bare line;
}
