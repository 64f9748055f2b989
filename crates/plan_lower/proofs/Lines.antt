-- Lines, one behind the other.
use Rattle.std.proofs.Common.{◌≡◌, ℕ, zero, suc, ◌+◌, ◌<◌, ◌≤◌, refl, ap, sym, ◌∙◌, arith, Bool, true, false, cond, not, List, [], ◌∷◌, ◌++◌, take, length, length-take, ◌-◌, Some, append-nil}
use Rattle.std.proofs.lemmas.List.{flat_map_more}
use Rattle.std.proofs.lemmas.List.Sums.{sum_by-cons}
use Rattle.std.specs.Prelude.{slice_get}
use Rattle.std.specs.List.{enumerate_from, flat_map}
use Rattle.program_meaning.specs.Instructions.{Instr, makes_mask}
use Rattle.program_meaning.specs.Programs.{makes_value, mask_count, value_count}
use Rattle.program_meaning.proofs.Programs.{mask_count-push}
use Rattle.plan_lower.specs.Listing.{instr_line, program_text}
use Rattle.plan_lower.proofs.Items.{some_is, take_more, whole}
use Rattle.plan_lower.proofs.Showing.{ap2}

module _ {A : Type 0} (f : A → List ℕ) where
  pub no_lines : (old : List ℕ) (xs : List A) → old ≡ old ++ flat_map f (take 0 xs)
  no_lines old xs = sym (append-nil old)

  -- one line more
  pub lines_more : (old text new : List ℕ) (xs : List A) (k : ℕ) (x : A) → slice_get xs k ≡ Some x → text ≡ old ++ flat_map f (take k xs) → new ≡ text ++ f x → new ≡ old ++ flat_map f (take (k + 1) xs)
  lines_more old text new xs k x at h is =
      is ∙ ap (λ t. t ++ f x) h ∙ flat_map_more f old (take k xs) x ∙ ap (λ l. old ++ flat_map f l) (sym (take_more xs k x at))

module _ {A : Type 0} where
  pub numbered_at : (xs : List A) (n k : ℕ) (x : A) → slice_get xs k ≡ Some x → slice_get (enumerate_from n xs) k ≡ Some (n + k, x)
  numbered_at [] n k x h = cc
  numbered_at (y ∷ xs) n zero x h = λ i. Some (zero_more n i, some_is y x h i)
    where
      zero_more : (m : ℕ) → m ≡ m + 0
      zero_more m = omega arith
  numbered_at (y ∷ xs) n (suc k) x h = numbered_at xs (n + 1) k x h ∙ ap (λ m. Some (m, x)) (omega arith)

  pub length_numbered : (xs : List A) (n : ℕ) → length (enumerate_from n xs) ≡ length xs
  length_numbered [] n = refl
  length_numbered (x ∷ xs) n = ap suc (length_numbered xs (n + 1))

-- the line of the instruction at a place
abbrev pub line_of : List Instr → ℕ × Instr → List ℕ
line_of xs i = instr_line (mask_count (take i.0 xs)) (value_count (take i.0 xs)) i.1

abbrev pub lines_to : List Instr → ℕ → List ℕ
lines_to xs k = flat_map (line_of xs) (take k (enumerate_from 0 xs))

one_of_two : (b : Bool) (m v n : ℕ) → m + v ≡ n → (cond b 1 0 + m) + (cond (not b) 1 0 + v) ≡ suc n
one_of_two true m v n h = omega (arith, h)
one_of_two false m v n h = omega (arith, h)

-- each instruction makes a mask or a value
all_counted : (xs : List Instr) → mask_count xs + value_count xs ≡ length xs
all_counted [] = refl
all_counted (x ∷ xs) =
    ap2 (λ m v. m + v) (sum_by-cons (λ y. cond (makes_mask y) 1 0) x xs) (sum_by-cons (λ y. cond (makes_value y) 1 0) x xs)
    ∙ one_of_two (makes_mask x) (mask_count xs) (value_count xs) (length xs) (all_counted xs)

counted_to : (xs : List Instr) (k : ℕ) → k ≤ length xs → mask_count (take k xs) + value_count (take k xs) ≡ k
counted_to xs k h = all_counted (take k xs) ∙ omega (arith, h, length-take k xs)

-- one instruction more
module _ (xs : List Instr) (k : ℕ) (x : Instr) (at : slice_get xs k ≡ Some x) (masks : ℕ) (are : masks ≡ mask_count (take k xs)) where
  pub program_more : (old text new : List ℕ) → k < length xs → text ≡ old ++ lines_to xs k → new ≡ text ++ instr_line masks (k - masks) x → new ≡ old ++ lines_to xs (k + 1)
  program_more old text new inside h is =
      let numbered : slice_get (enumerate_from 0 xs) k ≡ Some (k, x) = numbered_at xs 0 k x at ∙ ap (λ m. Some (m, x)) (omega arith) in
      let values : k - masks ≡ value_count (take k xs) = omega (arith, are, counted_to xs k (omega (arith, inside))) in
      lines_more (line_of xs) old text new (enumerate_from 0 xs) k (k, x) numbered h
      (is ∙ ap (λ l. text ++ l) (ap2 (λ m v. instr_line m v x) are values))

  pub mask_more : masks + cond (makes_mask x) 1 0 ≡ mask_count (take (k + 1) xs)
  mask_more = ap (λ n. n + cond (makes_mask x) 1 0) are ∙ sym (mask_count-push (take k xs) x) ∙ sym (ap mask_count (take_more xs k x at))

  pub mask_within : k < length xs → masks + cond (makes_mask x) 1 0 ≤ k + 1
  mask_within h = omega (arith, mask_more, counted_to xs (k + 1) (omega (arith, h)))

pub program_done : (xs : List Instr) (k : ℕ) → length xs ≤ k → lines_to xs k ≡ program_text xs
unfolding program_text
program_done xs k h = ap (flat_map (line_of xs)) (whole (enumerate_from 0 xs) k (omega (arith, h, length_numbered xs 0)))
