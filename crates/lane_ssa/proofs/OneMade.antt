-- What one instruction reads and makes, in one lane.
use Rattle.std.proofs.Common.{◌≡◌, ℕ, ◌<◌, ap, subst, sym, refl, ◌∙◌, Bool, true, false, cond, List, length, slice_index_or, All}
use Rattle.std.proofs.lemmas.List.{get_or-map}
use Rattle.std.proofs.lemmas.List.Elements.{All-get_or}
use Rattle.value_meaning.specs.Val.{Val, missing}
use Rattle.block_meaning.specs.Tables.{Table}
use Rattle.lane_base.specs.declared.mask.LaneMask.{LaneMask}
use Rattle.lane_base.specs.declared.lanes.Lanes.{Lanes}
use Rattle.lane_base.specs.Bits.{has}
use Rattle.lane_base.specs.Registers.{value_at, under, AreLegal}
use Rattle.program_meaning.specs.Instructions.{Instr}
use Rattle.program_meaning.specs.Instructions as instr
use Rattle.program_meaning.specs.Programs.{IsInstruction}
use Rattle.program_meaning.specs.Registers.{Lane, State, mask_at, made_by, new_value}
use Rattle.program_meaning.specs.Registers as registers
use Rattle.lane_ssa.specs.Frames.{registers_at}
use Rattle.lane_ssa.specs.Operands.{mask_number, operand_number, second_number, takes_one, one_of, takes_two, two_of}

-- what a function of one value makes
made_of_one : (l : Lane) (s : State) (x : Instr) → takes_one x ≡ true → made_by l s x ≡ new_value (under (mask_at s (mask_number x)) (one_of x (registers.value_at s (operand_number x))))
made_of_one l s (instr.neg m a) h = refl
made_of_one l s (instr.not m a) h = refl
made_of_one l s (instr.is m what a) h = refl
made_of_one l s (instr.matching m how a pattern) h = refl
made_of_one l s (instr.cast m to a) h = refl
made_of_one l s (instr.length m f a) h = refl
made_of_one l s (instr.unix m f a) h = refl
made_of_one l s (instr.trunc m part a) h = refl
made_of_one l s (instr.extract m part a) h = refl
made_of_one l s x h = cc

-- what a function of two values makes
made_of_two : (l : Lane) (s : State) (x : Instr) → takes_two x ≡ true → made_by l s x ≡ new_value (under (mask_at s (mask_number x)) (two_of x (registers.value_at s (operand_number x)) (registers.value_at s (second_number x))))
made_of_two l s (instr.bin m op a b) h = refl
made_of_two l s (instr.first m a b) h = refl
made_of_two l s (instr.shift m part count a) h = refl
made_of_two l s x h = cc

-- the registers that a function of one value names are there
record NamesOne (m v : ℕ) (x : Instr) : Type 0 where
  mask : mask_number x < m
  operand : operand_number x < v

names_one : (m v : ℕ) (x : Instr) → takes_one x ≡ true → IsInstruction m v x → NamesOne m v x
names_one m v (instr.neg k a) h n = record { mask = n.0; operand = n.1 }
names_one m v (instr.not k a) h n = record { mask = n.0; operand = n.1 }
names_one m v (instr.is k what a) h n = record { mask = n.0; operand = n.1 }
names_one m v (instr.matching k how a pattern) h n = record { mask = n.0; operand = n.1 }
names_one m v (instr.cast k to a) h n = record { mask = n.0; operand = n.1 }
names_one m v (instr.length k f a) h n = record { mask = n.0; operand = n.1 }
names_one m v (instr.unix k f a) h n = record { mask = n.0; operand = n.1 }
names_one m v (instr.trunc k part a) h n = record { mask = n.0; operand = n.1 }
names_one m v (instr.extract k part a) h n = record { mask = n.0; operand = n.1 }
names_one m v x h n = absurd (cc h)

-- the registers that a function of two values names are there
record NamesTwo (m v : ℕ) (x : Instr) : Type 0 where
  mask : mask_number x < m
  operand : operand_number x < v
  second : second_number x < v

names_two : (m v : ℕ) (x : Instr) → takes_two x ≡ true → IsInstruction m v x → NamesTwo m v x
names_two m v (instr.bin k op a b) h n = record { mask = n.0; operand = n.1; second = n.2 }
names_two m v (instr.first k a b) h n = record { mask = n.0; operand = n.1; second = n.2 }
names_two m v (instr.shift k part count a) h n = record { mask = n.0; operand = n.1; second = n.2 }
names_two m v x h n = absurd (cc h)

-- a register that is read is legal
pub legal_read : (table : Table) (vs : List Lanes) (k : ℕ) (x : Lanes) → x ≡ slice_index_or vs k x → k < length vs → All (AreLegal table) vs → AreLegal table x
legal_read table vs k x e h all = subst (AreLegal table) (sym e) (All-get_or (AreLegal table) vs k x h all)

-- what is made of values that are read, in a mask that is read
pub of_one : (f : Val → Val) {x : Val} {b c : Bool} {v w : Val} → x ≡ under b (f v) → b ≡ c → v ≡ w → x ≡ under c (f w)
of_one f {b = b} {c = c} {v = v} made e g = made ∙ ap (λ y. under y (f v)) e ∙ ap (λ y. under c (f y)) g

of_two : (f : Val → Val → Val) {x : Val} {b c : Bool} {v w r s : Val} → x ≡ under b (f v r) → b ≡ c → v ≡ w → r ≡ s → x ≡ under c (f w s)
of_two f {b = b} {c = c} {v = v} {w = w} {r = r} {s = s} made e g h = of_one (λ y. f y r) made e g ∙ ap (λ y. under c (f w y)) h

pub of_pick : {x : Val} {b c p q : Bool} {v w r s : Val} → x ≡ under b (cond p v r) → b ≡ c → p ≡ q → v ≡ w → r ≡ s → x ≡ under c (cond q w s)
of_pick {c = c} {p = p} {w = w} {s = s} made e k g h = of_two (cond p) made e g h ∙ ap (λ y. under c (cond y w s)) k

module _ (table : Table) (ms : List LaneMask) (vs : List Lanes) (i : ℕ) where
  pub mask_read : (k n : ℕ) (d : LaneMask) → k ≡ n → n < length ms → has (slice_index_or ms k d).0 i ≡ mask_at (registers_at table ms vs i) n
  mask_read k n d e h = ap (λ k. has (slice_index_or ms k d).0 i) e ∙ sym (get_or-map (λ (m : LaneMask). has m.0 i) ms n d false h)

  pub value_read : (k n : ℕ) (x : Lanes) → k ≡ n → x ≡ slice_index_or vs k x → n < length vs → value_at table x i ≡ registers.value_at (registers_at table ms vs i) n
  value_read k n x e is h =
      ap (λ l. value_at table l i) (is ∙ ap (λ k. slice_index_or vs k x) e) ∙ sym (get_or-map (λ l. value_at table l i) vs n x missing h)

  -- the value of a function of one value
  pub one_made : (l : Lane) (x : Instr) (m a : ℕ) (d : LaneMask) (v : Lanes) (r : Val) → takes_one x ≡ true → IsInstruction (length ms) (length vs) x → m ≡ mask_number x → a ≡ operand_number x → v ≡ slice_index_or vs a v → r ≡ under (has (slice_index_or ms m d).0 i) (one_of x (value_at table v i)) → new_value r ≡ made_by l (registers_at table ms vs i) x
  one_made l x m a d v r one n mask operand is made =
      let names = names_one (length ms) (length vs) x one n in
      ap new_value (of_one (one_of x) made (mask_read m (mask_number x) d mask names.mask) (value_read a (operand_number x) v operand is names.operand))
      ∙ sym (made_of_one l (registers_at table ms vs i) x one)

  -- the value of a function of two values
  pub two_made : (l : Lane) (x : Instr) (m a b : ℕ) (d : LaneMask) (v w : Lanes) (r : Val) → takes_two x ≡ true → IsInstruction (length ms) (length vs) x → m ≡ mask_number x → a ≡ operand_number x → b ≡ second_number x → v ≡ slice_index_or vs a v → w ≡ slice_index_or vs b w → r ≡ under (has (slice_index_or ms m d).0 i) (two_of x (value_at table v i) (value_at table w i)) → new_value r ≡ made_by l (registers_at table ms vs i) x
  two_made l x m a b d v w r two n mask operand second is is' made =
      let names = names_two (length ms) (length vs) x two n in
      ap new_value (of_two (two_of x) made (mask_read m (mask_number x) d mask names.mask) (value_read a (operand_number x) v operand is names.operand) (value_read b (second_number x) w second is' names.second))
      ∙ sym (made_of_two l (registers_at table ms vs i) x two)
