-- Instructions: each makes one register, a mask or a value, from registers that were made before it. Masks and values are
-- numbered apart. `mask` is the number of the mask in whose lanes the instruction works.
use Rattle.std.specs.Prelude.{ℕ, List, Bool, true, false}
use Rattle.value_meaning.specs.Val.{Val}
use Rattle.tree_meaning.specs.declared.BinOp.{BinOp}
use Rattle.tree_meaning.specs.declared.IsWhat.{IsWhat}
use Rattle.tree_meaning.specs.declared.How.{How}
use Rattle.tree_meaning.specs.declared.CastTo.{CastTo}
use Rattle.tree_meaning.specs.declared.Func.{Func}
use Rattle.tree_meaning.specs.declared.Part.{Part}

pub data Instr : Type 0 where
  -- m0 = all
  all : Instr
  -- m1 = true m0 r3
  holding : (mask a : ℕ) → Instr
  -- m2 = minus m0 m1
  minus : (mask less : ℕ) → Instr
  -- r0 = root m0
  root : (mask : ℕ) → Instr
  -- r1 = field m0 r0 "a"
  field : (mask a : ℕ) (name : List ℕ) → Instr
  -- r2 = at m0 r1 3
  at : (mask a place : ℕ) → Instr
  -- r3 = const m0 5
  const : (mask : ℕ) (v : Val) → Instr
  -- r4 = add m0 r1 r2
  bin : (mask : ℕ) (op : BinOp) (a b : ℕ) → Instr
  -- r5 = neg m0 r4
  neg : (mask a : ℕ) → Instr
  -- r5 = not m0 r4
  not : (mask a : ℕ) → Instr
  -- r6 = is m0 null r1
  is : (mask : ℕ) (what : IsWhat) (a : ℕ) → Instr
  -- r7 = first m0 r1 r2
  first : (mask a b : ℕ) → Instr
  -- r8 = merge m0 m1 r1 r2
  merge : (mask pick a b : ℕ) → Instr
  -- r9 = like m0 r1 'a%'
  matching : (mask : ℕ) (how : How) (a : ℕ) (pattern : List ℕ) → Instr
  -- r10 = cast m0 integer r1
  cast : (mask : ℕ) (to : CastTo) (a : ℕ) → Instr
  -- r11 = charlength m0 r1
  length : (mask : ℕ) (name : Func) (a : ℕ) → Instr
  -- r11 = unixepoch m0 r1
  unix : (mask : ℕ) (name : Func) (a : ℕ) → Instr
  -- r12 = trunc m0 month r1
  trunc : (mask : ℕ) (part : Part) (a : ℕ) → Instr
  -- r12 = extract m0 month r1
  extract : (mask : ℕ) (part : Part) (a : ℕ) → Instr
  -- r13 = shift m0 day r2 r1
  shift : (mask : ℕ) (part : Part) (count a : ℕ) → Instr

-- whether an instruction makes a mask register, and no value register
abbrev pub makes_mask : Instr → Bool
makes_mask all = true
makes_mask (holding m a) = true
makes_mask (minus m k) = true
makes_mask x = false
