-- The code of instructions, by which a proof tells them apart.
use Rattle.std.specs.Prelude.{◌≡◌, ℕ, refl}
use Rattle.std.proofs.Common.{ap, arith}
use base.Stored.{Gv, gnil, gnum, gcons, Coded, coded_ℕ, coded_list}
use Rattle.value_meaning.specs.Code.{coded_val}
use Rattle.tree_meaning.specs.Code.{op_number, op_inj, what_number, what_inj, how_number, how_inj, to_number, to_inj, func_number, func_inj, part_number, part_inj}
use Rattle.program_meaning.specs.Instructions.{Instr}
use Rattle.program_meaning.specs.Instructions as instr

abbrev right : Gv → Gv
right gnil = gnil
right (gnum n) = gnil
right (gcons a b) = b

abbrev left : Gv → Gv
left gnil = gnil
left (gnum n) = gnil
left (gcons a b) = a

abbrev number : Gv → ℕ
number gnil = 0
number (gnum n) = n
number (gcons a b) = 0

abbrev code_instr : Instr → Gv
code_instr instr.all = gcons (gnum 0) gnil
code_instr (instr.holding a b) = gcons (gnum 1) (gcons (gnum a) (gnum b))
code_instr (instr.minus a b) = gcons (gnum 2) (gcons (gnum a) (gnum b))
code_instr (instr.root a) = gcons (gnum 3) (gnum a)
code_instr (instr.field a b c) = gcons (gnum 4) (gcons (gnum a) (gcons (gnum b) ((coded_list coded_ℕ).code c)))
code_instr (instr.at a b c) = gcons (gnum 5) (gcons (gnum a) (gcons (gnum b) (gnum c)))
code_instr (instr.const a b) = gcons (gnum 6) (gcons (gnum a) ((coded_val).code b))
code_instr (instr.bin a b c d) = gcons (gnum 7) (gcons (gnum a) (gcons (gnum (op_number b)) (gcons (gnum c) (gnum d))))
code_instr (instr.neg a b) = gcons (gnum 8) (gcons (gnum a) (gnum b))
code_instr (instr.not a b) = gcons (gnum 9) (gcons (gnum a) (gnum b))
code_instr (instr.is a b c) = gcons (gnum 10) (gcons (gnum a) (gcons (gnum (what_number b)) (gnum c)))
code_instr (instr.first a b c) = gcons (gnum 11) (gcons (gnum a) (gcons (gnum b) (gnum c)))
code_instr (instr.merge a b c d) = gcons (gnum 12) (gcons (gnum a) (gcons (gnum b) (gcons (gnum c) (gnum d))))
code_instr (instr.matching a b c d) = gcons (gnum 13) (gcons (gnum a) (gcons (gnum (how_number b)) (gcons (gnum c) ((coded_list coded_ℕ).code d))))
code_instr (instr.cast a b c) = gcons (gnum 14) (gcons (gnum a) (gcons (gnum (to_number b)) (gnum c)))
code_instr (instr.length a b c) = gcons (gnum 15) (gcons (gnum a) (gcons (gnum (func_number b)) (gnum c)))
code_instr (instr.unix a b c) = gcons (gnum 16) (gcons (gnum a) (gcons (gnum (func_number b)) (gnum c)))
code_instr (instr.trunc a b c) = gcons (gnum 17) (gcons (gnum a) (gcons (gnum (part_number b)) (gnum c)))
code_instr (instr.extract a b c) = gcons (gnum 18) (gcons (gnum a) (gcons (gnum (part_number b)) (gnum c)))
code_instr (instr.shift a b c d) = gcons (gnum 19) (gcons (gnum a) (gcons (gnum (part_number b)) (gcons (gnum c) (gnum d))))

pub instr_inj : (x y : Instr) → code_instr x ≡ code_instr y → x ≡ y
instr_inj instr.all instr.all p = refl
instr_inj (instr.holding a b) (instr.holding e f) p = λ i. instr.holding (ap (λ g. number (left (right g))) p i) (ap (λ g. number (right (right g))) p i)
instr_inj (instr.minus a b) (instr.minus e f) p = λ i. instr.minus (ap (λ g. number (left (right g))) p i) (ap (λ g. number (right (right g))) p i)
instr_inj (instr.root a) (instr.root e) p = λ i. instr.root (ap (λ g. number (right g)) p i)
instr_inj (instr.field a b c) (instr.field e f h) p = λ i. instr.field (ap (λ g. number (left (right g))) p i) (ap (λ g. number (left (right (right g)))) p i) ((coded_list coded_ℕ).inj c h (ap (λ g. right (right (right g))) p) i)
instr_inj (instr.at a b c) (instr.at e f h) p = λ i. instr.at (ap (λ g. number (left (right g))) p i) (ap (λ g. number (left (right (right g)))) p i) (ap (λ g. number (right (right (right g)))) p i)
instr_inj (instr.const a b) (instr.const e f) p = λ i. instr.const (ap (λ g. number (left (right g))) p i) ((coded_val).inj b f (ap (λ g. right (right g)) p) i)
instr_inj (instr.bin a b c d) (instr.bin e f h k) p = λ i. instr.bin (ap (λ g. number (left (right g))) p i) (op_inj b f (ap (λ g. left (right (right g))) p) i) (ap (λ g. number (left (right (right (right g))))) p i) (ap (λ g. number (right (right (right (right g))))) p i)
instr_inj (instr.neg a b) (instr.neg e f) p = λ i. instr.neg (ap (λ g. number (left (right g))) p i) (ap (λ g. number (right (right g))) p i)
instr_inj (instr.not a b) (instr.not e f) p = λ i. instr.not (ap (λ g. number (left (right g))) p i) (ap (λ g. number (right (right g))) p i)
instr_inj (instr.is a b c) (instr.is e f h) p = λ i. instr.is (ap (λ g. number (left (right g))) p i) (what_inj b f (ap (λ g. left (right (right g))) p) i) (ap (λ g. number (right (right (right g)))) p i)
instr_inj (instr.first a b c) (instr.first e f h) p = λ i. instr.first (ap (λ g. number (left (right g))) p i) (ap (λ g. number (left (right (right g)))) p i) (ap (λ g. number (right (right (right g)))) p i)
instr_inj (instr.merge a b c d) (instr.merge e f h k) p = λ i. instr.merge (ap (λ g. number (left (right g))) p i) (ap (λ g. number (left (right (right g)))) p i) (ap (λ g. number (left (right (right (right g))))) p i) (ap (λ g. number (right (right (right (right g))))) p i)
instr_inj (instr.matching a b c d) (instr.matching e f h k) p = λ i. instr.matching (ap (λ g. number (left (right g))) p i) (how_inj b f (ap (λ g. left (right (right g))) p) i) (ap (λ g. number (left (right (right (right g))))) p i) ((coded_list coded_ℕ).inj d k (ap (λ g. right (right (right (right g)))) p) i)
instr_inj (instr.cast a b c) (instr.cast e f h) p = λ i. instr.cast (ap (λ g. number (left (right g))) p i) (to_inj b f (ap (λ g. left (right (right g))) p) i) (ap (λ g. number (right (right (right g)))) p i)
instr_inj (instr.length a b c) (instr.length e f h) p = λ i. instr.length (ap (λ g. number (left (right g))) p i) (func_inj b f (ap (λ g. left (right (right g))) p) i) (ap (λ g. number (right (right (right g)))) p i)
instr_inj (instr.unix a b c) (instr.unix e f h) p = λ i. instr.unix (ap (λ g. number (left (right g))) p i) (func_inj b f (ap (λ g. left (right (right g))) p) i) (ap (λ g. number (right (right (right g)))) p i)
instr_inj (instr.trunc a b c) (instr.trunc e f h) p = λ i. instr.trunc (ap (λ g. number (left (right g))) p i) (part_inj b f (ap (λ g. left (right (right g))) p) i) (ap (λ g. number (right (right (right g)))) p i)
instr_inj (instr.extract a b c) (instr.extract e f h) p = λ i. instr.extract (ap (λ g. number (left (right g))) p i) (part_inj b f (ap (λ g. left (right (right g))) p) i) (ap (λ g. number (right (right (right g)))) p i)
instr_inj (instr.shift a b c d) (instr.shift e f h k) p = λ i. instr.shift (ap (λ g. number (left (right g))) p i) (part_inj b f (ap (λ g. left (right (right g))) p) i) (ap (λ g. number (left (right (right (right g))))) p i) (ap (λ g. number (right (right (right (right g))))) p i)
instr_inj x y p = absurd (omega (arith, ap (λ g. number (left g)) p))

abbrev pub coded_instr : Coded Instr
coded_instr = record { code = code_instr; inj = instr_inj }
