-- A job with each instruction and each end, and its listing, written by hand.
use Rattle.std.specs.Prelude.{◌≡◌, negsuc, List, ℕ, [], ◌∷◌, false, None, Some, codes}
use Rattle.value_meaning.specs.Val as val
use Rattle.tree_meaning.specs.declared.BinOp.TheVariants as op
use Rattle.tree_meaning.specs.declared.IsWhat.TheVariants as what
use Rattle.tree_meaning.specs.declared.How.TheVariants as how
use Rattle.tree_meaning.specs.declared.CastTo.TheVariants as to
use Rattle.tree_meaning.specs.declared.Func.TheVariants as func
use Rattle.tree_meaning.specs.declared.Part.TheVariants as part
use Rattle.tree_meaning.specs.declared.AggName.TheVariants as aggs
use Rattle.program_meaning.specs.Instructions as instr
use Rattle.program_meaning.specs.Jobs.{Job}
use Rattle.plan_lower.specs.Listing.{listing_text}

abbrev pub each_line : Job
each_line =
    record {
      program =
          instr.all ∷
          instr.root 0 ∷
          instr.all ∷
          instr.const 0 (val.int (negsuc 4)) ∷
          instr.minus 0 1 ∷
          instr.field 2 0 (codes "a\"b") ∷
          instr.at 0 2 3 ∷
          instr.holding 0 3 ∷
          instr.neg 0 1 ∷
          instr.not 0 3 ∷
          instr.is 0 what.Missing 3 ∷
          instr.first 0 2 3 ∷
          instr.merge 0 1 0 1 ∷
          instr.matching 0 how.Like 2 (codes "a%'b") ∷
          instr.cast 0 to.Integer 2 ∷
          instr.length 0 func.CharLength 2 ∷
          instr.unix 0 func.UnixMicro 2 ∷
          instr.trunc 0 part.Month 2 ∷
          instr.extract 0 part.Year 2 ∷
          instr.shift 0 part.Day 1 13 ∷
          instr.bin 0 op.Add 1 4 ∷
          [];
      ends =
          record {
            keep = 3;
            star = false;
            grouped = false;
            outs = (codes "a\"b", 0) ∷ [];
            sorts = 1 ∷ 2 ∷ [];
            groups = 3 ∷ [];
            aggs = (aggs.CountAll, None) ∷ (aggs.BoolOr, Some 4) ∷ [];
          };
    }

abbrev pub each_line_text : List ℕ
each_line_text = codes "m0 = all\nr0 = root m0\nm1 = all\nr1 = const m0 -5\nm2 = minus m0 m1\nr2 = field m2 r0 \"a\"\"b\"\nr3 = at m0 r2 3\nm3 = true m0 r3\nr4 = neg m0 r1\nr5 = not m0 r3\nr6 = is m0 missing r3\nr7 = first m0 r2 r3\nr8 = merge m0 m1 r0 r1\nr9 = like m0 r2 'a%''b'\nr10 = cast m0 integer r2\nr11 = charlength m0 r2\nr12 = unixmicro m0 r2\nr13 = trunc m0 month r2\nr14 = extract m0 year r2\nr15 = shift m0 day r1 r13\nr16 = add m0 r1 r4\nkeep m3\nout \"a\"\"b\" r0\nsort r1\nsort r2\ngroup r3\nagg countall\nagg boolor r4\n"

-- it is listed as it is written here
abbrev pub IsListedSo : Type 0
IsListedSo = listing_text each_line ≡ each_line_text
