-- Whether two trees are equal. Trees are told apart by their codes: a tree has one code, and no other tree has it.
use Rattle.std.specs.Prelude.{Bool, true, false, ◌&&◌, nat_eq}
use base.Stored.{Gv, gnil, gnum, gcons}
use Rattle.tree_meaning.specs.Tree.{Ex}
use Rattle.tree_meaning.specs.Code.{code_ex}

abbrev pub same_code : Gv → Gv → Bool
same_code gnil gnil = true
same_code (gnum m) (gnum n) = nat_eq m n
same_code (gcons a b) (gcons c d) = same_code a c && same_code b d
same_code a b = false

unfoldable pub same_ex : Ex → Ex → Bool
same_ex a b = same_code (code_ex a) (code_ex b)
