-- What is printed before something does not look at it.
use Rattle.std.proofs.Common.{◌≡◌, ℕ, List, [], ◌∷◌, ◌++◌, refl, ap, sym, ◌∙◌, append_assoc}
use Rattle.value_meaning.specs.Val as val
use Rattle.query_meaning.specs.declared.Mark.TheVariants as m
use Rattle.query_meaning.specs.declared.FunctionWord.TheVariants as f
use Rattle.tree_meaning.specs.declared.How.TheVariants as how
use Rattle.tree_meaning.specs.Tree.{Step, name, at, Ex, Exs, Arms, lit, path, neg, no, bin, is, member, between, matching, choice, cast, call, trunc, extract, shift, agg_of_rows, agg, no_exs, ex, no_arms, arm}
use Rattle.query_meaning.specs.Words.{cast_text}
use Rattle.query_meaning.specs.Tokens.{word, string, num}
use Rattle.print_meaning.specs.Pieces.{Pieces, space, token, spelling, spelled}
use Rattle.print_meaning.specs.Print.{key, title, op_mark, what_mark, func_word, agg_word, put_head, put_part, put_comma, put_between, put_literal, put_steps, put, put_exs, put_other_exs, put_arms}

pub spelled-append : (a b : Pieces) → spelled (a ++ b) ≡ spelled a ++ spelled b
spelled-append [] b = refl
spelled-append (space ∷ a) b = ap (λ (z : List ℕ). 32 ∷ z) (spelled-append a b)
spelled-append (token t ∷ a) b = ap (λ (z : List ℕ). spelling t ++ z) (spelled-append a b) ∙ sym (append_assoc (spelling t) (spelled a) (spelled b))

pub literal_front : (v : val.Val) (s t : Pieces) → put_literal v (s ++ t) ≡ put_literal v s ++ t
literal_front val.missing s t = refl
literal_front val.null s t = refl
literal_front (val.truth b) s t = refl
literal_front (val.int n) s t = refl
literal_front (val.time n) s t = refl
literal_front (val.text p) s t = refl
literal_front (val.list vs) s t = refl
literal_front (val.struct fs) s t = refl

pub steps_front : (ss : List Step) (s t : Pieces) → put_steps ss (s ++ t) ≡ put_steps ss s ++ t
steps_front [] s t = refl
steps_front (name n ∷ ss) s t = ap (λ (z : Pieces). key m.Dot ∷ title n ∷ z) (steps_front ss s t)
steps_front (at i ∷ ss) s t = ap (λ (z : Pieces). key m.OpenIndex ∷ token (num i) ∷ key m.CloseIndex ∷ z) (steps_front ss s t)

module _ (row : List ℕ) where
  mutual
    pub put_front : (e : Ex) (s t : Pieces) → put row e (s ++ t) ≡ put row e s ++ t
    put_front (lit v) s t = literal_front v s t
    put_front (path r ss) s t = ap (λ (z : Pieces). title row ∷ z) (steps_front ss s t)
    put_front (neg e) s t = ap (λ (z : Pieces). key m.Open ∷ key m.Minus ∷ z) (put_front e (key m.Close ∷ s) t)
    put_front (no e) s t = ap (λ (z : Pieces). key m.Open ∷ key m.Not ∷ space ∷ z) (put_front e (key m.Close ∷ s) t)
    put_front (bin o a b) s t =
        let last = put row b (key m.Close ∷ s) in
        ap (λ (z : Pieces). key m.Open ∷ put row a (put_between (op_mark o) z)) (put_front b (key m.Close ∷ s) t)
        ∙ ap (λ (z : Pieces). key m.Open ∷ z) (put_front a (put_between (op_mark o) last) t)
    put_front (is w e) s t = ap (λ (z : Pieces). key m.Open ∷ z) (put_front e (put_between m.Is (key (what_mark w) ∷ key m.Close ∷ s)) t)
    put_front (member e es) s t =
        let last = put_exs row es (key m.Close ∷ key m.Close ∷ s) in
        ap (λ (z : Pieces). key m.Open ∷ put row e (put_between m.In (key m.Open ∷ z))) (exs_front es (key m.Close ∷ key m.Close ∷ s) t)
        ∙ ap (λ (z : Pieces). key m.Open ∷ z) (put_front e (put_between m.In (key m.Open ∷ last)) t)
    put_front (between e a b) s t =
        let last = put row b (key m.Close ∷ s) in
        let middle = put row a (put_between m.And last) in
        ap (λ (z : Pieces). key m.Open ∷ put row e (put_between m.Between (put row a (put_between m.And z)))) (put_front b (key m.Close ∷ s) t)
        ∙ ap (λ (z : Pieces). key m.Open ∷ put row e (put_between m.Between z)) (put_front a (put_between m.And last) t)
        ∙ ap (λ (z : Pieces). key m.Open ∷ z) (put_front e (put_between m.Between middle) t)
    put_front (matching how.Like e p) s t = ap (λ (z : Pieces). key m.Open ∷ z) (put_front e (put_between m.Like (token (string p) ∷ key m.Close ∷ s)) t)
    put_front (matching how.ILike e p) s t = ap (λ (z : Pieces). key m.Open ∷ z) (put_front e (put_between m.ILike (token (string p) ∷ key m.Close ∷ s)) t)
    put_front (matching how.Starts e p) s t = ap (put_head f.StartsWith) (put_front e (put_comma (token (string p) ∷ key m.Close ∷ s)) t)
    put_front (matching how.Ends e p) s t = ap (put_head f.EndsWith) (put_front e (put_comma (token (string p) ∷ key m.Close ∷ s)) t)
    put_front (matching how.Contains e p) s t = ap (put_head f.Contains) (put_front e (put_comma (token (string p) ∷ key m.Close ∷ s)) t)
    put_front (choice r e) s t =
        let last = put row e (space ∷ key m.End ∷ key m.Close ∷ s) in
        ap (λ (z : Pieces). key m.Open ∷ key m.Case ∷ put_arms row r (put_between m.Else z)) (put_front e (space ∷ key m.End ∷ key m.Close ∷ s) t)
        ∙ ap (λ (z : Pieces). key m.Open ∷ key m.Case ∷ z) (arms_front r (put_between m.Else last) t)
    put_front (cast c e) s t = ap (λ (z : Pieces). key m.Cast ∷ key m.Open ∷ z) (put_front e (put_between m.As (token (word (cast_text c)) ∷ key m.Close ∷ s)) t)
    put_front (call g es) s t = ap (put_head (func_word g)) (exs_front es (key m.Close ∷ s) t)
    put_front (trunc p e) s t = ap (λ (z : Pieces). put_head f.DateTrunc (put_part p (put_comma z))) (put_front e (key m.Close ∷ s) t)
    put_front (extract p e) s t = ap (λ (z : Pieces). put_head f.Extract (put_part p (put_between m.From z))) (put_front e (key m.Close ∷ s) t)
    put_front (shift p a e) s t =
        let last = put row e (key m.Close ∷ s) in
        ap (λ (z : Pieces). put_head f.DateAdd (put_part p (put_comma (put row a (put_comma z))))) (put_front e (key m.Close ∷ s) t)
        ∙ ap (λ (z : Pieces). put_head f.DateAdd (put_part p (put_comma z))) (put_front a (put_comma last) t)
    put_front (agg_of_rows n) s t = refl
    put_front (agg n e) s t = ap (put_head (agg_word n)) (put_front e (key m.Close ∷ s) t)

    pub exs_front : (es : Exs) (s t : Pieces) → put_exs row es (s ++ t) ≡ put_exs row es s ++ t
    exs_front no_exs s t = refl
    exs_front (ex e es) s t = ap (put row e) (other_exs_front es s t) ∙ put_front e (put_other_exs row es s) t

    pub other_exs_front : (es : Exs) (s t : Pieces) → put_other_exs row es (s ++ t) ≡ put_other_exs row es s ++ t
    other_exs_front no_exs s t = refl
    other_exs_front (ex e es) s t = ap (λ (z : Pieces). put_comma (put row e z)) (other_exs_front es s t) ∙ ap put_comma (put_front e (put_other_exs row es s) t)

    pub arms_front : (r : Arms) (s t : Pieces) → put_arms row r (s ++ t) ≡ put_arms row r s ++ t
    arms_front no_arms s t = refl
    arms_front (arm a b r) s t =
        let last = put row b (put_arms row r s) in
        ap (λ (z : Pieces). put_between m.When (put row a (put_between m.Then (put row b z)))) (arms_front r s t)
        ∙ ap (λ (z : Pieces). put_between m.When (put row a (put_between m.Then z))) (put_front b (put_arms row r s) t)
        ∙ ap (put_between m.When) (put_front a (put_between m.Then last) t)
