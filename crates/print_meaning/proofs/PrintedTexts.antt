-- The texts of the forms of expressions, in the pieces in which they are written.
use Rattle.std.proofs.Common.{◌≡◌, ℕ, List, [], ◌∷◌, ◌++◌, refl, ap, ◌∙◌, append_assoc}
use Rattle.std.specs.Prelude.{codes}
use Rattle.value_meaning.specs.Val as val
use Rattle.query_meaning.specs.declared.Mark.TheVariants as m
use Rattle.tree_meaning.specs.declared.BinOp.{BinOp}
use Rattle.tree_meaning.specs.declared.IsWhat.{IsWhat}
use Rattle.tree_meaning.specs.declared.How.{How}
use Rattle.tree_meaning.specs.declared.How.TheVariants as how
use Rattle.tree_meaning.specs.declared.CastTo.{CastTo}
use Rattle.tree_meaning.specs.declared.Func.{Func}
use Rattle.tree_meaning.specs.declared.Part.{Part}
use Rattle.tree_meaning.specs.declared.AggName.{AggName}
use Rattle.tree_meaning.specs.Tree.{Step, Ex, lit, path, neg, no, bin, is, member, between, matching, choice, cast, call, trunc, extract, shift, agg_of_rows, agg, exs, arms}
use Rattle.query_meaning.specs.Words.{mark_text, function_text, part_text, cast_text}
use Rattle.query_meaning.specs.Tokens.{word, string}
use Rattle.print_meaning.specs.Pieces.{Pieces, space, token, in_quotes, spelling, spelled}
use Rattle.print_meaning.specs.Print.{key, op_mark, what_mark, func_word, agg_word, put_comma, put_between, put, put_exs, put_arms}
use Rattle.print_meaning.specs.Texts.{literal_text, steps_text, text, list_text, arms_text, between_text}
use Rattle.print_meaning.proofs.PrintedFronts.{spelled-append, put_front, exs_front, arms_front}

-- the text before something is the text alone and then that
pub ex_text : (row : List ℕ) (e : Ex) (s : Pieces) → spelled (put row e s) ≡ text row e ++ spelled s
unfolding text
ex_text row e s = ap spelled (put_front row e [] s) ∙ spelled-append (put row e []) s

pub exs_text : (row : List ℕ) (es : List Ex) (s : Pieces) → spelled (put_exs row (exs es) s) ≡ list_text row es ++ spelled s
unfolding list_text
exs_text row es s = ap spelled (exs_front row (exs es) [] s) ∙ spelled-append (put_exs row (exs es) []) s

pub whens_text : (row : List ℕ) (xs : List (Ex × Ex)) (s : Pieces) → spelled (put_arms row (arms xs) s) ≡ arms_text row xs ++ spelled s
unfolding arms_text
whens_text row xs s = ap spelled (arms_front row (arms xs) [] s) ∙ spelled-append (put_arms row (arms xs) []) s

text_is : (row : List ℕ) (e : Ex) → text row e ≡ spelled (put row e [])
unfolding text
text_is row e = refl

pub lit_text : (row : List ℕ) (v : val.Val) → text row (lit v) ≡ literal_text v
unfolding text literal_text
lit_text row v = refl

pub path_text : (row : List ℕ) (r : ℕ) (ss : List Step) → text row (path r ss) ≡ in_quotes 34 row ++ steps_text ss
unfolding text steps_text spelling
path_text row r ss = refl

module _ (row : List ℕ) where
  pub neg_text : (e : Ex) → text row (neg e) ≡ codes "(-" ++ (text row e ++ codes ")")
  unfolding text spelling
  neg_text e = ap (λ (z : List ℕ). 40 ∷ 45 ∷ z) (ex_text row e (key m.Close ∷ []))

  pub not_text : (e : Ex) → text row (no e) ≡ codes "(NOT " ++ (text row e ++ codes ")")
  unfolding text spelling
  not_text e = ap (λ (z : List ℕ). codes "(NOT " ++ z) (ex_text row e (key m.Close ∷ []))

  pub bin_text : (o : BinOp) (a b : Ex) → text row (bin o a b) ≡ (codes "(" ++ (text row a ++ between_text (op_mark o))) ++ ([] ++ (text row b ++ codes ")"))
  unfolding spelling
  bin_text o a b = text_is row (bin o a b) ∙ ap (λ (z : List ℕ). 40 ∷ z) (ex_text row a (put_between (op_mark o) (put row b (key m.Close ∷ []))) ∙ ap (λ (z : List ℕ). text row a ++ (32 ∷ (mark_text (op_mark o) ++ (32 ∷ z)))) (ex_text row b (key m.Close ∷ [])) ∙ (simp append_assoc))

  pub is_text : (w : IsWhat) (e : Ex) → text row (is w e) ≡ (codes "(" ++ (text row e ++ codes " IS ")) ++ (mark_text (what_mark w) ++ codes ")")
  unfolding spelling
  is_text w e = text_is row (is w e) ∙ ap (λ (z : List ℕ). 40 ∷ z) (ex_text row e (put_between m.Is (key (what_mark w) ∷ key m.Close ∷ [])) ∙ (simp append_assoc))

  pub member_text : (e : Ex) (es : List Ex) → text row (member e (exs es)) ≡ (codes "(" ++ (text row e ++ codes " IN (")) ++ (list_text row es ++ codes "))")
  unfolding spelling
  member_text e es = text_is row (member e (exs es)) ∙ ap (λ (z : List ℕ). 40 ∷ z) (ex_text row e (put_between m.In (key m.Open ∷ put_exs row (exs es) (key m.Close ∷ key m.Close ∷ []))) ∙ ap (λ (z : List ℕ). text row e ++ (codes " IN (" ++ z)) (exs_text row es (key m.Close ∷ key m.Close ∷ [])) ∙ (simp append_assoc))

  pub between_three : (e a b : Ex) → text row (between e a b) ≡ (codes "(" ++ (text row e ++ codes " BETWEEN ")) ++ (([] ++ (text row a ++ codes " AND ")) ++ ([] ++ (text row b ++ codes ")")))
  unfolding spelling
  between_three e a b =
      let last = put row b (key m.Close ∷ []) in
      text_is row (between e a b)
      ∙ ap (λ (z : List ℕ). 40 ∷ z) (ex_text row e (put_between m.Between (put row a (put_between m.And last)))
      ∙ ap (λ (z : List ℕ). text row e ++ (codes " BETWEEN " ++ z)) (ex_text row a (put_between m.And last) ∙ ap (λ (z : List ℕ). text row a ++ (codes " AND " ++ z)) (ex_text row b (key m.Close ∷ []))) ∙ (simp append_assoc))

  -- how a match is written before what is matched, and between that and the text
  abbrev pub match_before : How → List ℕ
  match_before how.Like = codes "("
  match_before how.ILike = codes "("
  match_before how.Starts = codes "STARTS_WITH("
  match_before how.Ends = codes "ENDS_WITH("
  match_before how.Contains = codes "CONTAINS("

  abbrev pub match_between : How → List ℕ
  match_between how.Like = codes " LIKE "
  match_between how.ILike = codes " ILIKE "
  match_between how.Starts = codes ", "
  match_between how.Ends = codes ", "
  match_between how.Contains = codes ", "

  pub match_text : (h : How) (e : Ex) (p : List ℕ) → text row (matching h e p) ≡ (match_before h ++ (text row e ++ match_between h)) ++ (in_quotes 39 p ++ codes ")")
  unfolding spelling
  match_text how.Like e p = text_is row (matching how.Like e p) ∙ ap (λ (z : List ℕ). codes "(" ++ z) (ex_text row e (put_between m.Like (token (string p) ∷ key m.Close ∷ [])) ∙ (simp append_assoc))
  match_text how.ILike e p = text_is row (matching how.ILike e p) ∙ ap (λ (z : List ℕ). codes "(" ++ z) (ex_text row e (put_between m.ILike (token (string p) ∷ key m.Close ∷ [])) ∙ (simp append_assoc))
  match_text how.Starts e p = text_is row (matching how.Starts e p) ∙ ap (λ (z : List ℕ). codes "STARTS_WITH(" ++ z) (ex_text row e (put_comma (token (string p) ∷ key m.Close ∷ [])) ∙ (simp append_assoc))
  match_text how.Ends e p = text_is row (matching how.Ends e p) ∙ ap (λ (z : List ℕ). codes "ENDS_WITH(" ++ z) (ex_text row e (put_comma (token (string p) ∷ key m.Close ∷ [])) ∙ (simp append_assoc))
  match_text how.Contains e p = text_is row (matching how.Contains e p) ∙ ap (λ (z : List ℕ). codes "CONTAINS(" ++ z) (ex_text row e (put_comma (token (string p) ∷ key m.Close ∷ [])) ∙ (simp append_assoc))

  pub case_text : (xs : List (Ex × Ex)) (e : Ex) → text row (choice (arms xs) e) ≡ codes "(CASE" ++ (arms_text row xs ++ (codes " ELSE " ++ (text row e ++ codes " END)")))
  unfolding spelling
  case_text xs e =
      let last = put row e (space ∷ key m.End ∷ key m.Close ∷ []) in
      text_is row (choice (arms xs) e) ∙ ap (λ (z : List ℕ). codes "(CASE" ++ z) (whens_text row xs (put_between m.Else last) ∙ ap (λ (z : List ℕ). arms_text row xs ++ (codes " ELSE " ++ z)) (ex_text row e (space ∷ key m.End ∷ key m.Close ∷ [])))

  pub cast_call_text : (c : CastTo) (e : Ex) → text row (cast c e) ≡ (codes "CAST(" ++ (text row e ++ codes " AS ")) ++ (cast_text c ++ codes ")")
  unfolding spelling
  cast_call_text c e = text_is row (cast c e) ∙ ap (λ (z : List ℕ). codes "CAST(" ++ z) (ex_text row e (put_between m.As (token (word (cast_text c)) ∷ key m.Close ∷ [])) ∙ (simp append_assoc))

  pub call_text : (g : Func) (es : List Ex) → text row (call g (exs es)) ≡ function_text (func_word g) ++ (codes "(" ++ (list_text row es ++ codes ")"))
  unfolding spelling
  call_text g es = text_is row (call g (exs es)) ∙ ap (λ (z : List ℕ). function_text (func_word g) ++ (40 ∷ z)) (exs_text row es (key m.Close ∷ []))

  pub trunc_text : (p : Part) (e : Ex) → text row (trunc p e) ≡ codes "DATE_TRUNC(" ++ (part_text p ++ (codes ", " ++ (text row e ++ codes ")")))
  unfolding spelling
  trunc_text p e = text_is row (trunc p e) ∙ ap (λ (z : List ℕ). codes "DATE_TRUNC(" ++ (part_text p ++ (codes ", " ++ z))) (ex_text row e (key m.Close ∷ []))

  pub extract_text : (p : Part) (e : Ex) → text row (extract p e) ≡ codes "EXTRACT(" ++ (part_text p ++ (codes " FROM " ++ (text row e ++ codes ")")))
  unfolding spelling
  extract_text p e = text_is row (extract p e) ∙ ap (λ (z : List ℕ). codes "EXTRACT(" ++ (part_text p ++ (codes " FROM " ++ z))) (ex_text row e (key m.Close ∷ []))

  pub shift_text : (p : Part) (a e : Ex) → text row (shift p a e) ≡ codes "DATE_ADD(" ++ (part_text p ++ ((codes ", " ++ (text row a ++ codes ", ")) ++ ([] ++ (text row e ++ codes ")"))))
  unfolding spelling
  shift_text p a e =
      let last = put row e (key m.Close ∷ []) in
      text_is row (shift p a e)
      ∙ ap (λ (z : List ℕ). codes "DATE_ADD(" ++ (part_text p ++ (codes ", " ++ z))) (ex_text row a (put_comma last) ∙ ap (λ (z : List ℕ). text row a ++ (codes ", " ++ z)) (ex_text row e (key m.Close ∷ [])) ∙ (simp append_assoc))

  pub rows_text : (n : AggName) → text row (agg_of_rows n) ≡ function_text (agg_word n) ++ codes "(*)"
  unfolding spelling
  rows_text n = text_is row (agg_of_rows n)

  pub agg_text : (n : AggName) (e : Ex) → text row (agg n e) ≡ function_text (agg_word n) ++ (codes "(" ++ (text row e ++ codes ")"))
  unfolding spelling
  agg_text n e = text_is row (agg n e) ∙ ap (λ (z : List ℕ). function_text (agg_word n) ++ (40 ∷ z)) (ex_text row e (key m.Close ∷ []))
