-- A line that is made pair by pair.
use Rattle.std.proofs.Common.{◌≡◌, ℕ, zero, suc, Bool, true, false, cond, not, List, [], ◌∷◌, ◌++◌, drop, Option, Some, refl, sym, ap, subst, ◌∙◌, append_assoc, append-nil}
use Rattle.std.specs.Prelude.{◌||◌, slice_get}
use Rattle.json.specs.Print.{quoted}
use Rattle.value_meaning.specs.Val.{Val, fields}
use Rattle.eval_meaning.specs.Logic.{is_missing}
use Rattle.answer_meaning.specs.Made.{Output}
use Rattle.answer_meaning.specs.Lines.{comma_if, value_text, fields_text, line_text}
use Rattle.program_meaning.specs.Registers.{State, value_at}
use Rattle.block_lines.specs.RowLines.{shown_pairs}
use Rattle.block_lines.specs.HeadTexts.{head_text, head_texts, value_behind, AreHeads}
use Rattle.block_lines.specs.declared.heads.LineHeads.{LineHeads}

abbrev Out : Type 0
Out = List ℕ × ℕ

-- a comma where a pair stands before, the name, a colon and the value
abbrev pair_text : Bool → List ℕ → Val → List ℕ
pair_text later name v = comma_if later ++ (quoted name ++ 58 ∷ value_text v)

-- the same, and nothing where the value is MISSING
abbrev pair_text_if_there : Bool → List ℕ → Val → List ℕ
pair_text_if_there later name v = cond (is_missing v) [] (pair_text later name v)

-- what ends a line behind these pairs, where some may stand before
abbrev pub ending : Bool → Output → List ℕ
ending later pairs = fields_text later (fields pairs) ++ 125 ∷ 10 ∷ []

-- the line with the pairs of the outputs that are left is the whole
pub record IsBegun (whole line : List ℕ) (later : Bool) (s : State) (outs : List Out) : Type 0 where
  pub is : line ++ ending later (shown_pairs s outs) ≡ whole

pub begun_at_first : (old : List ℕ) (s : State) (outs : List Out) → IsBegun (old ++ line_text (shown_pairs s outs)) (old ++ 123 ∷ []) false s outs
begun_at_first old s outs = record { is = append_assoc old (123 ∷ []) (ending false (shown_pairs s outs)) ∙ ap (λ (l : List ℕ). old ++ 123 ∷ l) (closes (fields_text false (fields (shown_pairs s outs)))) }
  where
    closes : (l : List ℕ) → l ++ 125 ∷ 10 ∷ [] ≡ (l ++ 125 ∷ []) ++ 10 ∷ []
    closes l = sym (append_assoc l (125 ∷ []) (10 ∷ []))

joined : (line comma name value more : List ℕ) → (line ++ (comma ++ (name ++ 58 ∷ value))) ++ (more ++ 125 ∷ 10 ∷ []) ≡ line ++ ((comma ++ (name ++ 58 ∷ (value ++ more))) ++ 125 ∷ 10 ∷ [])
joined line comma name value more = simp append_assoc

or_true : (b : Bool) → (b || true) ≡ true
or_true true = refl
or_true false = refl

or_false : (b : Bool) → (b || false) ≡ b
or_false true = refl
or_false false = refl

one_pair : (s : State) (o : Out) (outs : List Out) (b : Bool) → is_missing (value_at s o.1) ≡ b → (whole line : List ℕ) (later : Bool) → IsBegun whole line later s (o ∷ outs)
    → IsBegun whole (line ++ cond b [] (pair_text later o.0 (value_at s o.1))) (later || not b) s outs
one_pair s o outs true e whole line later h = record { is = rw (append-nil line, or_false later) (rest (h.is)) }
  where
    rest : line ++ ending later (shown_pairs s (o ∷ outs)) ≡ whole → line ++ ending later (shown_pairs s outs) ≡ whole
    rest k = subst (λ (m : Bool). line ++ ending later (cond (not m) ((o.0, value_at s o.1) ∷ shown_pairs s outs) (shown_pairs s outs)) ≡ whole) e k
one_pair s o outs false e whole line later h = record { is = rw (or_true later) (joined line (comma_if later) (quoted o.0) (value_text (value_at s o.1)) (fields_text true (fields (shown_pairs s outs))) ∙ rest h.is) }
  where
    rest : line ++ ending later (shown_pairs s (o ∷ outs)) ≡ whole → line ++ ending later ((o.0, value_at s o.1) ∷ shown_pairs s outs) ≡ whole
    rest k = subst (λ (m : Bool). line ++ ending later (cond (not m) ((o.0, value_at s o.1) ∷ shown_pairs s outs) (shown_pairs s outs)) ≡ whole) e k

pub drop_at : {A : Type 0} (x : A) (xs : List A) (i : ℕ) → slice_get xs i ≡ Some x → drop i xs ≡ x ∷ drop (suc i) xs
drop_at x [] i h = absurd (cc)
drop_at x (y ∷ ys) zero h = let e : y ≡ x = cc in ap (λ a. a ∷ ys) e
drop_at x (y ∷ ys) (suc i) h = drop_at x ys i h

-- an output's pair was added
pair_made : (s : State) (outs : List Out) (at : ℕ) (name : List ℕ) (v : Val) (register : ℕ) → slice_get outs at ≡ Some (name, register) → v ≡ value_at s register
    → (whole line next : List ℕ) (later some : Bool) → next ≡ line ++ pair_text_if_there later name v → some ≡ (later || not (is_missing v))
    → IsBegun whole line later s (drop at outs) → IsBegun whole next some s (drop (suc at) outs)
pair_made s outs at name v register e f whole line next later some g k h =
    let o : Out = (name, register) in
    let here : IsBegun whole line later s (o ∷ drop (suc at) outs) = subst (IsBegun whole line later s) (drop_at o outs at e) h in
    let text : next ≡ line ++ cond (is_missing (value_at s o.1)) [] (pair_text later o.0 (value_at s o.1)) = g ∙ ap (λ (w : Val). line ++ pair_text_if_there later name w) f in
    let more : some ≡ (later || not (is_missing (value_at s o.1))) = k ∙ ap (λ (w : Val). later || not (is_missing w)) f in
    let next_is = one_pair s o (drop (suc at) outs) (is_missing (value_at s o.1)) refl whole line later here in
    subst (λ (b : Bool). IsBegun whole next b s (drop (suc at) outs)) (sym more) (subst (λ (l : List ℕ). IsBegun whole l (later || not (is_missing (value_at s o.1))) s (drop (suc at) outs)) (sym text) next_is)

-- the line and its opened brace, which stands in the line where a pair does
abbrev pub opened : Bool → List ℕ → List ℕ
opened later line = cond later line (line ++ 123 ∷ [])

-- what a value's text is made behind
abbrev pub mark_of : Bool → List ℕ
mark_of later = cond later (44 ∷ []) (123 ∷ [])

opened_pair : (later is_none : Bool) (line name value : List ℕ)
    → opened (later || not is_none) (line ++ cond is_none [] (head_text (mark_of later) name ++ value)) ≡ opened later line ++ cond is_none [] (comma_if later ++ (quoted name ++ 58 ∷ value))
opened_pair true true line name value = refl
opened_pair false true line name value = simp append-nil
opened_pair true false line name value = simp append_assoc
opened_pair false false line name value = simp append_assoc

-- the output's value was added behind its head
pub output_made : (s : State) (outs : List Out) (at : ℕ) (name : List ℕ) (v : Val) (register : ℕ) → slice_get outs at ≡ Some (name, register) → v ≡ value_at s register
    → (whole line next head : List ℕ) (later some : Bool) → head ≡ head_text (mark_of later) name → next ≡ line ++ value_behind head v → some ≡ (later || not (is_missing v))
    → IsBegun whole (opened later line) later s (drop at outs) → IsBegun whole (opened some next) some s (drop (suc at) outs)
output_made s outs at name v register e f whole line next head later some d g k h =
    let text : next ≡ line ++ value_behind (head_text (mark_of later) name) v = g ∙ ap (λ (l : List ℕ). line ++ value_behind l v) d in
    let more : opened some next ≡ opened later line ++ pair_text_if_there later name v =
    ap (λ (b : Bool). opened b next) k ∙ ap (opened (later || not (is_missing v))) text ∙ opened_pair later (is_missing v) line name (value_text v) in
    pair_made s outs at name v register e f whole (opened later line) (opened some next) later some more k h

get_head : (mark : List ℕ) (outs : List Out) (at : ℕ) (name : List ℕ) (register : ℕ) → slice_get outs at ≡ Some (name, register) → slice_get (head_texts mark outs) at ≡ Some (head_text mark name)
get_head mark [] at name register h = absurd (cc)
get_head mark (o ∷ outs) zero name register h = let e : o.0 ≡ name = cc in ap (λ (n : List ℕ). Some (head_text mark n)) e
get_head mark (o ∷ outs) (suc at) name register h = get_head mark outs at name register h

-- the head at a place is that of the output's name
pub head_found : (outs : List Out) (heads : LineHeads) → AreHeads outs heads → (at : ℕ) (name : List ℕ) (register : ℕ) → slice_get outs at ≡ Some (name, register) → (later : Bool)
    → slice_get (cond later heads.following heads.opening) at ≡ Some (head_text (mark_of later) name)
head_found outs heads h at name register e true = rw h.following (get_head (44 ∷ []) outs at name register e)
head_found outs heads h at name register e false = rw h.opening (get_head (123 ∷ []) outs at name register e)

pub same_head : (a b : List ℕ) (found : Option (List ℕ)) → Some a ≡ found → found ≡ Some b → a ≡ b
same_head a b found e f = cc

-- no output is left
pub pairs_made : (s : State) (whole line : List ℕ) → IsBegun whole (opened true line) true s [] → line ++ 125 ∷ 10 ∷ [] ≡ whole
pairs_made s whole line h = h.is

pub no_pair_made : (s : State) (whole line : List ℕ) → IsBegun whole (opened false line) false s [] → line ++ 123 ∷ 125 ∷ 10 ∷ [] ≡ whole
no_pair_made s whole line h = sym (append_assoc line (123 ∷ []) (125 ∷ 10 ∷ [])) ∙ h.is

-- the heads so far with those of the outputs that are left are the whole
pub head_made : (mark : List ℕ) (outs : List Out) (at : ℕ) (name : List ℕ) (register : ℕ) → slice_get outs at ≡ Some (name, register) → (heads next : List (List ℕ))
    → next ≡ heads ++ head_text mark name ∷ [] → heads ++ head_texts mark (drop at outs) ≡ head_texts mark outs → next ++ head_texts mark (drop (suc at) outs) ≡ head_texts mark outs
head_made mark outs at name register e heads next g h =
    let o : Out = (name, register) in
    ap (λ (l : List (List ℕ)). l ++ head_texts mark (drop (suc at) outs)) g
    ∙ append_assoc heads (head_text mark name ∷ []) (head_texts mark (drop (suc at) outs))
    ∙ ap (λ (l : List Out). heads ++ head_texts mark l) (sym (drop_at o outs at e))
    ∙ h
