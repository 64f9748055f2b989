-- The front of the pair at a place, read the short way and the long way.
use Rattle.std.proofs.Common.{◌≡◌, ℕ, ◌-◌, ◌+◌, ◌*◌, ◌%◌, ◌<◌, ◌≤◌, true, false, List, [], ◌∷◌, length, take, drop, get_or, Option, Some, None, ltb, add-one, drop-cons, refl, sym, ap, ◌∙◌, arith, length-drop}
use Rattle.std.specs.Option.{option_map, option_and_then}
use Rattle.std.proofs.lemmas.Bool.Decides.{nat_tests}
use Rattle.std.proofs.lemmas.List.{drop-drop, take_rest}
use Rattle.block_meaning.specs.Numbers.{var_uint}
use Rattle.ion_cells.specs.declared.tag.Tag.{Tag}
use Rattle.ion_cells.specs.Tags.{tag_of_type, is_short}
use Rattle.ion_cells.specs.Left.{behind_cell}
use Rattle.ion_cells.specs.Finding.{pair_front}
use Rattle.ion_cells.proofs.Openings.{found, nothing, short_found, short_lost, behind_found, behind_lost}
use Rattle.ion_cells.specs.Tags.{opening}

abbrev pub front_of : ℕ → List ℕ → List ℕ → Option (ℕ × List ℕ × List ℕ)
front_of label behind rest = Some (label, behind, rest)

abbrev pub no_front : Option (ℕ × List ℕ × List ℕ)
no_front = None

pub front_is : (bytes : List ℕ) (label : ℕ) (behind rest : List ℕ) → Some (label, behind) ≡ var_uint bytes → Some rest ≡ behind_cell behind → front_of label behind rest ≡ pair_front bytes
unfolding pair_front
front_is bytes label behind rest m f = rw (← m) (ap (option_map (λ (r : List ℕ). (label, behind, r))) f)

pub front_lost : (bytes : List ℕ) (label : ℕ) (behind : List ℕ) → Some (label, behind) ≡ var_uint bytes → None ≡ behind_cell behind → no_front ≡ pair_front bytes
unfolding pair_front
front_lost bytes label behind m f = rw (← m) (ap (option_map (λ (r : List ℕ). (label, behind, r))) f)

pub no_label_front : (bytes : List ℕ) → None ≡ var_uint bytes → no_front ≡ pair_front bytes
unfolding pair_front
no_label_front bytes m = rw (← m) refl

-- the long way
module _ (bytes : List ℕ) (at label start : ℕ) (marked : Some (label, drop start bytes) ≡ var_uint (drop at bytes)) where
  pub long_front : (tag : Tag) (first end : ℕ) → first ≤ end → found tag (end - first) (drop first (take (length bytes - start) (drop start bytes))) ≡ opening (take (length bytes - start) (drop start bytes)) → front_of label (drop start bytes) (drop (start + end) bytes) ≡ pair_front (drop at bytes)
  long_front tag first end h e =
      let b : Some (drop end (drop start bytes)) ≡ behind_cell (drop start bytes) = rw (take_rest bytes start) at (behind_found _ tag first end h e) in
      front_is (drop at bytes) label (drop start bytes) (drop (start + end) bytes) marked (ap Some (sym (drop-drop end start bytes)) ∙ b)

  pub long_lost : nothing ≡ opening (take (length bytes - start) (drop start bytes)) → no_front ≡ pair_front (drop at bytes)
  long_lost e =
      let b : None ≡ behind_cell (drop start bytes) = rw (take_rest bytes start) at (behind_lost _ e) in
      front_lost (drop at bytes) label (drop start bytes) marked b

-- the short way
module _ (bytes : List ℕ) (at : ℕ) (two : at + 1 < length bytes) (last : 128 ≤ get_or bytes at 0) (short : is_short (get_or bytes (at + 1) 0) ≡ true) where
  marked : Some (get_or bytes at 0 - 128, drop (at + 1) bytes) ≡ var_uint (drop at bytes)
  unfolding var_uint
  marked =
      let here : drop at bytes ≡ get_or bytes at 0 ∷ drop (at + 1) bytes = drop-cons bytes at 0 (omega arith) ∙ (rw add-one refl) in
      let ends : ltb (get_or bytes at 0) 128 ≡ false = grind (arith, nat_tests, last) in
      let plain : 0 * 128 + (get_or bytes at 0 - 128) ≡ get_or bytes at 0 - 128 = omega arith in
      rw (here, ends, plain) refl

  first_is : get_or (drop (at + 1) bytes) 0 0 ≡ get_or bytes (at + 1) 0
  first_is = ap (λ (l : List ℕ). get_or l 0 0) (drop-cons bytes (at + 1) 0 two)

  short_here : is_short (get_or (drop (at + 1) bytes) 0 0) ≡ true
  short_here = ap is_short first_is ∙ short

  pub short_pair : at + 2 + get_or bytes (at + 1) 0 % 16 ≤ length bytes → front_of (get_or bytes at 0 - 128) (drop (at + 1) bytes) (drop (at + 2 + get_or bytes (at + 1) 0 % 16) bytes) ≡ pair_front (drop at bytes)
  short_pair fits =
      let n = get_or bytes (at + 1) 0 % 16 in
      let room : 1 + get_or (drop (at + 1) bytes) 0 0 % 16 ≤ length (drop (at + 1) bytes) = omega (arith, first_is, length-drop (at + 1) bytes) in
      let b = behind_found (drop (at + 1) bytes) _ 1 (1 + get_or (drop (at + 1) bytes) 0 0 % 16) (omega arith) (short_found (drop (at + 1) bytes) short_here room) in
      let same : at + 1 + (1 + get_or (drop (at + 1) bytes) 0 0 % 16) ≡ at + 2 + n = omega (arith, first_is) in
      let ended : drop (1 + get_or (drop (at + 1) bytes) 0 0 % 16) (drop (at + 1) bytes) ≡ drop (at + 2 + n) bytes =
      drop-drop (1 + get_or (drop (at + 1) bytes) 0 0 % 16) (at + 1) bytes ∙ ap (λ (k : ℕ). drop k bytes) same in
      front_is (drop at bytes) (get_or bytes at 0 - 128) (drop (at + 1) bytes) (drop (at + 2 + n) bytes) marked (ap Some (sym ended) ∙ b)

  pub short_pair_lost : length bytes < at + 2 + get_or bytes (at + 1) 0 % 16 → no_front ≡ pair_front (drop at bytes)
  short_pair_lost less =
      let room : length (drop (at + 1) bytes) < 1 + get_or (drop (at + 1) bytes) 0 0 % 16 = omega (arith, first_is, length-drop (at + 1) bytes) in
      front_lost (drop at bytes) (get_or bytes at 0 - 128) (drop (at + 1) bytes) marked (behind_lost _ (short_lost (drop (at + 1) bytes) short_here room))
