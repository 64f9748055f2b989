-- A list with one more element at its end.
use Rattle.std.proofs.Common.{◌≡◌, ℕ, ◌+◌, ◌<◌, List, [], ◌∷◌, ◌++◌, length, get_or, map, refl, arith, add-one, take}
use Rattle.std.proofs.Math.Seq.{take-suc}
use Rattle.std.proofs.lemmas.List.{get_or-map, map-append}
use Rattle.std.proofs.lemmas.Grind.{common_steps}
use Rattle.std.specs.Str.{IsUtf8}
use Rattle.value_meaning.specs.Val.{Val, vals, fields}
use Rattle.value_meaning.specs.Pairs.{Pairs, IsAboveLast}
use Rattle.value_meaning.specs.Sound.{IsSound, AreSound, HasSoundFields}

-- one more element is copied
pub copied : {A B : Type 0} (f : A → B) (all new xs : List A) (i : ℕ) (x y : A) → i < length xs → x ≡ get_or xs i x → f y ≡ f x → new ≡ all ++ y ∷ [] → map f all ≡ take i (map f xs) → map f new ≡ take (i + 1) (map f xs)
copied f all new xs i x y h e same is sofar =
    let k : i < length (map f xs) = grind (arith, common_steps) in
    rw (is, map-append, sofar, add-one, take-suc (map f xs) i (f x) k, get_or-map f xs i x (f x) h, ← e, ← same) refl

-- one more sound item
pub AreSound-push : (vs : List Val) (v : Val) → AreSound (vals vs) → IsSound v → AreSound (vals (vs ++ v ∷ []))
AreSound-push [] v r s = (s, tt)
AreSound-push (w ∷ vs) v r s = (r.0, AreSound-push vs v r.1 s)

-- one more sound pair, whose name is above the last
pub HasSoundFields-push : (fs : Pairs) (f : List ℕ × Val) → HasSoundFields (fields fs) → IsAboveLast f.0 fs → IsUtf8 f.0 → IsSound f.1 → HasSoundFields (fields (fs ++ f ∷ []))
HasSoundFields-push [] f r a u s = (u, tt, s, tt)
HasSoundFields-push (g ∷ []) f r a u s = (r.0, a, r.2, (u, tt, s, tt))
HasSoundFields-push (g ∷ h ∷ fs) f r a u s = (r.0, r.1, r.2, HasSoundFields-push (h ∷ fs) f r.3 a u s)
