-- Soundness at every depth, a level at a time.
use Rattle.std.proofs.Common.{ℕ, suc, List, [], ◌∷◌, arith}
use Rattle.std.specs.List.{All}
use Rattle.std.specs.Str.{IsUtf8}
use Rattle.std.proofs.lemmas.List.Elements.{All-cons, All-nil}
use Rattle.value_meaning.specs.Val.{Val, vals, fields}
use Rattle.value_meaning.specs.Pairs.{Pairs, NamesRise}
use Rattle.value_meaning.specs.Sound.{IsSound, AreSound, HasSoundFields}

first_of_all : {X : Type 0} (P : X → Type 0) (x : X) (xs : List X) → All P (x ∷ xs) → P x
first_of_all P x xs h = h 0 x (omega arith)

others_of_all : {X : Type 0} (P : X → Type 0) (x : X) (xs : List X) → All P (x ∷ xs) → All P xs
others_of_all P x xs h = λ k d below. h (suc k) d (omega arith)

pub AreSound-vals : (vs : List Val) → AreSound (vals vs) → All IsSound vs
AreSound-vals [] h = All-nil IsSound
AreSound-vals (v ∷ vs) h = All-cons IsSound v vs h.0 (AreSound-vals vs h.1)

pub AreSound-from_all : (vs : List Val) → All IsSound vs → AreSound (vals vs)
AreSound-from_all [] h = tt
AreSound-from_all (v ∷ vs) h = (first_of_all IsSound v vs h, AreSound-from_all vs (others_of_all IsSound v vs h))

-- a sound pair
abbrev pub IsSoundPair : List ℕ × Val → Type 0
IsSoundPair f = IsUtf8 f.0 × IsSound f.1

pub NamesRise-fields : (fs : Pairs) → HasSoundFields (fields fs) → NamesRise fs
NamesRise-fields [] h = tt
NamesRise-fields (f ∷ []) h = tt
NamesRise-fields (f ∷ g ∷ fs) h = (h.1, NamesRise-fields (g ∷ fs) h.3)

pub HasSoundFields-all : (fs : Pairs) → HasSoundFields (fields fs) → All IsSoundPair fs
HasSoundFields-all [] h = All-nil IsSoundPair
HasSoundFields-all (f ∷ fs) h = All-cons IsSoundPair f fs (h.0, h.2) (HasSoundFields-all fs h.3)

pub HasSoundFields-from_all : (fs : Pairs) → NamesRise fs → All IsSoundPair fs → HasSoundFields (fields fs)
HasSoundFields-from_all [] r h = tt
HasSoundFields-from_all (f ∷ []) r h =
    let s = first_of_all IsSoundPair f [] h in
    (s.0, tt, s.1, tt)
HasSoundFields-from_all (f ∷ g ∷ fs) r h =
    let s = first_of_all IsSoundPair f (g ∷ fs) h in
    (s.0, r.0, s.1, HasSoundFields-from_all (g ∷ fs) r.1 (others_of_all IsSoundPair f (g ∷ fs) h))
