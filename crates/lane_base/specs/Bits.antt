-- Masks: the bits of a number, as tests.
use Rattle.std.specs.Prelude.{ℕ, ◌/◌, ◌%◌, ◌^◌, Bool, false, cond, nat_eq, not, ◌&&◌, ◌||◌, IsTrue}

-- bit i of the mask is 1
unfoldable pub has : ℕ → ℕ → Bool
has mask i = nat_eq (mask / 2 ^ i % 2) 1

-- none of six holds
abbrev pub none_of : (a b c d e f : Bool) → Bool
none_of a b c d e f = not (a || (b || (c || (d || (e || f)))))

-- at most one of seven holds
abbrev pub at_most_one : (a b c d e f g : Bool) → Bool
at_most_one a b c d e f g =
    cond a (none_of b c d e f g)
    (cond b (none_of c d e f g g)
    (cond c (none_of d e f g g g)
    (cond d (none_of e f g g g g)
    (cond e (none_of f g g g g g) (not (f && g))))))

-- no bit is 1 in two of seven masks
abbrev pub IsDisjoint : (a b c d e f g : ℕ) → Type 0
IsDisjoint a b c d e f g = (k : ℕ) → IsTrue (at_most_one (has a k) (has b k) (has c k) (has d k) (has e k) (has f k) (has g k))

-- no bit is 1 in two of three masks
abbrev pub AreApart : (a b c : ℕ) → Type 0
AreApart a b c = (k : ℕ) → IsTrue (at_most_one (has a k) (has b k) (has c k) false false false false)
