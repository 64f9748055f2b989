-- A test of truth values that passes everywhere passes at each of them.
use Rattle.std.proofs.Common.{◌≡◌, Bool, true, false, ◌&&◌, refl}

abbrev pub every : (Bool → Bool) → Bool
every p = p true && p false

both_left : (a b : Bool) → (a && b) ≡ true → a ≡ true
both_left true b h = refl
both_left false b h = h

both_right : (a b : Bool) → (a && b) ≡ true → b ≡ true
both_right true b h = h
both_right false b h = cc

pub every-at : (p : Bool → Bool) → every p ≡ true → (b : Bool) → p b ≡ true
every-at p h true = both_left (p true) (p false) h
every-at p h false = both_right (p true) (p false) h

abbrev pub every2 : (Bool → Bool → Bool) → Bool
every2 p = every (λ a. every (p a))

pub every2-at : (p : Bool → Bool → Bool) → every2 p ≡ true → (a b : Bool) → p a b ≡ true
every2-at p hyp a b = every-at (p a) (every-at (λ a. every (p a)) hyp a) b

abbrev pub every3 : (Bool → Bool → Bool → Bool) → Bool
every3 p = every (λ a. every2 (p a))

pub every3-at : (p : Bool → Bool → Bool → Bool) → every3 p ≡ true → (a b c : Bool) → p a b c ≡ true
every3-at p hyp a b c = every2-at (p a) (every-at (λ a. every2 (p a)) hyp a) b c

abbrev pub every4 : (Bool → Bool → Bool → Bool → Bool) → Bool
every4 p = every (λ a. every3 (p a))

pub every4-at : (p : Bool → Bool → Bool → Bool → Bool) → every4 p ≡ true → (a b c d : Bool) → p a b c d ≡ true
every4-at p hyp a b c d = every3-at (p a) (every-at (λ a. every3 (p a)) hyp a) b c d

abbrev pub every5 : (Bool → Bool → Bool → Bool → Bool → Bool) → Bool
every5 p = every (λ a. every4 (p a))

pub every5-at : (p : Bool → Bool → Bool → Bool → Bool → Bool) → every5 p ≡ true → (a b c d e : Bool) → p a b c d e ≡ true
every5-at p hyp a b c d e = every4-at (p a) (every-at (λ a. every4 (p a)) hyp a) b c d e

abbrev pub every6 : (Bool → Bool → Bool → Bool → Bool → Bool → Bool) → Bool
every6 p = every (λ a. every5 (p a))

pub every6-at : (p : Bool → Bool → Bool → Bool → Bool → Bool → Bool) → every6 p ≡ true → (a b c d e f : Bool) → p a b c d e f ≡ true
every6-at p hyp a b c d e f = every5-at (p a) (every-at (λ a. every5 (p a)) hyp a) b c d e f

abbrev pub every7 : (Bool → Bool → Bool → Bool → Bool → Bool → Bool → Bool) → Bool
every7 p = every (λ a. every6 (p a))

pub every7-at : (p : Bool → Bool → Bool → Bool → Bool → Bool → Bool → Bool) → every7 p ≡ true → (a b c d e f g : Bool) → p a b c d e f g ≡ true
every7-at p hyp a b c d e f g = every6-at (p a) (every-at (λ a. every6 (p a)) hyp a) b c d e f g

abbrev pub every8 : (Bool → Bool → Bool → Bool → Bool → Bool → Bool → Bool → Bool) → Bool
every8 p = every (λ a. every7 (p a))

pub every8-at : (p : Bool → Bool → Bool → Bool → Bool → Bool → Bool → Bool → Bool) → every8 p ≡ true → (a b c d e f g h : Bool) → p a b c d e f g h ≡ true
every8-at p hyp a b c d e f g h = every7-at (p a) (every-at (λ a. every7 (p a)) hyp a) b c d e f g h
