-- What a sink holds after pieces of a text.
use Rattle.std.proofs.Common.{ℕ, List, ◌++◌, Option, Some, None, refl, ap, ◌∙◌, append_assoc}
use Rattle.std.specs.Prelude.{OnOk, Result, Ok, Err}
use Rattle.snel_device.specs.declared.outside.Failed.{Failed}
use Rattle.std.specs.Io.KnownBytes.{Appends, Keeps}

pub Keeps-same : (a : Option (List ℕ)) → Keeps a a
Keeps-same None = tt
Keeps-same (Some xs) = refl

pub Appends-both : (a b c : Option (List ℕ)) (x y : List ℕ) → Appends a b x → Appends b c y → Appends a c (x ++ y)
Appends-both None b c x y h k = tt
Appends-both (Some xs) None c x y h k = absurd h
Appends-both (Some xs) (Some ys) None x y h k = absurd k
Appends-both (Some xs) (Some ys) (Some zs) x y h k = k ∙ ap (λ (l : List ℕ). l ++ y) h ∙ append_assoc xs x y

-- three pieces, the last of which may fail
pub three : (r : Result (Unit {0}) Failed) (a b c d : Option (List ℕ)) (x y z : List ℕ) → Appends a b x → Appends b c y → OnOk r (Appends c d z) → OnOk r (Appends a d (x ++ (y ++ z)))
three (Ok u) a b c d x y z f g h = Appends-both a b d x (y ++ z) f (Appends-both b c d y z g h)
three (Err e) a b c d x y z f g h = tt

-- two pieces, the last of which may fail
pub two : (r : Result (Unit {0}) Failed) (a b c : Option (List ℕ)) (x y : List ℕ) → Appends a b x → OnOk r (Appends b c y) → OnOk r (Appends a c (x ++ y))
two (Ok u) a b c x y f g = Appends-both a b c x y f g
two (Err e) a b c x y f g = tt
