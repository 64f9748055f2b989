-- The number, truth value, time, text, items or pairs of a value of that kind.
use Rattle.std.specs.Prelude.{ℕ, Bool, ℤ, List, Option, Some, None}
use Rattle.value_meaning.specs.Val.{Val, missing, null, truth, int, time, text, list, struct, items, pairs}

abbrev pub int_of : Val → Option ℤ
int_of missing = None
int_of null = None
int_of (truth b) = None
int_of (int n) = Some n
int_of (time t) = None
int_of (text s) = None
int_of (list vs) = None
int_of (struct fs) = None

abbrev pub truth_of : Val → Option Bool
truth_of missing = None
truth_of null = None
truth_of (truth b) = Some b
truth_of (int n) = None
truth_of (time t) = None
truth_of (text s) = None
truth_of (list vs) = None
truth_of (struct fs) = None

abbrev pub time_of : Val → Option ℤ
time_of missing = None
time_of null = None
time_of (truth b) = None
time_of (int n) = None
time_of (time t) = Some t
time_of (text s) = None
time_of (list vs) = None
time_of (struct fs) = None

abbrev pub text_in : Val → Option (List ℕ)
text_in missing = None
text_in null = None
text_in (truth b) = None
text_in (int n) = None
text_in (time t) = None
text_in (text s) = Some s
text_in (list vs) = None
text_in (struct fs) = None

abbrev pub items_in : Val → Option (List Val)
items_in missing = None
items_in null = None
items_in (truth b) = None
items_in (int n) = None
items_in (time t) = None
items_in (text s) = None
items_in (list vs) = Some (items vs)
items_in (struct fs) = None

abbrev pub pairs_in : Val → Option (List (List ℕ × Val))
pairs_in missing = None
pairs_in null = None
pairs_in (truth b) = None
pairs_in (int n) = None
pairs_in (time t) = None
pairs_in (text s) = None
pairs_in (list vs) = None
pairs_in (struct fs) = Some (pairs fs)
