-- What gathered groups tell of the rows of all blocks: whether there are more groups than the limit, and the lines of an answer.
use Rattle.std.proofs.Common.{◌≡◌, ℕ, ◌+◌, ◌<◌, ◌≤◌, Bool, true, false, ◌&&◌, ltb, List, length, Option, None, Some, refl, ◌∙◌, subst}
use Rattle.std.specs.Prelude.{not, ◌==◌}
use Rattle.std.specs.Option.{ForSome}
use Rattle.std.proofs.lemmas.Bool.{lt-ltb, le-ltb}
use Rattle.snel_device.specs.Contents.{Contents}
use Rattle.value_meaning.specs.Val.{Val}
use Rattle.tree_meaning.specs.Tree.{Query}
use Rattle.check_meaning.specs.Aggregates.{is_grouped}
use Rattle.scan_meaning.specs.Blocks.{Place, Block}
use Rattle.scan_meaning.specs.Batches.{is_plain}
use Rattle.scan_meaning.specs.Limits.{is_over}
use Rattle.scan_files.specs.Places.{blocks_at, room_of}
use Rattle.batch_groups.specs.OfQuery.{count_groups, AreAllGroups, MakesGroups}

-- a query that groups isn't plain
pub groups_plain : (q : Query) → is_grouped q ≡ true → is_plain q ≡ false
groups_plain q grouped = on (is_grouped q) (length q.order == 0) grouped
  where
    on : (a b : Bool) → a ≡ true → (not a && b) ≡ false
    on true b h = refl
    on false b h = absurd (cc)

both : (a b : Bool) → a ≡ true → (a && b) ≡ b
both true b h = refl
both false b h = absurd (cc)

none : (a b : Bool) → b ≡ false → (a && b) ≡ false
none true b h = h
none false b h = refl

-- there are more groups than the limit
pub are_over : (q : Query) → is_grouped q ≡ true → (limit : ℕ) (rows : List Val) → limit < count_groups q rows → is_over q limit rows ≡ true
unfolding is_over
are_over q grouped limit rows over = both (is_grouped q) (ltb limit (count_groups q rows)) grouped ∙ lt-ltb limit (count_groups q rows) over

-- there aren't
pub are_within : (q : Query) (limit : ℕ) (rows : List Val) → count_groups q rows ≤ limit → is_over q limit rows ≡ false
unfolding is_over
are_within q limit rows few = none (is_grouped q) (ltb limit (count_groups q rows)) (le-ltb limit (count_groups q rows) few)

-- there is no row of a group where there are more groups than the limit
pub none_is_over : (q : Query) → is_grouped q ≡ true → (limit own : ℕ) → own ≡ limit → (rows : List Val) (m : Option (List (List Val × List Val))) → m ≡ None → MakesGroups q own rows m → is_over q limit rows ≡ true
none_is_over q grouped limit own same rows m is makes =
    let over : own < count_groups q rows = subst (λ (o : Option (List (List Val × List Val))). MakesGroups q own rows o) is makes in
    are_over q grouped limit rows (subst (λ (n : ℕ). n < count_groups q rows) same over)

-- and else these are the rows of all groups
pub some_is_all : (q : Query) (limit own : ℕ) → own ≡ limit → (rows : List Val) (m : Option (List (List Val × List Val))) (made : List (List Val × List Val)) → m ≡ Some made → MakesGroups q own rows m → AreAllGroups q limit rows made
some_is_all q limit own same rows m made is makes =
    let all : AreAllGroups q own rows made = subst (λ (o : Option (List (List Val × List Val))). MakesGroups q own rows o) is makes in
    subst (λ (n : ℕ). AreAllGroups q n rows made) same all

-- what was told of the files as they were handed on
module _ (names fields : List (List ℕ)) (told mid : Option Contents) (places seen : List Place) (same : mid ≡ told) (lent : seen ≡ places) where
  pub told_before : (P : List Block → Type 0) → ForSome mid (λ files. P (blocks_at files names fields seen)) → ForSome told (λ files. P (blocks_at files names fields places))
  told_before P h = λ files is. subst (λ (l : List Place). P (blocks_at files names fields l)) lent (h files (same ∙ is))

-- the bytes that were read, told of the places as they were handed on
pub read_all : (before now : ℕ) (places seen : List Place) → seen ≡ places → now ≤ before + room_of seen → now ≤ before + room_of places
read_all before now places seen lent most = subst (λ (l : List Place). now ≤ before + room_of l) lent most
