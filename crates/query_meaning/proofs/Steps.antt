-- What the steps of reading say when they answer.
use Rattle.std.proofs.Common.{◌≡◌, ℕ, suc, List, [], ◌∷◌, Option, Some, None, Bool, true, false, cond, refl, ap}
use Rattle.std.specs.Option.{option_map}
use denote.Enum.Bare.{same_true}
use Rattle.query_meaning.specs.contracts.Mark as mark_type
use Rattle.query_meaning.specs.declared.Mark.{Mark}
use Rattle.tree_meaning.specs.Tree.{Ex}
use Rattle.query_meaning.specs.Tokens.{Tok, Toks, mark, word, quoted, string, moment, num, no_token}
use Rattle.query_meaning.specs.Grammar.{Name, bare, in_quotes}
use Rattle.query_meaning.specs.Reading.{◌>>=◌, match_option, is_mark, after, said, Reader, prefixed, count_of, behind, times, name_at, word_at, string_at, num_at}

pub some_is : {A : Type 0} (x y : A) → Some x ≡ Some y → x ≡ y
some_is x y e = cc

pub bind_then : {A B P : Type 0} (o : Option A) (f : A → Option B) (y : B) → (o >>= f) ≡ Some y → ((x : A) → o ≡ Some x → f x ≡ Some y → P) → P
bind_then None f y e go = absurd cc
bind_then (Some x) f y e go = go x refl e

pub map_then : {A B P : Type 0} (f : A → B) (o : Option A) (y : B) → option_map f o ≡ Some y → ((x : A) → o ≡ Some x → f x ≡ y → P) → P
map_then f None y e go = absurd cc
map_then f (Some x) y e go = go x refl (some_is _ _ e)

pub match_then : {A B P : Type 0} (o : Option A) (d : B) (f : A → B) (y : B) → match_option o d f ≡ y → (o ≡ None → d ≡ y → P) → ((x : A) → o ≡ Some x → f x ≡ y → P) → P
match_then None d f y e p q = p refl e
match_then (Some x) d f y e p q = q x refl e

pub if_then : {A P : Type 0} (b : Bool) (x y z : A) → cond b x y ≡ z → (b ≡ true → x ≡ z → P) → (b ≡ false → y ≡ z → P) → P
if_then true x y z e p q = p refl e
if_then false x y z e p q = q refl e

pub is_mark-true : (k : Mark) (t : Tok) → is_mark k t ≡ true → t ≡ mark k
is_mark-true k (mark j) e = ap mark (same_true mark_type.the_type tt j k e)
is_mark-true k (word n) e = absurd cc
is_mark-true k (quoted n) e = absurd cc
is_mark-true k (string n) e = absurd cc
is_mark-true k (moment n) e = absurd cc
is_mark-true k (num n) e = absurd cc
is_mark-true k no_token e = absurd cc

pub after-some : (k : Mark) (ts r : Toks) → after k ts ≡ Some r → ts ≡ mark k ∷ r
after-some k [] r e = absurd cc
after-some k (t ∷ ts) r e =
    if_then (is_mark k t) _ _ _ e (λ b h. let same = is_mark-true k t b in let rest : ts ≡ r = some_is _ _ h in cc) (λ b h. absurd cc)

-- a mark that says something stands at the front
pub said-some : {A : Type 0} (say : Mark → Option A) (ts : Toks) (x : A × Toks) → said say ts ≡ Some x → (k : Mark) × (say k ≡ Some x.0) × (ts ≡ mark k ∷ x.1)
said-some say [] x e = absurd cc
said-some say (mark k ∷ ts) x e = map_then _ (say k) x e (λ a is h. rw (← h) (k, is, refl))
said-some say (word n ∷ ts) x e = absurd cc
said-some say (quoted n ∷ ts) x e = absurd cc
said-some say (string n ∷ ts) x e = absurd cc
said-some say (moment n ∷ ts) x e = absurd cc
said-some say (num n ∷ ts) x e = absurd cc
said-some say (no_token ∷ ts) x e = absurd cc

-- a name stands at the front
pub name_at-some : (ts : Toks) (x : List ℕ × Toks) → name_at ts ≡ Some x → (t : Tok) × Name t x.0 × (ts ≡ t ∷ x.1)
unfolding name_at
name_at-some [] x e = absurd cc
name_at-some (mark k ∷ ts) x e = absurd cc
name_at-some (word n ∷ ts) x e = rw (← some_is _ _ e) (word n, bare, refl)
name_at-some (quoted n ∷ ts) x e = rw (← some_is _ _ e) (quoted n, in_quotes, refl)
name_at-some (string n ∷ ts) x e = absurd cc
name_at-some (moment n ∷ ts) x e = absurd cc
name_at-some (num n ∷ ts) x e = absurd cc
name_at-some (no_token ∷ ts) x e = absurd cc

pub word_at-some : (ts : Toks) (x : List ℕ × Toks) → word_at ts ≡ Some x → ts ≡ word x.0 ∷ x.1
unfolding word_at
word_at-some [] x e = absurd cc
word_at-some (mark k ∷ ts) x e = absurd cc
word_at-some (word n ∷ ts) x e = rw (← some_is _ _ e) refl
word_at-some (quoted n ∷ ts) x e = absurd cc
word_at-some (string n ∷ ts) x e = absurd cc
word_at-some (moment n ∷ ts) x e = absurd cc
word_at-some (num n ∷ ts) x e = absurd cc
word_at-some (no_token ∷ ts) x e = absurd cc

pub string_at-some : (ts : Toks) (x : List ℕ × Toks) → string_at ts ≡ Some x → ts ≡ string x.0 ∷ x.1
unfolding string_at
string_at-some [] x e = absurd cc
string_at-some (mark k ∷ ts) x e = absurd cc
string_at-some (word n ∷ ts) x e = absurd cc
string_at-some (quoted n ∷ ts) x e = absurd cc
string_at-some (string n ∷ ts) x e = rw (← some_is _ _ e) refl
string_at-some (moment n ∷ ts) x e = absurd cc
string_at-some (num n ∷ ts) x e = absurd cc
string_at-some (no_token ∷ ts) x e = absurd cc

pub num_at-some : (ts : Toks) (x : ℕ × Toks) → num_at ts ≡ Some x → ts ≡ num x.0 ∷ x.1
unfolding num_at
num_at-some [] x e = absurd cc
num_at-some (mark k ∷ ts) x e = absurd cc
num_at-some (word n ∷ ts) x e = absurd cc
num_at-some (quoted n ∷ ts) x e = absurd cc
num_at-some (string n ∷ ts) x e = absurd cc
num_at-some (moment n ∷ ts) x e = absurd cc
num_at-some (num n ∷ ts) x e = rw (← some_is _ _ e) refl
num_at-some (no_token ∷ ts) x e = absurd cc

as_it_is : (o : Option (Ex × Toks)) → o ≡ option_map (λ (x : Ex × Toks). (x.0, x.1)) o
as_it_is None = refl
as_it_is (Some x) = refl

abbrev over : (Ex → Ex) → Option (Ex × Toks) → Option (Ex × Toks)
over wrap = option_map (λ (x : Ex × Toks). (wrap x.0, x.1))

twice : (wrap : Ex → Ex) (n : ℕ) (o : Option (Ex × Toks)) → over wrap (over (times wrap n) o) ≡ over (λ e. wrap (times wrap n e)) o
twice wrap n None = refl
twice wrap n (Some x) = refl

-- a mark so many times at once
pub prefixed-times : (k : Mark) (wrap : Ex → Ex) (f : Reader Ex) (ts : Toks) → prefixed k wrap f ts ≡ option_map (λ (x : Ex × Toks). (times wrap (count_of k ts) x.0, x.1)) (f (behind k ts))
prefixed-times k wrap f [] = as_it_is (f [])
prefixed-times k wrap f (t ∷ ts) = go (prefixed-times k wrap f ts) (is_mark k t)
  where
    go : prefixed k wrap f ts ≡ over (times wrap (count_of k ts)) (f (behind k ts)) → (b : Bool) → cond b (option_map (λ (x : Ex × Toks). (wrap x.0, x.1)) (prefixed k wrap f ts)) (f (t ∷ ts)) ≡ option_map (λ (x : Ex × Toks). (times wrap (cond b (suc (count_of k ts)) 0) x.0, x.1)) (f (cond b (behind k ts) (t ∷ ts)))
    go e true = rw e (twice wrap (count_of k ts) (f (behind k ts)))
    go e false = as_it_is (f (t ∷ ts))
