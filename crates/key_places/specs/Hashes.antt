-- The hash of a list of values: what is fed to the hasher, value by value.
use Rattle.std.specs.Prelude.{ℕ, ℤ, List, length, Bool, true, false}
use Rattle.std.specs.List.{fold}
use Rattle.std.specs.Hash as fed
use Rattle.std.specs.Hash.DefaultHasher as sip
use Rattle.std.specs.declared.hash.DefaultHasher.{DefaultHasher}
use Rattle.value_meaning.specs.Val.{Val, Vals, Fields, missing, null, truth, int, time, text, list, struct, no_vals, val, no_fields, field, vals}

-- the hasher after a number of 64 bits
unfoldable pub with_word : ℕ → DefaultHasher → DefaultHasher
with_word w s = fold sip.write s (fed.u64 w)

-- after a whole number
unfoldable pub with_number : ℤ → DefaultHasher → DefaultHasher
with_number n s = fold sip.write s (fed.i128 n)

-- after a text, which follows its length
unfoldable pub with_text : List ℕ → DefaultHasher → DefaultHasher
with_text t s = sip.write (with_word (length t) s) t

-- after a value: a number for its kind, then what tells it from others of its kind
abbrev mutual
  pub fed_value : Val → DefaultHasher → DefaultHasher
  fed_value missing s = with_word 0 s
  fed_value null s = with_word 1 s
  fed_value (truth false) s = with_word 2 s
  fed_value (truth true) s = with_word 3 s
  fed_value (int n) s = with_number n (with_word 4 s)
  fed_value (time t) s = with_number t (with_word 5 s)
  fed_value (text t) s = with_text t (with_word 6 s)
  fed_value (list vs) s = with_word 9 (fed_vals vs (with_word 7 s))
  fed_value (struct fs) s = with_word 9 (fed_fields fs (with_word 8 s))

  pub fed_vals : Vals → DefaultHasher → DefaultHasher
  fed_vals no_vals s = s
  fed_vals (val v vs) s = fed_vals vs (fed_value v s)

  pub fed_fields : Fields → DefaultHasher → DefaultHasher
  fed_fields no_fields s = s
  fed_fields (field n v fs) s = fed_fields fs (fed_value v (with_text n (with_word 6 s)))

-- the hash of a list of values, from the hasher that it begins with
abbrev pub hash_of : DefaultHasher → List Val → ℕ
hash_of seed vs = sip.finish (fed_vals (vals vs) seed)
