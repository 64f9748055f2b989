-- The code of values, by which a proof tells them apart.
use Rattle.std.specs.Prelude.{◌≡◌, refl}
use Rattle.std.proofs.Common.{ap}
use base.Stored.{Gv, gnil, gnum, gcons, Coded, coded_ℕ, coded_bool, coded_ℤ, coded_list}
use Rattle.value_meaning.specs.Val.{Val, Vals, Fields, missing, null, truth, int, time, text, list, struct, no_vals, val, no_fields, field}

abbrev right : Gv → Gv
right gnil = gnil
right (gnum n) = gnil
right (gcons a b) = b

abbrev left : Gv → Gv
left gnil = gnil
left (gnum n) = gnil
left (gcons a b) = a

abbrev mutual
  pub code_val : Val → Gv
  code_val missing = gcons (gnum 0) gnil
  code_val null = gcons (gnum 1) gnil
  code_val (truth b) = gcons (gnum 2) ((coded_bool).code b)
  code_val (int n) = gcons (gnum 3) ((coded_ℤ).code n)
  code_val (time t) = gcons (gnum 4) ((coded_ℤ).code t)
  code_val (text s) = gcons (gnum 5) ((coded_list coded_ℕ).code s)
  code_val (list vs) = gcons (gnum 6) (code_vals vs)
  code_val (struct fs) = gcons (gnum 7) (code_fields fs)

  pub code_vals : Vals → Gv
  code_vals no_vals = gnil
  code_vals (val v vs) = gcons (code_val v) (code_vals vs)

  pub code_fields : Fields → Gv
  code_fields no_fields = gnil
  code_fields (field n v fs) = gcons (gcons ((coded_list coded_ℕ).code n) (code_val v)) (code_fields fs)

mutual
  pub val_inj : (x y : Val) → code_val x ≡ code_val y → x ≡ y
  val_inj missing missing p = refl
  val_inj null null p = refl
  val_inj (truth a) (truth b) p = ap truth ((coded_bool).inj a b (ap right p))
  val_inj (int a) (int b) p = ap int ((coded_ℤ).inj a b (ap right p))
  val_inj (time a) (time b) p = ap time ((coded_ℤ).inj a b (ap right p))
  val_inj (text a) (text b) p = ap text ((coded_list coded_ℕ).inj a b (ap right p))
  val_inj (list a) (list b) p = ap list (vals_inj a b (ap right p))
  val_inj (struct a) (struct b) p = ap struct (fields_inj a b (ap right p))
  val_inj x y p = cc

  pub vals_inj : (x y : Vals) → code_vals x ≡ code_vals y → x ≡ y
  vals_inj no_vals no_vals p = refl
  vals_inj (val v vs) (val w ws) p = λ i. val (val_inj v w (ap left p) i) (vals_inj vs ws (ap right p) i)
  vals_inj x y p = cc

  pub fields_inj : (x y : Fields) → code_fields x ≡ code_fields y → x ≡ y
  fields_inj no_fields no_fields p = refl
  fields_inj (field n v fs) (field m w gs) p = λ i. field ((coded_list coded_ℕ).inj n m (ap (λ g. left (left g)) p) i) (val_inj v w (ap (λ g. right (left g)) p) i) (fields_inj fs gs (ap right p) i)
  fields_inj x y p = cc

abbrev pub coded_val : Coded Val
coded_val = record { code = code_val; inj = val_inj }
