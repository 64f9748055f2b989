-- What a pack's own call says of how it came out.
use Rattle.std.proofs.Common.{◌≡◌, ◌⊎◌, inl, inr, ◌↔◌, ℕ, ◌-◌, List, [], length, take, Option, Some, None, Result, Ok, Err, refl, sym, ap, subst, ◌∙◌, append-nil, arith}
use Rattle.std.specs.Prelude.{IfSome, IsSome, IsErrOf}
use Rattle.std.specs.Option.{ForSome}
use Rattle.std.specs.Io.KnownBytes.{Appends, Keeps}
use Rattle.std.proofs.lemmas.List.{take_all}
use Rattle.snel_device.specs.Causes.{Rose, HasCause}
use Rattle.snel_device.specs.Contents.{Contents, Sets}
use Rattle.pack_meaning.specs.Splitting.{lines_of}
use Rattle.pack_meaning.specs.Packing.{Sum, Refusal, refusal, sum_of}
use Rattle.json_pack.specs.declared.sums.PackFault.{PackFault}
use Rattle.json_pack.specs.declared.sums.PackFault.TheVariants.{Exists, Line, ReadFault, WriteFault, OutOfMemory}
use Rattle.json_pack.specs.declared.sums.PackSum.{PackSum}
use Rattle.json_pack.specs.Packs.{counted, refusal_in, file_for, HoldsLines, HasFrontOf, LeavesFront}
use Rattle.snel_words.specs.Words.{Packing}
use Rattle.snel_command.specs.Outcomes.{status_of_pack}
use Rattle.snel_command.specs.Packs.{settings_of, sum_line, line_for, EndsPack, SaysOfPack, IsAllAccepted, MakesFile, ComesOfPack}
use Rattle.snel_command.proofs.Sink.{Keeps-same}

abbrev pub failed : PackFault → Result PackSum PackFault
failed f = Err f

-- a fault by its status
pub never_done : (f : PackFault) → status_of_pack f ≡ 0 → ⊥
never_done Exists e = omega (arith, e)
never_done (Line n why) e = omega (arith, e)
never_done ReadFault e = omega (arith, e)
never_done WriteFault e = omega (arith, e)
never_done OutOfMemory e = omega (arith, e)

pub never_absent : (f : PackFault) → status_of_pack f ≡ 4 → ⊥
never_absent Exists e = omega (arith, e)
never_absent (Line n why) e = omega (arith, e)
never_absent ReadFault e = omega (arith, e)
never_absent WriteFault e = omega (arith, e)
never_absent OutOfMemory e = omega (arith, e)

pub is_exists : (f : PackFault) → status_of_pack f ≡ 12 → failed f ≡ Err Exists
is_exists Exists e = refl
is_exists (Line n why) e = absurd (omega (arith, e))
is_exists ReadFault e = absurd (omega (arith, e))
is_exists WriteFault e = absurd (omega (arith, e))
is_exists OutOfMemory e = absurd (omega (arith, e))

pub is_read_fault : (f : PackFault) → status_of_pack f ≡ 8 → failed f ≡ Err ReadFault
is_read_fault ReadFault e = refl
is_read_fault Exists e = absurd (omega (arith, e))
is_read_fault (Line n why) e = absurd (omega (arith, e))
is_read_fault WriteFault e = absurd (omega (arith, e))
is_read_fault OutOfMemory e = absurd (omega (arith, e))

pub is_write_fault : (f : PackFault) → status_of_pack f ≡ 9 → f ≡ WriteFault
is_write_fault WriteFault e = refl
is_write_fault Exists e = absurd (omega (arith, e))
is_write_fault (Line n why) e = absurd (omega (arith, e))
is_write_fault ReadFault e = absurd (omega (arith, e))
is_write_fault OutOfMemory e = absurd (omega (arith, e))

pub status_of_failed : (f g : PackFault) → failed f ≡ Err g → status_of_pack f ≡ status_of_pack g
status_of_failed f g e = let same : f ≡ g = cc in ap status_of_pack same

-- options
some_is : (A : Type 0) (o : Option A) (x : A) → o ≡ Some x → IsSome o
some_is A None x e = absurd (cc)
some_is A (Some y) x e = refl

pub none_is_not : (A : Type 0) (o : Option A) → o ≡ None → IsSome o → ⊥
none_is_not A None e h = cc
none_is_not A (Some y) e h = cc

both : (A : Type 0) (o : Option A) (x : A) → o ≡ None → o ≡ Some x → ⊥
both A o x e f = cc

pub adds_none : (a : Option (List ℕ)) → Appends a a []
adds_none None = tt
adds_none (Some xs) = sym (append-nil xs)

module _ (p : Packing) (name : List ℕ) (told : Option Contents) (left : Option (List ℕ)) where
  abbrev IsThere : Result PackSum PackFault → Type 0
  IsThere r = ForSome told (λ files. IsErrOf r Exists ↔ IsSome (files name))

  abbrev Refuses : PackFault → Type 0
  Refuses f = IfSome (refusal_in f) (λ r. ForSome left (λ bytes. refusal (settings_of p) (lines_of bytes) ≡ Some r))

  abbrev Stops : PackFault → Option Contents → Option Contents → Type 0
  Stops f old new = IfSome (refusal_in f) (λ r. ForSome left (λ bytes. HasFrontOf (settings_of p) (take (r.number - 1) (lines_of bytes)) old new name))

  -- what a fault says
  pub says : (f : PackFault) → IsThere (failed f) → Refuses f → SaysOfPack p name told left f
  says Exists there refuses = λ files is. (there files is).0 refl
  says (Line n why) there refuses = refuses
  says ReadFault there refuses = tt
  says WriteFault there refuses = tt
  says OutOfMemory there refuses = tt

  -- nothing was put where packing failed
  pub ends : (f : PackFault) (a : Option (List ℕ)) → EndsPack p name told left (status_of_pack f) a a
  ends Exists a = record { allowed = refl; done = λ e. absurd (omega (arith, e)); front = λ bytes is. (0, adds_none a); quiet = λ x y. Keeps-same a }
  ends (Line n why) a = record { allowed = refl; done = λ e. absurd (omega (arith, e)); front = λ bytes is. (0, adds_none a); quiet = λ x y. Keeps-same a }
  ends ReadFault a = record { allowed = refl; done = λ e. absurd (omega (arith, e)); front = λ bytes is. (0, adds_none a); quiet = λ x y. Keeps-same a }
  ends WriteFault a = record { allowed = refl; done = λ e. absurd (omega (arith, e)); front = λ bytes is. (0, adds_none a); quiet = λ x y. Keeps-same a }
  ends OutOfMemory a = record { allowed = refl; done = λ e. absurd (omega (arith, e)); front = λ bytes is. (0, adds_none a); quiet = λ x y. Keeps-same a }

  stopped : (f : PackFault) (old new : Option Contents) → Refuses f → Stops f old new → status_of_pack f ≡ 11
      → ForSome left (λ bytes. (r : Refusal) × (refusal (settings_of p) (lines_of bytes) ≡ Some r) × HasFrontOf (settings_of p) (take (r.number - 1) (lines_of bytes)) old new name)
  stopped (Line n why) old new refuses stops e = λ bytes is. (record { number = n; why = why }, refuses bytes is, stops bytes is)
  stopped Exists old new refuses stops e = absurd (omega (arith, e))
  stopped ReadFault old new refuses stops e = absurd (omega (arith, e))
  stopped WriteFault old new refuses stops e = absurd (omega (arith, e))
  stopped OutOfMemory old new refuses stops e = absurd (omega (arith, e))

  -- what a fault leaves of the file
  pub makes : (f : PackFault) (old new : Option Contents) → Refuses f → Stops f old new
      → ForSome left (λ bytes. LeavesFront (settings_of p) (lines_of bytes) old new name) → (IsErrOf (failed f) Exists → new ≡ old)
      → MakesFile p name left (status_of_pack f) old new
  makes f old new refuses stops leaves kept = record {
    whole = λ e. absurd (never_done f e);
    holds = λ e. absurd (never_done f e);
    before = stopped f old new refuses stops;
    front = leaves;
    kept = λ e. kept (is_exists f e);
  }

  -- the file of all lines
  pub made : (n : ℕ) (old new : Option Contents) → (n ≡ 11 → ⊥) → (n ≡ 12 → ⊥)
      → ForSome left (λ bytes. Sets old new name (file_for (settings_of p) (lines_of bytes))) → ForSome left (λ bytes. HoldsLines (settings_of p) (lines_of bytes))
      → MakesFile p name left n old new
  made n old new no_line no_exists sets holds = record {
    whole = λ e. sets;
    holds = λ e. holds;
    before = λ e. absurd (no_line e);
    front = λ bytes is.
        let ls = lines_of bytes in
        let all : take (length ls) ls ≡ ls = take_all (length ls) ls (omega arith) in
        let file = file_for (settings_of p) ls in
        let whole : take (length file) file ≡ file = take_all (length file) file (omega arith) in
        inr (
          length ls,
          subst (λ (ks : List (List ℕ)). HasFrontOf (settings_of p) ks old new name) (sym all)
              (length file, subst (λ (b : List ℕ). Sets old new name b) (sym whole) (sets bytes is)),
        );
    kept = λ e. absurd (no_exists e);
  }

  -- the line of the counts
  moved_sum : (s : Sum) (old new : Option (List ℕ)) → ForSome left (λ bytes. s ≡ counted (sum_of (settings_of p) (lines_of bytes)))
      → (n : ℕ) × Appends old new (take n (sum_line s)) → ForSome left (λ bytes. (n : ℕ) × Appends old new (take n (line_for p bytes)))
  moved_sum s old new same front = λ bytes is. (front.0, subst (λ (t : Sum). Appends old new (take front.0 (sum_line t))) (same bytes is) front.1)

  pub ends_done : (s : Sum) (old new : Option (List ℕ)) → ForSome left (λ bytes. s ≡ counted (sum_of (settings_of p) (lines_of bytes)))
      → Appends old new (sum_line s) → (n : ℕ) × Appends old new (take n (sum_line s)) → EndsPack p name told left 0 old new
  ends_done s old new same line front = record {
    allowed = refl;
    done = λ e bytes is. subst (λ (t : Sum). Appends old new (sum_line t)) (same bytes is) line;
    front = moved_sum s old new same front;
    quiet = λ never other. absurd (never refl);
  }

  pub ends_cut : (f : PackFault) (s : Sum) (old new : Option (List ℕ)) → (f ≡ WriteFault) ⊎ (f ≡ OutOfMemory)
      → ForSome left (λ bytes. s ≡ counted (sum_of (settings_of p) (lines_of bytes)))
      → (n : ℕ) × Appends old new (take n (sum_line s)) → (IsErrOf {T = Unit {0}} (Err f) OutOfMemory → new ≡ old) → EndsPack p name told left (status_of_pack f) old new
  ends_cut WriteFault s old new only same front kept = record {
    allowed = refl;
    done = λ e. absurd (omega (arith, e));
    front = moved_sum s old new same front;
    quiet = λ never other. absurd (other refl);
  }
  ends_cut OutOfMemory s old new only same front kept = record {
    allowed = refl;
    done = λ e. absurd (omega (arith, e));
    front = moved_sum s old new same front;
    quiet = λ never other. subst (λ (b : Option (List ℕ)). Keeps old b) (sym (kept refl)) (Keeps-same old);
  }
  ends_cut Exists s old new only same front kept = absurd (elim only [ inl e ↦ cc | inr e ↦ cc ])
  ends_cut (Line n why) s old new only same front kept = absurd (elim only [ inl e ↦ cc | inr e ↦ cc ])
  ends_cut ReadFault s old new only same front kept = absurd (elim only [ inl e ↦ cc | inr e ↦ cc ])

  pub says_cut : (f : PackFault) → (f ≡ WriteFault) ⊎ (f ≡ OutOfMemory) → SaysOfPack p name told left f
  says_cut WriteFault only = tt
  says_cut OutOfMemory only = tt
  says_cut ReadFault only = tt
  says_cut Exists only = absurd (elim only [ inl e ↦ cc | inr e ↦ cc ])
  says_cut (Line n why) only = absurd (elim only [ inl e ↦ cc | inr e ↦ cc ])

  module _ (files_before files_now input_before input_now out_before out_now : ℕ) where
    abbrev Comes : ℕ → Type 0
    Comes n = ComesOfPack p name told left n files_before files_now input_before input_now out_before out_now

    -- when a fault comes
    refused_only : (f : PackFault) (bytes : List ℕ) → left ≡ Some bytes → Refuses f → status_of_pack f ≡ 11 → IsSome (refusal (settings_of p) (lines_of bytes))
    refused_only (Line n why) bytes is refuses e = some_is Refusal (refusal (settings_of p) (lines_of bytes)) (record { number = n; why = why }) (refuses bytes is)
    refused_only Exists bytes is refuses e = absurd (omega (arith, e))
    refused_only ReadFault bytes is refuses e = absurd (omega (arith, e))
    refused_only WriteFault bytes is refuses e = absurd (omega (arith, e))
    refused_only OutOfMemory bytes is refuses e = absurd (omega (arith, e))

    other : (f : PackFault) (files : Contents) → told ≡ Some files → files name ≡ None → IsThere (failed f)
        → HasCause input_before input_now (IsErrOf (failed f) ReadFault) → HasCause files_before files_now (IsErrOf (failed f) WriteFault)
        → ¬ Rose files_before files_now → ¬ Rose input_before input_now → (status_of_pack f ≡ 11) ⊎ (status_of_pack f ≡ 10)
    other Exists files is none there read write no_write no_read = absurd (none_is_not (List ℕ) (files name) none ((there files is).0 refl))
    other (Line n why) files is none there read write no_write no_read = inl refl
    other ReadFault files is none there read write no_write no_read = absurd (no_read (read.rose refl))
    other WriteFault files is none there read write no_write no_read = absurd (no_write (write.rose refl))
    other OutOfMemory files is none there read write no_write no_read = inr refl

    accepted_not : (f : PackFault) (bytes : List ℕ) → left ≡ Some bytes → Refuses f → refusal (settings_of p) (lines_of bytes) ≡ None → status_of_pack f ≡ 11 → ⊥
    accepted_not f bytes is refuses none e =
        none_is_not Refusal (refusal (settings_of p) (lines_of bytes)) none (refused_only f bytes is refuses e)

    pub comes : (f : PackFault) → IsThere (failed f) → Refuses f
        → HasCause input_before input_now (IsErrOf (failed f) ReadFault) → HasCause files_before files_now (IsErrOf (failed f) WriteFault) → Comes (status_of_pack f)
    comes f there refuses read write = record {
      exists = λ files is. record { only = λ e. (there files is).0 (is_exists f e); always = λ some. inl (status_of_failed f Exists ((there files is).1 some)) };
      refused = λ files bytes is has none no_write no_read. record {
        only = refused_only f bytes has refuses;
        always = λ some. other f files is none there read write no_write no_read;
      };
      done = λ files bytes is has none accepted no_write no_read no_put.
          elim (other f files is none there read write no_write no_read) [ inl e ↦ absurd (accepted_not f bytes has refuses accepted e) | inr e ↦ inr e ];
    }

    -- when packing is done
    pub comes_done : (n : ℕ) (sum : PackSum) → (n ≡ 11 → ⊥) → (n ≡ 12 → ⊥) → IsThere (Ok sum) → IsAllAccepted p left → (¬ Rose out_before out_now → (n ≡ 0) ⊎ (n ≡ 10)) → Comes n
    comes_done n sum no_line no_exists there accepted put = record {
      exists = λ files is. record { only = λ e. absurd (no_exists e); always = λ some. let never = (there files is).1 some in absurd (cc) };
      refused = λ files bytes is has none no_write no_read. record {
        only = λ e. absurd (no_line e);
        always = λ some. absurd (none_is_not Refusal (refusal (settings_of p) (lines_of bytes)) (accepted bytes has) some);
      };
      done = λ files bytes is has none all no_write no_read no_put. put no_put;
    }

-- the status of a put that failed
pub cut_status : (f : PackFault) → (f ≡ WriteFault) ⊎ (f ≡ OutOfMemory) → (status_of_pack f ≡ 9) ⊎ (status_of_pack f ≡ 10)
cut_status f only = elim only [ inl e ↦ inl (ap status_of_pack e) | inr e ↦ inr (ap status_of_pack e) ]

pub no_cut : (f : PackFault) (n : ℕ) → (f ≡ WriteFault) ⊎ (f ≡ OutOfMemory) → (n ≡ 9 → ⊥) → (n ≡ 10 → ⊥) → status_of_pack f ≡ n → ⊥
no_cut f n only no_write no_memory e = elim (cut_status f only) [ inl s ↦ no_write (sym e ∙ s) | inr s ↦ no_memory (sym e ∙ s) ]

pub cut_comes : (f : PackFault) (before now : ℕ) → (f ≡ WriteFault) ⊎ (f ≡ OutOfMemory) → HasCause before now (IsErrOf {T = Unit {0}} (Err f) WriteFault) → ¬ Rose before now → (status_of_pack f ≡ 0) ⊎ (status_of_pack f ≡ 10)
cut_comes f before now only cause no_put =
    elim only [ inl e ↦ absurd (no_put (cause.rose (ap (λ (g : PackFault). Err g) e))) | inr e ↦ inr (ap status_of_pack e) ]
