-- How a call may end that found no memory before it did anything.
use Rattle.std.proofs.Common.{◌≡◌, ℕ, zero, suc, List, [], Option, refl, arith}
use Rattle.std.proofs.Math.Logic.{⊎_elim}
use Rattle.snel_device.specs.Contents.{Contents}
use Rattle.scan_meaning.specs.Verdicts.{IsAmong}
use Rattle.scan_meaning.specs.Checks.{Checked, sound, absent_file, other_file, bad_block, check_statuses, check_lines, checked_from}
use Rattle.query_run.specs.Headline.{Headline}
use Rattle.query_run.specs.Ends.{Ends, Reads}
use Rattle.query_run.specs.Checking.{Checks}
use Rattle.scan_meaning.proofs.Arranged.{adds_nothing}
use Rattle.query_run.proofs.Refusing.{memory_end}
use Rattle.query_run.proofs.Sink.{Keeps-same, Appends-nothing}

pub ends : (sql : List ℕ) (limit : ℕ) (names : List (List ℕ)) (told : Option Contents) (a : Option (List ℕ)) → Ends sql limit names told 10 a a
ends sql limit names told a = record {
  refused = λ r. refl;
  unwritten = λ r. Keeps-same a;
  accepted = λ q v accepts found. memory_end q limit v a;
}

pub headline : (sql : List ℕ) (limit : ℕ) (names : List (List ℕ)) (told : Option Contents) (a : Option (List ℕ)) → Headline sql limit names told 10 a a
headline sql limit names told a = record {
  of_query = λ q accepts. record {
    answers = λ files os rows tells are rows_are sound. adds_nothing q rows 10 a a (λ e. omega arith) (Keeps-same a);
    over = λ e. absurd (omega arith);
    within = λ e. absurd (⊎_elim (λ (x : 10 ≡ 0). omega arith) (λ (x : 10 ≡ 9). omega arith) e);
  };
}

pub reads : (sql : List ℕ) (names : List (List ℕ)) (told : Option Contents) (n : ℕ) → Reads sql names told n n
reads sql names told n = record { later = omega arith; refused = λ r. refl; accepted = λ q accepts files is v cost found costs. omega arith }

checked_allowed : (c : Checked) → IsAmong 10 (check_statuses c)
checked_allowed sound = refl
checked_allowed (absent_file zero) = refl
checked_allowed (absent_file (suc k)) = refl
checked_allowed (other_file k) = refl
checked_allowed (bad_block k p) = refl

pub checks : (names : List (List ℕ)) (told : Option Contents) (a : Option (List ℕ)) → Checks names told 10 a a
checks names told a files is c found = record {
  files_are = found.files_are;
  are = found.are;
  allowed = checked_allowed (checked_from 0 found.files_are);
  added = [];
  appends = Appends-nothing a;
  front = (check_lines names _, refl);
  whole = λ e. absurd (cc);
}
