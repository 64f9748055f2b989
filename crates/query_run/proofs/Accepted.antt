-- That a text has one query, isn't both accepted and refused, and is refused for one reason.
use Rattle.std.proofs.Common.{◌≡◌, ℕ, List, ap, subst}
use Rattle.tree_meaning.specs.Tree.{Query}
use Rattle.query_meaning.specs.Faults.{ComesTo, is_query}
use Rattle.query_meaning.specs.Faults as text
use Rattle.query_meaning.proofs.Verdicts.{verdict-one}
use Rattle.program_meaning.specs.Jobs.{Job}
use Rattle.query_run.specs.Jobs.{Compiles}
use Rattle.query_run.specs.Queries.{Refused, unread, unchecked, Accepts, IsAccepted, Refuses, by_reading, by_checking, IsTextFault}

query_is : (p q : Query) → is_query p ≡ is_query q → p ≡ q
query_is p q e = cc

pub same_query : (sql : List ℕ) (p q : Query) → ComesTo sql (is_query p) → ComesTo sql (is_query q) → p ≡ q
same_query sql p q x y = query_is p q (verdict-one sql (is_query p) (is_query q) x y)

-- a text has one accepted query
pub one_accepted : (sql : List ℕ) (p q : Query) → Accepts sql p → Accepts sql q → p ≡ q
one_accepted sql p q a b = same_query sql p q a.comes b.comes

-- a text isn't both
pub not_both : (sql : List ℕ) (f : Refused) → IsAccepted sql → Refuses sql f → ⊥
not_both sql (unread v) h (by_reading comes fault) =
    let same : v ≡ is_query h.0 = verdict-one sql v (is_query h.0) comes h.1.comes in
    subst IsTextFault same fault
not_both sql (unchecked f) h (by_checking comes found) = let same = same_query sql _ h.0 comes h.1.comes in let none = h.1.faultless in cc

-- a text is refused for one reason
pub one_reason : (sql : List ℕ) (f g : Refused) → Refuses sql f → Refuses sql g → f ≡ g
one_reason sql (unread v) (unread w) (by_reading a x) (by_reading b y) = ap (λ (u : text.Verdict). unread u) (verdict-one sql v w a b)
one_reason sql (unread v) (unchecked g) (by_reading a x) (by_checking b y) = absurd (subst IsTextFault (verdict-one sql v (is_query _) a b) x)
one_reason sql (unchecked f) (unread w) (by_checking a x) (by_reading b y) = absurd (subst IsTextFault (verdict-one sql w (is_query _) b a) y)
one_reason sql (unchecked f) (unchecked g) (by_checking a x) (by_checking b y) = let same = same_query sql _ _ a b in cc

pub compiled_is_accepted : (sql : List ℕ) (job : Job) → Compiles sql job → IsAccepted sql
compiled_is_accepted sql job h = (h.q, h.accepts)
