use Rattle.std.proofs.Common.{◌∙◌}
use Rattle.query_run.specs.declared.query_fault.QueryFault.TheVariants.{OutOfMemory}
use Rattle.query_run.proofs.Accepted.{compiled_is_accepted}
use Rattle.query_run.proofs.Explaining.{not_compiled, whole_listing, cut_listing}
use Rattle.query_run.proofs.listing.put_listing.Goals as goal

pub returns-in-Err-clause-ends : goal.returns-in-Err-clause-ends
returns-in-Err-clause-ends g c sql compiles = not_compiled sql OutOfMemory _ tt

pub returns-in-Ok-put-clause-ends : goal.returns-in-Ok-put-clause-ends
returns-in-Ok-put-clause-ends g c sql compiles = whole_listing sql _ compiles _ _ _ (c.as_slice.ensures ∙ c.in-Ok.ensures) c.in-Ok-put.ensures.added

pub returns-in-Ok-put-clause-cause : goal.returns-in-Ok-put-clause-cause
returns-in-Ok-put-clause-cause g c sql compiles = compiled_is_accepted sql _ compiles

pub returns-clause-ends : goal.returns-clause-ends
returns-clause-ends g c sql compiles = cut_listing sql _ compiles _ _ _ (c.as_slice.ensures ∙ c.in-Ok.ensures) c.in-Err-put.ensures.cut.0 c.in-Err-put.ensures.cut.1

pub returns-clause-cause : goal.returns-clause-cause
returns-clause-cause g c sql compiles = compiled_is_accepted sql _ compiles
