use Rattle.order_limit.proofs.Answered.{arranged_answers}
use Rattle.order_limit.proofs.arranged_rows_are_answers.Goals as goal

pub returns : goal.returns
returns c falling skip most made rows out p h = arranged_answers falling skip most made rows out p h
