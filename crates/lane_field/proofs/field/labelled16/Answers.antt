use Rattle.lane_field.proofs.field.labelled16.Goals as goal

pub returns-clause-value : goal.returns-clause-value
returns-clause-value c n named i h = c.named16.ensures.value n (record { rise = c.know.ensures; names = named }) i h
