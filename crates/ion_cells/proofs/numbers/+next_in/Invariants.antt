use Rattle.ion_cells.proofs.numbers.+next_in.Given as goal

abbrev pub decreases-next_in : goal.decreases-next_in
decreases-next_in l = l.room
