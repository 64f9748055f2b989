use Rattle.block_lines.proofs.keyed.keyed_row.Goals as goal

pub returns : goal.returns
returns c row e = λ i. (c.in_ok-keys.ensures.keys row e i, c.in_ok-line.ensures row e i)
