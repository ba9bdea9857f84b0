use Rattle.load_file.proofs.+write_empty.Given as goal

abbrev pub decreases-write_empty : goal.decreases-write_empty
decreases-write_empty l = l.n
