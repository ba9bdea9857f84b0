use Rattle.load_file.proofs.+write_names.Given as goal

abbrev pub decreases-write_names : goal.decreases-write_names
decreases-write_names l = l.many
