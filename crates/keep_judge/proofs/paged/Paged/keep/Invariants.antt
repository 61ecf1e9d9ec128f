use Rattle.keep_judge.proofs.paged.Paged.keep.Given as goal

abbrev pub ghosts-root_counted : goal.ghosts-root_counted
ghosts-root_counted a = record { name = a.blank.name; parts = a.blank.parts }
