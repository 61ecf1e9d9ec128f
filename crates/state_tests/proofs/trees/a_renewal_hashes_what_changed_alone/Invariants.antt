use Rattle.state_tests.proofs.trees.a_renewal_hashes_what_changed_alone.Given as goal

abbrev pub ghosts-renewed : goal.ghosts-renewed
ghosts-renewed g a = record { name = a.blank.name; parts = a.blank.parts }
