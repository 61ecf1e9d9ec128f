use Rattle.avm_hash.proofs.tests.steps_take_no_bytes.Given as goal

abbrev pub ghosts-twice : goal.ghosts-twice
ghosts-twice a = record { name = a.blank.name; parts = a.blank.parts }
