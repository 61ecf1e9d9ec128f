use Rattle.std.proofs.Common.{refl, ◌∙◌, ◌∷◌, length}
use Rattle.journal_model.proofs.Gates.{from_closed, from_damaged, front_goes, next_lacking, next_refused, next_marked}
use Rattle.journal_model.proofs.laws.gates_are_read.Goals as goal

pub returns-clause-closed : goal.returns-clause-closed
returns-clause-closed c j front gate rest is shut = is gate rest ∙ from_closed _ shut

pub returns-clause-open : goal.returns-clause-open
returns-clause-open c j next front items is join unmarked room = front_goes j next front items is join unmarked room

pub returns-clause-lacking : goal.returns-clause-lacking
returns-clause-lacking c j front rest is none = is 1 rest ∙ from_damaged (record { journal = j; place = length front; bytes = 1 ∷ rest }) refl (next_lacking j (length front) 1 rest none)

pub returns-clause-refused : goal.returns-clause-refused
returns-clause-refused c j front items gate rest is none room = is 1 _ ∙ from_damaged _ refl (next_refused j (length front) 1 items gate rest none room)

pub returns-clause-marked : goal.returns-clause-marked
returns-clause-marked c j front n rest is marked = is 1 rest ∙ from_damaged (record { journal = j; place = length front; bytes = 1 ∷ rest }) refl (next_marked j (length front) 1 rest n marked)
