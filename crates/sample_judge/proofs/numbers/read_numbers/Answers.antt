use Rattle.std.proofs.Common.{refl}
use Rattle.sample_judge.proofs.Counted.{numbers_of}
use Rattle.sample_judge.proofs.numbers.read_numbers.Goals as goal

pub returns-in-Ok-clause-numbers : goal.returns-in-Ok-clause-numbers
returns-in-Ok-clause-numbers c j stands =
    let on = c.in_ok-journal.ensures.on j stands in
    numbers_of j _ c.read_all.new.pass refl (c.in-Ok.ensures.taken j on.at on.ended_is)
