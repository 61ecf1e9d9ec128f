use Rattle.lms_hss.proofs.Making.{made_own}
use Rattle.lms_hss.proofs.roll.Roll.make.Goals as goal

pub returns-in-Ok-write_kept-clause-answers : goal.returns-in-Ok-write_kept-clause-answers
returns-in-Ok-write_kept-clause-answers g c =
    made_own _ _ _ _ c.args.key.now c.header.result c.in-Ok-eq0.field-0 c.in-Ok-eq0.field-0-test c.in-Ok-eq0.ensures.len c.len.ensures.same c.in-Ok-write_kept.ensures.written c.in-Ok-write_kept.ensures.kept c.header.ensures c.requires.key
