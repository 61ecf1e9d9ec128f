use Rattle.rebut_command.proofs.Ending.{some_ends, none_ends, fault_ends}
use Rattle.rebut_command.proofs.command.answered.Goals as goal

pub returns-in-Ok-Some-clause-ends : goal.returns-in-Ok-Some-clause-ends
returns-in-Ok-Some-clause-ends g c =
    some_ends _ _ c.in-Ok-Some.bytes.items c.deref.result.now _ _ _ _ _ _ _ _ c.answer_bytes.result c.deref.ensures.value (rw c.in-Ok-Some.field-0-is at c.in-Ok-Some.ensures.bytes) (c.in-Ok-Some.ensures.no_fault (λ e. cc)) c.answer_bytes.ensures.said

pub returns-in-Ok-None-clause-ends : goal.returns-in-Ok-None-clause-ends
returns-in-Ok-None-clause-ends g c =
    let s = c.say_missing.ensures in
    none_ends _ _ _ _ _ _ _ _ _ c.say_missing.result (rw c.in-Ok-None.field-0-is at c.in-Ok-None.ensures.bytes) (c.in-Ok-None.ensures.no_fault (λ e. cc)) s.0 s.1 s.2

pub returns-in-Err-clause-ends : goal.returns-in-Err-clause-ends
returns-in-Err-clause-ends g c =
    let s = c.say.ensures in
    fault_ends _ _ _ _ _ _ _ _ _ c.say.result c.in-Err.fault c.in-Err.ensures.causes (λ e. c.in-Err.ensures.fault cc) (λ n. c.in-Err.ensures.no_fault (λ e. n cc)) s.0 s.1 s.2
