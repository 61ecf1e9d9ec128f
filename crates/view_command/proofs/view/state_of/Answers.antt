use Rattle.std.proofs.Common.{◌≡◌, ℕ, List, Some, subst, rules}
use Rattle.avm_model.specs.Segment.{whole_segment_of}
use Rattle.command_parts.specs.Reading.{IsReadAs}
use Rattle.view_command.specs.Showing.{ShowsState, StateOutOfRange}
use Rattle.view_command.proofs.Ending.{read_some, read_none, shown_or_not, missing_end, unread_end}
use Rattle.view_command.proofs.view.state_of.Goals as goal

pub returns-in-Ok-Some-clause-ends : goal.returns-in-Ok-Some-clause-ends
returns-in-Ok-Some-clause-ends g c =
    let read = read_some (λ v. v.items) c.in-Ok-Some.field-0 c.in-Ok-Some.bytes (g.F.Files.file c.args.files.now c.args.segment.now) c.in-Ok-Some.field-0-is c.in-Ok-Some.ensures.bytes in
    let same : c.in-Ok-Some.bytes.items ≡ c.deref.result.now = search rules in
    let read = subst (λ (l : List ℕ). IsReadAs whole_segment_of (g.F.Files.file c.args.files.now c.args.segment.now) (Some l)) same read in
    shown_or_not (ShowsState c.args.asked.now) (StateOutOfRange c.args.asked.now) _ c.deref.result.now c.show_state-ended.result _ _ _ _ _ _ _ _ c.finish.result read (c.in-Ok-Some.ensures.no_fault (λ x. cc)) c.show_state-ended.ensures (record { line = c.finish.ensures.line; cut = c.finish.ensures.cut })

pub returns-in-Ok-None-clause-ends : goal.returns-in-Ok-None-clause-ends
returns-in-Ok-None-clause-ends g c =
    let read = read_none (λ v. v.items) c.in-Ok-None.field-0 (g.F.Files.file c.args.files.now c.args.segment.now) c.in-Ok-None.field-0-is c.in-Ok-None.ensures.bytes in
    missing_end (ShowsState c.args.asked.now) (StateOutOfRange c.args.asked.now) _ _ _ _ _ _ _ c.finish-in-Ok-None.result read (c.in-Ok-None.ensures.no_fault (λ x. cc)) (record { line = c.finish-in-Ok-None.ensures.line; cut = c.finish-in-Ok-None.ensures.cut })

pub returns-in-Err-clause-ends : goal.returns-in-Err-clause-ends
returns-in-Err-clause-ends g c =
    unread_end (ShowsState c.args.asked.now) (StateOutOfRange c.args.asked.now) _ c.in-Err.fault _ _ _ _ _ _ c.finish-in-Err.result c.in-Err.ensures.causes c.in-Err.ensures.fault c.in-Err.ensures.no_fault (record { line = c.finish-in-Err.ensures.line; cut = c.finish-in-Err.ensures.cut })
