use Rattle.std.proofs.Common.{◌≡◌, true, false, ap, sym, ◌∙◌}
use Rattle.avm_model.specs.Machine.{State}
use Rattle.avm_model.specs.Segment.{whole_segment_of}
use Rattle.command_parts.proofs.Printed.{prints_none}
use Rattle.view_command.specs.Showing.{ShowsChanges, ChangesOutOfRange, Refuses, in_ram}
use Rattle.view_command.proofs.Shows.{refused_leaves, fault_leaves, changes_out, changes_shown}
use Rattle.view_command.proofs.shown.show_changes.Goals as goal

pub returns-in-Err : goal.returns-in-Err
returns-in-Err g c =
    let bytes = c.args.segment.now in
    refused_leaves (ShowsChanges c.args.address (whole_segment_of bytes)) (ChangesOutOfRange c.args.address) (whole_segment_of bytes) c.refusal.result _ _ (c.refusal.ensures bytes c.in-Err.ensures.refused)

pub returns-then-not-has_words : goal.returns-then-not-has_words
returns-then-not-has_words g c =
    let v = c.in-Ok.viewer in
    let no : in_ram v.point.state c.args.address 1 ≡ false =
    sym (ap (λ (s : State). in_ram s c.args.address 1) c.machine.ensures.state) ∙ sym c.has_words.ensures.value ∙ c.if-not-has_words.true in
    (changes_out c.args.segment.now v c.args.address c.in-Ok.ensures.opened no, prints_none _ _)

pub returns-in-Ok-print_changes : goal.returns-in-Ok-print_changes
returns-in-Ok-print_changes g c =
    let v = c.in-Ok.viewer in
    let is : in_ram v.point.state c.args.address 1 ≡ true =
    sym (ap (λ (s : State). in_ram s c.args.address 1) c.machine.ensures.state) ∙ sym c.has_words.ensures.value ∙ c.if-not-has_words.false in
    (_, changes_shown c.args.segment.now v c.args.address c.in-Ok.ensures.opened is, c.in-Ok-print_changes.ensures)

pub returns-in-Err-print_changes : goal.returns-in-Err-print_changes
returns-in-Err-print_changes g c =
    let v = c.in-Ok.viewer in
    let is : in_ram v.point.state c.args.address 1 ≡ true =
    sym (ap (λ (s : State). in_ram s c.args.address 1) c.machine.ensures.state) ∙ sym c.has_words.ensures.value ∙ c.if-not-has_words.false in
    fault_leaves (ShowsChanges c.args.address (whole_segment_of c.args.segment.now)) (Refuses (ChangesOutOfRange c.args.address) (whole_segment_of c.args.segment.now)) _ c.in-Err-print_changes.fault _ _ _ _
    (changes_shown c.args.segment.now v c.args.address c.in-Ok.ensures.opened is) c.in-Err-print_changes.ensures
