use Rattle.std.proofs.Common.{◌≡◌, true, ap, sym, ◌∙◌}
use Rattle.avm_model.specs.Machine.{State}
use Rattle.avm_model.specs.Segment.{whole_segment_of}
use Rattle.command_parts.proofs.Printed.{prints_none}
use Rattle.view_command.specs.Lines.{state_lines}
use Rattle.view_command.specs.Showing.{ShowsState, StateOutOfRange, Refuses, in_ram}
use Rattle.view_command.proofs.Shows.{refused_leaves, fault_leaves, count_out, words_out, state_shown}
use Rattle.view_command.proofs.shown.show_state.Goals as goal

pub returns-in-Err : goal.returns-in-Err
returns-in-Err g c =
    let bytes = c.args.segment.now in
    refused_leaves (ShowsState c.args.asked.now (whole_segment_of bytes)) (StateOutOfRange c.args.asked.now) (whole_segment_of bytes) c.refusal.result _ _ (c.refusal.ensures bytes c.in-Err.ensures.refused)

pub returns-in-Ok-None : goal.returns-in-Ok-None
returns-in-Ok-None g c =
    let found = c.in-Ok-None.ensures.found in
    (count_out c.args.segment.now c.args.asked.now (rw c.in-Ok-None.field-0-is at found), prints_none _ _)

pub returns-then-not-has_words : goal.returns-then-not-has_words
returns-then-not-has_words g c =
    let bytes = c.args.segment.now in
    let v = c.in-Ok-Some.viewer in
    let found = c.in-Ok-Some.ensures.found in
    (words_out bytes v c.args.asked.now c.machine.result.now.state (rw c.in-Ok-Some.field-0-is at found) c.machine.ensures.at (sym c.if-not-has_words.true ∙ c.has_words.ensures.value), prints_none _ _)

pub returns-in-Ok : goal.returns-in-Ok
returns-in-Ok g c =
    let bytes = c.args.segment.now in
    let a = c.args.asked.now in
    let v = c.in-Ok-Some.viewer in
    let found = c.in-Ok-Some.ensures.found in
    let same : c.machine.result.now.state ≡ c.machine-2.result.now.state = c.machine.ensures.state ∙ sym c.machine-2.ensures.state in
    let words : true ≡ in_ram c.machine-2.result.now.state a.from a.words = sym c.if-not-has_words.false ∙ c.has_words.ensures.value ∙ ap (λ (s : State). in_ram s a.from a.words) same in
    (state_lines c.machine-2.result.now.state a.from a.words, state_shown bytes v a c.machine-2.result.now.state (rw c.in-Ok-Some.field-0-is at found) c.machine-2.ensures.at words, c.in-Ok.ensures)

pub returns : goal.returns
returns g c =
    let bytes = c.args.segment.now in
    let a = c.args.asked.now in
    let v = c.in-Ok-Some.viewer in
    let found = c.in-Ok-Some.ensures.found in
    let same : c.machine.result.now.state ≡ c.machine-2.result.now.state = c.machine.ensures.state ∙ sym c.machine-2.ensures.state in
    let words : true ≡ in_ram c.machine-2.result.now.state a.from a.words = sym c.if-not-has_words.false ∙ c.has_words.ensures.value ∙ ap (λ (s : State). in_ram s a.from a.words) same in
    fault_leaves (ShowsState a (whole_segment_of bytes)) (Refuses (StateOutOfRange a) (whole_segment_of bytes)) (state_lines c.machine-2.result.now.state a.from a.words) c.in-Err-print_state.fault _ _ _ _
    (state_shown bytes v a c.machine-2.result.now.state (rw c.in-Ok-Some.field-0-is at found) c.machine-2.ensures.at words) c.in-Err-print_state.ensures
