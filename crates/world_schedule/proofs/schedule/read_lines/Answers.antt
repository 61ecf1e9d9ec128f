use Rattle.std.proofs.Common.{◌≡◌, sym, ap, ◌∙◌, None, Some}
use Rattle.std.specs.Prelude.{option_map, Ok}
use Rattle.world_schedule.specs.Schedule.{line_of}
use Rattle.world_schedule.specs.Read.{line_in}
use Rattle.world_schedule.proofs.Joining.{begins, goes, stops, bad_line, ends_with_bytes, ends_whole}
use Rattle.world_schedule.proofs.schedule.read_lines.Goals as goal

pub loop-text-init : goal.loop-text-init
loop-text-init c = rw c.before.new-reading.ensures (begins c.args.bytes.now)

pub returns-in_default-2-clause-refused : goal.returns-in_default-2-clause-refused
returns-in_default-2-clause-refused c =
    let line : None ≡ line_of c.in-Some.text.now = ap (option_map line_in) (sym c.in_default-2.is) ∙ c.in_ok-line.ensures in
    λ is. sym c.loop-text.invariant ∙ bad_line _ c.loop-text.rest.now c.in-Some.text.now c.in-Some.behind.now c.in-Some.ensures.value line

pub returns-then-not-branch-clause-refused : goal.returns-then-not-branch-clause-refused
returns-then-not-branch-clause-refused c =
    let line : Some (line_in c.in-Some-2.line) ≡ line_of c.in-Some.text.now = ap (option_map line_in) (sym c.in-Some-2.is) ∙ c.in_ok-line.ensures in
    let refused = c.take.ensures.refused (c.in_ok-take.was ∙ ap (λ b. Ok b) c.if-not-branch.true) in
    λ is. sym c.loop-text.invariant ∙ stops _ c.loop-text.rest.now c.in-Some.text.now c.in-Some.behind.now (line_in c.in-Some-2.line) c.in-Some.ensures.value line refused

pub loop-text-preserved : goal.loop-text-preserved
loop-text-preserved c =
    let line : Some (line_in c.in-Some-2.line) ≡ line_of c.in-Some.text.now = ap (option_map line_in) (sym c.in-Some-2.is) ∙ c.in_ok-line.ensures in
    let taken = c.take.ensures.taken (c.in_ok-take.was ∙ ap (λ b. Ok b) c.if-not-branch.false) in
    sym (goes _ _ c.loop-text.rest.now c.in-Some.text.now c.in-Some.behind.now (line_in c.in-Some-2.line) c.in-Some.ensures.value line taken) ∙ c.loop-text.invariant

pub returns-then-not-is_empty-clause-refused : goal.returns-then-not-is_empty-clause-refused
returns-then-not-is_empty-clause-refused c = λ is. sym c.loop-text.invariant ∙ ends_with_bytes _ c.loop-text.rest.now c.in_default.ensures.value (sym c.is_empty.ensures ∙ c.if-not-is_empty.true)

pub returns-clause-ok : goal.returns-clause-ok
returns-clause-ok c = sym c.loop-text.invariant ∙ ends_whole _ c.loop-text.rest.now c.in_default.ensures.value (sym c.is_empty.ensures ∙ c.if-not-is_empty.false)
