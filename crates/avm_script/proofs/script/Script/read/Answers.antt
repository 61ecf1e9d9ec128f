use Rattle.std.proofs.Common.{◌≡◌, sym, ap, ◌∙◌, None, Some}
use Rattle.std.specs.Prelude.{option_map, Ok}
use Rattle.avm_script.specs.Script.{line_of}
use Rattle.avm_script.specs.Lines.{line_view}
use Rattle.avm_script.proofs.Joining.{begins, goes, stops, bad_line, ends_with_bytes, ends_open, ends_whole}
use Rattle.avm_script.proofs.script.Script.read.Goals as goal

pub loop-text-init : goal.loop-text-init
loop-text-init c = rw c.in_ok-reading.ensures (begins c.args.bytes.now)

pub returns-in_default-2-clause-refused : goal.returns-in_default-2-clause-refused
returns-in_default-2-clause-refused c =
    let line : None ≡ line_of c.in-Some.text.now = ap (option_map line_view) (sym c.in_default-2.is) ∙ c.in_ok-line.ensures.value in
    λ is. sym c.loop-text.invariant ∙ bad_line _ c.loop-text.rest.now c.in-Some.text.now c.in-Some.behind.now c.in-Some.ensures.value line

pub returns-then-not-branch-clause-refused : goal.returns-then-not-branch-clause-refused
returns-then-not-branch-clause-refused c =
    let line : Some (line_view c.in-Some-2.line) ≡ line_of c.in-Some.text.now = ap (option_map line_view) (sym c.in-Some-2.is) ∙ c.in_ok-line.ensures.value in
    let refused = c.take.ensures.refused (c.in_ok-take.was ∙ ap (λ b. Ok b) c.if-not-branch.true) in
    λ is. sym c.loop-text.invariant ∙ stops _ c.loop-text.rest.now c.in-Some.text.now c.in-Some.behind.now (line_view c.in-Some-2.line) c.in-Some.ensures.value line refused

pub loop-text-preserved : goal.loop-text-preserved
loop-text-preserved c =
    let line : Some (line_view c.in-Some-2.line) ≡ line_of c.in-Some.text.now = ap (option_map line_view) (sym c.in-Some-2.is) ∙ c.in_ok-line.ensures.value in
    let taken = c.take.ensures.taken (c.in_ok-take.was ∙ ap (λ b. Ok b) c.if-not-branch.false) in
    sym (goes _ _ c.loop-text.rest.now c.in-Some.text.now c.in-Some.behind.now (line_view c.in-Some-2.line) c.in-Some.ensures.value line taken) ∙ c.loop-text.invariant

pub returns-then-not-is_empty-clause-refused : goal.returns-then-not-is_empty-clause-refused
returns-then-not-is_empty-clause-refused c = λ is. sym c.loop-text.invariant ∙ ends_with_bytes _ c.loop-text.rest.now c.in_default.ensures.value (sym c.is_empty.ensures ∙ c.if-not-is_empty.true)

pub returns-then-not-reading-clause-refused : goal.returns-then-not-reading-clause-refused
returns-then-not-reading-clause-refused c = λ is. sym c.loop-text.invariant ∙ ends_open _ c.loop-text.rest.now c.in_default.ensures.value (sym c.is_empty.ensures ∙ c.if-not-is_empty.false) c.if-not-reading.true

pub returns-clause-ok : goal.returns-clause-ok
returns-clause-ok c = sym c.loop-text.invariant ∙ ends_whole _ c.loop-text.rest.now c.in_default.ensures.value (sym c.is_empty.ensures ∙ c.if-not-is_empty.false) c.if-not-reading.false
