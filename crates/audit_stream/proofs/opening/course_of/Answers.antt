use Rattle.std.proofs.Common.{ℕ, IsTrue, sym, subst, ◌∙◌}
use Rattle.avm_model.specs.HeadReading.{head_of}
use Rattle.avm_model.specs.Memory.{is_page_count}
use Rattle.log_entry.proofs.Options.{is_some_is}
use Rattle.audit_stream.proofs.Opened.{pages_count, blank_is, blank_stale, blank_course}
use Rattle.audit_stream.proofs.opening.course_of.Goals as goal

pub new-requires : goal.new-requires
new-requires c =
    let h = is_some_is (head_of c.args.head.now) c.requires.head in
    subst (λ (n : ℕ). IsTrue (is_page_count n)) (sym (c.requires.pages h.0 h.1)) (pages_count c.args.head.now h.0 h.1)

pub machine_of-requires : goal.machine_of-requires
machine_of-requires c =
    let h = is_some_is (head_of c.args.head.now) c.requires.head in
    let b = blank_is c.args.pages _ _ c.in_ok-ram.ensures c.in_ok-tree.ensures.ram in
    record { head = (h.0, h.1, sym (b.marks ∙ c.requires.pages h.0 h.1)) }

pub new-requires-2 : goal.new-requires-2
new-requires-2 c =
    let h = is_some_is (head_of c.args.head.now) c.requires.head in
    let b = blank_is c.args.pages _ _ c.in_ok-ram.ensures c.in_ok-tree.ensures.ram in
    blank_stale h.0 c.args.pages _ _ c.in_ok-machine.machine c.in_ok-tree.tree b (c.in_ok-machine.ensures h.0 h.1) c.in_ok-tree.ensures.tree

pub returns : goal.returns
returns c = λ h e.
    rw c.new-2.ensures
    (blank_course h c.args.pages _ _ c.in_ok-machine.machine c.in_ok-tree.tree (c.requires.pages h e) (blank_is c.args.pages _ _ c.in_ok-ram.ensures c.in_ok-tree.ensures.ram) (c.in_ok-machine.ensures h e))
