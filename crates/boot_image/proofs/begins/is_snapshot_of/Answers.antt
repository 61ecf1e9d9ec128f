use Rattle.std.proofs.Common.{ℕ, ◌/◌, ◌<◌, ◌^◌, length, IsTrue, refl, ap, sym, subst, ◌∙◌, arith, rules}
use Rattle.avm_model.specs.HeadReading.{head_of}
use Rattle.avm_model.specs.HeadState.{state_of}
use Rattle.avm_model.specs.ImageState.{is_booted}
use Rattle.avm_model.specs.Machine.{State, MachineState}
use Rattle.avm_model.specs.Memory.{RamState, is_page_count}
use Rattle.log_entry.proofs.Options.{is_some_is}
use Rattle.avm_model.proofs.PageCounts.{few_pages}
use Rattle.boot_image.proofs.Boots.{loaded_test, refused_test, swapped, divided, marks}
use Rattle.boot_image.proofs.begins.is_snapshot_of.Goals as goal

pub overflow_cast-segment : goal.overflow_cast-segment
overflow_cast-segment c =
    let h = is_some_is (head_of c.args.segment.now.head.now) c.requires.head in
    let k = c.requires.pages h.0 h.1 in
    let size = k.size in
    let few = few_pages h.0.front.pages k.count in
    let low : length c.args.segment.now.pages.now / 4096 < 2 ^ 32 = omega (arith, size, few) in
    search rules

pub new-requires : goal.new-requires
new-requires c =
    let h = is_some_is (head_of c.args.segment.now.head.now) c.requires.head in
    let k = c.requires.pages h.0 h.1 in
    subst (λ (n : ℕ). IsTrue (is_page_count n)) (sym (divided (length c.args.segment.now.pages.now) h.0.front.pages k.size)) k.count

pub machine_of-requires : goal.machine_of-requires
machine_of-requires c =
    let h = is_some_is (head_of c.args.segment.now.head.now) c.requires.head in
    let k = c.requires.pages h.0 h.1 in
    let n = divided (length c.args.segment.now.pages.now) h.0.front.pages k.size in
    record { head = (h.0, h.1, marks (length c.args.segment.now.pages.now / 4096) h.0.front.pages c.in_ok-ram.ram c.load.new.ram c.in_ok-ram.ensures c.load.ensures.pages n) }

pub returns-in_ok-machine-in-Ok : goal.returns-in_ok-machine-in-Ok
returns-in_ok-machine-in-Ok c = λ h e.
    let pages = c.args.segment.now.pages.now in
    let ram = c.load.new.ram.bytes in
    let entry = c.in-Ok.entry in
    let state = ap (λ (m : MachineState). m.state) (c.in_ok-machine-in-Ok.ensures h e) in
    let blank = ap (λ (r : RamState). r.bytes) c.in_ok-ram.ensures in
    c.is_booted.ensures
    ∙ ap (λ (s : State). is_booted s pages entry) state
    ∙ swapped h ram pages entry
    ∙ loaded_test (state_of h pages) c.args.image.now c.in_ok-ram.ram.bytes ram entry (length pages / 4096) refl blank c.in-Ok.ensures.fault c.in-Ok.ensures.bytes c.in-Ok.ensures.entry

pub returns-in-Err : goal.returns-in-Err
returns-in-Err c = λ h e.
    let pages = c.args.segment.now.pages.now in
    refused_test (state_of h pages) c.args.image.now c.in_ok-ram.ram.bytes (length pages / 4096) c.in-Err.field-0 refl (ap (λ (r : RamState). r.bytes) c.in_ok-ram.ensures) c.in-Err.ensures.fault
