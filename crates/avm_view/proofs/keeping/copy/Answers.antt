use Rattle.std.proofs.Common.{length, ap, subst, ◌∙◌}
use Rattle.avm_model.specs.Head.{head_bytes}
use Rattle.avm_model.specs.HeadReading.{head_of}
use Rattle.avm_model.specs.HeadState.{data_of, state_of}
use Rattle.avm_model.specs.Machine.{MachineState}
use Rattle.avm_model.specs.Memory.{IsRam, RamState}
use Rattle.avm_view.proofs.Asides.{copied, head_in, ok_on}
use Rattle.avm_view.proofs.keeping.copy.Goals as goal

pub machine_of-requires : goal.machine_of-requires
machine_of-requires c =
    let m = c.args.machine.now in
    let sizes = subst (λ (r : RamState). IsRam r.bytes r.dirty) c.ram.ensures c.pages.ensures.sizes in
    let count = c.pages.ensures.value ∙ ap (λ (r : RamState). length r.dirty) c.ram.ensures in
    let bytes = c.bytes.ensures.value ∙ ap (λ (r : RamState). r.bytes) c.ram-2.ensures in
    let k = copied m.state m.dirty c.in_ok-ram.ram c.put.new.self sizes (rw count at c.in_ok-ram.ensures) (rw bytes at c.put.ensures.value) c.put.ensures.pages in
    let head = head_in c.in_ok-head.head c.put_head.new.out c.head_len.result c.bytes-2.result.now (head_bytes (data_of m.state)) c.in_ok-head.ensures c.put_head.ensures.value c.bytes-2.ensures in
    record { head = (data_of m.state, ap head_of head ∙ c.put_head.ensures.read, k.pages) }

pub returns : goal.returns
returns c =
    let m = c.args.machine.now in
    let sizes = subst (λ (r : RamState). IsRam r.bytes r.dirty) c.ram.ensures c.pages.ensures.sizes in
    let count = c.pages.ensures.value ∙ ap (λ (r : RamState). length r.dirty) c.ram.ensures in
    let bytes = c.bytes.ensures.value ∙ ap (λ (r : RamState). r.bytes) c.ram-2.ensures in
    let k = copied m.state m.dirty c.in_ok-ram.ram c.put.new.self sizes (rw count at c.in_ok-ram.ensures) (rw bytes at c.put.ensures.value) c.put.ensures.pages in
    let head = head_in c.in_ok-head.head c.put_head.new.out c.head_len.result c.bytes-2.result.now (head_bytes (data_of m.state)) c.in_ok-head.ensures c.put_head.ensures.value c.bytes-2.ensures in
    ok_on _ _ c.machine_of.result (λ x f. ap (λ (y : MachineState). y.state) (f (data_of m.state) (ap head_of head ∙ c.put_head.ensures.read)) ∙ ap (state_of (data_of m.state)) k.bytes ∙ c.put_head.ensures.state) c.machine_of.ensures
