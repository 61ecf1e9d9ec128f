use Rattle.std.proofs.Common.{length, false, ap, ◌∙◌}
use Rattle.std.proofs.lemmas.List.{length-replicate}
use Rattle.avm_model.specs.Machine.{MachineState}
use Rattle.avm_model.specs.Memory.{RamState}
use Rattle.rebuttal.proofs.starting.machine_with.Goals as goal

pub returns-clause-tree : goal.returns-clause-tree
returns-clause-tree c =
    let m = c.in_ok-machine.ensures c.requires.head c.requires.is in
    let b = c.in_ok-tree.ensures.ram in
    let ram = ap (λ (x : MachineState). x.state.ram) m ∙ ap (λ (r : RamState). r.bytes) b in
    let dirty = ap (λ (x : MachineState). length x.dirty) m ∙ ap (λ (r : RamState). length r.dirty) b ∙ length-replicate (length c.args.ram.dirty) false in
    rw (ram, dirty) c.in_ok-tree.ensures.tree
