use Rattle.std.proofs.Common.{ℕ, List}
use Rattle.avm_outside.specs.DiskLog.{LeftSince}
use Rattle.avm_outside.specs.MemDisks.{disk_calls}
use Rattle.avm_outside.specs.declared.mem_disk.MemDisk.{MemDisk}
use Rattle.sample_node.specs.declared.node.Node.{Node}
use Rattle.sample_node.proofs.Seals.{seal_ends, seal_saved}
use Rattle.sample_node.proofs.node.Node.seal.Goals as goal

pub returns-clause-ends : goal.returns-clause-ends
returns-clause-ends c r h =
    let n : Node = record { recorder = c.seal-answer.new.self; disk = c.seal-answer.new.disk; feed = c.args.self.now.feed; outlet = c.seal-answer.new.outlet } in
    seal_ends (λ (d : MemDisk). disk_calls d) (λ (d : MemDisk) (t : ℕ) (image : List ℕ). LeftSince d.base.items d.calls.calls d.log.items t image) c.args.self.now n r _ c.seal-answer.result c.outcome.result h
    c.seal-answer.ensures.machine (c.seal-answer.ensures.seals h.running) c.outcome.ensures

pub returns-clause-saved : goal.returns-clause-saved
returns-clause-saved c none is = seal_saved _ _ c.seal-answer.result c.outcome.result c.seal-answer.ensures.stop c.outcome.ensures none is
