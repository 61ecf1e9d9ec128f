use Rattle.std.proofs.Common.{ℕ, List}
use Rattle.avm_outside.specs.DiskLog.{LeftSince}
use Rattle.avm_outside.specs.MemDisks.{disk_calls}
use Rattle.avm_outside.specs.declared.mem_disk.MemDisk.{MemDisk}
use Rattle.sample_node.specs.declared.node.Node.{Node}
use Rattle.sample_node.proofs.Turns.{turn_by}
use Rattle.sample_node.proofs.node.Node.turn.Goals as goal

pub returns-clause-ends : goal.returns-clause-ends
returns-clause-ends c r h =
    let n : Node = record { recorder = c.turn-turn.new.self; disk = c.turn-turn.new.disk; feed = c.turn-turn.new.feed; outlet = c.turn-turn.new.outlet } in
    turn_by (λ (d : MemDisk). disk_calls d) (λ (d : MemDisk) (t : ℕ) (image : List ℕ). LeftSince d.base.items d.calls.calls d.log.items t image) c.args.self.now n r _ c.turn-turn.result c.answered.result h
    ((c.args.self.now.recorder.ready h.running).small) c.turn-turn.ensures.key c.turn-turn.ensures.stop (c.turn-turn.ensures.turns h.running) c.answered.ensures
