use Rattle.std.proofs.Common.{Ok, Some, refl, sym, ◌∙◌}
use Rattle.avm_outside.specs.MemDisks.{disk_state}
use Rattle.recorder.specs.Recorder.{desk_of}
use Rattle.world_core.proofs.Steps.{crashed_down, crashed_up, reopens_on}
use Rattle.world_core.specs.declared.types.Stepped.TheVariants as step
use Rattle.world_parts.specs.Crash.{crash_image}
use Rattle.world_core.proofs.node.Node.crash.Goals as goal

pub returns-in-Ok-clause-crashed : goal.returns-in-Ok-clause-crashed
returns-in-Ok-clause-crashed c =
    let image = crash_image (disk_state c.args.self.now.disk c.args.calls) c.args.crash.long c.args.crash.fill in
    crashed_up c.args.self.now.recorder c.in-Some.recorder c.args.self.now.disk c.reopen.new.disk (Some c.in-Ok.recorder) image (Ok step.Reopened) (sym c.take.ensures.value ∙ c.in-Some.is)
    (reopens_on c.args.self.now.disk c.reopen.new.disk c.in-Ok.recorder c.into_signer.result (desk_of c.in-Some.recorder).press.key c.in_ok-image.image.items image c.into_signer.ensures c.in_ok-image.ensures.value c.in-Ok.ensures.opens)

pub returns-in-Err-clause-crashed : goal.returns-in-Err-clause-crashed
returns-in-Err-clause-crashed c =
    let image = crash_image (disk_state c.args.self.now.disk c.args.calls) c.args.crash.long c.args.crash.fill in
    crashed_up c.args.self.now.recorder c.in-Some.recorder c.args.self.now.disk c.reopen.new.disk c.take.new.self image c.down.result (sym c.take.ensures.value ∙ c.in-Some.is)
    (crashed_down c.args.self.now.disk c.reopen.new.disk c.take.new.self c.into_signer.result (desk_of c.in-Some.recorder).press.key c.in_ok-image.image.items image c.in-Err.why c.down.result c.take.ensures.after c.into_signer.ensures c.in_ok-image.ensures.value c.down.ensures (λ ne. c.in-Err.ensures.fails c.in-Err.why ne refl))
