use Rattle.lms_signer.specs.Views.{key_data}
use Rattle.recorder.specs.Recorder.{desk_of}
use Rattle.record_command.proofs.Opens.{run_moments}
use Rattle.record_command.proofs.recording.record_script.Goals as goal

pub returns-in-Ok-Ok-clause-moments : goal.returns-in-Ok-Ok-clause-moments
returns-in-Ok-Ok-clause-moments g c =
    let key = rw c.in-Ok-Ok.field-0-is at c.in-Ok-Ok.ensures.key in
    run_moments g.D.Disk.seen g.D.Disk.may_leave g.D.Disk.moment g.D.Disk.left_since c.args.disk.now c.open_store.new.disk c.record_opened.new.disk (key_data c.args.start.key) (desk_of c.in-Ok-Ok.recorder).press.key c.args.start.script
    (g.D.Disk.seen c.args.disk.now) (g.D.Disk.seen c.open_store.new.disk) key c.in-Ok-Ok.ensures.reads.same c.in-Ok-Ok.ensures.reads c.record_opened.ensures.moments
