use Rattle.std.proofs.Common.{◌∙◌}
use Rattle.std.specs.Prelude.{Ok, Err}
use Rattle.jrnl_store.specs.Kept.{kept as kept_of}
use Rattle.record_turn.specs.Desk.{rows_of}
use Rattle.recorder.specs.Recorder.{desk_of}
use Rattle.record_command.specs.Runs.{held_of}
use Rattle.record_command.proofs.Leaving.{done_leaves, moments_of, runs_on, stop_leaves, stop_says}
use Rattle.record_command.proofs.recording.record_opened.Goals as goal

pub returns-in-Ok-clause-leaves : goal.returns-in-Ok-clause-leaves
returns-in-Ok-clause-leaves g c =
    let r = c.in-Ok.ensures.runs in (
      r.0,
      r.1.1,
      done_leaves g.D.Disk.moment g.D.Disk.left_since c.args.disk.now c.run_on_files.new.disk (g.D.Disk.may_leave c.args.disk.now) (g.D.Disk.may_leave c.run_on_files.new.disk) (desk_of c.args.recorder.now) (desk_of c.args.recorder.now).store.batch.parts c.args.script (kept_of (desk_of c.run_on_files.new.recorder).store.journal) (rows_of (desk_of c.run_on_files.new.recorder).kept) (desk_of c.run_on_files.new.recorder).store.batch.parts (desk_of c.run_on_files.new.recorder).machine.state (held_of c.args.names.packets.now c.args.names.console.now c.args.names.auths.now (g.F.Files.file c.args.files.now)) (held_of c.args.names.packets.now c.args.names.console.now c.args.names.auths.now (g.F.Files.file c.run_on_files.new.files)) r.0 c.in-Ok.dropped c.summary.result (g.D.Disk.seen c.args.disk.now) (g.D.Disk.seen c.run_on_files.new.disk)
          c.requires.empty c.requires.opened r.2 (runs_on (g.D.Disk.seen c.args.disk.now) c.run_on_files.new.recorder c.in-Ok.ensures.open) c.summary.ensures.sums (c.summary.ensures.dropped ∙ r.1.0),
    )

pub returns-in-Ok-clause-moments : goal.returns-in-Ok-clause-moments
returns-in-Ok-clause-moments g c =
    let r = c.in-Ok.ensures.runs in
    moments_of g.D.Disk.moment g.D.Disk.left_since c.args.disk.now c.run_on_files.new.disk (g.D.Disk.may_leave c.args.disk.now) (g.D.Disk.may_leave c.run_on_files.new.disk) (desk_of c.args.recorder.now) (desk_of c.args.recorder.now).store.batch.parts c.args.script (kept_of (desk_of c.run_on_files.new.recorder).store.journal) (rows_of (desk_of c.run_on_files.new.recorder).kept) (desk_of c.run_on_files.new.recorder).store.batch.parts (desk_of c.run_on_files.new.recorder).machine.state (held_of c.args.names.packets.now c.args.names.console.now c.args.names.auths.now (g.F.Files.file c.args.files.now)) (held_of c.args.names.packets.now c.args.names.console.now c.args.names.auths.now (g.F.Files.file c.run_on_files.new.files)) r.0 (Ok c.in-Ok.dropped) (g.D.Disk.seen c.args.disk.now) (g.D.Disk.seen c.run_on_files.new.disk)
    c.requires.empty c.requires.opened r.2

pub returns-in-Err-clause-leaves : goal.returns-in-Err-clause-leaves
returns-in-Err-clause-leaves g c =
    let r = c.in-Err.ensures.runs in
    rw c.end_of.ensures (
      r.0,
      stop_says c.in-Err.stop r.0 _ _ _ _ r.1,
      stop_leaves g.D.Disk.moment g.D.Disk.left_since c.args.disk.now c.run_on_files.new.disk (g.D.Disk.may_leave c.args.disk.now) (g.D.Disk.may_leave c.run_on_files.new.disk) (desk_of c.args.recorder.now) (desk_of c.args.recorder.now).store.batch.parts c.args.script (kept_of (desk_of c.run_on_files.new.recorder).store.journal) (rows_of (desk_of c.run_on_files.new.recorder).kept) (desk_of c.run_on_files.new.recorder).store.batch.parts (desk_of c.run_on_files.new.recorder).machine.state (held_of c.args.names.packets.now c.args.names.console.now c.args.names.auths.now (g.F.Files.file c.args.files.now)) (held_of c.args.names.packets.now c.args.names.console.now c.args.names.auths.now (g.F.Files.file c.run_on_files.new.files)) r.0 c.in-Err.stop (g.D.Disk.seen c.args.disk.now) (g.D.Disk.seen c.run_on_files.new.disk)
          c.requires.empty c.requires.opened r.2 c.in-Err.ensures.unsaved,
    )

pub returns-in-Err-clause-moments : goal.returns-in-Err-clause-moments
returns-in-Err-clause-moments g c =
    let r = c.in-Err.ensures.runs in
    moments_of g.D.Disk.moment g.D.Disk.left_since c.args.disk.now c.run_on_files.new.disk (g.D.Disk.may_leave c.args.disk.now) (g.D.Disk.may_leave c.run_on_files.new.disk) (desk_of c.args.recorder.now) (desk_of c.args.recorder.now).store.batch.parts c.args.script (kept_of (desk_of c.run_on_files.new.recorder).store.journal) (rows_of (desk_of c.run_on_files.new.recorder).kept) (desk_of c.run_on_files.new.recorder).store.batch.parts (desk_of c.run_on_files.new.recorder).machine.state (held_of c.args.names.packets.now c.args.names.console.now c.args.names.auths.now (g.F.Files.file c.args.files.now)) (held_of c.args.names.packets.now c.args.names.console.now c.args.names.auths.now (g.F.Files.file c.run_on_files.new.files)) r.0 (Err c.in-Err.stop) (g.D.Disk.seen c.args.disk.now) (g.D.Disk.seen c.run_on_files.new.disk)
    c.requires.empty c.requires.opened r.2
