use Rattle.std.proofs.Common.{◌≡◌}
use Rattle.roll_command.proofs.Enrolling.{enroll_reached}
use Rattle.roll_command.proofs.binding.enroll.Goals as goal

pub returns-clause-ends : goal.returns-clause-ends
returns-clause-ends g c =
    let e = c.enrolled-ended.ensures in
    let o = c.finish.ensures in (
      o.0,
      enroll_reached (record { key = c.args.key.now; public = c.args.public.now; endorse = c.args.endorse.now }) (g.F.Files.file c.args.files.now) (g.F.Files.file c.enrolled-ended.new.files) (g.D.Disk.seen c.args.disk.now) (g.D.Disk.seen c.enrolled-ended.new.disk) (g.D.Disk.may_leave c.enrolled-ended.new.disk) (c.enrolled-ended.new.disk ≡ c.args.disk.now)
          (record { files_before = g.F.Files.faults c.args.files.now; files_now = g.F.Files.faults c.enrolled-ended.new.files; disk_before = g.D.Disk.faults c.args.disk.now; disk_now = g.D.Disk.faults c.enrolled-ended.new.disk; out_before = g.S.Sink.faults c.args.out.now; out_now = g.S.Sink.faults c.finish.new.out })
          c.enrolled-ended.result e.ends e.left e.untouched e.fault e.no_fault e.disk_fault e.no_disk_fault e.sink o.0 o.1,
      o.2,
    )
