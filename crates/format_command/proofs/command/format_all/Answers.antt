use Rattle.std.proofs.Common.{◌≡◌, refl, subst}
use Rattle.std.specs.Prelude.{Result}
use Rattle.lms_signer.specs.Views.{key_data}
use Rattle.format_command.specs.Inputs.{Names, AreRead}
use Rattle.format_command.specs.Outcomes.{Counted}
use Rattle.format_command.specs.declared.ends.FileOption.{FileOption}
use Rattle.format_command.specs.declared.inputs.Start.{Start}
use Rattle.format_command.proofs.Ending.{made_end, unread_end}
use Rattle.format_command.proofs.command.format_all.Goals as goal

pub returns-in-Ok-Ok-clause-ends : goal.returns-in-Ok-Ok-clause-ends
returns-in-Ok-Ok-clause-ends g c =
    let names : Names = record { key = c.args.key.now; config = c.args.config.now; image = c.args.image.now } in
    let n : Counted = record { files_before = g.F.Files.faults c.args.files.now; files_now = g.F.Files.faults c.read_start.new.files; disk_before = g.D.Disk.faults c.args.disk.now; disk_now = g.D.Disk.faults c.make_store-made.new.disk; out_before = g.S.Sink.faults c.args.out.now; out_now = g.S.Sink.faults c.finish.new.out } in
    let read = subst (λ (r : Result Start FileOption). AreRead names (g.F.Files.file c.args.files.now) r) c.in-Ok-Ok.field-0-is c.in-Ok-Ok.ensures.read in
    made_end names (g.F.Files.file c.args.files.now) read.0 (key_data c.in-Ok-Ok.start.key) c.in-Ok-Ok.start.boot.machine.state (g.D.Disk.seen c.args.disk.now) (g.D.Disk.seen c.make_store-made.new.disk) (g.D.Disk.may_leave c.make_store-made.new.disk) (c.make_store-made.new.disk ≡ c.args.disk.now) n
    (g.S.Sink.written c.args.out.now) (g.S.Sink.written c.finish.new.out) c.finish.result c.make_store-made.result read.1 read.2 (c.in-Ok-Ok.ensures.no_fault (λ x. cc)) c.make_store-made.ensures.faults c.make_store-made.ensures.makes c.finish.ensures

pub returns-in-Err-clause-ends : goal.returns-in-Err-clause-ends
returns-in-Err-clause-ends g c =
    let names : Names = record { key = c.args.key.now; config = c.args.config.now; image = c.args.image.now } in
    let n : Counted = record { files_before = g.F.Files.faults c.args.files.now; files_now = g.F.Files.faults c.read_start.new.files; disk_before = g.D.Disk.faults c.args.disk.now; disk_now = g.D.Disk.faults c.args.disk.now; out_before = g.S.Sink.faults c.args.out.now; out_now = g.S.Sink.faults c.finish-in-Err.new.out } in
    unread_end names (g.F.Files.file c.args.files.now) (g.D.Disk.seen c.args.disk.now) (g.D.Disk.may_leave c.args.disk.now) (c.args.disk.now ≡ c.args.disk.now) n
    (g.S.Sink.written c.args.out.now) (g.S.Sink.written c.finish-in-Err.new.out) c.finish-in-Err.result c.in-Err.fault c.in-Err.ensures.causes refl c.in-Err.ensures.fault c.in-Err.ensures.no_fault refl c.finish-in-Err.ensures
