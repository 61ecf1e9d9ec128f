use Rattle.std.proofs.Common.{◌≡◌, refl, subst}
use Rattle.std.specs.Prelude.{Result}
use Rattle.lms_signer.specs.Views.{key_data}
use Rattle.format_command.specs.Outcomes.{Counted}
use Rattle.record_command.specs.Inputs.{AreRead}
use Rattle.record_command.specs.Names.{record_names}
use Rattle.record_command.specs.Outcomes.{Names, inputs}
use Rattle.record_command.specs.declared.ends.FileOption.{FileOption}
use Rattle.record_command.specs.declared.inputs.Start.{Start}
use Rattle.record_command.proofs.Ending.{all_moments, no_moments, refused_ends, run_ends, same_map, unread_ends}
use Rattle.record_command.proofs.command.record_all.Goals as goal

pub returns-in-Ok-Ok-clause-ends : goal.returns-in-Ok-Ok-clause-ends
returns-in-Ok-Ok-clause-ends g c =
    let names : Names = record_names c.args.names in
    let n : Counted = record { files_before = g.F.Files.faults c.args.files.now; files_now = g.F.Files.faults c.record_script-ended.new.files; disk_before = g.D.Disk.faults c.args.disk.now; disk_now = g.D.Disk.faults c.record_script-ended.new.disk; out_before = g.S.Sink.faults c.args.out.now; out_now = g.S.Sink.faults c.finish.new.out } in
    let read = subst (λ (r : Result Start FileOption). AreRead (inputs names) (g.F.Files.file c.args.files.now) r) c.in-Ok-Ok.field-0-is c.in-Ok-Ok.ensures.read in
    let l = c.record_script-ended.ensures.leaves in
    run_ends names (g.F.Files.file c.args.files.now) (g.F.Files.file c.read_start.new.files) (g.F.Files.file c.record_script-ended.new.files) read.0 (key_data c.in-Ok-Ok.start.key) c.in-Ok-Ok.start.script (g.D.Disk.seen c.args.disk.now) (g.D.Disk.seen c.record_script-ended.new.disk) (g.D.Disk.may_leave c.record_script-ended.new.disk) (c.record_script-ended.new.disk ≡ c.args.disk.now) n
    (g.S.Sink.faults c.record_script-ended.new.out) (g.S.Sink.written c.args.out.now) (g.S.Sink.written c.record_script-ended.new.out) (g.S.Sink.written c.finish.new.out) c.finish.result l.0 c.record_script-ended.result
    (same_map _ _ c.in-Ok-Ok.ensures.same) read.1 read.2 l.1 l.2 (rw (c.in-Ok-Ok.ensures.no_fault (λ x. cc)) at c.record_script-ended.ensures.file_faults) c.record_script-ended.ensures.disk_faults c.finish.ensures.line c.finish.ensures.cut

pub returns-in-Ok-Ok-clause-moments : goal.returns-in-Ok-Ok-clause-moments
returns-in-Ok-Ok-clause-moments g c =
    let names : Names = record_names c.args.names in
    let read = subst (λ (r : Result Start FileOption). AreRead (inputs names) (g.F.Files.file c.args.files.now) r) c.in-Ok-Ok.field-0-is c.in-Ok-Ok.ensures.read in
    all_moments g.D.Disk.moment g.D.Disk.left_since c.args.disk.now c.record_script-ended.new.disk names (g.F.Files.file c.args.files.now) read.0 (key_data c.in-Ok-Ok.start.key) c.in-Ok-Ok.start.script (g.D.Disk.seen c.args.disk.now) read.1 read.2 c.record_script-ended.ensures.moments

pub returns-in-Ok-Err-clause-ends : goal.returns-in-Ok-Err-clause-ends
returns-in-Ok-Err-clause-ends g c =
    let names : Names = record_names c.args.names in
    let n : Counted = record { files_before = g.F.Files.faults c.args.files.now; files_now = g.F.Files.faults c.read_start.new.files; disk_before = g.D.Disk.faults c.args.disk.now; disk_now = g.D.Disk.faults c.args.disk.now; out_before = g.S.Sink.faults c.args.out.now; out_now = g.S.Sink.faults c.finish-in-Ok-Err.new.out } in
    let read = subst (λ (r : Result Start FileOption). AreRead (inputs names) (g.F.Files.file c.args.files.now) r) c.in-Ok-Err.field-0-is c.in-Ok-Err.ensures.read in
    refused_ends names (g.F.Files.file c.args.files.now) (g.F.Files.file c.read_start.new.files) read.0 c.in-Ok-Err.option (g.D.Disk.seen c.args.disk.now) (g.D.Disk.may_leave c.args.disk.now) (c.args.disk.now ≡ c.args.disk.now) n
    (g.S.Sink.written c.args.out.now) (g.S.Sink.written c.finish-in-Ok-Err.new.out) c.finish-in-Ok-Err.result refl (same_map _ _ c.in-Ok-Err.ensures.same) read.1 read.2 (c.in-Ok-Err.ensures.no_fault (λ x. cc)) refl (c.finish-in-Ok-Err.ensures.line (λ x. cc))

pub returns-in-Ok-Err-clause-moments : goal.returns-in-Ok-Err-clause-moments
returns-in-Ok-Err-clause-moments g c = no_moments g.D.Disk.moment g.D.Disk.left_since c.args.disk.now (record_names c.args.names) (g.F.Files.file c.args.files.now) (g.D.Disk.seen c.args.disk.now)

pub returns-in-Err-clause-ends : goal.returns-in-Err-clause-ends
returns-in-Err-clause-ends g c =
    let names : Names = record_names c.args.names in
    let n : Counted = record { files_before = g.F.Files.faults c.args.files.now; files_now = g.F.Files.faults c.read_start.new.files; disk_before = g.D.Disk.faults c.args.disk.now; disk_now = g.D.Disk.faults c.args.disk.now; out_before = g.S.Sink.faults c.args.out.now; out_now = g.S.Sink.faults c.finish-in-Err.new.out } in
    unread_ends names (g.F.Files.file c.args.files.now) (g.F.Files.file c.read_start.new.files) (g.D.Disk.seen c.args.disk.now) (g.D.Disk.may_leave c.args.disk.now) (c.args.disk.now ≡ c.args.disk.now) n
    (g.S.Sink.written c.args.out.now) (g.S.Sink.written c.finish-in-Err.new.out) c.finish-in-Err.result c.in-Err.fault refl (same_map _ _ c.in-Err.ensures.same) c.in-Err.ensures.causes c.in-Err.ensures.fault c.in-Err.ensures.no_fault refl c.finish-in-Err.ensures.line

pub returns-in-Err-clause-moments : goal.returns-in-Err-clause-moments
returns-in-Err-clause-moments g c = no_moments g.D.Disk.moment g.D.Disk.left_since c.args.disk.now (record_names c.args.names) (g.F.Files.file c.args.files.now) (g.D.Disk.seen c.args.disk.now)
