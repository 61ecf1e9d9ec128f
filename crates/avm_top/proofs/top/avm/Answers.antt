use Rattle.std.proofs.Common.{None, map, string_bytes}
use Rattle.avm_script.specs.Job.{job_of}
use Rattle.headline.proofs.Joined.{joined}
use Rattle.avm_top.proofs.Meant.{audit_means, check_means, format_means, list_means, record_means, recorded, export_means, rebut_means, view_means, changes_means, widen_means, narrow_means, roll_means, enroll_means, retained, evidence_later}
use Rattle.avm_top.proofs.Names.{no_spare, no_store}
use Rattle.avm_top.proofs.top.avm.Goals as goal

pub returns-clause-audit : goal.returns-clause-audit
returns-clause-audit g c = audit_means (job_of (map string_bytes c.args.words.now)) (g.F.Files.file c.args.files.now) (g.F.Files.file c.act.new.files) (g.D.Disk.seen c.args.disk.now) (g.D.Disk.seen c.act.new.disk) (g.D.Disk.may_leave c.act.new.disk) (g.S.Sink.written c.args.out.now) (g.S.Sink.written c.act.new.out) c.act.result c.act.ensures.means

pub returns-clause-headline : goal.returns-clause-headline
returns-clause-headline g c = λ segment signed is_it. joined segment signed (g.F.Files.file c.args.files.now) (g.F.Files.file c.act.new.files) (g.S.Sink.written c.args.out.now) (g.S.Sink.written c.act.new.out) c.act.result (audit_means (job_of (map string_bytes c.args.words.now)) (g.F.Files.file c.args.files.now) (g.F.Files.file c.act.new.files) (g.D.Disk.seen c.args.disk.now) (g.D.Disk.seen c.act.new.disk) (g.D.Disk.may_leave c.act.new.disk) (g.S.Sink.written c.args.out.now) (g.S.Sink.written c.act.new.out) c.act.result c.act.ensures.means segment None signed is_it)

pub returns-clause-check : goal.returns-clause-check
returns-clause-check g c = check_means (job_of (map string_bytes c.args.words.now)) (g.F.Files.file c.args.files.now) (g.F.Files.file c.act.new.files) (g.D.Disk.seen c.args.disk.now) (g.D.Disk.seen c.act.new.disk) (g.D.Disk.may_leave c.act.new.disk) (g.S.Sink.written c.args.out.now) (g.S.Sink.written c.act.new.out) c.act.result c.act.ensures.means

pub returns-clause-format : goal.returns-clause-format
returns-clause-format g c = format_means (job_of (map string_bytes c.args.words.now)) (g.F.Files.file c.args.files.now) (g.F.Files.file c.act.new.files) (g.D.Disk.seen c.args.disk.now) (g.D.Disk.seen c.act.new.disk) (g.D.Disk.may_leave c.act.new.disk) (g.S.Sink.written c.args.out.now) (g.S.Sink.written c.act.new.out) c.act.result c.act.ensures.means

pub returns-clause-list : goal.returns-clause-list
returns-clause-list g c = list_means (job_of (map string_bytes c.args.words.now)) (g.F.Files.file c.args.files.now) (g.F.Files.file c.act.new.files) (g.D.Disk.seen c.args.disk.now) (g.D.Disk.seen c.act.new.disk) (g.D.Disk.may_leave c.act.new.disk) (g.S.Sink.written c.args.out.now) (g.S.Sink.written c.act.new.out) c.act.result c.act.ensures.means

pub returns-clause-record : goal.returns-clause-record
returns-clause-record g c = record_means (job_of (map string_bytes c.args.words.now)) (g.F.Files.file c.args.files.now) (g.F.Files.file c.act.new.files) (g.D.Disk.seen c.args.disk.now) (g.D.Disk.seen c.act.new.disk) (g.D.Disk.may_leave c.act.new.disk) (g.S.Sink.written c.args.out.now) (g.S.Sink.written c.act.new.out) c.act.result c.act.ensures.means

pub returns-clause-recorded : goal.returns-clause-recorded
returns-clause-recorded g c = recorded (job_of (map string_bytes c.args.words.now)) (g.F.Files.file c.args.files.now) (g.D.Disk.seen c.args.disk.now) (g.D.Disk.moment c.args.disk.now) (g.D.Disk.left_since c.args.disk.now) (g.D.Disk.left_since c.act.new.disk) c.act.ensures.left

pub returns-clause-export : goal.returns-clause-export
returns-clause-export g c = export_means (job_of (map string_bytes c.args.words.now)) (g.F.Files.file c.args.files.now) (g.F.Files.file c.act.new.files) (g.D.Disk.seen c.args.disk.now) (g.D.Disk.seen c.act.new.disk) (g.D.Disk.may_leave c.act.new.disk) (g.S.Sink.written c.args.out.now) (g.S.Sink.written c.act.new.out) c.act.result c.act.ensures.means

pub returns-clause-rebut : goal.returns-clause-rebut
returns-clause-rebut g c = rebut_means (job_of (map string_bytes c.args.words.now)) (g.F.Files.file c.args.files.now) (g.F.Files.file c.act.new.files) (g.D.Disk.seen c.args.disk.now) (g.D.Disk.seen c.act.new.disk) (g.D.Disk.may_leave c.act.new.disk) (g.S.Sink.written c.args.out.now) (g.S.Sink.written c.act.new.out) c.act.result c.act.ensures.means

pub returns-clause-view : goal.returns-clause-view
returns-clause-view g c = view_means (job_of (map string_bytes c.args.words.now)) (g.F.Files.file c.args.files.now) (g.F.Files.file c.act.new.files) (g.D.Disk.seen c.args.disk.now) (g.D.Disk.seen c.act.new.disk) (g.D.Disk.may_leave c.act.new.disk) (g.S.Sink.written c.args.out.now) (g.S.Sink.written c.act.new.out) c.act.result c.act.ensures.means

pub returns-clause-changes : goal.returns-clause-changes
returns-clause-changes g c = changes_means (job_of (map string_bytes c.args.words.now)) (g.F.Files.file c.args.files.now) (g.F.Files.file c.act.new.files) (g.D.Disk.seen c.args.disk.now) (g.D.Disk.seen c.act.new.disk) (g.D.Disk.may_leave c.act.new.disk) (g.S.Sink.written c.args.out.now) (g.S.Sink.written c.act.new.out) c.act.result c.act.ensures.means

pub returns-clause-widen : goal.returns-clause-widen
returns-clause-widen g c = widen_means (job_of (map string_bytes c.args.words.now)) (g.F.Files.file c.args.files.now) (g.F.Files.file c.act.new.files) (g.D.Disk.seen c.args.disk.now) (g.D.Disk.seen c.act.new.disk) (g.D.Disk.may_leave c.act.new.disk) (g.S.Sink.written c.args.out.now) (g.S.Sink.written c.act.new.out) c.act.result c.act.ensures.means

pub returns-clause-narrow : goal.returns-clause-narrow
returns-clause-narrow g c = narrow_means (job_of (map string_bytes c.args.words.now)) (g.F.Files.file c.args.files.now) (g.F.Files.file c.act.new.files) (g.D.Disk.seen c.args.disk.now) (g.D.Disk.seen c.act.new.disk) (g.D.Disk.may_leave c.act.new.disk) (g.S.Sink.written c.args.out.now) (g.S.Sink.written c.act.new.out) c.act.result c.act.ensures.means

pub returns-clause-roll : goal.returns-clause-roll
returns-clause-roll g c = roll_means (job_of (map string_bytes c.args.words.now)) (g.F.Files.file c.args.files.now) (g.F.Files.file c.act.new.files) (g.D.Disk.seen c.args.disk.now) (g.D.Disk.seen c.act.new.disk) (g.D.Disk.may_leave c.act.new.disk) (g.S.Sink.written c.args.out.now) (g.S.Sink.written c.act.new.out) c.act.result c.act.ensures.means

pub returns-clause-enroll : goal.returns-clause-enroll
returns-clause-enroll g c = enroll_means (job_of (map string_bytes c.args.words.now)) (g.F.Files.file c.args.files.now) (g.F.Files.file c.act.new.files) (g.D.Disk.seen c.args.disk.now) (g.D.Disk.seen c.act.new.disk) (g.D.Disk.may_leave c.act.new.disk) (g.S.Sink.written c.args.out.now) (g.S.Sink.written c.act.new.out) c.act.result c.act.ensures.means

pub returns-clause-evidence : goal.returns-clause-evidence
returns-clause-evidence g c = evidence_later (map string_bytes c.args.words.now) (g.F.Files.file c.args.files.now) (g.F.Files.file c.act.new.files) (g.D.Disk.seen c.args.disk.now) (g.D.Disk.seen c.act.new.disk) (g.D.Disk.may_leave c.act.new.disk) (g.S.Sink.written c.args.out.now) (g.S.Sink.written c.act.new.out) c.act.result c.act.ensures.means

pub returns-clause-disk : goal.returns-clause-disk
returns-clause-disk g c = λ none. c.act.ensures.quiet (no_store (map string_bytes c.args.words.now) none)

pub returns-clause-retain : goal.returns-clause-retain
returns-clause-retain g c = retained (job_of (map string_bytes c.args.words.now)) _ c.act.ensures.retain

pub returns-clause-retained : goal.returns-clause-retained
returns-clause-retained g c = retained (job_of (map string_bytes c.args.words.now)) _ c.act.ensures.retained

pub returns-clause-together : goal.returns-clause-together
returns-clause-together g c = retained (job_of (map string_bytes c.args.words.now)) _ c.act.ensures.together

pub returns-clause-moved : goal.returns-clause-moved
returns-clause-moved g c = retained (job_of (map string_bytes c.args.words.now)) _ c.act.ensures.moved

pub returns-clause-kept : goal.returns-clause-kept
returns-clause-kept g c = retained (job_of (map string_bytes c.args.words.now)) _ c.act.ensures.kept

pub returns-clause-spare : goal.returns-clause-spare
returns-clause-spare g c = λ none. c.act.ensures.spare_quiet (no_spare (map string_bytes c.args.words.now) none)
