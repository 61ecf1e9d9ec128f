use Rattle.std.proofs.Common.{refl}
use Rattle.std.specs.Prelude.{Err}
use Rattle.journal_export.specs.declared.fault.ExportFault.TheVariants as fault
use Rattle.export_command.specs.Outcomes.{asked}
use Rattle.export_command.proofs.Ending.{said_end, wanting}
use Rattle.export_command.proofs.command.export_entries.Goals as goal

pub returns-in-Err-clause-ends : goal.returns-in-Err-clause-ends
returns-in-Err-clause-ends g c =
    let a = asked c.args.from c.args.to c.args.segment.now in
    let s = c.refuse.ensures a in
    said_end a _ _ _ _ _ _ c.refuse.result (Err fault.NoMemory) (wanting a _ _ _ refl refl) s.0 s.1 s.2

pub returns-clause-ends : goal.returns-clause-ends
returns-clause-ends g c =
    let a = asked c.args.from c.args.to c.args.segment.now in
    let e = c.in-Err-export.ensures in
    let s = c.refuse-in-Err-export.ensures a in
    said_end a _ _ _ _ _ _ c.refuse-in-Err-export.result (Err c.in-Err-export.fault) (record { store_gives = e.answers; unwritten = e.unwritten; counts_disk = e.disk; counts_files = e.files }) s.0 s.1 s.2
