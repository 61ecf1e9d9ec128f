use Rattle.std.proofs.Common.{◌≡◌, ◌^◌, ◌-◌, length, IfSome}
use Rattle.journal_model.specs.Journal.{longest_record}
use Rattle.rebut_pass.specs.Reads.{OnlyReads}
use Rattle.base_records.proofs.Steps.{Going}
use Rattle.base_records.proofs.reading.walk.Given as goal

abbrev pub invariant-loop-at : goal.invariant-loop-at
invariant-loop-at g l = record {
  going : IfSome (g.D.Disk.seen l.fn.disk) (Going l.fn.number l.fn.at l.at l.records.found l.records.bytes.items);
  room : length l.room ≡ longest_record;
  reads : OnlyReads g.D.Disk.seen g.D.Disk.may_leave g.D.Disk.moment g.D.Disk.left_since l.fn.disk l.disk;
  faults : g.D.Disk.faults l.disk ≡ g.D.Disk.faults l.fn.disk;
}

abbrev pub decreases-loop-at : goal.decreases-loop-at
decreases-loop-at g l = 2 ^ 30 - l.at
