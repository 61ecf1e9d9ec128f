use Rattle.std.proofs.Common.{◌≡◌, ◌*◌, ◌-◌, ◌≤◌, length, drop}
use Rattle.avm_num.specs.Lists.{list_bytes}
use Rattle.avm_num.specs.Room.{left, with_bytes}
use Rattle.record_batch.specs.Keeping.{marked_from, page_bytes}
use Rattle.record_batch.proofs.keeping.put_pages.Given as goal

abbrev pub invariant-loop-i : goal.invariant-loop-i
invariant-loop-i l = record {
  spelled : with_bytes l.room (list_bytes page_bytes (marked_from l.i (drop l.i l.marks) l.ram.bytes)) ≡ with_bytes l.fn.room (list_bytes page_bytes (marked_from 0 l.marks l.ram.bytes));
  room : 4100 * (length l.marks - l.i) ≤ left l.room;
}
