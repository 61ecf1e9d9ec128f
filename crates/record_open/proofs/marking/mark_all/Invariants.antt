use Rattle.std.proofs.Common.{◌≡◌, length}
use Rattle.record_open.proofs.Pages.{Sofar}
use Rattle.record_open.proofs.marking.mark_all.Given as goal

abbrev pub invariant-loop-i : goal.invariant-loop-i
invariant-loop-i l = record {
  sofar : Sofar l.fn.other.bytes l.fn.ram l.ram l.i;
  same : length l.ram.dirty ≡ length l.fn.ram.dirty;
}
