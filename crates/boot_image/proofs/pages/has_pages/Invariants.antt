use Rattle.boot_image.proofs.Paged.{Same}
use Rattle.boot_image.proofs.pages.has_pages.Given as goal

abbrev pub invariant-loop-i : goal.invariant-loop-i
invariant-loop-i l = Same l.ram.bytes l.pages l.i
