use Rattle.std.proofs.Common.{refl, ◌∙◌}
use Rattle.record_open.proofs.Pages.{sofar_next, sofar_none}
use Rattle.record_open.proofs.marking.mark_all.Goals as goal

pub loop-i-init : goal.loop-i-init
loop-i-init c = record { sofar = sofar_none c.args.other.now.bytes c.args.ram.now; same = refl }

pub loop-i-preserved : goal.loop-i-preserved
loop-i-preserved c = record {
  sofar = sofar_next c.args.other.now.bytes c.args.ram.now c.loop-i.ram c.mark.new.ram c.loop-i.i c.mark.ensures.bytes c.mark.ensures.marks c.mark.ensures.page c.loop-i.invariant.sofar;
  same = c.mark.ensures.marks.pages ∙ c.loop-i.invariant.same;
}
