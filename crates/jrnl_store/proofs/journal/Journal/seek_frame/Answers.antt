use Rattle.std.proofs.Common.{◌∙◌, sym, refl, arith}
use Rattle.jrnl_part.specs.Views.{bounds_view, standing_view}
use Rattle.jrnl_store.specs.Items.{held_items}
use Rattle.jrnl_store.specs.Kept.{kept}
use Rattle.jrnl_store.proofs.Framing.{sofar_first, sofar_on, frame_found, frame_none, of_number, found_here, not_here}
use Rattle.jrnl_store.proofs.ItemLaws.{nothing_given, nothing_whole}
use Rattle.jrnl_store.proofs.journal.Journal.seek_frame.Goals as goal

pub loop-held-init : goal.loop-held-init
loop-held-init g c = record {
  told = sofar_first _ (kept c.args.self.now) c.start-cursor.result _ c.start-cursor.ensures.left;
  low = c.start-cursor.ensures.cursor;
  stays = refl;
  same = refl;
  crash = λ image left. left;
  later = omega arith;
  moments = λ t image le left. left;
  faults = refl;
}

pub returns-in-Ok-None-clause-held : goal.returns-in-Ok-None-clause-held
returns-in-Ok-None-clause-held g c = record {
  few = omega arith;
  low = c.in-Ok-None.ensures.cursor;
  whole = nothing_whole (bounds_view c.advance.new.self.bounds) (standing_view c.advance.new.cursor.stand) _ refl (c.in-Ok-None.ensures.cursor).used;
}

pub returns-in-Ok-None-clause-frame : goal.returns-in-Ok-None-clause-frame
returns-in-Ok-None-clause-frame g c =
    of_number _ (kept c.args.self.now) c.seq-number.result _ _ c.seq-number.ensures (frame_none _ _ (kept c.args.self.now) (kept c.loop-held.self) c.loop-held.cursor c.advance.new.cursor c.seq-number.result c.advance.new.self.buffer.items c.in-Ok-None.field-0 _ (nothing_given (standing_view c.advance.new.cursor.stand)) c.in-Ok-None.field-0-is c.loop-held.invariant.same c.loop-held.invariant.stays c.loop-held.invariant.told c.in-Ok-None.ensures.answers)

pub returns-then-is_some-clause-frame : goal.returns-then-is_some-clause-frame
returns-then-is_some-clause-frame g c =
    let here = found_here c.seq-number.result (held_items c.advance.new.self.buffer.items c.in-Ok-Some.held) c.items.result c.find_frame.result c.items.ensures.value (sym c.is_some.ensures ∙ c.if-is_some.true) c.find_frame.ensures in
    of_number _ (kept c.args.self.now) c.seq-number.result _ _ c.seq-number.ensures (frame_found _ _ (kept c.args.self.now) (kept c.loop-held.self) c.loop-held.cursor c.advance.new.cursor c.seq-number.result c.advance.new.self.buffer.items c.in-Ok-Some.field-0 c.in-Ok-Some.held here.0 c.in-Ok-Some.field-0-is c.loop-held.invariant.same c.loop-held.invariant.stays here.1 c.loop-held.invariant.told c.in-Ok-Some.ensures.answers)

pub loop-held-preserved : goal.loop-held-preserved
loop-held-preserved g c = record {
  told = sofar_on _ _ (kept c.args.self.now) (kept c.loop-held.self) c.loop-held.cursor c.advance.new.cursor c.seq-number.result c.advance.new.self.buffer.items c.in-Ok-Some.field-0 c.in-Ok-Some.held c.in-Ok-Some.field-0-is c.loop-held.invariant.same c.loop-held.invariant.stays
      (not_here c.seq-number.result (held_items c.advance.new.self.buffer.items c.in-Ok-Some.held) c.items.result c.find_frame.result c.items.ensures.value (sym c.is_some.ensures ∙ c.if-is_some.false) c.find_frame.ensures) c.loop-held.invariant.told c.in-Ok-Some.ensures.answers;
  low = c.in-Ok-Some.ensures.cursor;
  stays = c.in-Ok-Some.ensures.kept ∙ c.loop-held.invariant.stays;
  same = c.in-Ok-Some.ensures.same ∙ c.loop-held.invariant.same;
  crash = λ image left. c.loop-held.invariant.crash image (c.in-Ok-Some.ensures.crash image left);
  later = omega (arith, c.loop-held.invariant.later, c.in-Ok-Some.ensures.later);
  moments = λ t image le left. c.loop-held.invariant.moments t image le (c.in-Ok-Some.ensures.moments t image (omega (arith, le, c.loop-held.invariant.later)) left);
  faults = c.in-Ok-Some.ensures.faults ∙ c.loop-held.invariant.faults;
}
