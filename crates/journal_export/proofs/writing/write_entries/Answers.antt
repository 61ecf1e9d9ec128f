use Rattle.std.proofs.Common.{refl, sym, subst, ◌∙◌}
use Rattle.std.specs.List.{AllByRecursion}
use Rattle.jrnl_store.specs.Kept.{kept}
use Rattle.rebut_pass.specs.Items.{HasForm}
use Rattle.rebut_pass.proofs.ItemFacts.{held_forms}
use Rattle.rebut_pass.proofs.OnDisk.{reads_none, reads_both}
use Rattle.rebut_pass.proofs.Passes.{sofar_first, sofar_on, sofar_all}
use Rattle.journal_export.specs.Writing.{Writes}
use Rattle.journal_export.proofs.writing.write_entries.Goals as goal

pub loop-held-init : goal.loop-held-init
loop-held-init g c = record {
  told = sofar_first Writes _ (kept c.args.journal.now) c.start-cursor.result _ c.start-cursor.ensures.left;
  low = c.start-cursor.ensures.cursor;
  stays = refl;
  reads = reads_none g.D.Disk.seen g.D.Disk.may_leave g.D.Disk.moment g.D.Disk.left_since c.args.disk.now;
  others = λ n ne. refl;
  faults = refl;
  counts = refl;
}

pub returns-in-Ok-None-clause-writes : goal.returns-in-Ok-None-clause-writes
returns-in-Ok-None-clause-writes g c =
    sofar_all Writes _ _ (kept c.args.journal.now) (kept c.loop-held.journal) c.loop-held.cursor c.advance.new.cursor _ _ c.advance.new.self.buffer.items c.in-Ok-None.field-0 c.in-Ok-None.field-0-is c.loop-held.invariant.reads.same c.loop-held.invariant.stays c.loop-held.invariant.told c.in-Ok-None.ensures.answers

pub write_items-requires : goal.write_items-requires
write_items-requires g c = record { forms = subst (AllByRecursion HasForm) (sym c.items.ensures.value) (held_forms c.advance.new.self.buffer.items c.in-Ok-Some.held) }

pub loop-held-preserved : goal.loop-held-preserved
loop-held-preserved g c = record {
  told = sofar_on Writes _ _ (kept c.args.journal.now) (kept c.loop-held.journal) c.loop-held.cursor c.advance.new.cursor _ _ _ c.advance.new.self.buffer.items c.in-Ok-Some.field-0 c.in-Ok-Some.held c.items.result c.in-Ok-Some.field-0-is c.loop-held.invariant.reads.same c.loop-held.invariant.stays
      c.items.ensures.value c.in_default.ensures.writes c.loop-held.invariant.told c.in-Ok-Some.ensures.answers;
  low = c.in-Ok-Some.ensures.cursor;
  stays = c.in-Ok-Some.ensures.kept ∙ c.loop-held.invariant.stays;
  reads = reads_both g.D.Disk.seen g.D.Disk.may_leave g.D.Disk.moment g.D.Disk.left_since c.args.disk.now c.loop-held.disk c.advance.new.disk c.loop-held.invariant.reads (record { same = c.in-Ok-Some.ensures.same; crash = c.in-Ok-Some.ensures.crash; later = c.in-Ok-Some.ensures.later; moments = c.in-Ok-Some.ensures.moments });
  others = λ n ne. c.write_items.ensures.others n ne ∙ c.loop-held.invariant.others n ne;
  faults = c.in-Ok-Some.ensures.faults ∙ c.loop-held.invariant.faults;
  counts = c.in_default.ensures.faults ∙ c.loop-held.invariant.counts;
}
