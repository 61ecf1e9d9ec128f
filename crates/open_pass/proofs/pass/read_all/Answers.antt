use Rattle.std.proofs.Common.{refl, sym, ap, subst, ◌∙◌}
use Rattle.std.specs.List.{AllByRecursion}
use Rattle.journal_model.specs.Header.{most_leaves}
use Rattle.jrnl_store.specs.Kept.{Kept, kept}
use Rattle.rebut_pass.specs.Items.{HasForm}
use Rattle.rebut_pass.proofs.ItemFacts.{held_forms}
use Rattle.rebut_pass.proofs.OnDisk.{reads_none, reads_both}
use Rattle.rebut_pass.proofs.Passes.{sofar_first, sofar_on, sofar_all}
use Rattle.open_pass.proofs.Lows.{all_low}
use Rattle.open_pass.proofs.pass.read_all.Goals as goal

pub loop-held-init : goal.loop-held-init
loop-held-init g c = record {
  told = sofar_first g.P.Pass.takes _ (kept c.args.journal.now) c.start-cursor.result c.args.pass.now c.start-cursor.ensures.left;
  low = c.start-cursor.ensures.cursor;
  most = refl;
  stays = refl;
  reads = reads_none g.D.Disk.seen g.D.Disk.may_leave g.D.Disk.moment g.D.Disk.left_since c.args.disk.now;
  faults = refl;
}

pub returns-in-Ok-None-clause-taken : goal.returns-in-Ok-None-clause-taken
returns-in-Ok-None-clause-taken g c =
    sofar_all g.P.Pass.takes _ _ (kept c.args.journal.now) (kept c.loop-held.journal) c.loop-held.cursor c.advance.new.cursor c.args.pass.now _ c.advance.new.self.buffer.items c.in-Ok-None.field-0 c.in-Ok-None.field-0-is c.loop-held.invariant.reads.same c.loop-held.invariant.stays c.loop-held.invariant.told c.in-Ok-None.ensures.answers

pub read_items-requires : goal.read_items-requires
read_items-requires g c = record {
  forms = subst (AllByRecursion HasForm) (sym c.items.ensures.value) (held_forms c.advance.new.self.buffer.items c.in-Ok-Some.held);
  low = all_low _ _ c.items.result (ap (λ (k : Kept). most_leaves k.key) (c.in-Ok-Some.ensures.kept ∙ c.loop-held.invariant.stays) ∙ sym (c.loop-held.invariant.most ∙ c.requires.most)) c.items.ensures.low;
}

pub loop-held-preserved : goal.loop-held-preserved
loop-held-preserved g c = record {
  told = sofar_on g.P.Pass.takes _ _ (kept c.args.journal.now) (kept c.loop-held.journal) c.loop-held.cursor c.advance.new.cursor c.args.pass.now c.loop-held.pass c.read_items.new.pass c.advance.new.self.buffer.items c.in-Ok-Some.field-0 c.in-Ok-Some.held c.items.result c.in-Ok-Some.field-0-is c.loop-held.invariant.reads.same c.loop-held.invariant.stays
      c.items.ensures.value c.in_default.ensures.taken c.loop-held.invariant.told c.in-Ok-Some.ensures.answers;
  low = c.in-Ok-Some.ensures.cursor;
  most = c.read_items.ensures.stays ∙ c.loop-held.invariant.most;
  stays = c.in-Ok-Some.ensures.kept ∙ c.loop-held.invariant.stays;
  reads = reads_both g.D.Disk.seen g.D.Disk.may_leave g.D.Disk.moment g.D.Disk.left_since c.args.disk.now c.loop-held.disk c.advance.new.disk c.loop-held.invariant.reads (record { same = c.in-Ok-Some.ensures.same; crash = c.in-Ok-Some.ensures.crash; later = c.in-Ok-Some.ensures.later; moments = c.in-Ok-Some.ensures.moments });
  faults = c.in-Ok-Some.ensures.faults ∙ c.loop-held.invariant.faults;
}
