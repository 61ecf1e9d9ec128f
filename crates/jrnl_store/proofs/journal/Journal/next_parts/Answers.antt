use Rattle.std.proofs.Common.{refl, arith, sym, subst, ◌+◌}
use Rattle.journal_model.specs.Standing.{IsLow}
use Rattle.jrnl_part.specs.Views.{standing_view, bounds_view}
use Rattle.jrnl_store.specs.Kept.{Kept, kept}
use Rattle.jrnl_store.specs.Items.{held_items}
use Rattle.jrnl_store.proofs.Given.{told_none, told_refused, told_mark, told_parts, is_whole, size_few}
use Rattle.jrnl_store.proofs.journal.Journal.next_parts.Goals as goal

pub returns-in-Ok-None-clause-answers : goal.returns-in-Ok-None-clause-answers
returns-in-Ok-None-clause-answers g c = told_none _ (kept c.args.self.now) c.args.cursor.now c.next_record.new.self.buffer.items c.in-Ok-None.field-0 c.in-Ok-None.field-0-is c.in-Ok-None.ensures.answers

pub returns-in-Err-clause-answers : goal.returns-in-Err-clause-answers
returns-in-Err-clause-answers g c = told_refused (held_items c.next_record.new.self.buffer.items) _ (kept c.args.self.now) c.args.cursor.now c.args.cursor.now c.next_record.new.self.buffer.items c.in-Err.fault c.in-Err.ensures.answers

pub returns-in_default-clause-answers : goal.returns-in_default-clause-answers
returns-in_default-clause-answers g c =
    told_mark (kept c.args.self.now) (kept c.next_record.new.self) c.args.cursor.now c.next_record.new.self.buffer.items c.in-Ok-Some.field-0 c.in-Ok-Some.size c.in-Ok-Some.field-0-is c.next_record.ensures.kept _ (sym c.in_default.ensures.value) c.in-Ok-Some.ensures.answers

pub returns-clause-held : goal.returns-clause-held
returns-clause-held g c = record {
  few = size_few c.in-Ok-Some.field-0 c.in-Ok-Some.size c.args.cursor.now.place c.in-Ok-Some.field-0-is c.in-Ok-Some.ensures.size;
  low = subst (λ (x : Kept). IsLow x.bounds (standing_view c.args.cursor.now.stand)) (sym c.next_record.ensures.kept) c.requires.cursor;
  whole = is_whole (bounds_view c.next_record.new.self.bounds) (standing_view c.args.cursor.now.stand) (standing_view c.in-Some.stand) _ (sym c.in-Some.ensures.value);
}

pub returns-clause-answers : goal.returns-clause-answers
returns-clause-answers g c =
    told_parts (kept c.args.self.now) (kept c.next_record.new.self) c.args.cursor.now c.next_record.new.self.buffer.items c.in-Ok-Some.field-0 c.in-Ok-Some.size c.in-Ok-Some.field-0-is c.next_record.ensures.kept _ (record { carried = c.args.cursor.now.carried; place = c.args.cursor.now.place + (5 + c.in-Ok-Some.size); stand = c.in-Some.stand }) (standing_view c.in-Some.stand) (omega arith) refl (sym c.in-Some.ensures.value) c.in-Ok-Some.ensures.answers
