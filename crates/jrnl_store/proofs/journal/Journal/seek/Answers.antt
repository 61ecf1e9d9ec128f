use Rattle.std.proofs.Common.{ap, sym, ◌∙◌, ◌++◌, List}
use Rattle.jrnl_store.specs.Kept.{kept}
use Rattle.jrnl_store.specs.Items.{ItemData, snap_left}
use Rattle.jrnl_store.proofs.Seeking.{seek_ended, seek_found, seek_passed}
use Rattle.jrnl_store.proofs.journal.Journal.seek.Goals as goal

pub returns-in-Ok-None-clause-answers : goal.returns-in-Ok-None-clause-answers
returns-in-Ok-None-clause-answers g c =
    seek_ended _ (kept c.args.self.now) c.args.cursor.now c.next_parts.new.cursor c.args.number c.next_parts.new.self.buffer.items c.in-Ok-None.field-0 c.in-Ok-None.field-0-is c.in-Ok-None.ensures.answers

pub returns-in-Some-clause-answers : goal.returns-in-Some-clause-answers
returns-in-Some-clause-answers g c =
    seek_found _ (kept c.args.self.now) c.args.cursor.now c.next_parts.new.cursor c.args.number c.next_parts.new.self.buffer.items c.in-Ok-Some.field-0 c.in-Ok-Some.held c.in-Some.is_snap c.in-Ok-Some.field-0-is
    (λ rest. ap (λ (xs : List ItemData). snap_left c.args.number (xs ++ rest)) (sym c.items.ensures.value) ∙ c.in-Some.ensures rest) c.in-Ok-Some.ensures.answers

pub returns-in-None-clause-answers : goal.returns-in-None-clause-answers
returns-in-None-clause-answers g c =
    seek_passed _ (kept c.args.self.now) c.args.cursor.now c.next_parts.new.cursor c.args.number c.next_parts.new.self.buffer.items c.in-Ok-Some.field-0 c.in-Ok-Some.held c.in-Ok-Some.field-0-is
    (λ rest. ap (λ (xs : List ItemData). snap_left c.args.number (xs ++ rest)) (sym c.items.ensures.value) ∙ c.in-None.ensures rest) c.in-Ok-Some.ensures.answers
