use Rattle.std.proofs.Common.{◌∙◌, ◌++◌, [], refl, arith}
use Rattle.command_parts.proofs.Joined.{prints_on}
use Rattle.command_parts.proofs.Printed.{prints_none}
use Rattle.jrnl_store.specs.Kept.{kept}
use Rattle.list_command.specs.Listing.{items_lines}
use Rattle.list_command.proofs.Telling.{lists_first, lists_on, lists_end, record_fault}
use Rattle.list_command.proofs.listing.print_items.Goals as goal

pub loop-held-init : goal.loop-held-init
loop-held-init g c = record {
  printed = ([], lists_first _ (kept c.args.journal.now) c.start-cursor.result c.start-cursor.ensures.left, prints_none _ _);
  low = c.start-cursor.ensures.cursor;
  stays = refl;
  same = refl;
  crash = λ image left. left;
  later = omega arith;
  moments = λ t image le left. left;
  faults = refl;
}

pub returns-in-Ok-None-clause-lines : goal.returns-in-Ok-None-clause-lines
returns-in-Ok-None-clause-lines g c =
    let i = c.loop-held.invariant.printed in (
      i.0,
      lists_end _ _ (kept c.args.journal.now) (kept c.loop-held.journal) c.loop-held.cursor c.advance.new.cursor i.0 c.advance.new.self.buffer.items c.in-Ok-None.field-0 c.in-Ok-None.field-0-is c.loop-held.invariant.same c.loop-held.invariant.stays i.1 c.in-Ok-None.ensures.answers,
      i.2,
    )

pub returns-in-Err-print_record-clause-lines : goal.returns-in-Err-print_record-clause-lines
returns-in-Err-print_record-clause-lines g c =
    let i = c.loop-held.invariant.printed in
    let lists = lists_on _ _ (kept c.args.journal.now) (kept c.loop-held.journal) c.loop-held.cursor c.advance.new.cursor i.0 c.advance.new.self.buffer.items c.in-Ok-Some.field-0 c.in-Ok-Some.held c.items.result c.items.ensures.value c.in-Ok-Some.field-0-is c.loop-held.invariant.same c.loop-held.invariant.stays i.1 c.in-Ok-Some.ensures.answers in
    record_fault _ (kept c.args.journal.now) c.advance.new.cursor i.0 (items_lines c.items.result) c.in-Err-print_record.fault _ _ _ _ _ _ lists i.2 c.in-Err-print_record.ensures

pub loop-held-preserved : goal.loop-held-preserved
loop-held-preserved g c =
    let i = c.loop-held.invariant.printed in
    let lists = lists_on _ _ (kept c.args.journal.now) (kept c.loop-held.journal) c.loop-held.cursor c.advance.new.cursor i.0 c.advance.new.self.buffer.items c.in-Ok-Some.field-0 c.in-Ok-Some.held c.items.result c.items.ensures.value c.in-Ok-Some.field-0-is c.loop-held.invariant.same c.loop-held.invariant.stays i.1 c.in-Ok-Some.ensures.answers in
    record {
      printed = (i.0 ++ items_lines c.items.result, lists, prints_on i.0 (items_lines c.items.result) _ _ _ _ _ _ i.2 c.in_default.ensures);
      low = c.in-Ok-Some.ensures.cursor;
      stays = c.in-Ok-Some.ensures.kept ∙ c.loop-held.invariant.stays;
      same = c.in-Ok-Some.ensures.same ∙ c.loop-held.invariant.same;
      crash = λ image left. c.loop-held.invariant.crash image (c.in-Ok-Some.ensures.crash image left);
      later = omega (arith, c.loop-held.invariant.later, c.in-Ok-Some.ensures.later);
      moments = λ t image le left. c.loop-held.invariant.moments t image le (c.in-Ok-Some.ensures.moments t image (omega (arith, le, c.loop-held.invariant.later)) left);
      faults = c.in-Ok-Some.ensures.faults ∙ c.loop-held.invariant.faults;
    }
