use Rattle.std.proofs.Common.{◌≡◌, ◌++◌, ℕ, List, Err, ap, sym, subst, ◌∙◌, append_assoc, rules}
use Rattle.jrnl_store.specs.Items.{item_view}
use Rattle.command_parts.specs.Printing.{PrintsAll}
use Rattle.command_parts.proofs.Joined.{prints_on, fault_on}
use Rattle.list_command.specs.Listing.{item_lines, items_lines}
use Rattle.list_command.proofs.printing.print_record.Goals as goal

pub returns-in-Err : goal.returns-in-Err
returns-in-Err g c =
    let said = c.loop-item.invariant.printed.0 in
    let more = item_lines (item_view c.in-Some.item) in
    let rest = items_lines c.next.new.self in
    let all : items_lines c.loop-item.left ≡ more ++ rest = ap items_lines c.in-Some.ensures.steps in
    let whole = ap (λ (l : List (List ℕ)). said ++ l) (sym all) ∙ c.loop-item.invariant.printed.1 in
    subst (λ (l : List (List ℕ)). PrintsAll l (Err c.in-Err.fault) (g.S.Sink.faults c.args.out.now) (g.S.Sink.faults c.print_item.new.out) (g.S.Sink.written c.args.out.now) (g.S.Sink.written c.print_item.new.out)) whole
    (fault_on said more rest c.in-Err.fault _ _ _ _ _ _ c.loop-item.invariant.printed.2 c.in-Err.ensures)

pub loop-item-preserved : goal.loop-item-preserved
loop-item-preserved g c =
    let said = c.loop-item.invariant.printed.0 in
    let more = item_lines (item_view c.in-Some.item) in
    let rest = items_lines c.next.new.self in
    let all : items_lines c.loop-item.left ≡ more ++ rest = ap items_lines c.in-Some.ensures.steps in
    let whole = ap (λ (l : List (List ℕ)). said ++ l) (sym all) ∙ c.loop-item.invariant.printed.1 in
    record {
      can = search rules;
      printed = (said ++ more, append_assoc said more rest ∙ whole, prints_on said more _ _ _ _ _ _ c.loop-item.invariant.printed.2 c.in_default-print_item.ensures);
    }
