use Rattle.std.proofs.Common.{ℕ, refl, sym, subst, ◌∙◌}
use Rattle.avm_model.specs.Pages.{sha_hashes}
use Rattle.page_tree.proofs.Kept.{stale_kept}
use Rattle.open_pass.specs.Tickets.{rows_in}
use Rattle.record_kept.specs.Tickets.{AreLow}
use Rattle.record_parts.specs.Outs.{ram_in}
use Rattle.record_open.proofs.Opened.{desk_is, few_entries}
use Rattle.record_open.proofs.opening.desk.Goals as goal

pub invariant_of-result : goal.invariant_of-result
invariant_of-result c =
    let set = c.if-not-settle.ensures.yes in
    let marks = c.settle.ensures.marks in
    record {
      fits = c.none.ensures.fits;
      pages = c.in_ok-drafts.ensures ∙ sym set.count;
      count = set.count ∙ c.page_count-pages.ensures;
      stale = stale_kept sha_hashes (ram_in c.into_parts-machine.result.0) (ram_in c.settle.new.machine) c.into_parts-machine.result.1 marks.pages marks.clean marks.same c.into_parts-machine.ensures.stale;
      low = subst (λ (n : ℕ). AreLow n (rows_in c.args.read.tickets.kept)) c.requires.most c.args.read.tickets.low;
      leaves = c.requires.leaves;
    }

pub returns-clause-desk : goal.returns-clause-desk
returns-clause-desk c = λ j fits kept r none. desk_is j c.args.read _ c.page_count-pages.result fits (few_entries c.args.journal j kept) none (c.settle.ensures.state ∙ c.into_parts-machine.ensures.state) c.if-not-settle.ensures.yes refl refl r
