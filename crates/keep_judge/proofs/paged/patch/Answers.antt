use Rattle.std.proofs.Common.{ℕ, ◌<◌, length, sym, subst, ◌∙◌}
use Rattle.avm_num.specs.Walk.{items_of}
use Rattle.journal_model.specs.Part.{page_at}
use Rattle.journal_model.proofs.Parts.{page_short}
use Rattle.jrnl_part.specs.Views.{page_view}
use Rattle.keep_judge.proofs.Patching.{page_sized, patched_next, patched_all}
use Rattle.keep_judge.proofs.paged.patch.Goals as goal

pub put-requires : goal.put-requires
put-requires c = page_sized c.loop-page.view (page_view c.in-Some.page) c.take_page.new.view c.in-Some.ensures

pub loop-page-smaller : goal.loop-page-smaller
loop-page-smaller c = page_short _ _ c.in-Some.ensures

pub loop-page-preserved : goal.loop-page-preserved
loop-page-preserved c = record {
  patched = λ ascend.
      patched_next (length c.args.ram.now.dirty) c.args.ram.now.bytes c.loop-page.ram.bytes c.put.new.ram.bytes (items_of page_at c.args.pages.now) c.loop-page.view c.take_page.new.view (page_view c.in-Some.page) c.in-Some.ensures
      (λ low. c.put.ensures.bytes (subst (λ (n : ℕ). c.in-Some.page.number < n) (sym c.loop-page.invariant.count) low)) (c.loop-page.invariant.patched ascend);
  count = c.put.ensures.count ∙ c.loop-page.invariant.count;
  stale = λ h nodes s. c.put.ensures.stale h nodes (c.loop-page.invariant.stale h nodes s);
}

pub returns-clause-bytes : goal.returns-clause-bytes
returns-clause-bytes c = λ ascend. patched_all (length c.args.ram.now.dirty) c.args.ram.now.bytes c.loop-page.ram.bytes (items_of page_at c.args.pages.now) c.loop-page.view c.in_default.ensures.0 (c.loop-page.invariant.patched ascend)
