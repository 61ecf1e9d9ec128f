use Rattle.std.proofs.Common.{ℕ, ◌<◌, length, sym, ap, subst, ◌∙◌}
use Rattle.avm_model.specs.Memory.{RamState}
use Rattle.page_tree.specs.Nodes.{IsStale}
use Rattle.page_tree.proofs.Kept.{put_stale}
use Rattle.keep_judge.proofs.paged.put.Goals as goal

pub returns-then-page-pages-clause-stale : goal.returns-then-page-pages-clause-stale
returns-then-page-pages-clause-stale c = λ h nodes s.
    let low = subst (λ (n : ℕ). c.args.page.now.number < n) c.pages.ensures.value c.if-page-pages.true in
    subst (λ (r : RamState). IsStale h r nodes) (sym c.set_page.ensures) (put_stale h c.args.ram.now nodes c.as_page.result.now c.args.page.now.number c.pages.ensures.sizes (ap length c.as_page.ensures ∙ c.requires) low s)
