use Rattle.std.proofs.Common.{◌≡◌, ℕ, false, sym, subst, ◌∙◌}
use Rattle.avm_model.specs.HeadReading.{head_of}
use Rattle.jrnl_store.specs.Kept.{Kept, kept}
use Rattle.jrnl_store.specs.Own.{AreKept}
use Rattle.keep_judge.specs.Good.{pages_fit}
use Rattle.rebut_pass.proofs.OnDisk.{of_whole}
use Rattle.journal_export.proofs.Judged.{no_head}
use Rattle.journal_export.proofs.judging.judge.Goals as goal

pub returns-then-not-fits-clause-judges : goal.returns-then-not-fits-clause-judges
returns-then-not-fits-clause-judges g c =
    of_whole (g.D.Disk.seen c.args.disk.now) (kept c.args.journal.now) _ _ (λ j fits keeps same.
    no_head (kept c.header_head.new.journal) j c.bytes.result.now (subst (λ (x : Kept). AreKept x j) (sym c.in-Ok.ensures.kept) keeps) (c.bytes.ensures ∙ same) (subst (λ (n : ℕ). pages_fit n (head_of c.bytes.result.now) ≡ false) c.page_count.ensures (sym c.if-not-fits.ensures.value))) c.in-Ok.ensures.head
