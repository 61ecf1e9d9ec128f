use Rattle.std.proofs.Common.{◌≡◌, ℕ, true, false, List, Option, length, sym, ap, subst, ◌∙◌}
use Rattle.avm_model.specs.HeadReading.{head_of}
use Rattle.jrnl_store.specs.Kept.{Kept, kept}
use Rattle.keep_judge.specs.Good.{pages_fit}
use Rattle.rebut_pass.proofs.OnDisk.{of_as}
use Rattle.base_build.specs.Judging.{is_other}
use Rattle.base_build.proofs.Builts.{built_told, none_told, store_as}
use Rattle.base_build.proofs.building.build.Goals as goal

pub returns-then-not-fits-clause-built : goal.returns-then-not-fits-clause-built
returns-then-not-fits-clause-built g c =
    let k = kept c.args.journal.now in
    none_told (g.D.Disk.seen c.args.disk.now) k c.args.at c.in-Ok.head.bytes
    (subst (λ (l : List ℕ). pages_fit k.bounds.pages (head_of l) ≡ false) c.bytes.ensures (subst (λ (n : ℕ). pages_fit n (head_of c.bytes.result.now) ≡ false) (c.page_count.ensures ∙ ap (λ (x : Kept). x.bounds.pages) c.in-Ok.ensures.kept) (sym c.if-not-fits.ensures.value)))
    c.in-Ok.ensures.head

pub returns-in-Ok-build_at-clause-built : goal.returns-in-Ok-build_at-clause-built
returns-in-Ok-build_at-clause-built g c =
    let told = g.D.Disk.seen c.args.disk.now in
    let k = kept c.args.journal.now in
    built_told told k c.args.at (length c.bytes-size.result.now) c.in-Ok.head.bytes c.in-Ok-judge.point c.in-Ok-build_at.base c.gated.result
    (subst (λ (l : List ℕ). pages_fit k.bounds.pages (head_of l) ≡ true) c.bytes.ensures (subst (λ (n : ℕ). pages_fit n (head_of c.bytes.result.now) ≡ true) (c.page_count.ensures ∙ ap (λ (x : Kept). x.bounds.pages) c.in-Ok.ensures.kept) (sym c.if-not-fits.ensures.value)))
    (subst (λ (m : Option ℕ). is_other m c.args.at ≡ false) (c.retired.ensures ∙ ap (λ (x : Kept). x.mark) c.in-Ok.ensures.kept) (sym c.if-is_other.ensures))
    (ap length c.bytes-size.ensures) c.in-Ok.ensures.head
    (of_as told _ k _ _ c.in-Ok.ensures.reads.same c.in-Ok.ensures.kept c.in-Ok-judge.ensures.judges)
    (store_as told _ k _ _ (c.in-Ok-judge.ensures.reads.same ∙ c.in-Ok.ensures.reads.same) (c.in-Ok-judge.ensures.kept ∙ c.in-Ok.ensures.kept) c.in-Ok-build_at.ensures.base) c.gated.ensures
