use Rattle.std.proofs.Common.{◌≤◌, ◌^◌, refl, arith, length, rules}
use Rattle.jrnl_store.specs.Kept.{kept}
use Rattle.jrnl_tests.proofs.Batches.{batch_told}
use Rattle.jrnl_tests.proofs.tests.saving.is_batch.Goals as goal

pub returns-clause-batch : goal.returns-clause-batch
returns-clause-batch c =
    let some : 1 ≤ length c.args.items.now = search rules in
    let few : length c.args.items.now ≤ 2 ^ 25 = search rules in
    batch_told (kept c.args.journal.now) _ _ c.args.items.now c.continued.result c.is_some-2.result c.is_some-2.ensures c.continued.ensures.value c.first.ensures c.page_count.ensures refl c.last.ensures.value refl some few
