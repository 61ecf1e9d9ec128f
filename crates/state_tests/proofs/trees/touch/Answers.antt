use Rattle.std.proofs.Common.{◌≡◌, ℕ, length, replicate, arith}
use Rattle.std.proofs.lemmas.List.{length-replicate}
use Rattle.avm_model.specs.Pages.{sha_hashes}
use Rattle.page_tree.proofs.Kept.{put_stale}
use Rattle.state_tests.proofs.trees.touch.Goals as goal

pub returns-then-page-pages : goal.returns-then-page-pages
returns-then-page-pages c =
    let full : ℕ = 4096 in
    let byte : ℕ = 200 in
    let len : length (replicate full byte) ≡ full = length-replicate full byte in
    rw c.set_page.ensures (put_stale sha_hashes c.args.ram.now _ _ c.args.page c.pages.ensures.sizes len (omega arith) c.requires.stale)
