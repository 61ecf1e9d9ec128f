use Rattle.std.proofs.Common.{◌≡◌, true, length, List}
use Rattle.avm_num.specs.Walk.{items_of}
use Rattle.avm_model.specs.Pages.{Hashes}
use Rattle.avm_model.specs.declared.Digest.{Digest}
use Rattle.journal_model.specs.Journal.{pages_ascend}
use Rattle.journal_model.specs.Part.{page_at}
use Rattle.page_tree.specs.Nodes.{IsStale}
use Rattle.keep_judge.proofs.Patching.{Patched}
use Rattle.keep_judge.proofs.paged.patch.Given as goal

abbrev pub invariant-loop-page : goal.invariant-loop-page
invariant-loop-page l = record {
  patched : pages_ascend 0 (length l.fn.ram.dirty) (items_of page_at l.fn.pages) ≡ true → Patched (length l.fn.ram.dirty) l.fn.ram.bytes l.ram.bytes (items_of page_at l.fn.pages) (items_of page_at l.view);
  count : length l.ram.dirty ≡ length l.fn.ram.dirty;
  stale : (h : Hashes) (nodes : List Digest) → IsStale h l.fn.ram nodes → IsStale h l.ram nodes;
}

abbrev pub decreases-loop-page : goal.decreases-loop-page
decreases-loop-page l = length l.view
