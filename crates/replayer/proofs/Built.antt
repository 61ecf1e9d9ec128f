-- A tree that was just built can be renewed.
use Rattle.std.proofs.Common.{◌≡◌, ℕ, false, List, length, replicate, sym, subst, ◌∙◌}
use Rattle.std.proofs.lemmas.List.{length-replicate}
use Rattle.avm_model.specs.Machine.{MachineState}
use Rattle.avm_model.specs.Memory.{RamState}
use Rattle.avm_model.specs.Pages.{sha_hashes}
use Rattle.avm_model.specs.declared.Digest.{Digest}
use Rattle.page_tree.specs.Nodes.{IsTree, IsStale}
use Rattle.page_tree.proofs.Kept.{tree_stale}
use Rattle.replayer.specs.Pending.{ram_of}

pub built : (old new : RamState) (m : MachineState) (nodes : List Digest) → IsTree sha_hashes old.bytes (length old.dirty) nodes → new ≡ record old { dirty = replicate (length old.dirty) false } → ram_of m ≡ new → IsStale sha_hashes (ram_of m) nodes
built old new m nodes t e is =
    let all : ram_of m ≡ record { bytes = old.bytes; dirty = replicate (length old.dirty) false } = is ∙ e in
    let tree : IsTree sha_hashes old.bytes (length (replicate (length old.dirty) false)) nodes =
    subst (λ (n : ℕ). IsTree sha_hashes old.bytes n nodes) (sym (length-replicate (length old.dirty) false)) t in
    subst (λ (r : RamState). IsStale sha_hashes r nodes) (sym all)
    (tree_stale sha_hashes (record { bytes = old.bytes; dirty = replicate (length old.dirty) false }) nodes tree)
