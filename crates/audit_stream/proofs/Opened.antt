-- The course of a head, before any page.
use Rattle.std.proofs.Common.{◌≡◌, ℕ, ◌*◌, IsTrue, false, List, [], length, replicate, Some, None, refl, sym, ap, subst, ◌∙◌}
use Rattle.std.proofs.lemmas.List.{length-replicate}
use Rattle.avm_model.specs.Head.{HeadData}
use Rattle.avm_model.specs.HeadReading.{head_of}
use Rattle.avm_model.specs.HeadState.{state_of}
use Rattle.avm_model.specs.Machine.{MachineState}
use Rattle.avm_model.specs.Memory.{RamState, is_page_count}
use Rattle.avm_model.specs.Pages.{sha_hashes}
use Rattle.avm_model.specs.declared.Digest.{Digest}
use Rattle.page_tree.specs.Nodes.{IsTree, IsStale}
use Rattle.page_tree.proofs.Kept.{tree_stale}
use Rattle.replayer.specs.Pending.{ram_of}
use Rattle.avm_model.proofs.HeadBounds.{bounded, head_bounded}
use Rattle.audit_stream.specs.Course.{IsCourse}

pub pages_count : (head : List ℕ) (h : HeadData) → head_of head ≡ Some h → IsTrue (is_page_count h.front.pages)
pages_count head h e = (bounded h (head_bounded head h e)).pages

-- RAM of zeros, all pages clean
pub record IsBlank (n : ℕ) (ram built : RamState) : Type 0 where
  pub same : built.bytes ≡ ram.bytes
  pub size : length built.bytes ≡ 4096 * n
  pub marks : length built.dirty ≡ n
  pub kept : length ram.dirty ≡ length built.dirty

pub blank_is : (n : ℕ) (ram built : RamState) → ram ≡ record { bytes = replicate (4096 * n) 0; dirty = replicate n false } → built ≡ record ram { dirty = replicate (length ram.dirty) false } → IsBlank n ram built
blank_is n ram built a b =
    let size : length ram.bytes ≡ 4096 * n = ap (λ (r : RamState). length r.bytes) a ∙ length-replicate (4096 * n) 0 in
    let marks : length ram.dirty ≡ n = ap (λ (r : RamState). length r.dirty) a ∙ length-replicate n false in
    let same : built.bytes ≡ ram.bytes = ap (λ (r : RamState). r.bytes) b in
    let new : length built.dirty ≡ length ram.dirty = ap (λ (r : RamState). length r.dirty) b ∙ length-replicate (length ram.dirty) false in
    record { same = same; size = ap length same ∙ size; marks = new ∙ marks; kept = sym new }

pub blank_stale : (h : HeadData) (n : ℕ) (ram built : RamState) (m : MachineState) (nodes : List Digest) → IsBlank n ram built → m ≡ record { state = state_of h built.bytes; dirty = built.dirty } → IsTree sha_hashes ram.bytes (length ram.dirty) nodes → IsStale sha_hashes (ram_of m) nodes
blank_stale h n ram built m nodes is e tree =
    let bytes : ram.bytes ≡ m.state.ram = sym (ap (λ (x : MachineState). x.state.ram) e ∙ is.same) in
    let marks : length ram.dirty ≡ length m.dirty = is.kept ∙ sym (ap (λ (x : MachineState). length x.dirty) e) in
    tree_stale sha_hashes (ram_of m) nodes (subst (λ (k : ℕ). IsTree sha_hashes m.state.ram k nodes) marks (subst (λ (b : List ℕ). IsTree sha_hashes b (length ram.dirty) nodes) bytes tree))

pub blank_course : (h : HeadData) (n : ℕ) (ram built : RamState) (m : MachineState) (nodes : List Digest) → n ≡ h.front.pages → IsBlank n ram built → m ≡ record { state = state_of h built.bytes; dirty = built.dirty }
    → IsCourse (record { loading = Some (record { machine = m; nodes = nodes }); replay = None; committed = false; fault = None }) h [] []
blank_course h n ram built m nodes count is e =
    let bytes : m.state.ram ≡ built.bytes = ap (λ (x : MachineState). x.state.ram) e in (
      record { machine = m; nodes = nodes },
      refl,
      record {
        state = ap (λ (x : MachineState). x.state) e ∙ ap (state_of h) (sym bytes);
        front = refl;
        size = ap length bytes ∙ is.size ∙ ap (λ (k : ℕ). 4096 * k) count;
        marks = ap (λ (x : MachineState). length x.dirty) e ∙ is.marks ∙ count;
      },
      refl,
    )
