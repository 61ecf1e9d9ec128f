-- The leaves of eight neighbouring pages, made one after another from the last.
use Rattle.std.proofs.Common.{◌≡◌, ℕ, zero, suc, ◌+◌, ◌-◌, ◌<◌, ◌≤◌, Bool, true, false, List, length, get_or, refl, sym, ap, ◌∙◌, arith, slice_set}
use Rattle.std.proofs.lemmas.Bool.{le-ltb}
use Rattle.avm_model.specs.Memory.{RamState}
use Rattle.avm_model.specs.declared.Digest.{Digest}
use Rattle.avm_model.specs.Pages.{Hashes, page_of}
use Rattle.page_tree.specs.Nodes.{due, touched, marked, Renewing, Building, leaves_from}
use Rattle.page_tree.proofs.Renewals.{step, count_step, build_step}

-- leaf i of those from page f on
pub leaf_at : (h : Hashes) (pages : List ℕ) (f n i : ℕ) (d : Digest) → i < n → get_or (leaves_from h pages f n) i d ≡ h.leaf (page_of pages (f + i))
unfolding leaves_from
leaf_at h pages f zero i d lt = absurd (omega arith)
leaf_at h pages f (suc n) zero d lt =
    let e : f ≡ f + 0 = omega arith in
    ap (λ (k : ℕ). h.leaf (page_of pages k)) e
leaf_at h pages f (suc n) (suc i) d lt =
    let e : f + 1 + i ≡ f + suc i = omega arith in
    leaf_at h pages (f + 1) n i d (omega arith) ∙ ap (λ (k : ℕ). h.leaf (page_of pages k)) e

pub leaf_first : (h : Hashes) (pages : List ℕ) (n i : ℕ) (d : Digest) → i < n → get_or (leaves_from h pages 0 n) i d ≡ h.leaf (page_of pages i)
leaf_first h pages n i d lt =
    let e : 0 + i ≡ i = omega arith in
    leaf_at h pages 0 n i d lt ∙ ap (λ (k : ℕ). h.leaf (page_of pages k)) e

-- the leaf of dirty page i, at place p
pub leaf_step : (h : Hashes) (ram : RamState) (nodes : List Digest) (marks : List Bool) (x : Digest) (i p q to : ℕ) → 0 < p → p ≡ length ram.dirty + i → q ≡ p + 1 → to ≡ p
    → get_or ram.dirty i false ≡ true → x ≡ h.leaf (page_of ram.bytes i) → Renewing h ram nodes marks q → Renewing h ram (slice_set nodes p x) (slice_set marks p true) to
leaf_step h ram nodes marks x i p q to pos place next same dirty is r =
    let n = length ram.dirty in
    let past : n ≤ p = omega arith in
    let back : p - n ≡ i = omega arith in
    let t : touched ram.dirty marks p ≡ true = rw (le-ltb p n past, back) dirty in
    let d : due h ram.bytes n nodes p ≡ x = rw (le-ltb p n past, back) (sym is) in
    rw same (step h ram nodes (slice_set nodes p x) marks (slice_set marks p true) p q pos next r (rw (t, d) refl) (rw t refl))

-- the same, in a tree that is built
pub leaf_built : (h : Hashes) (bytes : List ℕ) (n : ℕ) (nodes : List Digest) (x : Digest) (i p q to : ℕ) → 0 < p → p ≡ n + i → q ≡ p + 1 → to ≡ p
    → x ≡ h.leaf (page_of bytes i) → Building h bytes n nodes q → Building h bytes n (slice_set nodes p x) to
leaf_built h bytes n nodes x i p q to pos place next same is r =
    let past : n ≤ p = omega arith in
    let back : p - n ≡ i = omega arith in
    let d : due h bytes n nodes p ≡ x = rw (le-ltb p n past, back) (sym is) in
    rw (same, ← d) (build_step h bytes n nodes p q pos next r)

-- the count of a leaf that is renewed
pub leaf_count : (marks : List Bool) (p q to whole before start : ℕ) → q ≡ p + 1 → to ≡ p → p < length marks → p < whole → before ≡ start + marked marks q (whole - q)
    → before + 1 ≡ start + marked (slice_set marks p true) to (whole - to)
leaf_count marks p q to whole before start next same inside low e =
    rw same (count_step marks (slice_set marks p true) p q whole before (before + 1) start true next inside low refl e refl)
