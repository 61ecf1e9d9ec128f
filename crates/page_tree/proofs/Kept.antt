-- A tree may be kept while pages are written: it stays what a renewal needs, as long as each page whose bytes changed is dirty.
use Rattle.std.proofs.Common.{◌≡◌, ℕ, ◌+◌, ◌-◌, ◌*◌, ◌<◌, Bool, true, false, ltb, List, ◌++◌, length, get_or, take, drop, slice_set, refl, sym, ap, subst, ◌∙◌, arith, lt-ltb, inl, inr}
use Rattle.std.proofs.lemmas.Bool.{le-ltb, cases_lt}
use Rattle.std.proofs.lemmas.List.{drop-take, length-take-le, length-append, take-append-le, take-take, length-set, get_or-set_same, get_or-set_other}
use Rattle.std.proofs.lemmas.Slice.{drop-append-drop}
use Rattle.avm_model.specs.declared.Digest.{Digest}
use Rattle.avm_model.specs.Memory.{RamState, IsRam, put_page}
use Rattle.avm_model.specs.Pages.{Hashes, page_of}
use Rattle.page_tree.specs.Nodes.{at, IsTree, IsStale}

-- the tree of a RAM is one, whatever is dirty
pub tree_stale : (h : Hashes) (ram : RamState) (nodes : List Digest) → IsTree h ram.bytes (length ram.dirty) nodes → IsStale h ram nodes
tree_stale h ram nodes t = record {
  len = t.len;
  inner = λ i pos lt. t.each i pos (omega arith) ∙ rw (lt-ltb i (length ram.dirty) lt) refl;
  leaves = λ f lt clean.
      let off : ltb (length ram.dirty + f) (length ram.dirty) ≡ false = le-ltb _ _ (omega arith) in
      let place : length ram.dirty + f - length ram.dirty ≡ f = omega arith in
      t.each (length ram.dirty + f) (omega arith) (omega arith) ∙ rw (off, place) refl;
}

-- each page that is clean now was clean before, and has the bytes that it had
pub stale_kept : (h : Hashes) (old new : RamState) (nodes : List Digest) → length new.dirty ≡ length old.dirty
    → ((f : ℕ) → f < length new.dirty → get_or new.dirty f false ≡ false → get_or old.dirty f false ≡ false)
    → ((f : ℕ) → f < length new.dirty → get_or new.dirty f false ≡ false → page_of new.bytes f ≡ page_of old.bytes f)
    → IsStale h old nodes → IsStale h new nodes
stale_kept h old new nodes e clean same s = record {
  len = s.len ∙ ap (λ (n : ℕ). 2 * n) (sym e);
  inner = λ i pos lt. s.inner i pos (omega (arith, e, lt));
  leaves = λ f lt c. ap (λ (n : ℕ). at nodes (n + f)) e ∙ s.leaves f (omega (arith, e, lt)) (clean f lt c) ∙ ap h.leaf (sym (same f lt c));
}

-- a page that is put changes no other page
put_other : (bytes page : List ℕ) (i f n : ℕ) → length page ≡ 4096 → length bytes ≡ 4096 * n → i < n → f < n → (f ≡ i → ⊥) → page_of (put_page bytes i page) f ≡ page_of bytes f
put_other bytes page i f n p e low inside differs =
    let front : List ℕ = take (4096 * i) bytes in
    let behind : List ℕ = drop (4096 * i + 4096) bytes in
    let one : length front ≡ 4096 * i = length-take-le (4096 * i) bytes (omega (arith, e)) in
    let both : length (front ++ page) ≡ 4096 * i + 4096 = let l = length-append front page in omega (arith, l, one, p) in
    let a : ℕ = 4096 * f in
    let m : ℕ = 4096 * f + 4096 - 4096 * f in
    let parts : put_page bytes i page ≡ front ++ page ++ behind = rw p refl in
    rw parts (elim (cases_lt f i) [
      | inl before ↦
          let cut : take (a + m) (front ++ page ++ behind) ≡ take (a + m) bytes =
          take-append-le (a + m) (front ++ page) behind (omega (arith, both)) ∙ take-append-le (a + m) front page (omega (arith, one)) ∙ take-take (a + m) (4096 * i) bytes (omega arith) in
          sym (drop-take a m (front ++ page ++ behind)) ∙ ap (drop a) cut ∙ drop-take a m bytes
      | inr past ↦ elim (cases_lt i f) [
        | inl after ↦ ap (take m) (drop-append-drop (4096 * i + 4096) bytes (front ++ page) a (omega arith) both)
        | inr here ↦ absurd (differs (omega arith))
      ]
    ])

-- a page without a mark is not the one that was put
other : (dirty : List Bool) (i f : ℕ) → i < length dirty → get_or (slice_set dirty i true) f false ≡ false → f ≡ i → ⊥
other dirty i f inside clean same =
    let here : get_or (slice_set dirty i true) i false ≡ true = get_or-set_same dirty i true false inside in
    let there : get_or (slice_set dirty i true) i false ≡ false = subst (λ (k : ℕ). get_or (slice_set dirty i true) k false ≡ false) same clean in
    cc

-- a tree may be kept while a page is put
pub put_stale : (h : Hashes) (ram : RamState) (nodes : List Digest) (page : List ℕ) (i : ℕ) → IsRam ram.bytes ram.dirty → length page ≡ 4096 → i < length ram.dirty → IsStale h ram nodes
    → IsStale h (record { bytes = put_page ram.bytes i page; dirty = slice_set ram.dirty i true }) nodes
put_stale h ram nodes page i whole p low s =
    let len : length (slice_set ram.dirty i true) ≡ length ram.dirty = length-set ram.dirty i true in
    stale_kept h ram (record { bytes = put_page ram.bytes i page; dirty = slice_set ram.dirty i true }) nodes len
    (λ f lt c. sym (get_or-set_other ram.dirty i f true false (other ram.dirty i f low c)) ∙ c)
    (λ f lt c. put_other ram.bytes page i f (length ram.dirty) p whole.size low (omega (arith, len, lt)) (other ram.dirty i f low c)) s
