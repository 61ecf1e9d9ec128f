-- Two states that are compared.
use Rattle.std.proofs.Common.{◌≡◌, ℕ, zero, suc, ◌/◌, IsTrue, Bool, true, false, not, List, length, Option, Some, option_map, Result, Ok, Err, IfOk, refl, sym, ap, subst, ◌∙◌, arith}
use Rattle.std.specs.Str.{bytes_eq}
use Rattle.avm_model.specs.Machine.{State}
use Rattle.avm_model.specs.Memory.{IsRam, RamState, is_page_count}
use Rattle.avm_model.specs.Pages.{sha_hashes, root_of, root_from, depth_of}
use Rattle.avm_model.specs.declared.Digest.{Digest}
use Rattle.avm_model.proofs.LmsLaw.{length-hash}
use Rattle.avm_model.proofs.PageDepth.{pages_are}
use Rattle.page_tree.specs.Nodes.{IsTree}
use Rattle.rebut_model.specs.Texts.{Texts, texts, differ, first_of_all, state_text, state_texts, tree_texts, OfHead}
use Rattle.rebut_model.proofs.Named.{bytes_same, same_bytes}
use Rattle.rebut_model.proofs.Trees.{same_text}
use Rattle.avm_num.specs.declared.buffer.NoMemory.{NoMemory}
use Rattle.rebut_texts.specs.Found.{found_view}
use Rattle.rebut_texts.specs.declared.bytes.Found.{Found}
use Rattle.rebut_texts.specs.Places.{trees, AreTrees, count_of, both_at, differ_at, places, first_that}
use Rattle.rebut_texts.proofs.Trees.{trees_first}

from_length : (bytes : List ℕ) (d f : ℕ) → length (root_from sha_hashes bytes d f).0 ≡ 32
from_length bytes zero f = length-hash _
from_length bytes (suc d) f = length-hash _

pub root_length : (bytes : List ℕ) (r : Digest) → r ≡ root_of sha_hashes bytes → length r.0 ≡ 32
unfolding root_of
root_length bytes r e = ap (λ (x : Digest). length x.0) e ∙ from_length bytes (depth_of (length bytes / 4096)) 0

-- two trees of RAMs of one size
pub trees_are : (s t : State) (dirty other : List Bool) (x y : List Digest) → IsRam s.ram dirty → IsRam t.ram other → OfHead s → OfHead t → state_text s ≡ state_text t → IsTree sha_hashes s.ram (length dirty) x → IsTree sha_hashes t.ram (length other) y → AreTrees (trees x s.ram y t.ram)
trees_are s t dirty other x y a b hs ht e p q =
    let n : length s.ram / 4096 ≡ length dirty = pages_are s.ram dirty a in
    let m : length t.ram / 4096 ≡ length other = pages_are t.ram other b in
    let same : length dirty ≡ length other = sym n ∙ (same_text s t hs ht e).count ∙ m in
    let count : length x / 2 ≡ length dirty = (let l = p.len in omega arith) in
    record {
      count = subst (λ (k : ℕ). IsTrue (is_page_count k)) (sym count) a.power;
      ours = (let l = p.len in omega arith);
      our_pages = (let l = a.size in omega (arith, count));
      theirs = (let l = q.len in omega (arith, count, same));
      their_pages = (let l = b.size in omega (arith, count, same));
    }

pub texts_apart : (s t : State) (b : Bool) → b ≡ not (bytes_eq (state_text s) (state_text t)) → b ≡ true → Some (texts (state_text s) (state_text t)) ≡ first_of_all differ (state_texts s t)
texts_apart s t b e y = rw (sym e ∙ y) refl

pub texts_same : (s t : State) (x y : List ℕ) (b : Bool) → x ≡ state_text s → y ≡ state_text t → b ≡ not (bytes_eq x y) → b ≡ false → state_text s ≡ state_text t
texts_same s t x y b ex ey e n = go (bytes_eq x y) refl (sym e ∙ n)
  where
    go : (c : Bool) → bytes_eq x y ≡ c → not c ≡ false → state_text s ≡ state_text t
    go true i h = sym ex ∙ same_bytes x y i ∙ ey
    go false i h = absurd cc

pub pages_first : (s t : State) (dirty other : List Bool) (x y : List Digest) → IsRam s.ram dirty → IsRam t.ram other → OfHead s → OfHead t → state_text s ≡ state_text t → IsTree sha_hashes s.ram (length dirty) x → IsTree sha_hashes t.ram (length other) y
    → option_map (both_at (trees x s.ram y t.ram)) (first_that (differ_at (trees x s.ram y t.ram)) (places (depth_of (count_of (trees x s.ram y t.ram))) 1)) ≡ first_of_all differ (state_texts s t)
pages_first s t dirty other x y a b hs ht e p q =
    let n : length s.ram / 4096 ≡ length dirty = pages_are s.ram dirty a in
    let m : length t.ram / 4096 ≡ length other = pages_are t.ram other b in
    let same : length other ≡ length dirty = sym m ∙ sym (same_text s t hs ht e).count ∙ n in
    let count : length dirty ≡ length x / 2 = (let l = p.len in omega arith) in
    let k = length x / 2 in
    let px : IsTree sha_hashes s.ram k x = subst (λ (j : ℕ). IsTree sha_hashes s.ram j x) count p in
    let qy : IsTree sha_hashes t.ram k y = subst (λ (j : ℕ). IsTree sha_hashes t.ram j y) (same ∙ count) q in
    let power : IsTrue (is_page_count k) = subst (λ (j : ℕ). IsTrue (is_page_count j)) count a.power in
    let found = trees_first k x s.ram y t.ram power px qy in
    let equal : not (bytes_eq (state_text s) (state_text t)) ≡ false = rw (bytes_same (state_text s) (state_text t) e) refl in
    let tail : first_of_all differ (state_texts s t) ≡ first_of_all differ (tree_texts s.ram t.ram (depth_of (length s.ram / 4096)) 0) = rw equal refl in
    sym (tail ∙ ap (λ (j : ℕ). first_of_all differ (tree_texts s.ram t.ram (depth_of j) 0)) (n ∙ count) ∙ found)

-- the same where the trees and the pages lie elsewhere
pub trees_ready : (s t : State) (dirty other : List Bool) (x y : List Digest) (a b : List ℕ) (u v : List Digest) → u ≡ x → v ≡ y → a ≡ s.ram → b ≡ t.ram → IsRam s.ram dirty → IsRam t.ram other → OfHead s → OfHead t → state_text s ≡ state_text t → IsTree sha_hashes s.ram (length dirty) x → IsTree sha_hashes t.ram (length other) y
    → AreTrees (trees u a v b)
trees_ready s t dirty other x y a b u v eu ev ea eb r q hs ht e p w = rw (eu, ev, ea, eb) (trees_are s t dirty other x y r q hs ht e p w)

pub pages_found : (s t : State) (dirty other : List Bool) (x y : List Digest) (a b : List ℕ) (u v : List Digest) → u ≡ x → v ≡ y → a ≡ s.ram → b ≡ t.ram → IsRam s.ram dirty → IsRam t.ram other → OfHead s → OfHead t → state_text s ≡ state_text t → IsTree sha_hashes s.ram (length dirty) x → IsTree sha_hashes t.ram (length other) y
    → option_map (both_at (trees u a v b)) (first_that (differ_at (trees u a v b)) (places (depth_of (count_of (trees u a v b))) 1)) ≡ first_of_all differ (state_texts s t)
pages_found s t dirty other x y a b u v eu ev ea eb r q hs ht e p w = rw (eu, ev, ea, eb) (pages_first s t dirty other x y r q hs ht e p w)

pub value_as : (r : Result (Option Found) NoMemory) (a b : Option Texts) → a ≡ b → IfOk r (λ q. option_map found_view q ≡ a) → IfOk r (λ q. option_map found_view q ≡ b)
value_as (Ok q) a b e h = h ∙ e
value_as (Err q) a b e h = tt

-- the marks of a RAM
pub ram_is : (bytes : List ℕ) (dirty : List Bool) (r : RamState) → r ≡ record { bytes = bytes; dirty = dirty } → IsRam r.bytes r.dirty → IsRam bytes dirty
ram_is bytes dirty r e h = subst (λ (q : RamState). IsRam q.bytes q.dirty) e h
