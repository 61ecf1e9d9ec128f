-- Marks tell which pages a keep needs.
use Rattle.std.proofs.Common.{◌≡◌, ℕ, ◌+◌, ◌-◌, ◌*◌, ◌/◌, ◌≤◌, ◌<◌, Bool, false, List, [], ◌∷◌, ◌++◌, length, get_or, sym, ap, ◌∙◌, arith, inl, inr}
use Rattle.std.proofs.lemmas.Bool.{cases_Bool}
use Rattle.avm_model.specs.Machine.{State}
use Rattle.avm_model.specs.Memory.{RamState}
use Rattle.avm_model.specs.PageMarks.{MarksPages}
use Rattle.avm_model.specs.Pages.{page_of}
use Rattle.honest_model.proofs.Keeping.{kept-append, page_place, with_pages_is}
use Rattle.honest_model.proofs.Logs.{keeps-append}
use Rattle.honest_model.specs.KeepPages.{IsKeptRam, KeepsMarked, KeepsPages, Same, ram_with}
use Rattle.honest_model.specs.Keeps.{kept_ram}
use Rattle.journal_model.specs.Header.{HeaderData}
use Rattle.journal_model.specs.Part.{pages_of, KeepData, PageData, Part, keep, keeps_in}

-- what marks the pages that it changes keeps this
pub kept_marks : (h : HeaderData) (before : List Part) (old new : RamState) → IsKeptRam h before old → MarksPages old new → IsKeptRam h before new
kept_marks h before old new k m = record {
  len = k.len ∙ sym m.size;
  size = m.size ∙ k.size ∙ ap (λ (n : ℕ). 4096 * n) (sym m.pages);
  same = λ i lt clean. let p = m.pages in k.same i (omega (arith, lt, p)) (m.clean i lt clean) ∙ sym (m.same i lt clean);
}

-- the marked pages are all that differ
pub marked_pages : (h : HeaderData) (before : List Part) (s : State) (dirty : List Bool) (pages : List PageData) → IsKeptRam h before (ram_with s dirty) → KeepsMarked s dirty pages → KeepsPages h before s pages
marked_pages h before s dirty pages k m = record { len = k.len; are = m.are; same = each }
  where
    each : Same pages (kept_ram h.pages (keeps_in before)) s.ram
    each p lt =
        let i : ℕ = p / 4096 in
        let low : 4096 * i ≤ p = omega arith in
        let high : p < 4096 * i + 4096 = omega arith in
        let within : i < length dirty = (let z = k.size in omega (arith, z, lt)) in
        elim (cases_Bool (get_or dirty i false)) [
          | inl mark ↦ inl (m.marked i mark)
          | inr none ↦
              inr (sym (page_place (kept_ram h.pages (keeps_in before)) i p low high) ∙ ap (λ (x : List ℕ). get_or x (p - 4096 * i) 0) (k.same i within none) ∙ page_place s.ram i p low high)
        ]

-- behind its keep the RAM is kept without any mark
pub kept_behind : (h : HeaderData) (before : List Part) (s : State) (dirty : List Bool) (k : KeepData) → KeepsPages h before s (pages_of k) → length s.ram ≡ 4096 * length dirty → IsKeptRam h (before ++ keep k ∷ []) (ram_with s dirty)
kept_behind h before s dirty k p size =
    let is : kept_ram h.pages (keeps_in (before ++ keep k ∷ [])) ≡ s.ram = ap (λ (ks : List KeepData). kept_ram h.pages ks) (keeps-append before (keep k ∷ [])) ∙ kept-append h.pages (keeps_in before) k ∙ with_pages_is (pages_of k) (kept_ram h.pages (keeps_in before)) s.ram p.len p.are p.same in
    record {
      len = ap (λ (b : List ℕ). length b) is;
      size = size;
      same = λ i lt clean. ap (λ (b : List ℕ). page_of b i) is;
    }
