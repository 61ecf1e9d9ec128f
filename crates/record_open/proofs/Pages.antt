-- A page that is marked keeps its bytes.
use Rattle.std.proofs.Common.{◌≡◌, ℕ, ◌+◌, ◌*◌, ◌<◌, ◌≤◌, Bool, true, false, List, [], ◌∷◌, length, get_or, slice_set, refl, sym, ap, subst, ◌∙◌, arith, inl, inr, ◌⊎◌}
use Rattle.std.proofs.lemmas.Bool.{cases_lt}
use Rattle.std.proofs.lemmas.List.{length-set, get_or-set_same, get_or-set_other}
use Rattle.avm_model.specs.Memory.{IsRam, RamState, put_page}
use Rattle.avm_model.specs.PageMarks.{MarksPages}
use Rattle.avm_model.specs.Pages.{page_of}
use Rattle.honest_model.proofs.Keeping.{with_pages_is}

-- a page that is put where it stands
put_same : (bytes : List ℕ) (i n : ℕ) → length bytes ≡ 4096 * n → i < n → put_page bytes i (page_of bytes i) ≡ bytes
put_same bytes i n size low = with_pages_is (record { number = i; bytes = page_of bytes i } ∷ []) bytes bytes refl ((refl, omega (arith, size, low)), tt) (λ p lt. inr refl)

pub marks_none : (ram : RamState) → MarksPages ram ram
marks_none ram = record { size = refl; pages = refl; clean = λ f lt e. e; same = λ f lt e. refl }

pub marks_both : (a b c : RamState) → MarksPages a b → MarksPages b c → MarksPages a c
marks_both a b c x y = record {
  size = y.size ∙ x.size;
  pages = y.pages ∙ x.pages;
  clean = λ f lt e. x.clean f (subst (λ (n : ℕ). f < n) y.pages lt) (y.clean f lt e);
  same = λ f lt e. y.same f lt e ∙ x.same f (subst (λ (n : ℕ). f < n) y.pages lt) (y.clean f lt e);
}

pub record Marked (old new : RamState) (i : ℕ) : Type 0 where
  pub bytes : new.bytes ≡ old.bytes
  pub marks : MarksPages old new
  pub here : get_or new.dirty i false ≡ true

differs : (dirty : List Bool) (i f : ℕ) → i < length dirty → get_or (slice_set dirty i true) f false ≡ false → f ≡ i → ⊥
differs dirty i f inside clean same =
    let here : get_or (slice_set dirty i true) i false ≡ true = get_or-set_same dirty i true false inside in
    let there : get_or (slice_set dirty i true) i false ≡ false = subst (λ (k : ℕ). get_or (slice_set dirty i true) k false ≡ false) same clean in
    cc

pub marked : (old new : RamState) (i : ℕ) (page : List ℕ) → IsRam old.bytes old.dirty → i < length old.dirty → page ≡ page_of old.bytes i → new ≡ record { bytes = put_page old.bytes i page; dirty = slice_set old.dirty i true } → Marked old new i
marked old new i page whole low p e =
    let bytes : new.bytes ≡ old.bytes = ap (λ (r : RamState). r.bytes) e ∙ ap (put_page old.bytes i) p ∙ put_same old.bytes i (length old.dirty) whole.size low in
    let dirty : new.dirty ≡ slice_set old.dirty i true = ap (λ (r : RamState). r.dirty) e in
    record {
      bytes = bytes;
      marks = record {
        size = ap length bytes;
        pages = ap length dirty ∙ length-set old.dirty i true;
        clean = λ f lt c.
            let set : get_or (slice_set old.dirty i true) f false ≡ false = ap (λ (d : List Bool). get_or d f false) (sym dirty) ∙ c in
            sym (get_or-set_other old.dirty i f true false (differs old.dirty i f low set)) ∙ set;
        same = λ f lt c. ap (λ (b : List ℕ). page_of b f) bytes;
      };
      here = ap (λ (d : List Bool). get_or d i false) dirty ∙ get_or-set_same old.dirty i true false low;
    }

-- the pages before a place that have no mark are the other's
pub record Sofar (other : List ℕ) (old new : RamState) (i : ℕ) : Type 0 where
  pub bytes : new.bytes ≡ old.bytes
  pub marks : MarksPages old new
  pub pages : (k : ℕ) → k < i → k < length new.dirty → get_or new.dirty k false ≡ false → page_of other k ≡ page_of new.bytes k

pub sofar_none : (other : List ℕ) (ram : RamState) → Sofar other ram ram 0
sofar_none other ram = record { bytes = refl; marks = marks_none ram; pages = λ k lt. absurd (omega (arith, lt)) }

pub sofar_next : (other : List ℕ) (old ram new : RamState) (i : ℕ) → new.bytes ≡ ram.bytes → MarksPages ram new → (get_or new.dirty i false ≡ false → page_of other i ≡ page_of new.bytes i) → Sofar other old ram i → Sofar other old new (i + 1)
sofar_next other old ram new i bytes marks page h = record {
  bytes = bytes ∙ h.bytes;
  marks = marks_both old ram new h.marks marks;
  pages = λ k lt inside clean. go k lt inside clean (cases_lt k i);
}
  where
    go : (k : ℕ) → k < i + 1 → k < length new.dirty → get_or new.dirty k false ≡ false → (k < i) ⊎ (i ≤ k) → page_of other k ≡ page_of new.bytes k
    go k lt inside clean (inl low) = h.pages k low (subst (λ (n : ℕ). k < n) marks.pages inside) (marks.clean k inside clean) ∙ ap (λ (b : List ℕ). page_of b k) (sym bytes)
    go k lt inside clean (inr high) =
        let same : k ≡ i = omega (arith, lt, high) in
        subst (λ (n : ℕ). page_of other n ≡ page_of new.bytes n) (sym same) (page (subst (λ (n : ℕ). get_or new.dirty n false ≡ false) same clean))
