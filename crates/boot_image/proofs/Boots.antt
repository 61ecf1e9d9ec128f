-- What loading an image into zeros says of the test of its initial state.
use Rattle.std.proofs.Common.{◌≡◌, ℕ, ◌*◌, ◌/◌, Bool, true, false, List, length, replicate, Option, Some, None, refl, sym, ap, ◌∙◌, arith}
use Rattle.std.specs.Str.{bytes_eq}
use Rattle.std.specs.Cmp.Lexicographic.{bytes_decides}
use Rattle.std.proofs.lemmas.List.{length-replicate}
use Rattle.avm_model.specs.Head.{HeadData}
use Rattle.avm_model.specs.HeadState.{state_of}
use Rattle.avm_model.specs.Image.{load_fault, loaded, entry_of}
use Rattle.avm_model.specs.ImageState.{Gives, Refuses, image, image_by, is_booted, is_booted_from, is_image_of}
use Rattle.avm_model.specs.Machine.{State}
use Rattle.avm_model.specs.Memory.{RamState}
use Rattle.avm_model.specs.declared.loading.LoadFault.{LoadFault}

-- the page count of the state
abbrev Holds : State → ℕ → Type 0
Holds s pages = length s.ram / 4096 ≡ pages

blank_fault : (file blank : List ℕ) (pages : ℕ) (o : Option LoadFault) → blank ≡ replicate (4096 * pages) 0 → load_fault (length blank) file ≡ o → load_fault (4096 * pages) file ≡ o
blank_fault file blank pages o b f = ap (λ n. load_fault n file) (sym (ap length b ∙ length-replicate (4096 * pages) 0)) ∙ f

image_gives : (file : List ℕ) (pages : ℕ) → load_fault (4096 * pages) file ≡ None → image pages file ≡ Gives (loaded (replicate (4096 * pages) 0) file) (entry_of file)
image_gives file pages f = ap (λ o. image_by o (loaded (replicate (4096 * pages) 0) file) (entry_of file)) f

image_refuses : (file : List ℕ) (pages : ℕ) (fault : LoadFault) → load_fault (4096 * pages) file ≡ Some fault → image pages file ≡ Refuses fault
image_refuses file pages fault f = ap (λ o. image_by o (loaded (replicate (4096 * pages) 0) file) (entry_of file)) f

pub loaded_test : (s : State) (file blank ram : List ℕ) (entry pages : ℕ) → Holds s pages → blank ≡ replicate (4096 * pages) 0 → load_fault (length blank) file ≡ None → ram ≡ loaded blank file → entry ≡ entry_of file → is_booted s ram entry ≡ is_image_of s file
unfolding is_image_of
loaded_test s file blank ram entry pages holds b f r e =
    let gives = image_gives file pages (blank_fault file blank pages None b f) in
    let held : ram ≡ loaded (replicate (4096 * pages) 0) file = r ∙ ap (λ z. loaded z file) b in
    ap (λ z. is_booted s z entry) held
    ∙ ap (λ n. is_booted s (loaded (replicate (4096 * pages) 0) file) n) e
    ∙ sym (ap (is_booted_from s) (ap (λ n. image n file) holds ∙ gives))

pub refused_test : (s : State) (file blank : List ℕ) (pages : ℕ) (fault : LoadFault) → Holds s pages → blank ≡ replicate (4096 * pages) 0 → load_fault (length blank) file ≡ Some fault → false ≡ is_image_of s file
unfolding is_image_of
refused_test s file blank pages fault holds b f =
    sym (ap (is_booted_from s) (ap (λ n. image n file) holds ∙ image_refuses file pages fault (blank_fault file blank pages (Some fault) b f)))

-- the RAM and the bytes that it is compared with may change their places
same_eq : (a b : List ℕ) (x y : Bool) → bytes_eq a b ≡ x → bytes_eq b a ≡ y → x ≡ y
same_eq a b true true p q = refl
same_eq a b false false p q = refl
same_eq a b true false p q =
    let same : a ≡ b = (bytes_decides a b).0 p in
    sym ((bytes_decides b a).1 (sym same)) ∙ q
same_eq a b false true p q =
    let same : b ≡ a = (bytes_decides b a).0 q in
    sym p ∙ (bytes_decides a b).1 (sym same)

pub swapped : (h : HeadData) (a b : List ℕ) (entry : ℕ) → is_booted (state_of h a) b entry ≡ is_booted (state_of h b) a entry
swapped h a b entry = rw (same_eq a b (bytes_eq a b) (bytes_eq b a) refl refl) refl

pub divided : (len n : ℕ) → len ≡ 4096 * n → len / 4096 ≡ n
divided len n e = omega (arith, e)

-- the pages of a RAM of zeros
pub marks : (n k : ℕ) (ram new : RamState) → ram ≡ record { bytes = replicate (4096 * n) 0; dirty = replicate n false } → length new.dirty ≡ length ram.dirty → n ≡ k → k ≡ length new.dirty
marks n k ram new is same count = sym (same ∙ ap (λ (r : RamState). length r.dirty) is ∙ length-replicate n false ∙ count)
