-- What boots from an image, under a head.
use Rattle.std.proofs.Common.{◌≡◌, ℕ, ◌*◌, ◌&&◌, Bool, true, false, List, [], length, replicate, Option, None, Some, option_map, is_some, IsTrue, refl, sym, ap, subst, ◌∙◌}
use Rattle.std.specs.Str.{bytes_eq}
use Rattle.std.specs.Cmp.Lexicographic.{bytes_decides}
use Rattle.avm_model.specs.Head.{HeadData}
use Rattle.avm_model.specs.HeadReading.{head_of}
use Rattle.avm_model.specs.HeadState.{state_of}
use Rattle.avm_model.specs.Image.{load_fault, loaded, entry_of}
use Rattle.avm_model.specs.ImageState.{is_booted, is_image_of}
use Rattle.avm_model.specs.Machine.{State, MachineState}
use Rattle.avm_model.specs.Memory.{is_page_count}
use Rattle.avm_model.specs.Segment.{page_count}
use Rattle.avm_model.specs.declared.loading.LoadFault.{LoadFault}
use Rattle.avm_model.proofs.HeadBounds.{bounded, head_bounded}
use Rattle.avm_model.proofs.SegmentPages.{head_pages}
use Rattle.boot_image.proofs.Boots.{loaded_test, refused_test, divided}
use Rattle.boot_stream.specs.Booting.{BootsAs, IsFrontOf, IsSame}

pub pages_count : (head : List ℕ) (h : HeadData) → head_of head ≡ Some h → IsTrue (is_page_count h.front.pages)
pages_count head h e = (bounded h (head_bounded head h e)).pages

one_number : (n k : ℕ) → Some n ≡ Some k → n ≡ k
one_number n k e = cc

-- the number that is read is the head's page count
pub pages_are : (head : List ℕ) (h : HeadData) (n : ℕ) → head_of head ≡ Some h → Some n ≡ option_map (λ (p : ℕ × List ℕ). p.0) (page_count head) → n ≡ h.front.pages
pages_are head h n e is = let p = head_pages head h e in one_number n h.front.pages (is ∙ ap (option_map (λ (q : ℕ × List ℕ). q.0)) p.1)

pub pages_there : (head : List ℕ) (h : HeadData) → head_of head ≡ Some h → None ≡ option_map (λ (p : ℕ × List ℕ). p.0) (page_count head) → ⊥
pages_there head h e is = let p = head_pages head h e in let none : ◌≡◌ {A = Option ℕ} None (Some h.front.pages) = is ∙ ap (option_map (λ (q : ℕ × List ℕ). q.0)) p.1 in cc

-- no head
pub no_head : (head image : List ℕ) → is_some (head_of head) ≡ false → BootsAs None image head
no_head head image none h e pages len = absurd (let no : true ≡ false = ap is_some (sym e) ∙ none in cc)

pub no_pages : (head image : List ℕ) → None ≡ option_map (λ (p : ℕ × List ℕ). p.0) (page_count head) → BootsAs None image head
no_pages head image none h e pages len = absurd (pages_there head h e none)

-- an image that isn't loaded
pub refused : (head image blank : List ℕ) (n : ℕ) (fault : LoadFault) → ((h : HeadData) → head_of head ≡ Some h → n ≡ h.front.pages) → blank ≡ replicate (4096 * n) 0 → load_fault (length blank) image ≡ Some fault → BootsAs None image head
refused head image blank n fault count b f h e pages len =
    sym (refused_test (state_of h pages) image blank n fault (divided (length pages) n (len ∙ ap (λ (k : ℕ). 4096 * k) (sym (count h e)))) b f)

kept_true : (p x y : Bool) → (p && x) ≡ true → (p && y) ≡ y
kept_true true x y e = refl
kept_true false x y e = absurd cc

kept_false : (p x y : Bool) → x ≡ true → (p && x) ≡ false → (p && y) ≡ false
kept_false true x y t e = absurd (let no : true ≡ false = sym t ∙ e in cc)
kept_false false x y t e = refl

same_self : (r : List ℕ) → bytes_eq r r ≡ true
same_self r = (bytes_decides r r).1 refl

-- what a machine with the image's RAM says
pub record IsLoadedMachine (head image blank : List ℕ) (n entry : ℕ) (m : MachineState) : Type 0 where
  pub count : (h : HeadData) → head_of head ≡ Some h → n ≡ h.front.pages
  pub state : (h : HeadData) → head_of head ≡ Some h → m.state ≡ state_of h m.state.ram
  pub blank_is : blank ≡ replicate (4096 * n) 0
  pub fault : load_fault (length blank) image ≡ None
  pub loaded_is : m.state.ram ≡ loaded blank image
  pub entry_is : entry ≡ entry_of image

test_of : (head image blank : List ℕ) (n entry : ℕ) (m : MachineState) → IsLoadedMachine head image blank n entry m → (h : HeadData) → head_of head ≡ Some h → (pages : List ℕ) → length pages ≡ 4096 * h.front.pages → is_booted (state_of h pages) m.state.ram entry ≡ is_image_of (state_of h pages) image
test_of head image blank n entry m is h e pages len =
    loaded_test (state_of h pages) image blank m.state.ram entry n (divided (length pages) n (len ∙ ap (λ (k : ℕ). 4096 * k) (sym (is.count h e)))) is.blank_is is.fault is.loaded_is is.entry_is

pub boots : (head image blank : List ℕ) (n entry : ℕ) (m : MachineState) → IsLoadedMachine head image blank n entry m → (h : HeadData) → head_of head ≡ Some h → length m.state.ram ≡ 4096 * h.front.pages → is_booted m.state m.state.ram entry ≡ true → BootsAs (Some m) image head
boots head image blank n entry m is h e size booted = (
  h,
  e,
  size,
  λ pages len.
      let own : is_booted (state_of h m.state.ram) m.state.ram entry ≡ true = ap (λ (s : State). is_booted s m.state.ram entry) (sym (is.state h e)) ∙ booted in
      sym (test_of head image blank n entry m is h e pages len) ∙ kept_true _ (bytes_eq m.state.ram m.state.ram) (bytes_eq pages m.state.ram) own,
)

pub boots_not : (head image blank : List ℕ) (n entry : ℕ) (m : MachineState) → IsLoadedMachine head image blank n entry m → is_booted m.state m.state.ram entry ≡ false → BootsAs None image head
boots_not head image blank n entry m is booted h e pages len =
    let own : is_booted (state_of h m.state.ram) m.state.ram entry ≡ false = ap (λ (s : State). is_booted s m.state.ram entry) (sym (is.state h e)) ∙ booted in
    sym (test_of head image blank n entry m is h e pages len) ∙ kept_false _ (bytes_eq m.state.ram m.state.ram) (bytes_eq pages m.state.ram) (same_self m.state.ram) own

-- no page has come
pub same_start : (o : Option MachineState) (s : Bool) → s ≡ is_some o → IsSame o s []
same_start None s e = e
same_start (Some m) s e = subst (λ (b : Bool). IsFrontOf b m.state.ram []) (sym e) refl
