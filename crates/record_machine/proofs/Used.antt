-- Marks that are set more often serve as well.
use Rattle.std.proofs.Common.{◌≡◌, ℕ, Bool, true, false, List, [], ◌∷◌, ◌++◌, length, map, refl, sym, ap, subst, ◌∙◌}
use Rattle.avm_model.specs.Machine.{Output, Snap, State}
use Rattle.avm_model.specs.Memory.{IsRam}
use Rattle.avm_num.proofs.Walks.{items_none}
use Rattle.guest_machine.specs.Outs.{snap_list}
use Rattle.journal_model.specs.Journal.{pages_ascend}
use Rattle.record_batch.proofs.Pages.{keep_ascends, marks_of}
use Rattle.record_batch.proofs.PartLaws.{page_shortens}
use Rattle.journal_model.specs.Part.{page_at}
use Rattle.avm_model.specs.Reference.{Made, made_of}
use Rattle.honest_model.specs.KeepPages.{KeepsMarked}
use Rattle.journal_model.specs.Part.{PageData}
use Rattle.record_batch.specs.Batch.{BatchData}
use Rattle.record_parts.proofs.Outs.{made_none, made_two}
use Rattle.record_parts.specs.Outs.{kept_pages, pages_in, with_made}
use Rattle.record_machine.specs.Marks.{HasMarks, used_marks}

pub marked_less : (s : State) (marks used : List Bool) (pages : List PageData) → HasMarks marks used → KeepsMarked s marks pages → KeepsMarked s used pages
marked_less s marks used pages h k = record { are = k.are; marked = λ i e. k.marked i (h i e) }

map-append : {A B : Type 0} (f : A → B) (xs ys : List A) → map f (xs ++ ys) ≡ map f xs ++ map f ys
map-append f [] ys = refl
map-append {A} {B} f (x ∷ xs) ys = ap (λ (zs : List B). f x ∷ zs) (map-append f xs ys)

-- four lists of outputs, one behind another
pub made_four : (b c d e f : BatchData) (s : State) (pages : List ℕ) (w x y z : List Output) → c ≡ with_made b s pages (map (made_of s) w) → d ≡ with_made c s pages (map (made_of s) x) → e ≡ with_made d s pages (map (made_of s) y) → f ≡ with_made e s pages (map (made_of s) z) → f ≡ with_made b s pages (map (made_of s) (w ++ x ++ y ++ z))
made_four b c d e f s pages w x y z p q r t =
    let g : List Output → List Made = map (made_of s) in
    let one = made_two b c d s pages (g w) (g x) p q in
    let two = made_two b d e s pages (g w ++ g x) (g y) one r in
    let three = made_two b e f s pages ((g w ++ g x) ++ g y) (g z) two t in
    let all : map (made_of s) (w ++ x ++ y ++ z) ≡ ((g w ++ g x) ++ g y) ++ g z = map-append (made_of s) (w ++ x ++ y) z ∙ ap (λ (os : List Made). os ++ g z) (map-append (made_of s) (w ++ x) y ∙ ap (λ (os : List Made). os ++ g y) (map-append (made_of s) w x)) in
    three ∙ ap (λ (os : List Made). with_made b s pages os) (sym all)

-- the keep of a snapshot that is due
pub snap_due : (all due : Bool) (b n : BatchData) (s t : State) (dirty marks : List Bool) → due ≡ true → t ≡ s → HasMarks marks (used_marks all dirty) → length marks ≡ length dirty → IsRam s.ram dirty
    → n ≡ with_made b t (kept_pages marks t.ram) (made_of t Snap ∷ []) → KeepsMarked t marks (pages_in (kept_pages marks t.ram))
    → (pages : List ℕ) × (due ≡ true → KeepsMarked s (used_marks all dirty) (pages_in pages)) × (pages_ascend 0 (length dirty) (pages_in pages) ≡ true) × (n ≡ with_made b s pages (map (made_of s) (snap_list due)))
snap_due all due b n s t dirty marks is same has len ram value marked =
    let r = ap (λ (x : State). x.ram) same in (
      kept_pages marks s.ram,
      λ _. marked_less s marks (used_marks all dirty) _ has (subst (λ (x : State). KeepsMarked x marks (pages_in (kept_pages marks x.ram))) same marked),
      rw (← len) (keep_ascends 0 [] marks s.ram (marks_of marks dirty s.ram len ram.few ram)),
      rw is (subst (λ (x : State). n ≡ with_made b x (kept_pages marks x.ram) (made_of x Snap ∷ [])) same value),
    )

no_pages : pages_in [] ≡ []
unfolding page_at
no_pages = items_none page_at page_shortens [] refl

-- and where none is due
pub not_due : (all due : Bool) (b : BatchData) (s : State) (dirty : List Bool) → due ≡ false
    → (pages : List ℕ) × (due ≡ true → KeepsMarked s (used_marks all dirty) (pages_in pages)) × (pages_ascend 0 (length dirty) (pages_in pages) ≡ true) × (b ≡ with_made b s pages (map (made_of s) (snap_list due)))
not_due all due b s dirty is =
    ([], λ yes. absurd (let no : true ≡ false = sym yes ∙ is in cc), rw no_pages refl, rw is (sym (made_none b s [])))
