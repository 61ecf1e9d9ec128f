-- There is one fault, and one machine.
use Rattle.std.proofs.Common.{◌≡◌, ℕ, Bool, true, false, List, [], ◌∷◌, ◌++◌, length, drop, Option, Some, None, refl, sym, ap, subst, ◌∙◌}
use Rattle.std.proofs.lemmas.List.{drop_at}
use Rattle.avm_model.specs.Machine.{State}
use Rattle.avm_model.specs.Frame.{FrameData}
use Rattle.avm_model.specs.Audit.{is_committed, behind_first}
use Rattle.avm_model.specs.Reference.{timed, entries_of, IsFaultNumber}
use Rattle.avm_model.specs.Rerun.{after}
use Rattle.avm_model.proofs.ReferenceLaws.{is_timed}
use Rattle.avm_model.proofs.ReplayTheorems.{fault_unique}
use Rattle.journal_model.specs.Journal.{JournalData, entries}
use Rattle.journal_model.specs.Part.{Part, frames_in}
use Rattle.honest_model.specs.Honest.{IsFaultByRoot, IsFaultFrom, IsJournalFault}
use Rattle.honest_model.specs.Keeps.{IsFaultBehind, IsOpened, IsStretch, frames_behind, last_of, up_to}
use Rattle.opening_laws.proofs.Bases.{same_base}

same_some : {A : Type 0} (x y : A) → Some x ≡ Some y → x ≡ y
same_some x y e = cc

-- the frame at one place
same_frame : (a b c d : List FrameData) (f g : FrameData) → a ++ f ∷ b ≡ c ++ g ∷ d → length a ≡ length c → f ≡ g
same_frame a b c d f g e len =
    let tail : f ∷ b ≡ g ∷ d = sym (drop_at a (f ∷ b) (length a) refl) ∙ ap (drop (length a)) e ∙ drop_at c (g ∷ d) (length a) (sym len) in
    cc

pub same_number : (s : State) (fs : List FrameData) (a b : Option ℕ) → IsFaultNumber s fs a → IsFaultNumber s fs b → a ≡ b
same_number s fs None None p q = refl
same_number s fs None (Some n) p q = absurd (let e : None ≡ Some (length q.before) = fault_unique timed is_timed s (entries_of fs) None (Some (length q.before)) p q.first in cc)
same_number s fs (Some n) None p q = absurd (let e : None ≡ Some (length p.before) = fault_unique timed is_timed s (entries_of fs) None (Some (length p.before)) q p.first in cc)
same_number s fs (Some n) (Some m) p q =
    let len : length p.before ≡ length q.before = same_some _ _ (fault_unique timed is_timed s (entries_of fs) (Some (length p.before)) (Some (length q.before)) p.first q.first) in
    let frame = same_frame p.before p.behind q.before q.behind p.frame q.frame (sym p.split ∙ q.split) len in
    ap (λ (k : ℕ). Some k) (sym p.number ∙ ap (λ (f : FrameData). f.seq) frame ∙ q.number)

same_by_root : (c : Bool) (first : ℕ) (s : State) (fs : List FrameData) (a b : Option ℕ) → IsFaultByRoot c first s fs a → IsFaultByRoot c first s fs b → a ≡ b
same_by_root true first s fs a b p q = same_number s (behind_first fs) a b p q
same_by_root false first s fs a b p q = p ∙ sym q

same_from : (first : ℕ) (s : State) (fs : List FrameData) (a b : Option ℕ) → IsFaultFrom first s fs a → IsFaultFrom first s fs b → a ≡ b
same_from first s [] a b p q = p ∙ sym q
same_from first s (f ∷ fs) a b p q = same_by_root (is_committed s (f ∷ fs)) first s (f ∷ fs) a b p q

pub same_journal : (j : JournalData) (a b : Option ℕ) → IsJournalFault j a → IsJournalFault j b → a ≡ b
same_journal j a b p q =
    let state : q.0 ≡ p.0 = same_some q.0 p.0 (sym q.1 ∙ p.1) in
    same_from j.header.first p.0 (entries j) a b p.2 (subst (λ (s : State). IsFaultFrom j.header.first s (entries j) b) state q.2)

same_behind : (first : ℕ) (front : List Part) (s : State) (fs : List FrameData) (a b : Option ℕ) → IsFaultBehind first front s fs a → IsFaultBehind first front s fs b → a ≡ b
same_behind first [] s fs a b p q = same_from first s fs a b p q
same_behind first (x ∷ front) s fs a b p q = same_number s fs a b p q

pub same_stretch : (j : JournalData) (n : ℕ) (a b : Option ℕ) → IsStretch j n a → IsStretch j n b → a ≡ b
same_stretch j n a b p q =
    let e = same_base j n q.front q.behind p.front p.behind q.state p.state q.base p.base in
    same_behind j.header.first p.front p.state (up_to n (frames_in p.behind)) a b p.fault_is
    (subst (λ (x : List Part). IsFaultBehind j.header.first x p.state (up_to n (frames_in p.behind)) b) e.front_is (subst (λ (x : List Part). IsFaultBehind j.header.first q.front p.state (up_to n (frames_in x)) b) e.behind_is (subst (λ (x : State). IsFaultBehind j.header.first q.front x (up_to n (frames_in q.behind)) b) e.state_is q.fault_is)))

-- the state behind a base's entries
abbrev reached : List Part → List Part → State → State
reached front behind s = (after timed s (entries_of (frames_behind front behind))).state

pub same_machine : (j : JournalData) (s t : State) → IsOpened j s → IsOpened j t → s ≡ t
same_machine j s t p q =
    let e = same_base j (last_of j) p.front p.behind q.front q.behind p.state q.state p.base q.base in
    p.after_is ∙ ap (λ (x : List Part). reached x p.behind p.state) e.front_is ∙ ap (λ (x : List Part). reached q.front x p.state) e.behind_is ∙ ap (λ (x : State). reached q.front q.behind x) e.state_is ∙ sym q.after_is
