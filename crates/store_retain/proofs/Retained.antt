-- A store is retained: what was opened and built, and how it answers.
use Rattle.std.proofs.Common.{◌≡◌, ◌⊎◌, inl, inr, ℕ, ◌+◌, ◌^◌, ◌<◌, ◌≤◌, Bool, true, false, nat_lt, ◌&&◌, refl, sym, ap, subst, ◌∙◌, List, [], ◌∷◌, ◌++◌, length, take, drop, Option, None, Some, IfSome, Result, Ok, Err, OnOk, arith, append_assoc, ltb-true, eqb-true}
use Rattle.std.specs.Prelude.{◌==◌, not}
use Rattle.std.proofs.lemmas.List.{length-append}
use Rattle.std.proofs.Math.Seq.{take-append_seam}
use Rattle.avm_num.specs.Bytes.{IsBytes}
use Rattle.avm_num.proofs.Numbers.{and_true}
use Rattle.avm_outside.specs.Outside.{BothTold}
use Rattle.base_build.specs.Building.{IsBuilt, OfStore}
use Rattle.base_build.specs.Judging.{can_begin, is_other}
use Rattle.base_build.proofs.Gates.{shape}
use Rattle.base_build.proofs.Judged.{is_snap}
use Rattle.base_laws.specs.Moving.{CanMove}
use Rattle.base_laws.proofs.Spelling.{moved_behind}
use Rattle.base_model.specs.Base.{base_bytes, moved, moved_at, moved_state, MovedState}
use Rattle.base_model.specs.Spare.{IsActive, IsWhole}
use Rattle.base_model.proofs.Spelled.{whole_begins}
use Rattle.base_write.specs.declared.writing.Base.{Base}
use Rattle.journal_model.specs.Journal.{Is, JournalData, entries, has_snap, journal_of}
use Rattle.journal_model.specs.Spelling.{front_bytes, spelled}
use Rattle.journal_spelling.specs.Spelled.{HasSpelling}
use Rattle.journal_spelling.proofs.Fronts.{spelled as spelled_is}
use Rattle.jrnl_store.specs.Kept.{Kept}
use Rattle.jrnl_store.specs.Own.{IsOwn}
use Rattle.jrnl_store.specs.Retiring.{with_mark_at}
use Rattle.jrnl_store.proofs.Commits.{own_at, shut_stands}
use Rattle.move_laws.proofs.CanMoves.{can_move}
use Rattle.spare_disk.specs.Activating.{Each}
use Rattle.store_move.specs.Moving.{HasBase, IsOfMoving, KindAnswers}
use Rattle.store_move.specs.declared.fault.RetainFault.{RetainFault}
use Rattle.store_move.specs.declared.fault.RetainFault.TheVariants as fault
use Rattle.store_retain.specs.Retaining.{BySpare, GoesOn, IsMovedTo, Opens, RetainAnswers, Retires, behind_first, header_of}

-- a disk that is only read stays the journal's own
own_less : (k : Kept) (images less : List ℕ → Type 0) (was : List ℕ) (j : JournalData) → ((c : List ℕ) → less c → images c) → IsOwn k images was j → IsOwn k less was j
own_less k images less was j sub o = record {
  front = o.front;
  place = o.place;
  last = o.last;
  stands = o.stands;
  begun = o.begun;
  keeps = o.keeps;
  base = o.base;
  read = o.read;
  left = λ c here. o.left c (sub c here);
  shut = o.shut;
  left_shut = λ run c here. o.left_shut run c (sub c here);
}

-- what opening the store and building its base tell, of the disk that is handed on
pub record Ready (n : ℕ) (k : Kept) (images : List ℕ → Type 0) (b : Base) (was : List ℕ) : Type 0 where
  pub journal : JournalData
  pub stands : journal_of was ≡ Is journal
  pub own : IsOwn k images was journal
  pub built : IsBuilt n journal b
  pub spelling : HasSpelling journal

pub snap : (n : ℕ) (k : Kept) (images : List ℕ → Type 0) (b : Base) (was : List ℕ) (r : Ready n k images b was) → has_snap n (entries r.journal) ≡ true
snap n k images b was r = is_snap n r.built.state.count (has_snap n (entries r.journal)) r.built.begins

pub ready_told : (told told_1 : Option (List ℕ)) (k k_2 : Kept) (n : ℕ) (images images_2 : List ℕ → Type 0) (b : Base) → IfSome told IsBytes → told_1 ≡ told → k_2 ≡ k → ((c : List ℕ) → images_2 c → images c)
    → IfSome told (λ was. (j : JournalData) × (journal_of was ≡ Is j) × IsOwn k images was j) → OfStore told_1 k (λ j. IsBuilt n j b) → IfSome told (Ready n k_2 images_2 b)
ready_told None told_1 k k_2 n images images_2 b bytes same stays less opened built = tt
ready_told (Some was) told_1 k k_2 n images images_2 b bytes same stays less opened built =
    let j = opened.0 in
    let is = opened.1 in
    let own = opened.2 in
    let i = subst (λ (t : Option (List ℕ)). OfStore t k (λ j. IsBuilt n j b)) same built in
    record {
      journal = j;
      stands = is;
      own = own_less k_2 images images_2 was j less (subst (λ (x : Kept). IsOwn x images was j) (sym stays) own);
      built = i j is (own_at k images was j own) own.begun;
      spelling = (spelled_is was j bytes is).0;
    }

pub goes_on : (n : ℕ) (k : Kept) (images : List ℕ → Type 0) (b : Base) (was : List ℕ) (r : Ready n k images b was) → GoesOn n r.journal r.built.state
goes_on n k images b was r = record { head = r.built.head; own = r.built.own; stretch_is = r.built.stretch_is; state_is = r.built.state_is; begins = r.built.begins }

-- ---- the bytes of the base

pub header_is : (n : ℕ) (k : Kept) (images : List ℕ → Type 0) (b : Base) (was : List ℕ) (r : Ready n k images b was) → take b.header b.bytes.items ≡ header_of r.journal n r.built.state
header_is n k images b was r =
    let j = r.journal in
    let s = r.built.state in
    let rest = shape j n (moved_state j n s) in
    ap (λ (m : ℕ). take m b.bytes.items) r.built.base.header ∙ ap (λ (l : List ℕ). take (length (header_of j n s)) l) (r.built.base.bytes ∙ rest) ∙ take-append_seam (header_of j n s) _

pub behind_is : (n : ℕ) (k : Kept) (images : List ℕ → Type 0) (b : Base) (was : List ℕ) (r : Ready n k images b was) → drop 1 b.bytes.items ≡ behind_first r.journal n r.built.state
behind_is n k images b was r = ap (λ (l : List ℕ). drop 1 l) r.built.base.bytes

-- a base is its front and a closed gate
base_ends : (j : JournalData) (n : ℕ) (m : MovedState) → base_bytes j n m ≡ front_bytes (moved j n m) ++ 0 ∷ []
unfolding base_bytes spelled
base_ends j n m = refl

low_is : (b : Bool) (n count : ℕ) → can_begin b n count ≡ true → (n < 2 ^ 61) × (count < 2 ^ 61)
low_is b n count e =
    let p = and_true (b && nat_lt n (2 ^ 61)) (nat_lt count (2 ^ 61)) e in
    (ltb-true n (2 ^ 61) (and_true b (nat_lt n (2 ^ 61)) p.0).1, ltb-true count (2 ^ 61) p.1)

-- the whole base stands for the moved journal
pub whole_moved : (n : ℕ) (k : Kept) (images : List ℕ → Type 0) (b : Base) (was e : List ℕ) (r : Ready n k images b was) → IsWhole (behind_first r.journal n r.built.state) e → length (base_bytes r.journal n (moved_state r.journal n r.built.state)) ≤ 2 ^ 30
    → journal_of e ≡ Is (moved_at r.journal n r.built.state)
whole_moved n k images b was e r whole fits =
    let j = r.journal in
    let s = r.built.state in
    let m = moved_state j n s in
    let w = whole_begins j n m e whole in
    let low = low_is (has_snap n (entries j)) n s.count r.built.begins in
    let size : length (base_bytes j n m) ≡ length (front_bytes (moved j n m)) + 1 = ap length (base_ends j n m) ∙ length-append (front_bytes (moved j n m)) (0 ∷ []) in
    let can : CanMove j n m = can_move j n s r.spelling r.built.stretch_is r.built.state_is (snap n k images b was r) low.0 low.1 r.built.base.whole r.built.base.short (omega (arith, size, fits)) in
    ap journal_of (w.1 ∙ ap (λ (l : List ℕ). l ++ w.0) (base_ends j n m) ∙ append_assoc (front_bytes (moved j n m)) (0 ∷ []) w.0) ∙ moved_behind j n m 0 w.0 r.spelling can refl

-- ---- answers

by_spare : (n : ℕ) (k : Kept) (images : List ℕ → Type 0) (b : Base) (was : List ℕ) (other : Option (List ℕ)) (x : Result (Unit {0}) RetainFault) (r : Ready n k images b was) → IfSome other (λ e. KindAnswers k n (take b.header b.bytes.items) (drop 1 b.bytes.items) e x) → BySpare n r.journal other x
by_spare n k images b was None x r h = (r.built.state, goes_on n k images b was r, tt)
by_spare n k images b was (Some e) x r h = (
  r.built.state,
  goes_on n k images b was r,
  (
    k,
    record { keeps = r.own.keeps; gate = r.own.last },
    subst (λ (l : List ℕ). KindAnswers k n l (behind_first r.journal n r.built.state) e x) (header_is n k images b was r) (subst (λ (l : List ℕ). KindAnswers k n (take b.header b.bytes.items) l e x) (behind_is n k images b was r) h),
  ),
)

moves_answers : (n : ℕ) (k : Kept) (images : List ℕ → Type 0) (b : Base) (was : List ℕ) (other : Option (List ℕ)) (x : Result (Unit {0}) RetainFault) → IsOfMoving x → (r : Ready n k images b was) → IfSome other (λ e. KindAnswers k n (take b.header b.bytes.items) (drop 1 b.bytes.items) e x) → RetainAnswers n was other x
moves_answers n k images b was other (Ok t) of r h = (r.journal, r.stands, by_spare n k images b was other (Ok t) r h)
moves_answers n k images b was other (Err fault.NotEmpty) of r h = (r.journal, r.stands, by_spare n k images b was other (Err fault.NotEmpty) r h)
moves_answers n k images b was other (Err fault.Full) of r h = (r.journal, r.stands, by_spare n k images b was other (Err fault.Full) r h)
moves_answers n k images b was other (Err fault.OtherSpare) of r h = (r.journal, r.stands, by_spare n k images b was other (Err fault.OtherSpare) r h)
moves_answers n k images b was other (Err fault.DiskFault) of r h = tt
moves_answers n k images b was other (Err fault.SpareFault) of r h = tt
moves_answers n k images b was other (Err fault.NoMemory) of r h = absurd of
moves_answers n k images b was other (Err fault.NoStore) of r h = absurd of
moves_answers n k images b was other (Err (fault.Damaged p)) of r h = absurd of
moves_answers n k images b was other (Err (fault.Unreplayed q)) of r h = absurd of
moves_answers n k images b was other (Err fault.Range) of r h = absurd of

pub moved_told : (told other : Option (List ℕ)) (n : ℕ) (k : Kept) (images : List ℕ → Type 0) (b : Base) (x : Result (Unit {0}) RetainFault) → IsOfMoving x → IfSome told (Ready n k images b) → IfSome other (λ e. KindAnswers k n (take b.header b.bytes.items) (drop 1 b.bytes.items) e x)
    → IfSome told (λ was. RetainAnswers n was other x)
moved_told None other n k images b x of r h = tt
moved_told (Some was) other n k images b x of r h = moves_answers n k images b was other x of r h

-- ---- behind Ok

pub opens : (n : ℕ) (k : Kept) (images images_2 : List ℕ → Type 0) (b : Base) (was : List ℕ) (other now : Option (List ℕ)) (r : Ready n k images b was) → BothTold other now (HasBase (take b.header b.bytes.items) (drop 1 b.bytes.items) images_2) → BothTold other now (Opens n was images_2)
opens n k images images_2 b was None None r h = tt
opens n k images images_2 b was None (Some c) r h = h
opens n k images images_2 b was (Some e) None r h = h
opens n k images images_2 b was (Some e) (Some c) r h = (
  r.journal,
  r.stands,
  r.built.state,
  goes_on n k images b was r,
  go (subst (λ (l : List ℕ). HasBase l (behind_first r.journal n r.built.state) images_2 e c) (header_is n k images b was r) (subst (λ (l : List ℕ). HasBase (take b.header b.bytes.items) l images_2 e c) (behind_is n k images b was r) h)),
)
  where
    go : HasBase (header_of r.journal n r.built.state) (behind_first r.journal n r.built.state) images_2 e c → IsMovedTo n r.journal r.built.state images_2 c ⊎ (IsActive (header_of r.journal n r.built.state) e × (c ≡ e))
    go (inl w) = inl (record { whole = w.0; only = w.1; stands = λ fits. whole_moved n k images b was c r w.0 fits })
    go (inr w) = inr w

pub opens_told : (told other now : Option (List ℕ)) (n : ℕ) (k : Kept) (images images_2 : List ℕ → Type 0) (b : Base) (x : Result (Unit {0}) RetainFault) → IfSome told (Ready n k images b) → OnOk x (BothTold other now (HasBase (take b.header b.bytes.items) (drop 1 b.bytes.items) images_2))
    → OnOk x (IfSome told (λ was. BothTold other now (Opens n was images_2)))
opens_told told other now n k images images_2 b (Err e) r h = tt
opens_told None other now n k images images_2 b (Ok t) r h = tt
opens_told (Some was) other now n k images images_2 b (Ok t) r h = opens n k images images_2 b was other now r h

-- the mark that stands names the entry
same_mark : (j : JournalData) (m n : ℕ) → j.mark ≡ Some m → is_other j.mark n ≡ false → with_mark_at j n ≡ j
same_mark j m n mark own = ap (λ (o : Option ℕ). record j { mark = o }) (sym (mark ∙ ap Some (go (m == n) refl (sym (ap (λ (o : Option ℕ). is_other o n) mark) ∙ own))))
  where
    go : (b : Bool) → (m == n) ≡ b → not b ≡ false → m ≡ n
    go true e h = eqb-true m n e
    go false e h = absurd cc

stands_marked : (k : Kept) (images : List ℕ → Type 0) (now : List ℕ) (j : JournalData) → k.stop ≡ None → IsOwn k images now j → (journal_of now ≡ Is j) × Each images (λ c. journal_of c ≡ Is j)
stands_marked k images now j run own = (shut_stands j own.front now own.stands own.begun (own.shut run), λ c left. shut_stands j own.front c own.stands own.begun (own.left_shut run c left))

pub retires_told : (told told_2 now : Option (List ℕ)) (n : ℕ) (k k_3 : Kept) (images images_3 : List ℕ → Type 0) (b : Base) (x : Result (Unit {0}) RetainFault) → told_2 ≡ told → k.stop ≡ None → IfSome told (Ready n k images b)
    → OnOk x (BothTold told_2 now (λ was c. (j : JournalData) → IsOwn k images was j → has_snap n (entries j) ≡ true → k.mark ≡ None → IsOwn k_3 images_3 c (with_mark_at j n)))
    → OnOk x (k_3.stop ≡ None) → ((m : ℕ) → k.mark ≡ Some m → (now ≡ told_2) × ((c : List ℕ) → images_3 c → images c)) → OnOk x (BothTold told now (Retires n images_3))
retires_told told told_2 now n k k_3 images images_3 b (Err e) same run r marked run_3 still = tt
retires_told None told_2 now n k k_3 images images_3 b (Ok t) same run r marked run_3 still =
    go now (subst (λ (o : Option (List ℕ)). BothTold o now (λ was c. (j : JournalData) → IsOwn k images was j → has_snap n (entries j) ≡ true → k.mark ≡ None → IsOwn k_3 images_3 c (with_mark_at j n))) same marked)
  where
    go : (now : Option (List ℕ)) → BothTold None now (λ was c. (j : JournalData) → IsOwn k images was j → has_snap n (entries j) ≡ true → k.mark ≡ None → IsOwn k_3 images_3 c (with_mark_at j n)) → BothTold None now (Retires n images_3)
    go None h = tt
    go (Some c) h = h
retires_told (Some was) told_2 now n k k_3 images images_3 b (Ok t) same run r marked run_3 still =
    by_mark k.mark refl (subst (λ (o : Option (List ℕ)). BothTold o now (λ was c. (j : JournalData) → IsOwn k images was j → has_snap n (entries j) ≡ true → k.mark ≡ None → IsOwn k_3 images_3 c (with_mark_at j n))) same marked)
  where
    Marked : List ℕ → List ℕ → Type 0
    Marked was c = (j : JournalData) → IsOwn k images was j → has_snap n (entries j) ≡ true → k.mark ≡ None → IsOwn k_3 images_3 c (with_mark_at j n)

    unmarked : (now : Option (List ℕ)) → k.mark ≡ None → BothTold (Some was) now Marked → BothTold (Some was) now (Retires n images_3)
    unmarked None mark h = h
    unmarked (Some c) mark h =
        let s = stands_marked k_3 images_3 c (with_mark_at r.journal n) run_3 (h r.journal r.own (snap n k images b was r) mark) in
        (r.journal, r.stands, s.0, s.1)

    by_mark : (o : Option ℕ) → k.mark ≡ o → BothTold (Some was) now Marked → BothTold (Some was) now (Retires n images_3)
    by_mark None mark h = unmarked now mark h
    by_mark (Some m) mark h =
        let w = still m mark in
        let s = stands_marked k images was r.journal run r.own in
        let is : with_mark_at r.journal n ≡ r.journal = same_mark r.journal m n (sym r.own.keeps.mark ∙ mark) r.built.own in
        subst (λ (o : Option (List ℕ)). BothTold (Some was) o (Retires n images_3)) (sym (w.0 ∙ same))
        (r.journal, r.stands, s.0 ∙ ap Is (sym is), λ c left. s.1 c (w.1 c left) ∙ ap Is (sym is))
