-- What retaining a store leaves of both disks, at any moment.
use Rattle.std.proofs.Common.{◌≡◌, inl, inr, ℕ, true, refl, sym, subst, ◌∙◌, List, drop, Option, None, Some, IfSome, arith}
use Rattle.avm_outside.specs.Moments.{LeavesOnly}
use Rattle.avm_outside.proofs.Runs.{started, weaker, joined}
use Rattle.base_model.specs.Spare.{IsFree, IsSafe, IsWhole, TogetherOnly}
use Rattle.base_write.specs.declared.writing.Base.{Base}
use Rattle.journal_model.specs.Journal.{JournalData, entries, has_snap}
use Rattle.jrnl_store.specs.Kept.{Kept}
use Rattle.jrnl_store.specs.Own.{IsOwn}
use Rattle.jrnl_store.specs.Retiring.{StandsForMarked}
use Rattle.rebut_pass.specs.Reads.{OnlyReads}
use Rattle.spare_disk.specs.Activating.{Each}
use Rattle.store_move.specs.Moving.{IsSpareImage as IsMovingImage}
use Rattle.store_retain.specs.Retaining.{IsSpareImage, IsStoreImage, IsUnmarked, RetainsTogether}
use Rattle.store_retain.proofs.Retained.{Ready, behind_is, goes_on, snap, whole_moved}

-- ---- at any moment

module _ {D : Type 0} (seen : D → Option (List ℕ)) (may_leave : D → List ℕ → Type 0) (moment : D → ℕ) (left_since : D → ℕ → List ℕ → Type 0) (only_now : (d : D) (c : List ℕ) → left_since d (moment d) c → may_leave d c) where
  abbrev pub Reads : D → D → Type 0
  Reads old new = OnlyReads seen may_leave moment left_since old new

  pub reads_twice : (old mid new : D) → Reads old mid → Reads mid new → Reads old new
  reads_twice old mid new a b = record {
    same = b.same ∙ a.same;
    crash = λ c left. a.crash c (b.crash c left);
    later = omega (arith, a.later, b.later);
    moments = λ t c le left. a.moments t c le (b.moments t c (omega (arith, le, a.later)) left);
  }

  pub reads_leave : (old new : D) → Reads old new → LeavesOnly moment left_since old new (may_leave old)
  reads_leave old new r = record {
    later = r.later;
    each = λ c left. only_now old c (r.moments (moment old) c (omega arith) left);
    before = λ t c le left. inl (r.moments t c le left);
  }

  -- the store
  pub store_read : (told : Option (List ℕ)) (n : ℕ) (old new : D) → Reads old new → IfSome told (λ was. LeavesOnly moment left_since old new (IsStoreImage n was (may_leave old)))
  store_read None n old new r = tt
  store_read (Some was) n old new r = weaker moment left_since old new _ _ (λ c left. inl left) (reads_leave old new r)

  pub store_moved : (told told_2 : Option (List ℕ)) (n : ℕ) (k : Kept) (b : Base) (old mid new : D) → told_2 ≡ told → Reads old mid → IfSome told (Ready n k (may_leave mid) b)
      → IfSome told_2 (λ was. (j : JournalData) → IsOwn k (may_leave mid) was j → has_snap n (entries j) ≡ true → k.mark ≡ None → LeavesOnly moment left_since mid new (StandsForMarked j n))
      → ((m : ℕ) → k.mark ≡ Some m → new ≡ mid) → IfSome told (λ was. LeavesOnly moment left_since old new (IsStoreImage n was (may_leave old)))
  store_moved None told_2 n k b old mid new same r ready marks still = tt
  store_moved (Some was) told_2 n k b old mid new same r ready marks still = go k.mark refl
    where
      marks_at : (j : JournalData) → IsOwn k (may_leave mid) was j → has_snap n (entries j) ≡ true → k.mark ≡ None → LeavesOnly moment left_since mid new (StandsForMarked j n)
      marks_at = subst (λ (o : Option (List ℕ)). IfSome o (λ w. (j : JournalData) → IsOwn k (may_leave mid) w j → has_snap n (entries j) ≡ true → k.mark ≡ None → LeavesOnly moment left_since mid new (StandsForMarked j n))) same marks

      reading : LeavesOnly moment left_since old mid (IsStoreImage n was (may_leave old))
      reading = weaker moment left_since old mid _ _ (λ c left. inl left) (reads_leave old mid r)

      go : (o : Option ℕ) → k.mark ≡ o → LeavesOnly moment left_since old new (IsStoreImage n was (may_leave old))
      go None mark = joined moment left_since old mid new _ reading (weaker moment left_since mid new _ _ (λ c here. inr (ready.journal, ready.stands, here)) (marks_at ready.journal ready.own (snap n k (may_leave mid) b was ready) mark))
      go (Some m) mark = subst (λ (d : D). LeavesOnly moment left_since old d (IsStoreImage n was (may_leave old))) (sym (still m mark)) reading

  -- ---- and the spare

  module _ {E : Type 0} (moment_2 : E → ℕ) (left_since_2 : E → ℕ → List ℕ → Type 0) (may_leave_2 : E → List ℕ → Type 0) (only_now_2 : (d : E) (c : List ℕ) → left_since_2 d (moment_2 d) c → may_leave_2 d c) where
    abbrev pub Spares : Option (List ℕ) → Option (List ℕ) → ℕ → E → E → Type 0
    Spares told other n spare last = IfSome told (λ was. IfSome other (λ w. (IsUnmarked was → Each (may_leave_2 spare) IsFree) → LeavesOnly moment_2 left_since_2 spare last (IsSpareImage n was (may_leave_2 spare))))

    pub spare_still : (told other : Option (List ℕ)) (n : ℕ) (spare : E) → Spares told other n spare spare
    spare_still None other n spare = tt
    spare_still (Some was) None n spare = tt
    spare_still (Some was) (Some w) n spare = λ free. started moment_2 left_since_2 spare _ (λ e left. inl (only_now_2 spare e left))

    pub spare_moved : (told other : Option (List ℕ)) (n : ℕ) (k : Kept) (images : List ℕ → Type 0) (b : Base) (spare last : E) → IfSome told (Ready n k images b)
        → IfSome other (λ w. (k.mark ≡ None → Each (may_leave_2 spare) IsFree) → LeavesOnly moment_2 left_since_2 spare last (IsMovingImage (may_leave_2 spare) (drop 1 b.bytes.items))) → Spares told other n spare last
    spare_moved None other n k images b spare last r part = tt
    spare_moved (Some was) None n k images b spare last r part = tt
    spare_moved (Some was) (Some w) n k images b spare last r part = λ free.
        weaker moment_2 left_since_2 spare last _ _ go (part (λ mark. free (r.journal, r.stands, sym r.own.keeps.mark ∙ mark)))
      where
        go : (e : List ℕ) → IsMovingImage (may_leave_2 spare) (drop 1 b.bytes.items) e → IsSpareImage n was (may_leave_2 spare) e
        go e (inl left) = inl left
        go e (inr (inl free)) = inr (inl free)
        go e (inr (inr whole)) =
            let is = subst (λ (l : List ℕ). IsWhole l e) (behind_is n k images b was r) whole in
            inr (inr (r.journal, r.stands, r.built.state, goes_on n k images b was r, is, λ fits. whole_moved n k images b was e r is fits))

    -- ---- both

    abbrev pub Together : D → D → E → E → Type 0
    Together old new spare last = RetainsTogether moment left_since may_leave moment_2 left_since_2 may_leave_2 old new spare last IsSafe

    abbrev pub AreSafe : D → E → Type 0
    AreSafe old spare = (c e : List ℕ) → may_leave old c → may_leave_2 spare e → IsSafe c e

    abbrev pub Told : Option (List ℕ) → Option (List ℕ) → D → D → E → E → Type 0
    Told told other old new spare last = IfSome told (λ was. IfSome other (λ w. AreSafe old spare → (IsUnmarked was → Each (may_leave_2 spare) IsFree) → Together old new spare last))

    reading_safe : (old mid : D) (spare : E) → Reads old mid → AreSafe old spare → LeavesOnly moment left_since old mid (λ c. (e : List ℕ) → may_leave_2 spare e → IsSafe c e)
    reading_safe old mid spare r safe = weaker moment left_since old mid _ _ (λ c left e here. safe c e left here) (reads_leave old mid r)

    -- where nothing is called on the spare
    pub read_told : (told other : Option (List ℕ)) (old mid : D) (spare : E) → Reads old mid → Told told other old mid spare spare
    read_told None other old mid spare r = tt
    read_told (Some was) None old mid spare r = tt
    read_told (Some was) (Some w) old mid spare r = λ safe free. record {
      read = mid;
      reading = reading_safe old mid spare r safe;
      moving = record {
        between = spare;
        first = started moment_2 left_since_2 spare _ (λ e left c here. safe c e (r.crash c here) (only_now_2 spare e left));
        second = started moment left_since mid _ (λ c left e here. safe c e (r.crash c (only_now mid c left)) here);
        third = started moment_2 left_since_2 spare _ (λ e left c here. safe c e (r.crash c here) (only_now_2 spare e left));
      };
    }

    pub together_told : (told told_2 other : Option (List ℕ)) (n : ℕ) (k : Kept) (b : Base) (old mid new : D) (spare last : E) → told_2 ≡ told → Reads old mid → IfSome told (Ready n k (may_leave mid) b)
        → IfSome told_2 (λ was. IfSome other (λ w. (j : JournalData) → IsOwn k (may_leave mid) was j → has_snap n (entries j) ≡ true → (k.mark ≡ None → Each (may_leave_2 spare) IsFree)
        → TogetherOnly moment left_since may_leave moment_2 left_since_2 may_leave_2 mid new spare last IsSafe)) → Told told other old new spare last
    together_told None told_2 other n k b old mid new spare last same r ready part = tt
    together_told (Some was) told_2 None n k b old mid new spare last same r ready part = tt
    together_told (Some was) told_2 (Some w) n k b old mid new spare last same r ready part =
        let p = subst (λ (o : Option (List ℕ)). IfSome o (λ was. (j : JournalData) → IsOwn k (may_leave mid) was j → has_snap n (entries j) ≡ true → (k.mark ≡ None → Each (may_leave_2 spare) IsFree)
        → TogetherOnly moment left_since may_leave moment_2 left_since_2 may_leave_2 mid new spare last IsSafe)) same part in
        λ safe free. record {
          read = mid;
          reading = reading_safe old mid spare r safe;
          moving = p ready.journal ready.own (snap n k (may_leave mid) b was ready) (λ mark. free (ready.journal, ready.stands, sym ready.own.keeps.mark ∙ mark));
        }
