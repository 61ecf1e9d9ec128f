-- What each of two disks may have at any moment, while a store moves.
use Rattle.std.proofs.Common.{◌≡◌, inl, inr, ⊎_elim, ℕ, true, sym, subst, List, Option, None, Some, IfSome}
use Rattle.avm_outside.specs.Outside.{BothTold}
use Rattle.avm_outside.specs.Moments.{LeavesOnly}
use Rattle.avm_outside.proofs.Runs.{started, weaker, joined}
use Rattle.base_model.specs.Spare.{IsFree, IsPrepared}
use Rattle.journal_model.specs.Journal.{JournalData, entries, has_snap}
use Rattle.jrnl_store.specs.Kept.{Kept}
use Rattle.jrnl_store.specs.Own.{IsOwn}
use Rattle.jrnl_store.specs.Retiring.{StandsForMarked}
use Rattle.jrnl_store.proofs.Commits.{shut_stands}
use Rattle.spare_base.proofs.SpareKinds.{prepared_free}
use Rattle.spare_base.specs.declared.kind.Spare.{Spare}
use Rattle.spare_base.specs.declared.kind.Spare.TheVariants as spare
use Rattle.spare_disk.specs.Activating.{Each, IsPreparedOrWhole}
use Rattle.store_move.specs.Moving.{IsFreeOrWhole, IsSpareImage}
use Rattle.store_move.proofs.Answering.{IsSeen}

-- ---- the store

module _ {D : Type 0} (moment : D → ℕ) (left_since : D → ℕ → List ℕ → Type 0) (may_leave : D → List ℕ → Type 0) (only_now : (d : D) (c : List ℕ) → left_since d (moment d) c → may_leave d c) where
  abbrev pub Stands : Kept → ℕ → D → D → Option (List ℕ) → Type 0
  Stands k at old new told = IfSome told (λ was. (j : JournalData) → IsOwn k (may_leave old) was j → has_snap at (entries j) ≡ true → LeavesOnly moment left_since old new (StandsForMarked j at))

  -- where nothing was called
  pub stands_still : (k : Kept) (at : ℕ) (old : D) (told : Option (List ℕ)) → k.stop ≡ None → Stands k at old old told
  stands_still k at old None run = tt
  stands_still k at old (Some was) run = λ j own snap. started moment left_since old _ (λ c left. inl (shut_stands j own.front c own.stands own.begun (own.left_shut run c (only_now old c left))))

  -- where the mark was written, or not
  pub stands_marked : (k : Kept) (at : ℕ) (old new : D) (told : Option (List ℕ)) → k.stop ≡ None
      → IfSome told (λ was. (j : JournalData) → IsOwn k (may_leave old) was j → has_snap at (entries j) ≡ true → k.stop ≡ None → LeavesOnly moment left_since old new (StandsForMarked j at)) → Stands k at old new told
  stands_marked k at old new None run marks = tt
  stands_marked k at old new (Some was) run marks = λ j own snap. marks j own snap run

  -- of a store without a mark
  pub stands_unmarked : (k : Kept) (at : ℕ) (old new : D) (told : Option (List ℕ)) → Stands k at old new told
      → IfSome told (λ was. (j : JournalData) → IsOwn k (may_leave old) was j → has_snap at (entries j) ≡ true → k.mark ≡ None → LeavesOnly moment left_since old new (StandsForMarked j at))
  stands_unmarked k at old new None stands = tt
  stands_unmarked k at old new (Some was) stands = λ j own snap mark. stands j own snap

-- ---- the spare

module _ {E : Type 0} (moment : E → ℕ) (left_since : E → ℕ → List ℕ → Type 0) (may_leave : E → List ℕ → Type 0) (only_now : (d : E) (c : List ℕ) → left_since d (moment d) c → may_leave d c) where
  abbrev pub Lessened : E → E → Type 0
  Lessened other mid = ((e : List ℕ) → may_leave mid e → may_leave other e) × LeavesOnly moment left_since other mid (may_leave other)

  abbrev pub Prepares : E → E → Option (List ℕ) → Type 0
  Prepares other mid told = IfSome told (λ w. Each (may_leave other) IsFree → LeavesOnly moment left_since other mid IsFree × Each (may_leave mid) IsFree)

  -- what a spare that was free has
  abbrev pub FreeSince : List ℕ → E → E → Option (List ℕ) → Type 0
  FreeSince behind other last told = IfSome told (λ w. Each (may_leave other) IsFree → LeavesOnly moment left_since other last (IsFreeOrWhole behind))

  pub free_still : (behind : List ℕ) (other : E) (told : Option (List ℕ)) → FreeSince behind other other told
  free_still behind other None = tt
  free_still behind other (Some w) = λ free. started moment left_since other _ (λ e left. inl (free e (only_now other e left)))

  pub free_first : (behind : List ℕ) (other mid : E) (told : Option (List ℕ)) → Prepares other mid told → FreeSince behind other mid told
  free_first behind other mid None part = tt
  free_first behind other mid (Some w) part = λ free. weaker moment left_since other mid _ _ (λ e is. inl is) (part free).0

  free_or_whole : (behind e : List ℕ) → IsPreparedOrWhole behind e → IsFreeOrWhole behind e
  free_or_whole behind e (inl prepared) = inl (prepared_free behind e prepared)
  free_or_whole behind e (inr whole) = inr whole

  pub free_third : (behind : List ℕ) (other mid last : E) (told now : Option (List ℕ)) → Prepares other mid told → BothTold told now (λ was n. IsPrepared behind n × Each (may_leave mid) (λ c. c ≡ n))
      → IfSome now (λ was. (b : List ℕ) → Each (may_leave mid) (IsPrepared b) → LeavesOnly moment left_since mid last (IsPreparedOrWhole b)) → FreeSince behind other last told
  free_third behind other mid last None now part ready active = tt
  free_third behind other mid last (Some w) None part ready active = absurd ready
  free_third behind other mid last (Some w) (Some n) part ready active = λ free.
      joined moment left_since other mid last _ (weaker moment left_since other mid _ _ (λ e is. inl is) (part free).0)
      (weaker moment left_since mid last _ _ (free_or_whole behind) (active behind (λ c left. subst (IsPrepared behind) (sym (ready.1 c left)) ready.0)))

  -- ---- whose kind was read

  -- what a spare of any kind has
  abbrev pub Since : (mark : Option ℕ) → List ℕ → E → E → Option (List ℕ) → Type 0
  Since mark behind other last told = IfSome told (λ w. (mark ≡ None → Each (may_leave other) IsFree) → LeavesOnly moment left_since other last (IsSpareImage (may_leave other) behind))

  pub since_read : (mark : Option ℕ) (behind : List ℕ) (other mid : E) (told : Option (List ℕ)) → Lessened other mid → Since mark behind other mid told
  since_read mark behind other mid None less = tt
  since_read mark behind other mid (Some w) less = λ free. weaker moment left_since other mid _ _ (λ e is. inl is) less.1

  pub since_moved : (mark : Option ℕ) (behind : List ℕ) (other mid last : E) (told mid_2 : Option (List ℕ)) → mark ≡ None → mid_2 ≡ told → Lessened other mid → FreeSince behind mid last mid_2 → Since mark behind other last told
  since_moved mark behind other mid last None mid_2 is same less moved = tt
  since_moved mark behind other mid last (Some w) mid_2 is same less moved =
      let m = subst (FreeSince behind mid last) same moved in
      λ free. joined moment left_since other mid last _ (weaker moment left_since other mid _ _ (λ e was. inl was) less.1) (weaker moment left_since mid last _ _ (λ e here. inr here) (m (λ e left. free is e (less.0 e left))))

  -- what the end of a move leaves of it
  abbrev pub Ends : Spare → E → E → Option (List ℕ) → Type 0
  Ends kind mid last told = IfSome told (λ w. (b : List ℕ) → (kind ≡ spare.Prepared → Each (may_leave mid) (IsPrepared b)) → LeavesOnly moment left_since mid last (IsSpareImage (may_leave mid) b))

  pub ends_still : (kind : Spare) (mid : E) (told : Option (List ℕ)) → Ends kind mid mid told
  ends_still kind mid None = tt
  ends_still kind mid (Some w) = λ b prepared. started moment left_since mid _ (λ e left. inl (only_now mid e left))

  pub ends_active : (kind : Spare) (mid last : E) (told : Option (List ℕ)) → kind ≡ spare.Prepared → IfSome told (λ was. (b : List ℕ) → Each (may_leave mid) (IsPrepared b) → LeavesOnly moment left_since mid last (IsPreparedOrWhole b)) → Ends kind mid last told
  ends_active kind mid last None is active = tt
  ends_active kind mid last (Some w) is active = λ b prepared. weaker moment left_since mid last _ _ (λ e here. inr (free_or_whole b e here)) (active b (prepared is))

  each_prepared : (header behind w : List ℕ) (images : List ℕ → Type 0) (kind : Spare) → IsSeen header behind images kind w → kind ≡ spare.Prepared → Each images (IsPrepared behind)
  each_prepared header behind w images kind seen is =
      let s = subst (λ (k : Spare). IsSeen header behind images k w) is seen in
      λ c left. subst (IsPrepared behind) (sym (s.1 c left)) s.0.1

  pub since_ended : (mark : Option ℕ) (header behind : List ℕ) (other mid last : E) (told mid_2 : Option (List ℕ)) (kind : Spare) → mid_2 ≡ told → Lessened other mid → IfSome told (IsSeen header behind (may_leave mid) kind) → Ends kind mid last mid_2 → Since mark behind other last told
  since_ended mark header behind other mid last None mid_2 kind same less seen ends = tt
  since_ended mark header behind other mid last (Some w) mid_2 kind same less seen ends =
      let m = subst (Ends kind mid last) same ends in
      λ free. joined moment left_since other mid last _ (weaker moment left_since other mid _ _ (λ e was. inl was) less.1)
      (weaker moment left_since mid last _ _ (λ e here. ⊎_elim (λ was. inl (less.0 e was)) (λ now. inr now) here) (m behind (each_prepared header behind w (may_leave mid) kind seen)))
