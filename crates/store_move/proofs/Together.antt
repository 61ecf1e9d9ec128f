-- Two disks of which at most one opens: the spare is prepared, the store is marked, and the spare is activated.
use Rattle.std.proofs.Common.{◌≡◌, inl, inr, ℕ, true, refl, sym, ◌∙◌, subst, List, Option, None, Some, IfSome}
use Rattle.avm_outside.specs.Outside.{BothTold}
use Rattle.avm_outside.specs.Moments.{LeavesOnly}
use Rattle.avm_outside.proofs.Runs.{started, weaker, joined}
use Rattle.base_model.specs.Spare.{IsFree, IsPrepared, IsWhole, IsRetired, IsSafe, TogetherOnly}
use Rattle.journal_model.specs.Journal.{JournalData, entries, has_snap}
use Rattle.jrnl_store.specs.Kept.{Kept}
use Rattle.jrnl_store.specs.Own.{IsOwn}
use Rattle.jrnl_store.specs.Retiring.{StandsForMarked, with_mark_at}
use Rattle.jrnl_store.proofs.Commits.{shut_stands}
use Rattle.spare_disk.specs.Activating.{Each, IsPreparedOrWhole}

-- each image of a store with a mark is retired
pub own_retired : (k : Kept) (images : List ℕ → Type 0) (was : List ℕ) (j : JournalData) (n : ℕ) → k.stop ≡ None → IsOwn k images was (with_mark_at j n) → Each images IsRetired
own_retired k images was j n run own c left =
    (with_mark_at j n, n, shut_stands (with_mark_at j n) own.front c own.stands own.begun (own.left_shut run c left), refl)

-- and so is each of one whose journal has a mark already
pub own_marked : (k : Kept) (images : List ℕ → Type 0) (was : List ℕ) (j : JournalData) (n : ℕ) → k.stop ≡ None → k.mark ≡ Some n → IsOwn k images was j → Each images IsRetired
own_marked k images was j n run mark own c left =
    (j, n, shut_stands j own.front c own.stands own.begun (own.left_shut run c left), sym own.keeps.mark ∙ mark)

module _ {D E : Type 0} (moment : D → ℕ) (left_since : D → ℕ → List ℕ → Type 0) (may_leave : D → List ℕ → Type 0) (only_now : (d : D) (c : List ℕ) → left_since d (moment d) c → may_leave d c)
    (moment_2 : E → ℕ) (left_since_2 : E → ℕ → List ℕ → Type 0) (may_leave_2 : E → List ℕ → Type 0) (only_now_2 : (d : E) (c : List ℕ) → left_since_2 d (moment_2 d) c → may_leave_2 d c) where
  abbrev pub Apart : D → D → E → E → Type 0
  Apart old new other other_new = TogetherOnly moment left_since may_leave moment_2 left_since_2 may_leave_2 old new other other_new IsSafe

  abbrev pub StaysFree : E → E → Type 0
  StaysFree other mid = LeavesOnly moment_2 left_since_2 other mid IsFree × Each (may_leave_2 mid) IsFree

  -- the spare is prepared
  first_apart : (old : D) (other mid : E) → StaysFree other mid → Apart old old other mid
  first_apart old other mid part = record {
    between = mid;
    first = weaker moment_2 left_since_2 other mid _ _ (λ e free c left. inl free) part.0;
    second = started moment left_since old _ (λ c left e here. inl (part.1 e here));
    third = started moment_2 left_since_2 mid _ (λ e left c here. inl (part.1 e (only_now_2 mid e left)));
  }

  -- and the mark is written, or not
  second_apart : (Q : List ℕ → Type 0) (old new : D) (other mid : E) → StaysFree other mid → LeavesOnly moment left_since old new Q → Apart old new other mid
  second_apart Q old new other mid part mark = record {
    between = mid;
    first = weaker moment_2 left_since_2 other mid _ _ (λ e free c left. inl free) part.0;
    second = weaker moment left_since old new _ _ (λ c q e here. inl (part.1 e here)) mark;
    third = started moment_2 left_since_2 mid _ (λ e left c here. inl (part.1 e (only_now_2 mid e left)));
  }

  -- and the spare is written while each image of the store has the mark
  third_apart : (Q R : List ℕ → Type 0) (old new : D) (other mid last : E) → StaysFree other mid → LeavesOnly moment left_since old new Q → Each (may_leave new) IsRetired → LeavesOnly moment_2 left_since_2 mid last R → Apart old new other last
  third_apart Q R old new other mid last part mark retired active = record {
    between = mid;
    first = weaker moment_2 left_since_2 other mid _ _ (λ e free c left. inl free) part.0;
    second = weaker moment left_since old new _ _ (λ c q e here. inl (part.1 e here)) mark;
    third = weaker moment_2 left_since_2 mid last _ _ (λ e r c here. inr (retired c here)) active;
  }

  -- ---- of disks that may tell their bytes

  abbrev pub Told : Kept → ℕ → D → D → E → E → Option (List ℕ) → Option (List ℕ) → Type 0
  Told k at old new other last told told_2 =
      IfSome told (λ was. IfSome told_2 (λ w. (j : JournalData) → IsOwn k (may_leave old) was j → has_snap at (entries j) ≡ true → Each (may_leave_2 other) IsFree → Apart old new other last))

  abbrev pub Prepares : E → E → Option (List ℕ) → Type 0
  Prepares other mid told_2 = IfSome told_2 (λ w. Each (may_leave_2 other) IsFree → StaysFree other mid)

  abbrev pub Marks : Kept → ℕ → D → D → Option (List ℕ) → Type 0
  Marks k at old new told = IfSome told (λ was. (j : JournalData) → IsOwn k (may_leave old) was j → has_snap at (entries j) ≡ true → k.stop ≡ None → LeavesOnly moment left_since old new (StandsForMarked j at))

  abbrev pub Marked : Kept → Kept → ℕ → D → D → Option (List ℕ) → Option (List ℕ) → Type 0
  Marked k k_2 at old new told now = BothTold told now (λ was n. (j : JournalData) → IsOwn k (may_leave old) was j → has_snap at (entries j) ≡ true → IsOwn k_2 (may_leave new) n (with_mark_at j at))

  pub first_told : (k : Kept) (at : ℕ) (old : D) (other mid : E) (told told_2 : Option (List ℕ)) → Prepares other mid told_2 → Told k at old old other mid told told_2
  first_told k at old other mid None told_2 part = tt
  first_told k at old other mid (Some was) None part = tt
  first_told k at old other mid (Some was) (Some w) part = λ j own snap free. first_apart old other mid (part free)

  pub second_told : (k : Kept) (at : ℕ) (old new : D) (other mid : E) (told told_2 : Option (List ℕ)) → k.stop ≡ None → Prepares other mid told_2 → Marks k at old new told → Told k at old new other mid told told_2
  second_told k at old new other mid None told_2 run part marks = tt
  second_told k at old new other mid (Some was) None run part marks = tt
  second_told k at old new other mid (Some was) (Some w) run part marks = λ j own snap free. second_apart _ old new other mid (part free) (marks j own snap run)

  pub third_told : (k k_2 : Kept) (at : ℕ) (behind : List ℕ) (old new : D) (other mid last : E) (told now told_2 now_2 : Option (List ℕ)) → k.stop ≡ None → k_2.stop ≡ None → Prepares other mid told_2 → Marks k at old new told → Marked k k_2 at old new told now
      → BothTold told_2 now_2 (λ was n. IsPrepared behind n × Each (may_leave_2 mid) (λ c. c ≡ n))
      → IfSome now_2 (λ was. (b : List ℕ) → Each (may_leave_2 mid) (IsPrepared b) → LeavesOnly moment_2 left_since_2 mid last (IsPreparedOrWhole b)) → Told k at old new other last told told_2
  third_told k k_2 at behind old new other mid last None now told_2 now_2 run run_2 part marks marked ready active = tt
  third_told k k_2 at behind old new other mid last (Some was) now None now_2 run run_2 part marks marked ready active = tt
  third_told k k_2 at behind old new other mid last (Some was) None (Some w) now_2 run run_2 part marks marked ready active = absurd marked
  third_told k k_2 at behind old new other mid last (Some was) (Some n) (Some w) None run run_2 part marks marked ready active = absurd ready
  third_told k k_2 at behind old new other mid last (Some was) (Some n) (Some w) (Some m) run run_2 part marks marked ready active = λ j own snap free.
      third_apart _ _ old new other mid last (part free) (marks j own snap run) (own_retired k_2 (may_leave new) n j at run_2 (marked j own snap))
      (active behind (λ c left. subst (IsPrepared behind) (sym (ready.1 c left)) ready.0))

  -- ---- behind a spare whose kind was read

  marked_apart : (Q : List ℕ → Type 0) (old : D) (other last : E) → Each (may_leave old) IsRetired → LeavesOnly moment_2 left_since_2 other last Q → Apart old old other last
  marked_apart Q old other last retired part = record {
    between = last;
    first = weaker moment_2 left_since_2 other last _ _ (λ e q c left. inr (retired c left)) part;
    second = started moment left_since old _ (λ c left e here. inr (retired c (only_now old c left)));
    third = started moment_2 left_since_2 last _ (λ e left c here. inr (retired c here));
  }

  unmarked_apart : (old : D) (other last : E) → Each (may_leave_2 other) IsFree → ((e : List ℕ) → may_leave_2 last e → may_leave_2 other e) → LeavesOnly moment_2 left_since_2 other last (may_leave_2 other) → Apart old old other last
  unmarked_apart old other last free crash part = first_apart old other last (weaker moment_2 left_since_2 other last _ _ (λ e here. free e here) part, λ e left. free e (crash e left))

  behind_kind : (old new : D) (other mid last : E) → Each (may_leave_2 other) IsFree → LeavesOnly moment_2 left_since_2 other mid (may_leave_2 other) → Apart old new mid last → Apart old new other last
  behind_kind old new other mid last free part a = record {
    between = a.between;
    first = joined moment_2 left_since_2 other mid a.between _ (weaker moment_2 left_since_2 other mid _ _ (λ e here c left. inl (free e here)) part) a.first;
    second = a.second;
    third = a.third;
  }

  -- a spare that may begin as a journal stands beside a store with the mark
  abbrev pub Whole : Kept → ℕ → D → D → E → E → Option (List ℕ) → Option (List ℕ) → Type 0
  Whole k at old new other last told told_2 =
      IfSome told (λ was. IfSome told_2 (λ w. (j : JournalData) → IsOwn k (may_leave old) was j → has_snap at (entries j) ≡ true → (k.mark ≡ None → Each (may_leave_2 other) IsFree) → Apart old new other last))

  abbrev pub Lessened : E → E → Type 0
  Lessened other mid = ((e : List ℕ) → may_leave_2 mid e → may_leave_2 other e) × LeavesOnly moment_2 left_since_2 other mid (may_leave_2 other)

  -- where nothing was called
  pub still_told : (k : Kept) (at : ℕ) (old : D) (other : E) (told told_2 : Option (List ℕ)) → Told k at old old other other told told_2
  still_told k at old other None told_2 = tt
  still_told k at old other (Some was) None = tt
  still_told k at old other (Some was) (Some w) = λ j own snap free. unmarked_apart old other other free (λ e left. left) (started moment_2 left_since_2 other (may_leave_2 other) (λ e left. only_now_2 other e left))

  -- where the spare was only read
  pub read_whole : (k : Kept) (at : ℕ) (mark : Option ℕ) (old : D) (other last : E) (told told_2 : Option (List ℕ)) → k.stop ≡ None → k.mark ≡ mark → Lessened other last → Whole k at old old other last told told_2
  read_whole k at mark old other last None told_2 run is less = tt
  read_whole k at mark old other last (Some was) None run is less = tt
  read_whole k at None old other last (Some was) (Some w) run is less = λ j own snap free. unmarked_apart old other last (free is) less.0 less.1
  read_whole k at (Some n) old other last (Some was) (Some w) run is less = λ j own snap free. marked_apart _ old other last (own_marked k (may_leave old) was j n run is own) less.1

  -- where a move that was cut was ended
  pub ended_whole : (k : Kept) (at n : ℕ) (old : D) (other mid last : E) (told told_2 mid_2 : Option (List ℕ)) → k.stop ≡ None → k.mark ≡ Some n → mid_2 ≡ told_2 → Lessened other mid → IfSome mid_2 (λ w. LeavesOnly moment_2 left_since_2 mid last (λ e. Unit {0}))
      → Whole k at old old other last told told_2
  ended_whole k at n old other mid last None told_2 mid_2 run is same less ended = tt
  ended_whole k at n old other mid last (Some was) None mid_2 run is same less ended = tt
  ended_whole k at n old other mid last (Some was) (Some w) mid_2 run is same less ended =
      let part = subst (λ (o : Option (List ℕ)). IfSome o (λ w. LeavesOnly moment_2 left_since_2 mid last (λ e. Unit {0}))) same ended in
      λ j own snap free. marked_apart (λ e. Unit {0}) old other last (own_marked k (may_leave old) was j n run is own) (joined moment_2 left_since_2 other mid last _ (weaker moment_2 left_since_2 other mid _ (λ e. Unit {0}) (λ e here. tt) less.1) part)

  -- where the store moves
  pub moved_whole : (k : Kept) (at : ℕ) (old new : D) (other mid last : E) (told told_2 mid_2 : Option (List ℕ)) → k.mark ≡ None → mid_2 ≡ told_2 → Lessened other mid → Told k at old new mid last told mid_2 → Whole k at old new other last told told_2
  moved_whole k at old new other mid last None told_2 mid_2 is same less moved = tt
  moved_whole k at old new other mid last (Some was) None mid_2 is same less moved = tt
  moved_whole k at old new other mid last (Some was) (Some w) mid_2 is same less moved =
      let t = subst (λ (o : Option (List ℕ)). Told k at old new mid last (Some was) o) same moved in
      λ j own snap free. behind_kind old new other mid last (free is) less.1 (t j own snap (λ e left. free is e (less.0 e left)))

-- what `activate` needs
pub ready : (behind : List ℕ) (images : List ℕ → Type 0) (told now : Option (List ℕ)) → BothTold told now (λ was n. IsPrepared behind n × Each images (λ c. c ≡ n)) → IfSome now (λ n. (b : List ℕ) × IsPrepared b n × Each images (IsPrepared b))
ready behind images None None r = tt
ready behind images None (Some n) r = absurd r
ready behind images (Some w) None r = tt
ready behind images (Some w) (Some n) r = (behind, r.0, λ c left. subst (IsPrepared behind) (sym (r.1 c left)) r.0)

-- and what it leaves
pub whole : (behind : List ℕ) (images images_2 : List ℕ → Type 0) (told mid now : Option (List ℕ)) → BothTold told mid (λ was n. IsPrepared behind n × Each images (λ c. c ≡ n))
    → BothTold mid now (λ was n. (b : List ℕ) → IsPrepared b was → IsWhole b n × Each images_2 (λ c. c ≡ n)) → BothTold told now (λ was n. IsWhole behind n × Each images_2 (λ c. c ≡ n))
whole behind images images_2 None (Some m) now p w = absurd p
whole behind images images_2 (Some t) None now p w = absurd p
whole behind images images_2 None None (Some n) p w = absurd w
whole behind images images_2 None None None p w = tt
whole behind images images_2 (Some t) (Some m) None p w = absurd w
whole behind images images_2 (Some t) (Some m) (Some n) p w = w behind p.0
