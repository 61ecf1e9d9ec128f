-- How a run of calls goes on.
use Rattle.std.proofs.Common.{◌≡◌, ◌≤◌, Option, None, Some, option_map, IfSome, sym, ◌∙◌, subst, inl, inr, ⊎_elim, ℕ, List, length, arith}
use Rattle.avm_outside.specs.Outside.{BothTold}
use Rattle.avm_outside.specs.Disk.{Elapses, Follows, Torn, overwritten}
use Rattle.avm_outside.proofs.Tears.{Torn-refl}
use Rattle.avm_outside.specs.Moments.{LeavesOnly, TornFrom}
use Rattle.avm_outside.proofs.Images.{overwritten_torn}

module _ {D : Type 0} (moment : D → ℕ) (left_since : D → ℕ → List ℕ → Type 0) where
  -- before the first call
  pub started : (old : D) (P : List ℕ → Type 0) → ((c : List ℕ) → left_since old (moment old) c → P c) → LeavesOnly moment left_since old old P
  started old P here = record { later = omega arith; each = here; before = λ t c le left. inl left }

  -- one call more, after which a crash leaves what has P
  pub goes_on : (old mid new : D) (P may_leave : List ℕ → Type 0) → LeavesOnly moment left_since old mid P → Elapses (moment mid) (moment new) (left_since mid) (left_since new) may_leave
      → ((c : List ℕ) → may_leave c → P c) → LeavesOnly moment left_since old new P
  goes_on old mid new P may_leave so_far time here = record {
    later = omega (arith, so_far.later, time.later);
    each = λ c left. ⊎_elim (so_far.each c) (here c) (time.nothing_else (moment old) c so_far.later left);
    before = λ t c le left. ⊎_elim (so_far.before t c le) (λ now. inr (here c now)) (time.nothing_else t c (omega (arith, le, so_far.later)) left);
  }

  -- what is said of each image may be said weaker
  pub weaker : (old new : D) (P Q : List ℕ → Type 0) → ((c : List ℕ) → P c → Q c) → LeavesOnly moment left_since old new P → LeavesOnly moment left_since old new Q
  weaker old new P Q so part = record {
    later = part.later;
    each = λ c left. so c (part.each c left);
    before = λ t c le left. ⊎_elim (λ was. inl was) (λ now. inr (so c now)) (part.before t c le left);
  }

  -- one part after another
  pub joined : (old mid new : D) (P : List ℕ → Type 0) → LeavesOnly moment left_since old mid P → LeavesOnly moment left_since mid new P → LeavesOnly moment left_since old new P
  joined old mid new P first second = record {
    later = omega (arith, first.later, second.later);
    each = λ c left. ⊎_elim (first.each c) (λ now. now) (second.before (moment old) c first.later left);
    before = λ t c le left. ⊎_elim (first.before t c le) (λ now. inr now) (second.before t c (omega (arith, le, first.later)) left);
  }

  module _ (may_leave : D → List ℕ → Type 0) (only_now : (d : D) (c : List ℕ) → left_since d (moment d) c → may_leave d c) (at n : ℕ) (old mid : D)
      (crash : Follows (Torn at n) (may_leave old) (may_leave mid)) (time : Elapses (moment old) (moment mid) (left_since old) (left_since mid) (may_leave mid)) where
    -- a write
    pub write_leaves : LeavesOnly moment left_since old mid (TornFrom at n (may_leave old))
    write_leaves = goes_on old old mid (TornFrom at n (may_leave old)) (may_leave mid) (started old _ (λ c left. (c, only_now old c left, Torn-refl at n c))) time crash

    -- and a sync
    pub sync_leaves : (new : D) → ((c : List ℕ) → may_leave new c → may_leave mid c) → Elapses (moment mid) (moment new) (left_since mid) (left_since new) (may_leave new)
        → LeavesOnly moment left_since old new (TornFrom at n (may_leave old))
    sync_leaves new less time_2 = goes_on old mid new (TornFrom at n (may_leave old)) (may_leave new) write_leaves time_2 (λ c left. crash c (less c left))

-- a write that is read, and a sync that failed
pub read_torn : (at : ℕ) (bytes : List ℕ) (told mid new : Option (List ℕ)) → IfSome told (λ was. at ≤ length was) → mid ≡ option_map (overwritten at bytes) told → new ≡ mid → BothTold told new (Torn at (length bytes))
read_torn at bytes None mid new within is same = subst (λ (o : Option (List ℕ)). BothTold None o (Torn at (length bytes))) (sym (same ∙ is)) tt
read_torn at bytes (Some was) mid new within is same = subst (λ (o : Option (List ℕ)). BothTold (Some was) o (Torn at (length bytes))) (sym (same ∙ is)) (overwritten_torn at bytes was within)
