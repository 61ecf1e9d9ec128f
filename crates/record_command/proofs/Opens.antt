-- The store that is opened, and how recording ends where it isn't.
use Rattle.std.proofs.Common.{◌≡◌, ◌⊎◌, ◌≤◌, ℕ, List, [], Option, Some, None, inl, inr, refl, sym, subst, arith}
use Rattle.std.specs.Prelude.{IfSome, Result, Ok, Err}
use Rattle.avm_model.specs.Keys.{KeyData}
use Rattle.avm_script.specs.Script.{ScriptData}
use Rattle.command_parts.specs.declared.fault.Fault.{Fault}
use Rattle.command_parts.specs.declared.fault.Fault.TheVariants as fault
use Rattle.file_outlet.specs.RunFiles.{Held}
use Rattle.rebut_pass.specs.Reads.{OnlyReads}
use Rattle.record_model.specs.Recorded.{Drop}
use Rattle.recorder.specs.Recorder.{desk_of}
use Rattle.recorder.specs.declared.recorder.Recorder.{Recorder}
use Rattle.record_command.specs.Runs.{Leaves, StandsOn, Untouched}
use Rattle.record_command.specs.Stores.{IsOfStore, IsStoreRefusal, OpenAnswers, OpensTo}
use Rattle.record_command.specs.declared.ends.End.{End}
use Rattle.record_command.specs.declared.ends.End.TheVariants.{Recorded, RefusedFile, RefusedNoStore, RefusedDamaged, RefusedRetired, RefusedKey, RefusedJournal, RefusedLeaves, RefusedFull}

-- what was opened, where the disk tells its content
pub is_opened : (was mid : Option (List ℕ)) (k : KeyData) (images : List ℕ → Type 0) (r : Recorder) → mid ≡ was → (desk_of r).press.key ≡ k → IfSome was (λ w. OpenAnswers k images w (Ok (Ok r))) → IfSome mid (λ w. OpensTo (desk_of r).press.key images w (desk_of r))
is_opened was mid k images r same key answers =
    subst (λ (m : Option (List ℕ)). IfSome m (λ w. OpensTo (desk_of r).press.key images w (desk_of r))) (sym same) (go was answers)
  where
    go : (was : Option (List ℕ)) → IfSome was (λ w. OpenAnswers k images w (Ok (Ok r))) → IfSome was (λ w. OpensTo (desk_of r).press.key images w (desk_of r))
    go None answers = tt
    go (Some w) answers = subst (λ (k : KeyData). OpensTo k images w (desk_of r)) (sym key) answers

pub key_leaves : (k own : KeyData) (s : ScriptData) (old new : Held) (was mid now : Option (List ℕ)) (images : List ℕ → Type 0) (drops : List Drop) (r : Result End Fault) → own ≡ k → mid ≡ was → Leaves own s old new mid now images drops r → Leaves k s old new was now images drops r
key_leaves k own s old new was mid now images drops r key same leaves =
    subst (λ (k : KeyData). Leaves k s old new was now images drops r) key (subst (λ (w : Option (List ℕ)). Leaves own s old new w now images drops r) same leaves)

untouched : (h : Held) (was now : Option (List ℕ)) → now ≡ was → Untouched h h was now []
untouched h was now same = record { disk = same; files = refl; none = refl }

-- ---- it isn't opened

pub refused_leaves : (k : KeyData) (s : ScriptData) (h : Held) (was now : Option (List ℕ)) (images before : List ℕ → Type 0) (end : End) → now ≡ was → IsStoreRefusal end → IfSome was (λ w. OpenAnswers k before w (Ok (Err end))) → Leaves k s h h was now images [] (Ok end)
refused_leaves k s h was now images before (Recorded summary) same is answers = absurd is
refused_leaves k s h was now images before (RefusedFile option) same is answers = absurd is
refused_leaves k s h was now images before RefusedNoStore same is answers = (untouched h was now same, answers)
refused_leaves k s h was now images before (RefusedDamaged p) same is answers = (untouched h was now same, answers)
refused_leaves k s h was now images before RefusedRetired same is answers = (untouched h was now same, answers)
refused_leaves k s h was now images before RefusedKey same is answers = (untouched h was now same, answers)
refused_leaves k s h was now images before (RefusedJournal n) same is answers = (untouched h was now same, answers)
refused_leaves k s h was now images before RefusedLeaves same is answers = absurd is
refused_leaves k s h was now images before RefusedFull same is answers = absurd is

pub fault_leaves : (k : KeyData) (s : ScriptData) (h : Held) (was now : Option (List ℕ)) (images : List ℕ → Type 0) (e : Fault) → now ≡ was → IsOfStore e → Leaves k s h h was now images [] (Err e)
fault_leaves k s h was now images fault.NoMemory same is = untouched h was now same
fault_leaves k s h was now images fault.Files same is = absurd is
fault_leaves k s h was now images fault.Disk same is = inl (untouched h was now same)
fault_leaves k s h was now images fault.Sink same is = absurd is

-- ---- at any moment

pub read_moments : {D : Type 0} (seen : D → Option (List ℕ)) (may_leave : D → List ℕ → Type 0) (moment : D → ℕ) (left_since : D → ℕ → List ℕ → Type 0) (x y : D) (k : KeyData) (s : ScriptData) (was : Option (List ℕ)) → OnlyReads seen may_leave moment left_since x y
    → IfSome was (λ w. (t : ℕ) (c : List ℕ) → t ≤ moment x → left_since y t c → left_since x t c ⊎ StandsOn k s w c)
read_moments seen may_leave moment left_since x y k s None reads = tt
read_moments seen may_leave moment left_since x y k s (Some w) reads = λ t c le left. inl (reads.moments t c le left)

leq : (a b c : ℕ) → a ≤ b → b ≤ c → a ≤ c
leq a b c p q = omega (arith, p, q)

pub run_moments : {D : Type 0} (seen : D → Option (List ℕ)) (may_leave : D → List ℕ → Type 0) (moment : D → ℕ) (left_since : D → ℕ → List ℕ → Type 0) (x y z : D) (k own : KeyData) (s : ScriptData) (was mid : Option (List ℕ)) → own ≡ k → mid ≡ was → OnlyReads seen may_leave moment left_since x y
    → IfSome mid (λ w. (t : ℕ) (c : List ℕ) → t ≤ moment y → left_since z t c → left_since y t c ⊎ StandsOn own s w c)
    → IfSome was (λ w. (t : ℕ) (c : List ℕ) → t ≤ moment x → left_since z t c → left_since x t c ⊎ StandsOn k s w c)
run_moments {D} seen may_leave moment left_since x y z k own s was mid key same reads ran =
    go was (subst (λ (k : KeyData). IfSome was (λ w. (t : ℕ) (c : List ℕ) → t ≤ moment y → left_since z t c → left_since y t c ⊎ StandsOn k s w c)) key
    (subst (λ (m : Option (List ℕ)). IfSome m (λ w. (t : ℕ) (c : List ℕ) → t ≤ moment y → left_since z t c → left_since y t c ⊎ StandsOn own s w c)) same ran))
  where
    first : (A B P : Type 0) → (A → B) → A ⊎ P → B ⊎ P
    first A B P f (inl a) = inl (f a)
    first A B P f (inr p) = inr p

    go : (was : Option (List ℕ)) → IfSome was (λ w. (t : ℕ) (c : List ℕ) → t ≤ moment y → left_since z t c → left_since y t c ⊎ StandsOn k s w c)
        → IfSome was (λ w. (t : ℕ) (c : List ℕ) → t ≤ moment x → left_since z t c → left_since x t c ⊎ StandsOn k s w c)
    go None ran = tt
    go (Some w) ran = λ t c le left. first (left_since y t c) (left_since x t c) (StandsOn k s w c) (reads.moments t c le) (ran t c (leq t (moment x) (moment y) le reads.later) left)
