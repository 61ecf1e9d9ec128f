-- What a batch that is refused leaves of the disk.
use Rattle.std.proofs.Common.{◌≡◌, ℕ, List, ◌∷◌, ◌++◌, length, take, Option, None, Some, IfSome, Err, sym, ap, subst, ◌∙◌}
use Rattle.std.proofs.Math.Seq.{take-append_seam}
use Rattle.avm_outside.specs.Moments.{IsShut, Reaches}
use Rattle.journal_model.specs.Journal.{JournalData}
use Rattle.jrnl_store.proofs.Commits.{shut_stands}
use Rattle.jrnl_store.specs.Kept.{Kept}
use Rattle.jrnl_store.specs.Own.{CommitCause, CommitLeaves, IsOwn, WhereRefused}
use Rattle.jrnl_store.specs.declared.fault.StoreFault.{StoreFault}
use Rattle.jrnl_store.specs.declared.fault.StoreFault.TheVariants as fault
use Rattle.jrnl_store.specs.declared.fault.Stop.{Stop}
use Rattle.jrnl_store.specs.declared.fault.Stop.TheVariants.{LeavesSpent, Full, DiskFault, OutletFault, FeedFault}
use Rattle.record_store.specs.Saving.{StandsStill, WhereUnsaved, why_of}

-- the bytes before the gate are one list
front_at : (n : ℕ) (front was : List ℕ) → length front ≡ n → Reaches front was → take n was ≡ front
front_at n front was e r =
    ap (take n) r.2 ∙ ap (λ (m : ℕ). take m (front ++ r.0 ∷ r.1)) (sym e) ∙ take-append_seam front (r.0 ∷ r.1)

-- a journal that stopped on a disk that it left as it was, behind a closed gate
pub still : (k n : Kept) (stop : Option Stop) (images : List ℕ → Type 0) (told : Option (List ℕ)) → k.stop ≡ None → IfSome told (λ was. (j : JournalData) × IsOwn k images was j) → n ≡ record k { stop = stop } → StandsStill n images told
still k n stop images None run own is = tt
still k n stop images (Some was) run own is = λ j o.
    let gate : n.gate ≡ k.gate = ap (λ (x : Kept). x.gate) is in
    let same : own.1.front ≡ o.front = sym (front_at k.gate own.1.front was own.1.place own.1.read) ∙ front_at k.gate o.front was (o.place ∙ gate) o.read in (
      shut_stands j o.front was o.stands o.begun (subst (λ (f : List ℕ). IsShut f was) same (own.1.shut run)),
      λ c left. shut_stands j o.front c o.stands o.begun (subst (λ (f : List ℕ). IsShut f c) same (own.1.left_shut run c left)),
    )

-- what stays on a disk that a refused commit left as it was
pub unsaved : (S T : Type 0) (k n : Kept) (items : List ℕ) (fault : StoreFault) (Quiet P : Type 0) → k.stop ≡ None → CommitCause {T = S} k items (Err fault) → CommitLeaves {T = S} k items n (Err fault) → WhereRefused {T = S} (Err fault) Quiet
    → ((stop : Option Stop) → n ≡ record k { stop = stop } → Quiet → P) → WhereUnsaved {T = T} (Err (why_of fault)) P
unsaved S T k n items fault.NoMemory Quiet P run cause leaves quiet f = tt
unsaved S T k n items fault.DiskFault Quiet P run cause leaves quiet f = tt
unsaved S T k n items fault.NotEmpty Quiet P run cause leaves quiet f = tt
unsaved S T k n items fault.NoStore Quiet P run cause leaves quiet f = tt
unsaved S T k n items (fault.Damaged p) Quiet P run cause leaves quiet f = tt
unsaved S T k n items fault.LeavesSpent Quiet P run cause leaves quiet f = f (Some LeavesSpent) leaves quiet
unsaved S T k n items fault.Full Quiet P run cause leaves quiet f = f (Some Full) leaves quiet
unsaved S T k n items (fault.Ended s) Quiet P run cause leaves quiet f = absurd (let e : None ≡ Some s = sym run ∙ cause in cc e)

-- whatever is answered where nothing stops the call
pub unsaved_alike : (T U : Type 0) (stop : Stop) (P : Type 0) → WhereUnsaved {T = T} (Err stop) P → WhereUnsaved {T = U} (Err stop) P
unsaved_alike T U LeavesSpent P h = h
unsaved_alike T U Full P h = h
unsaved_alike T U DiskFault P h = h
unsaved_alike T U OutletFault P h = h
unsaved_alike T U FeedFault P h = h
