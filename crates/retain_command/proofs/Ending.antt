-- How retaining a store comes to its end, and what its statuses say.
use Rattle.std.proofs.Common.{◌≡◌, ◌≢◌, ◌⊎◌, inl, inr, ℕ, List, Option, None, Some, IfSome, sym, subst, ◌∙◌, OnOk}
use Rattle.std.specs.Prelude.{Ok, Err}
use Rattle.avm_outside.specs.Outside.{BothTold, Rises}
use Rattle.retain_command.specs.Ends.{Answer}
use Rattle.retain_command.specs.Meaning.{RetainMeans}
use Rattle.retain_command.specs.Outcomes.{Counted, HasNumber, IsSaidOf, RetainEnds, Says, Told, Untouched}
use Rattle.store_move.specs.Moving.{MoveCounts}
use Rattle.store_move.specs.declared.fault.RetainFault.TheVariants as fault
use Rattle.store_retain.specs.Retaining.{Opens, RetainAnswers, Retires, WhereLeft}

-- want of memory is said of any store
nothing_told : (store : Option (List ℕ)) → IfSome store (λ was. Unit {0})
nothing_told None = tt
nothing_told (Some was) = tt

-- what an answer tells of both disks and the counts
pub record Answered (at : ℕ) (store spare : Told) (u : Untouched) (n : Counted) (answer : Answer) : Type 0 where
  pub gives : IfSome store.was (λ was. RetainAnswers at was spare.was answer)
  pub opens : OnOk answer (IfSome store.was (λ was. BothTold spare.was spare.now (Opens at was spare.images)))
  pub retires : OnOk answer (BothTold store.was store.now (Retires at store.images))
  pub left : WhereLeft answer u.reads u.quiet u.same
  pub counts : MoveCounts n.disk_before n.disk_now n.spare_before n.spare_now answer

-- memory is wanted before anything is done
pub wanting : (at : ℕ) (store spare : Told) (u : Untouched) (n : Counted) → u.reads → u.quiet → n.disk_now ≡ n.disk_before → n.spare_now ≡ n.spare_before → Answered at store spare u n (Err fault.NoMemory)
wanting at store spare u n reads quiet d s = record { gives = nothing_told store.was; opens = tt; retires = tt; left = (reads, quiet); counts = (d, s) }

-- a refusal for whose line memory is wanted
unsaid : (at : ℕ) (store spare : Told) (u : Untouched) (n : Counted) (answer : Answer) → HasNumber answer → Answered at store spare u n answer → Answered at store spare u n (Err fault.NoMemory)
unsaid at store spare u n (Ok t) has is = absurd has
unsaid at store spare u n (Err fault.NoMemory) has is = absurd has
unsaid at store spare u n (Err fault.DiskFault) has is = absurd has
unsaid at store spare u n (Err fault.SpareFault) has is = absurd has
unsaid at store spare u n (Err fault.NoStore) has is = absurd has
unsaid at store spare u n (Err (fault.Damaged w)) has is = record { gives = nothing_told store.was; opens = tt; retires = tt; left = is.left; counts = is.counts }
unsaid at store spare u n (Err (fault.Unreplayed w)) has is = record { gives = nothing_told store.was; opens = tt; retires = tt; left = is.left; counts = is.counts }
unsaid at store spare u n (Err fault.Range) has is = absurd has
unsaid at store spare u n (Err fault.NotEmpty) has is = absurd has
unsaid at store spare u n (Err fault.Full) has is = absurd has
unsaid at store spare u n (Err fault.OtherSpare) has is = absurd has

ended : (at : ℕ) (store spare : Told) (u : Untouched) (n : Counted) (before after : Option (List ℕ)) (result : ℕ) (answer : Answer) → Answered at store spare u n answer → Says at answer n.out_before n.out_now before after result → RetainEnds at store spare u n before after result
ended at store spare u n before after result answer is says = record { answer = answer; gives = is.gives; opens = is.opens; retires = is.retires; left = is.left; counts = is.counts; said = says }

pub said_end : (at : ℕ) (store spare : Told) (u : Untouched) (n : Counted) (before after : Option (List ℕ)) (result : ℕ) (answer : Answer) → Answered at store spare u n answer → (said : Answer) → IsSaidOf answer said → Says at said n.out_before n.out_now before after result → RetainEnds at store spare u n before after result
said_end at store spare u n before after result answer is said (inl same) says = ended at store spare u n before after result answer is (subst (λ (r : Answer). Says at r n.out_before n.out_now before after result) same says)
said_end at store spare u n before after result answer is said (inr (same, has)) says = ended at store spare u n before after result (Err fault.NoMemory) (unsaid at store spare u n answer has is) (subst (λ (r : Answer). Says at r n.out_before n.out_now before after result) same says)

-- ---- the status 4

pub only_four : (at : ℕ) (store spare : Told) (u : Untouched) (n : Counted) (before after : Option (List ℕ)) (result : ℕ) → RetainEnds at store spare u n before after result → result ≡ 4 → Rises n.disk_before n.disk_now ⊎ (Rises n.spare_before n.spare_now ⊎ Rises n.out_before n.out_now)
only_four at store spare u n before after result e four = go e.answer e.counts e.said
  where
    go : (r : Answer) → MoveCounts n.disk_before n.disk_now n.spare_before n.spare_now r → Says at r n.out_before n.out_now before after result → Rises n.disk_before n.disk_now ⊎ (Rises n.spare_before n.spare_now ⊎ Rises n.out_before n.out_now)
    go r m (inr p) = inr (inr p.1.0)
    go (Ok t) m (inl p) = absurd (let h : 0 ≡ 4 = sym p.0 ∙ four in cc)
    go (Err fault.NoMemory) m (inl p) = absurd (let h : 5 ≡ 4 = sym p.0 ∙ four in cc)
    go (Err fault.DiskFault) m (inl p) = inl m.0
    go (Err fault.SpareFault) m (inl p) = inr (inl m.1)
    go (Err fault.NoStore) m (inl p) = absurd (let h : 2 ≡ 4 = sym p.0 ∙ four in cc)
    go (Err (fault.Damaged w)) m (inl p) = absurd (let h : 2 ≡ 4 = sym p.0 ∙ four in cc)
    go (Err (fault.Unreplayed w)) m (inl p) = absurd (let h : 2 ≡ 4 = sym p.0 ∙ four in cc)
    go (Err fault.Range) m (inl p) = absurd (let h : 2 ≡ 4 = sym p.0 ∙ four in cc)
    go (Err fault.NotEmpty) m (inl p) = absurd (let h : 2 ≡ 4 = sym p.0 ∙ four in cc)
    go (Err fault.Full) m (inl p) = absurd (let h : 2 ≡ 4 = sym p.0 ∙ four in cc)
    go (Err fault.OtherSpare) m (inl p) = absurd (let h : 2 ≡ 4 = sym p.0 ∙ four in cc)

pub not_four : (at : ℕ) (store spare : Told) (u : Untouched) (n : Counted) (before after : Option (List ℕ)) (result : ℕ) → RetainEnds at store spare u n before after result → result ≢ 4 → (n.disk_now ≡ n.disk_before) × (n.spare_now ≡ n.spare_before) × (n.out_now ≡ n.out_before)
not_four at store spare u n before after result e n4 = go e.answer e.counts e.said
  where
    go : (r : Answer) → MoveCounts n.disk_before n.disk_now n.spare_before n.spare_now r → Says at r n.out_before n.out_now before after result → (n.disk_now ≡ n.disk_before) × (n.spare_now ≡ n.spare_before) × (n.out_now ≡ n.out_before)
    go r m (inr p) = absurd (n4 p.0)
    go (Ok t) m (inl p) = (m.0, m.1, p.1.0)
    go (Err fault.NoMemory) m (inl p) = (m.0, m.1, p.1.0)
    go (Err fault.DiskFault) m (inl p) = absurd (n4 p.0)
    go (Err fault.SpareFault) m (inl p) = absurd (n4 p.0)
    go (Err fault.NoStore) m (inl p) = (m.0, m.1, p.1.0)
    go (Err (fault.Damaged w)) m (inl p) = (m.0, m.1, p.1.0)
    go (Err (fault.Unreplayed w)) m (inl p) = (m.0, m.1, p.1.0)
    go (Err fault.Range) m (inl p) = (m.0, m.1, p.1.0)
    go (Err fault.NotEmpty) m (inl p) = (m.0, m.1, p.1.0)
    go (Err fault.Full) m (inl p) = (m.0, m.1, p.1.0)
    go (Err fault.OtherSpare) m (inl p) = (m.0, m.1, p.1.0)

-- ---- the status 0

zero_of : (P : Type 0) (at : ℕ) (r : Answer) (sb sn : ℕ) (before after : Option (List ℕ)) (result : ℕ) → result ≡ 0 → OnOk r P → Says at r sb sn before after result → P
zero_of P at r sb sn before after result zero held says = go r held says
  where
    go : (r : Answer) → OnOk r P → Says at r sb sn before after result → P
    go r h (inr p) = absurd (let q : 4 ≡ 0 = sym p.0 ∙ zero in cc)
    go (Ok t) h (inl p) = h
    go (Err fault.NoMemory) h (inl p) = absurd (let q : 5 ≡ 0 = sym p.0 ∙ zero in cc)
    go (Err fault.DiskFault) h (inl p) = absurd (let q : 4 ≡ 0 = sym p.0 ∙ zero in cc)
    go (Err fault.SpareFault) h (inl p) = absurd (let q : 4 ≡ 0 = sym p.0 ∙ zero in cc)
    go (Err fault.NoStore) h (inl p) = absurd (let q : 2 ≡ 0 = sym p.0 ∙ zero in cc)
    go (Err (fault.Damaged w)) h (inl p) = absurd (let q : 2 ≡ 0 = sym p.0 ∙ zero in cc)
    go (Err (fault.Unreplayed w)) h (inl p) = absurd (let q : 2 ≡ 0 = sym p.0 ∙ zero in cc)
    go (Err fault.Range) h (inl p) = absurd (let q : 2 ≡ 0 = sym p.0 ∙ zero in cc)
    go (Err fault.NotEmpty) h (inl p) = absurd (let q : 2 ≡ 0 = sym p.0 ∙ zero in cc)
    go (Err fault.Full) h (inl p) = absurd (let q : 2 ≡ 0 = sym p.0 ∙ zero in cc)
    go (Err fault.OtherSpare) h (inl p) = absurd (let q : 2 ≡ 0 = sym p.0 ∙ zero in cc)

pub means : (at : ℕ) (store spare : Told) (u : Untouched) (n : Counted) (before after : Option (List ℕ)) (result : ℕ) → RetainEnds at store spare u n before after result → RetainMeans at store spare result
means at store spare u n before after result e = record {
  opens = λ zero. zero_of _ at e.answer n.out_before n.out_now before after result zero e.opens e.said;
  retires = λ zero. zero_of _ at e.answer n.out_before n.out_now before after result zero e.retires e.said;
}
