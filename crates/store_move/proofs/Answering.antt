-- How a retain answers, by what the spare is.
use Rattle.std.proofs.Common.{◌≡◌, ◌⊎◌, inl, inr, ℕ, refl, sym, ◌∙◌, subst, List, Option, None, Some, IfSome, Result, Ok, Err, OnOk}
use Rattle.avm_outside.specs.Outside.{BothTold}
use Rattle.base_model.specs.Spare.{Free, IsFree, IsKind, IsPrepared, IsWhole, Other}
use Rattle.jrnl_store.specs.Kept.{Kept}
use Rattle.spare_base.proofs.SpareKinds.{prepared_free}
use Rattle.spare_base.specs.Kinds.{kind_view}
use Rattle.spare_base.specs.declared.kind.Spare.{Spare}
use Rattle.spare_base.specs.declared.kind.Spare.TheVariants as spare
use Rattle.spare_disk.specs.Activating.{Each}
use Rattle.store_move.specs.Moving.{AnswersBy, EndCause, HasBase, IsOpen, KindAnswers, OpenAnswers, RetiredAnswers, ShortCause}
use Rattle.store_move.specs.declared.fault.RetainFault.{RetainFault}
use Rattle.store_move.specs.declared.fault.RetainFault.TheVariants as fault

-- what was read of a spare's kind
abbrev pub IsSeen : List ℕ → List ℕ → (List ℕ → Type 0) → Spare → List ℕ → Type 0
IsSeen header behind images kind was = IsKind header behind (kind_view kind) was × Each images (λ c. c ≡ was)

-- ---- what follows from a kind

pub free_kind : (header behind : List ℕ) (images : List ℕ → Type 0) (told mid : Option (List ℕ)) → mid ≡ told → IfSome told (IsSeen header behind images spare.Free) → IfSome mid IsFree
free_kind header behind images None mid same seen = subst (λ (o : Option (List ℕ)). IfSome o IsFree) (sym same) tt
free_kind header behind images (Some was) mid same seen = subst (λ (o : Option (List ℕ)). IfSome o IsFree) (sym same) seen.0.2

pub prepared_kind : (header behind : List ℕ) (images : List ℕ → Type 0) (told mid : Option (List ℕ)) → mid ≡ told → IfSome told (IsSeen header behind images spare.Prepared) → IfSome mid IsFree
prepared_kind header behind images None mid same seen = subst (λ (o : Option (List ℕ)). IfSome o IsFree) (sym same) tt
prepared_kind header behind images (Some was) mid same seen = subst (λ (o : Option (List ℕ)). IfSome o IsFree) (sym same) (prepared_free behind was seen.0.1)

-- what ending a move needs
pub ending_needs : (header behind : List ℕ) (images : List ℕ → Type 0) (told mid : Option (List ℕ)) (kind : Spare) → mid ≡ told → IfSome told (IsSeen header behind images kind) → kind ≡ spare.Prepared → IfSome mid (λ was. (b : List ℕ) × IsPrepared b was × Each images (IsPrepared b))
ending_needs header behind images None mid kind same seen is = subst (λ (o : Option (List ℕ)). IfSome o (λ was. (b : List ℕ) × IsPrepared b was × Each images (IsPrepared b))) (sym same) tt
ending_needs header behind images (Some was) mid kind same seen is =
    let s = subst (λ (k : Spare). IsSeen header behind images k was) is seen in
    subst (λ (o : Option (List ℕ)). IfSome o (λ was. (b : List ℕ) × IsPrepared b was × Each images (IsPrepared b))) (sym same) (behind, s.0.1, λ c left. subst (IsPrepared behind) (sym (s.1 c left)) s.0.1)

-- ---- answers

retired : {T : Type 0} (header behind was : List ℕ) (kind : Spare) (r : Result T RetainFault) → IsKind header behind (kind_view kind) was → EndCause kind r → RetiredAnswers header behind was r
retired header behind was spare.Active (Ok t) is c = inl is
retired header behind was spare.Active (Err e) is c = absurd c
retired header behind was spare.Prepared (Ok t) is c = inr is
retired header behind was spare.Prepared (Err fault.SpareFault) is c = tt
retired header behind was spare.Prepared (Err fault.NoMemory) is c = absurd c
retired header behind was spare.Prepared (Err fault.DiskFault) is c = absurd c
retired header behind was spare.Prepared (Err fault.NoStore) is c = absurd c
retired header behind was spare.Prepared (Err (fault.Damaged p)) is c = absurd c
retired header behind was spare.Prepared (Err (fault.Unreplayed n)) is c = absurd c
retired header behind was spare.Prepared (Err fault.Range) is c = absurd c
retired header behind was spare.Prepared (Err fault.NotEmpty) is c = absurd c
retired header behind was spare.Prepared (Err fault.Full) is c = absurd c
retired header behind was spare.Prepared (Err fault.OtherSpare) is c = absurd c
retired {T} header behind was spare.Free r is c = other r (inl is) c
  where
    other : (r : Result T RetainFault) → IsKind header behind Free was ⊎ IsKind header behind Other was → EndCause spare.Free r → RetiredAnswers header behind was r
    other (Ok t) is c = absurd c
    other (Err fault.OtherSpare) is c = is
    other (Err fault.SpareFault) is c = absurd c
    other (Err fault.NoMemory) is c = absurd c
    other (Err fault.DiskFault) is c = absurd c
    other (Err fault.NoStore) is c = absurd c
    other (Err (fault.Damaged p)) is c = absurd c
    other (Err (fault.Unreplayed n)) is c = absurd c
    other (Err fault.Range) is c = absurd c
    other (Err fault.NotEmpty) is c = absurd c
    other (Err fault.Full) is c = absurd c
retired {T} header behind was spare.Other r is c = other r (inr is) c
  where
    other : (r : Result T RetainFault) → IsKind header behind Free was ⊎ IsKind header behind Other was → EndCause spare.Other r → RetiredAnswers header behind was r
    other (Ok t) is c = absurd c
    other (Err fault.OtherSpare) is c = is
    other (Err fault.SpareFault) is c = absurd c
    other (Err fault.NoMemory) is c = absurd c
    other (Err fault.DiskFault) is c = absurd c
    other (Err fault.NoStore) is c = absurd c
    other (Err (fault.Damaged p)) is c = absurd c
    other (Err (fault.Unreplayed n)) is c = absurd c
    other (Err fault.Range) is c = absurd c
    other (Err fault.NotEmpty) is c = absurd c
    other (Err fault.Full) is c = absurd c

-- of a store that has the mark
pub ended_answers : {T : Type 0} (told : Option (List ℕ)) (k : Kept) (at n : ℕ) (header behind : List ℕ) (images : List ℕ → Type 0) (kind : Spare) (r : Result T RetainFault) → k.mark ≡ Some n → IfSome told (IsSeen header behind images kind) → EndCause kind r
    → IfSome told (λ was. KindAnswers k at header behind was r)
ended_answers None k at n header behind images kind r mark seen cause = tt
ended_answers (Some was) k at n header behind images kind r mark seen cause =
    subst (λ (o : Option ℕ). AnswersBy o k at header behind was r) (sym mark) (retired header behind was kind r seen.0 cause)

moving : {T : Type 0} (k : Kept) (at : ℕ) (header behind was : List ℕ) (r : Result T RetainFault) → IsOpen header behind was → ShortCause behind k at r → OpenAnswers k at header behind was r
moving k at header behind was (Ok t) is c = (is, c.0, c.1)
moving k at header behind was (Err fault.DiskFault) is c = (is, c.0, c.1)
moving k at header behind was (Err fault.SpareFault) is c = tt
moving k at header behind was (Err fault.Full) is c = (is, c)
moving k at header behind was (Err fault.NoMemory) is c = absurd c
moving k at header behind was (Err fault.NoStore) is c = absurd c
moving k at header behind was (Err (fault.Damaged p)) is c = absurd c
moving k at header behind was (Err (fault.Unreplayed n)) is c = absurd c
moving k at header behind was (Err fault.Range) is c = absurd c
moving k at header behind was (Err fault.NotEmpty) is c = absurd c
moving k at header behind was (Err fault.OtherSpare) is c = absurd c

-- of a store that moves
pub moved_answers : {T : Type 0} (told : Option (List ℕ)) (k : Kept) (at : ℕ) (header behind : List ℕ) (r : Result T RetainFault) → k.mark ≡ None → IfSome told (IsOpen header behind) → ShortCause behind k at r → IfSome told (λ was. KindAnswers k at header behind was r)
moved_answers None k at header behind r mark seen cause = tt
moved_answers (Some was) k at header behind r mark seen cause = subst (λ (o : Option ℕ). AnswersBy o k at header behind was r) (sym mark) (moving k at header behind was r seen cause)

pub free_opens : (told : Option (List ℕ)) (header behind : List ℕ) (images : List ℕ → Type 0) → IfSome told (IsSeen header behind images spare.Free) → IfSome told (IsOpen header behind)
free_opens None header behind images seen = tt
free_opens (Some was) header behind images seen = inl seen.0

pub prepared_opens : (told : Option (List ℕ)) (header behind : List ℕ) (images : List ℕ → Type 0) → IfSome told (IsSeen header behind images spare.Prepared) → IfSome told (IsOpen header behind)
prepared_opens None header behind images seen = tt
prepared_opens (Some was) header behind images seen = inr seen.0

-- ---- the base

pub moved_base : {T : Type 0} (r : Result T RetainFault) (told mid last : Option (List ℕ)) (header behind : List ℕ) (images : List ℕ → Type 0) → mid ≡ told → OnOk r (BothTold mid last (λ was now. IsWhole behind now × Each images (λ c. c ≡ now))) → OnOk r (BothTold told last (HasBase header behind images))
moved_base (Err e) told mid last header behind images same whole = tt
moved_base (Ok t) told mid last header behind images same whole = go told last (subst (λ (o : Option (List ℕ)). BothTold o last (λ was now. IsWhole behind now × Each images (λ c. c ≡ now))) same whole)
  where
    go : (told last : Option (List ℕ)) → BothTold told last (λ was now. IsWhole behind now × Each images (λ c. c ≡ now)) → BothTold told last (HasBase header behind images)
    go None None w = tt
    go None (Some n) w = w
    go (Some t) None w = w
    go (Some t) (Some n) w = inl w

pub ended_base : {T : Type 0} (r : Result T RetainFault) (kind : Spare) (told mid last : Option (List ℕ)) (header behind : List ℕ) (old images : List ℕ → Type 0) → mid ≡ told → EndCause kind r → IfSome told (IsSeen header behind old kind)
    → OnOk r (kind ≡ spare.Prepared → BothTold mid last (λ was now. (b : List ℕ) → IsPrepared b was → IsWhole b now × Each images (λ c. c ≡ now))) → OnOk r (kind ≡ spare.Active → last ≡ mid) → OnOk r (BothTold told last (HasBase header behind images))
ended_base (Err e) kind told mid last header behind old images same cause seen whole left = tt
ended_base (Ok t) spare.Free told mid last header behind old images same cause seen whole left = absurd cause
ended_base (Ok t) spare.Other told mid last header behind old images same cause seen whole left = absurd cause
ended_base (Ok t) spare.Active told mid last header behind old images same cause seen whole left = subst (λ (o : Option (List ℕ)). BothTold told o (HasBase header behind images)) (sym (left refl ∙ same)) (go told seen)
  where
    go : (told : Option (List ℕ)) → IfSome told (IsSeen header behind old spare.Active) → BothTold told told (HasBase header behind images)
    go None s = tt
    go (Some w) s = inr (s.0, refl)
ended_base (Ok t) spare.Prepared told mid last header behind old images same cause seen whole left =
    go told last (subst (λ (o : Option (List ℕ)). BothTold o last (λ was now. (b : List ℕ) → IsPrepared b was → IsWhole b now × Each images (λ c. c ≡ now))) same (whole refl)) seen
  where
    go : (told last : Option (List ℕ)) → BothTold told last (λ was now. (b : List ℕ) → IsPrepared b was → IsWhole b now × Each images (λ c. c ≡ now)) → IfSome told (IsSeen header behind old spare.Prepared) → BothTold told last (HasBase header behind images)
    go None None w s = tt
    go None (Some n) w s = w
    go (Some t) None w s = w
    go (Some t) (Some n) w s = inl (w behind s.0.1)
