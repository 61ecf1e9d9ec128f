-- A roll that is opened, and what it answers.
use Rattle.std.proofs.Common.{◌≡◌, ◌≢◌, ◌⊎◌, inl, inr, ℕ, ◌<◌, false, List, length, Option, None, Some, IfSome, refl, sym, ◌∙◌, subst}
use Rattle.std.specs.Prelude.{Result, Ok, Err}
use Rattle.avm_outside.specs.Outside.{BothTold}
use Rattle.hss_command.specs.declared.ends.End.TheVariants.{RefusedNoStore, RefusedKey, RefusedLeaves}
use Rattle.hss_model.specs.Roll.{RollData, roll_of, most_of, with_bottom, IsBound, IsUnbound, IsEither}
use Rattle.lms_hss.specs.Opening.{AttachAnswers}
use Rattle.lms_hss.specs.Own.{RollState, IsOwn, EnrollAnswers}
use Rattle.lms_hss.specs.declared.fault.RollFault.{RollFault}
use Rattle.lms_hss.specs.declared.fault.RollFault.TheVariants as roll
use Rattle.lms_hss.specs.declared.granted.Granted.{Granted}
use Rattle.roll_command.specs.Granting.{WhereTold, Binds, RollGrants, RollRefuses, Stands}

-- how the disk is opened
abbrev pub Opens : (List ℕ → Type 0) → Option (List ℕ) → Result RollState RollFault → Type 0
Opens images told answer = IfSome told (λ was. AttachAnswers {V = RollState} (λ x. x) images was answer)

-- how the opened roll answers
abbrev pub Answers : RollState → RollState → List ℕ → (List ℕ → Type 0) → (List ℕ → Type 0) → Option (List ℕ) → Option (List ℕ) → Result Granted RollFault → Type 0
Answers v w bottom images behind mid now answer =
    v.is_ended ≡ false → BothTold mid now (λ was n. (r : RollData) → IsOwn v images was r → EnrollAnswers v w behind n r bottom answer)

-- ---- opening alone

pub stands_same : (bottom : List ℕ) (told now : Option (List ℕ)) → now ≡ told → WhereTold told now (Stands bottom)
stands_same bottom None now same = tt
stands_same bottom (Some was) now same = subst (λ (o : Option (List ℕ)). WhereTold (Some was) o (Stands bottom)) (sym same) (inl refl)

none_of : (key bottom was : List ℕ) (images behind : List ℕ → Type 0) (e : RollFault) → e ≢ roll.DiskFault → AttachAnswers {V = RollState} (λ x. x) images was (Err e) → RollRefuses key bottom behind RefusedNoStore was was
none_of key bottom was images behind roll.NoRoll ne a = (a, refl)
none_of key bottom was images behind roll.DiskFault ne a = absurd (ne refl)
none_of key bottom was images behind roll.NotEmpty ne a = absurd a
none_of key bottom was images behind roll.LeavesSpent ne a = absurd a
none_of key bottom was images behind roll.Ended ne a = absurd a

pub no_roll : (key bottom : List ℕ) (images behind : List ℕ → Type 0) (told now : Option (List ℕ)) (e : RollFault) → now ≡ told → e ≢ roll.DiskFault → Opens images told (Err e) → WhereTold told now (RollRefuses key bottom behind RefusedNoStore)
no_roll key bottom images behind None now e same ne opened = tt
no_roll key bottom images behind (Some was) now e same ne opened =
    subst (λ (o : Option (List ℕ)). WhereTold (Some was) o (RollRefuses key bottom behind RefusedNoStore)) (sym same) (none_of key bottom was images behind e ne opened)

pub other_key : (key bottom : List ℕ) (images behind : List ℕ → Type 0) (told now : Option (List ℕ)) (v : RollState) → now ≡ told → v.key ≢ key → Opens images told (Ok v) → WhereTold told now (RollRefuses key bottom behind RefusedKey)
other_key key bottom images behind None now v same ne opened = tt
other_key key bottom images behind (Some was) now v same ne opened =
    subst (λ (o : Option (List ℕ)). WhereTold (Some was) o (RollRefuses key bottom behind RefusedKey)) (sym same) (opened.0, opened.1, (λ is. ne (sym opened.2.key ∙ is)), refl)

pub own_here : (images : List ℕ → Type 0) (told mid : Option (List ℕ)) (v : RollState) → mid ≡ told → Opens images told (Ok v) → IfSome mid (λ was. (r : RollData) × IsOwn v images was r)
own_here images None mid v same opened = subst (λ (o : Option (List ℕ)). IfSome o (λ was. (r : RollData) × IsOwn v images was r)) (sym same) tt
own_here images (Some was) mid v same opened = subst (λ (o : Option (List ℕ)). IfSome o (λ was. (r : RollData) × IsOwn v images was r)) (sym same) (opened.0, opened.2)

-- ---- the opened roll's answer

-- the bottom key's place
abbrev Place : RollState → RollData → List ℕ → (List ℕ → Type 0) → List ℕ → ℕ → Type 0
Place w r bottom behind n leaf =
    (IsBound r.bottoms bottom leaf × IsOwn w behind n r) ⊎ (IsUnbound r.bottoms bottom × (leaf ≡ length r.bottoms) × (length r.bottoms < most_of r.key) × IsOwn w behind n (with_bottom r bottom))

binds : (w : RollState) (r : RollData) (bottom : List ℕ) (behind : List ℕ → Type 0) (n : List ℕ) (leaf : ℕ) → Place w r bottom behind n leaf → Binds r bottom behind n leaf
binds w r bottom behind n leaf (inl p) = inl (p.0, p.1.disk)
binds w r bottom behind n leaf (inr p) = inr (p.0, p.1, p.2, p.3.disk)

module _ (key bottom : List ℕ) (images behind : List ℕ → Type 0) (v w : RollState) where
  -- what holds of the roll that was opened, behind the call
  behind_call : (R : List ℕ → List ℕ → Type 0) (answer : Result Granted RollFault) (told mid now : Option (List ℕ)) → mid ≡ told → Opens images told (Ok v) → Answers v w bottom images behind mid now answer
      → ((was n : List ℕ) (r : RollData) → roll_of was ≡ Some r → IsOwn v images was r → EnrollAnswers v w behind n r bottom answer → R was n) → WhereTold told now R
  behind_call R answer None mid now same opened answers by = tt
  behind_call R answer (Some was) mid now same opened answers by = go now (subst (λ (o : Option (List ℕ)). BothTold o now (λ was n. (r : RollData) → IsOwn v images was r → EnrollAnswers v w behind n r bottom answer)) same (answers opened.3))
    where
      go : (now : Option (List ℕ)) → BothTold (Some was) now (λ was n. (r : RollData) → IsOwn v images was r → EnrollAnswers v w behind n r bottom answer) → WhereTold (Some was) now R
      go None b = b
      go (Some n) b = by was n opened.0 opened.1 opened.2 (b opened.0 opened.2)

  pub granted_here : (g : Granted) (told mid now : Option (List ℕ)) → mid ≡ told → v.key ≡ key → Opens images told (Ok v) → Answers v w bottom images behind mid now (Ok g) → WhereTold told now (RollGrants key bottom behind g.leaf)
  granted_here g told mid now same is opened answers =
      behind_call (RollGrants key bottom behind g.leaf) (Ok g) told mid now same opened answers (λ was n r here own a. (r, (here, own.key ∙ is), binds w r bottom behind n g.leaf a.1))

  spent : (was n : List ℕ) (r : RollData) (e : RollFault) → e ≢ roll.DiskFault → roll_of was ≡ Some r → r.key ≡ key → EnrollAnswers v w behind n r bottom (Err e) → RollRefuses key bottom behind RefusedLeaves was n
  spent was n r roll.LeavesSpent ne here is a = (r, (here, is), a.0, a.1, a.2.disk)
  spent was n r roll.DiskFault ne here is a = absurd (ne refl)
  spent was n r roll.NotEmpty ne here is a = absurd a
  spent was n r roll.NoRoll ne here is a = absurd a
  spent was n r roll.Ended ne here is a = absurd a

  pub full_here : (e : RollFault) (told mid now : Option (List ℕ)) → mid ≡ told → v.key ≡ key → e ≢ roll.DiskFault → Opens images told (Ok v) → Answers v w bottom images behind mid now (Err e) → WhereTold told now (RollRefuses key bottom behind RefusedLeaves)
  full_here e told mid now same is ne opened answers =
      behind_call (RollRefuses key bottom behind RefusedLeaves) (Err e) told mid now same opened answers (λ was n r here own a. spent was n r e ne here (own.key ∙ is) a)

  pub stands_here : (told mid now : Option (List ℕ)) → mid ≡ told → Opens images told (Ok v) → (v.is_ended ≡ false → BothTold mid now (λ was n. (r : RollData) → IsOwn v images was r → IsEither r bottom n)) → WhereTold told now (Stands bottom)
  stands_here None mid now same opened stands = tt
  stands_here (Some was) mid now same opened stands = go now (subst (λ (o : Option (List ℕ)). BothTold o now (λ was n. (r : RollData) → IsOwn v images was r → IsEither r bottom n)) same (stands opened.3))
    where
      go : (now : Option (List ℕ)) → BothTold (Some was) now (λ was n. (r : RollData) → IsOwn v images was r → IsEither r bottom n) → WhereTold (Some was) now (Stands bottom)
      go None b = b
      go (Some n) b = inr (opened.0, opened.1, b opened.0 opened.2)
