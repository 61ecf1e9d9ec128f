-- Binding a key: found, no leaf left, or appended.
use Rattle.std.proofs.Common.{◌≡◌, inl, inr, ℕ, ◌<◌, sym, ◌∙◌, ap, subst, Option, None, Some, IfSome, List, length, arith}
use Rattle.avm_outside.specs.Outside.{BothTold}
use Rattle.avm_outside.specs.Moments.{LeavesOnly}
use Rattle.avm_outside.proofs.Runs.{weaker, joined}
use Rattle.hss_model.specs.Roll.{RollData, roll_of, roll_end, IsRollDisk, IsEither}
use Rattle.lms_hss.specs.Own.{HasRoom, IsCounted, IsFound, BindAnswers}
use Rattle.lms_hss.proofs.Appends.{Appended, EitherLeft}

-- the disk is still the roll's where reading left it
pub disk_read : (r : RollData) (old new : List ℕ → Type 0) (was : List ℕ) → ((c : List ℕ) → new c → old c) → IsRollDisk old was r → IsRollDisk new was r
disk_read r old new was crash disk = record { read = disk.read; left = λ c left. disk.left c (crash c left); same = λ c left. disk.same c (crash c left) }

abbrev pub Bound : ℕ → ℕ → (List ℕ → Type 0) → (List ℕ → Type 0) → List ℕ → Option ℕ → List ℕ → List ℕ → Type 0
Bound count most old new k f was now = (r : RollData) → IsCounted count most old was r → BindAnswers f new now r k

abbrev pub Either : ℕ → ℕ → (List ℕ → Type 0) → List ℕ → List ℕ → List ℕ → Type 0
Either count most old k was now = (r : RollData) → IsCounted count most old was r → IsEither r k now

abbrev pub WasFound : ℕ → List ℕ → Option ℕ → List ℕ → Type 0
WasFound count k f was = (r : RollData) → roll_of was ≡ Some r → length r.bottoms ≡ count → IsFound f r.bottoms k

module _ (count most : ℕ) (old : List ℕ → Type 0) (k : List ℕ) where
  -- where only reads were made
  pub bound_read : (new : List ℕ → Type 0) (leaf : ℕ) (told now : Option (List ℕ)) → now ≡ told → ((c : List ℕ) → new c → old c) → IfSome told (WasFound count k (Some leaf)) → BothTold told now (Bound count most old new k (Some leaf))
  bound_read new leaf None now same crash found = subst (λ (o : Option (List ℕ)). BothTold None o (Bound count most old new k (Some leaf))) (sym same) tt
  bound_read new leaf (Some was) now same crash found = subst (λ (o : Option (List ℕ)). BothTold (Some was) o (Bound count most old new k (Some leaf))) (sym same) (λ r own. inl (found r own.disk.read own.count_is, disk_read r old new was crash own.disk))

  pub bound_full : (new : List ℕ → Type 0) (told now : Option (List ℕ)) → now ≡ told → ((c : List ℕ) → new c → old c) → count ≡ most → IfSome told (WasFound count k None) → BothTold told now (Bound count most old new k None)
  bound_full new None now same crash full found = subst (λ (o : Option (List ℕ)). BothTold None o (Bound count most old new k None)) (sym same) tt
  bound_full new (Some was) now same crash full found = subst (λ (o : Option (List ℕ)). BothTold (Some was) o (Bound count most old new k None)) (sym same) (λ r own. (found r own.disk.read own.count_is, own.count_is ∙ full ∙ sym own.most_is, disk_read r old new was crash own.disk))

  pub either_read : (told now : Option (List ℕ)) → now ≡ told → BothTold told now (Either count most old k)
  either_read None now same = subst (λ (o : Option (List ℕ)). BothTold None o (Either count most old k)) (sym same) tt
  either_read (Some was) now same = subst (λ (o : Option (List ℕ)). BothTold (Some was) o (Either count most old k)) (sym same) (λ r own. inl own.disk.read)

  -- the disk has room where a leaf is left
  room_here : (mid : List ℕ → Type 0) (gate : ℕ) (was : List ℕ) (r : RollData) → ((c : List ℕ) → mid c → old c) → gate ≡ roll_end count → count < most → IsCounted count most old was r → HasRoom gate mid was r
  room_here mid gate was r crash place lt own = record {
    disk = disk_read r old mid was crash own.disk;
    room = omega (arith, lt, own.count_is, own.most_is);
    place = place ∙ ap roll_end (sym own.count_is);
  }

  pub room_told : (mid : List ℕ → Type 0) (gate : ℕ) (told now : Option (List ℕ)) → now ≡ told → ((c : List ℕ) → mid c → old c) → gate ≡ roll_end count → count < most
      → IfSome told (λ was. (r : RollData) × IsCounted count most old was r) → IfSome now (λ was. (r : RollData) × HasRoom gate mid was r)
  room_told mid gate None now same crash place lt own = subst (λ (o : Option (List ℕ)). IfSome o (λ was. (r : RollData) × HasRoom gate mid was r)) (sym same) tt
  room_told mid gate (Some was) now same crash place lt own = subst (λ (o : Option (List ℕ)). IfSome o (λ was. (r : RollData) × HasRoom gate mid was r)) (sym same) (own.0, room_here mid gate was own.0 crash place lt own.1)

  pub bound_new : (mid new : List ℕ → Type 0) (gate : ℕ) (told now last : Option (List ℕ)) → now ≡ told → ((c : List ℕ) → mid c → old c) → gate ≡ roll_end count → count < most → IfSome told (WasFound count k None)
      → BothTold now last (Appended gate mid new k) → BothTold told last (Bound count most old new k (Some count))
  bound_new mid new gate told now last same crash place lt found done = go told last (subst (λ (o : Option (List ℕ)). BothTold o last (Appended gate mid new k)) same done) found
    where
      go : (told last : Option (List ℕ)) → BothTold told last (Appended gate mid new k) → IfSome told (WasFound count k None) → BothTold told last (Bound count most old new k (Some count))
      go None None d f = tt
      go None (Some x) d f = d
      go (Some was) None d f = d
      go (Some was) (Some x) d f = λ r own. inr (f r own.disk.read own.count_is, sym own.count_is, omega (arith, lt, own.count_is, own.most_is), d r (room_here mid gate was r crash place lt own))

  pub either_new : (mid : List ℕ → Type 0) (gate : ℕ) (told now last : Option (List ℕ)) → now ≡ told → ((c : List ℕ) → mid c → old c) → gate ≡ roll_end count → count < most
      → BothTold now last (EitherLeft gate mid k) → BothTold told last (Either count most old k)
  either_new mid gate told now last same crash place lt done = go told last (subst (λ (o : Option (List ℕ)). BothTold o last (EitherLeft gate mid k)) same done)
    where
      go : (told last : Option (List ℕ)) → BothTold told last (EitherLeft gate mid k) → BothTold told last (Either count most old k)
      go None None d = tt
      go None (Some x) d = d
      go (Some was) None d = d
      go (Some was) (Some x) d = λ r own. d r (room_here mid gate was r crash place lt own)

  module _ {D : Type 0} (seen : D → Option (List ℕ)) (moment : D → ℕ) (left_since : D → ℕ → List ℕ → Type 0) where
    pub moments_read : (told : Option (List ℕ)) (first next : D) → LeavesOnly moment left_since first next old → IfSome told (λ was. (r : RollData) → IsCounted count most old was r → LeavesOnly moment left_since first next (IsEither r k))
    moments_read None first next part = tt
    moments_read (Some was) first next part = λ r own. weaker moment left_since first next old _ (λ c left. inl (own.disk.left c left)) part

    pub moments_new : (mid : List ℕ → Type 0) (gate : ℕ) (told now : Option (List ℕ)) (first next last : D) → now ≡ told → ((c : List ℕ) → mid c → old c) → gate ≡ roll_end count → count < most → LeavesOnly moment left_since first next old
        → IfSome now (λ was. (r : RollData) → HasRoom gate mid was r → LeavesOnly moment left_since next last (IsEither r k))
        → IfSome told (λ was. (r : RollData) → IsCounted count most old was r → LeavesOnly moment left_since first last (IsEither r k))
    moments_new mid gate None now first next last same crash place lt part done = tt
    moments_new mid gate (Some was) now first next last same crash place lt part done = λ r own.
        let d = subst (λ (o : Option (List ℕ)). IfSome o (λ was. (r : RollData) → HasRoom gate mid was r → LeavesOnly moment left_since next last (IsEither r k))) same done in
        joined moment left_since first next last _ (weaker moment left_since first next old _ (λ c left. inl (own.disk.left c left)) part) (d r (room_here mid gate was r crash place lt own))
