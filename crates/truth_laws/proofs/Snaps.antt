-- Each SNAP entry has its keep, behind what an act writes too.
use Rattle.std.proofs.Common.{◌≡◌, ◌⊎◌, inl, inr, ℕ, ◌+◌, ◌==◌, Bool, true, false, List, [], ◌∷◌, ◌++◌, refl}
use Rattle.avm_model.specs.Machine.{State}
use Rattle.avm_model.specs.Offer.{Offer, OfferConsole, OfferClock, OfferData, OfferAck}
use Rattle.avm_model.specs.Content.{kind_of}
use Rattle.avm_model.specs.Reference.{Made, OutAt, SendAt, HaltAt, SnapAt, NothingAt}
use Rattle.base_laws.specs.Moving.{BeginsKeep}
use Rattle.journal_model.specs.Part.{Part, entry, keep, seal}
use Rattle.life_model.specs.Life.{KeepsSnaps}
use Rattle.record_model.specs.Recording.{frame_of, made_parts, offer_content}

first_too : (first : Bool) (ps : List Part) → KeepsSnaps false ps → KeepsSnaps first ps
first_too first [] h = tt
first_too first (entry f ∷ ps) h = (here h.0, h.1)
  where
    here : (false ≡ true) ⊎ (((f.kind == 2) ≡ false) ⊎ BeginsKeep ps) → (first ≡ true) ⊎ (((f.kind == 2) ≡ false) ⊎ BeginsKeep ps)
    here (inl e) = absurd cc
    here (inr k) = inr k
first_too first (seal ∷ ps) h = first_too first ps h
first_too first (keep k ∷ ps) h = first_too first ps h

begins_on : (ps qs : List Part) → BeginsKeep ps → BeginsKeep (ps ++ qs)
begins_on [] qs h = absurd h
begins_on (entry f ∷ ps) qs h = absurd h
begins_on (seal ∷ ps) qs h = absurd h
begins_on (keep k ∷ ps) qs h = tt

-- one behind the other
pub snaps_on : (first : Bool) (ps qs : List Part) → KeepsSnaps first ps → KeepsSnaps false qs → KeepsSnaps first (ps ++ qs)
snaps_on first [] qs h k = first_too first qs k
snaps_on first (entry f ∷ ps) qs h k = (here h.0, snaps_on false ps qs h.1 k)
  where
    here : (first ≡ true) ⊎ (((f.kind == 2) ≡ false) ⊎ BeginsKeep ps) → (first ≡ true) ⊎ (((f.kind == 2) ≡ false) ⊎ BeginsKeep (ps ++ qs))
    here (inl e) = inl e
    here (inr (inl e)) = inr (inl e)
    here (inr (inr b)) = inr (inr (begins_on ps qs b))
snaps_on first (seal ∷ ps) qs h k = snaps_on first ps qs h k
snaps_on first (keep x ∷ ps) qs h k = snaps_on first ps qs h k

-- the outputs of a step
pub snaps_made : (os : List Made) (n : ℕ) (s : State) (pages : List ℕ) → KeepsSnaps false (made_parts n s pages os)
snaps_made [] n s pages = tt
snaps_made (OutAt count bytes ∷ os) n s pages = (inr (inl refl), snaps_made os (n + 1) s pages)
snaps_made (SendAt count peer number payload ∷ os) n s pages = (inr (inl refl), snaps_made os (n + 1) s pages)
snaps_made (HaltAt count cause value ∷ os) n s pages = (inr (inl refl), snaps_made os (n + 1) s pages)
snaps_made (SnapAt count r ∷ os) n s pages = (inr (inr tt), snaps_made os (n + 1) s pages)
snaps_made (NothingAt count ∷ os) n s pages = (inr (inl refl), snaps_made os (n + 1) s pages)

no_snap : (count : ℕ) (o : Offer) → (kind_of (offer_content count o) == 2) ≡ false
no_snap count (OfferConsole bytes) = refl
no_snap count (OfferClock value) = refl
no_snap count (OfferData inner) = refl
no_snap count (OfferAck inner) = refl

-- what comes in
pub snaps_input : (n count : ℕ) (o : Offer) → KeepsSnaps false (entry (frame_of n (offer_content count o)) ∷ [])
snaps_input n count o = (inr (inl (no_snap count o)), tt)
