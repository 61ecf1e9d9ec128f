-- A clock waits only in a state that asks for it.
use Rattle.std.proofs.Common.{◌≡◌, ℕ, Bool, true, false, not, ◌&&◌, List, Option, Some, None, is_some, refl, sym, ap, subst, ◌∙◌}
use Rattle.std.specs.Prelude.{if◌then◌else◌}
use Rattle.avm_model.specs.Device.{row_of}
use Rattle.avm_model.specs.Input.{Console, Clock, Refusal, Take, refuse_message, refuse_acked}
use Rattle.avm_model.specs.Machine.{State, asks}
use Rattle.avm_model.specs.Offer.{Offer, OfferConsole, OfferClock, OfferData, OfferAck, DataIn, AckIn, refused, taken, refuse_data, refuse_ack, take_data, take_ack, data_in, ack_in}
use Rattle.avm_model.specs.Reference.{Given, Made, step_of, take_of, unless}
use Rattle.avm_model.specs.declared.NotTaken.{NotTaken}
use Rattle.avm_model.specs.declared.NotTaken.TheVariants.{UnknownPeer, Repeated, WrongNumber, NotOutstanding, NotAsked, Halted, ClockPending, Full, NotForUs, NotAuthentic}
use Rattle.avm_model.specs.declared.Peer.{Peer}
use Rattle.avm_model.proofs.ReferenceLaws.{step_is}
use Rattle.guest_machine.proofs.RestLaws.{step_clock}
use Rattle.rebut_model.proofs.Snapshots.{Kept}

-- where a clock waits, the state asks
abbrev pub Wanted : State → Type 0
Wanted s = is_some s.devices.clock ≡ true → asks s ≡ true

pub none_wanted : (s : State) → s.devices.clock ≡ None → Wanted s
none_wanted s none some = absurd (apart (sym (ap is_some none) ∙ some))
  where
    apart : false ≡ true → ⊥
    apart e = cc

-- ---- what isn't refused comes where no clock waits, but for a clock

not_passed : (o : Option ℕ) (c : Bool) → (if is_some o then Some ClockPending else if c then Some Full else None) ≡ None → o ≡ None
not_passed None c e = refl
not_passed (Some v) c e = absurd cc

past : (b : Bool) (why : NotTaken) (r : Option NotTaken) → (if b then Some why else r) ≡ None → r ≡ None
past true why r e = absurd cc
past false why r e = e

not_acked : (o : Option ℕ) → (if is_some o then Some ClockPending else None) ≡ None → o ≡ None
not_acked None e = refl
not_acked (Some v) e = absurd cc

free_message : (s : State) (n : ℕ) (r : Option Peer) → refuse_message s n r ≡ None → s.devices.clock ≡ None
free_message s n None e = absurd cc
free_message s n (Some p) e = not_passed s.devices.clock _ (past _ Halted _ (past _ WrongNumber _ (past _ Repeated _ e)))

free_acked : (s : State) (n : ℕ) (r : Option Peer) → refuse_acked s n r ≡ None → s.devices.clock ≡ None
free_acked s n None e = absurd cc
free_acked s n (Some p) e = not_acked s.devices.clock (past _ NotOutstanding _ e)

free_data : (s : State) (d : Option DataIn) → refuse_data s d ≡ None → s.devices.clock ≡ None
free_data s None e = absurd cc
free_data s (Some d) e = free_message s _ (row_of s.devices.peers _) (past _ NotAuthentic _ (past _ NotForUs _ (past _ UnknownPeer _ e)))

free_ack : (s : State) (a : Option AckIn) → refuse_ack s a ≡ None → s.devices.clock ≡ None
free_ack s None e = absurd cc
free_ack s (Some a) e = free_acked s _ (row_of s.devices.peers _) (past _ NotAuthentic _ (past _ NotForUs _ (past _ UnknownPeer _ e)))

same_data : (s : State) (d : Option DataIn) → (take_data s d).devices.clock ≡ s.devices.clock
same_data s None = refl
same_data s (Some d) = refl

same_ack : (s : State) (a : Option AckIn) → (take_ack s a).devices.clock ≡ s.devices.clock
same_ack s None = refl
same_ack s (Some a) = refl

asked_clock : (s : State) (value : ℕ) → Refusal s (Clock value) ≡ None → asks s ≡ true
asked_clock s value e = go (asks s) (is_some s.devices.clock) e
  where
    go : (a b : Bool) → (if a && not b then None else Some NotAsked) ≡ None → a ≡ true
    go true b e = refl
    go false b e = absurd cc

-- ---- steps and inputs keep it

by_offer : (s : State) (o : Offer) → Wanted s → refused s o ≡ None → Wanted (taken s o)
unfolding refused taken
by_offer s (OfferConsole bytes) w e = none_wanted (Take s (Console bytes)) (not_passed s.devices.clock _ (past _ Halted _ e))
by_offer s (OfferClock value) w e = λ some. asked_clock s value e
by_offer s (OfferData bytes) w e = none_wanted (take_data s (data_in bytes)) (same_data s (data_in bytes) ∙ free_data s (data_in bytes) e)
by_offer s (OfferAck bytes) w e = none_wanted (take_ack s (ack_in bytes)) (same_ack s (ack_in bytes) ∙ free_ack s (ack_in bytes) e)

by_take : (s t : State) (i : Given) → take_of s i ≡ Some t → Wanted s → Wanted t
unfolding take_of
by_take s t i e w = go (refused s i.offer) refl e
  where
    go : (r : Option NotTaken) → refused s i.offer ≡ r → unless r (taken s i.offer) ≡ Some t → Wanted t
    go None q n = let is : taken s i.offer ≡ t = cc in subst Wanted is (by_offer s i.offer w q)
    go (Some why) q n = absurd cc

pub clock_behind : (s t : State) (os : List Made) → step_of s ≡ Some (t, os) → Wanted s → t.devices.clock ≡ None
clock_behind s t os e w = step_clock s t (step_is s t os e).1 w

pub wanted : Kept Wanted
wanted = record { step = λ s t os e w. none_wanted t (clock_behind s t os e w); take = λ s t i e w. by_take s t i e w }
