-- The number of a message that is taken.
use Rattle.std.proofs.Common.{◌≡◌, ℕ, ◌+◌, ◌-◌, ◌^◌, ◌<◌, Bool, true, false, not, List, Option, Some, None, IfSome, refl, arith, eqb-true}
use Rattle.std.specs.Prelude.{if◌then◌else◌, ◌==◌}
use Rattle.avm_model.specs.Device.{row_of}
use Rattle.avm_model.specs.Input.{Refusal, Message, refuse_message}
use Rattle.avm_model.specs.Machine.{State}
use Rattle.avm_model.specs.declared.NotTaken.{NotTaken}
use Rattle.avm_model.specs.declared.NotTaken.TheVariants.{Repeated, WrongNumber}
use Rattle.avm_model.specs.declared.Peer.{Peer}

is_next : (a b : Bool) (x : Option NotTaken) → (if a then Some Repeated else if not b then Some WrongNumber else x) ≡ None → b ≡ true
is_next true b x e = absurd cc
is_next false true x e = refl
is_next false false x e = absurd cc

-- it is the next of its peer
pub next_of : (s : State) (peer number : ℕ) (payload : List ℕ) → Refusal s (Message peer number payload) ≡ None → IfSome (row_of s.devices.peers peer) (λ p. number ≡ p.received + 1)
next_of s peer number payload e = go (row_of s.devices.peers peer) e
  where
    go : (row : Option Peer) → refuse_message s number row ≡ None → IfSome row (λ p. number ≡ p.received + 1)
    go None h = tt
    go (Some p) h = eqb-true _ _ (is_next (number == p.received) (number == p.received + 1) _ h)

-- and so the row has room for it
pub has_room : (row : Option Peer) (number : ℕ) → number < 2 ^ 64 → IfSome row (λ p. number ≡ p.received + 1) → IfSome row (λ p. p.received < 2 ^ 64 - 1)
has_room None number low h = tt
has_room (Some p) number low h = omega arith
