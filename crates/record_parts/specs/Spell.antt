-- A spell of steps as the machine makes it.
use Rattle.std.specs.Prelude.{◌≡◌, ℕ, ◌+◌}
use Rattle.avm_model.specs.Machine.{State}
use Rattle.guest_machine.specs.declared.outs.Outs.{Outs}
use Rattle.record_model.specs.Turn.{IsSpell}
use Rattle.record_parts.specs.Outs.{outs_made}

-- so many steps of a spell lead to a state with these outputs
pub record IsSpellTo (until : ℕ) (s t : State) (o : Outs) (n : ℕ) : Type 0 where
  pub quiet : ℕ
  pub steps : n ≡ quiet + 1
  pub spell : IsSpell until s quiet
  pub after : spell.after ≡ t
  pub outs : spell.outs ≡ outs_made t o
