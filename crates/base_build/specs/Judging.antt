-- Whether a store can go on from an entry.
use Rattle.std.specs.Prelude.{◌≡◌, ◌⊎◌, ℕ, ◌^◌, ◌==◌, ◌&&◌, not, nat_lt, Bool, true, false, Option, Some, None, Result, Ok, Err}
use Rattle.avm_model.specs.Machine.{State}
use Rattle.export_model.specs.Exports.{IsStateAt}
use Rattle.honest_model.specs.Keeps.{IsStretch}
use Rattle.journal_model.specs.Journal.{JournalData, entries, has_snap}
use Rattle.base_survey.specs.Surveys.{IsPlace}
use Rattle.base_survey.specs.declared.survey.Place.{Place}
use Rattle.store_move.specs.declared.fault.RetainFault.{RetainFault}
use Rattle.store_move.specs.declared.fault.RetainFault.TheVariants as fault
use Rattle.stretch_replay.specs.declared.stretching.Stretched.{Stretched}
use Rattle.base_build.specs.declared.point.Point.{Point}

-- the mark names another entry
abbrev pub is_other : Option ℕ → ℕ → Bool
is_other None n = false
is_other (Some m) n = not (m == n)

-- a SNAP entry, whose number and whose count are below 2 ^ 61
abbrev pub can_begin : Bool → ℕ → ℕ → Bool
can_begin snap n count = snap && nat_lt n (2 ^ 61) && nat_lt count (2 ^ 61)

-- ---- by what both readings tell

abbrev pub Taken : Stretched → Place → ℕ → Result Point RetainFault → Type 0
Taken r p n (Ok t) = (r.fault ≡ None) × (can_begin p.snap n r.machine.state.count ≡ true) × (t.machine.state ≡ r.machine.state) × (t.place ≡ p) × (t.machine.state.devices.clock ≡ None)
Taken r p n (Err (fault.Unreplayed k)) = r.fault ≡ Some k
Taken r p n (Err fault.Range) = (r.fault ≡ None) × ((can_begin p.snap n r.machine.state.count ≡ false) ⊎ ((can_begin p.snap n r.machine.state.count ≡ true) × (r.machine.state.devices.clock ≡ None → ⊥)))
Taken r p n (Err e) = ⊥

-- ---- of a journal

-- the journal replays up to entry n, which is a SNAP with these numbers; this is the state behind it, and where it stands
pub record IsPoint (j : JournalData) (n : ℕ) (p : Point) : Type 0 where
  pub stretch_is : IsStretch j n None
  pub state_is : IsStateAt j n p.machine.state
  pub place_is : IsPlace j n p.place
  pub begins : can_begin (has_snap n (entries j)) n p.machine.state.count ≡ true

abbrev pub Judges : ℕ → JournalData → Result Point RetainFault → Type 0
Judges n j (Ok p) = IsPoint j n p
Judges n j (Err fault.NoMemory) = Unit {0}
Judges n j (Err fault.DiskFault) = Unit {0}
Judges n j (Err (fault.Unreplayed k)) = IsStretch j n (Some k)
Judges n j (Err fault.Range) = IsStretch j n None × (s : State) × IsStateAt j n s × (can_begin (has_snap n (entries j)) n s.count ≡ false)
Judges n j (Err e) = ⊥

-- what a refusal before anything is called on a spare may be
abbrev pub IsOfReading : RetainFault → Type 0
IsOfReading fault.NoMemory = Unit {0}
IsOfReading fault.DiskFault = Unit {0}
IsOfReading fault.NoStore = Unit {0}
IsOfReading (fault.Unreplayed n) = Unit {0}
IsOfReading fault.Range = Unit {0}
IsOfReading e = ⊥
