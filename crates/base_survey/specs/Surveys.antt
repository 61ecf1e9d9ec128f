-- Where an entry stands among a journal's items, one item after another.
use Rattle.std.specs.Prelude.{◌≡◌, ℕ, ◌+◌, ◌^◌, ◌==◌, ◌||◌, min, Bool, true, List, if◌then◌else◌}
use Rattle.avm_model.specs.Basics.{flag}
use Rattle.avm_model.specs.Chain.{next_hash, top_of}
use Rattle.avm_model.specs.Frame.{FrameData}
use Rattle.base_model.specs.Base.{before_entry}
use Rattle.journal_model.specs.Journal.{JournalData, entries, has_snap, parts}
use Rattle.journal_model.specs.Part.{frames_in, is_signed_kind, signing}
use Rattle.jrnl_store.specs.Items.{ItemData, carried_item, entry_item, keep_item, seal_item}
use Rattle.base_survey.specs.declared.survey.Place.{Place}
use Rattle.base_survey.specs.declared.survey.Survey.{Survey}

-- the number, the chain's hash before that entry or the next one, whether the entry has come, whether it is a SNAP, and how many items
-- sign from it on
pub record Surveying : Type 0 where
  pub number : ℕ
  pub hash : List ℕ
  pub reached : Bool
  pub snap : Bool
  pub late : ℕ

abbrev pub survey_view : Survey → Surveying
survey_view s = record { number = s.number; hash = s.hash.0; reached = s.reached; snap = s.snap; late = s.late }

-- a count that stays at its limit
abbrev pub more_late : ℕ → ℕ → ℕ
more_late late n = min (late + n) (2 ^ 16)

-- an entry that is the sought one or stands behind it
abbrev pub is_late : Surveying → FrameData → Bool
is_late v f = v.reached || f.seq == v.number

abbrev pub with_late : Surveying → FrameData → Surveying
with_late v f = record v { reached = true; snap = if v.reached then v.snap else f.kind == 2; late = more_late v.late (flag (is_signed_kind f.kind)) }

-- one item more
abbrev pub surveyed : Surveying → ItemData → Surveying
surveyed v (carried_item f s) = v
surveyed v (entry_item f t) = if is_late v f then with_late v f else record v { hash = next_hash v.hash f }
surveyed v (seal_item s) = record v { late = if v.reached then more_late v.late 1 else v.late }
surveyed v (keep_item k) = v

abbrev pub Surveys : Survey → ItemData → Survey → Type 0
Surveys old x new = survey_view new ≡ surveyed (survey_view old) x

-- of entry n: whether it is a SNAP, the hash before it, and the leaves used before it
pub record IsPlace (j : JournalData) (n : ℕ) (p : Place) : Type 0 where
  pub snap_is : p.snap ≡ has_snap n (entries j)
  pub before_is : p.before.0 ≡ top_of j.header.before (frames_in (before_entry n (parts j)))
  pub leaves_are : p.leaves ≡ j.header.leaves + signing (before_entry n (parts j))
