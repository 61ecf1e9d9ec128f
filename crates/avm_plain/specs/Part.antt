-- A part of a run.
use Rattle.std.specs.Prelude.{◌≡◌, ℕ, ◌+◌, ◌-◌, ◌<◌, ◌≤◌, List, [], ◌∷◌, ◌++◌, map, length, drop, Option, Some, None}
use Rattle.avm_model.specs.Machine.{State}
use Rattle.avm_model.specs.Timed.{Entry}
use Rattle.avm_model.specs.Rerun.{rerun}
use Rattle.avm_plain.specs.Replay.{GivenOf, MadeOf, plain, entry_of, entries_in}
use Rattle.avm_plain.specs.declared.replaying.Part.{Part}

-- a run begins with this part, and goes on from its state over the inputs that are left
pub record Advances (s : State) (is : List GivenOf) (n : ℕ) (p : Part) : Type 0 where
  pub run : entries_in (rerun plain s is n) ≡ map entry_of p.entries.items ++ entries_in (rerun plain p.state (drop p.took is) n)
  pub took : p.took ≤ length is
  pub few : p.took ≤ 1
  pub less : (length is - p.took) + (n - p.state.count) < length is + (n - s.count)

-- none where the run ends
abbrev pub Advancing : State → List GivenOf → ℕ → Option Part → Type 0
Advancing s is n None = entries_in (rerun plain s is n) ≡ []
Advancing s is n (Some p) = Advances s is n p

-- the entries are the first of those of a run
abbrev pub Opens : List (Entry GivenOf MadeOf) → List (Entry GivenOf MadeOf) → Type 0
Opens [] run = Unit {0}
Opens (e ∷ es) [] = ⊥
Opens (e ∷ es) (r ∷ run) = (e ≡ r) × Opens es run
