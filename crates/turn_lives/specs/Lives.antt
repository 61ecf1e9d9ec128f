-- A call of a recorder as a store's life goes on, by events.
use Rattle.std.specs.Prelude.{◌≡◌, ◌⊎◌, ◌++◌, ℕ, List, map, Result, Ok, Err}
use Rattle.avm_outside.specs.Outlet.{Piece, all_added}
use Rattle.jrnl_store.specs.declared.fault.Stop.{Stop}
use Rattle.jrnl_store.specs.declared.fault.Stop.TheVariants.{LeavesSpent, Full, DiskFault, OutletFault, FeedFault}
use Rattle.life_model.specs.Life.{Comes, Life, Told}
use Rattle.record_model.specs.Recording.{Recording}
use Rattle.record_parts.specs.Ends.{CutsAmong}

-- the outlet got these pieces; or some of them, and perhaps a front of the next
abbrev pub Got : {H : Type 0} → (Piece → H → H) → (Piece → H → H → Type 0) → List Told → H → H → Type 0
Got adding tearing told old new = (new ≡ all_added adding (map (λ t. t.piece) told) old) ⊎ CutsAmong adding tearing (map (λ t. t.piece) told) old new

-- A life that comes from another by events, with a recording and a place; what it released more is what the outlet got.
pub record LivesOn {W H : Type 0} (left : W → List ℕ → Type 0) (adding : Piece → H → H) (tearing : Piece → H → H → Type 0) (l : Life W) (recording : Recording) (place : W) (old new : H) : Type 0 where
  pub life : Life W
  pub comes : Comes left l life
  pub who_is : life.who ≡ l.who
  pub recording_is : life.recording ≡ recording
  pub place_is : life.place ≡ place
  pub told : List Told
  pub released : life.released ≡ l.released ++ told
  pub got : Got adding tearing told old new

-- a life that comes from another by events, at a place, with nothing more released
pub record LivesCut {W : Type 0} (left : W → List ℕ → Type 0) (l : Life W) (place : W) : Type 0 where
  pub life : Life W
  pub comes : Comes left l life
  pub place_is : life.place ≡ place
  pub released : life.released ≡ l.released

-- what holds where a call saved what it had to save
abbrev pub WhereSaved : {T : Type 0} → Result T Stop → Type 0 → Type 0
WhereSaved (Ok x) P = P
WhereSaved (Err LeavesSpent) P = Unit {0}
WhereSaved (Err Full) P = Unit {0}
WhereSaved (Err DiskFault) P = Unit {0}
WhereSaved (Err OutletFault) P = P
WhereSaved (Err FeedFault) P = Unit {0}
