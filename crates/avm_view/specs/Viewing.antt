-- What a viewer shows: where it stands, and the counts of the snapshot and of the last entry.
use Rattle.std.specs.Prelude.{◌≡◌, ◌⊎◌, ℕ, ◌-◌, ◌^◌, ◌<◌, ◌≤◌, Some}
use Rattle.avm_model.specs.Machine.{State}
use Rattle.avm_model.specs.Reference.{Given, timed}
use Rattle.view_model.specs.Points.{Point, point, walked, IsAt}
use Rattle.view_model.specs.Views.{Run}
use Rattle.avm_view.specs.Inputs.{point_of}
use Rattle.avm_view.specs.declared.viewer.Viewer.TheInside.{Inside}

pub record Viewing : Type 0 where
  pub point : Point State Given
  pub first : ℕ
  pub last : ℕ

abbrev pub viewing_of : Inside → Viewing
viewing_of v = record { point = point_of v.machine.state v.frames; first = v.first; last = v.last }

-- at the start of a run
abbrev pub viewing_from : Run → Viewing
viewing_from r = record { point = point r.start r.given; first = r.start.count; last = r.last }

-- it stands in a run at its count
pub record Stands (r : Run) (v : Viewing) : Type 0 where
  pub at : IsAt timed r.start r.given v.point.state.count v.point
  pub first : v.first ≡ r.start.count
  pub last : v.last ≡ r.last
  pub high : v.point.state.count ≤ r.last

-- the run hasn't this count
abbrev pub Lacks : Run → ℕ → Type 0
Lacks r c = (c < r.start.count) ⊎ (r.last < c)

-- the run goes on from here to the last count
pub record IsViewer (v : Inside) : Type 0 where
  pub high : v.machine.state.count ≤ v.last
  pub few : v.last < 2 ^ 62
  pub on : (q : Point State Given) × (walked timed (v.last - v.machine.state.count) (point_of v.machine.state v.frames) ≡ Some q)
