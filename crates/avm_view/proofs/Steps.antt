-- One count further.
use Rattle.std.proofs.Common.{◌≡◌, ℕ, zero, suc, ◌+◌, ◌-◌, ◌≤◌, ◌<◌, true, List, Option, Some, None, refl, sym, ap, subst, ◌∙◌, arith}
use Rattle.std.specs.Option.{option_and_then}
use Rattle.avm_model.specs.Machine.{State, Step, can_step}
use Rattle.avm_model.specs.Reference as reference
use Rattle.avm_model.specs.Reference.{Given, Made, timed}
use Rattle.avm_model.proofs.ReferenceLaws.{is_timed, step_is}
use Rattle.view_model.specs.Points.{Point, point, taken, stepped_to, next, walked}
use Rattle.view_model.specs.Views.{Run}
use Rattle.view_model.proofs.Walks.{next_count, walked_next}
use Rattle.avm_view.specs.Viewing.{Viewing, Stands}

abbrev pub Goes : Point State Given → ℕ → Type 0
Goes p last = (q : Point State Given) × (walked timed (last - p.state.count) p ≡ Some q)

-- the run goes on to a later count, so there is a next point, from which it goes on
pub goes_next : (p : Point State Given) (last : ℕ) → p.state.count < last → Goes p last → (x : Point State Given) × (next timed p ≡ Some x) × Goes x last
goes_next p last lt h = go (last - p.state.count) refl h.1
  where
    on : (d : ℕ) → last - p.state.count ≡ suc d → (r : Option (Point State Given)) → next timed p ≡ r → option_and_then (walked timed d) r ≡ Some h.0 → (x : Point State Given) × (next timed p ≡ Some x) × Goes x last
    on d is None e g = absurd cc
    on d is (Some x) e g =
        let n = next_count timed is_timed p x e in
        let less : last - x.state.count ≡ d = omega (arith, n, is) in
        (x, e, (h.0, rw less g))

    go : (d : ℕ) → last - p.state.count ≡ d → walked timed d p ≡ Some h.0 → (x : Point State Given) × (next timed p ≡ Some x) × Goes x last
    go zero is g = absurd (omega (arith, is, lt))
    go (suc d) is g = on d is (next timed p) refl g

-- the machine can step once the inputs are taken, and the step leads there
pub record Moves (p t x : Point State Given) : Type 0 where
  pub can : can_step t.state ≡ true
  pub is : x ≡ point (Step t.state).state t.left

pub moves : (p t x : Point State Given) → taken timed p.state p.left ≡ t → next timed p ≡ Some x → Moves p t x
moves p t x e n = go (reference.step_of t.state) refl (sym (ap (λ (y : Point State Given). stepped_to y.left (reference.step_of y.state)) e) ∙ n)
  where
    go : (r : Option (State × List Made)) → reference.step_of t.state ≡ r → stepped_to t.left r ≡ Some x → Moves p t x
    go None s h = absurd cc
    go (Some r) s h =
        let k = step_is t.state r.0 r.1 s in
        let is : point r.0 t.left ≡ x = cc in
        record { can = k.0; is = sym is ∙ ap (λ (u : State). point u t.left) k.1 }

pub record Moved (p : Point State Given) (last : ℕ) (x : Point State Given) : Type 0 where
  pub next : next timed p ≡ Some x
  pub on : Goes x last
  pub count : x.state.count ≡ p.state.count + 1

pub can_move : (p t : Point State Given) (last : ℕ) → p.state.count < last → Goes p last → taken timed p.state p.left ≡ t → can_step t.state ≡ true
can_move p t last lt h e = let g = goes_next p last lt h in (moves p t g.0 e g.1).can

pub moved : (p t : Point State Given) (last : ℕ) (new : State) → p.state.count < last → Goes p last → taken timed p.state p.left ≡ t → new ≡ (Step t.state).state → Moved p last (point new t.left)
moved p t last new lt h e s =
    let g = goes_next p last lt h in
    let m = moves p t g.0 e g.1 in
    let is : g.0 ≡ point new t.left = m.is ∙ ap (λ (u : State). point u t.left) (sym s) in
    subst (λ (x : Point State Given). Moved p last x) is (record { next = g.1; on = g.2; count = next_count timed is_timed p g.0 g.1 })

-- a viewer that stands in a run stands in it one count further
pub stands_next : (r : Run) (v w : Viewing) → Stands r v → next timed v.point ≡ Some w.point → w.first ≡ v.first → w.last ≡ v.last → w.point.state.count ≤ v.last → Stands r w
stands_next r v w h e first last high =
    let n = next_count timed is_timed v.point w.point e in
    let low : r.start.count ≤ w.point.state.count = omega (arith, n, h.at.low) in
    let k : w.point.state.count - r.start.count ≡ suc (v.point.state.count - r.start.count) = omega (arith, n, h.at.low) in
    record {
      at = record { low = low; on = rw k (walked_next timed (v.point.state.count - r.start.count) (point r.start r.given) v.point h.at.on ∙ e) };
      first = first ∙ h.first;
      last = last ∙ h.last;
      high = omega (arith, high, h.last);
    }
