-- The changes of a word, step by step.
use Rattle.std.proofs.Common.{◌≡◌, ℕ, suc, ◌+◌, ◌-◌, ◌<◌, Bool, true, false, List, ◌++◌, Option, Some, refl, sym, ap, ◌∙◌, arith, append-nil, eqb-true}
use Rattle.std.specs.Prelude.{map, not, ◌==◌}
use Rattle.std.proofs.lemmas.List.{map-append}
use Rattle.avm_model.specs.Reference.{Given, timed}
use Rattle.avm_model.specs.Machine.{State}
use Rattle.view_model.specs.Points.{Point, next}
use Rattle.view_model.specs.Views.{change_at, changes_on, changes_in, word_at}
use Rattle.view_command.specs.Lines.{change_line}

-- the changes from a point are the change of the next step and those from the next point
pub changes_next : (a last : ℕ) (p q : Point State Given) → p.state.count < last → next timed p ≡ Some q → q.state.count ≡ p.state.count + 1
    → map change_line (changes_in a (last - p.state.count) p) ≡ map change_line (change_at q.state.count (word_at a p.state) (word_at a q.state)) ++ map change_line (changes_in a (last - q.state.count) q)
changes_next a last p q lt e n =
    let d : last - p.state.count ≡ suc (last - q.state.count) = omega (arith, n, lt) in
    ap (λ (k : ℕ). map change_line (changes_in a k p)) d ∙ ap (λ (r : Option (Point State Given)). map change_line (changes_on a p (changes_in a (last - q.state.count)) r)) e
    ∙ map-append change_line (change_at q.state.count (word_at a p.state) (word_at a q.state)) (changes_in a (last - q.state.count) q)

-- at the last count there are no more
pub changes_end : (a last : ℕ) (p : Point State Given) (said all : List (List ℕ)) → false ≡ not (p.state.count == last) → said ++ map change_line (changes_in a (last - p.state.count) p) ≡ all → said ≡ all
changes_end a last p said all e h = go (p.state.count == last) refl e
  where
    go : (b : Bool) → (p.state.count == last) ≡ b → false ≡ not b → said ≡ all
    go false t e = absurd cc
    go true t e =
        let same : p.state.count ≡ last = eqb-true _ _ t in
        let none : last - p.state.count ≡ 0 = omega (arith, same) in
        sym (append-nil said) ∙ sym (ap (λ (k : ℕ). said ++ map change_line (changes_in a k p)) none) ∙ h
