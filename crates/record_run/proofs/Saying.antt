-- The lines of a run, turn by turn.
use Rattle.std.proofs.Common.{◌≡◌, ◌≢◌, ℕ, ◌+◌, List, [], ◌∷◌, ◌++◌, length, Option, None, Some, refl, sym, ap, ◌∙◌, subst, append_assoc, append-nil, arith, length-append}
use Rattle.std.specs.Prelude.{IfOk, option_map, Result, Ok, Err}
use Rattle.std.specs.List.{concat}
use Rattle.avm_outside.specs.Outside.{AddsFront, BothTold}
use Rattle.command_parts.proofs.Printed.{prints_cut, written_more}
use Rattle.command_parts.specs.Printing.{Prints, PrintsCut, line}
use Rattle.record_model.specs.Recorded.{Drop}
use Rattle.record_run.specs.Ends.{Says}
use Rattle.record_run.specs.Lines.{drop_lines, drop_text}
use Rattle.record_run.specs.Turned.{SaysTurn}
use Rattle.record_run.specs.declared.stops.RunStop.{RunStop}
use Rattle.record_run.specs.declared.stops.RunStop.TheVariants.{LeavesSpent, Full, DiskFault, OutletFault, SinkFault}

concat_both : (a b : List (List ℕ)) → concat (a ++ b) ≡ concat a ++ concat b
concat_both [] b = refl
concat_both (x ∷ a) b = ap (λ (l : List ℕ). x ++ l) (concat_both a b) ∙ sym (append_assoc x (concat a) (concat b))

lines_both : (xs ys : List Drop) → drop_lines (xs ++ ys) ≡ drop_lines xs ++ drop_lines ys
lines_both [] ys = refl
lines_both (x ∷ xs) ys = ap (λ (ls : List (List ℕ)). line (drop_text x) ∷ ls) (lines_both xs ys)

bytes_both : (xs ys : List Drop) → concat (drop_lines (xs ++ ys)) ≡ concat (drop_lines xs) ++ concat (drop_lines ys)
bytes_both xs ys = ap (λ (ls : List (List ℕ)). concat ls) (lines_both xs ys) ∙ concat_both (drop_lines xs) (drop_lines ys)

pub prints_on : (xs ys : List Drop) (n m k : ℕ) (old mid new : Option (List ℕ)) → Prints (drop_lines xs) n m old mid → Prints (drop_lines ys) m k mid new → Prints (drop_lines (xs ++ ys)) n k old new
prints_on xs ys n m k old mid new a b = (
  b.0 ∙ a.0,
  b.1 ∙ ap (option_map (λ (was : List ℕ). was ++ concat (drop_lines ys))) a.1 ∙ written_more (concat (drop_lines xs)) (concat (drop_lines ys)) old ∙ ap (λ (l : List ℕ). option_map (λ (was : List ℕ). was ++ l) old) (sym (bytes_both xs ys)),
)

cut_on : (xs ys : List Drop) (n m k : ℕ) (old mid new : Option (List ℕ)) → Prints (drop_lines xs) n m old mid → PrintsCut (drop_lines ys) m k mid new → PrintsCut (drop_lines (xs ++ ys)) n k old new
cut_on xs ys n m k old mid new a b =
    let z = prints_cut (drop_lines xs) (concat (drop_lines ys)) [] n m k old mid new a b.0 b.1 in
    let same : concat (drop_lines xs ++ concat (drop_lines ys) ∷ []) ≡ concat (drop_lines (xs ++ ys)) =
    concat_both (drop_lines xs) (concat (drop_lines ys) ∷ []) ∙ ap (λ (l : List ℕ). concat (drop_lines xs) ++ l) (append-nil (concat (drop_lines ys))) ∙ sym (bytes_both xs ys) in
    (z.0, subst (λ (l : List ℕ). BothTold old new (AddsFront l)) same z.1)

pub prints_nothing : (n : ℕ) (old : Option (List ℕ)) → Prints (drop_lines []) n n old old
prints_nothing n None = (refl, refl)
prints_nothing n (Some was) = (refl, ap (λ (l : List ℕ). Some l) (sym (append-nil was)))

-- a turn that is stopped before its line says nothing
pub says_none : (s : RunStop) (n : ℕ) (old : Option (List ℕ)) → ◌≢◌ {A = Result ℕ RunStop} (Err s) (Err SinkFault) → SaysTurn [] (Err s) n n old old
says_none LeavesSpent n old other = (refl, prints_nothing n old)
says_none Full n old other = (refl, prints_nothing n old)
says_none DiskFault n old other = (refl, prints_nothing n old)
says_none OutletFault n old other = (refl, prints_nothing n old)
says_none SinkFault n old other = absurd (other refl)

pub says_over : (ds ts : List Drop) (count n m k : ℕ) (old mid new : Option (List ℕ)) → count ≡ length ds → Prints (drop_lines ds) n m old mid → (ts ≡ []) × Prints (drop_lines ts) m k mid new → Says (ds ++ ts) (Ok count) n k old new
says_over ds ts count n m k old mid new c a b = (c ∙ ap (λ (xs : List Drop). length xs) (sym (append-nil ds) ∙ ap (λ (xs : List Drop). ds ++ xs) (sym b.0)), prints_on ds ts n m k old mid new a b.1)

pub says_stop : (s : RunStop) (ds ts : List Drop) (n m k : ℕ) (old mid new : Option (List ℕ)) → Prints (drop_lines ds) n m old mid → SaysTurn ts (Err s) m k mid new → Says (ds ++ ts) (Err s) n k old new
says_stop LeavesSpent ds ts n m k old mid new a b = prints_on ds ts n m k old mid new a b.1
says_stop Full ds ts n m k old mid new a b = prints_on ds ts n m k old mid new a b.1
says_stop DiskFault ds ts n m k old mid new a b = prints_on ds ts n m k old mid new a b.1
says_stop OutletFault ds ts n m k old mid new a b = prints_on ds ts n m k old mid new a b.1
says_stop SinkFault ds ts n m k old mid new a b = cut_on ds ts n m k old mid new a b

pub no_drops : (s : RunStop) (ts : List Drop) (n m : ℕ) (old new : Option (List ℕ)) → SaysTurn ts (Err s) n m old new → (s ≡ SinkFault → ⊥) → ts ≡ []
no_drops LeavesSpent ts n m old new b other = b.0
no_drops Full ts n m old new b other = b.0
no_drops DiskFault ts n m old new b other = b.0
no_drops OutletFault ts n m old new b other = b.0
no_drops SinkFault ts n m old new b other = absurd (other refl)

-- how many were dropped
pub none_more : (ds ts : List Drop) (count : ℕ) → count ≡ length ds → ts ≡ [] → count ≡ length (ds ++ ts)
none_more ds ts count c e = c ∙ ap (λ (xs : List Drop). length xs) (sym (append-nil ds) ∙ ap (λ (xs : List Drop). ds ++ xs) (sym e))

pub one_more : (ds ts : List Drop) (count : ℕ) → count ≡ length ds → length ts ≡ 1 → count + 1 ≡ length (ds ++ ts)
one_more ds ts count c e = let l = length-append ds ts in omega (arith, c, e, l)

-- the lines of a run whose seal was stopped are those before it
pub says_sealed : (result : Result ℕ RunStop) (ds : List Drop) (count n m : ℕ) (old new : Option (List ℕ)) → Says ds (Ok count) n m old new → ◌≢◌ {A = Result ℕ RunStop} result (Err SinkFault) → IfOk result (λ k. k ≡ count) → Says ds result n m old new
says_sealed (Ok k) ds count n m old new a other x = (x ∙ a.0, a.1)
says_sealed (Err LeavesSpent) ds count n m old new a other x = a.1
says_sealed (Err Full) ds count n m old new a other x = a.1
says_sealed (Err DiskFault) ds count n m old new a other x = a.1
says_sealed (Err OutletFault) ds count n m old new a other x = a.1
says_sealed (Err SinkFault) ds count n m old new a other x = absurd (other refl)
