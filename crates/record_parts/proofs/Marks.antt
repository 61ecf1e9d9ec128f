-- The pages that a keep has are those that have a mark.
use Rattle.std.proofs.Common.{◌≡◌, ℕ, zero, suc, ◌+◌, ◌*◌, ◌≤◌, Bool, true, false, List, [], ◌∷◌, length, get_or, refl, sym, subst, arith, inl, inr}
use Rattle.avm_model.specs.Machine.{State}
use Rattle.honest_model.specs.KeepPages.{Among, ArePages, KeepsMarked}
use Rattle.journal_model.specs.Part.{PageData}
use Rattle.record_batch.proofs.Pages.{pages_are}
use Rattle.record_batch.specs.Keeping.{AreMarks, marked_from}
use Rattle.record_parts.specs.Outs.{kept_pages, pages_in}

are_from : (i : ℕ) (marks : List Bool) (ram : List ℕ) → 4096 * (i + length marks) ≤ length ram → ArePages ram (marked_from i marks ram)
are_from i [] ram le = tt
are_from i (true ∷ marks) ram le = ((refl, omega arith), are_from (i + 1) marks ram (omega arith))
are_from i (false ∷ marks) ram le = are_from (i + 1) marks ram (omega arith)

among_from : (i k : ℕ) (marks : List Bool) (ram : List ℕ) → get_or marks k false ≡ true → Among (i + k) (marked_from i marks ram)
among_from i k [] ram e = absurd cc
among_from i zero (true ∷ marks) ram e = inl (omega arith)
among_from i zero (false ∷ marks) ram e = absurd cc
among_from i (suc k) (true ∷ marks) ram e = let z : (i + 1) + k ≡ i + suc k = omega arith in inr (subst (λ (n : ℕ). Among n (marked_from (i + 1) marks ram)) z (among_from (i + 1) k marks ram e))
among_from i (suc k) (false ∷ marks) ram e = let z : (i + 1) + k ≡ i + suc k = omega arith in subst (λ (n : ℕ). Among n (marked_from (i + 1) marks ram)) z (among_from (i + 1) k marks ram e)

pub keeps_marked : (s : State) (marks : List Bool) → AreMarks marks s.ram → KeepsMarked s marks (pages_in (kept_pages marks s.ram))
keeps_marked s marks m =
    let is : pages_in (kept_pages marks s.ram) ≡ marked_from 0 marks s.ram = pages_are 0 [] marks s.ram m in
    subst (λ (ps : List PageData). KeepsMarked s marks ps) (sym is) (record {
      are = are_from 0 marks s.ram (let z = m.size in omega (arith, z));
      marked = λ i e. let z : 0 + i ≡ i = omega arith in subst (λ (n : ℕ). Among n (marked_from 0 marks s.ram)) z (among_from 0 i marks s.ram e);
    })
