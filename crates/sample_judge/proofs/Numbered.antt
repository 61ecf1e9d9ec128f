-- The numbers of what a run has left, and how they end.
use Rattle.std.proofs.Common.{◌≡◌, ℕ, ◌+◌, ◌==◌, ◌&&◌, Bool, true, false, List, [], ◌∷◌, None, refl, sym, ap, subst, ◌∙◌, arith}
use Rattle.std.specs.Prelude.{IfOk, Result, Ok, Err, map, string_bytes}
use Rattle.avm_model.specs.Entries.{snaps}
use Rattle.command_parts.specs.Printing.{line}
use Rattle.honest_model.specs.Keeps.{last_of}
use Rattle.journal_model.proofs.Judging.{stands_next, stands_used}
use Rattle.journal_model.specs.Journal.{Is, JournalData, entries, journal_of, next_number, used}
use Rattle.journal_model.specs.Standing.{StandingData}
use Rattle.jrnl_store.proofs.Commits.{shut_stands}
use Rattle.jrnl_store.specs.Kept.{Kept}
use Rattle.jrnl_store.specs.Own.{IsOwn}
use Rattle.sample_lines.specs.Judging.{Ending as EndingOf, JudgedTo, NumbersEnd, Subject, ended, first_lines, is_full, journal, seed_line}
use Rattle.sample_judge.specs.Ends.{Ends, Says, numbers_text}
use Rattle.sample_judge.specs.declared.ending.Ending.{Ending}
use Rattle.sample_judge.proofs.Segmented.{First}
use Rattle.sample_judge.proofs.Stages.{ends_by}

-- ---- of a store that is kept

pub left_stands : (k : Kept) (images : List ℕ → Type 0) (was : List ℕ) (j : JournalData) → k.stop ≡ None → IsOwn k images was j → journal_of was ≡ Is j
left_stands k images was j run own = shut_stands j own.front was own.stands own.begun (own.shut run)

pub left_last : (k : Kept) (images : List ℕ → Type 0) (was : List ℕ) (j : JournalData) (last : ℕ) → last + 1 ≡ k.standing.next → IsOwn k images was j → last ≡ last_of j
left_last k images was j last is own =
    let next : last + 1 ≡ next_number j = is ∙ ap (λ (s : StandingData). s.next) own.keeps.standing ∙ stands_next j in
    omega (arith, next)

pub left_used : (k : Kept) (images : List ℕ → Type 0) (was : List ℕ) (j : JournalData) (leaves : ℕ) → leaves ≡ k.standing.used → IsOwn k images was j → leaves ≡ used j
left_used k images was j leaves is own = is ∙ ap (λ (s : StandingData). s.used) own.keeps.standing ∙ stands_used j

-- ---- the second line

-- the numbers that are told are those of the subject
pub record AreNumbers (x : Subject) (last snap_count leaves steps : ℕ) : Type 0 where
  pub last_is : last ≡ last_of (journal x)
  pub snaps_is : snap_count ≡ snaps (entries (journal x))
  pub used_is : leaves ≡ used (journal x)
  pub steps_is : steps ≡ x.last.recording.machine.count

pub first_said : (x : Subject) (last snap_count leaves steps : ℕ) (texts : List (List ℕ)) → AreNumbers x last snap_count leaves steps → Says texts (seed_line x.seed ∷ numbers_text last snap_count leaves steps ∷ []) → Says texts (first_lines x)
first_said x last snap_count leaves steps texts n says = says ∙ ap (λ (t : List ℕ). map line (seed_line x.seed ∷ t ∷ [])) same
  where
    same : numbers_text last snap_count leaves steps ≡ numbers_text (last_of (journal x)) (snaps (entries (journal x))) (used (journal x)) x.last.recording.machine.count
    same =
        ap (λ (a : ℕ). numbers_text a snap_count leaves steps) n.last_is ∙ ap (λ (a : ℕ). numbers_text (last_of (journal x)) a leaves steps) n.snaps_is
        ∙ ap (λ (a : ℕ). numbers_text (last_of (journal x)) (snaps (entries (journal x))) a steps) n.used_is ∙ ap (λ (a : ℕ). numbers_text (last_of (journal x)) (snaps (entries (journal x))) (used (journal x)) a) n.steps_is

full_is : (x : Subject) (last snap_count leaves steps : ℕ) (b : Bool) → AreNumbers x last snap_count leaves steps → b ≡ (snap_count == 3 && leaves == 301) → b ≡ is_full x
full_is x last snap_count leaves steps b n is = is ∙ ap (λ (a : ℕ). a == 3 && leaves == 301) n.snaps_is ∙ ap (λ (a : ℕ). snaps (entries (journal x)) == 3 && a == 301) n.used_is

by_numbers : (x : Subject) (b : Bool) (e : EndingOf) → is_full x ≡ b → NumbersEnd b x e → JudgedTo x e
by_numbers x b e is h = subst (λ (y : Bool). NumbersEnd y x e) (sym is) h

-- there are others
pub not_full : (x : Subject) (last snap_count leaves steps : ℕ) (b : Bool) (e : Ending) → AreNumbers x last snap_count leaves steps → b ≡ (snap_count == 3 && leaves == 301) → b ≡ false → Says (map string_bytes e.lines.items) (first_lines x) → e.status ≡ 2 → Ends (JudgedTo x) e
not_full x last snap_count leaves steps b e n is other says status =
    record { end = ended 2 (first_lines x); is = by_numbers x false (ended 2 (first_lines x)) (sym (full_is x last snap_count leaves steps b n is) ∙ other) refl; lines = says; status = status }

-- they are those
pub if_full : {E : Type 0} (x : Subject) (last snap_count leaves steps : ℕ) (b : Bool) (r : Result Ending E) → AreNumbers x last snap_count leaves steps → b ≡ (snap_count == 3 && leaves == 301) → b ≡ true → IfOk r (Ends (First x)) → IfOk r (Ends (JudgedTo x))
if_full x last snap_count leaves steps b (Ok e) n is same h = ends_by e (λ m p. by_numbers x true m (sym (full_is x last snap_count leaves steps b n is) ∙ same) p) h
if_full x last snap_count leaves steps b (Err e) n is same h = tt
