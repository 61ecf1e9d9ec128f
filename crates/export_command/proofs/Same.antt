-- Exporting entries of a journal has one answer.
use Rattle.std.proofs.Common.{◌≡◌, ℕ, List, Option, None, Some, if◌then◌else◌, sym, ap, subst, ◌∙◌}
use Rattle.avm_model.specs.Machine.{State}
use Rattle.avm_model.specs.Reference.{entries_of, timed}
use Rattle.avm_model.specs.Rerun.{after}
use Rattle.avm_model.specs.Segment.{segment_bytes}
use Rattle.export_model.specs.Exports.{Answer, IsExport, IsExportOf, IsStateAt, exported, in_range, range, segment_for}
use Rattle.honest_model.specs.Keeps.{frames_behind, up_to}
use Rattle.journal_model.specs.Journal.{JournalData}
use Rattle.journal_model.specs.Part.{Part}
use Rattle.opening_laws.proofs.Bases.{same_base}
use Rattle.opening_laws.proofs.Faults.{same_stretch}

-- the state behind a base's entries up to a number
abbrev reached : ℕ → List Part → List Part → State → State
reached n front behind s = (after timed s (entries_of (up_to n (frames_behind front behind)))).state

same_state : (j : JournalData) (n : ℕ) (s t : State) → IsStateAt j n s → IsStateAt j n t → s ≡ t
same_state j n s t p q =
    let e = same_base j n p.front p.behind q.front q.behind p.base q.base p.base_is q.base_is in
    p.state
    ∙ ap (λ (x : List Part). reached n x p.behind p.base) e.front_is
    ∙ ap (λ (x : List Part). reached n q.front x p.base) e.behind_is
    ∙ ap (λ (x : State). reached n q.front q.behind x) e.state_is
    ∙ sym q.state

-- the answer for a state at the first entry
abbrev answer_for : JournalData → ℕ → ℕ → State → Answer
answer_for j from to s = if in_range j from to (segment_bytes (segment_for j from to s)) then exported (segment_bytes (segment_for j from to s)) else range

same_of : (fault : Option ℕ) (j : JournalData) (from to : ℕ) (x y : Answer) → IsExportOf fault j from to x → IsExportOf fault j from to y → x ≡ y
same_of (Some n) j from to x y p q = p ∙ sym q
same_of None j from to x y p q = p.2 ∙ ap (answer_for j from to) (same_state j from p.0 q.0 p.1 q.1) ∙ sym q.2

pub same_export : (j : JournalData) (from to : ℕ) (x y : Answer) → IsExport j from to x → IsExport j from to y → x ≡ y
same_export j from to x y p q =
    let same : p.fault ≡ q.fault = same_stretch j from p.fault q.fault p.stretch_is q.stretch_is in
    same_of q.fault j from to x y (subst (λ (o : Option ℕ). IsExportOf o j from to x) same p.answer_is) q.answer_is
