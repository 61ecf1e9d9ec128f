-- Turns one after another are moves of one run.
use Rattle.std.proofs.Common.{◌≡◌, ℕ, List, [], ◌∷◌, ◌++◌, Option, Some, None, sym, ap, ◌∙◌}
use Rattle.avm_num.specs.Bytes.{◌>>=◌}
use Rattle.avm_model.specs.Machine.{State}
use Rattle.avm_outside.specs.Feed.{Agenda}
use Rattle.honest_model.specs.Keeps.{IsOpened}
use Rattle.journal_model.specs.Journal.{JournalData}
use Rattle.journal_model.specs.Saving.{CommitRefusal}
use Rattle.record_model.specs.Recorded.{IsLast, IsRecorded, Run, begun, moves, running}
use Rattle.record_model.specs.Released.{Sender}
use Rattle.record_laws.specs.Turns.{AreTurns, IsTurn}
use Rattle.record_laws.proofs.Moving.{moves-append}
use Rattle.record_laws.proofs.Turning.{turn_is_moves}

abbrev running_of : Run → Run
running_of r = running r.recording.journal r.recording.batch r.script r.released r.drops r.recording.machine

running_is : (r : Run) → r.stop ≡ None → r ≡ running_of r
running_is r e = ap (λ (o : Option CommitRefusal). record r { stop = o }) e

turn_moves : (who : Sender) (r t : Run) → IsTurn who r t → (pages : List (List ℕ)) × (moves who pages r ≡ Some t)
turn_moves who r t h =
    let m = turn_is_moves who h.pages r.recording.journal r.recording.batch r.script r.released r.drops r.recording.machine h.at h.plan h.act h.done h.of_script in
    (m.pages, ap (moves who m.pages) (running_is r h.goes_on) ∙ m.moves_are ∙ sym (ap Some h.behind))

pub turns_moves : (who : Sender) (r : Run) (ts : List Run) (last : Run) → AreTurns who r ts last → (pages : List (List ℕ)) × (moves who pages r ≡ Some last)
turns_moves who r [] last e = ([], ap Some e)
turns_moves who r (t ∷ ts) last h =
    let a = turn_moves who r t h.0 in
    let b = turns_moves who t ts last h.1 in
    (a.0 ++ b.0, moves-append who a.0 b.0 r ∙ ap (λ (m : Option Run). m >>= moves who b.0) a.1 ∙ b.1)

pub turns_record : (who : Sender) (j : JournalData) (p : Agenda) (s : State) (ts : List Run) (end last : Run) → IsOpened j s → AreTurns who (begun j s p) ts end → IsLast who end last → IsRecorded who j p last
turns_record who j p s ts end last opened turns is_last =
    let m = turns_moves who (begun j s p) ts end turns in
    record { machine = s; opened = opened; pages = m.0; end = end; ran_to = m.1; last_is = is_last }
