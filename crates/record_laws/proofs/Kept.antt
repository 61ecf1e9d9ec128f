-- What a recorder does keeps its keeps true.
use Rattle.std.specs.Prelude.{fold}
use Rattle.journal_model.proofs.Judging.{next_fold}
use Rattle.journal_model.proofs.Prefixes.{frames_append}
use Rattle.journal_model.specs.Standing.{start as start_of}
use Rattle.std.proofs.Common.{length-append, ◌≡◌, ℕ, ◌+◌, List, [], ◌∷◌, ◌++◌, length, Some, refl, sym, ap, subst, ◌∙◌, append_assoc, arith}
use Rattle.std.proofs.lemmas.List.{append-nil}
use Rattle.avm_model.specs.Machine.{State}
use Rattle.avm_model.specs.Head.{HeadData}
use Rattle.avm_model.specs.HeadState.{state_of}
use Rattle.avm_model.specs.Offer.{Offer, taken}
use Rattle.avm_model.specs.Reference.{Made, step_of}
use Rattle.avm_num.specs.Walk.{items_of}
use Rattle.honest_model.proofs.Logs.{has_first, record-parts}
use Rattle.honest_model.proofs.Snaps.{step_well}
use Rattle.honest_model.specs.Honest.{Leads, header_state}
use Rattle.honest_model.specs.KeepPages.{IsHeader, KeepsPages, WritesHead}
use Rattle.honest_model.specs.Keeps.{AreTrue}
use Rattle.journal_model.proofs.Prefixes.{frames_append}
use Rattle.journal_model.specs.Journal.{parts, with_record}
use Rattle.journal_model.specs.Part.{Part, frames_in, page_at}
use Rattle.journal_model.specs.Standing.{behind, standing}
use Rattle.record_laws.proofs.Truth.{Makes, made_true, true-append}
use Rattle.record_model.proofs.Standing.{leads_all}
use Rattle.record_model.specs.Recording.{Recording, made_parts, next_of, saved, with_input, with_step}
use Rattle.record_model.specs.Standing.{FitAll, IsStanding, KeepsTrue}

-- the number of the next entry counts those in front
pub next_counts : (r : Recording) → next_of r ≡ r.journal.header.first + length (frames_in (parts r.journal ++ r.batch))
unfolding standing
next_counts r = next_fold (fold behind (start_of r.journal.header) (parts r.journal)) r.batch ∙ counts
  where
    counts : (fold behind (start_of r.journal.header) (parts r.journal)).next + length (frames_in r.batch) ≡ r.journal.header.first + length (frames_in (parts r.journal ++ r.batch))
    counts = omega (arith, next_fold (start_of r.journal.header) (parts r.journal), ap length (frames_append (parts r.journal) r.batch), length-append (frames_in (parts r.journal)) (frames_in r.batch))

-- a step with outputs
loud_step : (r : Recording) (a : HeadData) (pages : List ℕ) (t : State) (o : Made) (os : List Made) → IsStanding r → KeepsTrue r → IsHeader r.journal.header a → step_of r.machine ≡ Some (t, o ∷ os) → FitAll (o ∷ os) → WritesHead t → KeepsPages r.journal.header (parts r.journal ++ r.batch) t (items_of page_at pages) → KeepsTrue (with_step r pages (t, o ∷ os)).recording
loud_step r a pages t o os h keeps head st fits writes ram =
    let front : List Part = parts r.journal ++ r.batch in
    let more : List Part = made_parts (next_of r) t pages (o ∷ os) in
    let is_head : header_state r.journal.header ≡ Some (state_of a r.journal.header.pages) = rw head.head refl in
    let q : Some h.from ≡ Some (state_of a r.journal.header.pages) = sym h.header ∙ is_head in
    let same : h.from ≡ state_of a r.journal.header.pages = cc in
    let old : Leads (state_of a r.journal.header.pages) front h.reached = subst (λ (x : State). Leads x front h.reached) same h.batch in
    let leads : Leads (state_of a r.journal.header.pages) (front ++ more) t = subst (λ (x : State). Leads x (front ++ more) t) same (leads_all r pages t o os h st fits) in
    let m : Makes r.journal.header a front t pages = record { header = head; first = has_first _ front old.committed; read = writes.read; again = writes.again; ram = ram } in
    let new : AreTrue r.journal.header front more = made_true r.journal.header a (o ∷ os) front t (next_of r) pages m (step_well r.machine t (o ∷ os) st) (next_counts r) leads in
    subst (λ (ps : List Part). AreTrue r.journal.header [] ps) (append_assoc (parts r.journal) r.batch more) (true-append r.journal.header [] front more keeps new)

pub step_true : (r : Recording) (a : HeadData) (pages : List ℕ) (t : State) (os : List Made) → IsStanding r → KeepsTrue r → IsHeader r.journal.header a → step_of r.machine ≡ Some (t, os) → FitAll os → WritesHead t → KeepsPages r.journal.header (parts r.journal ++ r.batch) t (items_of page_at pages) → KeepsTrue (with_step r pages (t, os)).recording
step_true r a pages t [] h keeps head st fits writes ram = subst (λ (b : List Part). AreTrue r.journal.header [] (parts r.journal ++ b)) (sym (append-nil r.batch)) keeps
step_true r a pages t (o ∷ os) h keeps head st fits writes ram = loud_step r a pages t o os h keeps head st fits writes ram

pub input_true : (r : Recording) (o : Offer) → KeepsTrue r → KeepsTrue (with_input r o (taken r.machine o))
input_true r o keeps =
    subst (λ (ps : List Part). AreTrue r.journal.header [] ps) (append_assoc (parts r.journal) r.batch _) (true-append r.journal.header [] (parts r.journal ++ r.batch) _ keeps tt)

pub saved_true : (r : Recording) → KeepsTrue r → KeepsTrue (saved r)
saved_true r keeps = subst (λ (ps : List Part). AreTrue r.journal.header [] ps) (sym (append-nil (parts (with_record r.journal r.batch)) ∙ record-parts r.journal r.batch)) keeps
