-- The tickets that are kept behind a step.
use Rattle.journal_model.specs.Header.{CarriedData}
use Rattle.journal_model.specs.Journal.{JournalData, with_record}
use Rattle.journal_model.specs.Part.{Part, entry}
use Rattle.journal_model.specs.Standing.{SignedData, StandingData, behind, signed_from, standing}
use Rattle.jrnl_part.specs.Carriage.{carried_signed}
use Rattle.record_model.specs.Recording.{frame_of, made_parts}
use Rattle.record_model.specs.Released.{read, signed_frames}
use Rattle.record_model.specs.Standing.{FitAll}
use Rattle.record_parts.specs.Outs.{AreQuiet, first_of}
use Rattle.std.proofs.Common.{◌≡◌, ℕ, ◌+◌, Bool, true, false, List, [], ◌∷◌, ◌++◌, map, take, fold, Option, Some, None, refl, sym, ap, subst, ◌∙◌}
use Rattle.std.specs.Prelude.{if◌then◌else◌, ◌==◌}
use Rattle.avm_model.specs.Machine.{State, Output, Out, out_send}
use Rattle.avm_model.specs.Content.{ContentData, out, send}
use Rattle.avm_model.specs.Reference.{made_of}
use Rattle.avm_model.specs.declared.Sent.{Sent}
use Rattle.guest_machine.specs.Outs.{halt_list, snap_list}
use Rattle.guest_machine.specs.declared.outs.Outs.{Outs}
use Rattle.log_entry.proofs.Contents.{content_again}
use Rattle.journal_model.proofs.Signing.{signed_append}
use Rattle.record_batch.specs.Batch.{BatchData}
use Rattle.record_parts.proofs.Releases.{quiet_signed}
use Rattle.record_parts.specs.Outs.{outs_made, with_made}
use Rattle.record_kept.specs.Tickets.{AreKeptOf}
use Rattle.record_kept.specs.declared.kept.KeptRow.{KeptRow}
use Rattle.record_kept.proofs.Keeping.{frames-append, quiet_frames, kept_quiet}

abbrev list_by : Bool → List ℕ → Option Sent → List ℕ → Option (ℕ × ℕ) → Bool → List Output
list_by empty bytes sent window h b = (if empty then [] else Out bytes ∷ []) ++ out_send sent window ++ halt_list h ++ snap_list b

tail_signed : (q : StandingData) (n : ℕ) (s : State) (pages : List ℕ) (h : Option (ℕ × ℕ)) (b : Bool) → signed_frames q (made_parts n s pages (map (made_of s) (halt_list h ++ snap_list b))) ≡ []
tail_signed q n s pages None false = refl
tail_signed q n s pages None true = refl
tail_signed q n s pages (Some x) false = refl
tail_signed q n s pages (Some x) true = refl

none_signed : (q : StandingData) (s : State) (pages : List ℕ) (empty : Bool) (bytes : List ℕ) (h : Option (ℕ × ℕ)) (b : Bool) → signed_frames q (made_parts q.next s pages (map (made_of s) (list_by empty bytes None s.devices.window h b))) ≡ []
none_signed q s pages true bytes h b = tail_signed q q.next s pages h b
none_signed q s pages false bytes h b = tail_signed (behind q (entry (frame_of q.next (out s.count bytes)))) (q.next + 1) s pages h b

-- the one signed entry of a step that sent a message
pub record Signed (s : State) (x : Sent) (q : StandingData) (parts : List Part) : Type 0 where
  pub entry : CarriedData
  pub one : signed_frames q parts ≡ entry ∷ []
  pub is : read entry ≡ Some (send s.count x.peer x.number (take x.len s.devices.window))
  pub ticket : first_of (signed_from q parts) ≡ Some (carried_signed entry)

some_signed : (q : StandingData) (s : State) (pages : List ℕ) (empty : Bool) (bytes : List ℕ) (x : Sent) (h : Option (ℕ × ℕ)) (b : Bool) → FitAll (map (made_of s) (list_by empty bytes (Some x) s.devices.window h b)) → Signed s x q (made_parts q.next s pages (map (made_of s) (list_by empty bytes (Some x) s.devices.window h b)))
some_signed q s pages true bytes x h b fits =
    let c : ContentData = send s.count x.peer x.number (take x.len s.devices.window) in
    let e : CarriedData = record { leaf = q.used; before = q.hash; frame = frame_of q.next c } in
    record {
      entry = e;
      one = ap (λ (es : List CarriedData). e ∷ es) (tail_signed (behind q (entry (frame_of q.next c))) (q.next + 1) s pages h b);
      is = content_again c fits.0;
      ticket = refl;
    }
some_signed q s pages false bytes x h b fits =
    let d : ContentData = out s.count bytes in
    let c : ContentData = send s.count x.peer x.number (take x.len s.devices.window) in
    let r : StandingData = behind q (entry (frame_of q.next d)) in
    let e : CarriedData = record { leaf = r.used; before = r.hash; frame = frame_of (q.next + 1) c } in
    record {
      entry = e;
      one = ap (λ (es : List CarriedData). e ∷ es) (tail_signed (behind r (entry (frame_of (q.next + 1) c))) (q.next + 1 + 1) s pages h b);
      is = content_again c fits.1.0;
      ticket = refl;
    }

-- the parts that a batch has more behind a step
abbrev pub next_parts : StandingData → BatchData → State → List ℕ → Option Sent → Outs → List Part
next_parts p b s pages w o = made_parts (fold behind p b.parts).next s pages (map (made_of s) (list_by (o.line.len == 0) (take o.line.len o.line.bytes) w s.devices.window o.halt o.snap))

same_parts : (p : StandingData) (b : BatchData) (s : State) (pages : List ℕ) (o : Outs) → b.next ≡ (fold behind p b.parts).next → (with_made b s pages (outs_made s o)).parts ≡ b.parts ++ next_parts p b s pages o.sent o
same_parts p b s pages o next = ap (λ (n : ℕ). b.parts ++ made_parts n s pages (outs_made s o)) next

-- a step that sent nothing
pub unsent : (rows : List KeptRow) (j : JournalData) (b : BatchData) (s : State) (pages : List ℕ) (o : Outs) → b.next ≡ (fold behind (standing j) b.parts).next → o.sent ≡ None → AreQuiet b.parts → AreKeptOf rows j → AreKeptOf rows (with_record j (with_made b s pages (outs_made s o)).parts)
unsent rows j b s pages o next none quiet kept =
    let q : StandingData = fold behind (standing j) b.parts in
    let x : List Part = next_parts (standing j) b s pages o.sent o in
    let nothing : signed_frames q x ≡ [] = ap (λ (w : Option Sent). signed_frames q (next_parts (standing j) b s pages w o)) none ∙ none_signed q s pages (o.line.len == 0) (take o.line.len o.line.bytes) o.halt o.snap in
    subst (λ (ps : List Part). AreKeptOf rows (with_record j ps)) (sym (same_parts (standing j) b s pages o next))
    (kept_quiet rows j (b.parts ++ x) (frames-append (standing j) b.parts x ∙ ap (λ (es : List CarriedData). es ++ signed_frames q x) (quiet_frames (standing j) b.parts quiet) ∙ nothing) kept)

-- a step that sent a message
pub was_sent : (p : StandingData) (b : BatchData) (s : State) (pages : List ℕ) (o : Outs) (x : Sent) → b.next ≡ (fold behind p b.parts).next → o.sent ≡ Some x → AreQuiet b.parts → FitAll (outs_made s o) → Signed s x p (with_made b s pages (outs_made s o)).parts
was_sent p b s pages o x next some quiet fits =
    let q : StandingData = fold behind p b.parts in
    let parts : Option Sent → List Part = λ w. next_parts p b s pages w o in
    let fits' : FitAll (map (made_of s) (list_by (o.line.len == 0) (take o.line.len o.line.bytes) (Some x) s.devices.window o.halt o.snap)) = subst (λ (w : Option Sent). FitAll (map (made_of s) (list_by (o.line.len == 0) (take o.line.len o.line.bytes) w s.devices.window o.halt o.snap))) some fits in
    let z = some_signed q s pages (o.line.len == 0) (take o.line.len o.line.bytes) x o.halt o.snap fits' in
    let y : Signed s x q (parts o.sent) = subst (λ (w : Option Sent). Signed s x q (parts w)) (sym some) z in
    let all : Signed s x p (b.parts ++ parts o.sent) = record {
      entry = y.entry;
      one = frames-append p b.parts (parts o.sent) ∙ ap (λ (es : List CarriedData). es ++ signed_frames q (parts o.sent)) (quiet_frames p b.parts quiet) ∙ y.one;
      is = y.is;
      ticket = ap first_of (signed_append p b.parts (parts o.sent) ∙ ap (λ (ts : List SignedData). ts ++ signed_from q (parts o.sent)) (quiet_signed p b.parts quiet)) ∙ y.ticket;
    } in
    subst (λ (ps : List Part). Signed s x p ps) (sym (same_parts p b s pages o next)) all

pub some_ticket : (t u : SignedData) → Some t ≡ Some u → u ≡ t
some_ticket t u h = ap (λ (o : Option SignedData). or_this t o) (sym h)
  where
    or_this : SignedData → Option SignedData → SignedData
    or_this d None = d
    or_this d (Some v) = v
