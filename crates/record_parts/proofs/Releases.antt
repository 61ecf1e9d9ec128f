-- What a step's outputs release, once their batch is saved.
use Rattle.std.proofs.Common.{◌≡◌, ℕ, ◌+◌, Bool, true, false, List, [], ◌∷◌, ◌++◌, map, take, fold, Option, Some, None, refl, sym, ap, ◌∙◌}
use Rattle.std.specs.Prelude.{if◌then◌else◌, ◌==◌}
use Rattle.avm_model.specs.Machine.{State, Output, Out, out_send}
use Rattle.avm_model.specs.Content.{ContentData, boot, snap, conin, clock, recv, acked, out, send, halt, content_at}
use Rattle.avm_model.specs.Reference.{made_of}
use Rattle.avm_model.specs.Root.{root}
use Rattle.avm_model.specs.declared.Sent.{Sent}
use Rattle.guest_machine.specs.Outs.{halt_list, snap_list}
use Rattle.guest_machine.specs.declared.outs.Outs.{Outs}
use Rattle.log_entry.proofs.Contents.{content_again}
use Rattle.record_parts.specs.Outs.{AreQuiet, first_of, is_out, is_recv, is_send, line_pieces, outs_made, sent_pieces, with_made}
use Rattle.journal_model.specs.Part.{Part, entry, keep, seal}
use Rattle.journal_model.specs.Header.{CarriedData}
use Rattle.journal_model.specs.Standing.{SignedData, StandingData, behind, signed_from, signed_in}
use Rattle.record_model.specs.Released.{Sender, content_pieces, pieces_from}
use Rattle.record_model.proofs.Pieces.{pieces-append}
use Rattle.journal_model.proofs.Signing.{signed_append}
use Rattle.record_batch.specs.Batch.{BatchData}
use Rattle.avm_outside.specs.Outlet.{Piece, console}
use Rattle.record_model.specs.Recording.{made_parts, frame_of}
use Rattle.record_model.specs.Standing.{FitAll}

nothing : (who : Sender) (e : CarriedData) (c : Option ContentData) → is_out c ≡ false → is_send c ≡ false → is_recv c ≡ false → content_pieces who e c ≡ []
nothing who e None x y z = refl
nothing who e (Some (boot count r)) x y z = refl
nothing who e (Some (snap count r)) x y z = refl
nothing who e (Some (conin count bytes)) x y z = refl
nothing who e (Some (clock count value)) x y z = refl
nothing who e (Some (recv count packet)) x y z = absurd cc
nothing who e (Some (acked count packet)) x y z = refl
nothing who e (Some (out count bytes)) x y z = absurd cc
nothing who e (Some (send count peer number payload)) x y z = absurd cc
nothing who e (Some (halt count cause value)) x y z = refl

pub quiet_pieces : (who : Sender) (p : StandingData) (b : List Part) → AreQuiet b → pieces_from who p b ≡ []
quiet_pieces who p [] h = refl
quiet_pieces who p (entry f ∷ b) h = rw (nothing who (record { leaf = p.used; before = p.hash; frame = f }) (content_at f.kind f.content) h.1 h.2 h.3, quiet_pieces who (behind p (entry f)) b h.4) refl
quiet_pieces who p (seal ∷ b) h = absurd h
quiet_pieces who p (keep k ∷ b) h = quiet_pieces who p b h

pub quiet_signed : (p : StandingData) (b : List Part) → AreQuiet b → signed_from p b ≡ []
quiet_signed p [] h = refl
quiet_signed p (entry f ∷ b) h =
    let one : signed_in p (entry f) ≡ [] = rw h.0 refl in
    ap (λ (ts : List SignedData). ts ++ signed_from (behind p (entry f)) b) one ∙ quiet_signed (behind p (entry f)) b h.4
quiet_signed p (seal ∷ b) h = absurd h
quiet_signed p (keep k ∷ b) h = quiet_signed p b h

-- ---- a halt and a snapshot release nothing

record Nothing (who : Sender) (q : StandingData) (ps : List Part) : Type 0 where
  pieces : pieces_from who q ps ≡ []
  tickets : signed_from q ps ≡ []

tail_nothing : (who : Sender) (q : StandingData) (n : ℕ) (s : State) (pages : List ℕ) (h : Option (ℕ × ℕ)) (b : Bool) → FitAll (map (made_of s) (halt_list h ++ snap_list b)) → Nothing who q (made_parts n s pages (map (made_of s) (halt_list h ++ snap_list b)))
tail_nothing who q n s pages None false fits = record { pieces = refl; tickets = refl }
tail_nothing who q n s pages None true fits = record { pieces = rw (content_again (snap s.count (root s)) fits.0) refl; tickets = refl }
tail_nothing who q n s pages (Some x) false fits = record { pieces = rw (content_again (halt s.count x.0 x.1) fits.0) refl; tickets = refl }
tail_nothing who q n s pages (Some x) true fits = record { pieces = rw (content_again (halt s.count x.0 x.1) fits.0, content_again (snap s.count (root s)) fits.1.0) refl; tickets = refl }

-- ---- a line and a message

abbrev list_by : Bool → List ℕ → Option Sent → List ℕ → Option (ℕ × ℕ) → Bool → List Output
list_by empty bytes sent window h b = (if empty then [] else Out bytes ∷ []) ++ out_send sent window ++ halt_list h ++ snap_list b

outs_release : (who : Sender) (q : StandingData) (s : State) (pages : List ℕ) (empty : Bool) (bytes : List ℕ) (sent : Option Sent) (h : Option (ℕ × ℕ)) (b : Bool) → FitAll (map (made_of s) (list_by empty bytes sent s.devices.window h b))
    → pieces_from who q (made_parts q.next s pages (map (made_of s) (list_by empty bytes sent s.devices.window h b))) ≡ (if empty then [] else console bytes ∷ []) ++ sent_pieces who s sent (first_of (signed_from q (made_parts q.next s pages (map (made_of s) (list_by empty bytes sent s.devices.window h b)))))
outs_release who q s pages true bytes None h b fits = (tail_nothing who q q.next s pages h b fits).pieces
outs_release who q s pages true bytes (Some x) h b fits =
    let c : ContentData = send s.count x.peer x.number (take x.len s.devices.window) in
    let t = tail_nothing who (behind q (entry (frame_of q.next c))) (q.next + 1) s pages h b fits.1 in
    rw (content_again c fits.0, t.pieces) refl
outs_release who q s pages false bytes None h b fits =
    let c : ContentData = out s.count bytes in
    let t = tail_nothing who (behind q (entry (frame_of q.next c))) (q.next + 1) s pages h b fits.1 in
    rw (content_again c fits.0, t.pieces) refl
outs_release who q s pages false bytes (Some x) h b fits =
    let d : ContentData = out s.count bytes in
    let c : ContentData = send s.count x.peer x.number (take x.len s.devices.window) in
    let r : StandingData = behind q (entry (frame_of q.next d)) in
    let t = tail_nothing who (behind r (entry (frame_of (q.next + 1) c))) (q.next + 1 + 1) s pages h b fits.1.1 in
    rw (content_again d fits.0, content_again c fits.1.0, t.pieces) refl

-- what the whole batch releases
pub batch_releases : (who : Sender) (p : StandingData) (b : BatchData) (s : State) (pages : List ℕ) (o : Outs) → AreQuiet b.parts → FitAll (outs_made s o) → b.next ≡ (fold behind p b.parts).next
    → pieces_from who p (with_made b s pages (outs_made s o)).parts ≡ line_pieces o.line ++ sent_pieces who s o.sent (first_of (signed_from p (with_made b s pages (outs_made s o)).parts))
batch_releases who p b s pages o quiet fits next =
    let q : StandingData = fold behind p b.parts in
    let x : List Part = made_parts b.next s pages (outs_made s o) in
    let y : List Part = made_parts q.next s pages (outs_made s o) in
    let same : x ≡ y = ap (λ (n : ℕ). made_parts n s pages (outs_made s o)) next in
    let front : pieces_from who p (b.parts ++ x) ≡ pieces_from who q y = pieces-append who p b.parts x ∙ ap (λ (ps : List Piece). ps ++ pieces_from who q x) (quiet_pieces who p b.parts quiet) ∙ ap (λ (ps : List Part). pieces_from who q ps) same in
    let tickets : signed_from p (b.parts ++ x) ≡ signed_from q y = signed_append p b.parts x ∙ ap (λ (ts : List SignedData). ts ++ signed_from q x) (quiet_signed p b.parts quiet) ∙ ap (λ (ps : List Part). signed_from q ps) same in
    front ∙ outs_release who q s pages (o.line.len == 0) (take o.line.len o.line.bytes) o.sent o.halt o.snap fits ∙ ap (λ (ts : List SignedData). line_pieces o.line ++ sent_pieces who s o.sent (first_of ts)) (sym tickets)
