-- The effects of acts, in the words of what was written to the batch.
use Rattle.std.proofs.Common.{◌≡◌, ℕ, Bool, true, false, not, List, [], ◌∷◌, ◌++◌, fold, refl, sym, ap, ◌∙◌, ◌⊎◌, inl, inr}
use Rattle.std.specs.Prelude.{◌||◌}
use Rattle.avm_model.specs.Content.{FitsContent, acked, clock, conin, recv}
use Rattle.avm_model.specs.Machine.{State}
use Rattle.avm_model.specs.Offer.{Offer, OfferConsole, OfferClock, OfferData, OfferAck, taken}
use Rattle.avm_model.specs.Packet.{ack_bytes, data_at}
use Rattle.avm_model.specs.Reference.{Made}
use Rattle.avm_outside.specs.Outlet.{Piece, packet}
use Rattle.journal_model.proofs.Signing.{signed_append}
use Rattle.journal_model.specs.Header.{CarriedData}
use Rattle.journal_model.specs.Journal.{JournalData}
use Rattle.journal_model.specs.Part.{Part, entry, keep, seal}
use Rattle.journal_model.specs.Standing.{SignedData, StandingData, behind, entry_signed, signed_from, standing}
use Rattle.log_entry.proofs.Contents.{content_again}
use Rattle.record_batch.specs.Batch.{BatchData, with_part}
use Rattle.record_batch.specs.Spelled.{numbered}
use Rattle.record_model.proofs.Pieces.{pieces-append}
use Rattle.record_model.specs.Recording.{frame_of, is_data, is_large, is_none, made_parts, next_of, offer_content, taken_in, with_step}
use Rattle.record_model.specs.Released.{Sender, packet_of, pieces_from, sender_of}
use Rattle.record_parts.proofs.Ends.{Closing, Opening, rec}
use Rattle.record_parts.proofs.Releases.{quiet_pieces, quiet_signed}
use Rattle.record_parts.specs.Outs.{AreQuiet, with_made}

-- the batch's number is the next one behind its journal and its parts
abbrev pub IsNext : JournalData → BatchData → Type 0
IsNext j b = b.next ≡ (fold behind (standing j) b.parts).next

-- ---- a step

step_writes : (j : JournalData) (b : BatchData) (s t : State) (pages : List ℕ) (os : List Made) → IsNext j b → (with_step (rec j b.parts s) pages (t, os)).recording ≡ rec j (with_made b t pages os).parts t
step_writes j b s t pages os next = ap (λ (n : ℕ). rec j (b.parts ++ made_parts n t pages os) t) (sym next)

large_same : (j : JournalData) (b : BatchData) (s t : State) (pages : List ℕ) (os : List Made) (x : Bool) → IsNext j b → is_large (with_made b t pages os).parts ≡ x → is_large (b.parts ++ made_parts (next_of (rec j b.parts s)) t pages os) ≡ x
large_same j b s t pages os x next e = ap (λ (n : ℕ). is_large (b.parts ++ made_parts n t pages os)) (sym next) ∙ e

either_true : (a b : Bool) → b ≡ true → (a || b) ≡ true
either_true true b e = refl
either_true false b e = e

loud : (os : List Made) (x : Bool) → (os ≡ [] → ⊥) → (not (is_none os) || x) ≡ true
loud [] x h = absurd (h refl)
loud (o ∷ os) x h = refl

-- it closes where there are outputs, or the batch is large
pub step_closing : (j : JournalData) (b : BatchData) (s t : State) (pages : List ℕ) (os : List Made) → IsNext j b → (os ≡ [] → ⊥) ⊎ (is_large (with_made b t pages os).parts ≡ true) → Closing (with_step (rec j b.parts s) pages (t, os)) j (with_made b t pages os).parts t
step_closing j b s t pages os next (inl h) = record { closes = loud os _ h; recording = step_writes j b s t pages os next }
step_closing j b s t pages os next (inr h) = record { closes = either_true (not (is_none os)) _ (large_same j b s t pages os true next h); recording = step_writes j b s t pages os next }

pub step_opening : (j : JournalData) (b : BatchData) (s t : State) (pages : List ℕ) (os : List Made) → IsNext j b → os ≡ [] → is_large (with_made b t pages os).parts ≡ false → Opening (with_step (rec j b.parts s) pages (t, os)) (rec j (with_made b t pages os).parts t) []
step_opening j b s t pages [] next e small = record { closes = large_same j b s t pages [] false next small; recording = sym (step_writes j b s t pages [] next); again = refl }
step_opening j b s t pages (o ∷ os) next e small = absurd cc

-- ---- an input that is taken

input_writes : (j : JournalData) (b : BatchData) (s : State) (o : Offer) → IsNext j b → (taken_in (rec j b.parts s) o).recording ≡ rec j (with_part b (numbered b.next (offer_content s.count o)) 1).parts (taken s o)
input_writes j b s o next = ap (λ (n : ℕ). rec j (b.parts ++ entry (frame_of n (offer_content s.count o)) ∷ []) (taken s o)) (sym next)

input_large : (j : JournalData) (b : BatchData) (s : State) (o : Offer) (x : Bool) → IsNext j b → is_large (with_part b (numbered b.next (offer_content s.count o)) 1).parts ≡ x → is_large (taken_in (rec j b.parts s) o).recording.batch ≡ x
input_large j b s o x next e = ap (λ (n : ℕ). is_large (b.parts ++ entry (frame_of n (offer_content s.count o)) ∷ [])) (sym next) ∙ e

is_true : (a b : Bool) → (a ≡ true) ⊎ (b ≡ true) → (a || b) ≡ true
is_true true b h = refl
is_true false b (inl h) = absurd cc
is_true false b (inr h) = h

pub input_closing : (j : JournalData) (b : BatchData) (s : State) (o : Offer) → IsNext j b → (is_data o ≡ true) ⊎ (is_large (with_part b (numbered b.next (offer_content s.count o)) 1).parts ≡ true)
    → Closing (taken_in (rec j b.parts s) o) j (with_part b (numbered b.next (offer_content s.count o)) 1).parts (taken s o)
input_closing j b s o next (inl h) = record { closes = is_true (is_data o) _ (inl h); recording = input_writes j b s o next }
input_closing j b s o next (inr h) = record { closes = is_true (is_data o) _ (inr (input_large j b s o true next h)); recording = input_writes j b s o next }

both_false : (a b : Bool) → a ≡ false → b ≡ false → (a || b) ≡ false
both_false true b e f = e
both_false false b e f = f

pub input_opening : (j : JournalData) (b : BatchData) (s : State) (o : Offer) → IsNext j b → is_data o ≡ false → is_large (with_part b (numbered b.next (offer_content s.count o)) 1).parts ≡ false
    → Opening (taken_in (rec j b.parts s) o) (rec j (with_part b (numbered b.next (offer_content s.count o)) 1).parts (taken s o)) []
input_opening j b s o next plain small = record { closes = both_false (is_data o) _ plain (input_large j b s o false next small); recording = sym (input_writes j b s o next); again = refl }

-- ---- what an input releases

pub quiet_more : (a c : List Part) → AreQuiet a → AreQuiet c → AreQuiet (a ++ c)
quiet_more [] c h g = g
quiet_more (entry x ∷ a) c h g = (h.0, h.1, h.2, h.3, quiet_more a c h.4 g)
quiet_more (seal ∷ a) c h g = absurd h
quiet_more (keep k ∷ a) c h g = quiet_more a c h g

one_quiet : (n count : ℕ) (o : Offer) → is_data o ≡ false → FitsContent (offer_content count o) → AreQuiet (numbered n (offer_content count o) ∷ [])
one_quiet n count (OfferConsole bytes) plain fits = let c = content_again (conin count bytes) fits in (refl, rw c refl, rw c refl, rw c refl, tt)
one_quiet n count (OfferClock value) plain fits = let c = content_again (clock count value) fits in (refl, rw c refl, rw c refl, rw c refl, tt)
one_quiet n count (OfferData inner) plain fits = absurd cc
one_quiet n count (OfferAck inner) plain fits = let c = content_again (acked count inner) fits in (refl, rw c refl, rw c refl, rw c refl, tt)

-- a quiet batch stays so behind an input that is no message
pub input_quiet : (b : BatchData) (count : ℕ) (o : Offer) → AreQuiet b.parts → is_data o ≡ false → FitsContent (offer_content count o) → AreQuiet (with_part b (numbered b.next (offer_content count o)) 1).parts
input_quiet b count o quiet plain fits = quiet_more b.parts (numbered b.next (offer_content count o) ∷ []) quiet (one_quiet b.next count o plain fits)

-- the signed entry of a message that comes
abbrev pub recv_entry : StandingData → BatchData → ℕ → List ℕ → CarriedData
recv_entry p b count bytes = let q = fold behind p b.parts in record { leaf = q.used; before = q.hash; frame = frame_of b.next (recv count bytes) }

pub recv_pieces : (who : Sender) (p : StandingData) (b : BatchData) (count : ℕ) (bytes : List ℕ) → AreQuiet b.parts → FitsContent (recv count bytes)
    → pieces_from who p (with_part b (numbered b.next (recv count bytes)) 1).parts ≡ packet (sender_of (data_at bytes)) (ack_bytes (packet_of who (recv_entry p b count bytes))) ∷ []
recv_pieces who p b count bytes quiet fits =
    let q : StandingData = fold behind p b.parts in
    let one : List Part = numbered b.next (recv count bytes) ∷ [] in
    let c = content_again (recv count bytes) fits in
    pieces-append who p b.parts one ∙ ap (λ (ps : List Piece). ps ++ pieces_from who q one) (quiet_pieces who p b.parts quiet) ∙ rw c refl

pub recv_signed : (p : StandingData) (b : BatchData) (count : ℕ) (bytes : List ℕ) → AreQuiet b.parts
    → signed_from p (with_part b (numbered b.next (recv count bytes)) 1).parts ≡ entry_signed (fold behind p b.parts) (frame_of b.next (recv count bytes)) ∷ []
recv_signed p b count bytes quiet =
    let q : StandingData = fold behind p b.parts in
    let one : List Part = numbered b.next (recv count bytes) ∷ [] in
    signed_append p b.parts one ∙ ap (λ (ps : List SignedData). ps ++ signed_from q one) (quiet_signed p b.parts quiet)
