-- A message that comes in: how its saving and its acknowledgement end.
use Rattle.std.proofs.Common.{◌≡◌, ℕ, ◌≤◌, false, List, [], ◌∷◌, ◌++◌, length, fold, Option, Some, None, Result, Ok, Err, refl, sym, ap, ◌∙◌, arith, inl}
use Rattle.std.specs.Prelude.{IfOk}
use Rattle.avm_model.specs.Content.{FitsContent, content_bytes, recv}
use Rattle.avm_model.specs.Keys.{KeyData}
use Rattle.avm_model.specs.Machine.{State}
use Rattle.avm_model.specs.Offer.{OfferData, taken}
use Rattle.avm_model.specs.Packet.{ack_bytes, data_at}
use Rattle.avm_outside.specs.Outlet.{Piece, packet}
use Rattle.avm_outside.specs.Outside.{Rises}
use Rattle.journal_model.proofs.Judging.{signing_append}
use Rattle.journal_model.specs.Header.{CarriedData}
use Rattle.journal_model.specs.Journal.{JournalData, longest_record, with_record}
use Rattle.journal_model.specs.Part.{Part, signing}
use Rattle.journal_model.specs.Standing.{SignedData, StandingData, behind, signed_from, standing}
use Rattle.jrnl_part.specs.Carriage.{carried_signed}
use Rattle.jrnl_store.specs.Kept.{Kept}
use Rattle.jrnl_store.specs.Own.{IsOwn}
use Rattle.jrnl_store.specs.declared.fault.Stop.{Stop}
use Rattle.jrnl_store.specs.declared.fault.Stop.TheVariants.{OutletFault}
use Rattle.log_entry.proofs.Contents.{content_again}
use Rattle.log_entry.proofs.Lengths.{data_limit}
use Rattle.record_batch.specs.Batch.{BatchData, batch_size, with_part}
use Rattle.record_batch.specs.Spelled.{numbered}
use Rattle.record_kept.specs.Tickets.{AreKept, AreKeptOf}
use Rattle.record_kept.specs.declared.kept.KeptRow.{KeptRow}
use Rattle.record_kept.proofs.Keeping.{frames-append, kept_more, quiet_frames}
use Rattle.record_machine.specs.Taking.{Takes}
use Rattle.record_model.specs.Recording.{TakeIn, frame_of, is_none, next_of, taken_in}
use Rattle.record_model.specs.Released.{Sender, packet_of, pieces_from, read, sender_of, signed_entries, signed_frames}
use Rattle.record_packets.specs.Coming.{Came}
use Rattle.record_parts.specs.Ends.{EndsAs, Faults, SavedAs}
use Rattle.record_parts.specs.Outs.{AreQuiet, first_of, packet_by}
use Rattle.record_parts.specs.declared.answers.Turn.{Turn}
use Rattle.record_parts.specs.declared.answers.Turn.TheVariants.{Took}
use Rattle.record_parts.proofs.Effects.{IsNext, input_closing, recv_entry, recv_pieces, recv_signed}
use Rattle.record_parts.proofs.Ends.{Closing, ends_cut, ends_refused, ends_saved, made_same, rec}
use Rattle.record_store.specs.Open.{IsOpen}
use Rattle.record_turn.proofs.Batches.{input_open, input_size, quiet_signs, small_size}
use Rattle.avm_model.specs.Memory.{RamState}
use Rattle.record_turn.proofs.Keeps.{beside, entry_tells}
use Rattle.record_turn.specs.Leaves.{Acted}

-- ---- the batch that is saved

signs_one : (n count : ℕ) (bytes : List ℕ) → signing (numbered n (recv count bytes) ∷ []) ≡ 1
unfolding signing
signs_one n count bytes = refl

module _ (k : Kept) (s u : State) (b c : BatchData) (bytes : List ℕ) (came : Came k s u b c bytes) where
  all_parts : c.parts ≡ b.parts ++ numbered b.next (recv s.count bytes) ∷ []
  all_parts = ap (λ (x : BatchData). x.parts) came.takes.batch

  pub came_open : IsOpen k c
  came_open = input_open k b c s.count (OfferData bytes) came.ready.opens came.takes.batch

  pub came_some : is_none c.parts ≡ false
  came_some = ap is_none all_parts ∙ some b.parts
    where
      some : (ps : List Part) → is_none (ps ++ numbered b.next (recv s.count bytes) ∷ []) ≡ false
      some [] = refl
      some (p ∷ ps) = refl

  pub came_once : signing c.parts ≤ 1
  came_once =
      let one = signs_one b.next s.count bytes in
      let all = signing_append b.parts (numbered b.next (recv s.count bytes) ∷ []) in
      let none = quiet_signs b.parts came.ready.quiet in
      let is : signing c.parts ≡ signing (b.parts ++ numbered b.next (recv s.count bytes) ∷ []) = ap signing all_parts in
      omega (arith, one, all, none, is)

  pub came_short : length bytes ≤ 10421
  came_short = data_limit bytes came.fits.packet

  pub came_few : batch_size c ≤ longest_record
  came_few =
      let z = small_size b came.ready.small in
      let y = input_size b c s.count (OfferData bytes) came.takes.batch in
      omega (arith, y, z, came_short)

  pub came_signs : (p : StandingData) → None ≡ first_of (signed_from p c.parts) → ⊥
  came_signs p e =
      let none : None ≡ first_of (signed_from p (with_part b (numbered b.next (recv s.count bytes)) 1).parts) = e ∙ ap (λ (ps : List Part). first_of (signed_from p ps)) all_parts in
      let signs = recv_signed p b s.count bytes came.ready.quiet in
      let z : None ≡ Some (carried_signed (recv_entry p b s.count bytes)) = none ∙ ap first_of signs in
      absurd cc

-- ---- how it ends

module _ (k : Kept) (b c : BatchData) (s u : State) (bytes : List ℕ) (quiet : AreQuiet b.parts) (takes : Takes (OfferData bytes) s u b c) (fits : FitsContent (recv s.count bytes)) where
  abbrev wrote : BatchData
  wrote = with_part b (numbered b.next (recv s.count bytes)) 1

  parts_are : c.parts ≡ wrote.parts
  parts_are = ap (λ (x : BatchData). x.parts) takes.batch

  -- it signs
  pub recv_ticket : (p : StandingData) (t : Option SignedData) → t ≡ first_of (signed_from p c.parts) → t ≡ Some (carried_signed (recv_entry p b s.count bytes))
  recv_ticket p t e = e ∙ ap (λ (ps : List Part). first_of (signed_from p ps)) parts_are ∙ ap first_of (recv_signed p b s.count bytes quiet)

  module _ (images : List ℕ → Type 0) (was : List ℕ) (j : JournalData) (own : IsOwn k images was j) (is_next : IsNext j b) where
    abbrev entry_is : CarriedData
    entry_is = recv_entry (standing j) b s.count bytes

    ticket_is : (t : SignedData) → Some t ≡ first_of (signed_from k.standing c.parts) → t ≡ carried_signed entry_is
    ticket_is t e = some_same (recv_ticket (standing j) (Some t) (e ∙ ap (λ (p : StandingData). first_of (signed_from p c.parts)) own.keeps.standing))
      where
        some_same : {x y : SignedData} → Some x ≡ Some y → x ≡ y
        some_same q = cc

    frames_are : signed_frames (standing j) c.parts ≡ entry_is ∷ []
    frames_are = ap (signed_frames (standing j)) parts_are ∙ frames-append (standing j) b.parts (numbered b.next (recv s.count bytes) ∷ []) ∙ ap (λ (es : List CarriedData). es ++ signed_frames (fold behind (standing j) b.parts) (numbered b.next (recv s.count bytes) ∷ [])) (quiet_frames (standing j) b.parts quiet)

    reads : read entry_is ≡ Some (recv s.count bytes)
    reads = content_again (recv s.count bytes) fits

    pub recv_keeps : (rows after : List KeptRow) (peer : ℕ) (t : SignedData) → Some t ≡ first_of (signed_from k.standing c.parts) → sender_of (data_at bytes) ≡ peer
        → ((es : List CarriedData) (e : CarriedData) (count : ℕ) (packet : List ℕ) → read e ≡ Some (recv count packet) → sender_of (data_at packet) ≡ peer → carried_signed e ≡ t → AreKept rows es → AreKept after (es ++ e ∷ []))
        → AreKeptOf rows j → AreKeptOf after (with_record j c.parts)
    recv_keeps rows after peer t e from more h = kept_more after j c.parts entry_is frames_are (more (signed_entries j) entry_is s.count bytes reads from (sym (ticket_is t e)) h)

    module _ {H : Type 0} (adding : Piece → H → H) (tearing : Piece → H → H → Type 0) (key : KeyData) (ram : RamState) where
      abbrev who : Sender
      who = record { key = key; own = u.devices.own }

      same : rec j c.parts u ≡ rec j wrote.parts (taken s (OfferData bytes))
      same = made_same j j c.parts wrote.parts u (taken s (OfferData bytes)) refl parts_are takes.machine

      closing : Closing (taken_in (rec j b.parts s) (OfferData bytes)) j c.parts u
      closing = let cl = input_closing j b s (OfferData bytes) is_next (inl refl) in record { closes = cl.closes; recording = cl.recording ∙ sym same }

      releases : (peer : ℕ) (t : SignedData) → Some t ≡ first_of (signed_from k.standing c.parts) → sender_of (data_at bytes) ≡ peer → pieces_from who (standing j) c.parts ≡ packet peer (ack_bytes (packet_by who t (content_bytes (recv s.count bytes)))) ∷ []
      releases peer t e from =
          ap (pieces_from who (standing j)) parts_are ∙ recv_pieces who (standing j) b s.count bytes quiet fits
          ∙ ap (λ (n : ℕ). packet n (ack_bytes (packet_of who entry_is)) ∷ []) from
          ∙ ap (λ (x : SignedData). packet peer (ack_bytes (packet_by who x (content_bytes (recv s.count bytes)))) ∷ []) (sym (ticket_is t e))

      acted : (rows after : List KeptRow) (rest : List Part) (f : Faults) (old new : H) (result : Result Turn Stop) (next : JournalData) → EndsAs adding tearing who (taken_in (rec j b.parts s) (OfferData bytes)) (rec next rest u) f old new result → IfOk result (λ turn. turn ≡ Took) → (AreKeptOf rows j → AreKeptOf after next)
          → Acted adding tearing who 0 (TakeIn (Some (OfferData bytes))) (rec j b.parts s) (beside rows ram) (beside after ram) rest u f old new result next c.parts
      acted rows after rest f old new result next h answer kept = record {
        acts = record { at = s; moved_to = refl; pages = []; effect = taken_in (rec j b.parts s) (OfferData bytes); effect_is = rw takes.none refl; ends = h; answer = answer };
        in_flight = parts_are ∙ ap (λ (n : ℕ). b.parts ++ numbered n (recv s.count bytes) ∷ []) is_next;
        tickets = kept;
        keeps = (λ _. fits, λ k. entry_tells j b.parts (frame_of (next_of (rec j b.parts s)) (recv s.count bytes)) ram k);
      }

      pub recv_refused : (T : Type 0) (rows : List KeptRow) (rest : List Part) (f : Faults) (held : H) (stop : Stop) → SavedAs {T = T} j c.parts j rest f (Err stop) → Acted adding tearing who 0 (TakeIn (Some (OfferData bytes))) (rec j b.parts s) (beside rows ram) (beside rows ram) rest u f held held (Err stop) j c.parts
      recv_refused T rows rest f held stop saved = acted rows rows rest f held held (Err stop) j (ends_refused T Turn adding tearing who (taken_in (rec j b.parts s) (OfferData bytes)) j j c.parts rest u f held stop closing saved) tt (λ g. g)

      pub recv_done : {T : Type 0} (x : T) (rows after : List KeptRow) (rest : List Part) (f : Faults) (old new : H) (peer : ℕ) (t : SignedData) → SavedAs {T = T} j c.parts (with_record j c.parts) rest f (Ok x) → Some t ≡ first_of (signed_from k.standing c.parts) → sender_of (data_at bytes) ≡ peer
          → new ≡ adding (packet peer (ack_bytes (packet_by who t (content_bytes (recv s.count bytes))))) old → (AreKeptOf rows j → AreKeptOf after (with_record j c.parts)) → Acted adding tearing who 0 (TakeIn (Some (OfferData bytes))) (rec j b.parts s) (beside rows ram) (beside after ram) rest u f old new (Ok Took) (with_record j c.parts) c.parts
      recv_done x rows after rest f old new peer t saved e from told kept =
          acted rows after rest f old new (Ok Took) (with_record j c.parts) (ends_saved adding tearing who (taken_in (rec j b.parts s) (OfferData bytes)) j (with_record j c.parts) c.parts rest u f old new _ x Took closing saved (releases peer t e from) told) refl kept

      pub recv_cut : {T : Type 0} (x : T) (rows after : List KeptRow) (rest : List Part) (f : Faults) (old new : H) (peer : ℕ) (t : SignedData) → SavedAs {T = T} j c.parts (with_record j c.parts) rest f (Ok x) → Some t ≡ first_of (signed_from k.standing c.parts) → sender_of (data_at bytes) ≡ peer
          → tearing (packet peer (ack_bytes (packet_by who t (content_bytes (recv s.count bytes))))) old new → Rises f.outlet_before f.outlet_after → (AreKeptOf rows j → AreKeptOf after (with_record j c.parts)) → Acted adding tearing who 0 (TakeIn (Some (OfferData bytes))) (rec j b.parts s) (beside rows ram) (beside after ram) rest u f old new (Err OutletFault) (with_record j c.parts) c.parts
      recv_cut x rows after rest f old new peer t saved e from cut rises kept =
          acted rows after rest f old new (Err OutletFault) (with_record j c.parts)
          (ends_cut Turn adding tearing who (taken_in (rec j b.parts s) (OfferData bytes)) j (with_record j c.parts) c.parts rest u f old new _ x closing saved (releases peer t e from) (record { before = []; cut = packet peer (ack_bytes (packet_by who t (content_bytes (recv s.count bytes)))); behind = []; split = refl; new_is = cut }) rises) tt kept
