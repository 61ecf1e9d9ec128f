-- What is sent again.
use Rattle.avm_outside.specs.Outlet.{packet}
use Rattle.journal_model.specs.Header.{CarriedData}
use Rattle.journal_model.specs.Journal.{JournalData}
use Rattle.journal_model.specs.Standing.{SignedData}
use Rattle.jrnl_part.specs.Carriage.{carried_signed}
use Rattle.record_model.specs.Released.{Sender, again, content_pieces, is_send_to, last_send, last_that, number_in, outstanding, outstanding_of, packet_of, read, resend_refusal, signed_entries, with_number}
use Rattle.std.proofs.Common.{◌≡◌, ℕ, Bool, true, false, List, [], ◌∷◌, Option, Some, None, refl, sym, ap, subst, ◌∙◌, inl, inr}
use Rattle.std.specs.Prelude.{option_map, nat_eq}
use Rattle.std.proofs.lemmas.Bool.{eqb-true}
use Rattle.avm_model.specs.Content.{ContentData, boot, snap, conin, clock, recv, acked, out, send, halt}
use Rattle.avm_model.specs.Device.{row_of}
use Rattle.avm_model.specs.Machine.{State}
use Rattle.avm_model.specs.Packet.{data_bytes}
use Rattle.avm_model.specs.declared.Peer.{Peer}
use Rattle.record_kept.specs.Again.{Among, IsTicketOf}
use Rattle.record_parts.specs.Outs.{packet_by}

-- ---- the last that passes

pub record Last (p : CarriedData → Bool) (xs : List CarriedData) (e : CarriedData) : Type 0 where
  pub among : Among e xs
  pub passes : p e ≡ true

pub last_is : (p : CarriedData → Bool) (xs : List CarriedData) (e : CarriedData) → last_that p xs ≡ Some e → Last p xs e
last_is p [] e h = absurd cc
last_is p (x ∷ xs) e h = go (last_that p xs) refl (p x) refl h (λ d q. last_is p xs d q)
  where
    go : (w : Option CarriedData) → last_that p xs ≡ w → (b : Bool) → p x ≡ b → last_that p (x ∷ xs) ≡ Some e → ((d : CarriedData) → last_that p xs ≡ Some d → Last p xs d) → Last p (x ∷ xs) e
    go (Some d) q b r h more =
        let h' : Some d ≡ Some e = rw q at h in
        let same : d ≡ e = cc in
        let l = more e (q ∙ h') in
        record { among = inr l.among; passes = l.passes }
    go None q true r h more =
        let h' : Some x ≡ Some e = rw (q, r) at h in
        let same : x ≡ e = cc in
        record { among = inl same; passes = subst (λ (y : CarriedData). p y ≡ true) same r }
    go None q false r h more =
        let h' : None ≡ Some e = rw (q, r) at h in
        absurd cc

-- ---- what is kept

pub found : (w : Option CarriedData) (t : SignedData) → Some t ≡ option_map carried_signed w → (e : CarriedData) × (w ≡ Some e) × (carried_signed e ≡ t)
found None t h = absurd cc
found (Some e) t h = (e, refl, same)
  where
    or_this : SignedData → Option SignedData → SignedData
    or_this d None = d
    or_this d (Some v) = v

    same : carried_signed e ≡ t
    same = ap (λ (o : Option SignedData). or_this t o) (sym h)

pub not_found : (w : Option CarriedData) → None ≡ option_map carried_signed w → w ≡ None
not_found None h = refl
not_found (Some e) h = absurd cc

-- ---- a packet that is sent again

send_pieces : (who : Sender) (e : CarriedData) (peer : ℕ) (c : Option ContentData) → is_send_to peer c ≡ true → content_pieces who e c ≡ packet peer (data_bytes (packet_of who e)) ∷ []
send_pieces who e peer None h = absurd cc
send_pieces who e peer (Some (boot count r)) h = absurd cc
send_pieces who e peer (Some (snap count r)) h = absurd cc
send_pieces who e peer (Some (conin count bytes)) h = absurd cc
send_pieces who e peer (Some (clock count value)) h = absurd cc
send_pieces who e peer (Some (recv count inner)) h = absurd cc
send_pieces who e peer (Some (acked count inner)) h = absurd cc
send_pieces who e peer (Some (out count bytes)) h = absurd cc
send_pieces who e peer (Some (send count to number payload)) h = ap (λ (k : ℕ). packet k (data_bytes (packet_of who e)) ∷ []) (eqb-true to peer h)
send_pieces who e peer (Some (halt count cause value)) h = absurd cc

-- the message to a peer that isn't acknowledged
pub record IsOut (who : Sender) (j : JournalData) (s : State) (peer : ℕ) (t : SignedData) : Type 0 where
  pub entry : CarriedData
  pub is : outstanding j s peer ≡ Some entry
  pub ticket : IsTicketOf j t entry
  pub known : resend_refusal (row_of s.devices.peers peer) (Some entry) ≡ None
  pub pieces : again who (outstanding j s peer) ≡ packet peer (data_bytes (packet_of who entry)) ∷ []

numbered_is : (n : ℕ) (w : Option CarriedData) (e : CarriedData) → with_number n w ≡ Some e → w ≡ Some e
numbered_is n None e h = absurd cc
numbered_is n (Some d) e h = go (number_in (read d)) refl h
  where
    go : (m : Option ℕ) → number_in (read d) ≡ m → with_number n (Some d) ≡ Some e → Some d ≡ Some e
    go None q h = let h' : None ≡ Some e = rw q at h in absurd cc
    go (Some k) q h = by (nat_eq k n) refl
      where
        by : (b : Bool) → nat_eq k n ≡ b → Some d ≡ Some e
        by true r = let h' : Some d ≡ Some e = rw (q, r) at h in h'
        by false r = let h' : None ≡ Some e = rw (q, r) at h in absurd cc

record Rowed (j : JournalData) (peer : ℕ) (row : Option Peer) (e : CarriedData) : Type 0 where
  known : resend_refusal row (Some e) ≡ None
  last : last_send j peer ≡ Some e

rowed : (j : JournalData) (peer : ℕ) (row : Option Peer) (e : CarriedData) → outstanding_of j peer row ≡ Some e → Rowed j peer row e
rowed j peer None e h = absurd cc
rowed j peer (Some row) e h = record { known = refl; last = go (nat_eq row.sent row.acked) refl }
  where
    go : (b : Bool) → nat_eq row.sent row.acked ≡ b → last_send j peer ≡ Some e
    go true q = let h' : None ≡ Some e = rw q at h in absurd cc
    go false q = let h' : with_number row.sent (last_send j peer) ≡ Some e = rw q at h in numbered_is row.sent (last_send j peer) e h'

pub is_out : (who : Sender) (j : JournalData) (s : State) (peer : ℕ) (t : SignedData) → Some t ≡ option_map carried_signed (outstanding j s peer) → IsOut who j s peer t
is_out who j s peer t h =
    let f = found (outstanding j s peer) t h in
    let r = rowed j peer (row_of s.devices.peers peer) f.0 f.1 in
    let l = last_is (λ e. is_send_to peer (read e)) (signed_entries j) f.0 r.last in
    record {
      entry = f.0;
      is = f.1;
      ticket = record { among = l.among; ticket = f.2 };
      known = r.known;
      pieces = ap (λ (w : Option CarriedData). again who w) f.1 ∙ send_pieces who f.0 peer (read f.0) l.passes;
    }

-- the packet of an entry, made of its ticket and its content
pub resent_packet : (who : Sender) (j : JournalData) (e : CarriedData) (t : SignedData) (content bytes : List ℕ) (peer : ℕ) → IsTicketOf j t e → content ≡ e.frame.content → bytes ≡ data_bytes (packet_by who t content) → packet peer (data_bytes (packet_of who e)) ∷ [] ≡ packet peer bytes ∷ []
resent_packet who j e t content bytes peer is ec eb =
    let same : bytes ≡ data_bytes (packet_of who e) = eb ∙ ap (λ (c : List ℕ). data_bytes (packet_by who t c)) ec ∙ ap (λ (k : SignedData). data_bytes (packet_by who k e.frame.content)) (sym is.ticket) in
    ap (λ (x : List ℕ). packet peer x ∷ []) (sym same)
