-- What a recorder writes is read as what it was.
use Rattle.std.proofs.Common.{◌≡◌, ℕ, ◌+◌, List, [], ◌∷◌, map, refl, ◌∙◌}
use Rattle.avm_model.specs.Machine.{State}
use Rattle.avm_model.specs.Content.{ContentData, boot, snap, conin, clock, recv, acked, out, send, halt, FitsContent}
use Rattle.avm_model.specs.Offer.{Offer, OfferConsole, OfferClock, OfferData, OfferAck}
use Rattle.avm_model.specs.Timed.{given, made}
use Rattle.avm_model.specs.Reference.{Made, OutAt, SendAt, HaltAt, SnapAt, NothingAt, entry_of_frame, entries_of, entry_of_content}
use Rattle.log_entry.proofs.Contents.{content_again}
use Rattle.journal_model.proofs.Prefixes.{frames_append}
use Rattle.journal_model.specs.Part.{entry, frames_in}
use Rattle.record_model.specs.Recording.{content_parts, frame_of, made_content, made_parts, offer_content}
use Rattle.record_model.specs.Standing.{FitAll}

pub frame_entry : (n : ℕ) (c : ContentData) → FitsContent c → entry_of_frame (frame_of n c) ≡ entry_of_content c
unfolding entry_of_frame
frame_entry n c fits = rw (content_again c fits) refl

made_entry : (o : Made) → entry_of_content (made_content o) ≡ made o
made_entry (OutAt count bytes) = refl
made_entry (SendAt count peer number payload) = refl
made_entry (HaltAt count cause value) = refl
made_entry (SnapAt count r) = refl
made_entry (NothingAt count) = refl

pub offer_entry : (count : ℕ) (o : Offer) → entry_of_content (offer_content count o) ≡ given (record { count = count; offer = o })
offer_entry count (OfferConsole bytes) = refl
offer_entry count (OfferClock value) = refl
offer_entry count (OfferData inner) = refl
offer_entry count (OfferAck inner) = refl

content_entries : (n : ℕ) (s : State) (pages : List ℕ) (c : ContentData) → frames_in (content_parts n s pages c) ≡ frame_of n c ∷ []
content_entries n s pages (boot count r) = refl
content_entries n s pages (snap count r) = refl
content_entries n s pages (conin count bytes) = refl
content_entries n s pages (clock count value) = refl
content_entries n s pages (recv count inner) = refl
content_entries n s pages (acked count inner) = refl
content_entries n s pages (out count bytes) = refl
content_entries n s pages (send count peer number payload) = refl
content_entries n s pages (halt count cause value) = refl

pub made_log : (n : ℕ) (s : State) (pages : List ℕ) (os : List Made) → FitAll os → entries_of (frames_in (made_parts n s pages os)) ≡ map made os
made_log n s pages [] fits = refl
made_log n s pages (o ∷ os) fits =
    let here = content_entries n s pages (made_content o) in
    let split = frames_append (content_parts n s pages (made_content o)) (made_parts (n + 1) s pages os) in
    let one = frame_entry n (made_content o) fits.0 ∙ made_entry o in
    rw (split, here, one, made_log (n + 1) s pages os fits.1) refl

pub offer_log : (n count : ℕ) (o : Offer) → FitsContent (offer_content count o) → entries_of (frames_in (entry (frame_of n (offer_content count o)) ∷ [])) ≡ given (record { count = count; offer = o }) ∷ []
offer_log n count o fits = let one = frame_entry n (offer_content count o) fits ∙ offer_entry count o in rw one refl
