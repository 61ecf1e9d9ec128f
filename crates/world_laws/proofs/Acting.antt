-- What an act adds to the mail.
use Rattle.std.proofs.Common.{◌≡◌, ℕ, ◌+◌, Bool, true, false, not, List, [], ◌∷◌, ◌++◌, Option, Some, None, refl, sym, ap, subst, ◌∙◌, append_assoc, inl, inr}
use Rattle.std.specs.Prelude.{◌==◌, ◌&&◌, ◌||◌, if◌then◌else◌}
use Rattle.std.specs.Option.{option_map}
use Rattle.std.proofs.lemmas.List.{append-nil}
use Rattle.std.proofs.lemmas.Bool.{and_parts, eqb-true}
use Rattle.avm_num.specs.Bytes.{◌>>=◌}
use Rattle.avm_model.specs.Machine.{State}
use Rattle.avm_model.specs.Content.{ContentData, boot, snap, out, send, halt, FitsContent}
use Rattle.avm_model.specs.Device.{row_of}
use Rattle.avm_model.specs.Input.{refuse_message, refuse_acked}
use Rattle.avm_model.specs.Offer.{Offer, OfferConsole, OfferClock, OfferData, OfferAck, DataIn, AckIn, data_in, ack_in, knows, is_authentic, refuse_data, refuse_ack, take_data, take_ack, refused, taken, refuse_packet}
use Rattle.avm_model.specs.Reference.{Made, OutAt, SendAt, HaltAt, SnapAt, NothingAt, step_of, take_of}
use Rattle.avm_model.specs.declared.Peer.{Peer}
use Rattle.avm_model.specs.declared.NotTaken.{NotTaken}
use Rattle.log_entry.proofs.Contents.{content_again}
use Rattle.world_model.specs.World.{Mail, SentTo, ReceivedFrom, AckedBy, Parcel, IsDelivered, mail_of}
use Rattle.world_laws.specs.Counting.{data_mail, ack_mail, content_mail, part_mail, mail_in, node_of, sent_in, IsCounted, IsMailCounted, data_shows, ack_shows, offer_shows, act_shows, HasMore, IsActed}
use Rattle.world_laws.proofs.Sending.{step_sends}
use Rattle.world_laws.proofs.Counts.{counts_sends, counts_received, counts_acked}
use Rattle.journal_model.specs.Part.{Part, entry}
use Rattle.journal_model.specs.Journal.{parts}
use Rattle.record_model.specs.Released.{Sender}
use Rattle.record_model.specs.Recording.{Recording, Act, StepOn, AnswerClock, TakeIn, SendAgain, Effect, next_of, given_at, frame_of, offer_content, made_parts, with_step, stepped_on, with_input, take_in, taken_in, dropped_for, effect}
use Rattle.record_model.specs.Standing.{FitAll, FitsStep, FitsOffer, FitsAct}
use Rattle.record_laws.proofs.Fronts.{step_front, taken_front}
use Rattle.record_model.proofs.Standing.{took}
use Rattle.life_model.specs.Life.{Among}

pub mail-append : (a b : List Part) → mail_in (a ++ b) ≡ mail_in a ++ mail_in b
mail-append [] b = refl
mail-append (p ∷ a) b = ap (λ (ms : List Mail). part_mail p ++ ms) (mail-append a b) ∙ sym (append_assoc (part_mail p) (mail_in a) (mail_in b))

-- ---- refusals

none_of : (b : Bool) (why : NotTaken) (x : Option NotTaken) → (if b then Some why else x) ≡ None → (b ≡ false) × (x ≡ None)
none_of true why x e = absurd cc
none_of false why x e = (refl, e)

not_false : (b : Bool) → not b ≡ false → b ≡ true
not_false true e = refl
not_false false e = absurd cc

or_false : (a b : Bool) → (a || b) ≡ false → (a ≡ false) × (b ≡ false)
or_false true b e = absurd cc
or_false false b e = (refl, e)

-- the row of a message that isn't refused
message_row : (s : State) (number : ℕ) (o : Option Peer) → refuse_message s number o ≡ None → (p : Peer) × (o ≡ Some p) × (number ≡ p.received + 1)
message_row s number None e = absurd cc
message_row s number (Some p) e =
    let a = none_of (number == p.received) _ _ e in
    let b = none_of (not (number == p.received + 1)) _ _ a.1 in
    (p, refl, eqb-true number (p.received + 1) (not_false _ b.0))

acked_row : (s : State) (number : ℕ) (o : Option Peer) → refuse_acked s number o ≡ None → (p : Peer) × (o ≡ Some p) × (number ≡ p.sent)
acked_row s number None e = absurd cc
acked_row s number (Some p) e =
    let a = none_of (not (number == p.sent) || p.sent == p.acked) _ _ e in
    let b = or_false (not (number == p.sent)) (p.sent == p.acked) a.0 in
    (p, refl, eqb-true number p.sent (not_false _ b.0))

-- what isn't refused of DATA
pub record TakesData (s : State) (d : DataIn) : Type 0 where
  pub for_us : d.message.peer ≡ s.devices.own
  pub row : Peer
  pub row_is : row_of s.devices.peers d.packet.from ≡ Some row
  pub number : d.message.number ≡ row.received + 1

takes_data : (s : State) (d : DataIn) → refuse_data s (Some d) ≡ None → TakesData s d
takes_data s d e =
    let a = none_of (not (knows s d.packet)) _ _ e in
    let b = none_of (not (d.message.peer == s.devices.own)) _ _ a.1 in
    let c = none_of (not (is_authentic s.devices.peers 8 d.packet)) _ _ b.1 in
    let r = message_row s d.message.number (row_of s.devices.peers d.packet.from) c.1 in
    record { for_us = eqb-true d.message.peer s.devices.own (not_false _ b.0); row = r.0; row_is = r.1; number = r.2 }

pub record TakesAck (s : State) (a : AckIn) : Type 0 where
  pub ours : a.inner.packet.from ≡ s.devices.own
  pub row : Peer
  pub row_is : row_of s.devices.peers a.packet.from ≡ Some row
  pub number : a.inner.message.number ≡ row.sent

takes_ack : (s : State) (a : AckIn) → refuse_ack s (Some a) ≡ None → TakesAck s a
takes_ack s a e =
    let k = none_of (not (knows s a.packet)) _ _ e in
    let b = none_of (not (a.inner.packet.from == s.devices.own && a.inner.message.peer == a.packet.from)) _ _ k.1 in
    let c = none_of (not (is_authentic s.devices.peers 5 a.packet)) _ _ b.1 in
    let both = and_parts (a.inner.packet.from == s.devices.own) (a.inner.message.peer == a.packet.from) (not_false _ b.0) in
    let r = acked_row s a.inner.message.number (row_of s.devices.peers a.packet.from) c.1 in
    record { ours = eqb-true a.inner.packet.from s.devices.own both.0; row = r.0; row_is = r.1; number = r.2 }

-- ---- an input

abbrev pub offer_mail : Offer → List Mail
offer_mail (OfferConsole bytes) = []
offer_mail (OfferClock value) = []
offer_mail (OfferData bytes) = data_mail (data_in bytes)
offer_mail (OfferAck bytes) = ack_mail (ack_in bytes)

no_more : (peers : List Peer) (ms : List Mail) → IsCounted peers ms → IsCounted peers (ms ++ [])
no_more peers ms h = subst (λ (x : List Mail). IsCounted peers x) (sym (append-nil ms)) h

data_counted : (s : State) (d : Option DataIn) (ms : List Mail) → refuse_data s d ≡ None → IsCounted s.devices.peers ms → IsCounted (take_data s d).devices.peers (ms ++ data_mail d)
data_counted s None ms e h = no_more s.devices.peers ms h
data_counted s (Some d) ms e h =
    let t = takes_data s d e in
    counts_received s.devices.peers ms d.packet.from d.message.number d.message.payload t.row t.row_is t.number h

ack_counted : (s : State) (a : Option AckIn) (ms : List Mail) → refuse_ack s a ≡ None → IsCounted s.devices.peers ms → IsCounted (take_ack s a).devices.peers (ms ++ ack_mail a)
ack_counted s None ms e h = no_more s.devices.peers ms h
ack_counted s (Some a) ms e h =
    let t = takes_ack s a e in
    counts_acked s.devices.peers ms a.packet.from a.inner.message.number t.row t.row_is t.number h

input_counted : (s : State) (o : Offer) (ms : List Mail) → refused s o ≡ None → IsCounted s.devices.peers ms → IsCounted (taken s o).devices.peers (ms ++ offer_mail o)
unfolding refused taken
input_counted s (OfferConsole bytes) ms e h = no_more s.devices.peers ms h
input_counted s (OfferClock value) ms e h = no_more s.devices.peers ms h
input_counted s (OfferData bytes) ms e h = data_counted s (data_in bytes) ms e h
input_counted s (OfferAck bytes) ms e h = ack_counted s (ack_in bytes) ms e h

data_delivered : (s : State) (d : Option DataIn) (m : Mail) → refuse_data s d ≡ None → Among m (data_mail d) → IsDelivered (data_shows d) s.devices.own m
data_delivered s None m e i = absurd i
data_delivered s (Some d) m e (inl is) =
    let t = takes_data s d e in
    let here : IsDelivered (data_shows (Some d)) s.devices.own (ReceivedFrom d.packet.from d.message.number d.message.payload) = inl (rw t.for_us refl) in
    subst (λ (x : Mail). IsDelivered (data_shows (Some d)) s.devices.own x) (sym is) here
data_delivered s (Some d) m e (inr i) = absurd i

ack_delivered : (s : State) (a : Option AckIn) (m : Mail) → refuse_ack s a ≡ None → Among m (ack_mail a) → IsDelivered (ack_shows a) s.devices.own m
ack_delivered s None m e i = absurd i
ack_delivered s (Some a) m e (inl is) =
    let t = takes_ack s a e in
    let here : IsDelivered (ack_shows (Some a)) s.devices.own (AckedBy a.packet.from a.inner.message.number) = (a.inner.message.payload, inl (rw t.ours refl)) in
    subst (λ (x : Mail). IsDelivered (ack_shows (Some a)) s.devices.own x) (sym is) here
ack_delivered s (Some a) m e (inr i) = absurd i

input_delivered : (s : State) (o : Offer) (m : Mail) → refused s o ≡ None → Among m (offer_mail o) → IsDelivered (offer_shows o) s.devices.own m
unfolding refused
input_delivered s (OfferConsole bytes) m e i = absurd i
input_delivered s (OfferClock value) m e i = absurd i
input_delivered s (OfferData bytes) m e i = data_delivered s (data_in bytes) m e i
input_delivered s (OfferAck bytes) m e i = ack_delivered s (ack_in bytes) m e i

offer_content_mail : (count : ℕ) (o : Offer) → content_mail (Some (offer_content count o)) ≡ offer_mail o
offer_content_mail count (OfferConsole bytes) = refl
offer_content_mail count (OfferClock value) = refl
offer_content_mail count (OfferData bytes) = refl
offer_content_mail count (OfferAck bytes) = refl

input_mail : (n count : ℕ) (o : Offer) → FitsContent (offer_content count o) → mail_in (entry (frame_of n (offer_content count o)) ∷ []) ≡ offer_mail o
input_mail n count o fits = append-nil _ ∙ ap content_mail (content_again (offer_content count o) fits) ∙ offer_content_mail count o

-- ---- more in the batch

with_more : (r : Recording) (t : State) (new : List Part) (more : List Mail) → mail_in new ≡ more → t.devices.own ≡ r.machine.devices.own → IsCounted t.devices.peers (mail_of (node_of r) ++ more) → HasMore r (record r { machine = t; batch = r.batch ++ new }) more
with_more r t new more is own h =
    let batch : mail_in (r.batch ++ new) ≡ mail_in r.batch ++ more = mail-append r.batch new ∙ ap (λ (ms : List Mail). mail_in r.batch ++ ms) is in
    let all : (mail_in (parts r.journal) ++ mail_in r.batch) ++ more ≡ mail_in (parts r.journal) ++ mail_in (r.batch ++ new) = append_assoc (mail_in (parts r.journal)) (mail_in r.batch) more ∙ ap (λ (ms : List Mail). mail_in (parts r.journal) ++ ms) (sym batch) in
    record { journal = refl; batch = batch; own = own; counted = subst (λ (ms : List Mail). IsCounted t.devices.peers ms) all h }

pub input_more : (r : Recording) (o : Offer) → IsMailCounted r → FitsContent (offer_content r.machine.count o) → refused r.machine o ≡ None → HasMore r (with_input r o (taken r.machine o)) (offer_mail o)
input_more r o h fits none =
    with_more r (taken r.machine o) (entry (frame_of (next_of r) (offer_content r.machine.count o)) ∷ []) (offer_mail o) (input_mail (next_of r) r.machine.count o fits) (taken_front r.machine o).own (input_counted r.machine o (mail_of (node_of r)) none h)

-- ---- a step

frame_mail : (n : ℕ) (c : ContentData) → FitsContent c → part_mail (entry (frame_of n c)) ≡ content_mail (Some c)
frame_mail n c fits = ap content_mail (content_again c fits)

pub made_mail : (n : ℕ) (s : State) (pages : List ℕ) (os : List Made) → FitAll os → mail_in (made_parts n s pages os) ≡ sent_in os
made_mail n s pages [] fits = refl
made_mail n s pages (OutAt count bytes ∷ os) fits = ap (λ (ms : List Mail). ms ++ mail_in (made_parts (n + 1) s pages os)) (frame_mail n (out count bytes) fits.0) ∙ made_mail (n + 1) s pages os fits.1
made_mail n s pages (SendAt count peer number payload ∷ os) fits = ap (λ (ms : List Mail). ms ++ mail_in (made_parts (n + 1) s pages os)) (frame_mail n (send count peer number payload) fits.0) ∙ ap (λ (ms : List Mail). SentTo peer number payload ∷ ms) (made_mail (n + 1) s pages os fits.1)
made_mail n s pages (HaltAt count cause value ∷ os) fits = ap (λ (ms : List Mail). ms ++ mail_in (made_parts (n + 1) s pages os)) (frame_mail n (halt count cause value) fits.0) ∙ made_mail (n + 1) s pages os fits.1
made_mail n s pages (SnapAt count r ∷ os) fits = ap (λ (ms : List Mail). ms ++ mail_in (made_parts (n + 1) s pages os)) (frame_mail n (snap count r) fits.0) ∙ made_mail (n + 1) s pages os fits.1
made_mail n s pages (NothingAt count ∷ os) fits = ap (λ (ms : List Mail). ms ++ mail_in (made_parts (n + 1) s pages os)) (frame_mail n (boot count []) fits.0) ∙ made_mail (n + 1) s pages os fits.1

pub step_more : (r : Recording) (pages : List ℕ) (t : State) (os : List Made) → IsMailCounted r → step_of r.machine ≡ Some (t, os) → FitAll os → HasMore r (with_step r pages (t, os)).recording (sent_in os)
step_more r pages t os h st fits =
    with_more r t (made_parts (next_of r) t pages os) (sent_in os) (made_mail (next_of r) t pages os fits) (step_front r.machine t os st).own (counts_sends r.machine.devices.peers t.devices.peers (mail_of (node_of r)) (sent_in os) (step_sends r.machine t os st) h)

-- ---- every act

more_twice : (r q u : Recording) (a b : List Mail) → HasMore r q a → HasMore q u b → HasMore r u (a ++ b)
more_twice r q u a b h k = record {
  journal = k.journal ∙ h.journal;
  batch = k.batch ∙ ap (λ (ms : List Mail). ms ++ b) h.batch ∙ append_assoc (mail_in r.batch) a b;
  own = k.own ∙ h.own;
  counted = k.counted;
}

nothing_more : (r : Recording) → IsMailCounted r → HasMore r r []
nothing_more r h = record { journal = refl; batch = sym (append-nil (mail_in r.batch)); own = refl; counted = h }

sent_only : (pool : List Parcel) (own : ℕ) (m : Mail) (os : List Made) → Among m (sent_in os) → IsDelivered pool own m
sent_only pool own m [] i = absurd i
sent_only pool own m (OutAt count bytes ∷ os) i = sent_only pool own m os i
sent_only pool own m (SendAt count peer number payload ∷ os) (inl is) = subst (λ (x : Mail). IsDelivered pool own x) (sym is) tt
sent_only pool own m (SendAt count peer number payload ∷ os) (inr i) = sent_only pool own m os i
sent_only pool own m (HaltAt count cause value ∷ os) i = sent_only pool own m os i
sent_only pool own m (SnapAt count r ∷ os) i = sent_only pool own m os i
sent_only pool own m (NothingAt count ∷ os) i = sent_only pool own m os i

-- a step as it is made: what it sends
record HasStepped (r : Recording) (e : Effect) : Type 0 where
  outs : List Made
  adds : HasMore r e.recording (sent_in outs)

has_stepped : (r : Recording) (pages : List ℕ) (e : Effect) → IsMailCounted r → FitsStep r → stepped_on r pages ≡ Some e → HasStepped r e
has_stepped r pages e h fits q = go (step_of r.machine) refl q
  where
    go : (s : Option (State × List Made)) → step_of r.machine ≡ s → option_map (with_step r pages) s ≡ Some e → HasStepped r e
    go None p w = absurd cc
    go (Some (t, os)) p w =
        let same : with_step r pages (t, os) ≡ e = cc in
        record { outs = os; adds = subst (λ (x : Effect). HasMore r x.recording (sent_in os)) same (step_more r pages t os h p (fits t os p)) }

step_acted : (r : Recording) (act : Act) (e : Effect) → HasStepped r e → IsActed r act e
step_acted r act e h = record { more = sent_in h.outs; adds = h.adds; delivered = λ m i. sent_only (act_shows act) r.machine.devices.own m h.outs i }

unchanged : (r : Recording) (act : Act) (e : Effect) → IsMailCounted r → r ≡ e.recording → IsActed r act e
unchanged r act e h same = record { more = []; adds = subst (λ (x : Recording). HasMore r x []) same (nothing_more r h); delivered = λ m i. absurd i }

-- a step drops nothing
pub stepped_none : (r : Recording) (pages : List ℕ) (e : Effect) → stepped_on r pages ≡ Some e → e.dropped ≡ None
stepped_none r pages e q = go (step_of r.machine) q
  where
    go : (s : Option (State × List Made)) → option_map (with_step r pages) s ≡ Some e → e.dropped ≡ None
    go None w = absurd cc
    go (Some x) w =
        let same : with_step r pages x ≡ e = cc in
        ap (λ (y : Effect). y.dropped) (sym same)

-- where what came in is dropped, or nothing is outstanding, the recording stays
pub dropped_same : (who : Sender) (pages : List ℕ) (r : Recording) (act : Act) (e : Effect) (why : NotTaken) → effect who pages r act ≡ Some e → e.dropped ≡ Some why → e.recording ≡ r
dropped_same who pages r StepOn e why q d = let bad : None ≡ Some why = sym (stepped_none r pages e q) ∙ d in absurd cc
dropped_same who pages r (AnswerClock value) e why q d = go (take_of r.machine (given_at r.machine (OfferClock value))) q
  where
    go : (s : Option State) → (s >>= λ t. stepped_on (with_input r (OfferClock value) t) pages) ≡ Some e → e.recording ≡ r
    go None w = absurd cc
    go (Some t) w = let bad : None ≡ Some why = sym (stepped_none (with_input r (OfferClock value) t) pages e w) ∙ d in absurd cc
dropped_same who pages r (TakeIn o) e why q d = go o (refuse_packet r.machine o) q
  where
    go : (o : Option Offer) (w : Option NotTaken) → take_in who r o w ≡ Some e → e.recording ≡ r
    go o (Some x) p =
        let same : dropped_for who r o x ≡ e = cc in
        ap (λ (y : Effect). y.recording) (sym same)
    go None None p = absurd cc
    go (Some x) None p =
        let same : taken_in r x ≡ e = cc in
        let bad : None ≡ Some why = ap (λ (y : Effect). y.dropped) same ∙ d in
        absurd cc
dropped_same who pages r (SendAgain peer) e why q d = ap (λ (o : Option Effect). recording_or r o) (sym q)
  where
    recording_or : Recording → Option Effect → Recording
    recording_or r None = r
    recording_or r (Some x) = x.recording

pub effect_acted : (who : Sender) (pages : List ℕ) (r : Recording) (act : Act) (e : Effect) → IsMailCounted r → (e.dropped ≡ None → FitsAct r act) → effect who pages r act ≡ Some e → IsActed r act e
effect_acted who pages r StepOn e h fits q = step_acted r StepOn e (has_stepped r pages e h (fits (stepped_none r pages e q)) q)
effect_acted who pages r (AnswerClock value) e h fits q = go (take_of r.machine (given_at r.machine (OfferClock value))) refl q
  where
    go : (s : Option State) → take_of r.machine (given_at r.machine (OfferClock value)) ≡ s → (s >>= λ t. stepped_on (with_input r (OfferClock value) t) pages) ≡ Some e → IsActed r (AnswerClock value) e
    go None p w = absurd cc
    go (Some t) p w =
        let k = took r.machine t (OfferClock value) p in
        let both = fits (stepped_none (with_input r (OfferClock value) t) pages e w) in
        let in_ : Recording = with_input r (OfferClock value) (taken r.machine (OfferClock value)) in
        let first = input_more r (OfferClock value) h both.0 k.0 in
        let next : HasStepped in_ e = has_stepped in_ pages e first.counted both.1 (rw k.1 w) in
        step_acted r (AnswerClock value) e (record { outs = next.outs; adds = more_twice r in_ e.recording [] (sent_in next.outs) first next.adds })
effect_acted who pages r (TakeIn o) e h fits q = go o (refuse_packet r.machine o) refl q fits
  where
    go : (o : Option Offer) (w : Option NotTaken) → refuse_packet r.machine o ≡ w → take_in who r o w ≡ Some e → (e.dropped ≡ None → FitsOffer r o) → IsActed r (TakeIn o) e
    go o (Some why) p f k =
        let same : dropped_for who r o why ≡ e = cc in
        unchanged r (TakeIn o) e h (ap (λ (x : Effect). x.recording) same)
    go None None p f k = absurd cc
    go (Some x) None p f k =
        let same : taken_in r x ≡ e = cc in
        record {
          more = offer_mail x;
          adds = subst (λ (y : Effect). HasMore r y.recording (offer_mail x)) same (input_more r x h (k (ap (λ (y : Effect). y.dropped) (sym same))) p);
          delivered = λ m i. input_delivered r.machine x m p i;
        }
effect_acted who pages r (SendAgain peer) e h fits q =
    let same : _ ≡ e.recording = ap (λ (o : Option Effect). recording_or r o) q in
    unchanged r (SendAgain peer) e h same
  where
    recording_or : Recording → Option Effect → Recording
    recording_or r None = r
    recording_or r (Some x) = x.recording
