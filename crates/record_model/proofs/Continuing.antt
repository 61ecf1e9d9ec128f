-- What a recorder adds to its batch goes on from the journal.
use Rattle.std.proofs.Common.{◌<◌, ne_eqb, lt-ltb, ◌≡◌, ℕ, ◌+◌, true, false, List, [], ◌∷◌, ◌++◌, length, Option, Some, None, refl, ap, subst, arith}
use Rattle.std.specs.Prelude.{◌==◌, ◌&&◌}
use Rattle.std.specs.Option.{option_map}
use Rattle.std.proofs.lemmas.Bool.{and_from, eq-eqb}
use Rattle.avm_num.specs.Bytes.{◌>>=◌}
use Rattle.avm_model.specs.Machine.{State}
use Rattle.avm_model.specs.Content.{kind_of}
use Rattle.avm_model.specs.Offer.{Offer, OfferConsole, OfferClock, OfferData, OfferAck, refuse_packet, taken}
use Rattle.avm_model.specs.Reference.{Made, OutAt, SendAt, HaltAt, SnapAt, NothingAt, step_of, take_of}
use Rattle.avm_model.specs.declared.NotTaken.{NotTaken}
use Rattle.journal_model.proofs.Fitting.{follows_append, first_entry}
use Rattle.journal_model.proofs.Judging.{next_fold, stands_next}
use Rattle.avm_num.specs.Walk.{items_of}
use Rattle.journal_model.specs.Fits.{FitsJournal}
use Rattle.journal_model.specs.Journal.{entries, follows, may_stand, next_number, page_count_of, pages_ascend, parts}
use Rattle.journal_model.specs.Part.{Part, entry, frames_in, page_at, seal}
use Rattle.journal_model.specs.Standing.{standing}
use Rattle.record_model.proofs.Standing.{took}
use Rattle.record_model.specs.Recording.{Act, AnswerClock, Effect, Recording, SendAgain, StepOn, TakeIn, dropped_for, effect, frame_of, given_at, made_parts, next_of, offer_content, stepped_on, take_in, taken_in, with_input, with_seal, with_step}
use Rattle.record_model.specs.Released.{Sender}
use Rattle.record_model.specs.Standing.{Ascends, FitAll, FitsAct, FitsStep, GoesOn}

-- a journal has an entry
has_begun : (r : Recording) → FitsJournal r.journal → r.journal.header.first < next_of r
unfolding next_number entries
has_begun r w =
    let o = first_entry r.journal w in
    let l : length (frames_in (parts r.journal)) ≡ length (o.0 ∷ frames_in o.1) = ap (λ (ps : List Part). length (frames_in ps)) o.2 in
    omega (arith, l, stands_next r.journal, next_fold (standing r.journal) r.batch)

other : (first n kind : ℕ) → first < n → (kind == 1) ≡ false → may_stand first n kind ≡ true
other first n kind lt e = rw (ne_eqb n first (λ (q : n ≡ first). omega (arith, lt, q)), e) refl

one_more : (first n kind : ℕ) → first < n → (kind == 1) ≡ false → (n == n && may_stand first n kind) ≡ true
one_more first n kind lt e = and_from _ _ (eq-eqb n n refl) (other first n kind lt e)

made_cont : (os : List Made) (first most n : ℕ) (s : State) (pages : List ℕ) → first < n → pages_ascend 0 most (items_of page_at pages) ≡ true → FitAll os → follows first most n None (made_parts n s pages os) ≡ true
made_cont [] first most n s pages lt up fits = refl
made_cont (OutAt count bytes ∷ os) first most n s pages lt up fits = and_from _ _ (one_more first n 7 lt refl) (made_cont os first most (n + 1) s pages (omega (arith, lt)) up fits.1)
made_cont (SendAt count peer number payload ∷ os) first most n s pages lt up fits = and_from _ _ (one_more first n 8 lt refl) (made_cont os first most (n + 1) s pages (omega (arith, lt)) up fits.1)
made_cont (HaltAt count cause value ∷ os) first most n s pages lt up fits = and_from _ _ (one_more first n 9 lt refl) (made_cont os first most (n + 1) s pages (omega (arith, lt)) up fits.1)
made_cont (SnapAt count r ∷ os) first most n s pages lt up fits = and_from _ _ (one_more first n 2 lt refl) (and_from _ _ (and_from _ _ (eq-eqb n n refl) up) (made_cont os first most (n + 1) s pages (omega (arith, lt)) up fits.1))
made_cont (NothingAt count ∷ os) first most n s pages lt up fits = absurd (let e : 0 ≡ 32 = fits.0.1 in omega (arith, e))

other_kind : (count : ℕ) (o : Offer) → (kind_of (offer_content count o) == 1) ≡ false
other_kind count (OfferConsole bytes) = refl
other_kind count (OfferClock value) = refl
other_kind count (OfferData inner) = refl
other_kind count (OfferAck inner) = refl

input_cont : (first most n count : ℕ) (o : Offer) → first < n → follows first most n None (entry (frame_of n (offer_content count o)) ∷ []) ≡ true
input_cont first most n count o lt = and_from _ _ (one_more first n (kind_of (offer_content count o)) lt (other_kind count o)) refl

more_cont : (r : Recording) (c : List Part) → GoesOn r → follows r.journal.header.first (page_count_of r.journal) (next_of r) None c ≡ true → follows r.journal.header.first (page_count_of r.journal) (standing r.journal).next None (r.batch ++ c) ≡ true
more_cont r c h g =
    follows_append r.journal.header.first (page_count_of r.journal) (standing r.journal).next None r.batch c h
    (subst (λ (n : ℕ). follows r.journal.header.first (page_count_of r.journal) n None c ≡ true) (next_fold (standing r.journal) r.batch) g)

step_cont : (r : Recording) (pages : List ℕ) (e : Effect) → FitsJournal r.journal → Ascends r pages → GoesOn r → FitsStep r → stepped_on r pages ≡ Some e → GoesOn e.recording
step_cont r pages e w up h fits q = go (step_of r.machine) refl q
  where
    go : (s : Option (State × List Made)) → step_of r.machine ≡ s → option_map (with_step r pages) s ≡ Some e → GoesOn e.recording
    go None p z = absurd cc
    go (Some (t, os)) p z =
        let same : with_step r pages (t, os) ≡ e = cc in
        subst (λ (x : Effect). GoesOn x.recording) same (more_cont r (made_parts (next_of r) t pages os) h (made_cont os r.journal.header.first (page_count_of r.journal) (next_of r) t pages (has_begun r w) up (fits t os p)))

in_cont : (r : Recording) (o : Offer) (s : State) → FitsJournal r.journal → GoesOn r → GoesOn (with_input r o s)
in_cont r o s w h = more_cont r _ h (input_cont r.journal.header.first (page_count_of r.journal) (next_of r) r.machine.count o (has_begun r w))

pub effect_continues : (who : Sender) (pages : List ℕ) (r : Recording) (act : Act) (e : Effect) → FitsJournal r.journal → Ascends r pages → GoesOn r → FitsAct r act → effect who pages r act ≡ Some e → GoesOn e.recording
effect_continues who pages r StepOn e w up h fits q = step_cont r pages e w up h fits q
effect_continues who pages r (AnswerClock value) e w up h fits q = go (take_of r.machine (given_at r.machine (OfferClock value))) refl q
  where
    go : (s : Option State) → take_of r.machine (given_at r.machine (OfferClock value)) ≡ s → (s >>= λ t. stepped_on (with_input r (OfferClock value) t) pages) ≡ Some e → GoesOn e.recording
    go None p z = absurd cc
    go (Some t) p z =
        let k = took r.machine t (OfferClock value) p in
        step_cont (with_input r (OfferClock value) (taken r.machine (OfferClock value))) pages e w up (in_cont r (OfferClock value) (taken r.machine (OfferClock value)) w h) fits.1 (rw k.1 z)
effect_continues who pages r (TakeIn o) e w up h fits q = go o (refuse_packet r.machine o) q
  where
    go : (o : Option Offer) (z : Option NotTaken) → take_in who r o z ≡ Some e → GoesOn e.recording
    go o (Some why) f = let same : dropped_for who r o why ≡ e = cc in subst (λ (x : Effect). GoesOn x.recording) same h
    go None None f = absurd cc
    go (Some x) None f = let same : taken_in r x ≡ e = cc in subst (λ (y : Effect). GoesOn y.recording) same (in_cont r x (taken r.machine x) w h)
effect_continues who pages r (SendAgain peer) e w up h fits q =
    let same : _ ≡ e.recording = ap (λ (o : Option Effect). recording_or r o) q in
    subst GoesOn same h
  where
    recording_or : Recording → Option Effect → Recording
    recording_or r None = r
    recording_or r (Some x) = x.recording

-- and so does a seal
pub seal_continues : (r : Recording) → FitsJournal r.journal → GoesOn r → GoesOn (with_seal r)
seal_continues r w h = more_cont r (seal ∷ []) h (and_from _ _ (lt-ltb r.journal.header.first (next_of r) (has_begun r w)) refl)
