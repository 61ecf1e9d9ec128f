-- How inputs that release nothing end.
use Rattle.std.proofs.Common.{◌≡◌, ℕ, true, false, List, [], ◌∷◌, ◌++◌, Option, Some, None, Result, Ok, Err, refl, sym, ap, subst, ◌∙◌, inl, inr}
use Rattle.std.specs.Prelude.{IfOk}
use Rattle.avm_model.specs.Content.{FitsContent}
use Rattle.avm_model.specs.Keys.{KeyData}
use Rattle.avm_model.specs.Machine.{State}
use Rattle.avm_model.specs.Offer.{Offer, OfferConsole, refuse_packet, taken}
use Rattle.avm_model.specs.declared.NotTaken.TheVariants.{NotPacket, UnknownPeer, NotForUs, NotAuthentic, Repeated, WrongNumber, NotOutstanding, NotAsked, Halted as IsHalted, ClockPending, Full as IsFull}
use Rattle.avm_model.specs.declared.NotTaken.{NotTaken}
use Rattle.avm_outside.specs.Outlet.{Piece}
use Rattle.journal_model.specs.Journal.{JournalData, with_record}
use Rattle.journal_model.specs.Part.{Part, entry}
use Rattle.journal_model.specs.Standing.{standing}
use Rattle.jrnl_store.specs.declared.fault.Stop.{Stop}
use Rattle.jrnl_store.specs.declared.fault.Stop.TheVariants.{LeavesSpent, Full, DiskFault, OutletFault, FeedFault}
use Rattle.record_batch.specs.Batch.{BatchData, with_part}
use Rattle.record_batch.specs.Spelled.{numbered}
use Rattle.record_kept.specs.Tickets.{AreKeptOf}
use Rattle.record_kept.specs.declared.kept.KeptRow.{KeptRow}
use Rattle.record_kept.proofs.Keeping.{kept_quiet, quiet_frames}
use Rattle.record_machine.specs.Taking.{Takes}
use Rattle.record_model.specs.Recording.{Act, Recording, TakeIn, dropped_for, frame_of, is_data, is_large, next_of, offer_content, taken_in}
use Rattle.record_model.specs.Released.{Sender, again_to, repeated_from}
use Rattle.record_parts.specs.Ends.{EndsAs, Faults, SavedAs}
use Rattle.record_parts.specs.Outs.{AreQuiet}
use Rattle.record_parts.specs.declared.answers.Turn.{Turn}
use Rattle.record_parts.specs.declared.answers.Turn.TheVariants.{Dropped, Took}
use Rattle.record_parts.proofs.Acting.{drop_opening}
use Rattle.record_parts.proofs.Effects.{IsNext, input_closing, input_opening}
use Rattle.record_parts.proofs.Ends.{Closing, ends_open, ends_refused, ends_saved, made_same, rec}
use Rattle.record_parts.proofs.Releases.{quiet_pieces}
use Rattle.record_turn.proofs.Keeps.{entry_tells}
use Rattle.record_turn.specs.Keeping.{Aside}
use Rattle.record_turn.specs.Leaves.{Acted, OutletCounts, Settled}

-- what a batch that was quiet leaves of the tickets
pub settled_kept : (rows : List KeptRow) (j : JournalData) (b : List Part) → AreQuiet b → AreKeptOf rows j → AreKeptOf rows (with_record j b)
settled_kept rows j b quiet h = kept_quiet rows j b (quiet_frames (standing j) b quiet) h

abbrev pub faults : ℕ → ℕ → ℕ → Faults
faults before now n = record { disk_before = before; disk_after = now; outlet_before = n; outlet_after = n }

module _ {H : Type 0} (adding : Piece → H → H) (tearing : Piece → H → H → Type 0) (who : Sender) (aside : Aside) (held : H) where
  -- ---- an input that is taken

  module _ (j : JournalData) (b c : BatchData) (s t : State) (o : Offer) (is_next : IsNext j b) (takes : Takes o s t b c) (plain : is_data o ≡ false) (quiet : AreQuiet c.parts) (fits : FitsContent (offer_content s.count o)) where
    abbrev wrote : BatchData
    wrote = with_part b (numbered b.next (offer_content s.count o)) 1

    acted : (rest : List Part) (f : Faults) (result : Result Turn Stop) (next : JournalData) → EndsAs adding tearing who (taken_in (rec j b.parts s) o) (rec next rest t) f held held result → IfOk result (λ turn. turn ≡ Took) → (AreKeptOf aside.rows j → AreKeptOf aside.rows next)
        → Acted adding tearing who 0 (TakeIn (Some o)) (rec j b.parts s) aside aside rest t f held held result next c.parts
    acted rest f result next h answer kept = record {
      acts = record { at = s; moved_to = refl; pages = []; effect = taken_in (rec j b.parts s) o; effect_is = rw takes.none refl; ends = h; answer = answer };
      in_flight = ap (λ (x : BatchData). x.parts) takes.batch ∙ ap (λ (n : ℕ). b.parts ++ entry (frame_of n (offer_content s.count o)) ∷ []) is_next;
      tickets = kept;
      keeps = (λ _. fits, λ k. entry_tells j b.parts (frame_of (next_of (rec j b.parts s)) (offer_content s.count o)) aside.ram k);
    }

    same : rec j c.parts t ≡ rec j wrote.parts (taken s o)
    same = made_same j j c.parts wrote.parts t (taken s o) refl (ap (λ (x : BatchData). x.parts) takes.batch) takes.machine

    pub taken_open : (before now n : ℕ) → is_large c.parts ≡ false → Acted adding tearing who 0 (TakeIn (Some o)) (rec j b.parts s) aside aside c.parts t (faults before now n) held held (Ok Took) j c.parts
    taken_open before now n small =
        let op = input_opening j b s o is_next plain (subst (λ (x : BatchData). is_large x.parts ≡ false) takes.batch small) in
        acted c.parts (faults before now n) (Ok Took) j (ends_open adding tearing who (taken_in (rec j b.parts s) o) (rec j c.parts t) (faults before now n) held held [] Took (record { closes = op.closes; recording = same ∙ op.recording; again = op.again }) refl) refl (λ h. h)

    closing : is_large c.parts ≡ true → Closing (taken_in (rec j b.parts s) o) j c.parts t
    closing large =
        let cl = input_closing j b s o is_next (inr (subst (λ (x : BatchData). is_large x.parts ≡ true) takes.batch large)) in
        record { closes = cl.closes; recording = cl.recording ∙ sym same }

    pub taken_saved : {T : Type 0} (x : T) (rest : List Part) (f : Faults) (next : JournalData) → is_large c.parts ≡ true → SavedAs {T = T} j c.parts next rest f (Ok x) → Acted adding tearing who 0 (TakeIn (Some o)) (rec j b.parts s) aside aside rest t f held held (Ok Took) next c.parts
    taken_saved x rest f next large saved =
        acted rest f (Ok Took) next (ends_saved adding tearing who (taken_in (rec j b.parts s) o) j next c.parts rest t f held held [] x Took (closing large) saved (quiet_pieces who (standing j) c.parts quiet) refl) refl
        (λ h. subst (λ (i : JournalData). AreKeptOf aside.rows i) (sym saved.1) (settled_kept aside.rows j c.parts quiet h))

    pub taken_refused : (T : Type 0) (rest : List Part) (f : Faults) (stop : Stop) → is_large c.parts ≡ true → SavedAs {T = T} j c.parts j rest f (Err stop) → Acted adding tearing who 0 (TakeIn (Some o)) (rec j b.parts s) aside aside rest t f held held (Err stop) j c.parts
    taken_refused T rest f stop large saved =
        acted rest f (Err stop) j (ends_refused T Turn adding tearing who (taken_in (rec j b.parts s) o) j j c.parts rest t f held stop (closing large) saved) tt (λ h. h)

    -- by what settling leaves
    pub taken_settled : {T : Type 0} (x : T) (rest : List Part) (before now n : ℕ) (next : JournalData) (flight : List Part) → Settled {T = T} j c.parts rest before now (Ok x) next flight → Acted adding tearing who 0 (TakeIn (Some o)) (rec j b.parts s) aside aside rest t (faults before now n) held held (Ok Took) next flight
    taken_settled x rest before now n next flight (fl, inl h) =
        subst (λ (p : List Part). Acted adding tearing who 0 (TakeIn (Some o)) (rec j b.parts s) aside aside rest t (faults before now n) held held (Ok Took) next p) (sym fl)
        (subst (λ (i : JournalData). Acted adding tearing who 0 (TakeIn (Some o)) (rec j b.parts s) aside aside rest t (faults before now n) held held (Ok Took) i c.parts) (sym h.1)
        (subst (λ (r : List Part). Acted adding tearing who 0 (TakeIn (Some o)) (rec j b.parts s) aside aside r t (faults before now n) held held (Ok Took) j c.parts) (sym h.2) (taken_open before now n h.0)))
    taken_settled x rest before now n next flight (fl, inr h) =
        subst (λ (p : List Part). Acted adding tearing who 0 (TakeIn (Some o)) (rec j b.parts s) aside aside rest t (faults before now n) held held (Ok Took) next p) (sym fl)
        (taken_saved x rest (faults before now n) next h.0 (h.1 n))

    pub taken_unsettled : (T : Type 0) (rest : List Part) (before now n : ℕ) (stop : Stop) (next : JournalData) (flight : List Part) → Settled {T = T} j c.parts rest before now (Err stop) next flight → Acted adding tearing who 0 (TakeIn (Some o)) (rec j b.parts s) aside aside rest t (faults before now n) held held (Err stop) next flight
    taken_unsettled T rest before now n stop next flight h =
        subst (λ (p : List Part). Acted adding tearing who 0 (TakeIn (Some o)) (rec j b.parts s) aside aside rest t (faults before now n) held held (Err stop) next p) (sym h.0)
        (subst (λ (i : JournalData). Acted adding tearing who 0 (TakeIn (Some o)) (rec j b.parts s) aside aside rest t (faults before now n) held held (Err stop) i c.parts) (sym h.1)
        (taken_refused T rest (faults before now n) stop h.2 (subst (λ (i : JournalData). SavedAs {T = T} j c.parts i rest (faults before now n) (Err stop)) h.1 (h.3 n))))

  -- ---- an input that is dropped, with nothing to release again

  pub dropped_quietly : (j : JournalData) (b : List Part) (s : State) (o : Option Offer) (why : NotTaken) (f : Faults) → refuse_packet s o ≡ Some why → again_to who j (repeated_from why o) ≡ [] → Acted adding tearing who 0 (TakeIn o) (rec j b s) aside aside b s f held held (Ok (Dropped why)) j b
  dropped_quietly j b s o why f some none = record {
    acts = record { at = s; moved_to = refl; pages = []; effect = dropped_for who (rec j b s) o why; effect_is = rw some refl; ends = ends_open adding tearing who (dropped_for who (rec j b s) o why) (rec j b s) f held held [] (Dropped why) (drop_opening who j b s o why [] none) refl; answer = refl };
    in_flight = refl;
    tickets = λ h. h;
    keeps = (λ no. absurd cc, λ k. k);
  }

-- what is dropped of the console is no packet, and so nothing is released again
pub console_again : (who : Sender) (j : JournalData) (why : NotTaken) (bytes : List ℕ) → again_to who j (repeated_from why (Some (OfferConsole bytes))) ≡ []
console_again who j why bytes = ap (again_to who j) (never why)
  where
    never : (why : NotTaken) → repeated_from why (Some (OfferConsole bytes)) ≡ None
    never NotPacket = refl
    never UnknownPeer = refl
    never NotForUs = refl
    never NotAuthentic = refl
    never Repeated = refl
    never WrongNumber = refl
    never NotOutstanding = refl
    never NotAsked = refl
    never IsHalted = refl
    never ClockPending = refl
    never IsFull = refl

-- where machine and batch are as before
pub dropped_at : {H : Type 0} (adding : Piece → H → H) (tearing : Piece → H → H → Type 0) (key : KeyData) (aside after : Aside) (held : H) (j : JournalData) (b c : BatchData) (s u : State) (o : Option Offer) (why : NotTaken) (f : Faults) → after ≡ aside → u ≡ s → c ≡ b → refuse_packet s o ≡ Some why
    → again_to (record { key = key; own = u.devices.own }) j (repeated_from why o) ≡ [] → Acted adding tearing (record { key = key; own = u.devices.own }) 0 (TakeIn o) (rec j b.parts s) aside after c.parts u f held held (Ok (Dropped why)) j b.parts
dropped_at adding tearing key aside after held j b c s u o why f beside same left some none =
    subst (λ (a : Aside). Acted adding tearing (record { key = key; own = u.devices.own }) 0 (TakeIn o) (rec j b.parts s) aside a c.parts u f held held (Ok (Dropped why)) j b.parts) (sym beside) (
    subst (λ (x : BatchData). Acted adding tearing (record { key = key; own = u.devices.own }) 0 (TakeIn o) (rec j b.parts s) aside aside x.parts u f held held (Ok (Dropped why)) j b.parts) (sym left)
    (subst (λ (v : State). Acted adding tearing (record { key = key; own = u.devices.own }) 0 (TakeIn o) (rec j b.parts s) aside aside b.parts v f held held (Ok (Dropped why)) j b.parts) (sym same)
    (dropped_quietly adding tearing (record { key = key; own = u.devices.own }) aside held j b.parts s o why f some none)))

-- an act whose machine and tickets stay behind what it did
pub acted_at : {H : Type 0} (adding : Piece → H → H) (tearing : Piece → H → H → Type 0) (key : KeyData) (quiet : ℕ) (act : Act) (before : Recording) (aside after : Aside) (batch : List Part) (u v : State) (f : Faults) (old new : H) (result : Result Turn Stop) (next : JournalData) (flight : List Part) → v ≡ u → after ≡ aside
    → Acted adding tearing (record { key = key; own = u.devices.own }) quiet act before aside aside batch u f old new result next flight → Acted adding tearing (record { key = key; own = v.devices.own }) quiet act before aside after batch v f old new result next flight
acted_at adding tearing key quiet act before aside after batch u v f old new result next flight e r h =
    subst (λ (x : State). Acted adding tearing (record { key = key; own = x.devices.own }) quiet act before aside after batch x f old new result next flight) (sym e)
    (subst (λ (x : Aside). Acted adding tearing (record { key = key; own = u.devices.own }) quiet act before aside x batch u f old new result next flight) (sym r) h)

-- a stop counts alike whatever is answered where there is none
pub counts_err : (T U : Type 0) (before now : ℕ) (stop : Stop) → OutletCounts {T = T} before now (Err stop) → OutletCounts {T = U} before now (Err stop)
counts_err T U before now LeavesSpent h = h
counts_err T U before now Full h = h
counts_err T U before now DiskFault h = h
counts_err T U before now OutletFault h = h
counts_err T U before now FeedFault h = absurd h
