-- How the writing, saving and releasing of a step end.
use Rattle.std.proofs.Common.{◌≡◌, ℕ, true, false, List, [], ◌++◌, Option, Ok, Err, refl, sym, ap, subst, ◌∙◌}
use Rattle.std.specs.Prelude.{◌⊎◌, fold}
use Rattle.avm_model.specs.Keys.{KeyData}
use Rattle.avm_model.specs.Machine.{State}
use Rattle.avm_outside.specs.Outlet.{Piece, all_added}
use Rattle.avm_outside.specs.Outside.{Rises}
use Rattle.guest_machine.specs.declared.outs.Outs.{Outs}
use Rattle.journal_model.specs.Journal.{JournalData, with_record}
use Rattle.journal_model.specs.Part.{Part}
use Rattle.journal_model.specs.Standing.{SignedData, StandingData, behind, signed_from, standing}
use Rattle.jrnl_store.specs.Kept.{Kept}
use Rattle.jrnl_store.specs.Own.{IsOwn}
use Rattle.jrnl_store.specs.declared.fault.Stop.{Stop}
use Rattle.jrnl_store.specs.declared.fault.Stop.TheVariants.{OutletFault}
use Rattle.record_batch.specs.Batch.{BatchData}
use Rattle.record_kept.specs.Tickets.{AreKeptOf}
use Rattle.record_kept.specs.declared.kept.KeptRow.{KeptRow}
use Rattle.record_model.specs.Recording.{Effect, is_large, made_parts, with_step}
use Rattle.record_model.specs.Released.{Sender, pieces_from}
use Rattle.record_model.specs.Standing.{FitAll}
use Rattle.record_parts.specs.Ends.{CutsAmong, Faults, SavedAs}
use Rattle.record_parts.specs.Outs.{AreQuiet, first_of, line_pieces, outs_made, sent_pieces, with_made}
use Rattle.record_parts.proofs.Effects.{IsNext, step_closing, step_opening}
use Rattle.record_parts.proofs.Ends.{Closing, ends_cut, ends_open, ends_refused, ends_saved, made_same, rec}
use Rattle.record_parts.proofs.Releases.{batch_releases}
use Rattle.record_store.specs.Open.{IsOpen}
use Rattle.avm_model.specs.Memory.{RamState}
use Rattle.record_turn.proofs.Keeps.{beside}
use Rattle.record_turn.specs.Keeping.{KeepsStep}
use Rattle.record_turn.specs.Leaves.{Finished}

-- the batch's number is the next behind a journal whose own disk this is
pub next_for : (k : Kept) (images : List ℕ → Type 0) (was : List ℕ) (j : JournalData) (b : BatchData) → IsOwn k images was j → IsOpen k b → IsNext j b
next_for k images was j b own o = subst (λ (s : StandingData). b.next ≡ (fold behind s b.parts).next) own.keeps.standing o.next

-- what a step wrote
pub record Wrote (k : Kept) (b c : BatchData) (t u : State) (o : Outs) (pages : List ℕ) : Type 0 where
  pub opens : IsOpen k b
  pub batch : c ≡ with_made b t pages (outs_made t o)
  pub state : u ≡ t
  pub quiet : AreQuiet b.parts
  pub fits : FitAll (outs_made t o)

module _ {H : Type 0} (adding : Piece → H → H) (tearing : Piece → H → H → Type 0) (key : KeyData) (k : Kept) (b c : BatchData) (t u : State) (o : Outs) (pages : List ℕ) (w : Wrote k b c t u o pages) (images : List ℕ → Type 0) (was : List ℕ) (j : JournalData) (own : IsOwn k images was j) where
  abbrev sender : Sender
  sender = record { key = key; own = u.devices.own }

  abbrev effect : Effect
  effect = with_step (rec j b.parts t) pages (t, outs_made t o)

  next : IsNext j b
  next = next_for k images was j b own w.opens

  same : rec j c.parts u ≡ rec j (with_made b t pages (outs_made t o)).parts t
  same = made_same j j c.parts _ u t refl (ap (λ (x : BatchData). x.parts) w.batch) w.state

  flies : c.parts ≡ effect.recording.batch
  flies = ap (λ (x : BatchData). x.parts) w.batch ∙ ap (λ (n : ℕ). b.parts ++ made_parts n t pages (outs_made t o)) next

  pub finish_open : (f : Faults) (held : H) (rows : List KeptRow) (ram after_ram : RamState) → KeepsStep j b.parts t (outs_made t o) pages ram after_ram → outs_made t o ≡ [] → is_large c.parts ≡ false
      → Finished {T = Unit {0}} adding tearing sender (rec j b.parts t) (outs_made t o) (beside rows ram) (beside rows after_ram) c.parts u f held held (Ok tt) j c.parts
  finish_open f held rows ram after_ram truth none small =
      let op = step_opening j b t t pages (outs_made t o) next none (subst (λ (x : BatchData). is_large x.parts ≡ false) w.batch small) in
      record {
        pages = pages;
        ends = ends_open adding tearing sender effect (rec j c.parts u) f held held [] (tt {0}) (record { closes = op.closes; recording = same ∙ op.recording; again = op.again }) refl;
        in_flight = flies;
        tickets = λ h. h;
        keeps = truth;
      }

  closing : (outs_made t o ≡ [] → ⊥) ⊎ (is_large c.parts ≡ true) → Closing effect j c.parts u
  closing due =
      let cl = step_closing j b t t pages (outs_made t o) next (subst (λ (x : BatchData). (outs_made t o ≡ [] → ⊥) ⊎ (is_large x.parts ≡ true)) w.batch due) in
      record { closes = cl.closes; recording = cl.recording ∙ sym same }

  pub finish_refused : (T : Type 0) (f : Faults) (held : H) (rows : List KeptRow) (ram after_ram : RamState) (rest : List Part) (stop : Stop) → KeepsStep j b.parts t (outs_made t o) pages ram after_ram → (outs_made t o ≡ [] → ⊥) ⊎ (is_large c.parts ≡ true) → SavedAs {T = T} j c.parts j rest f (Err stop)
      → Finished {T = Unit {0}} adding tearing sender (rec j b.parts t) (outs_made t o) (beside rows ram) (beside rows after_ram) rest u f held held (Err stop) j c.parts
  finish_refused T f held rows ram after_ram rest stop truth due saved = record {
    pages = pages;
    ends = ends_refused T (Unit {0}) adding tearing sender effect j j c.parts rest u f held stop (closing due) saved;
    in_flight = flies;
    tickets = λ h. h;
    keeps = truth;
  }

  -- what the whole batch releases
  releases : (ticket : Option SignedData) → ticket ≡ first_of (signed_from k.standing c.parts) → pieces_from sender (standing j) c.parts ≡ line_pieces o.line ++ sent_pieces (record { key = key; own = u.devices.own }) u o.sent ticket
  releases ticket e =
      let wrote : List Part = (with_made b t pages (outs_made t o)).parts in
      let all : pieces_from sender (standing j) c.parts ≡ pieces_from sender (standing j) wrote = ap (λ (x : BatchData). pieces_from sender (standing j) x.parts) w.batch in
      let first : ticket ≡ first_of (signed_from (standing j) wrote) = e ∙ ap (λ (s : StandingData). first_of (signed_from s c.parts)) own.keeps.standing ∙ ap (λ (x : BatchData). first_of (signed_from (standing j) x.parts)) w.batch in
      all ∙ batch_releases sender (standing j) b t pages o w.quiet w.fits next ∙ ap (λ (x : Option SignedData). line_pieces o.line ++ sent_pieces sender t o.sent x) (sym first)
      ∙ ap (λ (v : State). line_pieces o.line ++ sent_pieces sender v o.sent ticket) (sym w.state)

  -- and the tickets behind it
  pub keeps : (rows after : List KeptRow) (ticket : Option SignedData) → ticket ≡ first_of (signed_from k.standing c.parts)
      → (b.next ≡ (fold behind (standing j) b.parts).next → AreQuiet b.parts → FitAll (outs_made t o) → ticket ≡ first_of (signed_from (standing j) (with_made b t pages (outs_made t o)).parts) → AreKeptOf rows j → AreKeptOf after (with_record j (with_made b t pages (outs_made t o)).parts))
      → AreKeptOf rows j → AreKeptOf after (with_record j c.parts)
  keeps rows after ticket e more h =
      let wrote : List Part = (with_made b t pages (outs_made t o)).parts in
      let first : ticket ≡ first_of (signed_from (standing j) wrote) = e ∙ ap (λ (s : StandingData). first_of (signed_from s c.parts)) own.keeps.standing ∙ ap (λ (x : BatchData). first_of (signed_from (standing j) x.parts)) w.batch in
      subst (λ (x : BatchData). AreKeptOf after (with_record j x.parts)) (sym w.batch) (more next w.quiet w.fits first h)

  pub finish_saved : {T : Type 0} (x : T) (f : Faults) (old new : H) (rows after : List KeptRow) (ram after_ram : RamState) (rest : List Part) (ticket : Option SignedData) → KeepsStep j b.parts t (outs_made t o) pages ram after_ram → (outs_made t o ≡ [] → ⊥) ⊎ (is_large c.parts ≡ true) → SavedAs {T = T} j c.parts (with_record j c.parts) rest f (Ok x)
      → ticket ≡ first_of (signed_from k.standing c.parts) → new ≡ all_added adding (line_pieces o.line ++ sent_pieces (record { key = key; own = u.devices.own }) u o.sent ticket) old
      → (AreKeptOf rows j → AreKeptOf after (with_record j c.parts)) → Finished {T = Unit {0}} adding tearing sender (rec j b.parts t) (outs_made t o) (beside rows ram) (beside after after_ram) rest u f old new (Ok tt) (with_record j c.parts) c.parts
  finish_saved x f old new rows after ram after_ram rest ticket truth due saved e told kept = record {
    pages = pages;
    ends = ends_saved adding tearing sender effect j (with_record j c.parts) c.parts rest u f old new _ x (tt {0}) (closing due) saved (releases ticket e) told;
    in_flight = flies;
    tickets = kept;
    keeps = truth;
  }

  pub finish_cut : {T : Type 0} (x : T) (f : Faults) (old new : H) (rows after : List KeptRow) (ram after_ram : RamState) (rest : List Part) (ticket : Option SignedData) → KeepsStep j b.parts t (outs_made t o) pages ram after_ram → (outs_made t o ≡ [] → ⊥) ⊎ (is_large c.parts ≡ true) → SavedAs {T = T} j c.parts (with_record j c.parts) rest f (Ok x)
      → ticket ≡ first_of (signed_from k.standing c.parts) → CutsAmong adding tearing (line_pieces o.line ++ sent_pieces (record { key = key; own = u.devices.own }) u o.sent ticket) old new → Rises f.outlet_before f.outlet_after
      → (AreKeptOf rows j → AreKeptOf after (with_record j c.parts)) → Finished {T = Unit {0}} adding tearing sender (rec j b.parts t) (outs_made t o) (beside rows ram) (beside after after_ram) rest u f old new (Err OutletFault) (with_record j c.parts) c.parts
  finish_cut x f old new rows after ram after_ram rest ticket truth due saved e cut rises kept = record {
    pages = pages;
    ends = ends_cut (Unit {0}) adding tearing sender effect j (with_record j c.parts) c.parts rest u f old new _ x (closing due) saved (releases ticket e) cut rises;
    in_flight = flies;
    tickets = kept;
    keeps = truth;
  }
