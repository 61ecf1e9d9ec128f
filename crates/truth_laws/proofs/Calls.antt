-- What a turn and a seal leave.
use Rattle.std.proofs.Common.{◌≡◌, inl, inr, ℕ, Bool, true, false, List, [], ◌∷◌, ◌++◌, Option, Some, None, Result, Ok, Err, refl, sym, ap, subst, ◌∙◌, append_assoc}
use Rattle.std.proofs.lemmas.List.{append-nil}
use Rattle.avm_model.specs.Audit.{behind_first, is_committed}
use Rattle.avm_model.specs.Frame.{FrameData}
use Rattle.avm_model.specs.Head.{HeadData}
use Rattle.avm_model.specs.Machine.{State}
use Rattle.avm_model.specs.Memory.{RamState}
use Rattle.avm_model.specs.Reference.{entries_of, timed}
use Rattle.avm_model.specs.Rerun.{Stands, start}
use Rattle.avm_outside.specs.Outlet.{Piece}
use Rattle.honest_model.proofs.Honesty.{honest_leads, leads_honest}
use Rattle.honest_model.proofs.Openings.{opened_is}
use Rattle.honest_model.proofs.Logs.{keeps-append, record-parts}
use Rattle.honest_model.specs.Honest.{IsHonest, Leads}
use Rattle.honest_model.specs.KeepPages.{IsHeader, IsKeptRam}
use Rattle.honest_model.specs.Keeps.{AreTrue, HasTrueKeeps, IsOpened}
use Rattle.journal_model.proofs.Prefixes.{frames_append}
use Rattle.journal_model.specs.Fits.{FitsJournal}
use Rattle.journal_model.specs.Header.{HeaderData}
use Rattle.journal_model.specs.Journal.{Is, JournalData, journal_of, parts, with_record}
use Rattle.journal_model.specs.Part.{Part, entry, frames_in, keep, keeps_in, seal}
use Rattle.journal_model.specs.Saving.{CommitRefusal, commit_refusal}
use Rattle.jrnl_store.specs.declared.fault.Stop.{Stop}
use Rattle.jrnl_store.specs.declared.fault.Stop.TheVariants.{LeavesSpent, Full, DiskFault, OutletFault, FeedFault}
use Rattle.life_model.specs.Life.{KeepsSnaps}
use Rattle.record_kept.specs.declared.kept.KeptRow.{KeptRow}
use Rattle.record_laws.proofs.Kept.{saved_true}
use Rattle.record_laws.proofs.Truth.{true-append}
use Rattle.record_model.proofs.Continuing.{seal_continues}
use Rattle.record_model.proofs.Standing.{standing_moved, standing_saved}
use Rattle.record_model.specs.Recording.{Act, Effect, Recording, closed_by, finished, needs_no_seal, saved, sealed, with_seal}
use Rattle.record_model.specs.Released.{Sender}
use Rattle.record_model.specs.Turn.{Gift}
use Rattle.record_parts.specs.Ends.{EndsAs, Faults, SealsAs}
use Rattle.record_parts.specs.declared.answers.Sealed.{Sealed}
use Rattle.record_parts.specs.declared.answers.Turn.{Turn}
use Rattle.record_store.specs.Saving.{StandsWith}
use Rattle.record_turn.proofs.Keeps.{same_kept}
use Rattle.record_turn.specs.Keeping.{Aside, MarksTell}
use Rattle.record_turn.specs.Leaves.{Acted, Seals}
use Rattle.recorder.specs.Turns.{Does, Planned}
use Rattle.truth_laws.proofs.Acts.{act_leaves}
use Rattle.truth_laws.proofs.Snaps.{snaps_on}
use Rattle.truth_laws.specs.Truth.{IsTrue, IsWhole, StaysTrue}

-- ---- a batch is saved

saved_parts : (r : Recording) → parts r.journal ++ r.batch ≡ parts (saved r).journal ++ []
saved_parts r = sym (append-nil (parts (with_record r.journal r.batch)) ∙ record-parts r.journal r.batch)

pub true_saved : (r : Recording) → IsTrue r → IsTrue (saved r)
true_saved r h = record {
  standing = standing_saved r h.standing;
  goes_on = refl;
  keeps = saved_true r h.keeps;
  snaps = subst (λ (ps : List Part). KeepsSnaps true ps) (saved_parts r) h.snaps;
}

marks_saved : (r : Recording) (ram : RamState) → MarksTell r.journal r.batch ram → MarksTell (saved r).journal [] ram
marks_saved r ram m = subst (λ (ps : List Part). IsKeptRam r.journal.header ps ram) (saved_parts r) m

-- a recording that is true, with marks that tell
pub record Tells (r : Recording) (ram : RamState) : Type 0 where
  pub now : IsTrue r
  pub marks : MarksTell r.journal r.batch ram

tells_saved : (r : Recording) (ram : RamState) → Tells r ram → Tells (saved r) ram
tells_saved r ram t = record { now = true_saved r t.now; marks = marks_saved r ram t.marks }

closed_tells : (who : Sender) (r : Recording) (ram : RamState) (w : Option CommitRefusal) → Tells r ram → Tells (closed_by who r w).recording ram
closed_tells who r ram None t = tells_saved r ram t
closed_tells who r ram (Some why) t = t

finished_tells : (who : Sender) (e : Effect) (ram : RamState) → Tells e.recording ram → Tells (finished who e).recording ram
finished_tells who e ram t = go e.closes refl
  where
    go : (b : Bool) → e.closes ≡ b → Tells (finished who e).recording ram
    go true q = rw q (closed_tells who e.recording ram (commit_refusal e.recording.journal e.recording.batch) t)
    go false q = rw q t

ends_tell : {H T : Type 0} (adding : Piece → H → H) (tearing : Piece → H → H → Type 0) (who : Sender) (e : Effect) (r : Recording) (f : Faults) (old new : H) (result : Result T Stop) (ram : RamState) → EndsAs adding tearing who e r f old new result → Tells e.recording ram → Tells r ram
ends_tell adding tearing who e r f old new (Ok x) ram h t = subst (λ (y : Recording). Tells y ram) (sym h.1) (finished_tells who e ram t)
ends_tell adding tearing who e r f old new (Err LeavesSpent) ram h t = subst (λ (y : Recording). Tells y ram) (sym h.1) t
ends_tell adding tearing who e r f old new (Err Full) ram h t = subst (λ (y : Recording). Tells y ram) (sym h.1) t
ends_tell adding tearing who e r f old new (Err DiskFault) ram h t = subst (λ (y : Recording). Tells y ram) (sym h.0) t
ends_tell adding tearing who e r f old new (Err OutletFault) ram h t = subst (λ (y : Recording). Tells y ram) (sym h.1) (finished_tells who e ram t)
ends_tell adding tearing who e r f old new (Err FeedFault) ram h t = absurd h

-- ---- images

true_front : (h : HeaderData) (before a b : List Part) → AreTrue h before (a ++ b) → AreTrue h before a
true_front h before [] b t = tt
true_front h before (entry f ∷ a) b t = true_front h (before ++ entry f ∷ []) a b t
true_front h before (seal ∷ a) b t = true_front h (before ++ seal ∷ []) a b t
true_front h before (keep k ∷ a) b t = (t.0, true_front h (before ++ keep k ∷ []) a b t.1)

-- the journal of a recording that is true
pub whole_of : (r : Recording) → IsTrue r → IsWhole r.journal
whole_of r h = record {
  honest = leads_honest r.journal h.standing.from h.standing.saved h.standing.header h.standing.journal;
  keeps = true_front r.journal.header [] (parts r.journal) r.batch h.keeps;
}

same_journal : (i j : JournalData) → Is i ≡ Is j → i ≡ j
same_journal i j e = cc

-- each image that stands for the journal, or for it with the batch in flight
images_whole : (j : JournalData) (flight : List Part) → IsWhole j → IsWhole (with_record j flight) → (c : List ℕ) (m : JournalData) → StandsWith j flight c → journal_of c ≡ Is m → IsWhole m
images_whole j flight one two c m (inl e) q = subst IsWhole (same_journal j m (sym e ∙ q)) one
images_whole j flight one two c m (inr e) q = subst IsWhole (same_journal (with_record j flight) m (sym e ∙ q)) two

-- ---- a turn

module _ {H : Type 0} (adding : Piece → H → H) (tearing : Piece → H → H → Type 0) (who : Sender) (r : Recording) (a : HeadData) (w : FitsJournal r.journal) (head : IsHeader r.journal.header a) (h : IsTrue r) where
  acted : (quiet : ℕ) (act : Act) (aside after : Aside) (batch : List Part) (machine : State) (f : Faults) (old new : H) (result : Result Turn Stop) (next : JournalData) (flight : List Part) → MarksTell r.journal r.batch aside.ram
      → Acted adding tearing who quiet act r aside after batch machine f old new result next flight → StaysTrue r.journal flight (record { journal = next; batch = batch; machine = machine }) after.ram
  acted quiet act aside after batch machine f old new result next flight m d =
      let at : Recording = record r { machine = d.acts.at } in
      let moved : IsTrue at = record { standing = standing_moved r quiet d.acts.at h.standing d.acts.moved_to; goes_on = h.goes_on; keeps = h.keeps; snaps = h.snaps } in
      let l = act_leaves who at a act d.acts.pages d.acts.effect aside.ram after.ram w head moved m d.acts.effect_is d.keeps in
      let t = ends_tell adding tearing who d.acts.effect (record { journal = next; batch = batch; machine = machine }) f old new result after.ram d.acts.ends (record { now = l.now; marks = l.marks }) in
      let e : with_record d.acts.effect.recording.journal d.acts.effect.recording.batch ≡ with_record r.journal flight = rw (l.journal, d.in_flight) refl in
      record {
        now = t.now;
        marks = t.marks;
        images = images_whole r.journal flight (whole_of r h) (subst IsWhole e (whole_of (saved d.acts.effect.recording) (true_saved d.acts.effect.recording l.now)));
      }

  pub planned : (g : Gift) (value : ℕ) (aside after : Aside) (batch : List Part) (machine : State) (f : Faults) (old new : H) (result : Result Turn Stop) (next : JournalData) (flight : List Part) → MarksTell r.journal r.batch aside.ram
      → Planned adding tearing who g value r aside after batch machine f old new result next flight → StaysTrue r.journal flight (record { journal = next; batch = batch; machine = machine }) after.ram
  planned g value aside after batch machine f old new result next flight m p = go p.plan.act p.does
    where
      go : (act : Option Act) → Does adding tearing who p.plan act r aside after batch machine f old new result next flight → StaysTrue r.journal flight (record { journal = next; batch = batch; machine = machine }) after.ram
      go (Some act) d = acted p.plan.quiet act aside after batch machine f old new result next flight m d
      go None i =
          let stays : r ≡ record { journal = next; batch = batch; machine = machine } = rw (i.journal, i.batch_is, i.machine_is) refl in
          record {
            now = subst IsTrue stays h;
            marks = subst (λ (x : Aside). MarksTell next batch x.ram) (sym i.aside_is) (subst (λ (x : Recording). MarksTell x.journal x.batch aside.ram) stays m);
            images = images_whole r.journal flight (whole_of r h) (subst (λ (ps : List Part). IsWhole (with_record r.journal ps)) (sym i.in_flight) (whole_of (saved r) (true_saved r h)));
          }

-- ---- a seal

no_frames : (ps : List Part) → frames_in (ps ++ seal ∷ []) ≡ frames_in ps
no_frames ps = frames_append ps (seal ∷ []) ∙ append-nil (frames_in ps)

leads_sealed : (from to : State) (a b : List Part) → Leads from (a ++ b) to → Leads from (a ++ (b ++ seal ∷ [])) to
leads_sealed from to a b l =
    let e : frames_in (a ++ b) ≡ frames_in (a ++ (b ++ seal ∷ [])) = sym (no_frames (a ++ b)) ∙ ap frames_in (append_assoc a b (seal ∷ [])) in
    record {
      committed = subst (λ (fs : List FrameData). is_committed from fs ≡ true) e l.committed;
      stands = subst (λ (fs : List FrameData). Stands timed from (entries_of (behind_first fs)) (start to)) e l.stands;
    }

pub true_sealed : (r : Recording) → FitsJournal r.journal → IsTrue r → IsTrue (with_seal r)
true_sealed r w h = record {
  standing = record { from = h.standing.from; header = h.standing.header; saved = h.standing.saved; journal = h.standing.journal; reached = h.standing.reached; batch = leads_sealed h.standing.from h.standing.reached (parts r.journal) r.batch h.standing.batch; steps = h.standing.steps; quiet = h.standing.quiet };
  goes_on = seal_continues r w h.goes_on;
  keeps = subst (λ (ps : List Part). AreTrue r.journal.header [] ps) (append_assoc (parts r.journal) r.batch (seal ∷ [])) (true-append r.journal.header [] (parts r.journal ++ r.batch) (seal ∷ []) h.keeps tt);
  snaps = subst (λ (ps : List Part). KeepsSnaps true ps) (append_assoc (parts r.journal) r.batch (seal ∷ [])) (snaps_on true (parts r.journal ++ r.batch) (seal ∷ []) h.snaps tt);
}

tells_sealed : (r : Recording) (ram : RamState) → FitsJournal r.journal → Tells r ram → Tells (with_seal r) ram
tells_sealed r ram w t = record {
  now = true_sealed r w t.now;
  marks = subst (λ (ps : List Part). IsKeptRam r.journal.header ps ram) (append_assoc (parts r.journal) r.batch (seal ∷ []))
      (same_kept r.journal.header (parts r.journal ++ r.batch) ((parts r.journal ++ r.batch) ++ seal ∷ []) ram (keeps-append (parts r.journal ++ r.batch) (seal ∷ []) ∙ append-nil (keeps_in (parts r.journal ++ r.batch))) t.marks);
}

sealed_tells : (who : Sender) (r : Recording) (ram : RamState) → FitsJournal r.journal → Tells r ram → Tells (sealed who r).recording ram
sealed_tells who r ram w t = go (needs_no_seal r) refl
  where
    go : (b : Bool) → needs_no_seal r ≡ b → Tells (sealed who r).recording ram
    go true q = rw q t
    go false q = rw q (closed_tells who (with_seal r) ram (commit_refusal r.journal (with_seal r).batch) (tells_sealed r ram w t))

seals_tell : {H T : Type 0} (adding : Piece → H → H) (tearing : Piece → H → H → Type 0) (who : Sender) (r after : Recording) (f : Faults) (old new : H) (result : Result T Stop) (ram : RamState) → FitsJournal r.journal → SealsAs adding tearing who r after f old new result → Tells r ram → Tells after ram
seals_tell adding tearing who r after f old new (Ok x) ram w h t = subst (λ (y : Recording). Tells y ram) (sym h.1) (sealed_tells who r ram w t)
seals_tell adding tearing who r after f old new (Err LeavesSpent) ram w h t = subst (λ (y : Recording). Tells y ram) (sym h.1) (tells_sealed r ram w t)
seals_tell adding tearing who r after f old new (Err Full) ram w h t = subst (λ (y : Recording). Tells y ram) (sym h.1) (tells_sealed r ram w t)
seals_tell adding tearing who r after f old new (Err DiskFault) ram w h t = subst (λ (y : Recording). Tells y ram) (sym h.0) (tells_sealed r ram w t)
seals_tell adding tearing who r after f old new (Err OutletFault) ram w h t = subst (λ (y : Recording). Tells y ram) (sym h.1) (sealed_tells who r ram w t)
seals_tell adding tearing who r after f old new (Err FeedFault) ram w h t = absurd h

pub seals : {H : Type 0} (adding : Piece → H → H) (tearing : Piece → H → H → Type 0) (who : Sender) (r : Recording) (rows : List KeptRow) (ram : RamState) (batch : List Part) (f : Faults) (old new : H) (result : Result Sealed Stop) (next : JournalData) (flight : List Part) → FitsJournal r.journal → IsTrue r → MarksTell r.journal r.batch ram
    → Seals adding tearing who r rows batch f old new result next flight → StaysTrue r.journal flight (record { journal = next; batch = batch; machine = r.machine }) ram
seals adding tearing who r rows ram batch f old new result next flight w h m s =
    let t = seals_tell adding tearing who r (record { journal = next; batch = batch; machine = r.machine }) f old new result ram w s.ends (record { now = h; marks = m }) in
    record {
      now = t.now;
      marks = t.marks;
      images = images_whole r.journal flight (whole_of r h) (subst (λ (ps : List Part). IsWhole (with_record r.journal ps)) (sym s.in_flight) (whole_of (saved (with_seal r)) (true_saved (with_seal r) (true_sealed r w h))));
    }

-- ---- an opening

pub true_opened : (j : JournalData) (s : State) → IsHonest j → HasTrueKeeps j → KeepsSnaps true (parts j) → IsOpened j s → IsTrue (record { journal = j; batch = []; machine = s })
true_opened j s honest keeps snaps o =
    let from = honest.fault.0 in
    let head = honest.fault.1 in
    let l = honest_leads j from honest head in
    let same : s ≡ l.0 = opened_is j from l.0 s head l.1 keeps o in
    let none : parts j ≡ parts j ++ [] = sym (append-nil (parts j)) in
    record {
      standing = record { from = from; header = head; saved = l.0; journal = l.1; reached = l.0; batch = subst (λ (ps : List Part). Leads from ps l.0) none l.1; steps = 0; quiet = ap (λ (x : State). Some x) (sym same) };
      goes_on = refl;
      keeps = subst (λ (ps : List Part). AreTrue j.header [] ps) none keeps;
      snaps = subst (λ (ps : List Part). KeepsSnaps true ps) none snaps;
    }

pub marks_opened : (j : JournalData) (ram : RamState) → IsKeptRam j.header (parts j) ram → MarksTell j [] ram
marks_opened j ram m = subst (λ (ps : List Part). IsKeptRam j.header ps ram) (sym (append-nil (parts j))) m
