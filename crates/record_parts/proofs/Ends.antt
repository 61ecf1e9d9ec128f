-- How acts end, by what saving their batch leaves.
use Rattle.std.proofs.Common.{◌≡◌, true, false, List, [], Option, Some, None, Ok, Err, refl, sym, ap, subst, ◌∙◌}
use Rattle.avm_model.specs.Machine.{State}
use Rattle.avm_outside.specs.Outlet.{Piece, all_added}
use Rattle.avm_outside.specs.Outside.{Rises}
use Rattle.journal_model.specs.Journal.{JournalData, with_record}
use Rattle.journal_model.specs.Part.{Part}
use Rattle.journal_model.specs.Standing.{standing}
use Rattle.journal_model.specs.Saving.{CommitRefusal, NoLeaf, NoRoom, commit_refusal}
use Rattle.record_model.specs.Recording.{Done, Effect, Recording, closed_by, finished}
use Rattle.record_model.specs.Released.{Sender, pieces_from}
use Rattle.record_parts.specs.Ends.{CutsAmong, EndsAs, Faults, SavedAs}
use Rattle.jrnl_store.specs.declared.fault.Stop.{Stop}
use Rattle.jrnl_store.specs.declared.fault.Stop.TheVariants.{LeavesSpent, Full, DiskFault, OutletFault, FeedFault}

abbrev pub rec : JournalData → List Part → State → Recording
rec j b s = record { journal = j; batch = b; machine = s }

pub made_same : (j1 j2 : JournalData) (b1 b2 : List Part) (u t : State) → j1 ≡ j2 → b1 ≡ b2 → u ≡ t → rec j1 b1 u ≡ rec j2 b2 t
made_same j1 j2 b1 b2 u t e f g = rw (e, f, g) refl

-- an effect whose batch closes, with what it wrote
pub record Closing (e : Effect) (j : JournalData) (b : List Part) (u : State) : Type 0 where
  pub closes : e.closes ≡ true
  pub recording : e.recording ≡ rec j b u

closes_to : (who : Sender) (e : Effect) (j : JournalData) (b : List Part) (u : State) (w : Option CommitRefusal) → Closing e j b u → commit_refusal j b ≡ w → finished who e ≡ closed_by who (rec j b u) w
closes_to who e j b u w c h = rw c.closes (ap (λ (r : Recording). closed_by who r (commit_refusal r.journal r.batch)) c.recording ∙ ap (closed_by who (rec j b u)) h)

-- a batch that isn't saved stays open
pub ends_refused : {H : Type 0} (T U : Type 0) (adding : Piece → H → H) (tearing : Piece → H → H → Type 0) (who : Sender) (e : Effect) (j next : JournalData) (b rest : List Part) (u : State) (f : Faults) (held : H) (stop : Stop)
    → Closing e j b u → SavedAs {T = T} j b next rest f (Err stop) → EndsAs {T = U} adding tearing who e (rec next rest u) f held held (Err stop)
ends_refused T U adding tearing who e j next b rest u f held LeavesSpent c h =
    (ap (λ (d : Done). d.stop) (closes_to who e j b u (Some NoLeaf) c h.0), made_same next j rest b u u h.1 h.2 refl ∙ sym c.recording, refl)
ends_refused T U adding tearing who e j next b rest u f held Full c h =
    (ap (λ (d : Done). d.stop) (closes_to who e j b u (Some NoRoom) c h.0), made_same next j rest b u u h.1 h.2 refl ∙ sym c.recording, refl)
ends_refused T U adding tearing who e j next b rest u f held DiskFault c h = (made_same next j rest b u u h.0 h.1 refl ∙ sym c.recording, refl, h.2)
ends_refused T U adding tearing who e j next b rest u f held OutletFault c h = absurd h
ends_refused T U adding tearing who e j next b rest u f held FeedFault c h = absurd h

-- a batch that is saved, and all of it is released
pub ends_saved : {H T U : Type 0} (adding : Piece → H → H) (tearing : Piece → H → H → Type 0) (who : Sender) (e : Effect) (j next : JournalData) (b rest : List Part) (u : State) (f : Faults) (old new : H) (ps : List Piece) (x : T) (y : U)
    → Closing e j b u → SavedAs j b next rest f (Ok x) → pieces_from who (standing j) b ≡ ps → new ≡ all_added adding ps old → EndsAs adding tearing who e (rec next rest u) f old new (Ok y)
ends_saved adding tearing who e j next b rest u f old new ps x y c h p told =
    let k = closes_to who e j b u None c h.0 in
    (ap (λ (d : Done). d.stop) k, made_same next (with_record j b) rest [] u u h.1 h.2 refl ∙ sym (ap (λ (d : Done). d.recording) k), told ∙ ap (λ (qs : List Piece). all_added adding qs old) (sym (ap (λ (d : Done). d.pieces) k ∙ p)))

-- a batch that is saved, and some of it is released
pub ends_cut : {H T : Type 0} (U : Type 0) (adding : Piece → H → H) (tearing : Piece → H → H → Type 0) (who : Sender) (e : Effect) (j next : JournalData) (b rest : List Part) (u : State) (f : Faults) (old new : H) (ps : List Piece) (x : T)
    → Closing e j b u → SavedAs j b next rest f (Ok x) → pieces_from who (standing j) b ≡ ps → CutsAmong adding tearing ps old new → Rises f.outlet_before f.outlet_after → EndsAs {T = U} adding tearing who e (rec next rest u) f old new (Err OutletFault)
ends_cut U adding tearing who e j next b rest u f old new ps x c h p cut rises =
    let k = closes_to who e j b u None c h.0 in
    (ap (λ (d : Done). d.stop) k, made_same next (with_record j b) rest [] u u h.1 h.2 refl ∙ sym (ap (λ (d : Done). d.recording) k), subst (λ (qs : List Piece). CutsAmong adding tearing qs old new) (sym (ap (λ (d : Done). d.pieces) k ∙ p)) cut, rises)

-- ---- a batch that stays open

-- an effect whose batch stays open, with what it releases again
pub record Opening (e : Effect) (r : Recording) (ps : List Piece) : Type 0 where
  pub closes : e.closes ≡ false
  pub recording : r ≡ e.recording
  pub again : e.again ≡ ps

pub ends_open : {H U : Type 0} (adding : Piece → H → H) (tearing : Piece → H → H → Type 0) (who : Sender) (e : Effect) (r : Recording) (f : Faults) (old new : H) (ps : List Piece) (y : U) → Opening e r ps → new ≡ all_added adding ps old → EndsAs adding tearing who e r f old new (Ok y)
ends_open adding tearing who e r f old new ps y o told = rw o.closes (refl, o.recording, told ∙ ap (λ (qs : List Piece). all_added adding qs old) (sym o.again))

pub ends_open_cut : {H : Type 0} (U : Type 0) (adding : Piece → H → H) (tearing : Piece → H → H → Type 0) (who : Sender) (e : Effect) (r : Recording) (f : Faults) (old new : H) (ps : List Piece) → Opening e r ps → CutsAmong adding tearing ps old new → Rises f.outlet_before f.outlet_after → EndsAs {T = U} adding tearing who e r f old new (Err OutletFault)
ends_open_cut U adding tearing who e r f old new ps o cut rises = rw o.closes (refl, o.recording, subst (λ (qs : List Piece). CutsAmong adding tearing qs old new) (sym o.again) cut, rises)
