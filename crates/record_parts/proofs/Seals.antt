-- How sealing ends.
use Rattle.std.proofs.Common.{◌≡◌, true, false, List, [], ◌∷◌, ◌++◌, fold, Option, Some, None, Ok, Err, refl, sym, ap, subst, ◌∙◌}
use Rattle.avm_model.specs.Machine.{State}
use Rattle.avm_outside.specs.Outlet.{Piece, all_added, auth}
use Rattle.avm_outside.specs.Outside.{Rises}
use Rattle.journal_model.proofs.Signing.{signed_append}
use Rattle.journal_model.specs.Journal.{JournalData, with_record}
use Rattle.journal_model.specs.Part.{Part, seal}
use Rattle.journal_model.specs.Standing.{SignedData, StandingData, behind, seal_signed, signed_from, standing}
use Rattle.record_model.proofs.Pieces.{pieces-append}
use Rattle.journal_model.specs.Saving.{CommitRefusal, NoLeaf, NoRoom, commit_refusal}
use Rattle.record_model.specs.Recording.{Done, closed_by, needs_no_seal, seal_again, sealed}
use Rattle.record_model.specs.Released.{Sender, pieces_from}
use Rattle.record_parts.proofs.Ends.{made_same, rec}
use Rattle.record_parts.proofs.Releases.{quiet_pieces, quiet_signed}
use Rattle.record_parts.specs.Ends.{CutsAmong, Faults, SavedAs, SealsAs}
use Rattle.record_parts.specs.Outs.{AreQuiet, auth_by}
use Rattle.jrnl_store.specs.declared.fault.Stop.{Stop}
use Rattle.jrnl_store.specs.declared.fault.Stop.TheVariants.{LeavesSpent, Full, DiskFault, OutletFault, FeedFault}

-- the ticket of a seal behind a quiet batch, and what it releases
pub seal_signs : (p : StandingData) (b : List Part) → AreQuiet b → signed_from p (b ++ seal ∷ []) ≡ seal_signed (fold behind p b) ∷ []
seal_signs p b quiet = signed_append p b (seal ∷ []) ∙ ap (λ (ts : List SignedData). ts ++ signed_from (fold behind p b) (seal ∷ [])) (quiet_signed p b quiet)

pub seal_pieces : (who : Sender) (p : StandingData) (b : List Part) → AreQuiet b → pieces_from who p (b ++ seal ∷ []) ≡ auth (auth_by who (seal_signed (fold behind p b))) ∷ []
seal_pieces who p b quiet = pieces-append who p b (seal ∷ []) ∙ ap (λ (ps : List Piece). ps ++ pieces_from who (fold behind p b) (seal ∷ [])) (quiet_pieces who p b quiet)

-- where a seal is needed, sealing closes the batch with it
seal_closes : (who : Sender) (j : JournalData) (b : List Part) (s : State) (w : Option CommitRefusal) → needs_no_seal (rec j b s) ≡ false → commit_refusal j (b ++ seal ∷ []) ≡ w → sealed who (rec j b s) ≡ closed_by who (rec j (b ++ seal ∷ []) s) w
seal_closes who j b s w needed e = rw needed (ap (closed_by who (rec j (b ++ seal ∷ []) s)) e)

pub seal_refused : {H : Type 0} (T U : Type 0) (adding : Piece → H → H) (tearing : Piece → H → H → Type 0) (who : Sender) (j next : JournalData) (b rest : List Part) (s : State) (f : Faults) (held : H) (stop : Stop)
    → needs_no_seal (rec j b s) ≡ false → SavedAs {T = T} j (b ++ seal ∷ []) next rest f (Err stop) → SealsAs {T = U} adding tearing who (rec j b s) (rec next rest s) f held held (Err stop)
seal_refused T U adding tearing who j next b rest s f held LeavesSpent needed h = (ap (λ (d : Done). d.stop) (seal_closes who j b s (Some NoLeaf) needed h.0), made_same next j rest _ s s h.1 h.2 refl, refl)
seal_refused T U adding tearing who j next b rest s f held Full needed h = (ap (λ (d : Done). d.stop) (seal_closes who j b s (Some NoRoom) needed h.0), made_same next j rest _ s s h.1 h.2 refl, refl)
seal_refused T U adding tearing who j next b rest s f held DiskFault needed h = (made_same next j rest _ s s h.0 h.1 refl, refl, h.2)
seal_refused T U adding tearing who j next b rest s f held OutletFault needed h = absurd h
seal_refused T U adding tearing who j next b rest s f held FeedFault needed h = absurd h

pub seal_saved : {H T U : Type 0} (adding : Piece → H → H) (tearing : Piece → H → H → Type 0) (who : Sender) (j next : JournalData) (b rest : List Part) (s : State) (f : Faults) (old new : H) (ps : List Piece) (x : T) (y : U)
    → needs_no_seal (rec j b s) ≡ false → SavedAs j (b ++ seal ∷ []) next rest f (Ok x) → pieces_from who (standing j) (b ++ seal ∷ []) ≡ ps → new ≡ all_added adding ps old → SealsAs adding tearing who (rec j b s) (rec next rest s) f old new (Ok y)
seal_saved adding tearing who j next b rest s f old new ps x y needed h p told =
    let k = seal_closes who j b s None needed h.0 in
    (ap (λ (d : Done). d.stop) k, made_same next (with_record j (b ++ seal ∷ [])) rest [] s s h.1 h.2 refl ∙ sym (ap (λ (d : Done). d.recording) k), told ∙ ap (λ (qs : List Piece). all_added adding qs old) (sym (ap (λ (d : Done). d.pieces) k ∙ p)))

pub seal_cut : {H T : Type 0} (U : Type 0) (adding : Piece → H → H) (tearing : Piece → H → H → Type 0) (who : Sender) (j next : JournalData) (b rest : List Part) (s : State) (f : Faults) (old new : H) (ps : List Piece) (x : T)
    → needs_no_seal (rec j b s) ≡ false → SavedAs j (b ++ seal ∷ []) next rest f (Ok x) → pieces_from who (standing j) (b ++ seal ∷ []) ≡ ps → CutsAmong adding tearing ps old new → Rises f.outlet_before f.outlet_after → SealsAs {T = U} adding tearing who (rec j b s) (rec next rest s) f old new (Err OutletFault)
seal_cut U adding tearing who j next b rest s f old new ps x needed h p cut rises =
    let k = seal_closes who j b s None needed h.0 in
    (ap (λ (d : Done). d.stop) k, made_same next (with_record j (b ++ seal ∷ [])) rest [] s s h.1 h.2 refl ∙ sym (ap (λ (d : Done). d.recording) k), subst (λ (qs : List Piece). CutsAmong adding tearing qs old new) (sym (ap (λ (d : Done). d.pieces) k ∙ p)) cut, rises)

-- where none is needed, the last seal's authenticator is released again
pub seals_again : (who : Sender) (j : JournalData) (b : List Part) (s : State) → needs_no_seal (rec j b s) ≡ true → (sealed who (rec j b s)).pieces ≡ auth (seal_again who j) ∷ []
seals_again who j b s none = rw none refl
