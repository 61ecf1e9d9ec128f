-- What is released for a record more stands behind what was released.
use Rattle.std.proofs.Common.{◌≡◌, List, [], ◌∷◌, ◌++◌, refl, sym, ap, ◌∙◌, append_assoc}
use Rattle.std.specs.Prelude.{fold}
use Rattle.avm_outside.specs.Outlet.{Piece}
use Rattle.honest_model.proofs.Logs.{record-parts}
use Rattle.journal_model.specs.Journal.{JournalData, parts, with_record}
use Rattle.journal_model.specs.Part.{Part}
use Rattle.journal_model.specs.Standing.{start, StandingData, behind, standing}
use Rattle.record_model.specs.Released.{Sender, part_pieces, pieces_from}

pub pieces-append : (who : Sender) (p : StandingData) (a b : List Part) → pieces_from who p (a ++ b) ≡ pieces_from who p a ++ pieces_from who (fold behind p a) b
pieces-append who p [] b = refl
pieces-append who p (x ∷ a) b = ap (λ (ps : List Piece). part_pieces who p x ++ ps) (pieces-append who (behind p x) a b) ∙ sym (append_assoc (part_pieces who p x) (pieces_from who (behind p x) a) (pieces_from who (fold behind (behind p x) a) b))

-- what is released for the record is what its parts release where they stand in the journal
pub pieces_more : (who : Sender) (j : JournalData) (r : List Part) → pieces_from who (start j.header) (parts (with_record j r)) ≡ pieces_from who (start j.header) (parts j) ++ pieces_from who (standing j) r
unfolding standing
pieces_more who j r = ap (λ (ps : List Part). pieces_from who (start j.header) ps) (record-parts j r) ∙ pieces-append who (start j.header) (parts j) r
