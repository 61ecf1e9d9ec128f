-- The signed entries of a journal are those among its items, with their tickets.
use Rattle.std.proofs.Common.{Bool, true, false, cond, List, [], ◌∷◌, ◌++◌, Some, None, refl}
use Rattle.journal_model.specs.Header.{CarriedData}
use Rattle.journal_model.specs.Journal.{JournalData, parts}
use Rattle.journal_model.specs.Part.{Part, entry, seal, keep, is_signed_kind}
use Rattle.journal_model.specs.Standing.{StandingData, behind, start, entry_signed}
use Rattle.jrnl_store.specs.Items.{ItemData, carried_items, item_of, items_from, items_in, part_items}
use Rattle.record_model.specs.Released.{signed_entries, signed_frame, signed_frames}
use Rattle.open_pass.specs.Tickets.{IsTicketed, IsSignedBy, AreSignedBy}

signed_part : (s : StandingData) (p : Part) → IsSignedBy (item_of s p) (signed_frame s p)
signed_part s (entry f) = go (is_signed_kind f.kind)
  where
    here : CarriedData
    here = record { leaf = s.used; before = s.hash; frame = f }

    go : (b : Bool) → IsTicketed f (cond b (Some (entry_signed s f)) None) (cond b (here ∷ []) [])
    go true = record { entry = here; only = refl; frame = refl; ticket = refl }
    go false = refl
signed_part s seal = refl
signed_part s (keep k) = refl

signed_parts : (s : StandingData) (ps : List Part) → AreSignedBy (items_from s ps) (signed_frames s ps)
signed_parts s [] = refl
signed_parts s (p ∷ ps) = (signed_frame s p, signed_frames (behind s p) ps, refl, signed_part s p, signed_parts (behind s p) ps)

signed_carried : (cs es : List CarriedData) (xs : List ItemData) → AreSignedBy xs es → AreSignedBy (carried_items cs ++ xs) (cs ++ es)
signed_carried [] es xs h = h
signed_carried (c ∷ cs) es xs h = (c ∷ [], cs ++ es, refl, record { entry = c; only = refl; frame = refl; ticket = refl }, signed_carried cs es xs h)

pub signed_are : (j : JournalData) → AreSignedBy (items_in j) (signed_entries j)
unfolding items_in part_items
signed_are j = signed_carried j.header.carried (signed_frames (start j.header) (parts j)) (items_from (start j.header) (parts j)) (signed_parts (start j.header) (parts j))
