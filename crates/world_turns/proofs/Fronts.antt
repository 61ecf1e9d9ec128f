-- The entries of a journal that bytes spell have spellings in packets.
use Rattle.std.proofs.Common.{◌≡◌, ℕ, ◌^◌, ◌<◌, List, [], ◌∷◌, ◌++◌, length}
use Rattle.std.specs.List.{AllByRecursion, flat_map}
use Rattle.std.specs.Int.{w32, w64}
use Rattle.avm_num.proofs.Lengths.{back_bytes_are, front_bytes_are}
use Rattle.avm_num.specs.Bytes.{IsBytes}
use Rattle.avm_num.specs.Lists.{be, list_bytes, one}
use Rattle.avm_model.specs.Frame.{FrameData, frame_bytes}
use Rattle.journal_model.specs.Journal.{JournalData, parts}
use Rattle.journal_model.specs.Part.{Part, entry, keep, seal}
use Rattle.journal_model.specs.Spelling.{front_bytes, header_bytes, mark_bytes, part_bytes, parts_bytes, record_bytes}
use Rattle.journal_spelling.specs.Spelled.{FitsPart, FitsRecord, HasSpelling}
use Rattle.record_model.specs.Recording.{Recording}
use Rattle.record_model.specs.Released.{Sender}
use Rattle.journal_model.specs.Standing.{start}
use Rattle.world_laws.proofs.Spelling.{all_spelled}
use Rattle.world_laws.specs.Events.{AreFit, SignsFor}

content_bytes_are : (f : FrameData) → IsBytes (part_bytes (entry f)) → IsBytes f.content
unfolding part_bytes frame_bytes
content_bytes_are f b =
    let frame = back_bytes_are (1 ∷ []) (be w64 f.seq ++ one f.kind ++ (be w32 (length f.content) ++ f.content)) b in
    back_bytes_are (be w32 (length f.content)) f.content (back_bytes_are (be w64 f.seq ++ one f.kind) (be w32 (length f.content) ++ f.content) frame)

parts_fit : (ps : List Part) → AllByRecursion FitsPart ps → IsBytes (parts_bytes ps) → AreFit ps
parts_fit [] h b = tt
parts_fit (entry f ∷ ps) h b =
    (record { seq = h.0.seq; short = h.0.short; content = content_bytes_are f (front_bytes_are (part_bytes (entry f)) (parts_bytes ps) b) }, parts_fit ps h.1 (back_bytes_are (part_bytes (entry f)) (parts_bytes ps) b))
parts_fit (seal ∷ ps) h b = parts_fit ps h.1 (back_bytes_are (part_bytes seal) (parts_bytes ps) b)
parts_fit (keep k ∷ ps) h b = parts_fit ps h.1 (back_bytes_are (part_bytes (keep k)) (parts_bytes ps) b)

fit-append : (a b : List Part) → AreFit a → AreFit b → AreFit (a ++ b)
fit-append [] b h k = k
fit-append (entry f ∷ a) b h k = (h.0, fit-append a b h.1 k)
fit-append (seal ∷ a) b h k = fit-append a b h k
fit-append (keep x ∷ a) b h k = fit-append a b h k

items_are : (items : List ℕ) → IsBytes (record_bytes items) → IsBytes items
unfolding record_bytes
items_are items b = back_bytes_are (be w32 (length items)) items (back_bytes_are (1 ∷ []) (be w32 (length items) ++ items) b)

abbrev record_of : List Part → List ℕ
record_of ps = record_bytes (parts_bytes ps)

records_fit : (rs : List (List Part)) → AllByRecursion FitsRecord rs → IsBytes (list_bytes record_of rs) → AreFit (flat_map (λ (r : List Part). r) rs)
records_fit [] h b = tt
records_fit (ps ∷ rs) h b =
    fit-append ps (flat_map (λ (r : List Part). r) rs)
    (parts_fit ps h.0.parts (items_are (parts_bytes ps) (front_bytes_are (record_of ps) (list_bytes record_of rs) b)))
    (records_fit rs h.1 (back_bytes_are (record_of ps) (list_bytes record_of rs) b))

journal_fits : (j : JournalData) → HasSpelling j → IsBytes (front_bytes j) → AreFit (parts j)
unfolding front_bytes parts
journal_fits j h b =
    records_fit j.records h.records (back_bytes_are (header_bytes j.header) (list_bytes record_of j.records) (front_bytes_are (header_bytes j.header ++ list_bytes record_of j.records) (mark_bytes j.mark) b))

-- whoever has the node's id signs for a journal that bytes spell and that carries nothing
pub signs_for : (who : Sender) (r : Recording) → who.own ≡ r.machine.devices.own → who.own < 2 ^ 32 → r.journal.header.carried ≡ [] → HasSpelling r.journal → IsBytes (front_bytes r.journal) → SignsFor who r
signs_for who r own low carried h b = record {
  own = own;
  carried = carried;
  journal = all_spelled who (start r.journal.header) (parts r.journal) low h.journal.header.before (journal_fits r.journal h b);
}
