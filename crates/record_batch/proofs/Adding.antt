-- A part that is added behind whole parts.
use Rattle.std.proofs.Common.{◌≡◌, ℕ, ◌+◌, ◌≤◌, Bool, true, false, List, [], ◌∷◌, ◌++◌, length, Some, is_some, refl, sym, ap, subst, ◌∙◌, arith, append-nil, length-append, eq-eqb, ne_eqb, ◌==◌}
use Rattle.std.specs.List.{AllByRecursion}
use Rattle.std.proofs.lemmas.List.Elements.{recursion_from_All}
use Rattle.avm_num.specs.Bytes.{IsBytes}
use Rattle.avm_num.specs.Lists.{list_bytes}
use Rattle.avm_num.specs.Walk.{all_at, behind_of, is_nil, items_of}
use Rattle.avm_num.proofs.Lengths.{list_push}
use Rattle.avm_num.proofs.Walks.{all_front, behind_go, behind_none, items_go, items_none}
use Rattle.journal_model.proofs.Parts.{part_shortens}
use Rattle.journal_model.specs.Part.{Part, part_at, parts_of}
use Rattle.journal_model.specs.Spelling.{part_bytes, parts_bytes}
use Rattle.avm_model.specs.Content.{ContentData, FitsContent}
use Rattle.avm_model.specs.Parts.{IsOrdinal}
use Rattle.avm_num.specs.Room.{Buffer, left, with_bytes}
use Rattle.log_entry.proofs.Lengths.{content_limit}
use Rattle.record_batch.specs.Batch.{BatchData, HasPlace, IsWhole, batch_size, with_part}
use Rattle.record_batch.specs.Spelled.{FitsPart, numbered}
use Rattle.record_batch.proofs.PartLaws.{reads_part}
use Rattle.record_batch.proofs.Spells.{part_some}
use Rattle.record_model.specs.Recording.{is_none}

-- whole parts are all read, and spell the bytes
pub record AreParts (bytes : List ℕ) : Type 0 where
  pub all : all_at part_at bytes ≡ Some (parts_of bytes)
  pub spell : bytes ≡ parts_bytes (parts_of bytes)
  pub fit : AllByRecursion FitsPart (parts_of bytes)

pub whole_parts : (bytes : List ℕ) → IsBytes bytes → is_some (all_at part_at bytes) ≡ true → AreParts bytes
whole_parts bytes fits e = go (is_nil (behind_of part_at bytes)) refl
  where
    go : (b : Bool) → is_nil (behind_of part_at bytes) ≡ b → AreParts bytes
    go true t =
        let all : all_at part_at bytes ≡ Some (parts_of bytes) = rw t refl in
        let f = all_front part_at part_bytes FitsPart reads_part part_shortens bytes (parts_of bytes) fits all in
        record { all = all; spell = f.0; fit = recursion_from_All FitsPart (parts_of bytes) f.1 }
    go false t = let none : is_some (all_at part_at bytes) ≡ false = rw t refl in absurd cc

-- the parts behind one more, which are whole again
pub record Adds (bytes : List ℕ) (p : Part) : Type 0 where
  pub whole : is_some (all_at part_at (bytes ++ part_bytes p)) ≡ true
  pub parts : parts_of (bytes ++ part_bytes p) ≡ parts_of bytes ++ p ∷ []

one_part : (p : Part) → FitsPart p → (items_of part_at (part_bytes p) ≡ p ∷ []) × (behind_of part_at (part_bytes p) ≡ [])
unfolding part_at
one_part p fits =
    let a = items_go part_at part_bytes FitsPart reads_part part_shortens (p ∷ []) [] (fits, tt) in
    let b = behind_go part_at part_bytes FitsPart reads_part part_shortens (p ∷ []) [] (fits, tt) in
    let same : list_bytes part_bytes (p ∷ []) ++ [] ≡ part_bytes p = append-nil _ ∙ append-nil _ in
    (sym (ap (items_of part_at) same) ∙ a ∙ nothing (p ∷ []), sym (ap (behind_of part_at) same) ∙ b ∙ nothing_behind)
  where
    nothing : (ps : List Part) → ps ++ items_of part_at [] ≡ ps
    nothing ps = ap (λ (qs : List Part). ps ++ qs) (items_none part_at part_shortens [] refl) ∙ append-nil ps

    nothing_behind : behind_of part_at [] ≡ []
    nothing_behind = behind_none part_at part_shortens [] refl

pub adds : (bytes : List ℕ) (p : Part) → IsBytes bytes → is_some (all_at part_at bytes) ≡ true → FitsPart p → Adds bytes p
adds bytes p fits e f =
    let w = whole_parts bytes fits e in
    let one = one_part p f in
    let bytes_are : bytes ++ part_bytes p ≡ parts_bytes (parts_of bytes) ++ part_bytes p = ap (λ (b : List ℕ). b ++ part_bytes p) w.spell in
    let parts_are : parts_of (bytes ++ part_bytes p) ≡ parts_of bytes ++ p ∷ [] =
    ap (items_of part_at) bytes_are ∙ items_go part_at part_bytes FitsPart reads_part part_shortens (parts_of bytes) (part_bytes p) w.fit ∙ ap (λ (ps : List Part). parts_of bytes ++ ps) one.0 in
    let behind_is : behind_of part_at (bytes ++ part_bytes p) ≡ [] =
    ap (behind_of part_at) bytes_are ∙ behind_go part_at part_bytes FitsPart reads_part part_shortens (parts_of bytes) (part_bytes p) w.fit ∙ one.1 in
    record { whole = rw behind_is refl; parts = parts_are }

-- how many bytes there are
pub adds_size : (bytes : List ℕ) → IsBytes bytes → is_some (all_at part_at bytes) ≡ true → length (parts_bytes (parts_of bytes)) ≡ length bytes
adds_size bytes fits e = ap length (sym (whole_parts bytes fits e).spell)

-- ---- in a batch's buffer

-- what a buffer holds whose bytes a part was added to
pub record Pushed (room new : Buffer) (p : Part) : Type 0 where
  pub whole : IsWhole new
  pub parts : parts_of new.bytes ≡ parts_of room.bytes ++ p ∷ []

pub pushed : (room new : Buffer) (read : List ℕ) (p : Part) → IsBytes read → read ≡ room.bytes → IsWhole room → FitsPart p → new ≡ with_bytes room (part_bytes p) → Pushed room new p
pushed room new read p fits same w f e =
    let a = adds room.bytes p (subst IsBytes same fits) w.0 f in
    subst (λ (b : Buffer). Pushed room b p) (sym e) (record { whole = (a.whole, w.1); parts = a.parts })

-- the parts' bytes are those of the buffer
pub room_size : (room : Buffer) (read : List ℕ) (next : ℕ) → IsBytes read → read ≡ room.bytes → IsWhole room → batch_size (record { parts = parts_of room.bytes; next = next }) ≡ length room.bytes
unfolding batch_size
room_size room read next fits same w = adds_size room.bytes (subst IsBytes same fits) w.0

pub room_left : (room : Buffer) (read : List ℕ) (next n : ℕ) → IsBytes read → read ≡ room.bytes → IsWhole room → HasPlace n (record { parts = parts_of room.bytes; next = next }) → n ≤ left room
unfolding left
room_left room read next n fits same w place = let s = room_size room read next fits same w in omega (arith, s, place, w.1)

pub grows : (b : BatchData) (parts : List Part) (p : Part) (next n : ℕ) → parts ≡ b.parts ++ p ∷ [] → length (part_bytes p) ≤ n → batch_size (record { parts = parts; next = next }) ≤ batch_size b + n
unfolding batch_size
grows b parts p next n e le =
    let whole : length (parts_bytes parts) ≡ length (parts_bytes b.parts) + length (part_bytes p) = ap (λ (ps : List Part). length (parts_bytes ps)) e ∙ ap length (list_push part_bytes b.parts p) ∙ length-append (parts_bytes b.parts) (part_bytes p) in
    omega (arith, whole, le)

-- an entry that fits
pub entry_fits : (seq : ℕ) (c : ContentData) → IsOrdinal seq → FitsContent c → FitsPart (numbered seq c)
entry_fits seq c number fits = record { seq = number; short = omega (arith, content_limit c fits); form = (c, fits, refl, refl) }

-- the batch with one part more
pub value_is : (room new : Buffer) (next n k : ℕ) (f : ℕ → Part) (b : BatchData) → b ≡ record { parts = parts_of room.bytes; next = next } → Pushed room new (f next) → k ≡ next + n → record { parts = parts_of new.bytes; next = k } ≡ with_part b (f b.next) n
value_is room new next n k f b e p more = rw (e, p.parts, more) refl

pub size_is : (room new : Buffer) (next n k : ℕ) (p : Part) (b : BatchData) → b ≡ record { parts = parts_of room.bytes; next = next } → Pushed room new p → length (part_bytes p) ≤ n → batch_size (record { parts = parts_of new.bytes; next = k }) ≤ batch_size b + n
size_is room new next n k p b e q le = grows b (parts_of new.bytes) p k n (q.parts ∙ ap (λ (x : BatchData). x.parts ++ p ∷ []) (sym e)) le

-- an empty buffer has no parts
pub no_parts : parts_of [] ≡ []
unfolding part_at
no_parts = items_none part_at part_shortens [] refl

pub none_whole : is_some (all_at part_at []) ≡ true
unfolding part_at
none_whole = rw (behind_none part_at part_shortens [] refl) refl

pub empty_test : (room : Buffer) (read : List ℕ) → IsBytes read → read ≡ room.bytes → IsWhole room → (length read == 0) ≡ is_none (parts_of room.bytes)
empty_test room read fits same w =
    let s = (whole_parts room.bytes (subst IsBytes same fits) w.0).spell in
    go (parts_of room.bytes) s
  where
    go : (ps : List Part) → room.bytes ≡ parts_bytes ps → (length read == 0) ≡ is_none ps
    go [] e = eq-eqb (length read) 0 (ap length (same ∙ e))
    go (p ∷ ps) e =
        let len : length read ≡ length (part_bytes p) + length (parts_bytes ps) = ap length (same ∙ e) ∙ length-append (part_bytes p) (parts_bytes ps) in
        ne_eqb (length read) 0 (λ z. absurd (let h = part_some p in omega (arith, len, h, z)))
