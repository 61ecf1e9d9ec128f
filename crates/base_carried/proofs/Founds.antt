-- What the first reading finds.
use Rattle.std.proofs.Common.{◌≡◌, ℕ, List, [], ◌∷◌, ◌++◌, Option, None, Some, refl, sym, ap, subst, ◌∙◌}
use Rattle.std.specs.Prelude.{map}
use Rattle.std.specs.List.{list_any}
use Rattle.avm_model.specs.Frame.{FrameData}
use Rattle.avm_model.specs.declared.Peer.{Peer}
use Rattle.journal_model.specs.Header.{CarriedData}
use Rattle.journal_model.specs.Journal.{JournalData}
use Rattle.journal_model.specs.Part.{KeepData}
use Rattle.journal_model.specs.Standing.{SignedData}
use Rattle.jrnl_store.specs.Items.{ItemData, carried_item, entry_item, items_in, keep_item, seal_item}
use Rattle.open_pass.specs.Tickets.{AreSignedBy, IsOne, IsSignedBy}
use Rattle.open_pass.proofs.SignedItems.{signed_are}
use Rattle.rebut_pass.specs.Passing.{Takes}
use Rattle.record_model.specs.Released.{signed_entries}
use Rattle.base_carried.specs.Rows.{has_number, noted_entry, noted_if, row_for}
use Rattle.base_carried.specs.Passes.{Finds, IsFound, row_over}
use Rattle.base_carried.specs.declared.finding.Finding.{Finding}
use Rattle.base_carried.specs.declared.row.Row.{Row}
use Rattle.base_carried.proofs.Rowing.{map_as, map_both, map_same, over_both, rows_have}

-- ---- one item

one_rows : (n : ℕ) (f : FrameData) (s : SignedData) (es : List CarriedData) (rs : List Row) → IsOne f s es → map (noted_entry n f) rs ≡ map (row_over n es) rs
one_rows n f s es rs o =
    map_as (noted_entry n f) (noted_entry n o.entry.frame) rs (λ r. ap (λ (g : FrameData). noted_entry n g r) (sym o.frame))
    ∙ ap (λ (l : List CarriedData). map (row_over n l) rs) (sym o.only)

no_rows : (n : ℕ) (es : List CarriedData) (rs : List Row) → es ≡ [] → rs ≡ map (row_over n es) rs
no_rows n es rs e = sym (ap (λ (l : List CarriedData). map (row_over n l) rs) e ∙ map_same (row_over n []) rs (λ r. refl))

pub finds_carried : (old new : Finding) (x : ItemData) (f : FrameData) (s : SignedData) → x ≡ carried_item f s → new.number ≡ old.number → new.rows.items ≡ map (noted_entry old.number f) old.rows.items → Finds old x new
finds_carried old new x f s e number rows = record { number = number; rows = λ es o. rows ∙ one_rows old.number f s es old.rows.items (subst (λ (y : ItemData). IsSignedBy y es) e o) }

pub finds_entry : (old new : Finding) (x : ItemData) (f : FrameData) (t : Option SignedData) → x ≡ entry_item f t → new.number ≡ old.number → new.rows.items ≡ noted_if t old.number f old.rows.items → Finds old x new
finds_entry old new x f (Some s) e number rows = record { number = number; rows = λ es o. rows ∙ one_rows old.number f s es old.rows.items (subst (λ (y : ItemData). IsSignedBy y es) e o) }
finds_entry old new x f None e number rows = record { number = number; rows = λ es o. rows ∙ no_rows old.number es old.rows.items (subst (λ (y : ItemData). IsSignedBy y es) e o) }

pub finds_seal : (old : Finding) (x : ItemData) (s : SignedData) → x ≡ seal_item s → Finds old x old
finds_seal old x s e = record { number = refl; rows = λ es o. no_rows old.number es old.rows.items (subst (λ (y : ItemData). IsSignedBy y es) e o) }

pub finds_keep : (old : Finding) (x : ItemData) (k : KeepData) → x ≡ keep_item k → Finds old x old
finds_keep old x k e = record { number = refl; rows = λ es o. no_rows old.number es old.rows.items (subst (λ (y : ItemData). IsSignedBy y es) e o) }

-- ---- all items

record Found (a b : Finding) (es : List CarriedData) : Type 0 where
  number : b.number ≡ a.number
  rows : b.rows.items ≡ map (row_over a.number es) a.rows.items

found_all : (xs : List ItemData) (a b : Finding) (es : List CarriedData) → Takes Finds a xs b → AreSignedBy xs es → Found a b es
found_all [] a b es t q = record {
  number = ap (λ (f : Finding). f.number) (sym t);
  rows = ap (λ (f : Finding). f.rows.items) (sym t) ∙ no_rows a.number es a.rows.items q;
}
found_all (x ∷ xs) a b es t q =
    let u : Finding = t.0 in
    let first : Finds a x u = t.1 in
    let h = found_all xs u b q.1 t.2 q.4 in
    record {
      number = h.number ∙ first.number;
      rows =
          h.rows
          ∙ ap (λ (n : ℕ). map (row_over n q.1) u.rows.items) first.number
          ∙ ap (map (row_over a.number q.1)) (first.rows q.0 q.3)
          ∙ map_both (row_over a.number q.0) (row_over a.number q.1) a.rows.items
          ∙ map_as (λ r. row_over a.number q.1 (row_over a.number q.0 r)) (row_over a.number (q.0 ++ q.1)) a.rows.items (over_both a.number q.0 q.1)
          ∙ ap (λ (l : List CarriedData). map (row_over a.number l) a.rows.items) (sym q.2);
    }

pub is_found : (j : JournalData) (n : ℕ) (ps : List Peer) (a b : Finding) → a.number ≡ n → a.rows.items ≡ map row_for ps → Takes Finds a (items_in j) b → IsFound j n ps b.rows.items
is_found j n ps a b number rows t seq =
    let h = found_all (items_in j) a b (signed_entries j) t (signed_are j) in
    let is : b.rows.items ≡ map (row_over n (signed_entries j)) (map row_for ps) = h.rows ∙ ap (λ (m : ℕ). map (row_over m (signed_entries j)) a.rows.items) number ∙ ap (map (row_over n (signed_entries j))) rows in
    ap (list_any (has_number seq)) is ∙ rows_have n seq (signed_entries j) ps
