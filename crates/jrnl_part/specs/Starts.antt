-- Where a journal starts.
use Rattle.std.specs.Prelude.{◌≡◌, ◌^◌, ◌+◌, ◌*◌, ◌≤◌, ℕ, true, List, [], length, Some, None, is_some}
use Rattle.journal_model.specs.Part.{longest_head}
use Rattle.journal_model.specs.Header.{HeaderData, CarriedData, header_at, pages_in, is_store_key, most_leaves}
use Rattle.journal_model.specs.Standing.{bounds}
use Rattle.jrnl_part.specs.Places.{head_place}
use Rattle.jrnl_part.specs.Views.{bounds_view, main_view}
use Rattle.jrnl_part.specs.declared.header.Main.{Main}
use Rattle.jrnl_part.specs.declared.header.Start.{Start}

-- a header's fields, but for the place of the first gate
pub record IsStart (s : Start) (h : HeaderData) : Type 0 where
  pub key : s.key ≡ h.key
  pub before : s.before.0 ≡ h.before
  pub bounds : bounds_view s.bounds ≡ bounds (record { header = h; records = []; mark = None })
  pub leaves : s.leaves ≡ h.leaves
  pub head_len : s.head_len ≡ length h.head

-- a header stands at the front of the bytes, whose fields but for carried entries are these
abbrev pub IsHeader : Main → List ℕ → List ℕ → Type 0
IsHeader m old new = (cs : List CarriedData) × (header_at old ≡ Some (record (main_view m) { carried = cs }, new))

-- what holds of each header's fields
pub record IsMain (m : Main) : Type 0 where
  pub head : length m.head.now ≤ longest_head
  pub pages : is_some (pages_in m.head.now) ≡ true
  pub key : is_store_key m.key ≡ true
  pub leaves : m.leaves ≤ most_leaves m.key

-- and of where a journal starts
pub record IsLowStart (s : Start) : Type 0 where
  pub some : 1 ≤ s.bounds.first
  pub first : s.bounds.first ≤ 2 ^ 61
  pub leaves : s.leaves ≤ s.bounds.most
  pub few : s.bounds.most ≤ 2 ^ 15
  pub most : s.bounds.most ≡ most_leaves s.key
  pub head : s.head_len ≤ longest_head
  pub pages : s.bounds.pages ≤ 4096
  pub place : head_place + s.head_len + 4096 * s.bounds.pages ≤ s.front

-- the head and the pages end at a place or before it
abbrev pub EndBefore : ℕ → List ℕ → Type 0
EndBefore place head = (count : ℕ) → pages_in head ≡ Some count → head_place + length head + 4096 * count ≤ place
