-- What has a spelling as a part of a record (docs/FORMATS.md, "Journal"), and how entries begin.
use Rattle.std.specs.Prelude.{◌≡◌, ℕ, ◌+◌, ◌*◌, ◌≤◌, ◌<◌, ◌^◌, List, ◌++◌, length}
use Rattle.std.specs.Int.{w32, w64}
use Rattle.avm_num.specs.Lists.{be, one}
use Rattle.avm_model.specs.Content.{ContentData, boot, snap, conin, clock, recv, acked, out, send, halt, kind_of, content_bytes}
use Rattle.avm_model.specs.Frame.{FitsFrame}
use Rattle.journal_model.specs.Part.{Part, entry, seal, keep, KeepData, longest_head, pages_of}

-- an entry of a number
abbrev pub numbered : ℕ → ContentData → Part
numbered n c = entry (record { seq = n; kind = kind_of c; content = content_bytes c })

-- a number, a head within its limit, and whole pages
pub record FitsKeep (k : KeepData) : Type 0 where
  pub seq : k.seq < 2 ^ 64
  pub head : length k.head ≤ longest_head
  pub few : length (pages_of k) < 2 ^ 32
  pub pages : length k.pages ≡ 4100 * length (pages_of k)

abbrev pub FitsPart : Part → Type 0
FitsPart (entry f) = FitsFrame f
FitsPart seal = Unit {0}
FitsPart (keep k) = FitsKeep k

-- what stands in front of an entry's content
abbrev pub entry_front : ℕ → ℕ → ℕ → List ℕ
entry_front seq kind size = one 1 ++ be w64 seq ++ one kind ++ be w32 size

-- how many bytes a content has
abbrev pub content_size : ContentData → ℕ
content_size (boot count root) = 8 + length root
content_size (snap count root) = 8 + length root
content_size (conin count bytes) = 8 + length bytes
content_size (clock count value) = 16
content_size (recv count packet) = 8 + length packet
content_size (acked count packet) = 8 + length packet
content_size (out count bytes) = 8 + length bytes
content_size (send count peer number payload) = 20 + length payload
content_size (halt count cause value) = 16
