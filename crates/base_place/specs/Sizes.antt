-- How many bytes stand before a journal's first gate.
use Rattle.std.specs.Prelude.{◌≡◌, ℕ, ◌+◌, ◌*◌, ◌^◌, ◌==◌, min, length, if◌then◌else◌}
use Rattle.avm_model.specs.Frame.{FrameData}
use Rattle.jrnl_store.specs.Items.{ItemData, carried_item, entry_item, keep_item, seal_item}
use Rattle.base_place.specs.declared.carriage.Carriage.{Carriage}

-- with a carried entry; a size stays at its limit
abbrev pub more_bytes : ℕ → FrameData → ℕ
more_bytes size f = min (size + (57 + length f.content)) (2 ^ 32)

abbrev pub sized : ItemData → ℕ → ℕ
sized (carried_item f s) size = more_bytes size f
sized (entry_item f t) size = size
sized (seal_item s) size = size
sized (keep_item k) size = size

-- one item more
abbrev pub Sizes : Carriage → ItemData → Carriage → Type 0
Sizes old x new = new.size ≡ sized x old.size

-- the first gate's place
abbrev pub start_of : ℕ → ℕ → ℕ → ℕ → ℕ
start_of first head pages size = 113 + head + 4096 * pages + (if first == 1 then 0 else 1 + size)
