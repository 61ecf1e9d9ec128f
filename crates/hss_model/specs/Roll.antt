-- A roll: it binds each bottom key to a leaf of the top key.
use Rattle.std.specs.Prelude.{◌≡◌, ◌⊎◌, ℕ, ◌^◌, ◌<◌, ◌+◌, ◌*◌, ◌==◌, ◌&&◌, List, ◌∷◌, [], ◌++◌, length, take, drop, get_or, Option, Some}
use Rattle.std.specs.Str.{bytes_eq}
use Rattle.avm_num.specs.Bytes.{◌>>=◌, byte_at, piece_at, kept}
use Rattle.avm_num.specs.Lists.{list_bytes}
use Rattle.avm_num.specs.Walk.{walk}
use Rattle.avm_model.specs.LmsTypes.{height_of}
use Rattle.avm_model.specs.LmsValid.{number}
use Rattle.hss_model.specs.Hss.{is_hss_key}

-- an HSS key, and the bottom keys in the order of their leaves
pub record RollData : Type 0 where
  pub key : List ℕ
  pub bottoms : List (List ℕ)

-- "AVMR" and the version
abbrev pub roll_mark : List ℕ
roll_mark = 65 ∷ 86 ∷ 77 ∷ 82 ∷ 1 ∷ []

-- a record: the byte 1, an open gate, and a bottom key
abbrev pub bound_at : List ℕ → Option (List ℕ × List ℕ)
bound_at bytes = do
  gate ← byte_at bytes
  key ← piece_at 56 gate.1
  kept (gate.0 == 1) key

-- how many bottom keys an HSS key has leaves for: its top key has its type at the place 4
unfoldable pub most_of : List ℕ → ℕ
most_of key = 2 ^ height_of (number key 4)

-- the roll of a disk's bytes: its header's key, and the bottom keys behind open gates, as many as there are leaves at most
unfoldable pub roll_of : List ℕ → Option RollData
roll_of image =
    let key = take 60 (drop 5 image) in
    kept (bytes_eq (take 5 image) roll_mark && is_hss_key key) (record { key = key; bottoms = (walk bound_at (most_of key) (drop 65 image)).0 })

-- the spelling
abbrev pub bound_bytes : List ℕ → List ℕ
bound_bytes key = 1 ∷ key

unfoldable pub roll_bytes : RollData → List ℕ
roll_bytes r = roll_mark ++ (r.key ++ list_bytes bound_bytes r.bottoms)

-- the place behind so many bottom keys
abbrev pub roll_end : ℕ → ℕ
roll_end count = 65 + 57 * count

-- the roll with one bottom key more
abbrev pub with_bottom : RollData → List ℕ → RollData
with_bottom r bottom = record r { bottoms = r.bottoms ++ bottom ∷ [] }

-- the bottom key stands at this leaf, and at none before it
pub record IsBound (bottoms : List (List ℕ)) (bottom : List ℕ) (leaf : ℕ) : Type 0 where
  pub within : leaf < length bottoms
  pub there : get_or bottoms leaf [] ≡ bottom
  pub first : (i : ℕ) → i < leaf → get_or bottoms i [] ≡ bottom → ⊥

-- the bottom key stands at no leaf
abbrev pub IsUnbound : List (List ℕ) → List ℕ → Type 0
IsUnbound bottoms bottom = (i : ℕ) → i < length bottoms → get_or bottoms i [] ≡ bottom → ⊥

-- The disk of an open roll: a read and each image that a crash may leave hold this roll, and the byte behind its last bottom key, or
-- its absence, is the same in all of them.
pub record IsRollDisk (images : List ℕ → Type 0) (was : List ℕ) (r : RollData) : Type 0 where
  pub read : roll_of was ≡ Some r
  pub left : (c : List ℕ) → images c → roll_of c ≡ Some r
  pub same : (c : List ℕ) → images c → take 1 (drop (roll_end (length r.bottoms)) c) ≡ take 1 (drop (roll_end (length r.bottoms)) was)

-- an image of this roll, or of it with one bottom key more
abbrev pub IsEither : RollData → List ℕ → List ℕ → Type 0
IsEither r bottom c = (roll_of c ≡ Some r) ⊎ (roll_of c ≡ Some (with_bottom r bottom))
