-- A configuration: a JSON object (RFC 8259; docs/FORMATS.md, "Configuration"), as the value that a JSON reader gives.
use Rattle.std.specs.Prelude.{◌≡◌, ℕ, suc, ◌==◌, ◌&&◌, ◌||◌, nat_lt, Bool, false, List, [], ◌∷◌, Option, Some, None, option_and_then, if◌then◌else◌, codes}
use Rattle.std.specs.Str.{IsUtf8}
use Rattle.serde_json.specs.Data.{Data, Items, no_items, item, Members, no_members, member}
use Rattle.serde_json.specs.Find.{get, as_number, as_u64, as_str, as_array, as_object}
use Rattle.serde_json.specs.Read.{read}
use Rattle.avm_num.specs.Bytes.{◌>>=◌, kept}
use Rattle.avm_model.specs.Words.{hex_sized}
use Rattle.avm_model.specs.Bounds.{is_front}
use Rattle.avm_model.specs.Init.{ConfigData}
use Rattle.avm_model.specs.declared.Peer.{Peer}

-- how many members an object has; a key stands once, with the last of its values
abbrev pub count : Members → ℕ
count no_members = 0
count (member key d ms) = suc (count ms)

-- an object of n members
abbrev pub has_members : ℕ → Option Members → Bool
has_members n None = false
has_members n (Some ms) = count ms == n

-- the whole number behind a key
abbrev pub number_of : List ℕ → Data → Option ℕ
number_of key d = option_and_then as_u64 (option_and_then as_number (get key d))

-- n bytes behind a key, in hexadecimal digits
abbrev pub bytes_of : ℕ → List ℕ → Data → Option (List ℕ)
bytes_of n key d = option_and_then (hex_sized n) (option_and_then as_str (get key d))

-- a peer with its counters at 0
abbrev pub peer_of_id : ℕ → List ℕ → Peer
peer_of_id id key = record { id = id; key = key; sent = 0; acked = 0; received = 0 }

-- a peer: exactly an id and a key
unfoldable pub peer_of : Data → Option Peer
peer_of d = do
  id ← number_of (codes "id") d
  key ← bytes_of 56 (codes "key") d
  kept (has_members 2 (as_object d) && nat_lt id 16) (peer_of_id id key)

-- a peer at its place among peers in ascending order of ids; none where its id is there
abbrev pub placed : Peer → List Peer → Option (List Peer)
placed peer [] = Some (peer ∷ [])
placed peer (p ∷ peers) =
    if nat_lt p.id peer.id then (placed peer peers >>= λ rest. Some (p ∷ rest))
    else if p.id == peer.id then None else Some (peer ∷ p ∷ peers)

-- peers in any order
abbrev pub peers_from : Items → List Peer → Option (List Peer)
peers_from no_items peers = Some peers
peers_from (item d items) peers = peer_of d >>= λ p. placed p peers >>= peers_from items

-- within the bounds of a head
abbrev pub is_config : ConfigData → Bool
is_config c = is_front (record { own = c.own; snap = c.snap; pages = c.pages; peers = c.peers })

abbrev pub config_data : ℕ → ℕ → ℕ → ℕ → List Peer → ConfigData
config_data version own pages snap peers = record { version = version; own = own; pages = pages; snap = snap; peers = peers }

-- the machine's version: 1 where it isn't named
abbrev pub version_of : Option Data → Option ℕ
version_of None = Some 1
version_of (Some d) = option_and_then as_u64 (as_number d) >>= λ n. kept (n == 1 || n == 2) n

-- how many keys there are
abbrev pub keys_with : Option Data → ℕ
keys_with None = 4
keys_with (Some d) = 5

-- exactly an own id, a page count, a distance of snapshots and peers, and maybe the machine's version
unfoldable pub config_of : Data → Option ConfigData
config_of d = do
  version ← version_of (get (codes "machine") d)
  own ← number_of (codes "own") d
  pages ← number_of (codes "pages") d
  snap ← number_of (codes "snap") d
  items ← option_and_then as_array (get (codes "peers") d)
  peers ← peers_from items []
  kept (has_members (keys_with (get (codes "machine") d)) (as_object d) && is_config (config_data version own pages snap peers)) (config_data version own pages snap peers)

-- the bytes are JSON text of a configuration
pub record IsConfig (bytes : List ℕ) (c : ConfigData) : Type 0 where
  pub text : IsUtf8 bytes
  pub value : Data
  pub reads : read bytes ≡ Some value
  pub says : config_of value ≡ Some c
