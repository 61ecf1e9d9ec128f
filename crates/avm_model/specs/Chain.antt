-- The chain of hashes over entries, after "Accountable Virtual Machines" (docs/FORMATS.md, "The chain").
use Rattle.std.specs.Prelude.{ℕ, List, [], ◌∷◌, ◌++◌}
use Rattle.std.specs.Int.{w64}
use Rattle.avm_num.specs.Lists.{be, one}
use Rattle.avm_model.specs.Hash.{hash_of}
use Rattle.avm_model.specs.Packet.{PacketData}
use Rattle.avm_model.specs.Frame.{FrameData}

-- the text that is hashed for an entry, behind a hash
unfoldable pub link : List ℕ → FrameData → List ℕ
link h f = h ++ be w64 f.seq ++ one f.kind ++ hash_of f.content

abbrev pub next_hash : List ℕ → FrameData → List ℕ
next_hash h f = hash_of (link h f)

-- one hash for each entry
abbrev pub chain_of : List ℕ → List FrameData → List (List ℕ)
chain_of h [] = []
chain_of h (f ∷ fs) = next_hash h f ∷ chain_of (next_hash h f) fs

-- the last hash
abbrev pub top_of : List ℕ → List FrameData → List ℕ
top_of h [] = h
top_of h (f ∷ fs) = top_of (next_hash h f) fs

-- what the sender of a packet committed to: the hash of an entry with the packet's content, 8 for DATA and 5 for ACK
abbrev pub committed : ℕ → PacketData → List ℕ
committed kind p = next_hash p.before (record { seq = p.seq; kind = kind; content = p.content })
