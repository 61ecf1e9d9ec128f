-- Texts that are hashed, a journal's beside the evidence's.
use Rattle.std.specs.Prelude.{◌≡◌, ℕ, zero, suc, ◌+◌, ◌*◌, IsTrue, ◌^◌, ◌/◌, ◌==◌, ◌&&◌, not, Bool, List, [], ◌∷◌, ◌++◌, length, Option, Some, None, if◌then◌else◌}
use Rattle.std.specs.Str.{bytes_eq}
use Rattle.avm_model.specs.Hash.{hash_of}
use Rattle.avm_model.specs.Frame.{FrameData}
use Rattle.avm_model.specs.Chain.{link, next_hash}
use Rattle.avm_model.specs.Machine.{State}
use Rattle.avm_model.specs.Head.{head_bytes}
use Rattle.avm_model.specs.HeadReading.{head_of}
use Rattle.avm_model.specs.HeadState.{data_of, state_of}
use Rattle.avm_model.specs.Memory.{is_page_count}
use Rattle.avm_model.specs.Pages.{page_of, page_root, root_from, sha_hashes, depth_of}
use Rattle.avm_model.specs.Audit.{behind_first}
use Rattle.avm_model.specs.Reference.{timed, entries_of}
use Rattle.avm_model.specs.Rerun.{after}
use Rattle.honest_model.specs.Keeps.{up_to}

-- two texts
pub record Texts : Type 0 where
  pub ours : List ℕ
  pub theirs : List ℕ

abbrev pub texts : List ℕ → List ℕ → Texts
texts a b = record { ours = a; theirs = b }

abbrev pub differ : Texts → Bool
differ t = not (bytes_eq t.ours t.theirs)

-- they differ and have one hash
abbrev pub collide : Texts → Bool
collide t = differ t && bytes_eq (hash_of t.ours) (hash_of t.theirs)

-- the first that passes
abbrev pub first_of_all : (Texts → Bool) → List Texts → Option Texts
first_of_all p [] = None
first_of_all p (t ∷ ts) = if p t then Some t else first_of_all p ts

-- ---- entries

-- From the last number of theirs down: the link text, which is hashed for the chain, and then the content. Both begin with one
-- number, behind a hash.
abbrev pub entry_texts : List ℕ → List FrameData → List ℕ → List FrameData → List Texts
entry_texts h [] g es = []
entry_texts h (f ∷ fs) g [] = []
entry_texts h (f ∷ fs) g (e ∷ es) = entry_texts (next_hash h f) fs (next_hash g e) es ++ texts (link h f) (link g e) ∷ texts f.content e.content ∷ []

-- the hash before the entry of a number, and the entries from there on
pub record Stretch : Type 0 where
  pub before : List ℕ
  pub frames : List FrameData

abbrev pub from_number : ℕ → List ℕ → List FrameData → Stretch
from_number n h [] = record { before = h; frames = [] }
from_number n h (f ∷ fs) = if f.seq == n then record { before = h; frames = f ∷ fs } else from_number n (next_hash h f) fs

-- ---- states

-- the state after the entry of a number, where the entries begin in state s
abbrev pub state_at : State → ℕ → List FrameData → State
state_at s n fs = (after timed s (entries_of (up_to n (behind_first fs)))).state

-- what is hashed for a state's root
abbrev pub state_text : State → List ℕ
state_text s = 2 ∷ (head_bytes (data_of s) ++ page_root s.ram)

-- ---- pages

-- The tree over the 2 ^ d pages from page f on: a node before its left part, and that before its right part.
abbrev pub tree_texts : List ℕ → List ℕ → ℕ → ℕ → List Texts
tree_texts a b zero f = texts (0 ∷ page_of a f) (0 ∷ page_of b f) ∷ []
tree_texts a b (suc d) f =
    texts (1 ∷ ((root_from sha_hashes a d f).0 ++ (root_from sha_hashes a d (f + 2 ^ d)).0)) (1 ∷ ((root_from sha_hashes b d f).0 ++ (root_from sha_hashes b d (f + 2 ^ d)).0))
    ∷ (tree_texts a b d f ++ tree_texts a b d (f + 2 ^ d))

-- the state text, then the page tree
abbrev pub state_texts : State → State → List Texts
state_texts s t = texts (state_text s) (state_text t) ∷ tree_texts s.ram t.ram (depth_of (length s.ram / 4096)) 0

-- a state that its head and its RAM tell whole, with a power of two of whole pages
pub record OfHead (s : State) : Type 0 where
  pub read : head_of (head_bytes (data_of s)) ≡ Some (data_of s)
  pub state : state_of (data_of s) s.ram ≡ s
  pub size : length s.ram ≡ 4096 * (length s.ram / 4096)
  pub count : IsTrue (is_page_count (length s.ram / 4096))
