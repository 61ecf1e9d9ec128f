-- A private key with the nodes of its tree.
use Rattle.std.specs.Prelude.{◌≡◌, ℕ, ◌≤◌, ◌<◌, ◌*◌, ◌^◌, List, [], length, get_or}
use Rattle.avm_model.specs.LmsTypes.{height_of}
use Rattle.avm_model.specs.LmsTree.{node}
use Rattle.avm_model.specs.Keys.{KeyData, HasTypes}
use Rattle.avm_model.specs.declared.Digest.{Digest}

abbrev pub key_of : ℕ → ℕ → List ℕ → List ℕ → KeyData
key_of lms ots id seed = record { lms = lms; ots = ots; id = id; seed = seed }

-- node r of those that are kept
abbrev pub node_at : List Digest → ℕ → List ℕ
node_at nodes r = let none : Digest = record { 0 = [] } in (get_or nodes r none).0

-- the nodes kept are those of the key
pub record AreNodes (lms ots : ℕ) (id seed : List ℕ) (nodes : List Digest) : Type 0 where
  pub all : length nodes ≡ 2 * 2 ^ height_of lms
  pub each : (r : ℕ) → 1 ≤ r → r < 2 * 2 ^ height_of lms → node_at nodes r ≡ node lms ots id seed r

-- what a key keeps
pub record IsKept (lms ots : ℕ) (id seed : List ℕ) (nodes : List Digest) : Type 0 where
  pub types : HasTypes (key_of lms ots id seed)
  pub id_long : length id ≡ 16
  pub kept : AreNodes lms ots id seed nodes
