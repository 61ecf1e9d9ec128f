-- The page root: the hash over the pages of a RAM, by halves (docs/FORMATS.md, Roots).
use Rattle.std.specs.Prelude.{ℕ, zero, suc, ◌+◌, ◌*◌, ◌/◌, ◌^◌, List, ◌∷◌, ◌++◌, length, slice_range, if◌then◌else◌, nat_lt}
use Rattle.avm_model.specs.Hash.{hash_of}
use Rattle.avm_model.specs.declared.Digest.{Digest}

-- the two functions that a tree is made with: from a page, and from two digests
pub record Hashes : Type 0 where
  pub leaf : List ℕ → Digest
  pub node : Digest → Digest → Digest

-- page f, of 4096 bytes
abbrev pub page_of : List ℕ → ℕ → List ℕ
page_of bytes f = slice_range bytes (4096 * f) (4096 * f + 4096)

-- the root of the 2 ^ d pages from page f on: a leaf, or the node over the roots of both halves
abbrev pub root_from : Hashes → List ℕ → ℕ → ℕ → Digest
root_from h bytes zero f = h.leaf (page_of bytes f)
root_from h bytes (suc d) f = h.node (root_from h bytes d f) (root_from h bytes d (f + 2 ^ d))

-- how often a number of pages can be halved, at most so many times
abbrev pub halvings : ℕ → ℕ → ℕ
halvings zero pages = 0
halvings (suc most) pages = if nat_lt pages 2 then 0 else suc (halvings most (pages / 2))

-- d where there are 2 ^ d pages
unfoldable pub depth_of : ℕ → ℕ
depth_of pages = halvings pages pages

-- the root of all pages
unfoldable pub root_of : Hashes → List ℕ → Digest
root_of h bytes = root_from h bytes (depth_of (length bytes / 4096)) 0

-- SHA-256 with a byte in front that tells a leaf from a node
abbrev pub page_leaf : List ℕ → List ℕ
page_leaf page = hash_of (0 ∷ page)

abbrev pub page_node : List ℕ → List ℕ → List ℕ
page_node left right = hash_of (1 ∷ (left ++ right))

abbrev pub sha_hashes : Hashes
sha_hashes = record { leaf = λ page. record { 0 = page_leaf page }; node = λ left right. record { 0 = page_node left.0 right.0 } }

-- the page root of a RAM's bytes
unfoldable pub page_root : List ℕ → List ℕ
page_root bytes = (root_of sha_hashes bytes).0
