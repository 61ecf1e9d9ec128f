-- The root of a state (docs/FORMATS.md, Roots).
use Rattle.std.specs.Prelude.{ℕ, List, ◌∷◌, ◌++◌}
use Rattle.avm_model.specs.Hash.{hash_of}
use Rattle.avm_model.specs.Machine.{State}
use Rattle.avm_model.specs.Head.{head_bytes}
use Rattle.avm_model.specs.HeadState.{data_of}
use Rattle.avm_model.specs.Pages.{page_root}

-- the hash over a head and a page root
unfoldable pub root_over : List ℕ → List ℕ → List ℕ
root_over head pages = hash_of (2 ∷ (head ++ pages))

-- the hash over the head of a state and its page root
unfoldable pub root : State → List ℕ
root s = root_over (head_bytes (data_of s)) (page_root s.ram)
