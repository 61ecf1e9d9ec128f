-- Whether a keep is good, as a test.
use Rattle.std.specs.Prelude.{ℕ, ◌==◌, ◌&&◌, Bool, false, List, Option, Some, None}
use Rattle.std.specs.Str.{bytes_eq}
use Rattle.avm_model.specs.Content.{ContentData, boot, snap}
use Rattle.avm_model.specs.Head.{HeadData}
use Rattle.avm_model.specs.HeadState.{state_of}
use Rattle.avm_model.specs.Root.{root}
use Rattle.honest_model.specs.Keeps.{same_front, within_steps}
use Rattle.keep_judge.specs.declared.told.Told.{Told}

-- what a content tells of the state behind it: the count and the root
abbrev pub told_in : Option ContentData → Option (ℕ × List ℕ)
told_in (Some (boot count r)) = Some (count, r)
told_in (Some (snap count r)) = Some (count, r)
told_in content = None

abbrev pub told_view : Told → ℕ × List ℕ
told_view t = (t.count, t.root)

abbrev pub is_told : Option (ℕ × List ℕ) → ℕ → List ℕ → Bool
is_told None count r = false
is_told (Some t) count r = t.0 == count && bytes_eq t.1 r

-- A keep of this number, with this head over this RAM, is good in a journal whose header has head a and whose first entry has number
-- first, behind an entry that tells this.
abbrev pub is_good_head : HeadData → ℕ → ℕ → Option (ℕ × List ℕ) → List ℕ → HeadData → Bool
is_good_head a first seq told ram b = same_front a b && within_steps first a seq b && is_told told b.hart.count (root (state_of b ram))

abbrev pub is_good_keep : HeadData → ℕ → ℕ → Option (ℕ × List ℕ) → List ℕ → Option HeadData → Bool
is_good_keep a first seq told ram None = false
is_good_keep a first seq told ram (Some b) = is_good_head a first seq told ram b

-- bytes are a head of so many pages
abbrev pub pages_fit : ℕ → Option HeadData → Bool
pages_fit n None = false
pages_fit n (Some h) = h.front.pages == n
