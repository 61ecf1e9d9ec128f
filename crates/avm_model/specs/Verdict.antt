-- The verdict on a segment with authenticators: the first row of a table that applies, and its last row as a conjunction.
use Rattle.std.specs.Prelude.{ℕ, ◌+◌, ◌==◌, ◌&&◌, not, Bool, List, [], ◌∷◌, Option, Some, None, if◌then◌else◌, nat_le, map}
use Rattle.std.specs.Option.{option_map, option_and_then}
use Rattle.std.specs.Str.{bytes_eq}
use Rattle.avm_model.specs.Basics.{first_at, or_else}
use Rattle.avm_model.specs.Frame.{FrameData}
use Rattle.avm_model.specs.Auth.{AuthData}
use Rattle.avm_model.specs.Marks.{verifies, marked, is_same, is_other, cover, cover_number}
use Rattle.avm_model.specs.declared.judged.Marked.{Marked}
use Rattle.avm_model.specs.declared.judged.Verdict.{Verdict}
use Rattle.avm_model.specs.declared.judged.Verdict.TheVariants.{BadAuth, Double, Uncommitted, Fork, Replay, Uncovered, Unmatched, Accepted}

-- the first that is there
abbrev pub first_some : {V : Type 0} → List (Option V) → V → V
first_some [] v = v
first_some (None ∷ stages) v = first_some stages v
first_some (Some u ∷ stages) v = u

-- one number and two hashes
abbrev pub doubles : AuthData → AuthData → Bool
doubles a b = a.seq == b.seq && not (bytes_eq a.hash b.hash)

-- the lexicographically first pair of places, counted from i, that are so related
abbrev pub first_pair : {A : Type 0} → (A → A → Bool) → ℕ → List A → Option (ℕ × ℕ)
first_pair r i [] = None
first_pair r i (a ∷ others) = or_else (option_map (λ j. (i, j)) (first_at (r a) (i + 1) others)) (first_pair r (i + 1) others)

-- what is judged: a key, the first and the last number, the hash before the entries, the entries, whether the first has the
-- snapshot's root and count, the number of the first later entry that doesn't replay, and authenticators
pub record Case : Type 0 where
  pub key : List ℕ
  pub first : ℕ
  pub last : ℕ
  pub before : List ℕ
  pub frames : List FrameData
  pub committed : Bool
  pub fault : Option ℕ
  pub auths : List AuthData

-- each authenticator against the chain
unfoldable pub marks : Case → List Marked
marks c = map (marked c.before c.frames) c.auths

-- ---- the rows of the table

-- the first that doesn't verify
abbrev pub bad_auth : Case → Option Verdict
bad_auth c = option_map BadAuth (first_at (λ a. not (verifies c.key a)) 0 c.auths)

-- the first pair of one number and two hashes
abbrev pub double : Case → Option Verdict
double c = option_map (λ p. Double p.0 p.1) (first_pair doubles 0 c.auths)

-- the first entry's root or count isn't the snapshot's
abbrev pub uncommitted : Case → Option Verdict
uncommitted c = if c.committed then None else Some Uncommitted

-- a number up to the cover's, and another hash than the chain's
abbrev pub conflicts : ℕ → Marked → Bool
conflicts top m = is_other m.mark && nat_le m.seq top

-- the first that conflicts with the cover
abbrev pub fork_by : List Marked → Option (ℕ × ℕ) → Option Verdict
fork_by ms top = option_and_then (λ j. option_map (λ i. Fork i j.0) (first_at (conflicts j.1) 0 ms)) top

-- a fault up to the cover's number
abbrev pub replay_by : Option ℕ → Option (ℕ × ℕ) → Option Verdict
replay_by fault top = option_and_then (λ n. option_and_then (λ j. if nat_le n j.1 then Some (Replay n) else None) top) fault

-- a fault
abbrev pub uncovered : Case → Option Verdict
uncovered c = option_map Uncovered c.fault

abbrev pub unmatched_mark : Marked → Bool
unmatched_mark m = not (is_same m.mark)

-- the first outside the segment or unequal to the chain
abbrev pub unmatched_by : List Marked → Option Verdict
unmatched_by ms = option_map Unmatched (first_at unmatched_mark 0 ms)

abbrev pub rows : Case → List (Option Verdict)
rows c = bad_auth c ∷ double c ∷ uncommitted c ∷ fork_by (marks c) (cover (marks c)) ∷ replay_by c.fault (cover (marks c)) ∷ uncovered c ∷ unmatched_by (marks c) ∷ []

-- the first row that applies; else accepted
unfoldable pub verdict : Case → Verdict
verdict c = first_some (rows c) (Accepted c.first c.last (cover_number (cover (marks c))))
