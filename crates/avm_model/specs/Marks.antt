-- Authenticators against a chain of hashes (docs/FORMATS.md, "The chain" and "Authenticators").
use Rattle.std.specs.Prelude.{ℕ, ◌+◌, ◌==◌, ◌&&◌, nat_lt, Bool, true, false, List, [], ◌∷◌, Option, Some, None, if◌then◌else◌}
use Rattle.std.specs.Str.{bytes_eq}
use Rattle.avm_model.specs.Frame.{FrameData}
use Rattle.avm_model.specs.Chain.{next_hash}
use Rattle.avm_model.specs.Auth.{AuthData, signed_text_of}
use Rattle.avm_model.specs.LmsValid.{valid}
use Rattle.avm_model.specs.declared.judged.Mark.{Mark}
use Rattle.avm_model.specs.declared.judged.Mark.TheVariants.{Outside, Same, Other}
use Rattle.avm_model.specs.declared.judged.Marked.{Marked}

-- the signature of the number and the hash is valid under the key
abbrev pub verifies : List ℕ → AuthData → Bool
verifies key a = valid key (signed_text_of a.seq a.hash) a.sig

-- the chain's hash at the entry of a number, behind a hash; none where no entry has the number
abbrev pub hash_in : ℕ → List ℕ → List FrameData → Option (List ℕ)
hash_in n h [] = None
hash_in n h (f ∷ fs) = if f.seq == n then Some (next_hash h f) else hash_in n (next_hash h f) fs

-- a hash against the chain's: no entry has the number, or the chain has the same hash there, or another
abbrev pub mark_at : List ℕ → Option (List ℕ) → Mark
mark_at hash None = Outside
mark_at hash (Some g) = if bytes_eq hash g then Same else Other

-- an authenticator's number, and its hash against the chain's
abbrev pub marked : List ℕ → List FrameData → AuthData → Marked
marked h fs a = record { seq = a.seq; mark = mark_at a.hash (hash_in a.seq h fs) }

abbrev pub is_same : Mark → Bool
is_same Outside = false
is_same Same = true
is_same Other = false

abbrev pub is_other : Mark → Bool
is_other Outside = false
is_other Same = false
is_other Other = true

-- the better of the best so far and authenticator i: one that equals the chain, with a greater number than those before it
abbrev pub better : ℕ → Marked → Option (ℕ × ℕ) → Option (ℕ × ℕ)
better i m None = if is_same m.mark then Some (i, m.seq) else None
better i m (Some b) = if is_same m.mark && nat_lt b.1 m.seq then Some (i, m.seq) else Some b

abbrev pub cover_from : ℕ → Option (ℕ × ℕ) → List Marked → Option (ℕ × ℕ)
cover_from i best [] = best
cover_from i best (m ∷ others) = cover_from (i + 1) (better i m best) others

-- the cover: the authenticator that equals the chain and has the greatest number, the first such, with that number
abbrev pub cover : List Marked → Option (ℕ × ℕ)
cover ms = cover_from 0 None ms

-- the cover's number, or 0 where there is none
abbrev pub cover_number : Option (ℕ × ℕ) → ℕ
cover_number None = 0
cover_number (Some j) = j.1
