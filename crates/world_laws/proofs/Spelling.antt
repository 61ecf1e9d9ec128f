-- Every packet of a journal has a spelling.
use Rattle.std.proofs.Common.{◌≡◌, ℕ, ◌^◌, ◌≤◌, ◌<◌, Bool, true, false, List, [], ◌∷◌, length, arith}
use Rattle.std.specs.Prelude.{◌==◌, if◌then◌else◌}
use Rattle.avm_model.specs.Auth.{signed_text_of}
use Rattle.avm_model.specs.Chain.{link, next_hash}
use Rattle.avm_model.specs.LmsTypes.{chains_of, height_of}
use Rattle.avm_model.specs.Parts.{longest_signature}
use Rattle.avm_model.proofs.KeyLaws.{sig_of-length}
use Rattle.avm_model.proofs.LmsLaw.{length-hash}
use Rattle.world_laws.specs.Events.{AreFit, AreSpelled}
use Rattle.journal_model.specs.Part.{Part, entry, seal, keep}
use Rattle.journal_model.specs.Standing.{StandingData, behind}
use Rattle.record_model.specs.Released.{Sender, signature_at}

chains_most : (ots : ℕ) → chains_of ots ≤ 265
unfolding chains_of
chains_most ots = go (ots == 1) (ots == 2) (ots == 3)
  where
    go : (a b c : Bool) → (if a then 265 else if b then 133 else if c then 67 else 34) ≤ 265
    go true b c = omega arith
    go false true c = omega arith
    go false false true = omega arith
    go false false false = omega arith

height_most : (lms : ℕ) → height_of lms ≤ 25
unfolding height_of
height_most lms = go (lms == 5) (lms == 6) (lms == 7) (lms == 8)
  where
    go : (a b c d : Bool) → (if a then 5 else if b then 10 else if c then 15 else if d then 20 else 25) ≤ 25
    go true b c d = omega arith
    go false true c d = omega arith
    go false false true d = omega arith
    go false false false true = omega arith
    go false false false false = omega arith

sig_short : (who : Sender) (leaf seq : ℕ) (hash : List ℕ) → length (signature_at who leaf seq hash) ≤ longest_signature
sig_short who leaf seq hash =
    let long = sig_of-length who.key leaf (signed_text_of seq hash) in
    let chains = chains_most who.key.ots in
    let height = height_most who.key.lms in
    omega (arith, long, chains, height)

-- behind a hash of 32 bytes every packet of entries that fit has a spelling
pub all_spelled : (who : Sender) (p : StandingData) (parts : List Part) → who.own < 2 ^ 32 → length p.hash ≡ 32 → AreFit parts → AreSpelled who p parts
all_spelled who p [] own long h = tt
all_spelled who p (entry f ∷ ps) own long h = (
  record {
    packet = record { from = own; seq = h.0.seq; before = long; content = h.0.short; sig = sig_short who p.used f.seq (next_hash p.hash f) };
    content = h.0.content;
  },
  all_spelled who (behind p (entry f)) ps own (length-hash (link p.hash f)) h.1,
)
all_spelled who p (seal ∷ ps) own long h = all_spelled who (behind p seal) ps own long h
all_spelled who p (keep k ∷ ps) own long h = all_spelled who (behind p (keep k)) ps own long h
