-- A part has a byte or more, and is one entry at most.
use Rattle.std.proofs.Common.{◌≡◌, ◌+◌, ◌≤◌, ap, arith}
use Rattle.journal_model.specs.Part.{Part, entry, seal, keep}
use Rattle.journal_model.specs.Standing.{StandingData, behind}

pub next_goes : (s t : StandingData) (p : Part) → t ≡ behind s p → (s.next ≤ t.next) × (t.next ≤ s.next + 1)
next_goes s t (entry f) e = let n = ap (λ (x : StandingData). x.next) e in (omega (arith, n), omega (arith, n))
next_goes s t seal e = let n = ap (λ (x : StandingData). x.next) e in (omega (arith, n), omega (arith, n))
next_goes s t (keep k) e = let n = ap (λ (x : StandingData). x.next) e in (omega (arith, n), omega (arith, n))
