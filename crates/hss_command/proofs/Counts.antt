-- A status of 4 and the counts of faults.
use Rattle.std.proofs.Common.{◌≡◌, ◌≢◌, ℕ, ◌∷◌, [], ◌⊎◌, inl, inr, List, Option, sym, ◌∙◌}
use Rattle.avm_outside.specs.Outside.{Rises}
use Rattle.command_parts.specs.Printing.{line, Printed}
use Rattle.hss_command.specs.Ends.{status_of}
use Rattle.hss_command.specs.Outcomes.{Outcome, Ended, NoMemory, FaultFiles, FaultDisk, status_of_outcome, text_of_outcome}
use Rattle.hss_command.specs.declared.ends.End.{End}
use Rattle.hss_command.specs.declared.ends.End.TheVariants.{RollMade, Enrolled, Widened, Narrowed, RefusedFile, RefusedNotEmpty, RefusedNoStore, RefusedKey, RefusedLeaves, RefusedMalformed, RefusedBadAuth, RefusedMixed}

-- what an outcome says of the files' count
abbrev pub Counted : Outcome → ℕ → ℕ → Type 0
Counted (Ended end) before now = now ≡ before
Counted NoMemory before now = now ≡ before
Counted FaultFiles before now = Rises before now
Counted FaultDisk before now = ⊥

pub status_not_four : (e : End) → status_of e ≡ 4 → ⊥
status_not_four RollMade h = cc
status_not_four (Enrolled n) h = cc
status_not_four (Widened n) h = cc
status_not_four (Narrowed n) h = cc
status_not_four (RefusedFile o) h = cc
status_not_four RefusedNotEmpty h = cc
status_not_four RefusedNoStore h = cc
status_not_four RefusedKey h = cc
status_not_four RefusedLeaves h = cc
status_not_four RefusedMalformed h = cc
status_not_four (RefusedBadAuth n) h = cc
status_not_four (RefusedMixed n) h = cc

pub only_four : (o : Outcome) (fb fn b n : ℕ) (was is : Option (List ℕ)) (result : ℕ) → Counted o fb fn → Printed (line (text_of_outcome o) ∷ []) (status_of_outcome o) b n was is result → result ≡ 4 → Rises fb fn ⊎ Rises b n
only_four o fb fn b n was is result c (inr p) four = inr p.1.0
only_four (Ended e) fb fn b n was is result c (inl p) four = absurd (status_not_four e (sym p.0 ∙ four))
only_four NoMemory fb fn b n was is result c (inl p) four = absurd (let h : 5 ≡ 4 = sym p.0 ∙ four in cc)
only_four FaultFiles fb fn b n was is result c (inl p) four = inl c
only_four FaultDisk fb fn b n was is result c (inl p) four = absurd c

pub not_four : (o : Outcome) (fb fn b n : ℕ) (was is : Option (List ℕ)) (result : ℕ) → Counted o fb fn → Printed (line (text_of_outcome o) ∷ []) (status_of_outcome o) b n was is result → result ≢ 4 → (fn ≡ fb) × (n ≡ b)
not_four o fb fn b n was is result c (inr p) ne = absurd (ne p.0)
not_four (Ended e) fb fn b n was is result c (inl p) ne = (c, p.1.0)
not_four NoMemory fb fn b n was is result c (inl p) ne = (c, p.1.0)
not_four FaultFiles fb fn b n was is result c (inl p) ne = absurd (ne p.0)
not_four FaultDisk fb fn b n was is result c (inl p) ne = absurd c
