-- At each state of a history at most one of two disks opens for more.
use Rattle.std.proofs.Common.{inl, inr, List, [], ◌∷◌, ℕ}
use Rattle.base_model.specs.Spare.{IsFree, IsRetired, IsSafe, OneOpens}
use Rattle.base_model.specs.History.{Disks, IsEvent, AreSafe, disks, IsHistory, OneAlways}
use Rattle.base_model.proofs.Frees.{free_never}

pub safe_one : (c e : List ℕ) → IsSafe c e → OneOpens c e
safe_one c e (inl free) is = absurd (free_never e free is)
safe_one c e (inr retired) is = retired

-- beside an image without a mark, the spare is free
pub free_beside : (c e : List ℕ) → (IsRetired c → ⊥) → IsSafe c e → IsFree e
free_beside c e never (inl free) = free
free_beside c e never (inr retired) = absurd (never retired)

pub stays_safe : (old new : Disks) → IsEvent old new → AreSafe old → AreSafe new
stays_safe old new (inl less) safe c e left here = safe c e (less.store c left) (less.spare e here)
stays_safe old new (inr (inl more)) safe c e left here = let u = more.unmarked in inl (free_beside u.0 e u.2 (safe u.0 e u.1 (more.spare e here)))
stays_safe old new (inr (inr (inl moves))) safe c e left here = let u = moves.unmarked in moves.together (λ f there. free_beside u.0 f u.2 (safe u.0 f u.1 there)) c e left here
stays_safe old new (inr (inr (inr serves))) safe c e left here = inr (serves.marked c (serves.store c left))

pub always_one : {D E : Type 0} (store : D → List ℕ → Type 0) (spare : E → List ℕ → Type 0) (both : D × E) (later : List (D × E)) → AreSafe (disks store spare both) → IsHistory store spare both later → OneAlways store spare both later
always_one store spare both [] safe events = λ c e left here. safe_one c e (safe c e left here)
always_one store spare both (next ∷ later) safe events = (λ c e left here. safe_one c e (safe c e left here), always_one store spare next later (stays_safe (disks store spare both) (disks store spare next) events.0 safe) events.1)
