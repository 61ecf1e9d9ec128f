-- One entry is judged at a time.
use Rattle.std.specs.Prelude.{ℕ, zero, suc, ◌-◌, List, [], ◌∷◌, Option, Some, None, cond}
use Rattle.std.specs.Option.{option_and_then}
use Rattle.avm_model.specs.Rerun.{Stand}
use Rattle.avm_model.specs.Timed.{Timed, Entry, given, made, entry_count, takes}

-- at most k steps, up to the first that has outputs
abbrev pub quiet_out : {S O : Type 0} → (S → Stand S O) → S → List O → Stand S O
quiet_out f t [] = f t
quiet_out f t (o ∷ os) = record { state = t; pending = o ∷ os }

abbrev pub quiet_step : {S O : Type 0} → (S → Stand S O) → S → Option (S × List O) → Stand S O
quiet_step f s None = record { state = s; pending = [] }
quiet_step f s (Some r) = quiet_out f r.0 r.1

abbrev pub quiet : {S I O : Type 0} → Timed S I O → ℕ → S → Stand S O
quiet m zero s = record { state = s; pending = [] }
quiet m (suc k) s = quiet_step (quiet m k) s (m.step s)

-- steps until there is an output, or the count is c
abbrev pub settle : {S I O : Type 0} → Timed S I O → ℕ → S → List O → Stand S O
settle m c s [] = quiet m (c - m.count s) s
settle m c s (o ∷ os) = record { state = s; pending = o ∷ os }

abbrev pub compare : {S I O : Type 0} → Timed S I O → O → S → List O → Option (Stand S O)
compare m o t [] = None
compare m o t (q ∷ qs) = cond (m.same o q) (Some (record { state = t; pending = qs })) None

abbrev pub stand_of : {S O : Type 0} → Option S → Option (Stand S O)
stand_of None = None
stand_of (Some t) = Some (record { state = t; pending = [] })

abbrev pub accept : {S I O : Type 0} → Timed S I O → I → S → List O → Option (Stand S O)
accept m i t (q ∷ qs) = None
accept m i t [] = stand_of (takes m t i)

abbrev pub settled : {S I O : Type 0} → Timed S I O → Entry I O → Stand S O → Option (Stand S O)
settled m (made o) k = compare m o k.state k.pending
settled m (given i) k = accept m i k.state k.pending

-- the stand after the entry, or none where it is a fault
abbrev pub judge : {S I O : Type 0} → Timed S I O → Stand S O → Entry I O → Option (Stand S O)
judge m j e = settled m e (settle m (entry_count m e) j.state j.pending)

-- the stand after all entries, or none where one is a fault
abbrev pub judge_all : {S I O : Type 0} → Timed S I O → Stand S O → List (Entry I O) → Option (Stand S O)
judge_all m j [] = Some j
judge_all m j (e ∷ es) = option_and_then (λ k. judge_all m k es) (judge m j e)
