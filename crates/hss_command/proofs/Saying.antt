-- Ends that are said, and files that are read before one is written.
use Rattle.std.proofs.Common.{◌≡◌, ◌≢◌, ℕ, ◌+◌, inl, inr, List, take, Option, None, Some, sym, subst}
use Rattle.std.specs.Prelude.{Result, Ok, Err, IfOk, IfErr, OnOk, option_map}
use Rattle.command_parts.specs.FileMap.{FileMap}
use Rattle.command_parts.specs.Reading.{Finds, IsReadOf, IsOfReading}
use Rattle.command_parts.specs.declared.fault.Fault.{Fault}
use Rattle.command_parts.specs.declared.fault.Fault.TheVariants as fault
use Rattle.evid_file.specs.Pieces.{Written, LeavesFront}
use Rattle.hss_command.specs.Narrow.{TwoCut}
use Rattle.hss_command.specs.declared.ends.End.{End}
use Rattle.hss_command.specs.declared.said.Said.{Said}

pub said_end : (P : End → Type 0) (e : End) (r : Result Said Fault) → IfOk r (λ s. s.end ≡ e) → P e → IfOk r (λ s. P s.end)
said_end P e (Ok s) is p = subst P (sym is) p
said_end P e (Err f) is p = tt

-- an end behind something that was done
pub done_end : (P : End → Type 0) (e : End) (W : Type 0) (r : Result Said Fault) → IfOk r (λ s. s.end ≡ e) → OnOk r W → (W → P e) → IfOk r (λ s. P s.end)
done_end P e W (Ok s) is w p = subst P (sym is) (p w)
done_end P e W (Err f) is w p = tt

-- want of memory may come of reading
pub of_memory : (r : Result Said Fault) → IfErr r (λ e. e ≡ fault.NoMemory) → IfErr r IsOfReading
of_memory (Ok s) e = tt
of_memory (Err f) e = subst IsOfReading (sym e) tt

pub no_sink : (r : Result Said Fault) → IfErr r IsOfReading → r ≢ Err fault.Sink
no_sink (Ok s) of h = cc
no_sink (Err fault.NoMemory) of h = cc
no_sink (Err fault.Files) of h = cc
no_sink (Err fault.Disk) of h = of
no_sink (Err fault.Sink) of h = of

-- a file that isn't there
pub found_none : (limit : ℕ) (told mid : Option (Option (List ℕ))) → mid ≡ told → IsReadOf limit mid None → Finds told None
found_none limit told mid same read = go read.0 read.1 read.2
  where
    go : (found : Option (List ℕ)) → Finds mid found → None ≡ option_map (take (limit + 1)) found → Finds told None
    go None finds cut = subst (λ (t : Option (Option (List ℕ))). Finds t None) same finds
    go (Some bytes) finds cut = absurd (let h : ◌≡◌ {A = Option (List ℕ)} None (Some (take (limit + 1) bytes)) = cut in cc)

-- two files that are written behind reads
pub two_cut : (first bytes second more other : List ℕ) (mid old new : FileMap) → ((n : List ℕ) → mid n ≡ old n) → more ≡ other → TwoCut first bytes second more mid new → TwoCut first bytes second other old new
two_cut first bytes second more other mid old new same is (inl c) =
    inl (subst (λ (o : Option (Option (List ℕ))). LeavesFront bytes o (new first)) (same first) c.0, subst (λ (o : Option (Option (List ℕ))). new second ≡ o) (same second) c.1)
two_cut first bytes second more other mid old new same is (inr c) =
    inr (
      subst (λ (o : Option (Option (List ℕ))). Written bytes o (new first)) (same first) c.0,
      subst (λ (m : List ℕ). LeavesFront m (old second) (new second)) is (subst (λ (o : Option (Option (List ℕ))). LeavesFront more o (new second)) (same second) c.1),
    )
