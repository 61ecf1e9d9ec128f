-- Lines behind lines.
use Rattle.std.proofs.Common.{◌≡◌, ℕ, ◌+◌, List, [], ◌∷◌, ◌++◌, length, take, Option, Some, None, inl, inr, refl, sym, ap, ◌∙◌, subst, append_assoc, append-nil}
use Rattle.std.specs.Prelude.{option_map, Result, Ok, Err}
use Rattle.std.specs.List.{concat}
use Rattle.avm_outside.specs.Outside.{Rises, BothTold, AddsFront}
use Rattle.command_parts.specs.Printing.{Prints, PrintsCut, PrintsAll, Printed}
use Rattle.command_parts.specs.declared.fault.Fault.{Fault}
use Rattle.command_parts.specs.declared.fault.Fault.TheVariants.{NoMemory, Files, Disk, Sink}
use Rattle.command_parts.proofs.Printed.{front, written_more}

concat_on : (a b : List (List ℕ)) → concat (a ++ b) ≡ concat a ++ concat b
concat_on [] b = refl
concat_on (x ∷ a) b = ap (λ (l : List ℕ). x ++ l) (concat_on a b) ∙ sym (append_assoc x (concat a) (concat b))

-- lines behind those that were printed
pub prints_on : (said more : List (List ℕ)) (before n m : ℕ) (old mid new : Option (List ℕ)) → Prints said before n old mid → Prints more n m mid new → Prints (said ++ more) before m old new
prints_on said more before n m old mid new p q =
    (q.0 ∙ p.0, q.1 ∙ ap (option_map (λ was. was ++ concat more)) p.1 ∙ written_more (concat said) (concat more) old ∙ ap (λ l. option_map (λ was. was ++ l) old) (sym (concat_on said more)))

cut_told : (said more rest : List (List ℕ)) (old mid new : Option (List ℕ)) → mid ≡ option_map (λ was. was ++ concat said) old → BothTold mid new (AddsFront (concat more)) → BothTold old new (AddsFront (concat (said ++ (more ++ rest))))
cut_told said more rest None mid None e b = tt
cut_told said more rest None mid (Some new) e b = absurd (let h : BothTold None (Some new) (AddsFront (concat more)) = subst (λ (m : Option (List ℕ)). BothTold m (Some new) (AddsFront (concat more))) e b in h)
cut_told said more rest (Some old) mid None e b = absurd (let h : BothTold (Some (old ++ concat said)) None (AddsFront (concat more)) = subst (λ (m : Option (List ℕ)). BothTold m None (AddsFront (concat more))) e b in h)
cut_told said more rest (Some old) mid (Some new) e b =
    let h : BothTold (Some (old ++ concat said)) (Some new) (AddsFront (concat more)) = subst (λ (m : Option (List ℕ)). BothTold m (Some new) (AddsFront (concat more))) e b in
    let all : concat (said ++ (more ++ rest)) ≡ concat said ++ (concat more ++ concat rest) = concat_on said (more ++ rest) ∙ ap (λ (l : List ℕ). concat said ++ l) (concat_on more rest) in
    (length (concat said) + length (take h.0 (concat more)), h.1 ∙ front old (concat said) (concat more) (concat rest) h.0 ∙ ap (λ (l : List ℕ). old ++ take (length (concat said) + length (take h.0 (concat more))) l) (sym all))

-- a fault amid lines is one amid all
pub fault_on : (said more rest : List (List ℕ)) (e : Fault) (before n m : ℕ) (old mid new : Option (List ℕ)) → Prints said before n old mid → PrintsAll more (Err e) n m mid new → PrintsAll (said ++ (more ++ rest)) (Err e) before m old new
fault_on said more rest NoMemory before n m old mid new p q =
    (said ++ q.0, q.1 ++ rest, ap (λ (l : List (List ℕ)). said ++ l) (ap (λ (l : List (List ℕ)). l ++ rest) q.2 ∙ append_assoc q.0 q.1 rest) ∙ sym (append_assoc said q.0 (q.1 ++ rest)), prints_on said q.0 before n m old mid new p q.3)
fault_on said more rest Sink before n m old mid new p q = (subst (λ (k : ℕ). Rises k m) p.0 q.0, cut_told said more rest old mid new p.1 q.1)
fault_on said more rest Files before n m old mid new p q = absurd q
fault_on said more rest Disk before n m old mid new p q = absurd q

-- a print that fails behind lines
pub cut_on : (said more : List (List ℕ)) (before n m : ℕ) (old mid new : Option (List ℕ)) → Prints said before n old mid → PrintsCut more n m mid new → PrintsCut (said ++ more) before m old new
cut_on said more before n m old mid new p q =
    (subst (λ (k : ℕ). Rises k m) p.0 q.0, subst (λ (l : List (List ℕ)). BothTold old new (AddsFront (concat (said ++ l)))) (append-nil more) (cut_told said more [] old mid new p.1 q.1))

-- the last lines behind others
pub printed_on : (said more : List (List ℕ)) (status before n m result : ℕ) (old mid new : Option (List ℕ)) → Prints said before n old mid → Printed more status n m mid new result → Printed (said ++ more) status before m old new result
printed_on said more status before n m result old mid new p (inl q) = inl (q.0, prints_on said more before n m old mid new p q.1)
printed_on said more status before n m result old mid new p (inr q) = inr (q.0, cut_on said more before n m old mid new p q.1)

-- lines behind others, whole or not
pub all_on : (said more : List (List ℕ)) (r : Result (Unit {0}) Fault) (before n m : ℕ) (old mid new : Option (List ℕ)) → Prints said before n old mid → PrintsAll more r n m mid new → PrintsAll (said ++ more) r before m old new
all_on said more (Ok done) before n m old mid new p q = prints_on said more before n m old mid new p q
all_on said more (Err e) before n m old mid new p q = subst (λ (l : List (List ℕ)). PrintsAll (said ++ l) (Err e) before m old new) (append-nil more) (fault_on said more [] e before n m old mid new p q)
