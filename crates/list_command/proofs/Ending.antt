-- How a listing comes to its end.
use Rattle.std.proofs.Common.{◌≡◌, ◌≢◌, ◌⊎◌, inl, inr, ℕ, List, [], ◌∷◌, ◌++◌, Option, IfSome, refl, sym, subst, ◌∙◌, append-nil}
use Rattle.std.specs.Prelude.{Result, Ok, Err}
use Rattle.avm_outside.specs.Outside.{Rises}
use Rattle.command_parts.specs.Printing.{line, Prints, PrintsCut, Printed}
use Rattle.command_parts.specs.declared.fault.Fault.{Fault}
use Rattle.command_parts.specs.declared.fault.Fault.TheVariants as fault
use Rattle.command_parts.proofs.Joined.{printed_on}
use Rattle.list_command.specs.Ends.{text_of, end_lines}
use Rattle.list_command.specs.Listing.{IsListing, BeginsListing, Refuses, Leaves, CountsDisk}
use Rattle.list_command.specs.Outcomes.{Outcome, Ended, NoMemory, FaultDisk, IsOutcome, Reaches, ListEnds, last_lines, status_of_outcome}
use Rattle.list_command.specs.declared.ends.End.{End}
use Rattle.list_command.specs.declared.ends.End.TheVariants.{Listed, RefusedNoStore, RefusedDamaged}
use Rattle.list_command.proofs.Telling.{if_map, if_all}

-- the last lines, behind those that were printed
pub record Finishes (ended : Result End Fault) (before now : ℕ) (old new : Option (List ℕ)) (result : ℕ) : Type 0 where
  pub line : ended ≢ Err fault.Sink → (o : Outcome) × IsOutcome ended o × Printed (last_lines o) (status_of_outcome o) before now old new result
  pub cut : ended ≡ Err fault.Sink → (result ≡ 4) × (now ≡ before) × (new ≡ old)

listed_end : (told : Option (List ℕ)) (lines : List (List ℕ)) (db dn b m n : ℕ) (ob om on : Option (List ℕ)) (result : ℕ) → dn ≡ db → IfSome told (λ was. IsListing was lines) → Prints lines b m ob om
    → (o : Outcome) → IsOutcome (Ok Listed) o → Printed (last_lines o) (status_of_outcome o) m n om on result → ListEnds told db dn b n ob on result
listed_end told lines db dn b m n ob om on result same l p (Ended e) is q =
    (Ended e, lines, subst (λ (x : End). IfSome told (λ was. Reaches was (Ended x) lines)) (sym is) l, same, printed_on lines (last_lines (Ended e)) (status_of_outcome (Ended e)) b m n result ob om on p q)
listed_end told lines db dn b m n ob om on result same l p NoMemory is q = absurd is
listed_end told lines db dn b m n ob om on result same l p FaultDisk is q = absurd is

-- an end that says why nothing is listed
refused_end : (told : Option (List ℕ)) (end : End) (db dn b m n : ℕ) (ob om on : Option (List ℕ)) (result : ℕ) → dn ≡ db → (IsOutcome (Ok end) FaultDisk → ⊥) → IfSome told (λ was. Reaches was (Ended end) []) → Prints [] b m ob om
    → (o : Outcome) → IsOutcome (Ok end) o → Printed (last_lines o) (status_of_outcome o) m n om on result → ListEnds told db dn b n ob on result
refused_end told end db dn b m n ob om on result same never r p (Ended e) is q =
    (Ended e, [], subst (λ (x : End). IfSome told (λ was. Reaches was (Ended x) [])) (sym is) r, same, printed_on [] (last_lines (Ended e)) (status_of_outcome (Ended e)) b m n result ob om on p q)
refused_end told end db dn b m n ob om on result same never r p NoMemory is q =
    (NoMemory, [], if_all told (λ was. BeginsListing was []) (λ was. inl refl), same, printed_on [] (last_lines NoMemory) 5 b m n result ob om on p q)
refused_end told end db dn b m n ob om on result same never r p FaultDisk is q = absurd (never is)

memory_end : (told : Option (List ℕ)) (lines : List (List ℕ)) (db dn b m n : ℕ) (ob om on : Option (List ℕ)) (result : ℕ) → dn ≡ db → IfSome told (λ was. BeginsListing was lines) → Prints lines b m ob om
    → (o : Outcome) → IsOutcome (Err fault.NoMemory) o → Printed (last_lines o) (status_of_outcome o) m n om on result → ListEnds told db dn b n ob on result
memory_end told lines db dn b m n ob om on result same l p (Ended e) is q = absurd is
memory_end told lines db dn b m n ob om on result same l p NoMemory is q = (NoMemory, lines, l, same, printed_on lines (last_lines NoMemory) 5 b m n result ob om on p q)
memory_end told lines db dn b m n ob om on result same l p FaultDisk is q = absurd is

disk_end : (told : Option (List ℕ)) (lines : List (List ℕ)) (db dn b m n : ℕ) (ob om on : Option (List ℕ)) (result : ℕ) → Rises db dn → IfSome told (λ was. BeginsListing was lines) → Prints lines b m ob om
    → (o : Outcome) → IsOutcome (Err fault.Disk) o → Printed (last_lines o) (status_of_outcome o) m n om on result → ListEnds told db dn b n ob on result
disk_end told lines db dn b m n ob om on result rises l p (Ended e) is q = absurd is
disk_end told lines db dn b m n ob om on result rises l p NoMemory is q = absurd is
disk_end told lines db dn b m n ob om on result rises l p FaultDisk is q = (FaultDisk, lines, l, rises, printed_on lines (last_lines FaultDisk) 4 b m n result ob om on p q)

cut_end : (told : Option (List ℕ)) (lines : List (List ℕ)) (db dn b m n : ℕ) (ob om on : Option (List ℕ)) (result : ℕ) → dn ≡ db → IfSome told (λ was. IsListing was lines) → PrintsCut lines b m ob om → (result ≡ 4) × (n ≡ m) × (on ≡ om)
    → ListEnds told db dn b n ob on result
cut_end told lines db dn b m n ob om on result same l cut c =
    let whole : PrintsCut (lines ++ []) b m ob om = subst (λ (x : List (List ℕ)). PrintsCut x b m ob om) (sym (append-nil lines)) cut in
    let now : PrintsCut (lines ++ []) b n ob om = subst (λ (k : ℕ). PrintsCut (lines ++ []) b k ob om) (sym c.1) whole in
    (Ended Listed, lines, l, same, inr (c.0, subst (λ (o : Option (List ℕ)). PrintsCut (lines ++ []) b n ob o) (sym c.2) now))

pub all_end : (told : Option (List ℕ)) (r : Result End Fault) (db dn b m n : ℕ) (ob om on : Option (List ℕ)) (result : ℕ) → CountsDisk db dn r → Leaves told r b m ob om → Finishes r m n om on result → ListEnds told db dn b n ob on result
all_end told (Ok Listed) db dn b m n ob om on result c l e = let o = e.line (λ x. cc) in listed_end told l.0 db dn b m n ob om on result c l.1 l.2 o.0 o.1 o.2
all_end told (Ok RefusedNoStore) db dn b m n ob om on result c l e =
    let o = e.line (λ x. cc) in refused_end told RefusedNoStore db dn b m n ob om on result c (λ x. x) (if_map told (λ was. Refuses was RefusedNoStore) (λ was. Reaches was (Ended RefusedNoStore) []) (λ was r. (r, refl)) l.0) l.1 o.0 o.1 o.2
all_end told (Ok (RefusedDamaged p)) db dn b m n ob om on result c l e =
    let o = e.line (λ x. cc) in refused_end told (RefusedDamaged p) db dn b m n ob om on result c (λ x. x) (if_map told (λ was. Refuses was (RefusedDamaged p)) (λ was. Reaches was (Ended (RefusedDamaged p)) []) (λ was r. (r, refl)) l.0) l.1 o.0 o.1 o.2
all_end told (Err fault.NoMemory) db dn b m n ob om on result c l e = let o = e.line (λ x. cc) in memory_end told l.0 db dn b m n ob om on result c l.1 l.2 o.0 o.1 o.2
all_end told (Err fault.Disk) db dn b m n ob om on result c l e = let o = e.line (λ x. cc) in disk_end told l.0 db dn b m n ob om on result c l.1 l.2 o.0 o.1 o.2
all_end told (Err fault.Sink) db dn b m n ob om on result c l e = cut_end told l.0 db dn b m n ob om on result c l.1 l.2 (e.cut refl)
all_end told (Err fault.Files) db dn b m n ob om on result c l e = absurd l

-- ---- the status 4

status_not_four : (e : End) → status_of_outcome (Ended e) ≡ 4 → ⊥
status_not_four Listed h = cc
status_not_four RefusedNoStore h = cc
status_not_four (RefusedDamaged p) h = cc

pub only_four : (told : Option (List ℕ)) (db dn b n : ℕ) (ob on : Option (List ℕ)) (result : ℕ) → ListEnds told db dn b n ob on result → result ≡ 4 → Rises db dn ⊎ Rises b n
only_four told db dn b n ob on result (o, said, reach, counts, inr p) four = inr p.1.0
only_four told db dn b n ob on result (Ended e, said, reach, counts, inl p) four = absurd (status_not_four e (sym p.0 ∙ four))
only_four told db dn b n ob on result (NoMemory, said, reach, counts, inl p) four = absurd (let h : 5 ≡ 4 = sym p.0 ∙ four in cc)
only_four told db dn b n ob on result (FaultDisk, said, reach, counts, inl p) four = inl counts

pub not_four : (told : Option (List ℕ)) (db dn b n : ℕ) (ob on : Option (List ℕ)) (result : ℕ) → ListEnds told db dn b n ob on result → result ≢ 4 → (dn ≡ db) × (n ≡ b)
not_four told db dn b n ob on result (o, said, reach, counts, inr p) ne = absurd (ne p.0)
not_four told db dn b n ob on result (Ended e, said, reach, counts, inl p) ne = (counts, p.1.0)
not_four told db dn b n ob on result (NoMemory, said, reach, counts, inl p) ne = (counts, p.1.0)
not_four told db dn b n ob on result (FaultDisk, said, reach, counts, inl p) ne = absurd (ne p.0)

-- ---- the last line

pub lines_are : (e : End) → e ≢ Listed → end_lines e ≡ line (text_of e) ∷ []
lines_are Listed ne = absurd (ne refl)
lines_are RefusedNoStore ne = refl
lines_are (RefusedDamaged p) ne = refl
