-- How a view comes to its end.
use Rattle.std.proofs.Common.{◌≡◌, ◌≢◌, ◌⊎◌, inl, inr, ℕ, List, [], ◌∷◌, ◌++◌, Option, Some, None, refl, sym, subst, ◌∙◌, append-nil}
use Rattle.std.specs.Prelude.{Result, Ok, Err, IsErrOf, option_map}
use Rattle.avm_model.specs.Segment.{whole_segment_of}
use Rattle.avm_outside.specs.Outside.{Rises}
use Rattle.command_parts.specs.Printing.{line, Prints, PrintsCut, Printed}
use Rattle.view_command.specs.Ends.{text_of, end_lines}
use Rattle.command_parts.specs.Reading.{Finds, IsReadAs, IsOfReading}
use Rattle.command_parts.specs.declared.fault.Fault.{Fault}
use Rattle.command_parts.specs.declared.fault.Fault.TheVariants as fault
use Rattle.command_parts.proofs.Joined.{printed_on}
use Rattle.view_command.specs.Showing.{Read, Refuses, Leaves}
use Rattle.view_command.specs.Outcomes.{Outcome, Ended, NoMemory, FaultFiles, IsOutcome, Reaches, ViewEnds, last_lines, status_of_outcome}
use Rattle.view_command.specs.declared.ends.End.{End}
use Rattle.view_command.specs.declared.ends.End.TheVariants.{Shown, RefusedFile, RefusedMalformed, RefusedUncommitted, RefusedUncovered, RefusedRange}

-- ---- the file that was found

-- what was read of a file that is there is judged as its bytes are
pub record Found (told : Option (Option (List ℕ))) (got : List ℕ) : Type 0 where
  pub all : List ℕ
  pub finds : Finds told (Some all)
  pub same : whole_segment_of got ≡ whole_segment_of all

found_is : (told : Option (Option (List ℕ))) (got : List ℕ) → IsReadAs whole_segment_of told (Some got) → Found told got
found_is told got (None, finds, reads) = absurd reads
found_is told got (Some all, finds, reads) = record { all = all; finds = finds; same = reads }

-- under a name something is found
found_any : (told : Option (Option (List ℕ))) → (found : Option (List ℕ)) × Finds told found
found_any None = (None, tt)
found_any (Some was) = (was, refl)

-- ---- what is printed

-- the last lines, behind those that were printed
pub record Finishes (ended : Result End Fault) (before now : ℕ) (old new : Option (List ℕ)) (result : ℕ) : Type 0 where
  pub line : ended ≢ Err fault.Sink → (o : Outcome) × IsOutcome ended o × Printed (last_lines o) (status_of_outcome o) before now old new result
  pub cut : ended ≡ Err fault.Sink → (result ≡ 4) × (now ≡ before) × (new ≡ old)

-- ---- what was read is shown, or why not

reaches_refused : (Shows : Read → List (List ℕ) → Type 0) (Out : Read → Type 0) (got all : List ℕ) (end : End) → whole_segment_of got ≡ whole_segment_of all → Refuses Out (whole_segment_of got) end → Reaches Shows Out (Some all) (Ended end) []
reaches_refused Shows Out got all Shown same r = absurd r
reaches_refused Shows Out got all RefusedFile same r = absurd r
reaches_refused Shows Out got all RefusedMalformed same r = (all, refl, subst (λ (read : Read). Refuses Out read RefusedMalformed) same r, refl)
reaches_refused Shows Out got all RefusedUncommitted same r = (all, refl, subst (λ (read : Read). Refuses Out read RefusedUncommitted) same r, refl)
reaches_refused Shows Out got all (RefusedUncovered n) same r = (all, refl, subst (λ (read : Read). Refuses Out read (RefusedUncovered n)) same r, refl)
reaches_refused Shows Out got all RefusedRange same r = (all, refl, subst (λ (read : Read). Refuses Out read RefusedRange) same r, refl)

refused_end : (Shows : Read → List (List ℕ) → Type 0) (Out : Read → Type 0) (told : Option (Option (List ℕ))) (got : List ℕ) (end : End) (fb fn b m n : ℕ) (ob om on : Option (List ℕ)) (result : ℕ)
    → Found told got → fn ≡ fb → (IsOutcome (Ok end) FaultFiles → ⊥) → Refuses Out (whole_segment_of got) end → Prints [] b m ob om
    → (o : Outcome) → IsOutcome (Ok end) o → Printed (last_lines o) (status_of_outcome o) m n om on result → ViewEnds Shows Out told fb fn b n ob on result
refused_end Shows Out told got end fb fn b m n ob om on result f same never r p (Ended e) is q =
    (Ended e, [], Some f.all, f.finds, subst (λ (x : End). Reaches Shows Out (Some f.all) (Ended x) []) (sym is) (reaches_refused Shows Out got f.all end f.same r), same, printed_on [] (last_lines (Ended e)) (status_of_outcome (Ended e)) b m n result ob om on p q)
refused_end Shows Out told got end fb fn b m n ob om on result f same never r p NoMemory is q =
    (NoMemory, [], Some f.all, f.finds, inl refl, same, printed_on [] (last_lines NoMemory) 5 b m n result ob om on p q)
refused_end Shows Out told got end fb fn b m n ob om on result f same never r p FaultFiles is q = absurd (never is)

shown_end : (Shows : Read → List (List ℕ) → Type 0) (Out : Read → Type 0) (told : Option (Option (List ℕ))) (got : List ℕ) (lines : List (List ℕ)) (fb fn b m n : ℕ) (ob om on : Option (List ℕ)) (result : ℕ)
    → Found told got → fn ≡ fb → Shows (whole_segment_of got) lines → Prints lines b m ob om
    → (o : Outcome) → IsOutcome (Ok Shown) o → Printed (last_lines o) (status_of_outcome o) m n om on result → ViewEnds Shows Out told fb fn b n ob on result
shown_end Shows Out told got lines fb fn b m n ob om on result f same shows p (Ended e) is q =
    let q : Printed [] 0 m n om on result = subst (λ (x : End). Printed (last_lines (Ended x)) (status_of_outcome (Ended x)) m n om on result) is q in
    (Ended Shown, lines, Some f.all, f.finds, (f.all, refl, subst (λ (read : Read). Shows read lines) f.same shows), same, printed_on lines [] 0 b m n result ob om on p q)
shown_end Shows Out told got lines fb fn b m n ob om on result f same shows p NoMemory is q = absurd is
shown_end Shows Out told got lines fb fn b m n ob om on result f same shows p FaultFiles is q = absurd is

memory_end : (Shows : Read → List (List ℕ) → Type 0) (Out : Read → Type 0) (told : Option (Option (List ℕ))) (said rest : List (List ℕ)) (bytes : List ℕ) (fb fn b m n : ℕ) (ob om on : Option (List ℕ)) (result : ℕ)
    → Found told bytes → fn ≡ fb → Shows (whole_segment_of bytes) (said ++ rest) → Prints said b m ob om
    → (o : Outcome) → IsOutcome (Err fault.NoMemory) o → Printed (last_lines o) (status_of_outcome o) m n om on result → ViewEnds Shows Out told fb fn b n ob on result
memory_end Shows Out told said rest bytes fb fn b m n ob om on result f same shows p (Ended e) is q = absurd is
memory_end Shows Out told said rest bytes fb fn b m n ob om on result f same shows p NoMemory is q =
    (NoMemory, said, Some f.all, f.finds, inr (f.all, rest, refl, subst (λ (read : Read). Shows read (said ++ rest)) f.same shows), same, printed_on said (last_lines NoMemory) 5 b m n result ob om on p q)
memory_end Shows Out told said rest bytes fb fn b m n ob om on result f same shows p FaultFiles is q = absurd is

-- memory was wanted before a line was printed
early_end : (Shows : Read → List (List ℕ) → Type 0) (Out : Read → Type 0) (told : Option (Option (List ℕ))) (found : Option (List ℕ)) (fb fn b m n : ℕ) (ob om on : Option (List ℕ)) (result : ℕ)
    → Finds told found → fn ≡ fb → Prints [] b m ob om
    → (o : Outcome) → IsOutcome (Err fault.NoMemory) o → Printed (last_lines o) (status_of_outcome o) m n om on result → ViewEnds Shows Out told fb fn b n ob on result
early_end Shows Out told found fb fn b m n ob om on result f same p (Ended e) is q = absurd is
early_end Shows Out told found fb fn b m n ob om on result f same p NoMemory is q =
    (NoMemory, [], found, f, inl refl, same, printed_on [] (last_lines NoMemory) 5 b m n result ob om on p q)
early_end Shows Out told found fb fn b m n ob om on result f same p FaultFiles is q = absurd is

-- a print failed amid the lines
cut_end : (Shows : Read → List (List ℕ) → Type 0) (Out : Read → Type 0) (told : Option (Option (List ℕ))) (got : List ℕ) (lines : List (List ℕ)) (fb fn b m n : ℕ) (ob om on : Option (List ℕ)) (result : ℕ)
    → Found told got → fn ≡ fb → Shows (whole_segment_of got) lines → PrintsCut lines b m ob om → (result ≡ 4) × (n ≡ m) × (on ≡ om) → ViewEnds Shows Out told fb fn b n ob on result
cut_end Shows Out told got lines fb fn b m n ob om on result f same shows cut c =
    let whole : PrintsCut (lines ++ []) b m ob om = subst (λ (l : List (List ℕ)). PrintsCut l b m ob om) (sym (append-nil lines)) cut in
    let now : PrintsCut (lines ++ []) b n ob om = subst (λ (k : ℕ). PrintsCut (lines ++ []) b k ob om) (sym c.1) whole in
    (Ended Shown, lines, Some f.all, f.finds, (f.all, refl, subst (λ (read : Read). Shows read lines) f.same shows), same, inr (c.0, subst (λ (o : Option (List ℕ)). PrintsCut (lines ++ []) b n ob o) (sym c.2) now))

read_end : (Shows : Read → List (List ℕ) → Type 0) (Out : Read → Type 0) (told : Option (Option (List ℕ))) (got : List ℕ) (r : Result End Fault) (fb fn b m n : ℕ) (ob om on : Option (List ℕ)) (result : ℕ)
    → Found told got → fn ≡ fb → Leaves (Shows (whole_segment_of got)) (Refuses Out (whole_segment_of got)) r b m ob om → Finishes r m n om on result → ViewEnds Shows Out told fb fn b n ob on result
read_end Shows Out told got (Ok Shown) fb fn b m n ob om on result f same l e =
    let o = e.line (λ x. cc) in shown_end Shows Out told got l.0 fb fn b m n ob om on result f same l.1 l.2 o.0 o.1 o.2
read_end Shows Out told got (Ok RefusedFile) fb fn b m n ob om on result f same l e = absurd l.0
read_end Shows Out told got (Ok RefusedMalformed) fb fn b m n ob om on result f same l e =
    let o = e.line (λ x. cc) in refused_end Shows Out told got RefusedMalformed fb fn b m n ob om on result f same (λ x. x) l.0 l.1 o.0 o.1 o.2
read_end Shows Out told got (Ok RefusedUncommitted) fb fn b m n ob om on result f same l e =
    let o = e.line (λ x. cc) in refused_end Shows Out told got RefusedUncommitted fb fn b m n ob om on result f same (λ x. x) l.0 l.1 o.0 o.1 o.2
read_end Shows Out told got (Ok (RefusedUncovered k)) fb fn b m n ob om on result f same l e =
    let o = e.line (λ x. cc) in refused_end Shows Out told got (RefusedUncovered k) fb fn b m n ob om on result f same (λ x. x) l.0 l.1 o.0 o.1 o.2
read_end Shows Out told got (Ok RefusedRange) fb fn b m n ob om on result f same l e =
    let o = e.line (λ x. cc) in refused_end Shows Out told got RefusedRange fb fn b m n ob om on result f same (λ x. x) l.0 l.1 o.0 o.1 o.2
read_end Shows Out told got (Err fault.NoMemory) fb fn b m n ob om on result f same (inl p) e =
    let o = e.line (λ x. cc) in early_end Shows Out told (Some f.all) fb fn b m n ob om on result f.finds same p o.0 o.1 o.2
read_end Shows Out told got (Err fault.NoMemory) fb fn b m n ob om on result f same (inr l) e =
    let o = e.line (λ x. cc) in
    let s = l.2 in memory_end Shows Out told s.0 s.1 got fb fn b m n ob om on result f same (subst (λ (x : List (List ℕ)). Shows (whole_segment_of got) x) s.2 l.1) s.3 o.0 o.1 o.2
read_end Shows Out told got (Err fault.Files) fb fn b m n ob om on result f same l e = absurd l
read_end Shows Out told got (Err fault.Disk) fb fn b m n ob om on result f same l e = absurd l
read_end Shows Out told got (Err fault.Sink) fb fn b m n ob om on result f same l e = cut_end Shows Out told got l.0 fb fn b m n ob om on result f same l.1 l.2 (e.cut refl)

-- of a file that was read
pub shown_or_not : (Shows : Read → List (List ℕ) → Type 0) (Out : Read → Type 0) (told : Option (Option (List ℕ))) (got : List ℕ) (r : Result End Fault) (fb fn b m n : ℕ) (ob om on : Option (List ℕ)) (result : ℕ)
    → IsReadAs whole_segment_of told (Some got) → fn ≡ fb → Leaves (Shows (whole_segment_of got)) (Refuses Out (whole_segment_of got)) r b m ob om → Finishes r m n om on result → ViewEnds Shows Out told fb fn b n ob on result
shown_or_not Shows Out told got r fb fn b m n ob om on result is same l e = read_end Shows Out told got r fb fn b m n ob om on result (found_is told got is) same l e

-- the option that a call gave
pub read_some : {V : Type 0} (items : V → List ℕ) (o : Option V) (v : V) (told : Option (Option (List ℕ))) → o ≡ Some v → IsReadAs whole_segment_of told (option_map items o) → IsReadAs whole_segment_of told (Some (items v))
read_some {V} items o v told e r = subst (λ (x : Option V). IsReadAs whole_segment_of told (option_map items x)) e r

pub read_none : {V : Type 0} (items : V → List ℕ) (o : Option V) (told : Option (Option (List ℕ))) → o ≡ None → IsReadAs whole_segment_of told (option_map items o) → IsReadAs whole_segment_of told None
read_none {V} items o told e r = subst (λ (x : Option V). IsReadAs whole_segment_of told (option_map items x)) e r

-- of a file that isn't there
pub missing_end : (Shows : Read → List (List ℕ) → Type 0) (Out : Read → Type 0) (told : Option (Option (List ℕ))) (fb fn b n : ℕ) (ob on : Option (List ℕ)) (result : ℕ)
    → IsReadAs whole_segment_of told None → fn ≡ fb → Finishes (Ok RefusedFile) b n ob on result → ViewEnds Shows Out told fb fn b n ob on result
missing_end Shows Out told fb fn b n ob on result (Some all, finds, reads) same e = absurd reads
missing_end Shows Out told fb fn b n ob on result (None, finds, reads) same e = let o = e.line (λ x. cc) in go o.0 o.1 o.2
  where
    go : (o : Outcome) → IsOutcome (Ok RefusedFile) o → Printed (last_lines o) (status_of_outcome o) b n ob on result → ViewEnds Shows Out told fb fn b n ob on result
    go (Ended x) is q = (Ended x, [], None, finds, subst (λ (y : End). Reaches Shows Out None (Ended y) []) (sym is) (refl, refl), same, q)
    go NoMemory is q = (NoMemory, [], None, finds, inl refl, same, q)
    go FaultFiles is q = absurd is

-- of a file that couldn't be read
pub unread_end : (Shows : Read → List (List ℕ) → Type 0) (Out : Read → Type 0) {A : Type 0} (told : Option (Option (List ℕ))) (e : Fault) (fb fn b n : ℕ) (ob on : Option (List ℕ)) (result : ℕ)
    → IsOfReading e → (IsErrOf {T = A} (Err e) fault.Files → Rises fb fn) → (◌≢◌ {A = Result A Fault} (Err e) (Err fault.Files) → fn ≡ fb) → Finishes (Err e) b n ob on result → ViewEnds Shows Out told fb fn b n ob on result
unread_end Shows Out told fault.NoMemory fb fn b n ob on result is rises same e = let o = e.line (λ x. cc) in go o.0 o.1 o.2
  where
    go : (o : Outcome) → IsOutcome (Err fault.NoMemory) o → Printed (last_lines o) (status_of_outcome o) b n ob on result → ViewEnds Shows Out told fb fn b n ob on result
    go (Ended x) is q = absurd is
    go NoMemory is q = let f = found_any told in (NoMemory, [], f.0, f.1, inl refl, same (λ x. cc), q)
    go FaultFiles is q = absurd is
unread_end Shows Out told fault.Files fb fn b n ob on result is rises same e = let o = e.line (λ x. cc) in go o.0 o.1 o.2
  where
    go : (o : Outcome) → IsOutcome (Err fault.Files) o → Printed (last_lines o) (status_of_outcome o) b n ob on result → ViewEnds Shows Out told fb fn b n ob on result
    go (Ended x) is q = absurd is
    go NoMemory is q = absurd is
    go FaultFiles is q = let f = found_any told in (FaultFiles, [], f.0, f.1, refl, rises refl, q)
unread_end Shows Out told fault.Disk fb fn b n ob on result is rises same e = absurd is
unread_end Shows Out told fault.Sink fb fn b n ob on result is rises same e = absurd is

-- ---- the status 4

status_not_four : (e : End) → status_of_outcome (Ended e) ≡ 4 → ⊥
status_not_four Shown h = cc
status_not_four RefusedFile h = cc
status_not_four RefusedMalformed h = cc
status_not_four RefusedUncommitted h = cc
status_not_four (RefusedUncovered n) h = cc
status_not_four RefusedRange h = cc

pub only_four : (Shows : Read → List (List ℕ) → Type 0) (Out : Read → Type 0) (told : Option (Option (List ℕ))) (fb fn b n : ℕ) (ob on : Option (List ℕ)) (result : ℕ)
    → ViewEnds Shows Out told fb fn b n ob on result → result ≡ 4 → Rises fb fn ⊎ Rises b n
only_four Shows Out told fb fn b n ob on result (o, said, found, finds, reach, counts, inr p) four = inr p.1.0
only_four Shows Out told fb fn b n ob on result (Ended e, said, found, finds, reach, counts, inl p) four = absurd (status_not_four e (sym p.0 ∙ four))
only_four Shows Out told fb fn b n ob on result (NoMemory, said, found, finds, reach, counts, inl p) four = absurd (let h : 5 ≡ 4 = sym p.0 ∙ four in cc)
only_four Shows Out told fb fn b n ob on result (FaultFiles, said, found, finds, reach, counts, inl p) four = inl counts

pub not_four : (Shows : Read → List (List ℕ) → Type 0) (Out : Read → Type 0) (told : Option (Option (List ℕ))) (fb fn b n : ℕ) (ob on : Option (List ℕ)) (result : ℕ)
    → ViewEnds Shows Out told fb fn b n ob on result → result ≢ 4 → (fn ≡ fb) × (n ≡ b)
not_four Shows Out told fb fn b n ob on result (o, said, found, finds, reach, counts, inr p) ne = absurd (ne p.0)
not_four Shows Out told fb fn b n ob on result (Ended e, said, found, finds, reach, counts, inl p) ne = (counts, p.1.0)
not_four Shows Out told fb fn b n ob on result (NoMemory, said, found, finds, reach, counts, inl p) ne = (counts, p.1.0)
not_four Shows Out told fb fn b n ob on result (FaultFiles, said, found, finds, reach, counts, inl p) ne = absurd (ne p.0)

-- ---- the last line

pub lines_are : (e : End) → e ≢ Shown → end_lines e ≡ line (text_of e) ∷ []
lines_are Shown ne = absurd (ne refl)
lines_are RefusedFile ne = refl
lines_are RefusedMalformed ne = refl
lines_are RefusedUncommitted ne = refl
lines_are (RefusedUncovered n) ne = refl
lines_are RefusedRange ne = refl
