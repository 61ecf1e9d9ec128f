-- How retaining a store comes to its line.
use Rattle.std.specs.Prelude.{◌≡◌, ◌⊎◌, ℕ, List, [], ◌∷◌, Option, IfSome, OnOk, Err}
use Rattle.avm_outside.specs.Outside.{BothTold}
use Rattle.command_parts.specs.Printing.{line, Printed}
use Rattle.retain_command.specs.Ends.{Answer, status_of, text_of}
use Rattle.store_move.specs.Moving.{MoveCounts}
use Rattle.store_move.specs.declared.fault.RetainFault.TheVariants as fault
use Rattle.store_retain.specs.Retaining.{Opens, RetainAnswers, Retires, WhereLeft}

-- the counts of faults of both disks and of the output, before and now
pub record Counted : Type 0 where
  pub disk_before : ℕ
  pub disk_now : ℕ
  pub spare_before : ℕ
  pub spare_now : ℕ
  pub out_before : ℕ
  pub out_now : ℕ

-- a disk: what it tells before and now, and what a crash may leave now
pub record Told : Type 1 where
  pub was : Option (List ℕ)
  pub now : Option (List ℕ)
  pub images : List ℕ → Type 0

-- what holds where the store was only read, nothing was called on the spare, and the spare tells what it told
pub record Untouched : Type 1 where
  pub reads : Type 0
  pub quiet : Type 0
  pub same : Type 0

-- the answer's line and status are printed
abbrev pub Says : ℕ → Answer → ℕ → ℕ → Option (List ℕ) → Option (List ℕ) → ℕ → Type 0
Says at answer before now old new result = Printed (line (text_of at answer) ∷ []) (status_of answer) before now old new result

-- The answer that both disks give, where their bytes are told, with its line and its status; what it leaves of both disks.
pub record RetainEnds (at : ℕ) (store spare : Told) (u : Untouched) (n : Counted) (before after : Option (List ℕ)) (result : ℕ) : Type 0 where
  pub answer : Answer
  pub gives : IfSome store.was (λ was. RetainAnswers at was spare.was answer)
  pub opens : OnOk answer (IfSome store.was (λ was. BothTold spare.was spare.now (Opens at was spare.images)))
  pub retires : OnOk answer (BothTold store.was store.now (Retires at store.images))
  pub left : WhereLeft answer u.reads u.quiet u.same
  pub counts : MoveCounts n.disk_before n.disk_now n.spare_before n.spare_now answer
  pub said : Says at answer n.out_before n.out_now before after result

-- ---- what is said of an answer

-- a refusal with a number: its line takes memory
abbrev pub HasNumber : Answer → Type 0
HasNumber (Err (fault.Damaged p)) = Unit {0}
HasNumber (Err (fault.Unreplayed n)) = Unit {0}
HasNumber answer = ⊥

-- the answer itself, or want of memory
abbrev pub IsSaidOf : Answer → Answer → Type 0
IsSaidOf answer said = (said ≡ answer) ⊎ ((said ≡ Err fault.NoMemory) × HasNumber answer)
