-- How evidence is judged by a store, in this order: its file, its grammar, the store, its key, whether it holds, whether the store's
-- journal replays, whether it covers the evidence.
use Rattle.std.specs.Prelude.{◌≡◌, ℕ, Bool, true, false, List, Option, Some, None, IfSome, Result, Ok, Err}
use Rattle.std.specs.Str.{bytes_eq}
use Rattle.avm_model.specs.Evidence.{EvidData, evidence_at, key_of}
use Rattle.avm_model.specs.Holds.{Holds}
use Rattle.avm_model.specs.Machine.{State}
use Rattle.avm_outside.specs.Outside.{Rises}
use Rattle.command_parts.specs.declared.fault.Fault.{Fault}
use Rattle.command_parts.specs.declared.fault.Fault.TheVariants as fault
use Rattle.honest_model.specs.Honest.{IsFaultFrom, header_state}
use Rattle.journal_model.specs.Journal.{JournalData, Outcome, NoStore, Damaged, Is, entries, journal_of}
use Rattle.rebut_model.specs.Rebuts.{Answer, covers}
use Rattle.jrnl_store.specs.declared.fault.StoreFault.{StoreFault}
use Rattle.jrnl_store.specs.declared.fault.StoreFault.TheVariants as store
use Rattle.rebut_pass.specs.declared.fault.ReadFault.{ReadFault}
use Rattle.rebut_pass.specs.declared.fault.ReadFault.TheVariants as read
use Rattle.rebuttal.specs.Answers.{answer_view, IsAnswer}
use Rattle.rebuttal.specs.declared.answers.Rebuttal.{Rebuttal}
use Rattle.rebuttal.specs.declared.fault.RebutFault.{RebutFault}
use Rattle.rebuttal.specs.declared.fault.RebutFault.TheVariants as rebut
use Rattle.rebut_command.specs.declared.judging.Judged.{Judged}
use Rattle.rebut_command.specs.declared.judging.Judged.TheVariants as judged
use Rattle.rebut_command.specs.declared.refusal.Refusal.{Refusal}
use Rattle.rebut_command.specs.declared.refusal.Refusal.TheVariants as refusal

pub data JudgedData : Type 0 where
  refused : Refusal → JudgedData
  answered : Answer → JudgedData

abbrev pub judged_view : Judged → JudgedData
judged_view (judged.Refused r) = refused r
judged_view (judged.Answered a) = answered (answer_view a)

-- by the journal: its first entry that doesn't replay; else that it doesn't cover the evidence; else the answer
abbrev pub ReplayEnds : State → JournalData → EvidData → JudgedData → Type 0
ReplayEnds s j e (answered a) = IsAnswer s j e a
ReplayEnds s j e (refused (refusal.Journal n)) = IsFaultFrom j.header.first s (entries j) (Some n)
ReplayEnds s j e (refused refusal.Uncovered) = IsFaultFrom j.header.first s (entries j) None × (covers j e ≡ false)
ReplayEnds s j e (refused r) = ⊥

-- the evidence doesn't hold; else by the journal
abbrev pub HoldingEnds : State → JournalData → EvidData → JudgedData → Type 0
HoldingEnds s j e (refused refusal.Evidence) = Holds e → ⊥
HoldingEnds s j e r = Holds e × ReplayEnds s j e r

abbrev pub KeyBy : Bool → State → JournalData → EvidData → JudgedData → Type 0
KeyBy false s j e r = r ≡ refused refusal.Key
KeyBy true s j e r = HoldingEnds s j e r

-- the evidence is of another key; else whether it holds
abbrev pub KeyEnds : State → JournalData → EvidData → JudgedData → Type 0
KeyEnds s j e r = KeyBy (bytes_eq (key_of e) j.header.key) s j e r

abbrev pub HeadBy : Option State → JournalData → EvidData → JudgedData → Type 0
HeadBy None j e r = r ≡ refused refusal.NoStore
HeadBy (Some s) j e r = KeyEnds s j e r

-- the journal's head is none; else by the key
abbrev pub OpenEnds : JournalData → EvidData → JudgedData → Type 0
OpenEnds j e r = HeadBy (header_state j.header) j e r

abbrev pub StoreBy : Outcome → EvidData → JudgedData → Type 0
StoreBy NoStore e r = r ≡ refused refusal.NoStore
StoreBy (Damaged p) e r = r ≡ refused (refusal.Damaged p)
StoreBy (Is j) e r = OpenEnds j e r

-- the bytes of the store are none or damaged; else by their journal
abbrev pub StoreEnds : List ℕ → EvidData → JudgedData → Type 0
StoreEnds was e r = StoreBy (journal_of was) e r

-- the bytes are no evidence; else by the store, where its disk tells it
abbrev pub BytesEnd : Option EvidData → Option (List ℕ) → JudgedData → Type 0
BytesEnd None disk r = r ≡ refused refusal.Evidence
BytesEnd (Some e) disk r = IfSome disk (λ was. StoreEnds was e r)

-- the file isn't there; else by its bytes
abbrev pub FileEnd : Option (List ℕ) → Option (List ℕ) → JudgedData → Type 0
FileEnd None disk r = r ≡ refused refusal.File
FileEnd (Some bytes) disk r = BytesEnd (evidence_at bytes) disk r

-- the count of the disk's faults, and the causes of a fault
abbrev pub JudgeCounts : {T : Type 0} → ℕ → ℕ → Result T Fault → Type 0
JudgeCounts before now (Ok t) = now ≡ before
JudgeCounts before now (Err fault.NoMemory) = now ≡ before
JudgeCounts before now (Err fault.Disk) = Rises before now
JudgeCounts before now (Err e) = ⊥

-- ---- why there is no answer, from the layers below

abbrev pub unopened_of : StoreFault → Result Judged Fault
unopened_of store.NoMemory = Err fault.NoMemory
unopened_of store.DiskFault = Err fault.Disk
unopened_of (store.Damaged p) = Ok (judged.Refused (refusal.Damaged p))
unopened_of e = Ok (judged.Refused refusal.NoStore)

abbrev pub unread_of : ReadFault → Fault
unread_of read.NoMemory = fault.NoMemory
unread_of read.DiskFault = fault.Disk

abbrev pub answered_of : Result Rebuttal RebutFault → Result Judged Fault
answered_of (Ok r) = Ok (judged.Answered r)
answered_of (Err rebut.NoMemory) = Err fault.NoMemory
answered_of (Err rebut.DiskFault) = Err fault.Disk
answered_of (Err (rebut.Unreplayed n)) = Ok (judged.Refused (refusal.Journal n))
answered_of (Err rebut.Uncovered) = Ok (judged.Refused refusal.Uncovered)
