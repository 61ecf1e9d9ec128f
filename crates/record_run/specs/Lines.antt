-- The line of an event that is dropped.
use Rattle.std.specs.Prelude.{ℕ, List, ◌++◌, codes, map}
use Rattle.std.specs.Fmt.{decimal}
use Rattle.avm_model.specs.declared.NotTaken.{NotTaken}
use Rattle.avm_model.specs.declared.NotTaken.TheVariants.{NotPacket, UnknownPeer, NotForUs, NotAuthentic, Repeated, WrongNumber, NotOutstanding, NotAsked, Halted, ClockPending, Full}
use Rattle.command_parts.specs.Printing.{line}
use Rattle.record_model.specs.Recorded.{Drop}

-- the cause in lower case
abbrev pub cause_of : NotTaken → List ℕ
cause_of NotPacket = codes "notpacket"
cause_of UnknownPeer = codes "unknownpeer"
cause_of NotForUs = codes "notforus"
cause_of NotAuthentic = codes "notauthentic"
cause_of Repeated = codes "repeated"
cause_of WrongNumber = codes "wrongnumber"
cause_of NotOutstanding = codes "notoutstanding"
cause_of NotAsked = codes "notasked"
cause_of Halted = codes "halted"
cause_of ClockPending = codes "clockpending"
cause_of Full = codes "full"

abbrev pub drop_text : Drop → List ℕ
drop_text d = codes "dropped " ++ cause_of d.why ++ codes " " ++ decimal d.count

-- the lines of the events that are dropped
abbrev pub drop_lines : List Drop → List (List ℕ)
drop_lines ds = map (λ d. line (drop_text d)) ds
