-- The run of a sample: turns of the first node's recorder, and behind each what the other node says (docs/FORMATS.md, "The sample").
use Rattle.std.specs.Prelude.{◌≡◌, ℕ, ◌+◌, ◌*◌, ◌^◌, List, [], ◌∷◌, ◌++◌, drop, length}
use Rattle.avm_model.specs.Machine.{State}
use Rattle.avm_outside.specs.Feed.{Agenda, Timed, clock_of}
use Rattle.avm_outside.specs.Outlet.{Released, all_added, released}
use Rattle.honest_model.specs.Keeps.{IsOpened}
use Rattle.journal_model.specs.Journal.{JournalData}
use Rattle.record_laws.specs.Turns.{IsTurn}
use Rattle.record_model.specs.Recorded.{IsLast, Run, begun}
use Rattle.record_model.specs.Released.{Sender}
use Rattle.sample_model.specs.Other.{Said, Side, hear_all, next_said, side_of}
use Rattle.sample_model.specs.Start.{IsNewStore, own_key}

-- ---- what the first node has released

abbrev pub nothing : Released
nothing = record { packets = []; consoles = []; auths = [] }

abbrev pub released_by : Run → Released
released_by r = all_added released r.released nothing

-- ---- one exchange

-- the first node's run, and the other node
pub record Talk : Type 0 where
  pub run : Run
  pub side : Side

-- the clock request that comes next gets 1000 for itself and for each one before it
abbrev pub TellsTime : Agenda → Type 0
TellsTime p = clock_of p ≡ 1000 * (p.asked + 1)

-- with events behind those that remain, and these clock values
abbrev pub joined : Agenda → List Timed → List ℕ → Agenda
joined p events clocks = record p { events = p.events ++ events; clocks = clocks }

-- what the other node says to the packets that a run released more than another
abbrev pub said_behind : Talk → Run → Said
said_behind t run = hear_all t.side (drop (length (released_by t.run).packets) (released_by run).packets)

abbrev pub talk_behind : Run → Said → List ℕ → Talk
talk_behind run said clocks = record { run = record run { script = joined run.script said.events clocks }; side = said.side }

-- A turn of the first node, and what the other one says to it, which joins the events that remain.
pub record IsExchange (who : Sender) (before after : Talk) : Type 0 where
  pub time : TellsTime before.run.script
  pub run : Run
  pub turn_is : IsTurn who before.run run
  pub clocks : List ℕ
  pub behind : after ≡ talk_behind run (said_behind before run) clocks

-- exchanges from one talk to another, by the talks that they leave
abbrev pub AreExchanges : Sender → Talk → List Talk → Talk → Type 0
AreExchanges who t [] last = t ≡ last
AreExchanges who t (u ∷ us) last = IsExchange who t u × AreExchanges who u us last

-- ---- a whole run

-- no event is due later than at once, and the run ends at this count where it ends by itself
abbrev pub ending_count : ℕ
ending_count = 2 ^ 40

abbrev pub agenda : List Timed → List ℕ → Agenda
agenda events clocks = record { events = events; ending = ending_count; clocks = clocks; asked = 0 }

-- the other node's first message comes first
abbrev pub opening : JournalData → State → Said → List ℕ → Talk
opening j s first clocks = record { run = begun j s (agenda first.events clocks); side = first.side }

-- the first node signs with its key, and names itself in its packets
abbrev pub sender_of : ℕ → State → Sender
sender_of seed s = record { key = own_key seed; own = s.devices.own }

-- The run of a seed: from the new store by exchanges to where no event is left and the machine doesn't run, and then a seal; or to where a
-- batch can't be saved.
pub record IsSample (seed : ℕ) (last : Run) : Type 0 where
  pub store : JournalData
  pub new : IsNewStore seed store
  pub machine : State
  pub opened : IsOpened store machine
  pub clocks : List ℕ
  pub talks : List Talk
  pub end : Talk
  pub went : AreExchanges (sender_of seed machine) (opening store machine (next_said (side_of seed)) clocks) talks end
  pub last_is : IsLast (sender_of seed machine) end.run last
