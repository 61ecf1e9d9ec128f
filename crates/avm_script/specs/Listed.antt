-- A script that is kept as a list of events.
use Rattle.std.specs.Prelude.{◌≡◌, []}
use Rattle.avm_outside.specs.Feed.{Agenda}
use Rattle.avm_outside.specs.MemFeed.{feed_agenda, feed_fails}
use Rattle.avm_outside.specs.declared.list_feed.ListFeed.{ListFeed}
use Rattle.avm_script.specs.Script.{ScriptData}

abbrev pub script_in : ListFeed → ScriptData
script_in f = record { events = (feed_agenda f).events; clocks = (feed_agenda f).clocks; ending = (feed_agenda f).ending }

-- no call fails, and no clock request was answered
abbrev pub IsFresh : ListFeed → Type 0
IsFresh f = (feed_fails f ≡ []) × ((feed_agenda f).asked ≡ 0)

-- a script before its run
abbrev pub agenda_of : ScriptData → Agenda
agenda_of s = record { events = s.events; ending = s.ending; clocks = s.clocks; asked = 0 }
