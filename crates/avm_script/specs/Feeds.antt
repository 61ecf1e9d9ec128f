-- What a script's feed shows.
use Rattle.std.specs.Prelude.{ℕ}
use Rattle.avm_outside.specs.Feed.{Agenda}
use Rattle.avm_outside.specs.MemFeed.{feed_agenda, feed_faults}
use Rattle.avm_script.specs.declared.script_feed.ScriptFeed.{ScriptFeed}

abbrev pub script_agenda : ScriptFeed → Agenda
script_agenda f = feed_agenda f.list

abbrev pub script_faults : ScriptFeed → ℕ
script_faults f = feed_faults f.list
