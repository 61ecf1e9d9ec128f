-- What the feed of a run shows.
use Rattle.avm_outside.specs.Feed.{Agenda}
use Rattle.avm_script.specs.Feeds.{script_agenda}
use Rattle.record_run.specs.declared.feeding.SureFeed.{SureFeed}

abbrev pub sure_agenda : SureFeed → Agenda
sure_agenda f = script_agenda f.feed
