-- What a feed in memory shows.
use Rattle.std.specs.Prelude.{◌≡◌, ℕ, List}
use Rattle.avm_outside.specs.Feed.{Agenda}
use Rattle.avm_outside.specs.declared.list_feed.ListFeed.{ListFeed}

abbrev pub feed_agenda : ListFeed → Agenda
feed_agenda f = record { events = f.events.items; ending = f.end; clocks = f.clocks.items; asked = f.asked }

-- the numbers of the calls that fail
abbrev pub feed_fails : ListFeed → List ℕ
feed_fails f = f.calls.fails.items

-- how many calls there were
abbrev pub feed_calls : ListFeed → ℕ
feed_calls f = f.calls.calls

abbrev pub feed_faults : ListFeed → ℕ
feed_faults f = f.calls.faults

-- it is no call
abbrev pub SameCounts : ListFeed → ListFeed → Type 0
SameCounts old new = (feed_fails new ≡ feed_fails old) × (feed_calls new ≡ feed_calls old) × (feed_faults new ≡ feed_faults old)
