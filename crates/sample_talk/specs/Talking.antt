-- The two nodes in memory, as a talk.
use Rattle.std.specs.Prelude.{◌≡◌, ◌<◌, ◌*◌, ◌++◌, ◌∷◌, [], ℕ, zero, suc, List, drop, length, Some, Result, Ok, Err}
use Rattle.avm_outside.specs.Feed.{Agenda, Timed}
use Rattle.avm_outside.specs.declared.list_feed.ListFeed.{ListFeed}
use Rattle.avm_outside.specs.MemFeed.{feed_agenda}
use Rattle.avm_outside.specs.MemOutlets.{outlet_released}
use Rattle.journal_model.specs.Saving.{CommitRefusal}
use Rattle.record_model.specs.Recorded.{HasEnded}
use Rattle.record_model.specs.Released.{Sender}
use Rattle.sample_model.specs.Other.{Said, Side, followed, hear_all, says}
use Rattle.sample_model.specs.Talk.{IsExchange, Talk as TalkOf, joined, released_by}
use Rattle.sample_node.specs.Node.{IsLeft, IsNode}
use Rattle.sample_other.specs.Saying.{Adds, IsWithin}
use Rattle.sample_node.specs.declared.node.Progress.{Progress}
use Rattle.sample_node.specs.declared.node.Progress.TheVariants.{GoesOn, Ended, Stopped}
use Rattle.sample_talk.specs.declared.talk.Talk.{Talk}

-- ---- clock values

-- 1000, 2000 and so on, k of them
unfoldable pub thousands : ℕ → List ℕ
thousands zero = []
thousands (suc k) = thousands k ++ 1000 * suc k ∷ []

-- k values, of which one is left
pub record Times (k : ℕ) (p : Agenda) : Type 0 where
  pub values : p.clocks ≡ thousands k
  pub left : p.asked < k

-- ---- hearing

-- what the other node says to all that it hears is what it has said so far, and then what it says to the packets from a place on
pub record IsHearing (all : Said) (packets : List (ℕ × List ℕ)) (place : ℕ) (side : Side) (old new : ListFeed) : Type 0 where
  pub events : List Timed
  pub adds : Adds events old new
  pub rest : all ≡ followed (says side events) (λ c. hear_all c (drop place packets))

-- ---- a talk

-- the first node's run goes on, the other node has heard all that it has released, and the feed has k clock values
pub record IsTalk (k : ℕ) (t : Talk) (m : TalkOf) : Type 0 where
  pub node : IsNode t.node m.run
  pub side : t.other ≡ m.side
  pub within : IsWithin 1 t.other
  pub heard : t.heard ≡ length (released_by m.run).packets
  pub times : Times k m.run.script

-- what the other node says to the packets that it hasn't heard
abbrev pub unheard : Talk → Said
unheard t = hear_all t.other (drop t.heard (outlet_released t.node.outlet).packets)

-- it was said, with one clock value more
pub record Answered (next : ℕ) (o n : Talk) : Type 0 where
  pub side : n.other ≡ (unheard o).side
  pub script : feed_agenda n.node.feed ≡ joined (feed_agenda o.node.feed) (unheard o).events ((feed_agenda o.node.feed).clocks ++ 1000 * next ∷ [])
  pub within : IsWithin 1 n.other
  pub heard : n.heard ≡ length (outlet_released o.node.outlet).packets
  pub recorder : n.node.recorder ≡ o.node.recorder
  pub disk : n.node.disk ≡ o.node.disk
  pub outlet : n.node.outlet ≡ o.node.outlet

-- an exchange was made, and the run goes on
pub record Exchanged (k : ℕ) (who : Sender) (t : Talk) (before : TalkOf) : Type 0 where
  pub after : TalkOf
  pub exchange : IsExchange who before after
  pub talk : IsTalk k t after

-- the run was stopped by it
pub record StopsTalk (who : Sender) (t : Talk) (before : TalkOf) : Type 0 where
  pub after : TalkOf
  pub exchange : IsExchange who before after
  pub why : CommitRefusal
  pub stop : after.run.stop ≡ Some why
  pub left : IsLeft t.node after.run

abbrev pub ExchangeEnds : {E : Type 0} → ℕ → Sender → Talk → TalkOf → Result Progress E → Type 0
ExchangeEnds k who t m (Ok GoesOn) = Exchanged k who t m
ExchangeEnds k who t m (Ok Ended) = HasEnded m.run × IsNode t.node m.run
ExchangeEnds k who t m (Ok Stopped) = StopsTalk who t m
ExchangeEnds k who t m (Err e) = Unit {0}
