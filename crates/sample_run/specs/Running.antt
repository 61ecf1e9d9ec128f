-- How the run of a sample goes.
use Rattle.std.specs.Prelude.{◌≡◌, ℕ, List, None}
use Rattle.lms_signer.specs.Views.{key_data}
use Rattle.record_model.specs.Recorded.{IsLast, Run}
use Rattle.record_model.specs.Released.{Sender}
use Rattle.recorder.specs.Recorder.{stop_of}
use Rattle.sample_model.specs.Start.{own_key}
use Rattle.sample_model.specs.Talk.{AreExchanges, IsSample, Talk as TalkOf}
use Rattle.sample_node.specs.Node.{IsLeft}
use Rattle.sample_talk.specs.declared.talk.Talk.{Talk}
use Rattle.sample_run.specs.declared.running.Sampled.{Sampled}

-- exchanges were made to the end of the run, and the first node, which wasn't stopped, has what it left
pub record Converses (who : Sender) (m : TalkOf) (t : Talk) : Type 0 where
  pub talks : List TalkOf
  pub end : TalkOf
  pub went : AreExchanges who m talks end
  pub last : Run
  pub last_is : IsLast who end.run last
  pub left : IsLeft t.node last
  pub running : stop_of t.node.recorder ≡ None

-- the run of the seed, and what it left
pub record IsSampled (seed : ℕ) (x : Sampled) : Type 0 where
  pub key : key_data x.key ≡ own_key seed
  pub last : Run
  pub sample : IsSample seed last
  pub left : IsLeft x.node last
  pub running : stop_of x.node.recorder ≡ None
