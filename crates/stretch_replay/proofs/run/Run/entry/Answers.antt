use Rattle.std.proofs.Common.{arith, refl}
use Rattle.log_entry.specs.Views.{frame_view}
use Rattle.stretch_replay.proofs.Running.{is_past, not_past, runs_on, runs_past}
use Rattle.stretch_replay.proofs.run.Run.entry.Goals as goal

pub returns-then-frame-self-clause-runs : goal.returns-then-frame-self-clause-runs
returns-then-frame-self-clause-runs c = runs_past c.args.self.now (frame_view c.args.frame.now) (omega (arith, c.if-self-gt0.false)) c.if-self.false (is_past _ _ c.if-frame-self.true)

pub returns-clause-runs : goal.returns-clause-runs
returns-clause-runs c = runs_on c.args.self.now _ (frame_view c.args.frame.now) (omega (arith, c.if-self-gt0.false)) c.if-self.false (not_past _ _ c.if-frame-self.false) refl refl refl c.entry.ensures
