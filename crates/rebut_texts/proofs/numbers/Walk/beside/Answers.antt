use Rattle.avm_model.specs.Frame.{frames_of}
use Rattle.log_entry.specs.Views.{frame_view}
use Rattle.rebut_texts.specs.Walk.{walk_view}
use Rattle.rebut_texts.proofs.Walks.{beside, ended}
use Rattle.rebut_texts.proofs.numbers.Walk.beside.Goals as goal

pub returns-in-Some : goal.returns-in-Some
returns-in-Some c = beside c.compare.result (walk_view c.args.self.now) (walk_view c.compare.new.self) (frame_view c.args.frame.now) (frame_view c.in-Some.theirs) (frames_of c.next.new.self) c.requires c.in-Some.ensures.steps.0 c.compare.ensures

pub returns-in-None : goal.returns-in-None
returns-in-None c = ended (walk_view c.args.self.now) (frame_view c.args.frame.now) (frames_of c.next.new.self) c.requires c.in-None.ensures.steps.0.0 c.in-None.ensures.steps.0.1
