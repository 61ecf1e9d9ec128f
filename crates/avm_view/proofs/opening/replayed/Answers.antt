use Rattle.std.proofs.Common.{ap, ◌∙◌}
use Rattle.avm_model.specs.HeadState.{state_of}
use Rattle.avm_model.specs.Reference.{Made}
use Rattle.avm_model.specs.Rerun.{start}
use Rattle.replayer.specs.Replaying.{Replaying}
use Rattle.avm_view.proofs.opening.replayed.Goals as goal

pub returns-clause-fault : goal.returns-clause-fault
returns-clause-fault c = λ h e.
    c.in_ok-course.ensures.fault (state_of h c.args.parts.now.pages.now) (ap (λ (r : Replaying). r.stand) c.new.ensures ∙ ap (start {O = Made}) (c.in_ok-machine.ensures.state h e))

pub returns-clause-aside : goal.returns-clause-aside
returns-clause-aside c = λ h e.
    c.in_ok-course.ensures.aside (state_of h c.args.parts.now.pages.now) (ap (λ (r : Replaying). r.stand) c.new.ensures ∙ ap (start {O = Made}) (c.in_ok-machine.ensures.state h e))
