use Rattle.std.proofs.Common.{ap, ◌∙◌}
use Rattle.avm_model.specs.HeadReading.{head_of}
use Rattle.avm_model.specs.HeadState.{state_of}
use Rattle.avm_model.specs.Reference.{Made}
use Rattle.avm_model.specs.Rerun.{start}
use Rattle.log_entry.proofs.Options.{is_some_is}
use Rattle.replayer.specs.Replaying.{Replaying}
use Rattle.auditor.proofs.replaying.replayed.Goals as goal

pub machine_from-requires : goal.machine_from-requires
machine_from-requires c =
    let h = is_some_is (head_of c.args.segment.now.head.now) c.requires.head in
    let k = c.requires.pages h.0 h.1 in
    (h.0, record { is = h.1; size = k.size; count = k.count })

pub returns-clause-fault : goal.returns-clause-fault
returns-clause-fault c = λ h e.
    c.fault_behind-fault.ensures (state_of h c.args.segment.now.pages.now) (ap (λ (r : Replaying). r.stand) c.new.ensures ∙ ap (start {O = Made}) (c.in_ok-machine.ensures.state h e))
