use Rattle.std.proofs.Common.{map, ap, ◌∙◌}
use Rattle.avm_plain.specs.Replay.{given_of, entry_of}
use Rattle.avm_plain.proofs.Running.{told}
use Rattle.avm_plain.proofs.replaying.replays.Goals as goal

pub returns : goal.returns
returns c =
    told c.is_front.result c.args.state.now (map entry_of c.args.entries.now) (map entry_of c.as_slice-2.result.now)
    (map given_of c.as_slice.result.now) c.last_count.result c.is_front.ensures
    (ap (map entry_of) c.as_slice-2.ensures.value ∙ c.in_ok-run.ensures)
    (ap (map given_of) c.as_slice.ensures.value ∙ c.in_ok-inputs.ensures)
    c.last_count.ensures
