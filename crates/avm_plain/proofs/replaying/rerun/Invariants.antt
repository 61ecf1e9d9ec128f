use Rattle.std.proofs.Common.{◌≡◌, ◌+◌, ◌-◌, ◌++◌, map, length}
use Rattle.avm_model.specs.Rerun.{rerun}
use Rattle.avm_plain.specs.Replay.{plain, given_of, entry_of, entries_in}
use Rattle.avm_plain.proofs.replaying.rerun.Given as goal

abbrev pub invariant-loop-entries : goal.invariant-loop-entries
invariant-loop-entries l =
    map entry_of l.entries.items ++ entries_in (rerun plain l.state (map given_of l.rest) l.end)
    ≡ entries_in (rerun plain l.fn.state (map given_of l.inputs) l.end)

abbrev pub decreases-loop-entries : goal.decreases-loop-entries
decreases-loop-entries l = length l.rest + (l.end - l.state.count)
