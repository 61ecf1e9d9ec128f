use Rattle.std.proofs.Common.{ap, sym, ◌∙◌}
use Rattle.avm_model.specs.Evidence.{fork_at}
use Rattle.evid_file.proofs.Forks.{fork_over}
use Rattle.evid_file.proofs.reading.fork.Goals as goal

pub returns-then-not-is_empty : goal.returns-then-not-is_empty
returns-then-not-is_empty c =
    let over = sym c.is_empty.ensures ∙ c.if-not-is_empty.true in
    sym (ap (fork_at c.args.key) (sym c.new-view.ensures) ∙ fork_over c.args.key _ _ _ _ _ _ _ _ _ _ _ c.in_ok-start.ensures c.in_ok-before.ensures.value c.in_ok-frames.ensures c.in_ok-top.ensures c.in_ok-other.ensures (rw c.rest.ensures.value at over))
