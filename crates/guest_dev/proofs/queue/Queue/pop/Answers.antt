use Rattle.std.proofs.Common.{drop, sym, ap, ◌∙◌}
use Rattle.std.proofs.lemmas.List.{drop-drop}
use Rattle.guest_dev.proofs.queue.Queue.pop.Goals as goal

pub returns-then-self-lt-PLACES : goal.returns-then-self-lt-PLACES
returns-then-self-lt-PLACES c = sym (drop-drop 1 c.self.inside.free c.self.inside.ring.items) ∙ ap (drop 1) c.self.view_is
