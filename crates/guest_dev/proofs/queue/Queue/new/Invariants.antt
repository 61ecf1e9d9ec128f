use Rattle.std.proofs.Common.{◌≡◌, length}
use Rattle.guest_dev.proofs.queue.Queue.new.Given as goal

abbrev pub invariant-loop : goal.invariant-loop
invariant-loop l = record { capacity : l.ring.capacity ≡ 8; filled : length l.ring.items ≡ l.counter }
