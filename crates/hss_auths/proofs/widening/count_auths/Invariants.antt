use Rattle.std.proofs.Common.{◌≡◌, ◌+◌, length}
use Rattle.hss_auths.proofs.widening.count_auths.Given as goal

abbrev pub invariant-loop-auth : goal.invariant-loop-auth
invariant-loop-auth l = l.n + length l._auth-iterator ≡ length l.fn.auths
