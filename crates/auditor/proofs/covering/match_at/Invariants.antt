use Rattle.std.proofs.Common.{◌≡◌, ◌≤◌, ◌+◌, ◌^◌, length}
use Rattle.avm_model.specs.Basics.{first_at}
use Rattle.auditor.specs.Covering.{is_at}
use Rattle.auditor.proofs.covering.match_at.Given as goal

abbrev pub invariant-loop-auth : goal.invariant-loop-auth
invariant-loop-auth l = (first_at (is_at l.seq l.hash.0) l.i l.auth-iterator ≡ first_at (is_at l.seq l.hash.0) 0 l.fn.auths) × (l.i + length l.auth-iterator ≤ 2 ^ 24)
