use Rattle.std.proofs.Common.{◌≡◌, ◌-◌, ◌^◌}
use Rattle.avm_model.specs.Auth.{AuthData}
use Rattle.audit_stream.specs.Numbers.{least_above}
use Rattle.auditor.proofs.covering.number_above.Given as goal

abbrev pub invariant-loop-auth : goal.invariant-loop-auth
invariant-loop-auth l = least_above (λ (a : AuthData). a.seq) l.seq l.least l.auth-iterator ≡ least_above (λ (a : AuthData). a.seq) l.seq (2 ^ 64 - 1) l.fn.auths
