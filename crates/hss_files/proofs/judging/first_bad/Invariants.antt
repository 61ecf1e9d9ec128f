use Rattle.std.proofs.Common.{◌≡◌, ◌≤◌, ◌+◌, ◌^◌, not, length}
use Rattle.avm_model.specs.Basics.{first_at}
use Rattle.hss_model.specs.HssFile.{is_good}
use Rattle.hss_files.proofs.judging.first_bad.Given as goal

abbrev pub invariant-loop-auth : goal.invariant-loop-auth
invariant-loop-auth l = (first_at (λ a. not (is_good l.top a)) l.i l.auth-iterator ≡ first_at (λ a. not (is_good l.top a)) 0 l.fn.auths) × (l.i + length l.auth-iterator ≤ 2 ^ 25)
