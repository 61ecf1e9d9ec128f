use Rattle.std.proofs.Common.{◌≡◌, length}
use Rattle.avm_num.specs.Walk.{is_nil, behind_of}
use Rattle.hss_model.specs.HssFile.{hss_auth_at}
use Rattle.hss_auths.proofs.auths.are_auths.Given as goal

abbrev pub invariant-loop-auth : goal.invariant-loop-auth
invariant-loop-auth l = is_nil (behind_of hss_auth_at l.view) ≡ is_nil (behind_of hss_auth_at l.fn.bytes)

abbrev pub decreases-loop-auth : goal.decreases-loop-auth
decreases-loop-auth l = length l.view
