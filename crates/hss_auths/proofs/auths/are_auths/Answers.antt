use Rattle.std.proofs.Common.{ap, sym, ◌∙◌, arith}
use Rattle.avm_num.specs.Walk.{is_nil}
use Rattle.hss_auths.proofs.HssAuthLaws.{auth_short, auth_behind_some}
use Rattle.hss_auths.proofs.auths.are_auths.Goals as goal

pub loop-auth-smaller : goal.loop-auth-smaller
loop-auth-smaller c = let h = auth_short _ _ c.in-Some.ensures in omega (arith, h)

pub loop-auth-preserved : goal.loop-auth-preserved
loop-auth-preserved c = ap is_nil (sym (auth_behind_some _ _ c.in-Some.ensures)) ∙ c.loop-auth.invariant
