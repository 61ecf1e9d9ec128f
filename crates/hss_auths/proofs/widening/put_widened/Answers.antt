use Rattle.std.proofs.Common.{◌≡◌, ◌∷◌, [], arith}
use Rattle.avm_auth.specs.Views.{auth_view}
use Rattle.hss_auths.specs.Views.{endorsement_view}
use Rattle.hss_auths.proofs.Puts.{widen_more, widen_done}
use Rattle.hss_auths.proofs.widening.put_widened.Goals as goal

pub loop-auth-preserved : goal.loop-auth-preserved
loop-auth-preserved c =
    let s : c.loop-auth.auth-iterator ≡ auth_view c.in-Some.auth ∷ c.next.new.self = c.in-Some.ensures.steps in
    let i = rw s at c.loop-auth.invariant in
    let room = i.1.room_is in
    let left = c.put_one.ensures.left in (
      widen_more _ _ _ (endorsement_view c.args.endorsement.now) _ _ c.put_one.ensures.value i.0,
      record { upper = c.requires.can.upper; fits = i.1.fits.1; room_is = omega (arith, room, left) },
    )

pub returns : goal.returns
returns c =
    let s : c.loop-auth.auth-iterator ≡ [] = c.in-None.ensures.steps.0 in
    let i = rw s at c.loop-auth.invariant in
    widen_done _ _ (endorsement_view c.args.endorsement.now) i.0
