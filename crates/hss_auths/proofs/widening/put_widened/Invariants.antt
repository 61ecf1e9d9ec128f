use Rattle.std.proofs.Common.{◌≡◌}
use Rattle.avm_num.specs.Room.{with_bytes, left}
use Rattle.hss_model.specs.HssFile.{widen_of}
use Rattle.hss_auths.specs.Lengths.{CanWiden}
use Rattle.hss_auths.specs.Views.{endorsement_view}
use Rattle.hss_auths.proofs.widening.put_widened.Given as goal

abbrev pub invariant-loop-auth : goal.invariant-loop-auth
invariant-loop-auth l =
    (with_bytes l.out (widen_of (endorsement_view l.endorsement) l.auth-iterator) ≡ with_bytes l.fn.out (widen_of (endorsement_view l.endorsement) l.fn.auths))
    × CanWiden (endorsement_view l.endorsement) l.auth-iterator (left l.out)
