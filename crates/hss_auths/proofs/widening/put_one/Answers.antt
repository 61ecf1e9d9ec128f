use Rattle.std.proofs.Common.{sym}
use Rattle.avm_auth.specs.Views.{auth_view}
use Rattle.hss_auths.specs.Views.{endorsement_view}
use Rattle.hss_auths.proofs.Puts.{widened_written, signature_size}
use Rattle.hss_auths.proofs.widening.put_one.Goals as goal

pub returns-clause-value : goal.returns-clause-value
returns-clause-value c =
    rw (c.put-4.ensures.value, c.put-3.ensures.value, c.put-2.ensures.value, c.put_u32-2.ensures.value, c.put_u32.ensures.value, c.put.ensures.value, c.put_u64.ensures.value)
    (widened_written c.args.out.now (endorsement_view c.args.endorsement.now) (auth_view c.args.auth.now) _ (sym (signature_size c.args.endorsement.now.upper.now c.args.endorsement.now.bottom.now c.args.auth.now.sig.now c.requires.bottom)))
