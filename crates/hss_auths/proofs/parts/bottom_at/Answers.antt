use Rattle.hss_auths.proofs.Puts.{cut_bottom}
use Rattle.hss_auths.proofs.parts.bottom_at.Goals as goal

pub returns : goal.returns
returns c = rw (c.min-from.ensures, c.min-to.ensures) (cut_bottom c.args.n c.args.sig.now)
