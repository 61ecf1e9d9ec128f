use Rattle.std.proofs.Common.{sym, ◌∙◌}
use Rattle.hss_auths.proofs.HssAuthLaws.{hss_size}
use Rattle.hss_auths.proofs.auths.read_hss_auths.Goals as goal

pub returns-then-are_auths-clause-sized : goal.returns-then-are_auths-clause-sized
returns-then-are_auths-clause-sized c = rw c.new-then-are_auths.ensures (hss_size _ (rw c.new.ensures at c.rest-bytes.ensures.fits) (sym c.are_auths.ensures ∙ c.if-are_auths.true))
