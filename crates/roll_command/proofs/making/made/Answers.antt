use Rattle.std.proofs.Common.{sym, subst}
use Rattle.avm_model.specs.Keys.{FitsKey}
use Rattle.roll_command.proofs.PrivateKeys.{hss_of_private}
use Rattle.roll_command.proofs.making.made.Goals as goal

pub make-requires : goal.make-requires
make-requires g c = record { key = rw c.hss_key_of.ensures (hss_of_private c.in_ok-top.top (subst FitsKey (sym c.in_ok-top.ensures) (rw c.in-Some.is at c.in_ok-file.ensures.fits))) }
