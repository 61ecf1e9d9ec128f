use Rattle.std.proofs.Common.{◌≡◌, ◌+◌, length, arith}
use Rattle.std.proofs.lemmas.List.Elements.{recursion_from_All}
use Rattle.avm_num.specs.Room.{left}
use Rattle.avm_model.specs.Auth.{FitsAuth}
use Rattle.hss_auths.specs.Lengths.{size_with}
use Rattle.hss_auths.proofs.HssAuthLaws.{widened_size}
use Rattle.hss_command.proofs.widen_files.widened_bytes.Goals as goal

pub put_widened-requires-clause-can : goal.put_widened-requires-clause-can
unfolding left
put_widened-requires-clause-can c =
    let size = widened_size c.args.bytes.now c.args.auths (60 + length c.args.endorsement.now.upper.now) c.requires.auths in
    let count = c.requires.count in
    record {
      upper = c.requires.upper;
      fits = recursion_from_All FitsAuth c.args.auths c.requires.auths.fits;
      room_is = rw c.in_ok-room.ensures (rw count (omega (arith, size)));
    }
