use Rattle.std.proofs.Common.{rules, ◌∷◌, [], refl}
use Rattle.std.specs.Int.{w16, to_be_bytes}
use Rattle.avm_model.specs.LmsDigits.{checksum}
use Rattle.lms_ots.proofs.Parts.{whole_parts}
use Rattle.lms_ots.proofs.digits.marked_of.Goals as goal

pub returns : goal.returns
returns c = rw (c.copy_from_slice.ensures.after, c.copy_from_slice-2.ensures.after, c.to_be_bytes.ensures, c.checksum_of.ensures) (whole_parts c.args.bytes.now (0 ∷ 0 ∷ []) (to_be_bytes w16 (checksum c.args.ots c.args.bytes.now)) 32 2 (search rules) refl)
