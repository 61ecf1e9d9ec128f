use Rattle.std.proofs.Common.{rules, ◌∷◌, [], refl}
use Rattle.std.specs.Int.{w32, to_be_bytes}
use Rattle.lms_ots.proofs.Parts.{whole_parts}
use Rattle.lms_ots.proofs.signing.base_bytes.Goals as goal

pub returns : goal.returns
returns c = rw (c.copy_from_slice.ensures.after, c.copy_from_slice-2.ensures.after, c.to_be_bytes.ensures) (whole_parts c.args.id.now (0 ∷ 0 ∷ 0 ∷ 0 ∷ []) (to_be_bytes w32 c.args.q) 16 4 (search rules) refl)
