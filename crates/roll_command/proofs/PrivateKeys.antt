-- The private key of a roll.
use Rattle.std.proofs.Common.{◌≡◌, ℕ, ◌<◌, ◌==◌, ◌^◌, ◌++◌, true, false, List, length, None, refl, ap, arith}
use Rattle.std.specs.Int.{w32, to_be_bytes}
use Rattle.avm_num.specs.Lists.{be}
use Rattle.avm_model.specs.Keys.{KeyData, HasTypes, FitsKey, key_file, public_of}
use Rattle.avm_model.specs.LmsTree.{node}
use Rattle.avm_model.specs.LmsTypes.{height_of}
use Rattle.avm_model.proofs.KeyLaws.{public_of-file}
use Rattle.avm_model.proofs.LmsLaw.{number_is}
use Rattle.hss_model.specs.Hss.{hss_key, is_hss_key}
use Rattle.hss_model.specs.Roll.{most_of}

pub private_long : (bytes : List ℕ) → 61 < length bytes → key_file bytes ≡ None
unfolding key_file
private_long bytes more = let f : (length bytes == 61) ≡ false = grind arith in rw f refl

-- the HSS key of a private key has types of the tables
pub hss_of_private : (k : KeyData) → FitsKey k → is_hss_key (hss_key (public_of k)) ≡ true
unfolding is_hss_key be
hss_of_private k fits = let p = public_of-file k fits.types fits.id in rw p refl

-- and as many leaves as the private key
pub most_is : (k : KeyData) → HasTypes k → most_of (hss_key (public_of k)) ≡ 2 ^ height_of k.lms
unfolding most_of public_of be
most_is k types =
    ap (λ (n : ℕ). 2 ^ height_of n) (number_is (to_be_bytes w32 2) (to_be_bytes w32 k.ots ++ (k.id ++ node k.lms k.ots k.id k.seed 1)) k.lms 4 refl (let low = types.lms_high in omega (arith, low)))
