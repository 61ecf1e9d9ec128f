-- What a reader of a shared part leaves is no longer than what it was given.
use Rattle.std.proofs.Common.{◌≡◌, ℕ, ◌+◌, ◌^◌, ◌≤◌, ◌&&◌, nat_lt, nat_le, List, length, Some, ap, arith}
use Rattle.std.specs.Int.{w32, w64}
use Rattle.avm_num.specs.Bytes.{number_at}
use Rattle.avm_num.specs.Lists.{sized_at}
use Rattle.avm_num.proofs.Numbers.{bind_some, kept_some}
use Rattle.avm_num.proofs.Lengths.{number_rest, sized_rest}
pub use Rattle.avm_num.proofs.Lengths.{number_rest, piece_rest, byte_rest, sized_rest, front_bytes_are, back_bytes_are, middle_bytes_are}
use Rattle.avm_model.specs.Parts.{ordinal_at, longest_signature, signature_at}

pub ordinal_rest : (bytes : List ℕ) (p : ℕ × List ℕ) → ordinal_at bytes ≡ Some p → length p.1 + 8 ≡ length bytes
unfolding ordinal_at
ordinal_rest bytes p e =
    let a = bind_some (number_at w64 bytes) _ p e in
    let k = kept_some (nat_le 1 a.0.0 && nat_lt a.0.0 (2 ^ 62)) a.0 p a.2 in
    let r : length a.0.1 ≡ length p.1 = ap (λ (q : ℕ × List ℕ). length q.1) k.1 in
    omega (arith, r, number_rest w64 bytes a.0 a.1)

pub signature_rest : (bytes : List ℕ) (p : List ℕ × List ℕ) → signature_at bytes ≡ Some p → length p.1 ≤ length bytes
unfolding signature_at
signature_rest bytes p e =
    let a = bind_some (sized_at (number_at w32) bytes) _ p e in
    let k = kept_some (nat_le (length a.0.0) longest_signature) a.0 p a.2 in
    let r : length a.0.1 ≡ length p.1 = ap (λ (q : List ℕ × List ℕ). length q.1) k.1 in
    omega (arith, r, sized_rest bytes a.0 a.1)
