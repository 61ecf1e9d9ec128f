-- The file of a private key, of which a byte more than the limit was read.
use Rattle.std.proofs.Common.{◌≡◌, ℕ, ◌+◌, ◌<◌, ◌==◌, Bool, true, false, List, length, take, Option, None, Some, refl, sym, ap, ◌∙◌, arith, eqb-true}
use Rattle.std.specs.Prelude.{option_map}
use Rattle.avm_model.specs.Keys.{KeyData, key_file}
use Rattle.command_parts.specs.Reading.{IsReadOf}
use Rattle.command_parts.proofs.Cuts.{cut_same}
use Rattle.format_command.specs.FileOf.{key_in, IsKeyRead}

not_equal : (n m : ℕ) → (n ≡ m → ⊥) → (n == m) ≡ false
not_equal n m ne = go (n == m) refl
  where
    go : (b : Bool) → (n == m) ≡ b → b ≡ false
    go true e = absurd (ne (eqb-true n m e))
    go false e = refl

key_long : (bytes : List ℕ) → 61 < length bytes → key_file bytes ≡ None
unfolding key_file
key_long bytes more = let no = not_equal (length bytes) 61 (λ e. omega (arith, e, more)) in rw no refl

key_same : (found got : Option (List ℕ)) → got ≡ option_map (take (61 + 1)) found → key_in found ≡ key_in got
key_same None got is = ap key_in (sym is)
key_same (Some bytes) got is = sym (cut_same key_file None 61 key_long bytes) ∙ ap key_in (sym is)

pub key_read : (told : Option (Option (List ℕ))) (got : Option (List ℕ)) (k : Option KeyData) → IsReadOf 61 told got → k ≡ key_in got → IsKeyRead told k
key_read told got k r is = (r.0, r.1, key_same r.0 got r.2 ∙ sym is)
