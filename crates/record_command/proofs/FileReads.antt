-- The files of a private key and of a script, of which a byte more than the limit was read.
use Rattle.std.proofs.Common.{◌≡◌, ℕ, ◌+◌, ◌<◌, ◌==◌, ◌^◌, Bool, true, false, List, length, take, Option, None, Some, refl, sym, ap, subst, ◌∙◌, arith, eqb-true}
use Rattle.std.specs.Prelude.{option_map, nat_le}
use Rattle.avm_model.specs.Keys.{KeyData, key_file}
use Rattle.avm_script.specs.Script.{ScriptData}
use Rattle.command_parts.specs.Reading.{IsReadOf}
use Rattle.command_parts.proofs.Cuts.{cut_same}
use Rattle.format_command.specs.FileOf.{key_in, IsKeyRead}
use Rattle.record_command.specs.Inputs.{script_file, script_in, IsScriptRead}

not_equal : (n m : ℕ) → (n ≡ m → ⊥) → (n == m) ≡ false
not_equal n m ne = go (n == m) refl
  where
    go : (b : Bool) → (n == m) ≡ b → b ≡ false
    go true e = absurd (ne (eqb-true n m e))
    go false e = refl

key_long : (bytes : List ℕ) → 61 < length bytes → key_file bytes ≡ None
unfolding key_file
key_long bytes more = let no = not_equal (length bytes) 61 (λ e. omega (arith, e, more)) in rw no refl

key_same : (found got : Option (List ℕ)) → got ≡ option_map (take (61 + 1)) found → key_in found ≡ key_in got
key_same None got is = ap key_in (sym is)
key_same (Some bytes) got is = sym (cut_same key_file None 61 key_long bytes) ∙ ap key_in (sym is)

pub key_read : (told : Option (Option (List ℕ))) (got : Option (List ℕ)) (k : Option KeyData) → IsReadOf 61 told got → k ≡ key_in got → IsKeyRead told k
key_read told got k r is = (r.0, r.1, key_same r.0 got r.2 ∙ sym is)

script_long : (bytes : List ℕ) → 2 ^ 26 < length bytes → script_file bytes ≡ None
unfolding script_file
script_long bytes more = let no : nat_le (length bytes) (2 ^ 26) ≡ false = grind arith in rw no refl

script_same : (found got : Option (List ℕ)) → got ≡ option_map (take (2 ^ 26 + 1)) found → script_in found ≡ script_in got
script_same None got is = ap script_in (sym is)
script_same (Some bytes) got is = sym (cut_same script_file None (2 ^ 26) script_long bytes) ∙ ap script_in (sym is)

pub script_read : (told : Option (Option (List ℕ))) (got : Option (List ℕ)) (s : Option ScriptData) → IsReadOf (2 ^ 26) told got → s ≡ script_in got → IsScriptRead told s
script_read told got s r is = (r.0, r.1, script_same r.0 got r.2 ∙ sym is)

-- what a call gave
pub read_some : {V : Type 0} (items : V → List ℕ) (limit : ℕ) (o : Option V) (v : V) (told : Option (Option (List ℕ))) (l : List ℕ) → o ≡ Some v → items v ≡ l → IsReadOf limit told (option_map items o) → IsReadOf limit told (Some l)
read_some {V} items limit o v told l is same r = subst (λ (x : List ℕ). IsReadOf limit told (Some x)) same (subst (λ (x : Option V). IsReadOf limit told (option_map items x)) is r)

pub read_none : {V : Type 0} (items : V → List ℕ) (limit : ℕ) (o : Option V) (told : Option (Option (List ℕ))) → o ≡ None → IsReadOf limit told (option_map items o) → IsReadOf limit told None
read_none {V} items limit o told is r = subst (λ (x : Option V). IsReadOf limit told (option_map items x)) is r
