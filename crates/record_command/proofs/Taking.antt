-- The files that are read, one after another.
use Rattle.std.proofs.Common.{◌≡◌, ℕ, List, Option, None, Some, Ok, Err, refl, subst}
use Rattle.avm_model.specs.Keys.{KeyData}
use Rattle.avm_script.specs.Script.{ScriptData}
use Rattle.command_parts.specs.FileMap.{FileMap}
use Rattle.command_parts.specs.Reading.{Finds}
use Rattle.lms_signer.specs.Views.{key_data}
use Rattle.format_command.specs.FileOf.{key_in, IsKeyRead}
use Rattle.record_command.specs.Inputs.{InputNames, AreRead, IsScriptRead}
use Rattle.record_command.specs.declared.ends.FileOption.TheVariants.{Key, Script}
use Rattle.record_command.specs.declared.inputs.Start.{Start}

-- under a name something is found
pub found_any : (told : Option (Option (List ℕ))) → (found : Option (List ℕ)) × Finds told found
found_any None = (None, tt)
found_any (Some was) = (was, refl)

pub no_key : (names : InputNames) (old : FileMap) (k : Option KeyData) → k ≡ None → IsKeyRead (old names.key) k → AreRead names old (Err Key)
no_key names old k is r =
    let s = found_any (old names.script) in
    (record { key = r.0; script = s.0 }, (r.1, s.1), subst (λ (x : Option KeyData). key_in r.0 ≡ x) is r.2)

pub no_script : (names : InputNames) (old mid : FileMap) (k : Option KeyData) (key : KeyData) (s : Option ScriptData) → mid names.script ≡ old names.script → k ≡ Some key → s ≡ None → IsKeyRead (old names.key) k → IsScriptRead (mid names.script) s → AreRead names old (Err Script)
no_script names old mid k key s same is none r q =
    let q = subst (λ (t : Option (Option (List ℕ))). IsScriptRead t None) same (subst (λ (x : Option ScriptData). IsScriptRead (mid names.script) x) none q) in
    (record { key = r.0; script = q.0 }, (r.1, q.1), (key, subst (λ (x : Option KeyData). key_in r.0 ≡ x) is r.2, q.2))

pub both_read : (names : InputNames) (old mid : FileMap) (k : Option KeyData) (s : Option ScriptData) (start : Start) → mid names.script ≡ old names.script → k ≡ Some (key_data start.key) → s ≡ Some start.script → IsKeyRead (old names.key) k → IsScriptRead (mid names.script) s → AreRead names old (Ok start)
both_read names old mid k s start same is some r q =
    let q = subst (λ (t : Option (Option (List ℕ))). IsScriptRead t (Some start.script)) same (subst (λ (x : Option ScriptData). IsScriptRead (mid names.script) x) some q) in
    (record { key = r.0; script = q.0 }, (r.1, q.1), record { key_is = subst (λ (x : Option KeyData). key_in r.0 ≡ x) is r.2; script_is = q.2 })
