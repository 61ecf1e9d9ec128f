-- The files that are read, one after another.
use Rattle.std.proofs.Common.{◌≡◌, ℕ, ◌^◌, List, Option, None, Some, Ok, Err, subst}
use Rattle.std.specs.Prelude.{option_map}
use Rattle.avm_model.specs.Init.{ConfigData}
use Rattle.avm_model.specs.Keys.{KeyData}
use Rattle.command_parts.specs.FileMap.{FileMap}
use Rattle.command_parts.specs.Reading.{Finds, IsReadOf}
use Rattle.lms_signer.specs.Views.{key_data}
use Rattle.format_command.specs.FileOf.{key_in, IsKeyRead, IsConfigRead}
use Rattle.format_command.specs.Booting.{Boots, HasNoImage, IsNoImage}
use Rattle.format_command.specs.Inputs.{Names, AreRead}
use Rattle.format_command.specs.declared.ends.FileOption.TheVariants.{Key, Config, Image}
use Rattle.format_command.specs.declared.inputs.Start.{Start}
use Rattle.format_command.proofs.CutFiles.{found_any, missing_found, image_found, no_image_found}

pub no_key : (names : Names) (old : FileMap) (k : Option KeyData) → k ≡ None → IsKeyRead (old names.key) k → AreRead names old (Err Key)
no_key names old k is r =
    let c = found_any (old names.config) in
    let i = found_any (old names.image) in
    (record { key = r.0; config = c.0; image = i.0 }, (r.1, c.1, i.1), subst (λ (x : Option KeyData). key_in r.0 ≡ x) is r.2)

pub no_config : (names : Names) (old mid : FileMap) (k : Option KeyData) (key : KeyData) (c : Option ConfigData) → mid names.config ≡ old names.config → k ≡ Some key → c ≡ None → IsKeyRead (old names.key) k → IsConfigRead (mid names.config) c → AreRead names old (Err Config)
no_config names old mid k key c same is none r s =
    let s = subst (λ (t : Option (Option (List ℕ))). IsConfigRead t None) same (subst (λ (x : Option ConfigData). IsConfigRead (mid names.config) x) none s) in
    let i = found_any (old names.image) in
    (record { key = r.0; config = s.0; image = i.0 }, (r.1, s.1, i.1), (key, subst (λ (x : Option KeyData). key_in r.0 ≡ x) is r.2, s.2))

-- a key and a configuration were read
pub record Both (names : Names) (old : FileMap) (k : KeyData) (c : ConfigData) : Type 0 where
  pub key : IsKeyRead (old names.key) (Some k)
  pub config : IsConfigRead (old names.config) (Some c)

pub both : (names : Names) (old mid : FileMap) (k : Option KeyData) (key : KeyData) (c : Option ConfigData) (config : ConfigData) → mid names.config ≡ old names.config → k ≡ Some key → c ≡ Some config → IsKeyRead (old names.key) k → IsConfigRead (mid names.config) c → Both names old key config
both names old mid k key c config same is some r s = record {
  key = subst (λ (x : Option KeyData). IsKeyRead (old names.key) x) is r;
  config = subst (λ (t : Option (Option (List ℕ))). IsConfigRead t (Some config)) same (subst (λ (x : Option ConfigData). IsConfigRead (mid names.config) x) some s);
}

no_image : (names : Names) (old : FileMap) (k : KeyData) (c : ConfigData) → Both names old k c → (i : Option (List ℕ)) → Finds (old names.image) i → HasNoImage c i → AreRead names old (Err Image)
no_image names old k c b i finds none =
    (record { key = b.key.0; config = b.config.0; image = i }, (b.key.1, b.config.1, finds), (k, c, b.key.2, b.config.2, none))

pub image_missing : (names : Names) (old last : FileMap) (k : KeyData) (c : ConfigData) → last names.image ≡ old names.image → Both names old k c → IsReadOf (2 ^ 25) (last names.image) None → AreRead names old (Err Image)
image_missing names old last k c same b r =
    no_image names old k c b None (missing_found (2 ^ 25) (old names.image) (subst (λ (t : Option (Option (List ℕ))). IsReadOf (2 ^ 25) t None) same r)) tt

pub image_refused : (names : Names) (old last : FileMap) (k : KeyData) (c : ConfigData) (got : List ℕ) → last names.image ≡ old names.image → Both names old k c → IsReadOf (2 ^ 25) (last names.image) (Some got) → IsNoImage c got → AreRead names old (Err Image)
image_refused names old last k c got same b r none =
    let f = no_image_found (old names.image) got c (subst (λ (t : Option (Option (List ℕ))). IsReadOf (2 ^ 25) t (Some got)) same r) none in
    no_image names old k c b f.0 f.1 f.2

pub all_taken : (names : Names) (old last : FileMap) (c : ConfigData) (got : List ℕ) (s : Start) → last names.image ≡ old names.image → Both names old (key_data s.key) c → IsReadOf (2 ^ 25) (last names.image) (Some got) → Boots c got s.boot.machine.state → AreRead names old (Ok s)
all_taken names old last c got s same b r boots =
    let f = image_found (old names.image) got c s.boot.machine.state (subst (λ (t : Option (Option (List ℕ))). IsReadOf (2 ^ 25) t (Some got)) same r) boots in
    (record { key = b.key.0; config = b.config.0; image = f.0 }, (b.key.1, b.config.1, f.1), record { config = c; key_is = b.key.2; config_is = b.config.2; boots = f.2 })

-- what a call gave
pub read_some : {V : Type 0} (items : V → List ℕ) (limit : ℕ) (o : Option V) (v : V) (told : Option (Option (List ℕ))) (l : List ℕ) → o ≡ Some v → items v ≡ l → IsReadOf limit told (option_map items o) → IsReadOf limit told (Some l)
read_some {V} items limit o v told l is same r = subst (λ (x : List ℕ). IsReadOf limit told (Some x)) same (subst (λ (x : Option V). IsReadOf limit told (option_map items x)) is r)

pub read_none : {V : Type 0} (items : V → List ℕ) (limit : ℕ) (o : Option V) (told : Option (Option (List ℕ))) → o ≡ None → IsReadOf limit told (option_map items o) → IsReadOf limit told None
read_none {V} items limit o told is r = subst (λ (x : Option V). IsReadOf limit told (option_map items x)) is r
