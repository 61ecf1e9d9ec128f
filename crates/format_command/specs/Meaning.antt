-- What the statuses of formatting say.
use Rattle.std.specs.Prelude.{◌≡◌, ◌≢◌, ℕ, List, [], ◌∷◌, Option, Some}
use Rattle.avm_model.specs.Keys.{KeyData}
use Rattle.avm_model.specs.Machine.{State}
use Rattle.avm_outside.specs.Outside.{BothTold}
use Rattle.command_parts.specs.FileMap.{FileMap}
use Rattle.format_command.specs.First.{StandsFor, first_journal}
use Rattle.format_command.specs.Inputs.{Names, Found, AreFound, Tells}

-- Formatting ends with 0 only where the files tell a private key and the state in which the machine of the configuration boots
-- from the image; and then the disk was empty, and stands for BOOT of that state under the key's public key, in a read and in
-- each image that a crash may leave. On an empty disk, with such files, it ends with 0, but for a fault of the outside and
-- want of memory. A disk that has bytes keeps them.
pub record FormatMeans (names : Names) (files : FileMap) (old new : Option (List ℕ)) (images : List ℕ → Type 0) (result : ℕ) : Type 0 where
  pub made : result ≡ 0 → (f : Found) × (k : KeyData) × (s : State) × AreFound names files f × Tells f k s × BothTold old new (λ was now. (was ≡ []) × StandsFor (first_journal k s) images now)
  pub makes : (f : Found) (k : KeyData) (s : State) → files names.key ≡ Some f.key → files names.config ≡ Some f.config → files names.image ≡ Some f.image → Tells f k s → old ≡ Some [] → result ≢ 4 → result ≢ 5 → result ≡ 0
  pub refuses : (b : ℕ) (was : List ℕ) → old ≡ Some (b ∷ was) → result ≢ 4 → new ≡ old
