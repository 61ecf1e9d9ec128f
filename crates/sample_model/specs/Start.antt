-- What a sample begins with: the keys of its nodes, and the first node's new store (docs/FORMATS.md, "The sample").
use Rattle.std.specs.Prelude.{◌≡◌, ℕ, List, ◌++◌, Some, codes}
use Rattle.hex.specs.Hex.{encode_with, lower_digits}
use Rattle.rand_chacha.specs.ChaCha.{ChaCha}
use Rattle.avm_model.specs.Keys.{KeyData, key_bytes, public_of}
use Rattle.avm_model.specs.Machine.{State}
use Rattle.format_command.specs.First.{first_journal}
use Rattle.format_command.specs.Inputs.{Found, Tells}
use Rattle.journal_model.specs.Journal.{JournalData}
use Rattle.sample_parts.specs.Drawn.{behind, generator_of}
use Rattle.sample_parts.specs.Nodes.{behind_key, image_of, key_of}

-- ---- the drawn words, in their order: the first node's key, the other's, the image, the messages

abbrev pub own_key : ℕ → KeyData
own_key seed = key_of (generator_of seed)

abbrev pub other_words : ℕ → ChaCha
other_words seed = behind_key (generator_of seed)

abbrev pub other_key : ℕ → KeyData
other_key seed = key_of (other_words seed)

abbrev pub image_words : ℕ → ChaCha
image_words seed = behind_key (other_words seed)

abbrev pub message_words : ℕ → ChaCha
message_words seed = behind 51168 (image_words seed)

-- ---- the first node

-- it has id 0, 256 pages of RAM, and a snapshot each 2 ^ 20 steps; its one peer has id 1 and this key
abbrev pub config_text : List ℕ → List ℕ
config_text key = codes "{\"own\":0,\"pages\":256,\"snap\":1048576,\"peers\":[{\"id\":1,\"key\":\"" ++ (encode_with lower_digits key ++ codes "\"}]}")

-- its private key, its configuration and its image, as files
abbrev pub files_of : ℕ → Found
files_of seed = record {
  key = Some (key_bytes (own_key seed));
  config = Some (config_text (public_of (other_key seed)));
  image = Some (image_of (image_words seed));
}

-- the store that formatting makes of these files
pub record IsNewStore (seed : ℕ) (j : JournalData) : Type 0 where
  pub state : State
  pub tells : Tells (files_of seed) (own_key seed) state
  pub store : j ≡ first_journal (own_key seed) state
