-- The keys of a sample's two nodes, and its image (docs/FORMATS.md, "The sample").
use Rattle.std.specs.Prelude.{ℕ, List, [], ◌∷◌, ◌++◌}
use Rattle.std.specs.Int.{w32, to_le_bytes}
use Rattle.rand_chacha.specs.ChaCha.{ChaCha}
use Rattle.avm_num.specs.Lists.{list_bytes}
use Rattle.avm_model.specs.Keys.{KeyData}
use Rattle.sample_parts.specs.Drawn.{drawn_bytes, behind}

-- a key of height 10 and w 8: I of four words, and SEED of eight
abbrev pub key_of : ChaCha → KeyData
key_of g = record { lms = 6; ots = 4; id = drawn_bytes 4 g; seed = drawn_bytes 8 (behind 4 g) }

abbrev pub behind_key : ChaCha → ChaCha
behind_key g = behind 8 (behind 4 g)

-- the headers of an executable with one segment at 80000000, of as many bytes as the file has behind them
abbrev pub elf_front : List ℕ
elf_front =
    0x7f ∷ 0x45 ∷ 0x4c ∷ 0x46 ∷ 1 ∷ 1 ∷ 1 ∷ 0 ∷ 0 ∷ 0 ∷ 0 ∷ 0 ∷ 0 ∷ 0 ∷ 0 ∷ 0
    ∷ 2 ∷ 0 ∷ 243 ∷ 0 ∷ 1 ∷ 0 ∷ 0 ∷ 0 ∷ 0 ∷ 0 ∷ 0 ∷ 0x80 ∷ 52 ∷ 0 ∷ 0 ∷ 0
    ∷ 0 ∷ 0 ∷ 0 ∷ 0 ∷ 0 ∷ 0 ∷ 0 ∷ 0 ∷ 52 ∷ 0 ∷ 32 ∷ 0 ∷ 1 ∷ 0 ∷ 0 ∷ 0
    ∷ 0 ∷ 0 ∷ 0 ∷ 0
    ∷ 1 ∷ 0 ∷ 0 ∷ 0 ∷ 84 ∷ 0 ∷ 0 ∷ 0 ∷ 0 ∷ 0 ∷ 0 ∷ 0x80 ∷ 0 ∷ 0 ∷ 0 ∷ 0x80
    ∷ 0 ∷ 0x20 ∷ 3 ∷ 0 ∷ 0 ∷ 0x20 ∷ 3 ∷ 0 ∷ 7 ∷ 0 ∷ 0 ∷ 0 ∷ 4 ∷ 0 ∷ 0 ∷ 0 ∷ []

-- the guest that echoes: console bytes to the console, messages to their peer
abbrev pub echo_words : List ℕ
echo_words =
    0x100002b7 ∷ 0x10001337 ∷ 0x100023b7 ∷ 0x0002a823 ∷ 0x0042a403 ∷ 0x00044a63 ∷ 0x00400493 ∷ 0x06940063
    ∷ 0x0082a023 ∷ 0xfe9ff06f ∷ 0x0142a483 ∷ 0xfe04c0e3 ∷ 0x0182a503 ∷ 0x02a2a023 ∷ 0x0292a223 ∷ 0x00000593
    ∷ 0x0095de63 ∷ 0x00b30633 ∷ 0x00062683 ∷ 0x00b38733 ∷ 0x00d72023 ∷ 0x00458593 ∷ 0xfe9ff06f ∷ 0x0002ae23
    ∷ 0x0082a883 ∷ 0x000027b7 ∷ 0x02f80833 ∷ 0xfff78793 ∷ 0xfe079ce3 ∷ 0x0202a423 ∷ 0xf95ff06f ∷ 0x00000073 ∷ []

-- the image: the headers, the guest, and 51,168 drawn words behind it
unfoldable pub image_of : ChaCha → List ℕ
image_of g = elf_front ++ list_bytes (to_le_bytes w32) echo_words ++ drawn_bytes 51168 g
