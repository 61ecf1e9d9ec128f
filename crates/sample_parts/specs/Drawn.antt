-- The words that a sample draws: those of ChaCha20's generator from place 0 of stream 0 on (docs/FORMATS.md, "The sample").
use Rattle.std.specs.Prelude.{ℕ, zero, suc, ◌+◌, ◌/◌, ◌%◌, List, [], ◌++◌, replicate, take}
use Rattle.std.specs.Int.{w32, w64, to_le_bytes, to_be_bytes}
use Rattle.rand_chacha.specs.ChaCha.{ChaCha, next_word, of_seed}

-- the number in eight bytes, and 24 zero bytes
abbrev pub seed_bytes : ℕ → List ℕ
seed_bytes seed = to_be_bytes w64 seed ++ replicate 24 0

-- before the first word
abbrev pub generator_of : ℕ → ChaCha
generator_of seed = of_seed (seed_bytes seed)

-- the next word of ChaCha20, which makes ten double rounds
abbrev pub word_of : ChaCha → ℕ
word_of g = (next_word 10 g).0

abbrev pub behind_word : ChaCha → ChaCha
behind_word g = (next_word 10 g).1

-- n words, each in little-endian
unfoldable pub drawn_bytes : ℕ → ChaCha → List ℕ
drawn_bytes zero g = []
drawn_bytes (suc n) g = to_le_bytes w32 (word_of g) ++ drawn_bytes n (behind_word g)

-- the generator behind n words
unfoldable pub behind : ℕ → ChaCha → ChaCha
behind zero g = g
behind (suc n) g = behind n (behind_word g)

-- a message: its length by a word, then as many bytes of the words that follow
abbrev pub message_length : ChaCha → ℕ
message_length g = 1 + word_of g % 1024

abbrev pub message_words : ChaCha → ℕ
message_words g = (message_length g + 3) / 4

unfoldable pub message_of : ChaCha → List ℕ
message_of g = take (message_length g) (drawn_bytes (message_words g) (behind_word g))

unfoldable pub behind_message : ChaCha → ChaCha
behind_message g = behind (message_words g) (behind_word g)
