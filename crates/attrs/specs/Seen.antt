-- A filter of keys: memory for a few bits of each key that has been seen. A key whose bits are not all set has not been seen;
-- one whose bits are set may have been, and has to be looked for. Nothing of what a check answers rests on how bits are chosen.
use Rattle.std.specs.Prelude.{◌≡◌, ℕ, ◌+◌, ◌*◌, ◌/◌, ◌%◌, ◌^◌, List, length, fold, bit_or, slice_index}

-- one byte more, mixed into a number of 64 bits
abbrev pub mixed : ℕ → ℕ → ℕ
mixed n b = ((n + b) % 2 ^ 64 * 11400714819323198485) % 2 ^ 64

-- a number for a key
abbrev pub key_number : List ℕ → ℕ
key_number key = fold mixed 1 key

abbrev pub bit : ℕ → ℕ
bit k = 2 ^ (k % 64)

-- up to five bits of a word, by the upper bits of the number
abbrev pub bits_of : ℕ → ℕ
bits_of n =
    bit_or (bit_or (bit_or (bit_or (bit (n / 2 ^ 58)) (bit (n / 2 ^ 52))) (bit (n / 2 ^ 46))) (bit (n / 2 ^ 40))) (bit (n / 2 ^ 34))

-- the word that holds them, of so many
abbrev pub word_of : ℕ → ℕ → ℕ
word_of n count = n / 2 ^ 19 % count

-- all bits of the number are set
abbrev pub Marked : List ℕ → ℕ → Type 0
Marked words n = bit_or (slice_index words (word_of n (length words))) (bits_of n) ≡ slice_index words (word_of n (length words))
