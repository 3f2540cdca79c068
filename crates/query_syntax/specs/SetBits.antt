-- A set of values as words of 64 bits, one for each value: the bits of each word in turn, from its lowest on.
use Rattle.std.specs.Prelude.{◌≡◌, ℕ, zero, suc, ◌+◌, ◌*◌, ◌/◌, ◌%◌, ◌^◌, ◌<◌, Bool, ◌==◌, if◌then◌else◌, List, [], ◌∷◌, length, drop}
use Rattle.std.specs.List.{All, flat_map}

-- the lowest so many bits of a number
unfoldable pub bits_of : ℕ → ℕ → List Bool
bits_of zero w = []
bits_of (suc n) w = (w % 2 == 1) ∷ bits_of n (w / 2)

-- of each value, whether its bit in the words is 1
unfoldable pub members_in_words : List ℕ → List Bool
members_in_words words = flat_map (bits_of 64) words

-- four words of 64 bits
pub record AreWords (words : List ℕ) : Type 0 where
  pub four : length words ≡ 4
  pub small : All (λ w. w < 2 ^ 64) words

-- the number of the first so many bits
unfoldable pub number_of_bits : ℕ → List Bool → ℕ
number_of_bits zero bits = 0
number_of_bits (suc n) [] = 0
number_of_bits (suc n) (b ∷ bits) = number_of_bits n bits * 2 + (if b then 1 else 0)

-- the first so many words of a set
unfoldable pub words_of : ℕ → List Bool → List ℕ
words_of zero set = []
words_of (suc k) set = number_of_bits 64 set ∷ words_of k (drop 64 set)
