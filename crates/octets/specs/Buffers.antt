-- What a lent buffer holds after a call.
use Rattle.std.specs.Prelude.{ℕ, ◌+◌, ◌-◌, ◌==◌, bit_or, bit_xor, Bool, List, ◌++◌, length, take, drop, replicate}
use Rattle.std.specs.List.{list_all}

-- n zeros
abbrev pub zeros : ℕ → List ℕ
zeros n = replicate n 0

-- a buffer of n bytes that an answer fills from the start: the answer, then zeros
abbrev pub filled : List ℕ → ℕ → List ℕ
filled xs n = xs ++ zeros (n - length xs)

-- the bytes b with the first n bytes of xs from a place on
abbrev pub pasted : List ℕ → ℕ → List ℕ → ℕ → List ℕ
pasted b at xs n = take at b ++ take n xs ++ drop (at + n) b

-- every byte is zero
abbrev pub is_blank : List ℕ → Bool
is_blank bs = list_all (λ b. b == 0) bs

-- the bits so far, and those in which two bytes differ
abbrev pub differing : ℕ → ℕ × ℕ → ℕ
differing bits p = bit_or bits (bit_xor p.0 p.1)
