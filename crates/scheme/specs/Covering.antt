-- A plain under a keystream, and its sealing. The keystream is given by its blocks, all of one size.
use Rattle.std.specs.Prelude.{ℕ, ◌/◌, ◌%◌, List, ◌++◌, map, length, bit_xor, slice_index}
use Rattle.std.specs.List.{range_with_len}
use Rattle.sealer.specs.Meaning.{SealerMeaning}
use Rattle.scheme.specs.Schemes.{SchemeMeaning}

-- byte k of the plain XOR byte k of the keystream
unfoldable pub covered_at : (ℕ → List ℕ) → ℕ → List ℕ → ℕ → ℕ
covered_at block size plain k = bit_xor (slice_index plain k) (slice_index (block (k / size)) (k % size))

-- the plain XOR the keystream
unfoldable pub covered : (ℕ → List ℕ) → ℕ → List ℕ → List ℕ
covered block size plain = map (covered_at block size plain) (range_with_len 0 (length plain))

-- the plain under a scheme's keystream
abbrev pub covered_by : SchemeMeaning → List ℕ → List ℕ → List ℕ
covered_by m key plain = covered (m.block key) m.size plain

-- the covered plain, then its tag
unfoldable pub sealing_of : SchemeMeaning → List ℕ → List ℕ → List ℕ → List ℕ
sealing_of m key heading plain = covered_by m key plain ++ m.tag key heading (covered_by m key plain)

-- what a sealer by a scheme means
abbrev pub sealer_by : SchemeMeaning → ℕ → SealerMeaning
sealer_by m number = record { sealing = sealing_of m; overhead = m.extra; number = number }
