-- The suites by their numbers in TLS.
use Rattle.std.specs.Prelude.{◌≡◌, ℕ, cond, Some, None, Option, Result, MatchResult, ◌==◌}
use Rattle.session.specs.declared.Suite.{Suite}
use Rattle.session.specs.declared.UnknownSuite.{UnknownSuite}
use Rattle.session.specs.declared.Suite.TheVariants.{Aes128GcmSha256, Aes256GcmSha384, ChaCha20Poly1305Sha256}

abbrev pub suite_number : Suite → ℕ
suite_number Aes128GcmSha256 = 0x1301
suite_number Aes256GcmSha384 = 0x1302
suite_number ChaCha20Poly1305Sha256 = 0x1303

-- the suite that has a number
abbrev pub suite_of : ℕ → Option Suite
suite_of n =
    cond (n == 0x1301) (Some Aes128GcmSha256)
    (cond (n == 0x1302) (Some Aes256GcmSha384) (cond (n == 0x1303) (Some ChaCha20Poly1305Sha256) None))

-- the result is the suite with this number, or an error with a number that no suite has
abbrev pub Decodes : ℕ → Result Suite UnknownSuite → Type 0
Decodes n r = MatchResult r (λ s. suite_of n ≡ Some s) (λ e. (suite_of n ≡ None) × (e.0 ≡ n))
