-- What the test of a record tells.
use Rattle.std.proofs.Common.{◌≡◌, ℕ, ◌+◌, ◌≤◌, Bool, true, false, cond, ltb, List, length, get_or, take, drop, Some, None, Ok, Option, refl, arith}
use Rattle.std.proofs.lemmas.Bool.{ltb-false}
use Rattle.octets.specs.Fields.{number_of}
use Rattle.session.specs.declared.Suite.{Suite}
use Rattle.session.specs.declared.Suite.TheVariants.{Aes128GcmSha256, Aes256GcmSha384, ChaCha20Poly1305Sha256}
use Rattle.session.specs.declared.SessionState.{SessionState}
use Rattle.session.specs.Limits.{max_name, max_lifetime, name_at, min_record}
use Rattle.session.specs.Suites.{suite_number, suite_of}
use Rattle.session.specs.Records.{laid_out, where_laid_out, record_suite, read_of, read_under}

-- bytes that are laid out as a record of a suite
pub record Laid (t : Suite) (b : List ℕ) : Type 0 where
  pub long : min_record ≤ length b
  pub suited : number_of (take 2 b) ≡ suite_number t
  pub lived : 1 ≤ number_of (take 4 (drop 10 b))
  pub expires : number_of (take 4 (drop 10 b)) ≤ max_lifetime
  pub named : get_or b (name_at t) 0 ≤ max_name
  pub whole : length b ≡ name_at t + 1 + get_or b (name_at t) 0

-- a suite is read back from its number
pub suite_number_back : (t : Suite) → suite_of (suite_number t) ≡ Some t
suite_number_back Aes128GcmSha256 = refl
suite_number_back Aes256GcmSha384 = refl
suite_number_back ChaCha20Poly1305Sha256 = refl

number_suite : (n : ℕ) (t : Suite) → suite_of n ≡ Some t → n ≡ suite_number t
number_suite n t e = grind arith

where_some : (x : Bool) (o : Option Suite) (b : List ℕ) (t : Suite) → cond x None (where_laid_out o b) ≡ Some t → (x ≡ false) × (o ≡ Some t) × (laid_out t b ≡ true)
where_some x o b t e = grind arith

pub suite_laid : (b : List ℕ) (t : Suite) → record_suite b ≡ Some t → Laid t b
unfolding record_suite laid_out
suite_laid b t e =
    let w = where_some (ltb (length b) min_record) (suite_of (number_of (take 2 (drop 0 b)))) b t e in
    let laid = w.2 in
    record {
      long = ltb-false _ _ w.0;
      suited = number_suite _ t w.1;
      lived = grind (arith, laid);
      expires = grind (arith, laid);
      named = grind (arith, laid);
      whole = grind (arith, laid);
    }

pub long_laid : (b : List ℕ) (t : Suite) → record_suite b ≡ Some t → min_record ≤ length b
long_laid b t e = (suite_laid b t e).long

pub laid_suite : (b : List ℕ) (t : Suite) → Laid t b → record_suite b ≡ Some t
unfolding record_suite laid_out
laid_suite b t l = grind (arith, l.long, l.suited, l.lived, l.expires, l.named, l.whole)

-- what was read was read from a record
pub read_some : (o : Option Suite) (b : List ℕ) (s : SessionState) → read_under o b ≡ Ok s → (t : Suite) × ((o ≡ Some t) × (read_of t b ≡ s))
read_some (Some t) b s e = (t, (refl, cc))
read_some None b s e = absurd cc
