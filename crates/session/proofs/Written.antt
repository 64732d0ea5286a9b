-- A record that is written part by part into a cleared buffer.
use Rattle.std.proofs.Common.{◌≡◌, ℕ, ◌+◌, ◌-◌, ◌≤◌, true, List, [], ◌∷◌, ◌++◌, length, take, set, Ok, Result, sym, refl, ap, ◌∙◌, arith}
use lib.Seq.{paste}
use Rattle.std.proofs.lemmas.List.{append_assoc, length-append, length-take-le, take_at}
use Rattle.octets.specs.Buffers.{zeros, filled}
use Rattle.octets.specs.Fields.{bytes_of}
use Rattle.octets.proofs.Fielded.{length_bytes}
use Rattle.refusal.specs.declared.Refusal.{Refusal}
use Rattle.session.specs.declared.SessionState.{SessionState}
use Rattle.session.specs.Limits.{time_at, lifetime_at, age_add_at, early_data_at, name_at, secret_at, max_record}
use Rattle.session.specs.Suites.{suite_number}
use Rattle.session.specs.Records.{Typed, Fits, fields_fit, encode_of, decode_of, written_of, buffer_of}
use Rattle.session.proofs.Rows.{filled_none, filled_next, filled_byte}
use Rattle.session.proofs.Trip.{record_long, back}

module _ (s : SessionState) (n : ℕ) (t : Typed s) (f : Fits s) (room : max_record ≤ n) where
  abbrev nm : List ℕ
  nm = take s.name_length s.name

  -- what the buffer holds after all parts
  pub filled_parts : paste (set (paste (paste (paste (paste (paste (paste (zeros n) 0 (bytes_of 2 (suite_number s.suite)) 2) time_at (bytes_of 8 s.issued_at) 8) lifetime_at (bytes_of 4 s.lifetime) 4) age_add_at (bytes_of 4 s.age_add) 4) early_data_at (bytes_of 4 s.early_data_limit) 4) secret_at s.secret (length s.secret)) (name_at s.suite) s.name_length) (name_at s.suite + 1) nm (length nm) ≡ filled (encode_of s) n
  unfolding encode_of
  filled_parts =
      let nl : ℕ = s.name_length in
      let x0 : List ℕ = bytes_of 2 (suite_number s.suite) in
      let x1 : List ℕ = bytes_of 8 s.issued_at in
      let x2 : List ℕ = bytes_of 4 s.lifetime in
      let x3 : List ℕ = bytes_of 4 s.age_add in
      let x4 : List ℕ = bytes_of 4 s.early_data_limit in
      let p1 : List ℕ = x0 ++ x1 in
      let p2 : List ℕ = p1 ++ x2 in
      let p3 : List ℕ = p2 ++ x3 in
      let p4 : List ℕ = p3 ++ x4 in
      let p5 : List ℕ = p4 ++ s.secret in
      let l0 : length x0 ≡ time_at = length_bytes 2 (suite_number s.suite) in
      let l1 : length p1 ≡ lifetime_at = length-append x0 x1 ∙ omega (arith, length_bytes 8 s.issued_at) in
      let l2 : length p2 ≡ age_add_at = length-append p1 x2 ∙ omega (arith, length_bytes 4 s.lifetime) in
      let l3 : length p3 ≡ early_data_at = length-append p2 x3 ∙ omega (arith, length_bytes 4 s.age_add) in
      let l4 : length p4 ≡ secret_at = length-append p3 x4 ∙ omega (arith, length_bytes 4 s.early_data_limit) in
      let l5 : length p5 ≡ name_at s.suite = length-append p4 s.secret ∙ omega (arith, t.secret) in
      let l6 : length (p5 ++ nl ∷ []) ≡ name_at s.suite + 1 = length-append p5 (nl ∷ []) ∙ omega arith in
      let ln : length nm ≡ nl = length-take-le nl s.name (omega (arith, t.name, f.named)) in
      rw (
        filled_none n,
        filled_next [] x0 n 0 2 refl l0 (omega arith),
        filled_next x0 x1 n time_at 8 l0 (length_bytes 8 s.issued_at) (omega arith),
        filled_next p1 x2 n lifetime_at 4 l1 (length_bytes 4 s.lifetime) (omega arith),
        filled_next p2 x3 n age_add_at 4 l2 (length_bytes 4 s.age_add) (omega arith),
        filled_next p3 x4 n early_data_at 4 l3 (length_bytes 4 s.early_data_limit) (omega arith),
        filled_next p4 s.secret n secret_at (length s.secret) l4 refl (omega (arith, t.secret)),
        filled_byte p5 n (name_at s.suite) nl l5 (omega arith),
        filled_next (p5 ++ nl ∷ []) nm n (name_at s.suite + 1) (length nm) l6 refl (omega (arith, f.named)),
      )
      (ap (λ (x : List ℕ). filled x n) (simp append_assoc))

  pub answer : (k : ℕ) → k ≡ name_at s.suite + 1 + s.name_length → fields_fit s ≡ true → ◌≡◌ {A = Result ℕ Refusal} (Ok k) (written_of s n)
  unfolding written_of
  answer k e fit = let long = record_long s t f in grind (arith, fit, long)

  pub buffer : fields_fit s ≡ true → filled (encode_of s) n ≡ buffer_of s n
  unfolding buffer_of written_of
  buffer fit = grind (arith, fit)

  pub reads_back : (k : ℕ) (o : List ℕ) → k ≡ name_at s.suite + 1 + s.name_length → o ≡ filled (encode_of s) n → decode_of (take k o) ≡ Ok s
  reads_back k o e is =
      ap (λ (x : List ℕ). decode_of (take k x)) is
      ∙ ap decode_of (take_at (encode_of s) (zeros (n - length (encode_of s))) k (record_long s t f ∙ sym e))
      ∙ back s t f
