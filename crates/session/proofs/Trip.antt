-- States and records determine each other.
use Rattle.std.proofs.Common.{◌≡◌, ℕ, ◌+◌, ◌-◌, ◌^◌, ◌<◌, ◌≤◌, true, List, [], ◌∷◌, ◌++◌, length, get_or, take, drop, is_some, is_ok, Some, Ok, Decides, Option, sym, refl, ap, ◌∙◌, subst, arith}
use Rattle.std.proofs.lemmas.List.{length-drop, length-take-le, take_at, drop_at, get_or-drop, drop_more}
use Rattle.std.proofs.lemmas.Grind.{common_steps}
use Rattle.octets.specs.Buffers.{zeros, filled}
use Rattle.octets.specs.Fields.{bytes_of, number_of}
use Rattle.octets.proofs.Fielded.{length_bytes, number_bytes, bytes_number}
use Rattle.session.specs.declared.Suite.{Suite}
use Rattle.session.specs.declared.SessionState.{SessionState}
use Rattle.session.specs.Limits.{secret_length, max_name, secret_at, name_at, min_record, max_record}
use Rattle.session.specs.Suites.{suite_number}
use Rattle.session.specs.Records.{Bytes, Typed, Fits, encode_of, IsRecord, record_suite, is_record, read_of, read_under, decode_of}
use Rattle.octets.proofs.Parts.{part_small, part_rest}
use Rattle.session.proofs.Rows.{past, field, number_below, length_filled}
use Rattle.session.proofs.Laid.{Laid, suite_laid, laid_suite, read_some}

suite_small : (t : Suite) → suite_number t < 65536
suite_small t = grind arith

-- the parts of a state's record
pub record Parts (s : SessionState) (b : List ℕ) : Type 0 where
  pub suite : number_of (take 2 b) ≡ suite_number s.suite
  pub issued : number_of (take 8 (drop 2 b)) ≡ s.issued_at
  pub lifetime : number_of (take 4 (drop 10 b)) ≡ s.lifetime
  pub age : number_of (take 4 (drop 14 b)) ≡ s.age_add
  pub early : number_of (take 4 (drop 18 b)) ≡ s.early_data_limit
  pub secret : take (secret_length s.suite) (drop secret_at b) ≡ s.secret
  pub count : get_or b (name_at s.suite) 0 ≡ s.name_length
  pub name : drop (name_at s.suite + 1) b ≡ take s.name_length s.name
  pub long : length b ≡ name_at s.suite + 1 + length (take s.name_length s.name)

pub parts : (s : SessionState) → Typed s → Parts s (encode_of s)
unfolding encode_of
parts s t =
    let b : List ℕ = encode_of s in
    let nm : List ℕ = take s.name_length s.name in
    let x0 : List ℕ = bytes_of 2 (suite_number s.suite) in
    let x1 : List ℕ = bytes_of 8 s.issued_at in
    let x2 : List ℕ = bytes_of 4 s.lifetime in
    let x3 : List ℕ = bytes_of 4 s.age_add in
    let x4 : List ℕ = bytes_of 4 s.early_data_limit in
    let r5 : List ℕ = s.secret ++ (s.name_length ∷ nm) in
    let r4 : List ℕ = x4 ++ r5 in
    let r3 : List ℕ = x3 ++ r4 in
    let r2 : List ℕ = x2 ++ r3 in
    let r1 : List ℕ = x1 ++ r2 in
    let l0 : length x0 ≡ 2 = length_bytes 2 (suite_number s.suite) in
    let l1 : length x1 ≡ 8 = length_bytes 8 s.issued_at in
    let l2 : length x2 ≡ 4 = length_bytes 4 s.lifetime in
    let l3 : length x3 ≡ 4 = length_bytes 4 s.age_add in
    let l4 : length x4 ≡ 4 = length_bytes 4 s.early_data_limit in
    let l5 : length s.secret ≡ secret_length s.suite = t.secret in
    let d0 : drop 0 b ≡ x0 ++ r1 = refl in
    let d1 : drop 2 b ≡ x1 ++ r2 = past 0 2 b x0 r1 d0 l0 in
    let d2 : drop 10 b ≡ x2 ++ r3 = past 2 8 b x1 r2 d1 l1 in
    let d3 : drop 14 b ≡ x3 ++ r4 = past 10 4 b x2 r3 d2 l2 in
    let d4 : drop 18 b ≡ x4 ++ r5 = past 14 4 b x3 r4 d3 l3 in
    let d5 : drop secret_at b ≡ r5 = past 18 4 b x4 r5 d4 l4 in
    let d6 : drop (name_at s.suite) b ≡ s.name_length ∷ nm = past secret_at (secret_length s.suite) b s.secret (s.name_length ∷ nm) d5 l5 in
    let d7 : drop (name_at s.suite + 1) b ≡ nm = past (name_at s.suite) 1 b (s.name_length ∷ []) nm d6 refl in
    record {
      suite = ap number_of (field 0 2 b x0 r1 d0 l0) ∙ number_bytes 2 (suite_number s.suite) (omega (arith, suite_small s.suite));
      issued = ap number_of (field 2 8 b x1 r2 d1 l1) ∙ number_bytes 8 s.issued_at t.issued_at;
      lifetime = ap number_of (field 10 4 b x2 r3 d2 l2) ∙ number_bytes 4 s.lifetime t.lifetime;
      age = ap number_of (field 14 4 b x3 r4 d3 l3) ∙ number_bytes 4 s.age_add t.age_add;
      early = ap number_of (field 18 4 b x4 r5 d4 l4) ∙ number_bytes 4 s.early_data_limit t.early_data_limit;
      secret = field secret_at (secret_length s.suite) b s.secret (s.name_length ∷ nm) d5 l5;
      count = rw (← get_or-drop (name_at s.suite) b 0 0, d6);
      name = d7;
      long = omega (arith, length-drop (name_at s.suite) b, ap length d6);
    }

name_long : (s : SessionState) → Typed s → Fits s → length (take s.name_length s.name) ≡ s.name_length
name_long s t f = grind (arith, common_steps, t.name, f.named)

pub record_long : (s : SessionState) → Typed s → Fits s → length (encode_of s) ≡ name_at s.suite + 1 + s.name_length
record_long s t f = omega (arith, (parts s t).long, name_long s t f)

pub state_laid : (s : SessionState) → Typed s → Fits s → Laid s.suite (encode_of s)
state_laid s t f =
    let p = parts s t in
    record {
      long = omega (arith, record_long s t f);
      suited = p.suite;
      lived = omega (arith, p.lifetime, f.lived);
      expires = omega (arith, p.lifetime, f.expires);
      named = omega (arith, p.count, f.named);
      whole = omega (arith, record_long s t f, p.count);
    }

name_back : (s : SessionState) → Typed s → Fits s → filled (take s.name_length s.name) max_name ≡ s.name
name_back s t f = grind (arith, common_steps, t.name, f.named, f.after)

pub read_back : (s : SessionState) → Typed s → Fits s → read_of s.suite (encode_of s) ≡ s
unfolding read_of
read_back s t f =
    let p = parts s t in
    rw (p.issued, p.lifetime, p.age, p.early, p.secret, p.count, p.name, name_back s t f)

-- a record is laid out as one of its state's suite
pub suited : (s : SessionState) → Typed s → Fits s → record_suite (encode_of s) ≡ Some s.suite
suited s t f = laid_suite (encode_of s) s.suite (state_laid s t f)

pub back : (s : SessionState) → Typed s → Fits s → decode_of (encode_of s) ≡ Ok s
unfolding decode_of
back s t f = rw (suited s t f, read_back s t f)

module _ (b : List ℕ) (t : Suite) (small : Bytes b) (l : Laid t b) where
  cut : (k m : ℕ) → k + m ≤ min_record → (length (take m (drop k b)) ≡ m) × Bytes (take m (drop k b))
  cut k m h =
      (length-take-le m (drop k b) (omega (arith, length-drop k b, l.long)), part_small k m b small)

  number_back : (k m : ℕ) → k + m ≤ min_record → bytes_of m (number_of (take m (drop k b))) ≡ take m (drop k b)
  number_back k m h = bytes_number m (take m (drop k b)) (cut k m h).0 (cut k m h).1

  number_under : (k m : ℕ) → k + m ≤ min_record → number_of (take m (drop k b)) < 256 ^ m
  number_under k m h = number_below m (take m (drop k b)) (cut k m h).0 (cut k m h).1

  rest_long : length (drop (name_at t + 1) b) ≡ get_or b (name_at t) 0
  rest_long = length-drop (name_at t + 1) b ∙ omega (arith, l.whole)

  pub read_typed : Typed (read_of t b)
  unfolding read_of
  read_typed =
      record {
        issued_at = number_under 2 8 (omega arith);
        lifetime = number_under 10 4 (omega arith);
        age_add = number_under 14 4 (omega arith);
        early_data_limit = number_under 18 4 (omega arith);
        secret = (cut secret_at (secret_length t) (omega arith)).0;
        name = length_filled (drop (name_at t + 1) b) max_name (omega (arith, rest_long, l.named));
      }

  pub read_fits : Fits (read_of t b)
  unfolding read_of
  read_fits =
      let n = rest_long in
      record {
        lived = l.lived;
        expires = l.expires;
        named = l.named;
        after = drop_at (drop (name_at t + 1) b) (zeros (max_name - length (drop (name_at t + 1) b))) (get_or b (name_at t) 0) n ∙ rw n;
      }

  pub read_whole : encode_of (read_of t b) ≡ b
  unfolding read_of encode_of
  read_whole =
      let name : take (get_or b (name_at t) 0) (filled (drop (name_at t + 1) b) max_name) ≡ drop (name_at t + 1) b =
      take_at (drop (name_at t + 1) b) (zeros (max_name - length (drop (name_at t + 1) b))) (get_or b (name_at t) 0) rest_long in
      let end : get_or b (name_at t) 0 ∷ drop (name_at t + 1) b ≡ drop (name_at t) b = sym (drop_more b (name_at t) 0 (omega (arith, l.whole))) in
      let suite : bytes_of 2 (suite_number t) ≡ take 2 b = ap (bytes_of 2) (sym l.suited) ∙ number_back 0 2 (omega arith) in
      rw (
        suite,
        number_back 2 8 (omega arith),
        number_back 10 4 (omega arith),
        number_back 14 4 (omega arith),
        number_back 18 4 (omega arith),
        name,
        end,
        part_rest secret_at (secret_length t) b,
        part_rest 18 4 b,
        part_rest 14 4 b,
        part_rest 10 4 b,
        part_rest 2 8 b,
      )
      (part_rest 0 2 b)

pub forth : (b : List ℕ) (s : SessionState) → Bytes b → decode_of b ≡ Ok s → Typed s × Fits s × (encode_of s ≡ b)
unfolding decode_of
forth b s small e =
    let p = read_some (record_suite b) b s e in
    let l : Laid p.0 b = suite_laid b p.0 p.1.0 in
    let is : read_of p.0 b ≡ s = p.1.1 in
    subst (λ (x : SessionState). Typed x × Fits x × (encode_of x ≡ b)) is
    (read_typed b p.0 small l, read_fits b p.0 small l, read_whole b p.0 small l)

test_read : (o : Option Suite) (b : List ℕ) → is_ok (read_under o b) ≡ is_some o
test_read o b = grind arith

pub read_test : (b : List ℕ) → is_ok (decode_of b) ≡ is_record b
unfolding decode_of is_record
read_test b = test_read (record_suite b) b

some_suite : (o : Option Suite) → is_some o ≡ true → (t : Suite) × (o ≡ Some t)
some_suite o e = grind arith

pub test_laid : (b : List ℕ) → is_record b ≡ true → (t : Suite) × Laid t b
unfolding is_record
test_laid b e = let p = some_suite (record_suite b) e in (p.0, suite_laid b p.0 p.1)

pub tells : (b : List ℕ) → Bytes b → Decides (is_record b) (IsRecord b)
unfolding is_record
tells b small = (
  (λ e.
      let p = test_laid b e in
      record { state = read_of p.0 b; typed = read_typed b p.0 small p.1; fits = read_fits b p.0 small p.1; laid = read_whole b p.0 small p.1 }),
  λ r. ap (λ (x : List ℕ). is_some (record_suite x)) (sym r.laid) ∙ rw (laid_suite (encode_of r.state) r.state.suite (state_laid r.state r.typed r.fits)),
)

pub least : (b : List ℕ) → is_record b ≡ true → min_record ≤ length b
least b e = (test_laid b e).1.long

pub most : (b : List ℕ) → is_record b ≡ true → length b ≤ max_record
most b e = omega (arith, (test_laid b e).1.whole, (test_laid b e).1.named)
