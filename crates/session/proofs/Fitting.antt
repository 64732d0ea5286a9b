-- The test of a state's fields, and the limit of its lifetime by example.
use Rattle.std.proofs.Common.{◌≡◌, ℕ, ◌-◌, ◌^◌, ◌<◌, ◌≤◌, true, List, length, drop, is_ok, Some, Err, Decides, Option, ap, ◌∙◌, arith}
use Rattle.std.proofs.lemmas.List.{length-drop}
use Rattle.refusal.specs.declared.Refusal.TheVariants.{NotARecord}
use Rattle.octets.specs.Buffers.{zeros, is_blank}
use Rattle.octets.proofs.Blank.{zeros_from_blank, blank_from_zeros}
use Rattle.session.specs.declared.Suite.{Suite}
use Rattle.session.specs.declared.SessionState.{SessionState}
use Rattle.session.specs.Limits.{max_name, max_record}
use Rattle.session.specs.Records.{Typed, Fits, fields_fit, encode_of, record_suite, read_under, decode_of, written_of}
use Rattle.session.specs.Laws.{RecordLaws, LifetimeExamples, lasting}
use Rattle.session.proofs.Laid.{suite_laid}
use Rattle.session.proofs.Trip.{parts, back, forth, tells, read_test, record_long, least, most}

pub fields_fit_is : (s : SessionState) → length s.name ≡ max_name → Decides (fields_fit s) (Fits s)
unfolding fields_fit
fields_fit_is s n =
    let rest : length (drop s.name_length s.name) ≡ max_name - s.name_length = length-drop s.name_length s.name ∙ rw n in (
      (λ e.
          let blank : is_blank (drop s.name_length s.name) ≡ true = grind (arith, e) in
          record {
            lived = grind (arith, e);
            expires = grind (arith, e);
            named = grind (arith, e);
            after = zeros_from_blank (drop s.name_length s.name) blank ∙ ap zeros rest;
          }),
      λ f.
          let blank : is_blank (drop s.name_length s.name) ≡ true = ap is_blank f.after ∙ blank_from_zeros (max_name - s.name_length) in
          grind (arith, f.lived, f.expires, f.named, blank),
    )

pub laws : RecordLaws
laws = record { back = back; forth = forth; tells = tells; read = read_test; long = record_long; least = least; most = most }

lasting_typed : (t : ℕ) (s : SessionState) → t < 2 ^ 32 → Typed s → Typed (lasting t s)
lasting_typed t s h y =
    record { issued_at = y.issued_at; lifetime = h; age_add = y.age_add; early_data_limit = y.early_data_limit; secret = y.secret; name = y.name }

lasting_fits : (s : SessionState) → Fits s → Fits (lasting 604800 s)
lasting_fits s f = record { lived = omega arith; expires = omega arith; named = f.named; after = f.after }

none_read : (o : Option Suite) (b : List ℕ) → ((t : Suite) → o ≡ Some t → ⊥) → read_under o b ≡ Err NotARecord
none_read o b never = grind arith

reading_refused : (s : SessionState) → Typed s → decode_of (encode_of (lasting 604801 s)) ≡ Err NotARecord
unfolding decode_of
reading_refused s y =
    let b : List ℕ = encode_of (lasting 604801 s) in
    let p = parts (lasting 604801 s) (lasting_typed 604801 s (omega arith) y) in
    none_read (record_suite b) b (λ t e. omega (arith, (suite_laid b t e).expires, p.lifetime))

writes : (s : SessionState) (room : ℕ) → Typed s → Fits s → max_record ≤ room → is_ok (written_of (lasting 604800 s) room) ≡ true
unfolding written_of
writes s room y f h =
    let fit : fields_fit (lasting 604800 s) ≡ true = (fields_fit_is (lasting 604800 s) y.name).1 (lasting_fits s f) in
    grind (arith, fit)

writing_refused : (s : SessionState) (room : ℕ) → max_record ≤ room → written_of (lasting 604801 s) room ≡ Err NotARecord
unfolding written_of fields_fit
writing_refused s room h = grind arith

pub examples : LifetimeExamples
examples =
    record {
      reads = λ s y f. back (lasting 604800 s) (lasting_typed 604800 s (omega arith) y) (lasting_fits s f);
      refuses_reading = λ s y f. reading_refused s y;
      writes = writes;
      refuses_writing = writing_refused;
    }
