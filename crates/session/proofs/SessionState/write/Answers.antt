use Rattle.std.proofs.Common.{◌≡◌, ℕ, ◌+◌, ◌-◌, ◌≤◌, true, length, sym, refl, ap, ◌∙◌, arith}
use Rattle.std.proofs.lemmas.List.{length-replicate}
use Rattle.octets.specs.Buffers.{filled}
use Rattle.session.specs.Limits.{max_record, name_at}
use Rattle.session.specs.Records.{Typed, Fits, encode_of, fields_fit}
use Rattle.session.proofs.Written.{filled_parts, answer, buffer, reads_back}
use Rattle.session.proofs.SessionState.write.Goals as goal

pub returns : goal.returns
returns c =
    let s = c.args.self.now in
    let n : ℕ = length c.args.out.now in
    let l : length c.clear.new.b ≡ n = ap length c.clear.ensures ∙ length-replicate {A = ℕ} n 0 in
    let room : max_record ≤ n = omega arith in
    let t : Typed s = record { issued_at = omega arith; lifetime = omega arith; age_add = omega arith; early_data_limit = omega arith; secret = omega arith; name = omega arith } in
    let fit : fields_fit s ≡ true = sym c.if-not-fits.ensures.value in
    let f : Fits s = c.if-not-fits.ensures.decides.0 refl in
    let at : c.secret_length-name_at.result ≡ 32 = c.secret_length-name_at.ensures in
    let from : s.name_length - 0 ≡ s.name_length = omega arith in
    let all : c.put_part-2.new.row ≡ filled (encode_of s) n =
    simp (c.put_part-2.ensures, at, from, c.put_part.ensures, c.put-5.ensures, c.put-4.ensures, c.put-3.ensures, c.put-2.ensures, c.put.ensures, c.from.ensures, c.clear.ensures) (filled_parts s n t f room) in
    let k : 22 + c.secret_length-name_at.result + 1 + s.name_length ≡ name_at s.suite + 1 + s.name_length = ap (λ (x : ℕ). 22 + x + 1 + s.name_length) c.secret_length-name_at.ensures in
    record {
      value = answer s n t f room _ k fit;
      out = all ∙ buffer s n t f room fit;
      back = reads_back s n t f room _ _ k all;
    }
