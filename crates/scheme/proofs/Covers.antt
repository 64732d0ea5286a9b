-- Covering by places, and the laws of sealings.
use Rattle.std.proofs.Common.{◌≡◌, ℕ, ◌+◌, ◌-◌, ◌*◌, ◌<◌, ◌≤◌, List, ◌++◌, length, get_or, take, drop, sym, refl, ap, ◌∙◌, arith}
use lib.Bits.{bit_xor, xor_assoc, xor_self, xor_zero_r}
use Rattle.std.proofs.lemmas.Nat.{div-mul-add, mod-mul-add}
use Rattle.std.proofs.lemmas.List.FromFn.{length-map-range_with_len, get_or-map-range_with_len}
use Rattle.std.proofs.lemmas.List.{ext_get_or, length-append, length-drop, length-take-le, get_or_append_left, get_or-take, get_or-drop, take_at, drop_at}
use Rattle.std.proofs.lemmas.Slice.{take-put_mid}
use borrow.Rule.Slice.PartMut.{put_mid}
use lib.Seq.{take-add}
use Rattle.sealer.specs.Meaning.{LawfulSealer}
use Rattle.scheme.specs.Schemes.{SchemeMeaning, LawfulScheme}
use Rattle.scheme.specs.Covering.{covered_at, covered, covered_by, sealing_of, sealer_by}
use Rattle.scheme.specs.Laws.{CoveringLaws}

module _ (block : ℕ → List ℕ) (size : ℕ) where
  pub covered_long : (plain : List ℕ) → length (covered block size plain) ≡ length plain
  unfolding covered
  covered_long plain = length-map-range_with_len (covered_at block size plain) 0 (length plain)

  pub covered_at_is : (plain : List ℕ) (k : ℕ) → k < length plain → get_or (covered block size plain) k 0 ≡ covered_at block size plain k
  unfolding covered
  covered_at_is plain k h = get_or-map-range_with_len (covered_at block size plain) 0 (length plain) k k 0 h (omega arith)

  pub twice : (plain : List ℕ) → covered block size (covered block size plain) ≡ plain
  unfolding covered_at
  twice plain =
      let c : List ℕ = covered block size plain in
      let long : length c ≡ length plain = covered_long plain in
      ext_get_or 0 (covered block size c) plain (covered_long c ∙ long)
      (λ k h.
      let l : k < length plain = omega (arith, covered_long c) in
      covered_at_is c k (omega arith) ∙ rw (covered_at_is plain k l, xor_assoc, xor_self, xor_zero_r))

  -- a part of the plain with its block laid over it is that part of the covered plain
  pub laid : (plain part rest pad row : List ℕ) (i : ℕ) → drop (i * size) plain ≡ part ++ rest → length part ≤ size → length row ≡ length part → ((k : ℕ) → k < length row → get_or row k 0 ≡ bit_xor (get_or part k 0) (get_or pad k 0)) → take size pad ≡ block i → row ≡ take (length part) (drop (i * size) (covered block size plain))
  unfolding covered_at
  laid plain part rest pad row i e fits long each is =
      let at : ℕ = i * size in
      let c : List ℕ = covered block size plain in
      let lengths : length plain - at ≡ length part + length rest = sym (length-drop at plain) ∙ ap length e ∙ length-append part rest in
      ext_get_or 0 row (take (length part) (drop at c)) (omega (arith, length-take-le (length part) (drop at c), length-drop at c, covered_long plain))
      (λ k h.
      let small : k < size = omega arith in
      let whole : get_or plain (at + k) 0 ≡ get_or part k 0 = sym (get_or-drop at plain k 0) ∙ ap (λ l. get_or l k 0) e ∙ get_or_append_left part rest 0 k (omega arith) in
      let streamed : get_or pad k 0 ≡ get_or (block i) k 0 = sym (get_or-take size pad k 0 small) ∙ ap (λ l. get_or l k 0) is in
      each k h ∙ sym (get_or-take (length part) (drop at c) k 0 (omega arith) ∙ get_or-drop at c k 0 ∙ covered_at_is plain (at + k) (omega arith)
      ∙ rw (div-mul-add i size k small, mod-mul-add i size k small, whole, streamed)))

  -- a buffer whose front is covered, when the next part is laid into it
  pub further : (plain out row : List ℕ) (at k m n : ℕ) → at ≤ length out → length row ≡ m → n ≡ at + m → take at out ≡ take at (covered block size plain) → row ≡ take m (drop at (covered block size plain)) → take n (put_mid at k out row) ≡ take n (covered block size plain)
  further plain out row at k m n fits long end front is =
      rw (end, take-put_mid at k out row (at + m) (omega arith) fits, front, is, take-add at m (covered block size plain))

module _ (m : SchemeMeaning) (key heading : List ℕ) (tagged : (c : List ℕ) → length (m.tag key heading c) ≡ m.extra) where
  pub sealing_long : (plain : List ℕ) → length (sealing_of m key heading plain) ≡ length plain + m.extra
  unfolding sealing_of
  sealing_long plain = simp (length-append, tagged, covered_long)

  -- the two parts of a sealing
  pub sealing_parts : (plain bytes end : List ℕ) → length end ≡ m.extra → sealing_of m key heading plain ≡ bytes ++ end → (bytes ≡ covered_by m key plain) × (end ≡ m.tag key heading (covered_by m key plain))
  unfolding sealing_of
  sealing_parts plain bytes end long e =
      let c : List ℕ = covered_by m key plain in
      let n : ℕ = length bytes in
      let t : List ℕ = m.tag key heading c in
      let same : length c ≡ n = omega (arith, ap length e, length-append c t, length-append bytes end, tagged c) in
      (sym (take_at bytes end n refl) ∙ ap (take n) (sym e) ∙ take_at c t n same, sym (drop_at bytes end n refl) ∙ ap (drop n) (sym e) ∙ drop_at c t n same)

  pub apart : (plain other : List ℕ) → sealing_of m key heading plain ≡ sealing_of m key heading other → plain ≡ other
  unfolding sealing_of
  apart plain other e =
      sym (twice (m.block key) m.size plain) ∙ ap (covered_by m key) (sym (sealing_parts plain _ _ (tagged _) e).0) ∙ twice (m.block key) m.size other

pub laws : CoveringLaws
laws = record { even = covered_long; twice = twice; long = sealing_long; apart = apart }

-- a sealer by a lawful scheme is lawful
pub sealer_lawful : (m : SchemeMeaning) (number : ℕ) → LawfulScheme m → number < 256 → LawfulSealer (sealer_by m number)
sealer_lawful m number l b =
    record {
      seals = record {
        small = l.limited;
        long = λ key heading plain _ _ _. sealing_long m key heading (l.tagged key heading) plain;
        apart = λ key heading plain other _ _ _ _ e. apart m key heading (l.tagged key heading) plain other e;
      };
      one_byte = b;
    }
