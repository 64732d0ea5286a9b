-- Which sealed bytes have a plain, and what the buffers hold.
use Rattle.std.proofs.Common.{◌≡◌, ℕ, ◌+◌, ◌-◌, ◌<◌, ◌≤◌, List, ◌++◌, length, take, drop, sym, ap, ◌∙◌, ◌⊎◌, inl, inr, arith}
use lib.Seq.{paste}
use Rattle.std.proofs.lemmas.List.{take_at, drop-replicate}
use Rattle.octets.specs.Buffers.{zeros, filled}
use Rattle.session.proofs.Rows.{filled_next}
use Rattle.sealer.specs.Limits.{max_plain}
use Rattle.sealer.specs.Outcomes.{PlainOf, NoPlain}
use Rattle.scheme.specs.Schemes.{SchemeMeaning, LawfulScheme}
use Rattle.scheme.specs.Covering.{covered, covered_by, sealing_of}
use Rattle.scheme.proofs.Covers.{covered_long, twice, sealing_long, sealing_parts}

-- a covered plain at the start of a cleared buffer
pub covered_zeros : (block : ℕ → List ℕ) (size : ℕ) (plain was : List ℕ) (room : ℕ) → was ≡ zeros room → covered block size plain ++ drop (length plain) was ≡ filled (covered block size plain) room
covered_zeros block size plain was room e = rw (e, covered_long block size plain, drop-replicate {X = ℕ} (length plain) room 0)

module _ (m : SchemeMeaning) (key heading : List ℕ) (tagged : (c : List ℕ) → length (m.tag key heading c) ≡ m.extra) where
  -- the tag, read from the row that it was written to
  pub tag_read : (bytes row : List ℕ) (n : ℕ) → row ≡ filled (m.tag key heading bytes) 32 → n ≡ m.extra → take n row ≡ m.tag key heading bytes
  tag_read bytes row n is e = rw is (take_at _ _ n (tagged bytes ∙ sym e))

  module _ (sealed : List ℕ) where
    -- bytes too short or too long for a sealing
    pub too_short : length sealed < m.extra → NoPlain (sealing_of m key heading) sealed
    too_short h plain p = omega (arith, ap length p.seals, sealing_long m key heading tagged plain)

    pub too_long : max_plain < length sealed - m.extra → NoPlain (sealing_of m key heading) sealed
    too_long h plain p = omega (arith, ap length p.seals, sealing_long m key heading tagged plain, p.short)

    -- bytes whose tag is another are no sealing
    pub other_tag : (bytes end row : List ℕ) (n : ℕ) → row ≡ filled (m.tag key heading bytes) 32 → n ≡ m.extra → sealed ≡ bytes ++ end → length end ≡ m.extra → (take n row ≡ end → ⊥) → NoPlain (sealing_of m key heading) sealed
    other_tag bytes end row n is e parts long differ plain p =
        let q = sealing_parts m key heading tagged plain bytes end long (p.seals ∙ parts) in
        differ (tag_read bytes row n is e ∙ ap (m.tag key heading) q.0 ∙ sym q.1)

    -- bytes whose tag is right are the sealing of what they cover
    pub same_tag : (bytes end row : List ℕ) (n : ℕ) → row ≡ filled (m.tag key heading bytes) 32 → n ≡ m.extra → sealed ≡ bytes ++ end → length bytes ≤ max_plain → take n row ≡ end → PlainOf (sealing_of m key heading) sealed (covered_by m key bytes)
    unfolding sealing_of
    same_tag bytes end row n is e parts short same =
        record { short = omega (arith, covered_long (m.block key) m.size bytes); seals = rw (twice (m.block key) m.size bytes, ← tag_read bytes row n is e, same) (sym parts) }

-- bytes of a length that no sealing by a lawful scheme has
pub no_length : (m : SchemeMeaning) → LawfulScheme m → (key heading sealed : List ℕ) → (length sealed < m.extra) ⊎ (max_plain < length sealed - m.extra) → NoPlain (sealing_of m key heading) sealed
no_length m lawful key heading sealed (inl h) = too_short m key heading (lawful.tagged key heading) sealed h
no_length m lawful key heading sealed (inr h) = too_long m key heading (lawful.tagged key heading) sealed h

-- a sealing that is written in two parts
pub sealed_parts : (m : SchemeMeaning) (key heading plain end : List ℕ) (extra room : ℕ) → length end ≡ extra → end ≡ m.tag key heading (covered_by m key plain) → length plain + extra ≤ room → paste (filled (covered_by m key plain) room) (length plain) end extra ≡ filled (sealing_of m key heading plain) room
unfolding sealing_of
sealed_parts m key heading plain end extra room long is fits =
    filled_next (covered_by m key plain) end room (length plain) extra (covered_long (m.block key) m.size plain) long fits ∙ rw is
