-- Big-endian bytes, at every width.
use Rattle.std.proofs.Common.{◌≡◌, ℕ, zero, suc, ◌+◌, ◌-◌, ◌*◌, ◌/◌, ◌%◌, ◌^◌, ◌<◌, List, [], ◌∷◌, ◌++◌, map, length, get_or, take, drop, sym, refl, ap, ◌∙◌, pow-suc, arith}
use lib.Seq.{paste}
use Rattle.std.specs.List.{range_with_len}
use Rattle.std.proofs.lemmas.Nat.{shr-shr}
use Rattle.std.proofs.lemmas.List.FromFn.{fill_by_all}
use Rattle.std.proofs.lemmas.Int.Digits.{number_push}
use Rattle.std.proofs.lemmas.List.{length_push, nil_from_length, take_more, take_all, take_at, drop_at, drop-drop, length-take, get_or-take, get_or_past, get_or_append_left, get_or-append_right}
use Rattle.octets.specs.Fields.{bytes_of, number_of, FieldLaws}

pub bytes2 : (v : ℕ) → bytes_of 2 v ≡ (v / 256 % 256) ∷ (v % 256) ∷ []
unfolding bytes_of
bytes2 v = refl

pub bytes4 : (v : ℕ) → bytes_of 4 v ≡ (v / 16777216 % 256) ∷ (v / 65536 % 256) ∷ (v / 256 % 256) ∷ (v % 256) ∷ []
unfolding bytes_of
bytes4 v = rw (shr-shr v 8 8, shr-shr v 16 8)

pub bytes8 : (v : ℕ) → bytes_of 8 v ≡ (v / 72057594037927936 % 256) ∷ (v / 281474976710656 % 256) ∷ (v / 1099511627776 % 256) ∷ (v / 4294967296 % 256) ∷ (v / 16777216 % 256) ∷ (v / 65536 % 256) ∷ (v / 256 % 256) ∷ (v % 256) ∷ []
unfolding bytes_of
bytes8 v = rw (shr-shr v 8 8, shr-shr v 16 8, shr-shr v 24 8, shr-shr v 32 8, shr-shr v 40 8, shr-shr v 48 8)

spelled : (w : List ℕ) (n : ℕ) → length w ≡ n → w ≡ map (λ i. get_or w i 0) (range_with_len 0 n)
spelled w n e = fill_by_all (λ i. get_or w i 0) w n 0 e (λ k h. refl)

pub number2 : (w : List ℕ) → length w ≡ 2 → number_of w ≡ get_or w 0 0 * 256 + get_or w 1 0
unfolding number_of
number2 w e = omega (arith, ap number_of (spelled w 2 e))

pub number4 : (w : List ℕ) → length w ≡ 4 → number_of w ≡ get_or w 0 0 * 16777216 + get_or w 1 0 * 65536 + get_or w 2 0 * 256 + get_or w 3 0
unfolding number_of
number4 w e = ap number_of (spelled w 4 e) ∙ omega arith

pub number8 : (w : List ℕ) → length w ≡ 8 → number_of w ≡ get_or w 0 0 * 72057594037927936 + get_or w 1 0 * 281474976710656 + get_or w 2 0 * 1099511627776 + get_or w 3 0 * 4294967296 + get_or w 4 0 * 16777216 + get_or w 5 0 * 65536 + get_or w 6 0 * 256 + get_or w 7 0
unfolding number_of
number8 w e = ap number_of (spelled w 8 e) ∙ omega arith

pub length_bytes : (n v : ℕ) → length (bytes_of n v) ≡ n
unfolding bytes_of
length_bytes zero v = refl
length_bytes (suc n) v = omega (arith, length_push (bytes_of n (v / 256)) (v % 256), length_bytes n (v / 256))

pub number_bytes : (n v : ℕ) → v < 256 ^ n → number_of (bytes_of n v) ≡ v
unfolding bytes_of number_of
number_bytes zero v h = omega arith
number_bytes (suc n) v h =
    number_push 256 (bytes_of n (v / 256)) (v % 256)
    ∙ omega (arith, number_bytes n (v / 256) (omega (arith, pow-suc 256 n)))

-- bytes are those of the number that they write
pub bytes_number : (n : ℕ) (bs : List ℕ) → length bs ≡ n → ((k : ℕ) → get_or bs k 0 < 256) → bytes_of n (number_of bs) ≡ bs
unfolding bytes_of number_of
bytes_number zero bs e small = sym (nil_from_length bs e)
bytes_number (suc n) bs e small =
    let front : List ℕ = take n bs in
    let d : ℕ = get_or bs n 0 in
    let low : d < 256 = small n in
    let split : bs ≡ front ++ d ∷ [] = grind (arith, take_all (n + 1) bs, take_more bs n 0) in
    let q : ℕ = number_of front in
    let is : number_of bs ≡ q * 256 + d = ap number_of split ∙ number_push 256 front d in
    let long : length front ≡ n = length-take n bs ∙ omega arith in
    let rest : (k : ℕ) → get_or front k 0 < 256 = λ k. grind (arith, get_or-take n bs k 0, small k, get_or_past front k 0) in
    grind (arith, bytes_number n front long rest)

-- a part written right after a front
pub paste_at : (p r s : List ℕ) (n m : ℕ) → length p ≡ n → length s ≡ m → paste (p ++ r) n s m ≡ p ++ s ++ drop m r
paste_at p r s n m e f = grind (arith, take_at p r n, take_all m s, drop-drop m n (p ++ r), drop_at p r n)

-- every byte of a field fits
pub bytes_small : (n v k : ℕ) → get_or (bytes_of n v) k 0 < 256
unfolding bytes_of
bytes_small zero v k = omega arith
bytes_small (suc n) v k =
    grind (arith, length_bytes n (v / 256), get_or_append_left (bytes_of n (v / 256)) (v % 256 ∷ []) 0 k, bytes_small n (v / 256) k, get_or-append_right (bytes_of n (v / 256)) (v % 256 ∷ []) n k 0, get_or_past (v % 256 ∷ []) (k - n) 0)

pub fields : FieldLaws
fields = record { long = length_bytes; back = number_bytes; forth = bytes_number; small = bytes_small }
