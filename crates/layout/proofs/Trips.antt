-- The round trips of the two records.
use Rattle.std.proofs.Common.{◌≡◌, ℕ, ◌+◌, ◌^◌, ◌<◌, ◌≤◌, true, eqb, List, ◌∷◌, ◌++◌, length, get_or, take, drop, Some, sym, refl, ap, ◌∙◌, subst, arith}
use Rattle.std.proofs.lemmas.List.{length-drop, length-take-le, take_at, drop_at, take_all, drop-drop, drop_more, get_or-drop}
use Rattle.std.proofs.lemmas.Option.{cond_some}
use Rattle.std.proofs.lemmas.Bool.{and_parts, eq-eqb, le-leb, eqb-true, leb-true}
use Rattle.octets.specs.Buffers.{zeros, is_blank}
use Rattle.octets.specs.Fields.{bytes_of, number_of}
use Rattle.octets.proofs.Parts.{part_small, part_rest}
use Rattle.octets.proofs.Blank.{zeros_from_blank}
use Rattle.octets.proofs.Fielded.{length_bytes, number_bytes, bytes_number, number2, number4}
use Rattle.layout.specs.declared.Head.{Head}
use Rattle.layout.specs.declared.NodeFields.{NodeFields}
use Rattle.layout.specs.Records.{part, is_head, head_fields, encode_head, head_of, is_record, node_fields, encode_node, node_of, value_of}
use Rattle.layout.specs.Trips.{IsSlot, HeadFits, HeadTrip, NodeFits, NodeTrip}

part_long : (at n : ℕ) (bs : List ℕ) → length bs ≡ 64 → at + n ≤ 64 → length (part at n bs) ≡ n
part_long at n bs e h = length-take-le n (drop at bs) (omega (arith, length-drop at bs))

-- a field's bytes are those of its number
field : (at n : ℕ) (bs : List ℕ) → IsSlot bs → at + n ≤ 64 → bytes_of n (number_of (part at n bs)) ≡ part at n bs
field at n bs s h = bytes_number n (part at n bs) (part_long at n bs s.long h) (part_small at n bs s.small)

blank_part : (at n : ℕ) (bs : List ℕ) → length bs ≡ 64 → at + n ≤ 64 → is_blank (part at n bs) ≡ true → part at n bs ≡ zeros n
blank_part at n bs e h z = zeros_from_blank (part at n bs) z ∙ ap zeros (part_long at n bs e h)

head_back : (d : ℕ) (h : Head) → HeadFits d h → head_of d (encode_head d h) ≡ Some h
unfolding head_of encode_head
head_back d h f =
    let a : List ℕ = bytes_of 2 h.first in
    let b : List ℕ = bytes_of 4 h.issued in
    let r : List ℕ = h.numbers.generator ∷ h.numbers.sealer ∷ zeros 36 in
    let x : List ℕ = a ++ (b ++ (h.name ++ r)) in
    let d2 : drop 2 x ≡ b ++ (h.name ++ r) = drop_at a (b ++ (h.name ++ r)) 2 (length_bytes 2 h.first) in
    let d6 : drop 6 x ≡ h.name ++ r = sym (drop-drop 4 2 x) ∙ ap (drop 4) d2 ∙ drop_at b (h.name ++ r) 4 (length_bytes 4 h.issued) in
    let d22 : drop 22 x ≡ r = sym (drop-drop 16 6 x) ∙ ap (drop 16) d6 ∙ drop_at h.name r 16 f.name in
    let d24 : drop 24 x ≡ zeros 36 = sym (drop-drop 2 22 x) ∙ ap (drop 2) d22 in
    let one : number_of (take 2 x) ≡ h.first = rw (take_at a (b ++ (h.name ++ r)) 2 (length_bytes 2 h.first)) (number_bytes 2 h.first f.first) in
    let two : number_of (take 4 (drop 2 x)) ≡ h.issued = rw (d2, take_at b (h.name ++ r) 4 (length_bytes 4 h.issued)) (number_bytes 4 h.issued f.word) in
    let three : take 16 (drop 6 x) ≡ h.name = ap (take 16) d6 ∙ take_at h.name r 16 f.name in
    let four : get_or x 22 0 ≡ h.numbers.generator = sym (get_or-drop 22 x 0 0) ∙ ap (λ (y : List ℕ). get_or y 0 0) d22 in
    let five : get_or x 23 0 ≡ h.numbers.sealer = sym (get_or-drop 22 x 1 0) ∙ ap (λ (y : List ℕ). get_or y 1 0) d22 in
    let blank : is_blank (take 36 (drop 24 x)) ≡ true = ap (λ (y : List ℕ). is_blank (take 36 y)) d24 in
    rw (eq-eqb d d refl, blank, two, le-leb h.issued (2 ^ d) f.issued, one, three, four, five)

-- two bytes and four bytes write numbers of 16 and 32 bits
small2 : (w : List ℕ) → length w ≡ 2 → ((k : ℕ) → get_or w k 0 < 256) → number_of w < 2 ^ 16
small2 w e s = omega (arith, number2 w e, s 0, s 1)

small4 : (w : List ℕ) → length w ≡ 4 → ((k : ℕ) → get_or w k 0 < 256) → number_of w < 2 ^ 32
small4 w e s = omega (arith, number4 w e, s 0, s 1, s 2, s 3)

head_whole : (d : ℕ) (bs : List ℕ) → IsSlot bs → is_head d bs ≡ true → (encode_head d (head_fields bs) ≡ bs) × HeadFits d (head_fields bs)
unfolding encode_head
head_whole d bs s t =
    let p = and_parts (eqb (get_or bs 0 0) 1) _ t in
    let q = and_parts (eqb (get_or bs 1 0) d) _ p.1 in
    let u = and_parts (is_blank (part 2 2 bs)) _ q.1 in
    let v = and_parts (is_blank (part 28 36 bs)) _ u.1 in
    let b0 : get_or bs 0 0 ≡ 1 = eqb-true _ _ p.0 in
    let b1 : get_or bs 1 0 ≡ d = eqb-true _ _ q.0 in
    let long : length bs ≡ 64 = s.long in
    let z2 : part 2 2 bs ≡ zeros 2 = blank_part 2 2 bs long (omega arith) u.0 in
    let z28 : drop 28 bs ≡ zeros 36 = sym (take_all 36 (drop 28 bs) (omega (arith, length-drop 28 bs))) ∙ blank_part 28 36 bs long (omega arith) v.0 in
    let c26 : drop 26 bs ≡ get_or bs 26 0 ∷ get_or bs 27 0 ∷ zeros 36 = grind (arith, drop_more bs 26 0, drop_more bs 27 0, z28) in
    let w2 : 0 ∷ 0 ∷ drop 4 bs ≡ drop 2 bs = ap (λ (y : List ℕ). y ++ drop 4 bs) (sym z2) ∙ part_rest 2 2 bs in
    let top : 1 ∷ d ∷ 0 ∷ 0 ∷ drop 4 bs ≡ bs = grind (arith, w2, b0, b1, drop_more bs 0 0, drop_more bs 1 0) in (
      rw (field 4 2 bs s (omega arith), field 6 4 bs s (omega arith), ← c26, part_rest 10 16 bs, part_rest 6 4 bs, part_rest 4 2 bs) top,
      record {
        first = small2 (part 4 2 bs) (part_long 4 2 bs long (omega arith)) (part_small 4 2 bs s.small);
        issued = leb-true _ _ v.1;
        word = small4 (part 6 4 bs) (part_long 6 4 bs long (omega arith)) (part_small 6 4 bs s.small);
        name = part_long 10 16 bs long (omega arith);
      },
    )

head_forth : (d : ℕ) (bs : List ℕ) (h : Head) → IsSlot bs → head_of d bs ≡ Some h → (encode_head d h ≡ bs) × HeadFits d h
unfolding head_of
head_forth d bs h s e =
    let p = cond_some (is_head d bs) (head_fields bs) h e in
    subst (λ (g : Head). (encode_head d g ≡ bs) × HeadFits d g) p.1 (head_whole d bs s p.0)

pub head_trip : HeadTrip
head_trip = record { back = head_back; forth = head_forth }

node_back : (d : ℕ) (x : NodeFields) (v : List ℕ) → NodeFits d x → node_of d (encode_node x v) ≡ Some x
unfolding node_of encode_node bytes_of
node_back d x v f =
    rw (number_bytes 2 x.first f.first, number_bytes 2 x.next f.next, f.node)

node_value : (x : NodeFields) (v : List ℕ) → value_of (encode_node x v) ≡ v
unfolding value_of encode_node bytes_of
node_value x v = refl

node_whole : (d : ℕ) (bs : List ℕ) → IsSlot bs → is_record d bs ≡ true → (encode_node (node_fields bs) (value_of bs) ≡ bs) × NodeFits d (node_fields bs)
unfolding encode_node value_of
node_whole d bs s t =
    let p = and_parts (eqb (get_or bs 0 0) 2) _ t in
    let q = and_parts (is_blank (part 6 26 bs)) _ p.1 in
    let b0 : get_or bs 0 0 ≡ 2 = eqb-true _ _ p.0 in
    let long : length bs ≡ 64 = s.long in
    let z6 : part 6 26 bs ≡ zeros 26 = blank_part 6 26 bs long (omega arith) q.0 in
    let c6 : zeros 26 ++ drop 32 bs ≡ drop 6 bs = ap (λ (y : List ℕ). y ++ drop 32 bs) (sym z6) ∙ part_rest 6 26 bs in
    let top : 2 ∷ get_or bs 1 0 ∷ drop 2 bs ≡ bs = grind (arith, b0, drop_more bs 0 0, drop_more bs 1 0) in (
      rw (field 2 2 bs s (omega arith), field 4 2 bs s (omega arith), c6, part_rest 4 2 bs, part_rest 2 2 bs) top,
      record {
        node = q.1;
        first = small2 (part 2 2 bs) (part_long 2 2 bs long (omega arith)) (part_small 2 2 bs s.small);
        next = small2 (part 4 2 bs) (part_long 4 2 bs long (omega arith)) (part_small 4 2 bs s.small);
      },
    )

node_forth : (d : ℕ) (bs : List ℕ) (x : NodeFields) → IsSlot bs → node_of d bs ≡ Some x → (encode_node x (value_of bs) ≡ bs) × NodeFits d x
unfolding node_of
node_forth d bs x s e =
    let p = cond_some (is_record d bs) (node_fields bs) x e in
    subst (λ (y : NodeFields). (encode_node y (value_of bs) ≡ bs) × NodeFits d y) p.1 (node_whole d bs s p.0)

pub node_trip : NodeTrip
node_trip = record { back = node_back; value = node_value; forth = node_forth }
