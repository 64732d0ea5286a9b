-- A make whose head write stands begins what holds: the root's record alone on the chain, and zeros in all other slots.
use Rattle.std.proofs.Common.{◌≡◌, ℕ, zero, suc, ◌+◌, ◌<◌, ◌≤◌, true, List, [], ◌∷◌, length, get_or, Result, sym, refl, ap, ◌∙◌, inl, inr, arith, length-append, length-set, take_all, get_or-set_other, get_or-set_same}
use Rattle.std.proofs.lemmas.Bool.{cases_eq, ltb-true}
use Rattle.device.specs.Effects.{Slots, blank, State}
use Rattle.fault.specs.declared.Halt.{Halt}
use Rattle.fault.specs.declared.Step.TheVariants.{Make}
use Rattle.layout.specs.declared.NodeFields.{NodeFields}
use Rattle.layout.specs.declared.Head.{Head}
use Rattle.layout.specs.Records.{encode_head, encode_node}
use Rattle.tree.specs.Nodes.{root_node}
use Rattle.tree.specs.Cover.{In}
use Rattle.chain.specs.Reading.{Link}
use Rattle.ticket.specs.Limits.{name_length}
use Rattle.generator.specs.Bytes.{value_length}
use Rattle.calls.specs.Kits.{Kit}
use Rattle.steps.specs.OneStep.{Write}
use Rattle.steps.specs.Writes.{stood, CutShort}
use Rattle.calls.specs.Files.{blank_writes, root_record, first_head, make_writes}
use Rattle.calls.specs.Calls.{count_fits, Making, declined, stopped, cut, made}
use Rattle.calls.specs.Books.{fresh_book}
use Rattle.calls.specs.Pasts.{Mode, running, cold, mode_of}
use Rattle.law.specs.Law.{RestBlank}
use Rattle.law.proofs.Invariant.{Stands, Inv}
use Rattle.steps.proofs.Plans.{length_stood, stood_append}
use Rattle.law.proofs.Frames.{kept, written, slot_after, count_least, count_kept}
use Rattle.law.proofs.ReopenKeeps.{Whole, Definite, whole_stood}

-- ---- zeros to every slot
length_blanks : (n i : ℕ) → length (blank_writes i n) ≡ n
length_blanks zero i = refl
length_blanks (suc n) i = ap suc (length_blanks n (suc i))

blank_to : (n i j : ℕ) → i ≤ j → j < i + n → In (record { slot = j; bytes = blank; step = Make }) (blank_writes i n)
blank_to zero i j a b = absurd (omega arith)
blank_to (suc n) i j a b = elim (cases_eq j i) [ inl q ↦ inl (rw q) | inr q ↦ inr (blank_to n (suc i) j (omega (arith, q)) (omega arith)) ]

blank_bytes : (n i : ℕ) (w : Write) → In w (blank_writes i n) → w.bytes ≡ blank
blank_bytes zero i w m = absurd m
blank_bytes (suc n) i w (inl e) = rw e
blank_bytes (suc n) i w (inr m) = blank_bytes n (suc i) w m

-- ---- heads and records are not all zero
head_definite : (d : ℕ) (h : Head) → Definite (encode_head d h)
unfolding encode_head
head_definite d h = inr refl

pub node_definite : (x : NodeFields) (v : List ℕ) → Definite (encode_node x v)
unfolding encode_node
node_definite x v = inr refl

-- ---- all of the writes
-- every slot is zero after the first of them
zeros_at : (s : Slots) (i : ℕ) → i < length (stood s (blank_writes 0 (length s))) → get_or (stood s (blank_writes 0 (length s))) i [] ≡ blank
zeros_at s i l =
    let n = length_stood s (blank_writes 0 (length s)) in
    elim (slot_after s (blank_writes 0 (length s)) i (omega arith)) [
      | kept u g ↦ absurd (u _ (blank_to (length s) 0 i (omega arith) (omega arith)) refl)
      | written w m g ↦ g ∙ blank_bytes (length s) 0 w m
    ]

abbrev made_of : Kit → ℕ → List ℕ → List ℕ → List Write
made_of k d root name = record { slot = 1; bytes = root_record root; step = Make } ∷ record { slot = 0; bytes = encode_head d (first_head k name); step = Make } ∷ []

-- the last two, on slots that are all zero
module _ (k : Kit) (d : ℕ) (root name : List ℕ) (z : Slots) (fits : count_fits d z ≡ true) (zeros : (i : ℕ) → i < length z → get_or z i [] ≡ blank) where
  abbrev chain : List Link
  chain = record { slot = 1; node = root_node; value = root } ∷ []

  stands : Stands k d name 0 (stood z (made_of k d root name)) chain
  stands = grind (arith, count_least, length-set, count_kept, get_or-set_same, get_or-set_other)

  rest : RestBlank (stood z (made_of k d root name)) chain
  rest i above within off = grind (arith, length-set, get_or-set_other)

  whole : Whole (stood z (made_of k d root name))
  whole = whole_stood (made_of k d root name) z
      (λ w m. elim m [
        | inl e ↦ rw e (node_definite (record { depth = 0; first = 0; next = 0 }) root)
        | inr r ↦ elim r [ inl e ↦ rw e (head_definite d (first_head k name)) | inr z ↦ absurd z ]
      ])
      (λ i l e. zeros i l)

  begun : (m : Mode) (t : State) → t.slots ≡ stood z (made_of k d root name) → length root ≡ value_length → length name ≡ name_length → (m ≡ running → t.power ≡ true) → Inv k d root name m t fresh_book × Whole t.slots
  begun m t e lr ln p = grind (arith, stands, rest, whole)

-- of a make whose head write stands: so all of its writes do
module _ (k : Kit) (d : ℕ) (root name : List ℕ) (s : Slots) (fits : count_fits d s ≡ true) where
  abbrev zeroed : Slots
  zeroed = stood s (blank_writes 0 (length s))

  wrote : (m : Mode) (t : State) → t.slots ≡ stood s (make_writes k d s root name) → length root ≡ value_length → length name ≡ name_length → (m ≡ running → t.power ≡ true) →
      Inv k d root name m t fresh_book × Whole t.slots
  wrote m t e = begun k d root name zeroed (count_kept d s zeroed (length_stood s (blank_writes 0 (length s))) fits) (zeros_at s) m t (e ∙ stood_append s (blank_writes 0 (length s)) (made_of k d root name))

  -- a cut after which it stands came at that write
  all_stand : {m : ℕ} {h : Halt} {t : Slots} → CutShort s (make_writes k d s root name) m h t → length s + 1 < m → t ≡ stood s (make_writes k d s root name)
  all_stand {m = m} c l = grind (arith, length-append, length_blanks, take_all)

pub make_holds : {k : Kit} {d : ℕ} {root name : List ℕ} {s : State} {r : Result (Unit {0}) Halt} {t : State} →
    length root ≡ value_length → length name ≡ name_length → Making k d s root name r t true → Inv k d root name (mode_of r) t fresh_book × Whole t.slots
make_holds lr ln (declined f e z h) = absurd (cc)
make_holds lr ln (stopped f e z p h) = absurd (cc)
make_holds {k = k} {d = d} {root = root} {name = name} {s = s} {t = t} lr ln (cut m h f c e p q) =
    rw e (wrote k d root name s.slots f cold t (all_stand k d root name s.slots f c (ltb-true (length s.slots + 1) m (sym q))) lr ln (λ i. absurd (cc)))
make_holds {k = k} {d = d} {root = root} {name = name} {s = s} {t = t} lr ln (made f w e p q) = rw e (wrote k d root name s.slots f running t w lr ln (λ i. p))
