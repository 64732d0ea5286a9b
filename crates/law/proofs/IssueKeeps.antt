-- An issue keeps what holds: the head counts one more number, and the ticket given is sealed under the tree's key.
use Rattle.std.proofs.Common.{◌≡◌, ℕ, zero, suc, ◌+◌, ◌-◌, ◌^◌, ◌<◌, ◌≤◌, Bool, true, ltb, List, [], ◌∷◌, length, get_or, take, set, Ok, Err, refl, ap, ◌∙◌, inl, inr, arith, length-set, take_all, get_or-set_other, get_or-set_same}
use lib.Seq.{take-append_seam}
use Rattle.std.proofs.lemmas.Bool.{lt-ltb}
use Rattle.octets.specs.Fields.{bytes_of}
use Rattle.octets.specs.Buffers.{zeros, filled}
use Rattle.fault.specs.declared.Halt.{Halt}
use Rattle.device.specs.Effects.{Slot, Slots, State}
use Rattle.session.specs.Records.{is_record}
use Rattle.layout.specs.Records.{encode_head, recounted}
use Rattle.tree.specs.Nodes.{Covers}
use Rattle.tree.specs.Cover.{In}
use Rattle.tree.specs.Values.{key_of}
use Rattle.chain.specs.Reading.{Link, Sound}
use Rattle.calls.specs.Kits.{Kit}
use Rattle.calls.specs.Tickets.{ticket_of}
use Rattle.steps.specs.Writes.{stood, CutShort}
use Rattle.calls.specs.Files.{issue_write}
use Rattle.calls.specs.Calls.{Outcome, issued_ticket, Issuing, declined, cut, given}
use Rattle.calls.specs.Books.{Given, Book, raised, issue, fed}
use Rattle.calls.specs.Pasts.{Mode, running, cold, mode_after}
use Rattle.law.specs.Law.{RestBlank}
use Rattle.law.proofs.Invariant.{head_for, file_for, Stands, Inv}
use Rattle.law.proofs.Frames.{count_least, count_kept, linked_set}
use Rattle.law.proofs.Chains.{not_zero}
use Rattle.law.proofs.Links.{key_is}
use Rattle.law.proofs.Readings.{file_is, MayIssue, issue_ok, still, cooled}

-- ---- the head with one more number issued
recounted_head : (k : Kit) (d : ℕ) (name : List ℕ) (issued i n : ℕ) → recounted n (encode_head d (head_for k name issued i)) ≡ encode_head d (head_for k name n i)
unfolding encode_head bytes_of
recounted_head k d name issued i n = refl

stands_recounted : {k : Kit} {d : ℕ} {name : List ℕ} {n : ℕ} {s : Slots} {xs : List Link} → Stands k d name n s xs → Stands k d name (n + 1) (set s 0 (recounted (n + 1) (get_or s 0 []))) xs
stands_recounted {k = k} {d = d} {name = name} {n = n} {s = s} {xs = xs} v = grind (arith, count_least, count_kept, length-set, get_or-set_same, recounted_head, linked_set, not_zero)

-- a write to the head leaves the rest blank
rest_headed : (s : Slots) (b : Slot) (xs : List Link) → RestBlank s xs → RestBlank (set s 0 b) xs
rest_headed s b xs f i above within off =
    let n = length-set s 0 b in
    get_or-set_other s 0 i b [] (λ q. omega arith) ∙ f i above (omega arith) off

-- ---- the invariant with one more number issued
-- a ticket as the book has it
record Own (k : Kit) (d : ℕ) (root name : List ℕ) (n : ℕ) (g : Given) : Type 0 where
  below : g.number < n
  records : is_record g.state ≡ true
  tickets : g.ticket ≡ ticket_of k name g.number (key_of k.generator.expansion d root g.number) g.state

-- the tickets given before
owned : {k : Kit} {d : ℕ} {root name : List ℕ} {m : Mode} {s : State} {b : Book} → Inv k d root name m s b → (g : Given) → In g b.given → Own k d root name (b.issued + 1) g
owned v g i =
    let h = v.issued g i in
    record { below = omega arith; records = v.records g i; tickets = v.tickets g i }

-- ---- the one write
module _ {k : Kit} {d : ℕ} {root name : List ℕ} {s : State} {b : Book} {plain : List ℕ} {f : Sound}
    (small : d ≤ 16) (v : Inv k d root name running s b) (may : MayIssue k d s plain f) where
  file : f ≡ file_for k name b.issued v.links
  file = file_is small v f may.read

  after : Slots
  after = set s.slots 0 (recounted (b.issued + 1) (get_or s.slots 0 []))

  wrote : stood s.slots (issue_write s.slots f.0 ∷ []) ≡ after
  unfolding after
  wrote = ap (λ (p : Sound). stood s.slots (issue_write s.slots p.0 ∷ [])) file

  left : b.issued < 2 ^ d
  left = rw file at may.left

  -- the invariant once the write stands
  counts : (m : Mode) (t : State) (gs : List Given) → t.slots ≡ after → (m ≡ running → t.power ≡ true) → ((g : Given) → In g gs → Own k d root name (b.issued + 1) g) →
      Inv k d root name m t (record { issued = b.issued + 1; spent = b.spent; given = gs; opened = b.opened })
  unfolding after
  counts m t gs e p o =
      let l = left in
      record {
        links = v.links;
        stands = rw e (stands_recounted v.stands);
        covers = v.covers;
        counted = omega arith;
        below = λ n i. let h = v.below n i in omega arith;
        rooted = v.rooted;
        named = v.named;
        power = p;
        rest = λ q. rw e (rest_headed s.slots (recounted (b.issued + 1) (get_or s.slots 0 [])) v.links (v.rest refl));
        once = v.once;
        opened = v.opened;
        issued = λ g i. (o g i).below;
        records = λ g i. (o g i).records;
        tickets = λ g i. (o g i).tickets;
      }

  -- a cut issue, whose write stands or not
  cut_at : (m : ℕ) (t : State) → t.slots ≡ stood s.slots (take m (issue_write s.slots f.0 ∷ [])) →
      Inv k d root name cold t (record { issued = raised (ltb 0 m) b.issued; spent = b.spent; given = b.given; opened = b.opened })
  cut_at zero t q = cooled t v q
  cut_at (suc m) t q =
      rw (lt-ltb 0 (suc m) (omega arith))
      (counts cold t b.given (q ∙ ap (stood s.slots) (take_all (suc m) (issue_write s.slots f.0 ∷ []) (omega arith)) ∙ wrote) (λ z. absurd (cc)) (owned v))

  stopped : (m : ℕ) (h : Halt) (t : State) (ticket : List ℕ) → CutShort s.slots (issue_write s.slots f.0 ∷ []) m h t.slots →
      Inv k d root name (mode_after (Err h)) t (fed b (issue plain (Err h) ticket (ltb 0 m)))
  stopped m h t ticket c = rw c.halt (cut_at m t c.slots)

  -- the ticket that is given is the number's own
  given_is : (x : Link) → In x f.1 → Covers d x.node f.0.issued →
      issued_ticket k d f.0 x plain ≡ ticket_of k name b.issued (key_of k.generator.expansion d root b.issued) plain
  given_is x i c =
      ap (λ (p : Sound). issued_ticket k d p.0 x plain) file ∙ ap (λ (key : List ℕ). ticket_of k name b.issued key plain) (key_is v x b.issued (rw file at i) (rw file at c))

  handed : (x : Link) → In x f.1 → Covers d x.node f.0.issued → (room steps : ℕ) (t : State) → t.slots ≡ stood s.slots (issue_write s.slots f.0 ∷ []) → t.power ≡ true →
      Inv k d root name running t (fed b (issue plain (Ok (length (issued_ticket k d f.0 x plain), steps)) (filled (issued_ticket k d f.0 x plain) room) true))
  handed x i c room steps t q p =
      let T = issued_ticket k d f.0 x plain in
      let new : Given = record { number = b.issued; ticket = take (length T) (filled T room); state = plain } in
      let own : Own k d root name (b.issued + 1) new = record {
        below = omega arith;
        records = may.plainly;
        tickets = take-append_seam T (zeros (room - length T)) ∙ given_is x i c;
      } in
      counts running t (new ∷ b.given) (q ∙ wrote) (λ e. p) (λ g j. elim j [ inl e ↦ rw e own | inr l ↦ owned v g l ])

pub issue_keeps : {k : Kit} {d : ℕ} {root name : List ℕ} {s : State} {b : Book} {plain : List ℕ} {room marks : ℕ} {r : Outcome} {ticket : List ℕ} {t : State} {headed : Bool} →
    d ≤ 16 → Inv k d root name running s b → Issuing k d s plain room marks r ticket t headed →
    Inv k d root name (mode_after r) t (fed b (issue plain r ticket headed))
issue_keeps small v (declined h verdict e u q) = rw (e, u.state, q) (still (mode_after (Err h)) v)
issue_keeps {plain = plain} {room = room} {marks = marks} {ticket = ticket} {t = t} small v (cut f m h verdict c e p z q) =
    rw (e, q) (stopped small v (issue_ok plain room marks f verdict) m h t ticket c)
issue_keeps {plain = plain} {room = room} {marks = marks} {t = t} small v (given f x verdict i c e q w p l) =
    rw (e.is, q, l) (handed small v (issue_ok plain room marks f verdict) x i c room e.calls t w p)
