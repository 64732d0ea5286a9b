-- Servers that agree answer alike: their chains are equal, and each further call answers the same and leaves them in agreement.
use Rattle.std.proofs.Common.{◌≡◌, ℕ, ◌+◌, ◌-◌, ◌<◌, ◌≤◌, Bool, true, false, List, length, sym, refl, ◌∙◌, inl, inr, arith}
use Rattle.device.specs.Effects.{Slots, State}
use Rattle.tree.specs.declared.Node.{Node}
use Rattle.tree.specs.Nodes.{tree_levels, node_at, IsNode, Covers}
use Rattle.tree.specs.Cover.{In, Free, cover}
use Rattle.tree.specs.Values.{way, key_of, valued_cover}
use Rattle.tree.proofs.Places.{covered_below, cover_free, cover_under}
use Rattle.tree.proofs.Exact.{at_most_one}
use Rattle.tree.proofs.Bounds.{same_set}
use Rattle.tree.proofs.Descent.{values_are, agreed}
use Rattle.calls.specs.Kits.{Kit, Lawful}
use Rattle.ticket.specs.Parts.{number_in, heading_in}
use Rattle.chain.specs.Listing.{entry}
use Rattle.calls.specs.Calls.{Outcome, Issuing, Redeeming}
use Rattle.calls.specs.Books.{Book, noted, issue, redeem, fed}
use Rattle.calls.specs.Pasts.{running, Past}
use Rattle.law.specs.Law.{Uncut, Ask, Reply, Served, done, issues, redeems, Agree, AlikeLaw}
use Rattle.law.proofs.Invariant.{head_for, Inv}
use Rattle.law.proofs.TicketParts.{follow_long}
use Rattle.law.proofs.ReadsBack.{reads_back}
use Rattle.law.proofs.RedeemKeeps.{redeem_keeps}
use Rattle.law.proofs.IssueKeeps.{issue_keeps}
use Rattle.law.proofs.PastKeeps.{small, holding}
use Rattle.law.proofs.Told.{Out, issue_same, redeem_same}
use Rattle.law.proofs.Telling.{uncut_running, issue_length, redeem_length, view_of, issue_told, redeem_told}

-- ---- what follows from agreement
module _ {d : ℕ} {k : Kit} {root : List ℕ} {s : Slots} {b : Book} {k' : Kit} {root' : List ℕ} {s' : Slots} {b' : Book} (a : Agree d k root s b k' root' s' b') where
  covers_same : cover d b.spent ≡ cover d b'.spent
  covers_same = same_set d b.spent b'.spent a.spent

  valued_same : valued_cover k.generator.expansion d root b.spent ≡ valued_cover k'.generator.expansion d root' b'.spent
  valued_same = grind (arith, agreed, covers_same)

  view_same : (name : List ℕ) → view_of k' d name s' b' ≡ view_of k d name s b
  view_same name = let c = covers_same in cc

  -- the key of a number that the cover still reaches is one in both trees
  key_same : (n : ℕ) (x : Node) → In x (cover d b.spent) → Covers d x n → key_of k.generator.expansion d root n ≡ key_of k'.generator.expansion d root' n
  key_same n x i c =
      let z : d - d ≡ 0 = omega arith in
      let node : IsNode d (node_at d n) = record { shallow = omega arith; place = n; aligned = rw z (omega arith); inside = covered_below d n x (cover_under d b.spent x i) c } in
      let free : Free d b.spent (node_at d n) = λ m j q.
      let r : (n ≤ m) × (m < n + 1) = rw z at q in
      let e : m ≡ n = omega arith in
      cover_free d b.spent x i n (rw e at j) c in
      (values_are k.generator.expansion d root).leaf n ∙ (a.values (node_at d n) node free ∙ sym ((values_are k'.generator.expansion d root').leaf n))

-- ---- the books after one more call
issue_agree : {d : ℕ} {k : Kit} {root : List ℕ} {s : Slots} {b : Book} {k' : Kit} {root' : List ℕ} {s' : Slots} {b' : Book} {t t' : Slots} (plain : List ℕ) (r r' : Outcome) (u u' : List ℕ) (j j' : Bool) →
    Agree d k root s b k' root' s' b' → length t ≡ length s → length t' ≡ length s' → j ≡ j' →
    Agree d k root t (fed b (issue plain r u j)) k' root' t' (fed b' (issue plain r' u' j'))
issue_agree plain r r' u u' j j' a l l' e = grind (arith)

noted_in : (j : Bool) (n m : ℕ) (ms : List ℕ) → In m ms → In m (noted j n ms)
noted_in true n m ms i = inr i
noted_in false n m ms i = i

noted_to : (j : Bool) (n m : ℕ) (ms ns : List ℕ) → (In m ms → In m ns) → In m (noted j n ms) → In m (noted j n ns)
noted_to true n m ms ns f (inl e) = inl e
noted_to true n m ms ns f (inr i) = inr (f i)
noted_to false n m ms ns f i = f i

redeem_agree : {d : ℕ} {k : Kit} {root : List ℕ} {s : Slots} {b : Book} {k' : Kit} {root' : List ℕ} {s' : Slots} {b' : Book} {t t' : Slots} (ticket : List ℕ) (r r' : Outcome) (j j' : Bool) →
    Agree d k root s b k' root' s' b' → length t ≡ length s → length t' ≡ length s' → j ≡ j' →
    Agree d k root t (fed b (redeem ticket r j)) k' root' t' (fed b' (redeem ticket r' j'))
redeem_agree {b = b} {b' = b'} ticket r r' j j' a l l' e =
    let n = number_in ticket in
    record {
      sealing = a.sealing;
      overhead = a.overhead;
      slots = l ∙ (a.slots ∙ sym l');
      issued = a.issued;
      spent = λ m. rw (← e) (noted_to j n m b.spent b'.spent (a.spent m).0, noted_to j n m b'.spent b.spent (a.spent m).1);
      values = λ x i f. a.values x i (λ m q c. f m (noted_in j n m b.spent q) c);
    }

-- ---- further calls
module _ {d : ℕ} (small : d ≤ 16) {name : List ℕ} {k k' : Kit} {root root' : List ℕ} (law : Lawful k) where
  module _ {s s' : State} {b b' : Book} (v : Inv k d root name running s b) (v' : Inv k' d root' name running s' b') (a : Agree d k root s.slots b k' root' s'.slots b') where
    issue_alike : (plain : List ℕ) (room marks : ℕ) {r r' : Outcome} {u u' : List ℕ} {t t' : State} {j j' : Bool} → Uncut r → Uncut r' →
        Issuing k d s plain room marks r u t j → Issuing k' d s' plain room marks r' u' t' j' → Out r u j r' u' j'
    issue_alike plain room marks w w' i i' =
        let e : view_of k' d name s'.slots b' ≡ view_of k d name s.slots b = view_same a name in
        let told' = issue_told small v' plain room marks w' i' in
        issue_same (at_most_one d b.spent b.issued) (key_same a b.issued) (issue_told small v plain room marks w i) (rw (e, ← a.issued) at told')

    redeem_alike : (ticket : List ℕ) (room marks : ℕ) {r r' : Outcome} {u u' : List ℕ} {t t' : State} {j j' : Bool} → Uncut r → Uncut r' →
        Redeeming k d s ticket room marks r u t j → Redeeming k' d s' ticket room marks r' u' t' j' → Out r u j r' u' j'
    redeem_alike ticket room marks w w' i i' =
        let n = number_in ticket in
        let e : view_of k' d name s'.slots b' ≡ view_of k d name s.slots b = view_same a name in
        let told' = redeem_told small v' ticket room marks w' i' in
        let long = follow_long k law root (way d 0 n) v.rooted in
        redeem_same (λ l p q e f. law.seals.apart (key_of k.generator.expansion d root n) (heading_in ticket) p q long l e.short f.short (e.seals ∙ sym f.seals))
        (at_most_one d b.spent n) (λ x m c. sym (key_same a n x m c)) (redeem_told small v ticket room marks w i) (rw e at told')

  served_alike : {asks : List Ask} {s s' : State} {b b' : Book} {replies replies' : List Reply} → Inv k d root name running s b → Inv k' d root' name running s' b' →
      Agree d k root s.slots b k' root' s'.slots b' → Served k d s asks replies → Served k' d s' asks replies' → replies ≡ replies'
  served_alike v v' a (done s) (done s') = refl
  served_alike v v' a (issues s plain room marks r ticket t headed asks rest call uncut then) (issues s' _ _ _ r' ticket' t' headed' _ rest' call' uncut' then') =
      let o = issue_alike v v' a plain room marks uncut uncut' call call' in
      let w = issue_keeps small v call in
      let w' = issue_keeps small v' call' in
      let n = served_alike (rw (uncut_running r uncut) at w) (rw (uncut_running r' uncut') at w') (issue_agree plain r r' ticket ticket' headed headed' a (issue_length call) (issue_length call') o.counts) then then' in
      cc
  served_alike v v' a (redeems s ticket room marks r state t joined asks rest call uncut then) (redeems s' _ _ _ r' state' t' joined' _ rest' call' uncut' then') =
      let o = redeem_alike v v' a ticket room marks uncut uncut' call call' in
      let w = redeem_keeps small v call in
      let w' = redeem_keeps small v' call' in
      let n = served_alike (rw (uncut_running r uncut) at w) (rw (uncut_running r' uncut') at w') (redeem_agree ticket r r' joined joined' a (redeem_length call) (redeem_length call') o.counts) then then' in
      cc

-- of two servers of which the invariant holds
pub alike_law : {k k' : Kit} {d : ℕ} {root root' name : List ℕ} {s s' : State} {b b' : Book} → Lawful k → d ≤ 16 →
    Inv k d root name running s b → Inv k' d root' name running s' b' → Agree d k root s.slots b k' root' s'.slots b' → AlikeLaw k d s k' s'
alike_law {k = k} {k' = k'} {name = name} {b = b} {b' = b'} law dl v v' a = record {
  head = head_for k name b.issued (entry v.links 0);
  links = v.links;
  read = reads_back dl v;
  head' = head_for k' name b'.issued (entry v'.links 0);
  links' = v'.links;
  read' = reads_back dl v';
  chains = v.covers ∙ (valued_same a ∙ sym v'.covers);
  rest = v.rest refl;
  rest' = v'.rest refl;
  answers = λ asks replies replies' q q'. served_alike dl law v v' a q q';
}

-- of two pasts
pub alike : (k k' : Kit) (root root' name : List ℕ) (s s' : State) (b b' : Book) → Lawful k → Lawful k' →
    Past k tree_levels root name running s b → Past k' tree_levels root' name running s' b' →
    Agree tree_levels k root s.slots b k' root' s'.slots b' → AlikeLaw k tree_levels s k' s'
alike k k' root root' name s s' b b' law law' p p' a = alike_law law small (holding p) (holding p') a
