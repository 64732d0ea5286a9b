-- What a call reads in a file that stands, what a verdict tells, and the invariant moved to other slots.
use Rattle.std.proofs.Common.{◌≡◌, ℕ, ◌^◌, ◌<◌, ◌≤◌, Bool, true, false, cond, List, ◌∷◌, ◌++◌, map, length, Ok, Err, Result, sym, refl, ap, ◌∙◌, inl, arith}
use Rattle.std.proofs.lemmas.Bool.{and_parts, ltb-true, leb-true, le-leb}
use Rattle.fault.specs.declared.Halt.{Halt}
use Rattle.device.specs.Effects.{Slots, State}
use Rattle.device.proofs.States.{same_state}
use Rattle.session.specs.Limits.{max_record}
use Rattle.session.specs.Records.{is_record}
use Rattle.tree.specs.Cover.{In}
use Rattle.chain.specs.Reading.{Link, valued_of, Sound}
use Rattle.marks.specs.Rows.{room_of}
use Rattle.tree.specs.Values.{valued_cover}
use Rattle.calls.specs.Kits.{Kit}
use Rattle.ticket.specs.Limits.{ticket_least, ticket_longest}
use Rattle.ticket.specs.Parts.{name_in, number_in}
use Rattle.tree.proofs.Members.{in_right}
use Rattle.calls.specs.Calls.{entry_verdict, entered, read_by, powered, count_fits, same_bytes, issue_verdict, redeemable, redeem_verdict, Hit}
use Rattle.calls.specs.Books.{Book}
use Rattle.calls.specs.Pasts.{Mode, running, cold}
use Rattle.law.specs.Law.{RestBlank}
use Rattle.law.proofs.Invariant.{file_for, Stands, Inv}
use Rattle.law.proofs.ReadsBack.{reads_back}

-- ---- what a verdict tells
cond_ok : {A E : Type 0} (c : Bool) (r : Result A E) (h : E) (a : A) → cond c r (Err h) ≡ Ok a → (c ≡ true) × (r ≡ Ok a)
cond_ok true r h a e = (refl, e)
cond_ok false r h a e = absurd (cc)

pub ok_same : {A E : Type 0} {x y : A} → ◌≡◌ {A = Result A E} (Ok x) (Ok y) → x ≡ y
ok_same e = cc

entered_ok : (v : Result (Unit {0}) Halt) (r : Result Sound Halt) (f : Sound) → entered v r ≡ Ok f → r ≡ Ok f
entered_ok (Ok u) r f e = e
entered_ok (Err h) r f e = cc

-- nothing stops a call at its beginning, with buffers long enough and a slot count that fits
pub entry_open : (d : ℕ) (s : Slots) (least room marks : ℕ) → least ≤ room → room_of (length s) ≤ marks → count_fits d s ≡ true → entry_verdict d s least room marks ≡ Ok tt
entry_open d s least room marks l m f = rw (le-leb least room l, le-leb (room_of (length s)) marks m, f)

-- an issue that may go on: of a record, from the file that was read, with a number left
pub record MayIssue (k : Kit) (d : ℕ) (s : State) (plain : List ℕ) (f : Sound) : Type 0 where
  pub plainly : is_record plain ≡ true
  pub read : read_by k d s ≡ Ok f
  pub left : f.0.issued < 2 ^ d

pub issue_ok : {k : Kit} {d : ℕ} {s : State} (plain : List ℕ) (room marks : ℕ) (f : Sound) → issue_verdict k d s plain room marks ≡ Ok f → MayIssue k d s plain f
issue_ok plain room marks f e = grind arith

-- a redemption that may go on: of a ticket as long as one, from the file that was read, under its name and with a number that is issued
pub record MayRedeem (k : Kit) (d : ℕ) (s : State) (ticket : List ℕ) (f : Sound) : Type 0 where
  pub least : ticket_least k.sealer.overhead ≤ length ticket
  pub longest : length ticket ≤ ticket_longest k.sealer.overhead
  pub read : read_by k d s ≡ Ok f
  pub named : same_bytes (name_in ticket) f.0.name ≡ true
  pub issued : number_in ticket < f.0.issued

redeemable_ok : {k : Kit} {d : ℕ} {s : State} (ticket : List ℕ) (r : Result Sound Halt) (f : Sound) → read_by k d s ≡ r → redeemable k ticket r ≡ Ok f → MayRedeem k d s ticket f
redeemable_ok ticket (Err h) f o e = absurd (cc)
redeemable_ok {k = k} ticket (Ok g) f o e =
    let a = cond_ok _ _ _ f e in
    let b = cond_ok _ _ _ f a.1 in
    let c = cond_ok _ _ _ f b.1 in
    let fits = and_parts _ _ a.0 in
    let q = ok_same c.1 in
    record {
      least = leb-true _ _ fits.0;
      longest = leb-true _ _ fits.1;
      read = o ∙ c.1;
      named = rw q at b.0;
      issued = rw q at (ltb-true _ _ c.0);
    }

pub redeem_ok : {k : Kit} {d : ℕ} {s : State} (ticket : List ℕ) (room marks : ℕ) (f : Sound) → redeem_verdict k d s ticket room marks ≡ Ok f → MayRedeem k d s ticket f
redeem_ok {k = k} {d = d} {s = s} ticket room marks f e =
    redeemable_ok ticket (read_by k d s) f refl (entered_ok (entry_verdict d s.slots max_record room marks) (redeemable k ticket (read_by k d s)) f e)

-- ---- the file that is read
module _ {k : Kit} {d : ℕ} {root name : List ℕ} {m : Mode} {s : State} {b : Book} (small : d ≤ 16) (v : Inv k d root name m s b) where
  pub inv_read : read_by k d (powered s.slots) ≡ Ok (file_for k name b.issued v.links)
  inv_read = reads_back small v

-- at a running server
module _ {k : Kit} {d : ℕ} {root name : List ℕ} {s : State} {b : Book} (small : d ≤ 16) (v : Inv k d root name running s b) where
  -- its state is its slots with the power on
  pub is_powered : s ≡ powered s.slots
  is_powered = same_state refl (v.power refl)

  pub inv_reads : read_by k d s ≡ Ok (file_for k name b.issued v.links)
  inv_reads = ap (read_by k d) is_powered ∙ inv_read small v

  pub file_is : (f : Sound) → read_by k d s ≡ Ok f → f ≡ file_for k name b.issued v.links
  file_is f e = let r = inv_reads in cc

  module _ {ticket : List ℕ} {room marks : ℕ} {f : Sound} {front : List Link} {x : Link} {back : List Link} (hit : Hit k d s ticket room marks f front x back) where
    pub hit_may : MayRedeem k d s ticket f
    hit_may = redeem_ok ticket room marks f hit.verdict

    -- the chain that a redemption searched is the one that stands
    pub hit_chain : v.links ≡ front ++ (x ∷ back)
    hit_chain = sym (ap (λ (z : Sound). z.1) (file_is f hit_may.read)) ∙ hit.chain

    pub hit_in : In x v.links
    hit_in = rw hit_chain (in_right x front (x ∷ back) (inl refl))

-- ---- the invariant at other slots and with another chain, with the same book
pub moved : {k : Kit} {d : ℕ} {root name : List ℕ} {m : Mode} {s : State} {b : Book} (v : Inv k d root name m s b)
    {m' : Mode} {t : State} {xs : List Link} → Stands k d name b.issued t.slots xs → map valued_of xs ≡ valued_cover k.generator.expansion d root b.spent →
    (m' ≡ running → t.power ≡ true) → (m' ≡ running → RestBlank t.slots xs) → Inv k d root name m' t b
moved v {xs = xs} st c p r = grind (arith)

-- of a running server whose call wrote nothing
pub still : {k : Kit} {d : ℕ} {root name : List ℕ} {s : State} {b : Book} (m' : Mode) → Inv k d root name running s b → Inv k d root name m' s b
still m' v = moved v v.stands v.covers (λ e. v.power refl) (λ e. v.rest refl)

-- of a server that is cold
pub cooled : {k : Kit} {d : ℕ} {root name : List ℕ} {m : Mode} {s : State} {b : Book} (t : State) → Inv k d root name m s b → t.slots ≡ s.slots → Inv k d root name cold t b
cooled t v e = moved v (rw e v.stands) v.covers (λ e. absurd (cc)) (λ e. absurd (cc))
