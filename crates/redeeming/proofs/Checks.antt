-- The checks of a redemption, as its verdict has them.
use Rattle.std.proofs.Common.{◌≡◌, ℕ, ◌<◌, ◌≤◌, Bool, true, false, cond, leb, List, length, Some, None, Ok, Err, Option, Result, refl, ap, ◌∙◌, arith}
use Rattle.std.proofs.lemmas.Bool.{cases_Bool, and_parts, leb-true}
use Rattle.device.specs.Effects.{State}
use Rattle.refusal.specs.declared.Refusal.TheVariants.{TicketLength}
use Rattle.fault.specs.Faults.{plainly}
use Rattle.fault.specs.declared.Halt.{Halt}
use Rattle.marks.specs.Rows.{room_of}
use Rattle.chain.specs.declared.Survey.{Survey}
use Rattle.chain.specs.Reading.{Link, Sound}
use Rattle.chain.specs.Listing.{find_in}
use Rattle.chain.specs.Outcome.{reading_of, asked_of, answer_of, marks_of}
use Rattle.calls.specs.Kits.{Kit, numbers_in}
use Rattle.ticket.specs.Limits.{heading_length, ticket_least, ticket_fits}
use Rattle.ticket.specs.Parts.{number_in}
use Rattle.calls.specs.Calls.{read_by, same_bytes, redeemable}
use Rattle.calls.proofs.Readings.{Told, read_err, read_ok}
use Rattle.calls.proofs.Same.{bytes_same, same_self}
use Rattle.redeeming.specs.Steps.{Known}

-- ---- bytes
pub same : (b : Bool) (xs ys : List ℕ) → b ≡ true → (b ≡ true → xs ≡ ys) → same_bytes xs ys ≡ true
same b xs ys e f = rw (f e) (same_self ys)

pub other : (b : Bool) (xs ys : List ℕ) → b ≡ false → (xs ≡ ys → b ≡ true) → same_bytes xs ys ≡ false
other b xs ys e g = grind (arith, bytes_same, cases_Bool)

-- ---- which tickets there are
pub is_of : (b : Bool) (o : Option (List ℕ)) (t u : List ℕ) → o ≡ cond b (Some t) None → o ≡ Some u → (b ≡ true) × (u ≡ t)
is_of b o t u e n = grind (arith, cases_Bool)

-- ---- what passes has a heading
cond_ok : (c : Bool) (u : Result Sound Halt) (e : Halt) (f : Sound) → cond c u (Err e) ≡ Ok f → (c ≡ true) × (u ≡ Ok f)
cond_ok true u e f q = (refl, q)
cond_ok false u e f q = absurd (cc)

pub with_heading : (k : Kit) (ticket : List ℕ) (g f : Sound) → redeemable k ticket (Ok g) ≡ Ok f → heading_length ≤ length ticket
with_heading k ticket g f e =
    let p = cond_ok (ticket_fits k.sealer.overhead (length ticket)) _ (plainly TicketLength) f e in
    let q = and_parts (leb (ticket_least k.sealer.overhead) (length ticket)) _ p.0 in
    omega (arith, leb-true _ _ q.0)

-- ---- reading
module _ (k : Kit) (d : ℕ) (s : State) (ticket : List ℕ) {m : ℕ} (wide : room_of (length s.slots) ≤ m) (some : 0 < length s.slots) (n : Option ℕ) where
  pub survey_err : {h : Halt} → Err h ≡ answer_of d n (reading_of d (numbers_in k) m s) → redeemable k ticket (read_by k d s) ≡ Err h
  survey_err e = ap (redeemable k ticket) (read_err d (numbers_in k) s wide some n e)

  module _ {v : Survey} {marks : List ℕ} (e : Ok v ≡ answer_of d n (reading_of d (numbers_in k) m s)) (q : marks ≡ marks_of m (reading_of d (numbers_in k) m s)) where
    told : Told d (numbers_in k) s n m v marks
    told = read_ok d (numbers_in k) s wide some n e q

    by_is : redeemable k ticket (read_by k d s) ≡ redeemable k ticket (Ok (v.head, told.links))
    by_is = ap (redeemable k ticket) told.read

    pub check_err : {h : Halt} → ((xs : List Link) → redeemable k ticket (Ok (v.head, xs)) ≡ Err h) → redeemable k ticket (read_by k d s) ≡ Err h
    check_err c = by_is ∙ c told.links

    pub check_ok : ((xs : List Link) → redeemable k ticket (Ok (v.head, xs)) ≡ Ok (v.head, xs)) → n ≡ Some (number_in ticket) → (f : Sound) × Known k d s ticket m v marks f
    check_ok c number = (
      (v.head, told.links),
      record {
        passed = by_is ∙ c told.links;
        power = told.power;
        reads = told.file;
        many = told.many;
        finds = told.finds ∙ ap (λ (j : Option ℕ). find_in d (asked_of j v.head) 0 told.links) number;
        marked = told.marked;
      },
    )
