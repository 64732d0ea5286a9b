-- What a call that was not cut answers, told without the slots: by the cover, the number of slots and the keys alone. What two such tales agree on.
use Rattle.std.proofs.Common.{◌≡◌, ℕ, ◌-◌, ◌^◌, ◌<◌, ◌≤◌, Bool, true, false, cond, ◌&&◌, ltb, leb, List, ◌++◌, length, Ok, Err, Result, arith}
use Rattle.octets.specs.Buffers.{zeros, filled}
use Rattle.refusal.specs.declared.Refusal.TheVariants.{ShortBuffer, SlotCount, NotARecord, Exhausted, TicketLength, OtherName, NotIssued, Spent, SealBroken, OpenedNotARecord, NoFreeSlot}
use Rattle.fault.specs.declared.Halt.{Halt}
use Rattle.fault.specs.Faults.{plainly, placed}
use Rattle.session.specs.Limits.{max_record}
use Rattle.session.specs.Records.{is_record}
use Rattle.tree.specs.declared.Node.{Node}
use Rattle.tree.specs.Nodes.{Covers}
use Rattle.tree.specs.Cover.{In}
use Rattle.marks.specs.Rows.{room_of}
use Rattle.ticket.specs.Limits.{heading_length, max_ticket, ticket_fits}
use Rattle.ticket.specs.Parts.{heading_of, name_in, number_in, heading_in, sealed_in}
use Rattle.sealer.specs.Outcomes.{PlainOf}
use Rattle.calls.specs.Calls.{Outcome, min_slots, max_slots, same_bytes}

-- ---- answers
-- the outcome, the buffer and whether the write that counts stands are these
pub record Out (r : Outcome) (u : List ℕ) (j : Bool) (r₀ : Outcome) (u₀ : List ℕ) (j₀ : Bool) : Type 0 where
  pub outcome : r ≡ r₀
  pub buffer : u ≡ u₀
  pub counts : j ≡ j₀

-- what stops a call before it writes, or nothing
abbrev pub Barrier : Type 0
Barrier = Result (Unit {0}) Halt

-- the second where the first stops nothing
abbrev pub and_then : Barrier → Barrier → Barrier
and_then (Ok u) b = b
and_then (Err h) b = Err h

-- ---- what the answers of a server rest on, beside the keys of its numbers
pub record View : Type 0 where
  pub depth : ℕ
  pub name : List ℕ
  -- how many slots the device has
  pub count : ℕ
  pub issued : ℕ
  -- the cover of the spent numbers
  pub nodes : List Node
  pub sealing : List ℕ → List ℕ → List ℕ → List ℕ
  pub overhead : ℕ

-- one node only covers a number
abbrev pub AtMost : View → ℕ → Type 0
AtMost w n = (x y : Node) → In x w.nodes → In y w.nodes → Covers w.depth x n → Covers w.depth y n → x ≡ y

-- the number has one key where a node covers it
abbrev pub OneKey : View → ℕ → List ℕ → List ℕ → Type 0
OneKey w n key key' = (x : Node) → In x w.nodes → Covers w.depth x n → key ≡ key'

-- what stops a call at its beginning
abbrev pub entry_bar : View → ℕ → ℕ → ℕ → Barrier
entry_bar w least room marks =
    cond (leb least room && leb (room_of w.count) marks) (cond (leb (min_slots w.depth) w.count && leb w.count max_slots) (Ok tt) (Err (plainly SlotCount))) (Err (plainly ShortBuffer))

-- ---- issuing
abbrev pub issue_bar : View → List ℕ → ℕ → ℕ → Barrier
issue_bar w plain room marks =
    and_then (entry_bar w max_ticket room marks) (cond (is_record plain) (cond (ltb w.issued (2 ^ w.depth)) (Ok tt) (Err (plainly Exhausted))) (Err (plainly NotARecord)))

-- the next ticket, under the key of its number
abbrev pub next_ticket : View → List ℕ → List ℕ → List ℕ
next_ticket w key plain = heading_of w.name w.issued ++ w.sealing key (heading_of w.name w.issued) plain

pub data IssueTold (w : View) (key plain : List ℕ) (room marks : ℕ) (r : Outcome) (u : List ℕ) (j : Bool) : Type 0 where
  barred : (h : Halt) → issue_bar w plain room marks ≡ Err h → Out r u j (Err h) (zeros room) false → IssueTold w key plain room marks r u j
  given : (x : Node) → issue_bar w plain room marks ≡ Ok tt → In x w.nodes → Covers w.depth x w.issued →
      Out r u j (Ok (length (next_ticket w key plain), w.depth - x.depth)) (filled (next_ticket w key plain) room) true → IssueTold w key plain room marks r u j

pub issue_same : {w : View} {key key' plain : List ℕ} {room marks : ℕ} {r r' : Outcome} {u u' : List ℕ} {j j' : Bool} → AtMost w w.issued → OneKey w w.issued key key' →
    IssueTold w key plain room marks r u j → IssueTold w key' plain room marks r' u' j' → Out r u j r' u' j'
issue_same one same (barred h a o) (barred h' a' o') = record { outcome = cc; buffer = cc; counts = cc }
issue_same one same (barred h a o) (given x' a' i' c' o') = absurd (cc)
issue_same one same (given x a i c o) (barred h' a' o') = absurd (cc)
issue_same one same (given x a i c o) (given x' a' i' c' o') =
    let e : x' ≡ x = one x' x i' i c' c in
    let q = same x i c in
    record { outcome = cc; buffer = cc; counts = cc }

-- ---- redeeming
abbrev pub redeem_bar : View → List ℕ → ℕ → ℕ → Barrier
redeem_bar w ticket room marks =
    and_then (entry_bar w max_record room marks)
    (cond (ticket_fits w.overhead (length ticket))
    (cond (same_bytes (name_in ticket) w.name) (cond (ltb (number_in ticket) w.issued) (Ok tt) (Err (placed NotIssued (number_in ticket)))) (Err (plainly OtherName)))
    (Err (plainly TicketLength)))

-- the plain is sealed in the ticket under the key
abbrev pub SealedIn : View → List ℕ → List ℕ → List ℕ → Type 0
SealedIn w ticket key plain = PlainOf (w.sealing key (heading_in ticket)) (sealed_in ticket) plain

-- there is room for the siblings, or not
pub data RoomTold (w : View) (ticket : List ℕ) (room : ℕ) (x : Node) (plain : List ℕ) (r : Outcome) (u : List ℕ) (j : Bool) : Type 0 where
  full : w.count - 1 - length w.nodes < w.depth - x.depth → Out r u j (Err (placed NoFreeSlot (number_in ticket))) (zeros room) false → RoomTold w ticket room x plain r u j
  opened : w.depth - x.depth ≤ w.count - 1 - length w.nodes → Out r u j (Ok (length plain, w.depth - x.depth)) (filled plain room) true → RoomTold w ticket room x plain r u j

pub data PlainTold (w : View) (ticket : List ℕ) (room : ℕ) (x : Node) (plain : List ℕ) (r : Outcome) (u : List ℕ) (j : Bool) : Type 0 where
  strange : is_record plain ≡ false → Out r u j (Err (placed OpenedNotARecord (number_in ticket))) (zeros room) false → PlainTold w ticket room x plain r u j
  proper : is_record plain ≡ true → RoomTold w ticket room x plain r u j → PlainTold w ticket room x plain r u j

pub data SealTold (w : View) (ticket : List ℕ) (room : ℕ) (key : List ℕ) (x : Node) (r : Outcome) (u : List ℕ) (j : Bool) : Type 0 where
  shut : ((plain : List ℕ) → SealedIn w ticket key plain → ⊥) → Out r u j (Err (placed SealBroken (number_in ticket))) (zeros room) false → SealTold w ticket room key x r u j
  unsealed : (plain : List ℕ) → SealedIn w ticket key plain → PlainTold w ticket room x plain r u j → SealTold w ticket room key x r u j

pub data NodeTold (w : View) (ticket : List ℕ) (room : ℕ) (key : List ℕ) (r : Outcome) (u : List ℕ) (j : Bool) : Type 0 where
  spent : ((x : Node) → In x w.nodes → Covers w.depth x (number_in ticket) → ⊥) → Out r u j (Err (placed Spent (number_in ticket))) (zeros room) false → NodeTold w ticket room key r u j
  found : (x : Node) → In x w.nodes → Covers w.depth x (number_in ticket) → SealTold w ticket room key x r u j → NodeTold w ticket room key r u j

pub data RedeemTold (w : View) (ticket : List ℕ) (room marks : ℕ) (key : List ℕ) (r : Outcome) (u : List ℕ) (j : Bool) : Type 0 where
  barred : (h : Halt) → redeem_bar w ticket room marks ≡ Err h → Out r u j (Err h) (zeros room) false → RedeemTold w ticket room marks key r u j
  passed : redeem_bar w ticket room marks ≡ Ok tt → length (heading_in ticket) ≡ heading_length → NodeTold w ticket room key r u j → RedeemTold w ticket room marks key r u j

module _ {w : View} {ticket : List ℕ} {room : ℕ} {r r' : Outcome} {u u' : List ℕ} {j j' : Bool} where
  room_same : {x : Node} {plain : List ℕ} → RoomTold w ticket room x plain r u j → RoomTold w ticket room x plain r' u' j' → Out r u j r' u' j'
  room_same (full l o) (full l' o') = record { outcome = cc; buffer = cc; counts = cc }
  room_same (full l o) (opened l' o') = absurd (omega arith)
  room_same (opened l o) (full l' o') = absurd (omega arith)
  room_same (opened l o) (opened l' o') = record { outcome = cc; buffer = cc; counts = cc }

  plain_same : {x : Node} {plain : List ℕ} → PlainTold w ticket room x plain r u j → PlainTold w ticket room x plain r' u' j' → Out r u j r' u' j'
  plain_same (strange e o) (strange e' o') = record { outcome = cc; buffer = cc; counts = cc }
  plain_same (strange e o) (proper e' t') = absurd (cc)
  plain_same (proper e t) (strange e' o') = absurd (cc)
  plain_same (proper e t) (proper e' t') = room_same t t'

  -- a ticket has one plain
  module _ {key : List ℕ} (one : length (heading_in ticket) ≡ heading_length → (p q : List ℕ) → SealedIn w ticket key p → SealedIn w ticket key q → p ≡ q) where
    seal_same : {x : Node} → length (heading_in ticket) ≡ heading_length → SealTold w ticket room key x r u j → SealTold w ticket room key x r' u' j' → Out r u j r' u' j'
    seal_same l (shut f o) (shut f' o') = record { outcome = cc; buffer = cc; counts = cc }
    seal_same l (shut f o) (unsealed p' s' t') = absurd (f p' s')
    seal_same l (unsealed p s t) (shut f' o') = absurd (f' p s)
    seal_same l (unsealed p s t) (unsealed p' s' t') = let e = one l p' p s' s in plain_same t (rw e at t')

    module _ {key' : List ℕ} (only : AtMost w (number_in ticket)) (same : OneKey w (number_in ticket) key' key) where
      node_same : length (heading_in ticket) ≡ heading_length → NodeTold w ticket room key r u j → NodeTold w ticket room key' r' u' j' → Out r u j r' u' j'
      node_same l (spent f o) (spent f' o') = record { outcome = cc; buffer = cc; counts = cc }
      node_same l (spent f o) (found x' i' c' t') = absurd (f x' i' c')
      node_same l (found x i c t) (spent f' o') = absurd (f' x i c)
      node_same l (found x i c t) (found x' i' c' t') =
          let e = only x' x i' i c' c in
          let q = same x i c in
          seal_same l t (rw (e, q) at t')

      pub redeem_same : {marks : ℕ} → RedeemTold w ticket room marks key r u j → RedeemTold w ticket room marks key' r' u' j' → Out r u j r' u' j'
      redeem_same (barred h a o) (barred h' a' o') = record { outcome = cc; buffer = cc; counts = cc }
      redeem_same (barred h a o) (passed a' l' t') = absurd (cc)
      redeem_same (passed a l t) (barred h' a' o') = absurd (cc)
      redeem_same (passed a l t) (passed a' l' t') = node_same l t t'
