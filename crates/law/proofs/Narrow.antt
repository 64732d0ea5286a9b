-- On every narrow server the ticket of 2 is redeemed, and that of 4 declined.
use Rattle.std.proofs.Common.{◌≡◌, ℕ, ◌≤◌, List, [], ◌∷◌, length, Err, refl, ap, ◌∙◌, inl, inr, arith}
use Rattle.refusal.specs.declared.Refusal.TheVariants.{NoFreeSlot}
use Rattle.fault.specs.Faults.{placed}
use Rattle.device.specs.Effects.{State}
use Rattle.tree.specs.Nodes.{tree_levels, node_at}
use Rattle.tree.specs.Cover.{In, cover}
use Rattle.marks.specs.Rows.{room_of}
use Rattle.calls.specs.Kits.{Kit, Lawful}
use Rattle.calls.specs.Books.{Given, Book}
use Rattle.law.specs.Examples.{Narrow, TwoPasses, FourDeclined, NarrowServer}
use Rattle.law.proofs.PastKeeps.{small, holding}
use Rattle.law.proofs.FromInv.{once_law, full_own}
use Rattle.law.proofs.GoingOn.{redeems, sealed}
use Rattle.tree.proofs.Computed.{examples}

module _ {k : Kit} {root name : List ℕ} {s : State} {b : Book} (w : Narrow k root name s b) where
  roomy : (marks : ℕ) → room_of 18 ≤ marks → room_of (length s.slots) ≤ marks
  roomy marks l = rw w.slots l

  cover_is : cover tree_levels b.spent ≡ cover tree_levels (0 ∷ [])
  cover_is = ap (cover tree_levels) w.spent

  many : length (cover tree_levels b.spent) ≡ 16
  many = ap length (cover_is ∙ examples.zero_spent)

  two_in : In (node_at 15 2) (cover tree_levels b.spent)
  two_in = rw (cover_is ∙ examples.zero_spent) (inr (inl refl))

  four_in : In (node_at 14 4) (cover tree_levels b.spent)
  four_in = rw (cover_is ∙ examples.zero_spent) (inr (inr (inl refl)))

  unspent : (n : ℕ) → n ≡ 2 → In n b.spent → ⊥
  unspent n e i = elim (rw w.spent at i) [ inl z ↦ omega arith | inr z ↦ z ]

-- ---- every narrow server
pub two_passes : TwoPasses
two_passes k root name s b lawful w g given e room marks lr lm r state t joined d u =
    ((once_law lawful small (holding w.past)).opens refl g given (unspent w g.number e) (node_at 15 2) (two_in w) (omega arith, omega arith)
    (omega (arith, many w, w.slots)) room marks lr (roomy w marks lm) r state t joined d u).0

pub four_declined : FourDeclined
four_declined k root name s b lawful w g given e room marks lr lm r state t joined d =
    full_own lawful small (holding w.past) g given (node_at 14 4) (four_in w) (omega arith, omega arith) (omega (arith, many w, w.slots)) lr (roomy w marks lm) d
    ∙ ap (λ (n : ℕ). Err (placed NoFreeSlot n)) e

-- so one that has given both is as the example says
pub server_of : {k : Kit} {root name : List ℕ} → Lawful k → (s : State) (b : Book) → Narrow k root name s b →
    (two : Given) → In two b.given → two.number ≡ 2 → (four : Given) → In four b.given → four.number ≡ 4 → NarrowServer k root name
server_of {k = k} {root = root} {name = name} lawful s b w two in_two two_is four in_four four_is = record {
  state = s;
  book = b;
  narrow = w;
  two = two;
  two_given = in_two;
  two_number = two_is;
  four = four;
  four_given = in_four;
  four_number = four_is;
  passes = λ room marks l m.
      let o = (redeems k root name s b w.past two.ticket room marks (inl (sealed k root name s b w.past two in_two))).0 in
      (o, two_passes k root name s b lawful w two in_two two_is room marks l m o.outcome o.state o.after o.joined o.call o.uncut);
  declined = λ room marks l m.
      let o = (redeems k root name s b w.past four.ticket room marks (inl (sealed k root name s b w.past four in_four))).0 in
      (o, four_declined k root name s b lawful w four in_four four_is room marks l m o.outcome o.state o.after o.joined o.call);
}
