-- What holds while the code walks along the chain.
use Rattle.std.proofs.Common.{◌≡◌, ℕ, suc, ◌+◌, ◌-◌, ◌^◌, ◌<◌, ◌≤◌, true, false, ltb, ◌≢◌, List, [], length, get_or, Some, None, Ok, Err, Option, Result, sym, refl, ap, ◌∙◌, subst, ap₂, arith}
use Rattle.std.proofs.lemmas.Bool.{and_left, and_right, and_parts, and_from, leb-true, lt-ltb}
use Rattle.fault.specs.declared.Halt.{Halt}
use Rattle.fault.specs.Faults.{placed}
use Rattle.refusal.specs.declared.Refusal.TheVariants.{BadLink}
use Rattle.device.specs.Effects.{Slots, State}
use Rattle.layout.specs.declared.NodeFields.{NodeFields}
use Rattle.layout.specs.Records.{node_of}
use Rattle.marks.specs.Rows.{with_mark}
use Rattle.tree.specs.declared.Node.{Node}
use Rattle.tree.specs.Nodes.{node_at, IsNode}
use Rattle.tree.proofs.Shapes.{tested_node}
use Rattle.chain.specs.declared.Found.{Found}
use Rattle.chain.specs.declared.Tally.{Tally}
use Rattle.chain.specs.Reading.{Link, consed, end_of, may_follow, walk}
use Rattle.chain.specs.Listing.{entry, or_else, counted, tally_of, row_of}
use Rattle.chain.specs.Outcome.{record_named, record_read}
use Rattle.chain.specs.Steps.{Preceding}
use Rattle.chain.proofs.Order.{end_within, end_after}
use Rattle.chain.proofs.Walks.{laid, walk_end, walk_far, walk_bad, walk_on, walk_first}

-- a walk that will end with the outcome T and the row R has come to the index `next`, after the slot `last`
pub record Going (d : ℕ) (s : Slots) (n : ℕ) (T : Result Tally Halt) (R : List ℕ) (from : ℕ) (before : Option Node) (last next : ℕ) (t : Tally) (row : List ℕ) : Type 0 where
  pub fuel : ℕ
  pub within : from ≤ 2 ^ d
  pub enough : 2 ^ d < from + fuel
  pub few : t.length ≤ from
  pub preceding : Preceding d before from
  pub tally : tally_of d n t last (walk d fuel s from before last next) ≡ T
  pub rows : row_of row (walk d fuel s from before last next) ≡ R

pub begun : (d : ℕ) (s : Slots) (n next : ℕ) (t : Tally) (row : List ℕ) → t.length ≡ 0 →
    Going d s n (tally_of d n t 0 (walk d (suc (2 ^ d)) s 0 None 0 next)) (row_of row (walk d (suc (2 ^ d)) s 0 None 0 next)) 0 None 0 next t row
begun d s n next t row e = grind (arith)

found_all : (o : Option Found) → or_else o None ≡ o
found_all (Some g) = refl
found_all None = refl

tally_eq : (a b l : ℕ) (o p : Option Found) → a ≡ b → o ≡ p →
    ◌≡◌ {A = Tally} (record { length = a; lowest = l; found = o }) (record { length = b; lowest = l; found = p })
tally_eq a b l o p e f = ap₂ (λ (x : ℕ) (y : Option Found). record { length = x; lowest = l; found = y }) e f

-- a record joins the tally, and its slot the row
tally_more : (d n : ℕ) (t : Tally) (last m : ℕ) (x : Link) (w : Result (List Link) Halt) → ((xs : List Link) → w ≡ Ok xs → m ≡ entry xs 0) →
    tally_of d n t last (consed x w) ≡ tally_of d n (counted d n t (record { slot = x.slot; before = last; node = x.node; next = m })) x.slot w
tally_more d n t last m x (Err f) h = refl
tally_more d n t last m x (Ok xs) h = grind arith

row_more : (row : List ℕ) (x : Link) (w : Result (List Link) Halt) → row_of row (consed x w) ≡ row_of (with_mark row x.slot) w
row_more row x (Err f) = refl
row_more row x (Ok xs) = refl

module _ {d : ℕ} {s : Slots} {n : ℕ} {T : Result Tally Halt} {R : List ℕ} {from : ℕ} {before : Option Node} {last next : ℕ} {t : Tally} {row : List ℕ}
    (g : Going d s n T R from before last next t row) where
  unused : g.fuel ≡ suc (g.fuel - 1)
  unused = omega (arith, g.within, g.enough)

  -- the end
  over : next ≡ 0 → walk d g.fuel s from before last next ≡ Ok []
  over e = ap (walk d g.fuel s from before last) e ∙ walk_end d s g.fuel from before last

  pub ended : next ≡ 0 → T ≡ Ok t
  ended e = grind (arith, over, tally_eq, found_all)

  pub ended_row : next ≡ 0 → R ≡ row
  ended_row e = sym g.rows ∙ ap (row_of row) (over e)

  stopped : (i : ℕ) → walk d (suc (g.fuel - 1)) s from before last next ≡ Err (placed BadLink i) → T ≡ Err (placed BadLink i)
  stopped i e = grind (arith, unused)

  -- the index is not below the count
  pub far : next ≢ 0 → length s ≤ next → T ≡ Err (placed BadLink last)
  far ne h = stopped last (walk_far d s (g.fuel - 1) from before last next ne h)

  -- the slot holds no record, or one that may not stand here
  pub spoilt : next ≢ 0 → next < length s → node_of d (get_or s next []) ≡ None → T ≡ Err (placed BadLink next)
  spoilt ne h e = grind (arith, stopped, walk_bad, and_left)

  pub misplaced : (f : NodeFields) {y : Node} → y ≡ node_at f.depth f.first → next ≢ 0 → next < length s → node_of d (get_or s next []) ≡ Some f → may_follow d from before y ≡ false → T ≡ Err (placed BadLink next)
  misplaced f q ne h e m =
      let l = laid d (get_or s next []) f e in
      stopped next (walk_bad d s (g.fuel - 1) from before last next ne h
      (and_right _ _ (ap (λ (z : NodeFields). may_follow d from before (node_at z.depth z.first)) l.fields ∙ ap (may_follow d from before) (sym q) ∙ m)))

  pub onward : (f : NodeFields) {y : Node} → y ≡ node_at f.depth f.first → next ≢ 0 → next < length s → node_of d (get_or s next []) ≡ Some f → may_follow d from before y ≡ true →
      Going d s n T R (end_of d y) (Some y) next f.next (counted d n t (record { slot = next; before = last; node = y; next = f.next })) (with_mark row next)
  onward f {y = y} q ne h e m = grind (arith, laid, leb-true, and_parts, tested_node, unused, walk_on, and_from, end_after, end_within, tally_more, walk_first, row_more)

-- the same state under other names
pub renamed : {d : ℕ} {s : Slots} {n : ℕ} {T : Result Tally Halt} {R : List ℕ} {from : ℕ} {before : Option Node} {last next : ℕ} {t : Tally} {row : List ℕ}
    (from' : ℕ) (t' : Tally) (row' : List ℕ) → from' ≡ from → t' ≡ t → row' ≡ row →
    Going d s n T R from before last next t row → Going d s n T R from' before last next t' row'
renamed from' t' row' e f h g = rw (e, f, h) g

-- ---- what a read of a record tells
record_some : (i : ℕ) (o : Option NodeFields) (f : NodeFields) → Ok f ≡ record_named i o → o ≡ Some f
record_some i None f e = absurd (cc)
record_some i (Some x) f e = cc

pub record_bad : (d : ℕ) (s : State) (i : ℕ) (h : Halt) → s.power ≡ true → i < length s.slots → Err h ≡ record_read d s i →
    (node_of d (get_or s.slots i []) ≡ None) × (h ≡ placed BadLink i)
record_bad d s i h p l e = grind arith

record_good : (d : ℕ) (s : State) (i : ℕ) (f : NodeFields) → s.power ≡ true → i < length s.slots → Ok f ≡ record_read d s i → node_of d (get_or s.slots i []) ≡ Some f
record_good d s i f p l e =
    let t : ltb i (length s.slots) ≡ true = lt-ltb _ _ l in
    record_some i (node_of d (get_or s.slots i [])) f (rw (t, p) at e)

-- a record that is read where the walk stands, and its node
pub record Good (d : ℕ) (s : Slots) (i : ℕ) (f : NodeFields) (x : Node) : Type 0 where
  pub here : i < length s
  pub is : node_of d (get_or s i []) ≡ Some f
  pub node : IsNode d x

pub good : (d : ℕ) (s : State) (i n : ℕ) (f : NodeFields) {x : Node} → x ≡ node_at f.depth f.first → n ≡ length s.slots → i < n → s.power ≡ true →
    Ok f ≡ record_read d s i → Good d s.slots i f x
good d s i n f q e l p r =
    let here : i < length s.slots = subst (λ (k : ℕ). i < k) e l in
    let is = record_good d s i f p here r in
    record { here = here; is = is; node = subst (IsNode d) (sym q) (tested_node d (node_at f.depth f.first) (laid d (get_or s.slots i []) f is).node) }

-- a walk that ends with a refusal gives no chain
pub no_chain : (d n : ℕ) (t : Tally) (b : ℕ) (w : Result (List Link) Halt) (h : Halt) (xs : List Link) (a c : List ℕ) → Err h ≡ tally_of d n t b w → w ≡ Ok xs → a ≡ c
no_chain d n t b w h xs a c e q = grind arith
