-- Laying out a record, and the records that are written so far.
use Rattle.std.proofs.Common.{◌≡◌, ℕ, zero, suc, ◌+◌, ◌-◌, ◌<◌, ◌≤◌, true, List, [], ◌∷◌, ◌++◌, length, get_or, take, drop, Some, None, Option, Ok, Err, Result, sym, refl, ap, ◌∙◌, ◌^◌, inl, inr, append_assoc, append-nil, arith}
use Rattle.std.proofs.Math.Seq.{get_or-append_seam}
use Rattle.std.proofs.lemmas.List.{length_push, take-append-drop, length-take-le, length-append, get_or_append_left}
use Rattle.device.specs.Effects.{Slot, Slots, State}
use Rattle.fault.specs.declared.Halt.{Halt}
use Rattle.fault.specs.declared.Step.TheVariants.{NewRecord}
use Rattle.layout.specs.Records.{encode_node, fields_of}
use Rattle.tree.specs.declared.Node.{Node}
use Rattle.tree.specs.Nodes.{root_node}
use Rattle.marks.specs.Rows.{unmarked, first_of}
use Rattle.steps.specs.OneStep.{Write, write_of, Stepped}
use Rattle.steps.specs.Writes.{Ran}
use Rattle.chain.specs.Listing.{entry}
use Rattle.calls.specs.Files.{new_writes}
use Rattle.steps.proofs.Plans.{ran_none, ran_next, ran_cut, ran_as}
use Rattle.puncture.specs.Laying.{open_slots, last_links, links_for, Able, Laid, Recording, Recorded}
use Rattle.puncture.proofs.Open.{First, first_is, none_left, left_over}

-- the nodes ns and the values vs are still to be written, and those behind them are
pub record Ahead (nodes : List Node) (row : List (List ℕ)) (ns : List Node) (vs : List (List ℕ)) : Type 0 where
  pub behind : List Node
  pub nodes_are : nodes ≡ ns ++ behind
  pub others : List (List ℕ)
  pub values_are : row ≡ vs ++ others
  pub many : length vs ≡ length ns

-- at the beginning all are
pub all_ahead : {nodes ns : List Node} {row vs : List (List ℕ)} → ns ≡ nodes → vs ≡ take (length nodes) row → length nodes ≤ length row → Ahead nodes row ns vs
all_ahead {nodes = nodes} {row = row} e f l = record {
  behind = [];
  nodes_are = rw append-nil (sym e);
  others = drop (length nodes) row;
  values_are = sym (take-append-drop (length nodes) row) ∙ ap (λ (xs : List (List ℕ)). xs ++ drop (length nodes) row) (sym f);
  many = grind (arith, length-take-le);
}

-- the last of them is drawn, a node with its value
pub record Drawn (nodes : List Node) (row : List (List ℕ)) (ns ns' : List Node) (vs' : List (List ℕ)) (x : Node) (y : List ℕ) : Type 0 where
  pub fewer : length ns ≡ suc (length ns')
  pub within : length ns' < length nodes
  pub node : get_or nodes (length ns') root_node ≡ x
  pub value : get_or row (length ns') [] ≡ y
  pub onward : Ahead nodes row ns' vs'

pub drawn : {nodes : List Node} {row : List (List ℕ)} {ns ns' : List Node} {vs vs' : List (List ℕ)} {x : Node} {y : List ℕ} → Ahead nodes row ns vs →
    (length ns - length vs ≡ 0 → ns ≡ ns' ++ x ∷ []) → (length vs - length ns ≡ 0 → vs ≡ vs' ++ y ∷ []) → Drawn nodes row ns ns' vs' x y
drawn {nodes = nodes} {row = row} {ns = ns} {ns' = ns'} {vs = vs} {vs' = vs'} {x = x} {y = y} a f h =
    let p : ns ≡ ns' ++ x ∷ [] = f (omega (arith, a.many)) in
    let q : vs ≡ vs' ++ y ∷ [] = h (omega (arith, a.many)) in
    let n : nodes ≡ ns' ++ x ∷ a.behind = a.nodes_are ∙ ap (λ (zs : List Node). zs ++ a.behind) p ∙ append_assoc ns' (x ∷ []) a.behind in
    let v : row ≡ vs' ++ y ∷ a.others = a.values_are ∙ ap (λ (zs : List (List ℕ)). zs ++ a.others) q ∙ append_assoc vs' (y ∷ []) a.others in
    let m : length vs' ≡ length ns' = omega (arith, ap length p, ap length q, length_push ns' x, length_push vs' y) in
    record {
      fewer = omega (arith, ap length p, length_push ns' x);
      within = omega (arith, ap length n, length-append ns' (x ∷ a.behind));
      node = rw n (get_or-append_seam ns' x a.behind root_node);
      value = rw (← m, v) (get_or-append_seam vs' y a.others []);
      onward = record { behind = x ∷ a.behind; nodes_are = n; others = y ∷ a.others; values_are = v; many = m };
    }

-- of m nodes the last `m - left` are written
pub record Going (s : Slots) (nodes : List Node) (row : List (List ℕ)) (marks : List ℕ) (count last left from next : ℕ) (t : State) : Type 0 where
  pub within : left ≤ length nodes
  pub rest : unmarked marks from (count - from) ≡ drop (length nodes - left) (open_slots marks count)
  pub leads : next ≡ entry (last_links (open_slots marks count) nodes row (length nodes) (length nodes - left)) last
  pub ran : Ran s (new_writes (last_links (open_slots marks count) nodes row (length nodes) (length nodes - left)) last) (Ok tt) t

-- the writes of the last n nodes come first
more_writes : (us : List ℕ) (nodes : List Node) (row : List (List ℕ)) (m last n k : ℕ) →
    (ws : List Write) × (new_writes (last_links us nodes row m (n + k)) last ≡ new_writes (last_links us nodes row m n) last ++ ws)
more_writes us nodes row m last n zero =
    let e : n + 0 ≡ n = omega arith in
    ([], rw (e, append-nil) refl)
more_writes us nodes row m last n (suc k) =
    let e : n + suc k ≡ suc (n + k) = omega arith in
    let r = more_writes us nodes row m last n k in
    let links = last_links us nodes row m (n + k) in
    let w : Write = write_of (get_or us (n + k) 0) (encode_node (fields_of (get_or nodes (m - suc (n + k)) root_node) (entry links last)) (get_or row (m - suc (n + k)) [])) NewRecord in (
      r.0 ++ (w ∷ []),
      rw (e, r.1) (append_assoc (new_writes (last_links us nodes row m n) last) r.0 (w ∷ [])),
    )

pub begun : {s : State} {nodes : List Node} {row : List (List ℕ)} {marks : List ℕ} {count last left : ℕ} → left ≡ length nodes → s.power ≡ true →
    Going s.slots nodes row marks count last left 1 last s
begun {s = s} {nodes = nodes} {left = left} e o =
    let z : length nodes - left ≡ 0 = omega (arith, e) in
    record { within = omega (arith, e); rest = rw z; leads = rw z; ran = rw z (ran_none s.slots s refl o) }

module _ {s : State} {nodes : List Node} {row : List (List ℕ)} {marks : List ℕ} {count last from next : ℕ} {t : State} {ns ns' : List Node} {vs' : List (List ℕ)} {x : Node} {y : List ℕ}
    (g : Going s.slots nodes row marks count last (length ns) from next t) (w : Drawn nodes row ns ns' vs' x y) (able : Able s count (length nodes) marks) where
  pub never_full : {h : Halt} {o : Option ℕ} → o ≡ first_of (unmarked marks from (count - from)) → o ≡ None → Laid s.slots (links_for (open_slots marks count) nodes row) last (Err h) t
  never_full e is = absurd (none_left (unmarked marks from (count - from)) (open_slots marks count) (length nodes - length ns) (sym e ∙ is) g.rest (omega (arith, able.room, g.within, w.fewer)))

  module _ {o : Option ℕ} {f : ℕ} (e : o ≡ first_of (unmarked marks from (count - from))) (is : o ≡ Some f) where
    first_open : First marks from (count - from) f
    first_open = first_is marks from (count - from) f (sym e ∙ is)

    here : (get_or (open_slots marks count) (length nodes - length ns) 0 ≡ f) × (drop (suc (length nodes - length ns)) (open_slots marks count) ≡ unmarked marks (f + 1) (from + (count - from) - (f + 1)))
    here = left_over (open_slots marks count) _ (length nodes - length ns) f (sym g.rest ∙ first_open.rest)

    slot_small : f < count
    slot_small = omega (arith, first_open.low, first_open.high)

    abbrev record_here : Slot
    record_here = encode_node (fields_of x next) y

    one_less : length nodes - length ns' ≡ suc (length nodes - length ns)
    one_less = omega (arith, w.fewer, g.within)

    went : {r : Result (Unit {0}) Halt} {v : State} → Stepped t (write_of f record_here NewRecord) r v →
        Ran s.slots (new_writes (last_links (open_slots marks count) nodes row (length nodes) (length nodes - length ns')) last) r v
    went d =
        let lt : f < length s.slots = omega (arith, slot_small, able.size) in
        let b : length nodes - suc (length nodes - length ns) ≡ length ns' = omega (arith, w.fewer, g.within) in
        let n = g.leads in
        let p = w.node in
        let q = w.value in
        ran_as (rw (one_less, b, p, q, here.0, ← n)) (ran_next (write_of f record_here NewRecord) g.ran lt d)

    pub fails : {h : Halt} {v : State} → Stepped t (write_of f record_here NewRecord) (Err h) v → Laid s.slots (links_for (open_slots marks count) nodes row) last (Err h) v
    fails {h = h} d =
        let n = length nodes - length ns' in
        let q : n + length ns' ≡ length nodes = omega (arith, w.within) in
        let m = more_writes (open_slots marks count) nodes row (length nodes) last n (length ns') in
        rw q at (ran_as (sym m.1) (ran_cut m.0 (went d)))

    pub again : {v : State} → Stepped t (write_of f record_here NewRecord) (Ok tt) v → Going s.slots nodes row marks count last (length ns') (f + 1) f v
    again d =
        let c : from + (count - from) - (f + 1) ≡ count - (f + 1) = omega (arith, slot_small, first_open.low) in
        record {
          within = omega (arith, w.within);
          rest = rw (one_less, ← c) (sym here.1);
          leads = rw one_less (sym here.0);
          ran = went d;
        }

-- the last of some nodes
pub last_one : (ns : List Node) (x : Node) → (length (ns ++ x ∷ []) ≡ length ns + 1) × (get_or (ns ++ x ∷ []) (length ns) root_node ≡ x)
last_one ns x = (omega (arith, length_push ns x), get_or-append_seam ns x [] root_node)

-- ---- on the way through the nodes: those of ns, with the values vs, are still to be written, and the others are
unfoldable pub Underway : State → ℕ → List Node → List (List ℕ) → List ℕ → ℕ → List Node → List (List ℕ) → ℕ → ℕ → State → Type 0
Underway s count nodes row marks last ns vs from next t =
    Ahead nodes row ns vs × (Able s count (length nodes) marks → Going s.slots nodes row marks count last (length ns) from next t)

module _ (s : State) (count : ℕ) (nodes : List Node) (row : List (List ℕ)) (marks : List ℕ) (last : ℕ) where
  pub under_none : (ns : List Node) (vs : List (List ℕ)) → ns ≡ nodes → vs ≡ take (length nodes) row → length nodes ≤ length row → Underway s count nodes row marks last ns vs 1 last s
  unfolding Underway
  under_none ns vs e f l = (all_ahead e f l, λ a. begun (ap length e) a.power)

  module _ (ns : List Node) (vs : List (List ℕ)) (from next : ℕ) (t : State) (u : Underway s count nodes row marks last ns vs from next t)
      (ns' : List Node) (vs' : List (List ℕ)) (x : Node) (y : List ℕ) (p : length ns - length vs ≡ 0 → ns ≡ ns' ++ x ∷ []) (q : length vs - length ns ≡ 0 → vs ≡ vs' ++ y ∷ []) where
    unfolded : Ahead nodes row ns vs × (Able s count (length nodes) marks → Going s.slots nodes row marks count last (length ns) from next t)
    unfolding Underway
    unfolded = u

    pub under_more : (f : ℕ) (v : State) → Recording t count x y marks from next (Ok f) v → Underway s count nodes row marks last ns' vs' (f + 1) f v
    unfolding Underway Recording
    under_more f v d = let w = drawn unfolded.0 p q in (w.onward, λ a. again (unfolded.1 a) w a refl d.0 d.1)

    pub under_cut : (h : Halt) (r : Result ℕ Halt) (v : State) → Recording t count x y marks from next (Err h) v → r ≡ Err h → Recorded s count nodes row marks last r v
    unfolding Recorded Recording
    under_cut h r v d e a =
        let w = drawn unfolded.0 p q in
        rw e (elim d [
          | inl k ↦ rw k.1 (never_full (unfolded.1 a) w a refl k.0)
          | inr k ↦ fails (unfolded.1 a) w a refl k.1 k.2
        ])

  pub under_small : (ns : List Node) (vs : List (List ℕ)) (from next : ℕ) (t : State) (j : ℕ) → Underway s count nodes row marks last ns vs from next t →
      ((j : ℕ) → j < length nodes → (get_or nodes j root_node).first < 2 ^ 16) → j < length ns → (get_or ns j root_node).first < 2 ^ 16
  unfolding Underway
  under_small ns vs from next t j u f l =
      let e : length nodes ≡ length ns + length u.0.behind = ap length u.0.nodes_are ∙ length-append ns u.0.behind in
      let q : get_or nodes j root_node ≡ get_or ns j root_node = ap (λ (z : List Node). get_or z j root_node) u.0.nodes_are ∙ get_or_append_left ns u.0.behind root_node j l in
      omega (arith, f j (omega (arith, e)), ap (λ (z : Node). z.first) q)

  pub under_many : (ns : List Node) (vs : List (List ℕ)) (from next : ℕ) (t : State) → Underway s count nodes row marks last ns vs from next t → length vs ≡ length ns
  unfolding Underway
  under_many ns vs from next t u = u.0.many

  pub under_all : (ns : List Node) (vs : List (List ℕ)) (from next : ℕ) (t : State) → length ns ≡ 0 → Underway s count nodes row marks last ns vs from next t → Recorded s count nodes row marks last (Ok next) t
  unfolding Underway Recorded
  under_all ns vs from next t e u a =
      let g = u.1 a in
      let z : length nodes - length ns ≡ length nodes = omega (arith, e) in
      (rw z at g.leads, rw z at g.ran)

pub ruleset underway = (under_none, under_more, under_cut, under_many, under_all, under_small, last_one)
