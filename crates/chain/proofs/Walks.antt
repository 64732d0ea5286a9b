-- One step of a walk along the chain, for each thing that it can meet.
use Rattle.std.proofs.Common.{◌≡◌, ℕ, zero, suc, ◌<◌, ◌≤◌, Bool, true, false, cond, ◌&&◌, eqb, ltb, ◌≢◌, List, [], length, get_or, is_some, Some, Option, Ok, Err, Result, refl, ap, subst, arith}
use Rattle.std.proofs.lemmas.Bool.{lt-ltb, le-ltb, and_parts}
use Rattle.refusal.specs.declared.Refusal.TheVariants.{BadLink}
use Rattle.fault.specs.declared.Halt.{Halt}
use Rattle.fault.specs.Faults.{placed}
use Rattle.octets.specs.Buffers.{is_blank}
use Rattle.device.specs.Effects.{Slots}
use Rattle.layout.specs.declared.NodeFields.{NodeFields}
use Rattle.layout.specs.Records.{part, is_record, node_fields, node_of}
use Rattle.std.proofs.lemmas.Option.{cond_some}
use Rattle.tree.specs.declared.Node.{Node}
use Rattle.tree.specs.Nodes.{is_node}
use Rattle.chain.specs.Reading.{Link, consed, node_in, link_at, end_of, may_follow, walk}
use Rattle.chain.specs.Listing.{entry}

-- what a record's bytes say where they are laid out as one
pub record Laid (d : ℕ) (bs : List ℕ) (f : NodeFields) : Type 0 where
  pub fields : node_fields bs ≡ f
  pub node : is_node d f.depth f.first ≡ true
  pub here : is_node d (node_fields bs).depth (node_fields bs).first ≡ true
  pub some : is_some (node_of d bs) ≡ true

pub laid : (d : ℕ) (bs : List ℕ) (f : NodeFields) → node_of d bs ≡ Some f → Laid d bs f
unfolding node_of
laid d bs f e =
    let p = cond_some (is_record d bs) (node_fields bs) f e in
    let q = and_parts (eqb (get_or bs 0 0) 2) _ p.0 in
    let r = and_parts (is_blank (part 6 26 bs)) _ q.1 in
    record { fields = p.1; node = subst (λ (z : NodeFields). is_node d z.depth z.first ≡ true) p.1 r.1; here = r.1; some = ap is_some e }

-- a step that fails tells of a link where the rest of the walk does
err_on : (a b : Bool) (i j : ℕ) (x : Link) (w : Result (List Link) Halt) (h : Halt) → (w ≡ Err h → h.refusal ≡ BadLink) →
    cond a (cond b (consed x w) (Err (placed BadLink i))) (Err (placed BadLink j)) ≡ Err h → h.refusal ≡ BadLink
err_on false b i j x w h f e = cc
err_on true false i j x w h f e = cc
err_on true true i j x (Err g) h f e = f e
err_on true true i j x (Ok xs) h f e = absurd (cc)

module _ (d : ℕ) (s : Slots) where
  pub walk_end : (k from : ℕ) (b : Option Node) (last : ℕ) → walk d k s from b last 0 ≡ Ok []
  unfolding walk
  walk_end k from b last = refl

  pub walk_far : (k from : ℕ) (b : Option Node) (last i : ℕ) → i ≢ 0 → length s ≤ i → walk d (suc k) s from b last i ≡ Err (placed BadLink last)
  unfolding walk
  walk_far k from b last zero ne h = absurd (ne refl)
  walk_far k from b last (suc i) ne h = let t : ltb (suc i) (length s) ≡ false = le-ltb _ _ h in rw t

  pub walk_bad : (k from : ℕ) (b : Option Node) (last i : ℕ) → i ≢ 0 → i < length s →
      (is_some (node_of d (get_or s i [])) && may_follow d from b (node_in (get_or s i []))) ≡ false → walk d (suc k) s from b last i ≡ Err (placed BadLink i)
  unfolding walk
  walk_bad k from b last zero ne h e = absurd (ne refl)
  walk_bad k from b last (suc i) ne h e = let t : ltb (suc i) (length s) ≡ true = lt-ltb _ _ h in rw (t, e)

  pub walk_on : (k from : ℕ) (b : Option Node) (last i : ℕ) → i ≢ 0 → i < length s →
      (is_some (node_of d (get_or s i [])) && may_follow d from b (node_in (get_or s i []))) ≡ true →
      walk d (suc k) s from b last i ≡
      consed (link_at s i) (walk d k s (end_of d (node_in (get_or s i []))) (Some (node_in (get_or s i []))) i (node_fields (get_or s i [])).next)
  unfolding walk
  walk_on k from b last zero ne h e = absurd (ne refl)
  walk_on k from b last (suc i) ne h e = let t : ltb (suc i) (length s) ≡ true = lt-ltb _ _ h in rw (t, e)

  -- a walk that succeeds begins with the record in the slot that it was sent to
  pub walk_first : (k from : ℕ) (b : Option Node) (last i : ℕ) (xs : List Link) → walk d k s from b last i ≡ Ok xs → i ≡ entry xs 0
  unfolding walk
  walk_first k from b last zero xs e = let q : [] ≡ xs = cc in ap (λ (ys : List Link). entry ys 0) q
  walk_first zero from b last (suc i) xs e = absurd (cc)
  walk_first (suc k) from b last (suc i) xs e = grind arith

  -- one that fails tells of a link
  pub walk_err : (k from : ℕ) (b : Option Node) (last i : ℕ) (h : Halt) → walk d k s from b last i ≡ Err h → h.refusal ≡ BadLink
  unfolding walk
  walk_err k from b last zero h e = absurd (cc)
  walk_err zero from b last (suc i) h e = cc
  walk_err (suc k) from b last (suc i) h e = err_on _ _ (suc i) last _ _ h (walk_err k _ _ (suc i) (node_fields (get_or s (suc i) [])).next h) e
