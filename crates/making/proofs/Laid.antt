-- The writes of making a tree, put together from their parts.
use Rattle.std.proofs.Common.{◌≡◌, ℕ, ◌<◌, List, [], ◌∷◌, length, Ok, Err, Result, append_assoc, arith}
use Rattle.device.specs.Effects.{Slots, State}
use Rattle.fault.specs.declared.Halt.{Halt}
use Rattle.fault.specs.declared.Step.TheVariants.{Make}
use Rattle.layout.specs.declared.Head.{Head}
use Rattle.layout.specs.Records.{encode_head}
use Rattle.steps.specs.OneStep.{Write, write_of, Stepped}
use Rattle.steps.specs.Writes.{Wrote}
use Rattle.steps.proofs.Plans.{ran_next, ran_cut, ran_as, ran_wrote, wrote_ran}
use Rattle.calls.specs.Files.{blank_writes, root_record, tree_writes}

module _ (d : ℕ) (s : Slots) (root : List ℕ) (h : Head) where
  abbrev blanks : List Write
  blanks = blank_writes 0 (length s)

  abbrev to_root : Write
  to_root = write_of 1 (root_record root) Make

  abbrev to_head : Write
  to_head = write_of 0 (encode_head d h) Make

  pub cut_blank : (e : Halt) (r : Result (Unit {0}) Halt) (t : State) → Wrote s blanks (Err e) t → r ≡ Err e → Wrote s (tree_writes d s root h) r t
  cut_blank e r t a f = rw f (wrote_ran (ran_cut (to_root ∷ to_head ∷ []) (ran_wrote a)))

  pub cut_root : (t v : State) (e : Halt) (r : Result (Unit {0}) Halt) → Wrote s blanks (Ok tt) t → 1 < length s → Stepped t to_root (Err e) v → r ≡ Err e → Wrote s (tree_writes d s root h) r v
  cut_root t v e r a lt w f =
      rw f (wrote_ran (ran_as (append_assoc blanks (to_root ∷ []) (to_head ∷ [])) (ran_cut (to_head ∷ []) (ran_next to_root (ran_wrote a) lt w))))

  pub laid : (t v u : State) (r : Result (Unit {0}) Halt) → Wrote s blanks (Ok tt) t → 1 < length s → Stepped t to_root (Ok tt) v → Stepped v to_head r u → Wrote s (tree_writes d s root h) r u
  laid t v u r a lt w w' =
      let lt' : 0 < length s = omega arith in
      wrote_ran (ran_as (append_assoc blanks (to_root ∷ []) (to_head ∷ [])) (ran_next to_head (ran_next to_root (ran_wrote a) lt w) lt' w'))

pub ruleset laying = (cut_blank, cut_root, laid)
