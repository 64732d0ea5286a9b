-- An issue whose head write is cut.
use Rattle.std.proofs.Common.{◌≡◌, ℕ, ◌<◌, List, [], ◌∷◌, length, Err}
use Rattle.device.specs.Effects.{Slot, Slots, State}
use Rattle.fault.specs.declared.Halt.{Halt}
use Rattle.fault.specs.declared.Step.TheVariants.{Head as HeadStep}
use Rattle.layout.specs.declared.Head.{Head}
use Rattle.chain.specs.declared.Found.{Found}
use Rattle.calls.specs.Kits.{Kit}
use Rattle.steps.specs.OneStep.{write_of, Stepped}
use Rattle.steps.specs.Writes.{Ran, through, failed}
use Rattle.calls.specs.Files.{issue_write}
use Rattle.steps.proofs.Plans.{ran_one}
use Rattle.issuing.specs.Ends.{IssueEnds, ended}

cut_ends : {k : Kit} {s : Slots} {h : Head} {f : Found} {plain : List ℕ} {room : ℕ} {ticket : List ℕ} {t : State} {e : Halt} →
    Ran s (issue_write s h ∷ []) (Err e) t → IssueEnds k s h f plain room (Err e) ticket t
cut_ends (through p a o) = absurd (cc)
cut_ends (failed m h' p c o) = ended m h' c (cc) o

pub head_cut : {k : Kit} {s : State} {h : Head} {f : Found} {plain : List ℕ} {room : ℕ} {ticket : List ℕ} {b : Slot} {t : State} {e : Halt} →
    0 < length s.slots → b ≡ (issue_write s.slots h).bytes → Stepped s (write_of 0 b HeadStep) (Err e) t → IssueEnds k s.slots h f plain room (Err e) ticket t
head_cut {s = s} {t = t} lt q d = cut_ends (ran_one s t _ _ lt (rw q at d))
