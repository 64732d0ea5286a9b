-- The slots beside a chain that was read.
use Rattle.std.proofs.Common.{◌≡◌, ℕ, ◌+◌, ◌≤◌, ◌<◌, length, Ok, Err, Result, None, refl, arith}
use Rattle.device.specs.Effects.{State}
use Rattle.fault.specs.declared.Halt.{Halt}
use Rattle.layout.specs.declared.Numbers.{Numbers}
use Rattle.marks.specs.Rows.{room_of}
use Rattle.chain.specs.declared.Survey.{Survey}
use Rattle.chain.specs.Reading.{Sound, file_of}
use Rattle.chain.specs.Outcome.{reading_of, answer_of}
use Rattle.chain.proofs.Files.{to_sound}
use Rattle.chain.proofs.Frees.{free_count_is}

few : (d : ℕ) (numbers : Numbers) (m : ℕ) (s : State) (v : Survey) (r : Result Sound Halt) → reading_of d numbers m s ≡ r → Ok v ≡ answer_of d None r → v.length + 1 ≤ length s.slots
few d numbers m s v (Err h) e q = absurd (cc)
few d numbers m s v (Ok f) e q =
    let n : v.length ≡ length f.1 = cc in
    let wide : room_of (length s.slots) ≤ m = grind arith in
    let some : 0 < length s.slots = grind arith in
    let file : file_of d numbers s.slots ≡ Ok (f.0, f.1) = grind arith in
    let sound = to_sound d numbers s.slots f.0 f.1 file in
    let c = free_count_is m (length s.slots) f.1 wide sound.slots sound.distinct in
    omega arith

pub few_records : (d : ℕ) (numbers : Numbers) (m : ℕ) (s : State) (v : Survey) → Ok v ≡ answer_of d None (reading_of d numbers m s) → v.length + 1 ≤ length s.slots
few_records d numbers m s v q = few d numbers m s v (reading_of d numbers m s) refl q
