-- The words by which a fault is printed.
use Rattle.std.specs.Prelude.{ℕ, Option, Some, None, List, ◌++◌, codes}
use Rattle.std.specs.Fmt.{decimal}
use Rattle.refusal.specs.Numbers.{number_of}
use Rattle.refusal.specs.Words.{words_of}
use Rattle.fault.specs.declared.Call.{Call}
use Rattle.fault.specs.declared.Call.TheVariants.{Make, Issue, Redeem, Reopen}
use Rattle.fault.specs.declared.Layer.{Layer}
use Rattle.fault.specs.declared.Layer.TheVariants.{Server, Chain, Device}
use Rattle.fault.specs.declared.Step.{Step}
use Rattle.fault.specs.declared.Step.TheVariants as steps
use Rattle.fault.specs.declared.Fault.{Fault}

abbrev pub call_words : Call → List ℕ
call_words Make = codes "make"
call_words Issue = codes "issue"
call_words Redeem = codes "redeem"
call_words Reopen = codes "reopen"

abbrev pub layer_words : Layer → List ℕ
layer_words Server = codes "server"
layer_words Chain = codes "chain"
layer_words Device = codes "device"

abbrev pub step_words : Step → List ℕ
step_words steps.Make = codes "make"
step_words steps.Read = codes "read"
step_words steps.Head = codes "head"
step_words steps.NewRecord = codes "new record"
step_words steps.Join = codes "join"
step_words steps.Erasure = codes "erasure"
step_words steps.Sweep = codes "sweep"
step_words steps.Restart = codes "restart"

-- the refusal's number and words, and the layer that it comes from
abbrev pub refused_by : Fault → List ℕ
refused_by t = codes "refusal " ++ decimal (number_of t.refusal) ++ codes " (" ++ words_of t.refusal ++ codes "), layer " ++ layer_words t.layer

-- a power cut names the step and the slot, any other refusal its place
abbrev pub told : Option Step → Fault → List ℕ
told (Some a) t = call_words t.call ++ codes " met a power cut: " ++ refused_by t ++ codes ", step " ++ step_words a ++ codes ", slot " ++ decimal t.place
told None t = call_words t.call ++ codes " is refused: " ++ refused_by t ++ codes ", place " ++ decimal t.place

abbrev pub fault_words : Fault → List ℕ
fault_words t = told t.step t
