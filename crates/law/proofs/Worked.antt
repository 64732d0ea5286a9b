-- The worked examples.
use Rattle.std.proofs.Common.{arith}
use Rattle.calls.specs.Kits.{Kit, kit_of, Lawful}
use Rattle.law.specs.Examples.{NarrowExample, AllExamples}
use Rattle.law.proofs.Narrow.{two_passes, four_declined}
use Rattle.law.proofs.NarrowPast.{narrow_server}
use Rattle.tree.proofs.Computed.{examples}
use Rattle.session.proofs.Fitting as lifetimes

-- a kit whose values are all the root's, and whose sealings are the plains
copying : Kit
copying = kit_of (record { expansion = record { left = λ v. v; right = λ v. v }; number = 1 }) (record { sealing = λ key heading plain. plain; overhead = 0; number = 1 })

copying_lawful : Lawful copying
unfolding copying
copying_lawful = record {
  lengths = record { on_left = λ v e. e; on_right = λ v e. e };
  seals = record { small = omega arith; long = λ key heading plain a b c. omega arith; apart = λ key heading p q a b c d e. e };
}

narrow_example : NarrowExample
narrow_example = record { kit = (copying, copying_lawful); server = narrow_server; two = two_passes; four = four_declined }

pub all_examples : AllExamples
all_examples = record { covers = examples; lifetimes = lifetimes.examples; narrow = narrow_example }
