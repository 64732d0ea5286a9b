-- What a server is put together from, beside its device: a generator and a sealer, by their meanings.
use Rattle.layout.specs.declared.Numbers.{Numbers}
use Rattle.generator.specs.Meaning.{GeneratorMeaning, KeepsLength}
use Rattle.sealer.specs.Meaning.{SealerMeaning, SealingLaws}

pub record Kit : Type 0 where
  pub generator : GeneratorMeaning
  pub sealer : SealerMeaning

abbrev pub kit_of : GeneratorMeaning → SealerMeaning → Kit
kit_of m w = record { generator = m; sealer = w }

-- the numbers by which a key file names a kit's parts
abbrev pub numbers_in : Kit → Numbers
numbers_in k = record { generator = k.generator.number; sealer = k.sealer.number }

-- what the meanings of generators and sealers promise
pub record Lawful (k : Kit) : Type 0 where
  pub lengths : KeepsLength k.generator.expansion
  pub seals : SealingLaws k.sealer
