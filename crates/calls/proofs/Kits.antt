-- A kit is lawful where its generator and its sealer are.
use Rattle.generator.specs.Meaning.{GeneratorMeaning, LawfulGenerator}
use Rattle.sealer.specs.Meaning.{SealerMeaning, LawfulSealer}
use Rattle.calls.specs.Kits.{kit_of, Lawful}

pub lawful_by : {m : GeneratorMeaning} {w : SealerMeaning} → LawfulGenerator m → LawfulSealer w → Lawful (kit_of m w)
lawful_by g s = record { lengths = g.lengths; seals = s.seals }
