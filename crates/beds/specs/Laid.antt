-- What a device means that was just laid over a lent row, with a cut appointed or none.
use Rattle.std.specs.Prelude.{◌≡◌, ℕ, true, List, Option}
use Rattle.image.specs.declared.ByteImage.{ByteImage}
use Rattle.sectors.specs.declared.SectorImage.{SectorImage}
use Rattle.memory.specs.declared.Memory.{Memory}
use Rattle.journal.specs.declared.Journal.{Journal}
use Rattle.row.specs.declared.Cut.{Cut}
use Rattle.row.specs.Rows.{Row}
use Rattle.beds.specs.declared.Either.{Either}
use Rattle.beds.specs.declared.Either.TheVariants.{First, Second}
use Rattle.beds.specs.declared.Medium.{Medium}
use Rattle.beds.specs.declared.Medium.TheVariants.{Bytes, Sectors}
use Rattle.beds.specs.declared.Base.{Base}
use Rattle.beds.specs.declared.Base.TheVariants.{Journaled, Whole}

-- over a row, with its power on
abbrev pub laid : List ℕ → Option Cut → Row
laid row cut = record { row = row; power = true; cut = cut }

-- an image of the kind
abbrev pub LaidImage : Medium → List ℕ → Option Cut → Either ByteImage SectorImage → Type 0
LaidImage Bytes row cut (First i) = i ≡ laid row cut
LaidImage Sectors row cut (Second i) = i ≡ laid row cut
LaidImage Bytes row cut (Second i) = ⊥
LaidImage Sectors row cut (First i) = ⊥

-- a journal over such an image, or a memory device
abbrev pub Laid : Base → List ℕ → Option Cut → Either (Journal (Either ByteImage SectorImage)) Memory → Type 0
Laid (Journaled kind) row cut (First j) = LaidImage kind row cut j
Laid Whole row cut (Second m) = m ≡ laid row cut
Laid (Journaled kind) row cut (Second m) = ⊥
Laid Whole row cut (First j) = ⊥
