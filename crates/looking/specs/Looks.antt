-- What a look at a key file tells.
use Rattle.std.specs.Prelude.{length, Ok, Err, Result}
use Rattle.device.specs.Effects.{Slots}
use Rattle.fault.specs.declared.Halt.{Halt}
use Rattle.chain.specs.Reading.{Sound}
use Rattle.calls.specs.Files.{free_count}
use Rattle.looking.specs.declared.Look.{Look}

-- of the file that reading the slots s comes to: its head, how many records its chain has, and how many slots are free beside it
abbrev pub look_of : Slots → Result Sound Halt → Result Look Halt
look_of s (Ok f) = Ok (record { head = f.0; records = length f.1; free = free_count s f.1 })
look_of s (Err h) = Err h
