-- What a device of one of two kinds means: what the one that it is means.
use Rattle.std.specs.Prelude.{◌≡◌, ℕ, ◌<◌, [], length, slice_index_or}
use Rattle.device.specs.Effects.{State, slot_size}
use Rattle.beds.specs.declared.Either.{Either}
use Rattle.beds.specs.declared.Either.TheVariants.{First, Second}

module _ {A B : Type 0} where
  abbrev pub by_kind : {X : Type 0} → (A → X) → (B → X) → Either A B → X
  by_kind f g (First a) = f a
  by_kind f g (Second b) = g b

  -- each slot has its bytes, where those of both kinds have
  pub sized_by_kind : (f : A → State) (g : B → State)
      → ((a : A) (k : ℕ) → k < length (f a).slots → length (slice_index_or (f a).slots k []) ≡ slot_size)
      → ((b : B) (k : ℕ) → k < length (g b).slots → length (slice_index_or (g b).slots k []) ≡ slot_size)
      → (d : Either A B) (k : ℕ) → k < length (by_kind f g d).slots → length (slice_index_or (by_kind f g d).slots k []) ≡ slot_size
  sized_by_kind f g p q (First a) k h = p a k h
  sized_by_kind f g p q (Second b) k h = q b k h
