-- What holds of a tree's slots and of its book after every past.
use Rattle.std.proofs.Common.{◌≡◌, ℕ, ◌^◌, ◌<◌, ◌≤◌, true, List, [], ◌∷◌, map, length, get_or}
use Rattle.device.specs.Effects.{Slots, State}
use Rattle.layout.specs.declared.Head.{Head}
use Rattle.layout.specs.Records.{encode_head}
use Rattle.session.specs.Records.{is_record}
use Rattle.tree.specs.Cover.{In, Distinct}
use Rattle.tree.specs.Values.{key_of, valued_cover}
use Rattle.chain.specs.Reading.{Link, valued_of, slots_of, Sound}
use Rattle.ticket.specs.Limits.{name_length}
use Rattle.generator.specs.Bytes.{value_length}
use Rattle.calls.specs.Kits.{Kit, numbers_in}
use Rattle.calls.specs.Tickets.{ticket_of}
use Rattle.chain.specs.Listing.{entry}
use Rattle.calls.specs.Files.{record_of}
use Rattle.calls.specs.Calls.{count_fits}
use Rattle.calls.specs.Books.{Given, Book}
use Rattle.calls.specs.Pasts.{Mode, running}
use Rattle.law.specs.Law.{RestBlank}

-- each link stands in its slot as a record that leads to the next, the last one on to i
abbrev pub Linked : Slots → List Link → ℕ → Type 0
Linked s [] i = Unit {0}
Linked s (x ∷ xs) i = (0 < x.slot) × (x.slot < length s) × (get_or s x.slot [] ≡ record_of x (entry xs i)) × Linked s xs i

abbrev pub head_for : Kit → List ℕ → ℕ → ℕ → Head
head_for k name issued i = record { first = i; issued = issued; name = name; numbers = numbers_in k }

-- the head and the chain that are then read
abbrev pub file_for : Kit → List ℕ → ℕ → List Link → Sound
file_for k name issued xs = (head_for k name issued (entry xs 0), xs)

-- the file with so many numbers issued and these links stands in the slots
pub record Stands (k : Kit) (d : ℕ) (name : List ℕ) (issued : ℕ) (s : Slots) (xs : List Link) : Type 0 where
  pub fits : count_fits d s ≡ true
  pub head : get_or s 0 [] ≡ encode_head d (head_for k name issued (entry xs 0))
  pub links : Linked s xs 0
  pub apart : Distinct (slots_of xs)

-- after every past
pub record Inv (k : Kit) (d : ℕ) (root name : List ℕ) (m : Mode) (s : State) (b : Book) : Type 0 where
  pub links : List Link
  pub stands : Stands k d name b.issued s.slots links
  pub covers : map valued_of links ≡ valued_cover k.generator.expansion d root b.spent
  pub counted : b.issued ≤ 2 ^ d
  pub below : (n : ℕ) → In n b.spent → n < b.issued
  pub rooted : length root ≡ value_length
  pub named : length name ≡ name_length
  pub power : m ≡ running → s.power ≡ true
  pub rest : m ≡ running → RestBlank s.slots links
  pub once : Distinct b.opened
  pub opened : (n : ℕ) → In n b.opened → In n b.spent
  pub issued : (g : Given) → In g b.given → g.number < b.issued
  pub records : (g : Given) → In g b.given → is_record g.state ≡ true
  pub tickets : (g : Given) → In g b.given → g.ticket ≡ ticket_of k name g.number (key_of k.generator.expansion d root g.number) g.state
