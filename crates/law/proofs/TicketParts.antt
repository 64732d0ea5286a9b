-- The parts of a ticket are what it was put together from.
use Rattle.std.proofs.Common.{◌≡◌, ℕ, ◌+◌, ◌^◌, ◌<◌, ◌≤◌, Bool, List, ◌++◌, length, take, drop, ap, ◌∙◌, arith, pow_mono}
use Rattle.std.proofs.lemmas.List.{length-append, take_at, drop_at, take-append-le, drop-append-le}
use Rattle.octets.specs.Fields.{bytes_of, number_of}
use Rattle.octets.proofs.Fielded.{length_bytes, number_bytes}
use Rattle.session.specs.Limits.{max_record}
use Rattle.session.proofs.Trip.{most}
use Rattle.device.specs.Effects.{State}
use Rattle.tree.specs.Cover.{In}
use Rattle.tree.specs.Values.{way, follow, key_of}
use Rattle.ticket.specs.Limits.{name_length, heading_length}
use Rattle.ticket.specs.Parts.{heading_of, name_in, number_in, heading_in, sealed_in}
use Rattle.generator.specs.Bytes.{value_length}
use Rattle.calls.specs.Kits.{Kit, Lawful}
use Rattle.calls.specs.Tickets.{ticket_of}
use Rattle.calls.specs.Books.{Given, Book}
use Rattle.calls.specs.Pasts.{Mode}
use Rattle.generator.proofs.Lengths as lengths
use Rattle.law.proofs.Invariant.{Inv}

-- a value at the end of any way is as long as one at its start
pub follow_long : (k : Kit) → Lawful k → (v : List ℕ) (bs : List Bool) → length v ≡ value_length → length (follow k.generator.expansion v bs) ≡ value_length
follow_long k w v bs q = lengths.follow_long k.generator.expansion w.lengths v bs q

heading_long : (name : List ℕ) (n : ℕ) → length name ≡ name_length → length (heading_of name n) ≡ heading_length
heading_long name n named = omega (arith, length-append name (bytes_of 4 n), length_bytes 4 n)

number_at : (name : List ℕ) (n : ℕ) (rest : List ℕ) → length name ≡ name_length → n < 2 ^ 32 → number_of (take 4 (drop name_length (heading_of name n ++ rest))) ≡ n
number_at name n rest named l =
    let a : drop name_length (heading_of name n ++ rest) ≡ bytes_of 4 n ++ rest =
    drop-append-le name_length (heading_of name n) rest (omega (arith, heading_long name n named)) ∙ ap (λ (l : List ℕ). l ++ rest) (drop_at name (bytes_of 4 n) name_length named) in
    ap (λ (l : List ℕ). number_of (take 4 l)) a ∙ ap number_of (take_at (bytes_of 4 n) rest 4 (length_bytes 4 n)) ∙ number_bytes 4 n l

name_at : (name : List ℕ) (n : ℕ) (rest : List ℕ) → length name ≡ name_length → take name_length (heading_of name n ++ rest) ≡ name
name_at name n rest named = take-append-le name_length (heading_of name n) rest (omega (arith, heading_long name n named)) ∙ take_at name (bytes_of 4 n) name_length named

-- a ticket is as long as its heading, its plain and the overhead
pub ticket_of_long : {k : Kit} (name : List ℕ) (n : ℕ) (key plain : List ℕ) → length name ≡ name_length → Lawful k → length key ≡ value_length → length plain ≤ max_record →
    length (ticket_of k name n key plain) ≡ heading_length + (length plain + k.sealer.overhead)
ticket_of_long {k = k} name n key plain named w a b =
    let h = heading_long name n named in
    let long = w.seals.long key (heading_of name n) plain a h b in
    omega (arith, h, long, length-append (heading_of name n) (k.sealer.sealing key (heading_of name n) plain))

-- ---- of a ticket that was given
module _ {k : Kit} {d : ℕ} {root name : List ℕ} {m : Mode} {s : State} {b : Book} (small : d ≤ 16) (v : Inv k d root name m s b) (g : Given) (given : In g b.given) where
  abbrev sealed : List ℕ
  sealed = k.sealer.sealing (key_of k.generator.expansion d root g.number) (heading_of name g.number) g.state

  pub number_is : number_in g.ticket ≡ g.number
  number_is =
      let p : 2 ^ d ≤ 2 ^ 16 = pow_mono small in
      ap number_in (v.tickets g given) ∙ number_at name g.number sealed v.named (omega (arith, v.issued g given, v.counted))

  pub name_is : name_in g.ticket ≡ name
  name_is = ap name_in (v.tickets g given) ∙ name_at name g.number sealed v.named

  heading_is : heading_in g.ticket ≡ heading_of name g.number
  heading_is = ap heading_in (v.tickets g given) ∙ take_at (heading_of name g.number) sealed heading_length (heading_long name g.number v.named)

  pub heading_in_long : length (heading_in g.ticket) ≡ heading_length
  heading_in_long = ap length heading_is ∙ heading_long name g.number v.named

  pub state_most : length g.state ≤ max_record
  state_most = most g.state (v.records g given)

  -- its state is sealed in it under the key of its number
  pub seals_state : k.sealer.sealing (key_of k.generator.expansion d root (number_in g.ticket)) (heading_in g.ticket) g.state ≡ sealed_in g.ticket
  seals_state = grind (arith, drop_at, heading_long, number_is, heading_is)

  pub ticket_long : Lawful k → length g.ticket ≡ heading_length + (length g.state + k.sealer.overhead)
  ticket_long w =
      let key = key_of k.generator.expansion d root g.number in
      ap length (v.tickets g given) ∙ ticket_of_long name g.number key g.state v.named w (follow_long k w root (way d 0 g.number) v.rooted) state_most
