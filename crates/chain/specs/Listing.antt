-- What a server asks of a chain, in terms of the list of its records.
use Rattle.std.specs.Prelude.{ℕ, ◌+◌, max, Bool, cond, ◌&&◌, List, [], ◌∷◌, length, Some, None, Ok, Err, Option, Result, nat_le, nat_lt}
use Rattle.fault.specs.declared.Halt.{Halt}
use Rattle.marks.specs.Rows.{with_mark}
use Rattle.tree.specs.declared.Node.{Node}
use Rattle.chain.specs.declared.Found.{Found}
use Rattle.chain.specs.declared.Tally.{Tally}
use Rattle.chain.specs.Reading.{Link, end_of, lowest_from}

-- whether a node covers a number
abbrev pub is_under : ℕ → Node → ℕ → Bool
is_under d x n = nat_le x.first n && nat_lt n (end_of d x)

-- the index that leads to the records, or on to i where there are none
abbrev pub entry : List Link → ℕ → ℕ
entry [] i = i
entry (x ∷ xs) i = x.slot

-- a record between the slot before it and the records after it
abbrev pub between : ℕ → Link → List Link → Found
between b x xs = record { slot = x.slot; before = b; node = x.node; next = entry xs 0 }

-- the record that covers n, with the slots of its neighbours: the slot b stands before the list
abbrev pub find_in : ℕ → ℕ → ℕ → List Link → Option Found
find_in d n b [] = None
find_in d n b (x ∷ xs) = cond (is_under d x.node n) (Some (between b x xs)) (find_in d n x.slot xs)

-- the row with the slot of each record marked
abbrev pub marked_all : List ℕ → List Link → List ℕ
marked_all row [] = row
marked_all row (x ∷ xs) = marked_all (with_mark row x.slot) xs

-- ---- a walk that keeps count
abbrev pub or_else : Option Found → Option Found → Option Found
or_else (Some f) o = Some f
or_else None o = o

-- one more record
abbrev pub counted : ℕ → ℕ → Tally → Found → Tally
counted d n t f = record {
  length = t.length + 1;
  lowest = cond (nat_le f.node.first t.lowest) (max t.lowest (end_of d f.node)) t.lowest;
  found = or_else t.found (cond (is_under d f.node n) (Some f) None);
}

-- the tally at the end of a walk of which the tally t is known when the slot b is read
abbrev pub tally_of : ℕ → ℕ → Tally → ℕ → Result (List Link) Halt → Result Tally Halt
tally_of d n t b (Err h) = Err h
tally_of d n t b (Ok xs) = Ok (record { length = t.length + length xs; lowest = lowest_from d t.lowest xs; found = or_else t.found (find_in d n b xs) })

-- the tally before the first record, of a file with so many numbers issued
abbrev pub none_yet : ℕ → Tally
none_yet m = record { length = 0; lowest = m; found = None }

-- the row at the end of a walk
abbrev pub row_of : List ℕ → Result (List Link) Halt → List ℕ
row_of row (Err h) = []
row_of row (Ok xs) = marked_all row xs
