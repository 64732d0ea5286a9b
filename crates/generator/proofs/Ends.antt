-- Where a descent ends.
use Rattle.std.proofs.Common.{◌≡◌, ℕ, ◌-◌, List, ◌++◌, length, drop, replicate, ap, ◌∙◌, arith}
use Rattle.std.proofs.lemmas.List.{drop-replicate, length-map}
use Rattle.octets.specs.Buffers.{zeros}
use Rattle.tree.specs.declared.Node.{Node}
use Rattle.tree.specs.Nodes.{max_levels, Above}
use Rattle.tree.specs.Puncture.{siblings_on}
use Rattle.tree.specs.Values.{Expansion, way, follow, key_from, value_from, sibling_values, besides}
use Rattle.tree.proofs.Descent.{length_way, key_from_is}
use Rattle.tree.proofs.Flanks.{length_siblings}
use Rattle.tree.proofs.Turns.{besides_are}
use Rattle.generator.specs.Bytes.{value_length}
use Rattle.generator.specs.Descent.{Descended, row_of}

pub descended : (g : Expansion) (d : ℕ) (x : Node) (n : ℕ) (before : List ℕ) (calls : ℕ) (after : List ℕ) → Above d x n →
    after ≡ follow g before (way (d - x.depth) 0 n) → calls ≡ length (way (d - x.depth) 0 n) → Descended g d x n before calls after
descended g d x n before calls after i r c =
    record {
      way = i;
      counted = record { turns = c; levels = length_way (d - x.depth) 0 n };
      key = r;
      of_tree = λ v s. r ∙ ap (λ (u : List ℕ). key_from g d x u n) s ∙ (key_from_is g d v x n i.is_node i.covers).same;
    }

-- the row after a descent that began with a row of zeros
pub row_kept : (g : Expansion) (d : ℕ) (x : Node) (n : ℕ) (v : List ℕ) (row : List (List ℕ)) (k : ℕ) → Above d x n → k ≡ d - x.depth →
    row ≡ besides g k n v ++ drop k (replicate max_levels (zeros value_length)) → row ≡ row_of (sibling_values g d x v n)
row_kept g d x n v row k i q r =
    let b = besides_are g d k n v x (omega (arith, i.is_node.shallow)) i.is_node i.covers in
    rw (← q, length-map (siblings_on x.depth k x.first n) (value_from g d x v), length_siblings, r, b, drop-replicate k max_levels (zeros value_length))
