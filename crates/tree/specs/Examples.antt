-- Widths and covers computed by the definitions, for the trees in use.
use Rattle.std.specs.Prelude.{◌≡◌, ℕ, zero, suc, List, [], ◌∷◌, length, take}
use Rattle.tree.specs.Nodes.{tree_levels, node_at, root_node, width_of}
use Rattle.tree.specs.Cover.{cover}

-- the numbers below n
unfoldable pub down_from : ℕ → List ℕ
down_from zero = []
down_from (suc n) = n ∷ down_from n

pub record Examples : Type 0 where
  pub widest : width_of tree_levels 0 ≡ 65536
  pub narrowest : width_of tree_levels 16 ≡ 1
  pub none_spent : cover tree_levels [] ≡ root_node ∷ []
  pub all_spent : cover tree_levels (down_from 65536) ≡ []
  pub zero_spent : cover tree_levels (0 ∷ []) ≡ node_at 16 1 ∷ node_at 15 2 ∷ node_at 14 4 ∷ node_at 13 8 ∷ node_at 12 16 ∷ node_at 11 32 ∷ node_at 10 64 ∷ node_at 9 128 ∷ node_at 8 256 ∷ node_at 7 512 ∷ node_at 6 1024 ∷ node_at 5 2048 ∷ node_at 4 4096 ∷ node_at 3 8192 ∷ node_at 2 16384 ∷ node_at 1 32768 ∷ []
  pub two_spent : cover tree_levels (0 ∷ 1 ∷ []) ≡ node_at 15 2 ∷ node_at 14 4 ∷ node_at 13 8 ∷ node_at 12 16 ∷ node_at 11 32 ∷ node_at 10 64 ∷ node_at 9 128 ∷ node_at 8 256 ∷ node_at 7 512 ∷ node_at 6 1024 ∷ node_at 5 2048 ∷ node_at 4 4096 ∷ node_at 3 8192 ∷ node_at 2 16384 ∷ node_at 1 32768 ∷ []
  pub five_count : length (cover tree_levels (5 ∷ [])) ≡ 16
  pub five_front : take 4 (cover tree_levels (5 ∷ [])) ≡ node_at 14 0 ∷ node_at 16 4 ∷ node_at 15 6 ∷ node_at 13 8 ∷ []
  pub ends_count : length (cover tree_levels (0 ∷ 65535 ∷ [])) ≡ 30
