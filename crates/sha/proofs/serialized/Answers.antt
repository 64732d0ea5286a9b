use Rattle.std.proofs.Common.{◌≡◌, ℕ, List, [], map, arith}
use Rattle.std.proofs.lemmas.List.{ext_get_or, get_or-map, length-map}
use Rattle.std.proofs.lemmas.List.Folds.{flat_map-map}
use Rattle.sha.specs.Digest.{four_bytes}
use Rattle.sha.proofs.serialized.Goals as goal

pub returns : goal.returns
unfolding four_bytes
returns c =
    let ws : List ℕ = c.args.words in
    let items = c.map.ensures.items in
    let is : c.map.result ≡ map four_bytes ws =
    ext_get_or [] c.map.result (map four_bytes ws) (omega (arith, items.long, length-map ws four_bytes)) (λ i h. grind (arith, items.at i 0 [] (omega (arith, items.long)), get_or-map four_bytes ws i 0 [] (omega (arith, items.long)))) in
    rw is (flat_map-map (λ x. x) four_bytes ws)
