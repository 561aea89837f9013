-- How much what waits in a world may still bring about.
use Rattle.std.specs.Prelude.{ℕ, ◌+◌, map, sum, Option, Some, None}
use Rattle.vn_packets.specs.Weight.{frames_weight, parts_weight}
use Rattle.vn_cells.specs.declared.world.Live.{Live}
use Rattle.vn_cells.specs.declared.world.Pair.{Pair}
use Rattle.vn_cells.specs.declared.world.World.{World}

-- what waits in a stack, where it lives: on its way through lo0, or held for a neighbour
abbrev pub live_weight : Option Live → ℕ
live_weight None = 0
live_weight (Some live) = parts_weight live.parts

-- what waits in both queues of a pair
abbrev pub pair_weight : Pair → ℕ
pair_weight pair = frames_weight pair.a.sent + frames_weight pair.b.sent

-- what waits in all stacks and pairs: settling takes at most so many deliveries
unfoldable pub weight : World → ℕ
weight w = sum (map (λ s. live_weight s.1.live) w.stacks) + sum (map (λ e. pair_weight e.1) w.pairs)
