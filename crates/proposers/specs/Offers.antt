-- What boxes offer.
use Rattle.std.specs.Prelude.{ℕ, ◌+◌, ◌-◌, ◌*◌, ◌/◌, ◌%◌, ◌&&◌, ◌∷◌, ◌++◌, List, [], length, map, filter, min, nat_le, nat_lt, if◌then◌else◌, slice_index, slice_set}
use Rattle.std.specs.List.{range_with_len}
use Rattle.rail_specs.specs.declared.Narrow.{Narrow}
use Rattle.rail_specs.specs.Rules.{Rules, is_stop}
use Rattle.rail_specs.specs.Ranges.{IsGreatestNarrowDrive, NoNarrowDrive}
use Rattle.speed_envelopes.specs.Narrowing.{IsCoasting}

-- ---- dips

-- the speeds with that at point k lowered by 1
abbrev pub dip : List ℕ → ℕ → List ℕ
dip speeds k = slice_set speeds k (slice_index speeds k - 1)

-- the points between the first and the last with a speed of at least 2
abbrev pub dip_points : List ℕ → List ℕ
dip_points speeds = filter (λ k. nat_le 2 (slice_index speeds k)) (map (λ i. i + 1) (range_with_len 0 (length speeds - 2)))

-- the speeds with one of these lowered by 1, for each of them
abbrev pub dips : List ℕ → List (List ℕ)
dips speeds = map (dip speeds) (dip_points speeds)

-- ---- early braking

-- the speed v at point k, lowered by 1 where the point is one of the `d` before point s, after the first, and v is at least 2
abbrev pub braked_at : ℕ → ℕ → ℕ → ℕ → ℕ
braked_at v k s d = if nat_lt 0 k && nat_le (s - d) k && nat_lt k s && nat_le 2 v then v - 1 else v

-- the speeds with those of the `d` points before point s, after the first, lowered by 1 where they are at least 2
abbrev pub braked : List ℕ → ℕ → ℕ → List ℕ
braked speeds s d = map (λ k. braked_at (slice_index speeds k) k s d) (range_with_len 0 (length speeds))

-- the stops after the first point
abbrev pub stops_ahead : Rules → List ℕ
stops_ahead r = filter (is_stop r) (map (λ i. i + 1) (range_with_len 0 (length r.steps)))

-- the drive of index q: for each stop 16, over 1 to 16 points before it
abbrev pub early : List ℕ → List ℕ → ℕ → List ℕ
early speeds stops q = braked speeds (slice_index stops (q / 16)) (q % 16 + 1)

-- how many drives are offered before so many stops
abbrev pub early_count : ℕ → ℕ
early_count stops = min (16 * stops) 4096

-- for each stop after the first point and each number of points from 1 to 16 the drive that brakes earlier: the first 4,096
abbrev pub early_braking : Rules → List ℕ → List (List ℕ)
early_braking r speeds = map (early speeds (stops_ahead r)) (range_with_len 0 (early_count (length (stops_ahead r))))

-- ---- late coasting

-- at each point the lesser of two drives' speeds
abbrev pub lesser : List ℕ → List ℕ → List ℕ
lesser first second = map (λ k. min (slice_index first k) (slice_index second k)) (range_with_len 0 (length first))

-- the offers for each k below a number: the lesser of the drive d and of the greatest drive without traction from the point that is k
-- 64ths of the steps on to the next stop, where that drive exists
pub data AreLateCoasting (r : Rules) (d : List ℕ) : ℕ → List (List ℕ) → Type 0 where
  none : AreLateCoasting r d 0 []
  there : (k : ℕ) → (offers : List (List ℕ)) → (n : Narrow) → (g : List ℕ) → AreLateCoasting r d k offers → IsCoasting r 12000 k n
      → IsGreatestNarrowDrive r n g → AreLateCoasting r d (k + 1) (offers ++ lesser d g ∷ [])
  missing : (k : ℕ) → (offers : List (List ℕ)) → (n : Narrow) → AreLateCoasting r d k offers → IsCoasting r 12000 k n → NoNarrowDrive r n
      → AreLateCoasting r d (k + 1) offers
