-- Both rounds on two columns of halves: row i is a member, with the front half and the back half that stand there. Assumes nothing.
use Rattle.std.specs.Prelude.{ℕ, ◌^◌, ◌≤◌, List, map, length, bit_xor, slice_index}
use Rattle.std.specs.List.{zip, range_with_len}
use Rattle.rule.specs.Places.{shared, first, first_place, second, place, shared_pairs_of}
use Rattle.displace.specs.Columns.{Ready as RoundReady}

abbrev pub front_of : ℕ × ℕ → ℕ
front_of x = x.0

abbrev pub back_of : ℕ × ℕ → ℕ
back_of x = x.1

-- the first list, of 2 ^ r displacements
unfoldable pub firsts : ℕ → List ℕ → List ℕ → List ℕ
firsts r fronts backs = map (first front_of back_of r (zip fronts backs)) (range_with_len 0 (2 ^ r))

-- the second list
unfoldable pub seconds : ℕ → List ℕ → List ℕ → List ℕ
seconds r fronts backs = map (second front_of back_of r (zip fronts backs)) (range_with_len 0 (2 ^ r))

-- the first place of each member
unfoldable pub first_places : ℕ → List ℕ → List ℕ → List ℕ
first_places r fronts backs = map (first_place front_of back_of r (zip fronts backs)) (zip fronts backs)

-- the place of each member
unfoldable pub places_of : ℕ → List ℕ → List ℕ → List ℕ
places_of r fronts backs = map (place front_of back_of r (zip fronts backs)) (zip fronts backs)

-- the pairs of members with one first place
unfoldable pub pairs_of : ℕ → List ℕ → List ℕ → ℕ
pairs_of r fronts backs = shared_pairs_of front_of back_of r (zip fronts backs)

-- both rounds can be made: the first one can, and the other lists are long enough, given the lengths of the lists
pub record Ready (r : ℕ) (fronts backs : List ℕ) (first_length second_length places_length work_length : ℕ) : Type 0 where
  pub round : RoundReady r fronts backs first_length work_length
  pub second_long : 2 ^ r ≤ second_length
  pub places_long : length fronts ≤ places_length

-- the results of one round: each moved number displaced by what the list ds has for its class
unfoldable pub moved_by : List ℕ → List ℕ → List ℕ → List ℕ
moved_by ds class moved = map (λ (x : ℕ × ℕ). bit_xor x.1 (slice_index ds x.0)) (zip class moved)

-- the pairs of rows that hold the same number
unfoldable pub shared_rows : List ℕ → ℕ
shared_rows xs = shared (λ (x : ℕ). x) xs
