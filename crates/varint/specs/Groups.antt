-- A number as bytes: groups of seven bits, lowest first, the top bit set in all bytes but the last. Assumes nothing.
use Rattle.std.specs.Prelude.{ℕ, zero, suc, ◌+◌, ◌*◌, ◌/◌, ◌%◌, Bool, true, cond, ◌&&◌, List, [], ◌∷◌, ◌==◌, nat_le, nat_lt}
use Rattle.std.specs.Option.{option_map_or}
use Rattle.varint.specs.declared.Groups.{Groups}
use Rattle.varint.specs.Width.{more_groups, top_group}

-- n in groups, of which at most left follow the first
unfoldable pub grouped : ℕ → ℕ → List ℕ
grouped zero n = n ∷ []
grouped (suc left) n = cond (nat_lt n 128) (n ∷ []) ((128 + n % 128) ∷ grouped left (n / 128))

-- the number as it is written
abbrev pub groups : ℕ → List ℕ
groups n = grouped more_groups n

-- what an iterator over the groups still gives
abbrev pub groups_left : Groups → List ℕ
groups_left g = option_map_or groups g.rest []

-- the number that bytes stand for, in the shortest form or not
unfoldable pub value : List ℕ → ℕ
value [] = 0
value (b ∷ bs) = b % 128 + 128 * value bs

-- what stands at the front of some bytes: a number and how many bytes it takes, or neither
pub data Reading : Type 0 where
  ended malformed : Reading
  number : ℕ → ℕ → Reading

-- a group that is not the last, before the rest of its number
abbrev pub before : ℕ → Reading → Reading
before b ended = ended
before b malformed = malformed
before b (number n len) = number (b % 128 + 128 * n) (len + 1)

-- the last group of a number; later says that another stands before it, and then it is not 0
abbrev pub lastly : Bool → ℕ → Reading
lastly later b = cond (later && b == 0) malformed (number b 1)

-- reads a group of which at most left follow (256 and more is no byte)
unfoldable pub reading : ℕ → Bool → List ℕ → Reading
reading left later [] = ended
reading zero later (b ∷ bs) = cond (nat_le b top_group) (lastly later b) malformed
reading (suc left) later (b ∷ bs) = cond (nat_lt b 128) (lastly later b) (cond (nat_lt b 256) (before b (reading left true bs)) malformed)
