-- How large a number may be: the one place that says it. Assumes nothing.
use Rattle.std.specs.Prelude.{ℕ, ◌+◌, ◌*◌, ◌^◌}

-- the groups of seven bits that may follow the first
abbrev pub more_groups : ℕ
more_groups = 4

-- the largest group that may stand after all of these
abbrev pub top_group : ℕ
top_group = 15

-- the numbers that left more groups can hold lie below this
abbrev pub limit : ℕ → ℕ
limit left = (top_group + 1) * 128 ^ left

-- a number lies below 2 ^ 32
abbrev pub numbers : ℕ
numbers = limit more_groups
