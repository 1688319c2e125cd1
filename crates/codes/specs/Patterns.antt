-- Pattern codes: their two halves, and the pattern that has two given halves.
use Rattle.std.specs.Prelude.{ℕ, ◌+◌, ◌*◌, ◌/◌, ◌%◌, ◌^◌, List, ◌++◌, cond, ◌&&◌, Some, None, Option, nat_lt, codes, decimal}
use Rattle.std.proofs.Common.{lit<, mod-lt}
use Rattle.codes.specs.declared.patterns.Pattern.{Pattern}

-- The front half: the upper 16 of the 32 bits.
abbrev pub upper : Pattern → ℕ
upper p = p.bits / 65536

-- The back half: the lower 16 bits.
abbrev pub lower : Pattern → ℕ
lower p = p.bits % 65536

-- The lower 32 bits of a number, as a pattern.
abbrev pub of_bits : ℕ → Pattern
of_bits n = record { bits = n % 2 ^ 32; fits = mod-lt n (lit< tt) }

-- The pattern with the halves f and b, if both are below 65,536.
abbrev pub pattern_of : ℕ → ℕ → Option Pattern
pattern_of f b = cond (nat_lt f 65536 && nat_lt b 65536) (Some (of_bits (f * 65536 + b))) None

-- How a pattern is shown: FRONT.BACK.
abbrev pub shown : Pattern → List ℕ
shown p = decimal (upper p) ++ (codes "." ++ decimal (lower p))
