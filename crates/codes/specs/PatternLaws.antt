-- Patterns with equal bits are equal, so are patterns with equal halves, and a pattern is made from its own halves.
use Rattle.std.specs.Prelude.{◌≡◌, ℕ, ◌+◌, ◌*◌, ◌^◌, ◌<◌, true, Some, nat_lt}
use Rattle.std.proofs.Common.{ap, subst, arith}
use Rattle.std.proofs.Math.Bridge.{le_prop}
use Rattle.std.proofs.lemmas.Bool.Decides.{nat_tests}
use Rattle.codes.specs.declared.patterns.Pattern.{Pattern}
use Rattle.codes.specs.Patterns.{upper, lower, of_bits, pattern_of}

abbrev pattern : (n : ℕ) → n < 2 ^ 32 → Pattern
pattern n h = record { bits = n; fits = h }

pub same_bits : (x y : Pattern) → x.bits ≡ y.bits → x ≡ y
same_bits x y e =
    subst (λ (n : ℕ). (h : n < 2 ^ 32) → pattern x.bits x.fits ≡ pattern n h) e
    (λ h. ap (pattern x.bits) (le_prop x.fits h))
    y.fits

pub same_halves : (x y : Pattern) → upper x ≡ upper y → lower x ≡ lower y → x ≡ y
same_halves x y f b = same_bits x y (omega arith)

pub own_pattern : (x : Pattern) (f b : ℕ) → upper x ≡ f → lower x ≡ b → Some x ≡ pattern_of f b
own_pattern x f b ef eb =
    let short : nat_lt f 65536 ≡ true = grind (arith, nat_tests, x.fits) in
    let low : nat_lt b 65536 ≡ true = grind (arith, nat_tests) in
    rw (short, low) (ap Some (same_bits x (of_bits (f * 65536 + b)) (omega (arith, x.fits))))
