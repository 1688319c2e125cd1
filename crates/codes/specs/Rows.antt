-- Rows of a chart: their two halves, and the row that has two given halves.
use Rattle.std.specs.Prelude.{ℕ, ◌+◌, ◌*◌, ◌/◌, ◌%◌, ◌^◌, ◌<◌, Bool, true, false, cond, ◌&&◌, ℤ, pos, negsuc, List, ◌++◌, Some, None, Option, ◌==◌, int_le, nat_le, codes, decimal}
use Rattle.std.proofs.Common.{lit<, mod-lt, arith}
use Rattle.std.specs.Int.Signed.{mag}
use Rattle.std.specs.Fmt.{signed_decimal}
use Rattle.codes.specs.declared.rows.Row.{Row}

-- A round as a natural number: 2 × round from 0, and −2 × round − 1 below (negsuc n is −n − 1).
abbrev pub folded : ℤ → ℕ
folded (pos n) = 2 * n
folded (negsuc n) = 2 * n + 1

-- A row is a cell if its round is from −2048 to 2047 and its stake at most 511.
abbrev pub in_range : Row → Bool
in_range w = int_le (negsuc 2047) w.round && int_le w.round (pos 2047) && nat_le w.stake 511

-- What a row that is no cell has its front half larger by.
abbrev pub raise : Bool → ℕ
raise true = 0
raise false = 65536

-- The front half: the folded round, and 65,536 more if the row is no cell.
abbrev pub row_front : Row → ℕ
row_front w = folded w.round + raise (in_range w)

-- The back half: the stake.
abbrev pub row_back : Row → ℕ
row_back w = w.stake

-- The round k, or −k − 1.
abbrev pub signed : Bool → ℕ → ℤ
signed true k = pos k
signed false k = negsuc k

-- The round that folds to n: n / 2 if n is even, and −(n / 2) − 1 if it is odd.
abbrev pub unfolded : ℕ → ℤ
unfolded n = signed (n % 2 == 0) (n / 2)

-- Such rounds have 16 bits.
pub signed_fits : (even : Bool) (k : ℕ) → k < 2 ^ 15 → mag (signed even k) < 2 ^ 15
signed_fits true k h = h
signed_fits false k h = h

pub unfolded_fits : (n : ℕ) → n < 65536 → mag (unfolded n) < 2 ^ 15
unfolded_fits n h = signed_fits (n % 2 == 0) (n / 2) (omega arith)

-- The only row that can have the halves f and b.
abbrev pub candidate : ℕ → ℕ → Row
candidate f b =
    record {
      round = unfolded (f % 65536);
      stake = b % 65536;
      round_fits = unfolded_fits (f % 65536) (mod-lt f (lit< tt));
      stake_fits = mod-lt b (lit< tt);
    }

-- The row with the halves f and b, if there is one: that row, if its halves are f and b.
abbrev pub row_of : ℕ → ℕ → Option Row
row_of f b = cond (row_front (candidate f b) == f && row_back (candidate f b) == b) (Some (candidate f b)) None

-- How a row is shown: ROUND.STAKE.
abbrev pub shown : Row → List ℕ
shown w = signed_decimal w.round ++ (codes "." ++ decimal w.stake)
