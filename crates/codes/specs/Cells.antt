-- Cells of a chart: the row of each, and which rows are cells.
use Rattle.std.specs.Prelude.{◌≡◌, ℕ, ◌^◌, ◌<◌, ◌≤◌, true, false, ℤ, pos, negsuc, ◌≤ℤ◌, List, ◌++◌, Ok, Err, Result, codes}
use Rattle.std.proofs.Common.{leb→le, arith}
use Rattle.std.specs.Int.Signed.{mag}
use Rattle.codes.specs.declared.cells.Cell.{Cell}
use Rattle.codes.specs.declared.cells.OutOfRange.{OutOfRange}
use Rattle.codes.specs.declared.rows.Row.{Row}
use Rattle.codes.specs.Rows.{in_range, shown}

-- A round and a stake in range have 16 bits.
pub round_fits_lem : (z : ℤ) → negsuc 2047 ≤ℤ z → z ≤ℤ pos 2047 → mag z < 2 ^ 15
round_fits_lem (pos n) low high = omega (arith, leb→le n 2047 high.le)
round_fits_lem (negsuc n) low high = omega (arith, leb→le n 2047 low.le)

pub stake_fits_lem : (n : ℕ) → n ≤ 511 → n < 2 ^ 16
stake_fits_lem n h = omega arith

-- The row with the cell's round and stake.
abbrev pub row_in : Cell → Row
row_in c =
    record {
      round = c.round;
      stake = c.stake;
      round_fits = round_fits_lem c.round c.low c.high;
      stake_fits = stake_fits_lem c.stake c.few;
    }

-- A row in range is the row of a cell, and any other of none.
abbrev pub Checked : Row → Result Cell OutOfRange → Type 0
Checked w (Ok c) = (in_range w ≡ true) × (row_in c ≡ w)
Checked w (Err e) = (in_range w ≡ false) × (e.0 ≡ w)

-- That a row is no cell, in words.
abbrev pub no_cell : OutOfRange → List ℕ
no_cell e = codes "row " ++ (shown e.0 ++ codes " is out of range")
