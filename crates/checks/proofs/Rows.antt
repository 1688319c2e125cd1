-- A counted loop over the rows of two columns: where it is at a turn, and where it ends. Assumes nothing.
use Rattle.std.proofs.Common.{◌≡◌, ℕ, ◌+◌, ◌<◌, List, length, get_or, min, Bor, Some, None, Option, ap, ap₂, ◌∙◌, arith}
use Rattle.std.specs.Iterator.{Yields}
use Rattle.std.specs.Iterator.Adapters.{enumerate_source, enumerate_count, enumerate_steps, zip_first, zip_second}
use Rattle.std.specs.List.{zip, enumerate_from}
use Rattle.std.specs.Slice.Iter.{iter_rest}
use Rattle.std.proofs.iter.Yields.{fronts as slice_steps}
use Rattle.std.proofs.lemmas.Iterator.{zips, YieldsList, YieldsList-from_slice, YieldsList-from_zip}
use Rattle.std.proofs.lemmas.Iterator.Consumers.{YieldsList-from_enumerate, YieldsList-turn, YieldsList-end}
use Rattle.std.proofs.lemmas.List.{get_or_default}
use Rattle.std.proofs.lemmas.List.FromFn.{length-enumerate_from, get_or-enumerate_from}
use Rattle.std.proofs.lemmas.Slice.Zip.{length-zip, get_or-zip}
use Rattle.std.specs.declared.iter.Enumerate.{Enumerate}
use Rattle.std.specs.declared.iter.Zip.{Zip}
use Rattle.std.specs.declared.slice.Iter.{Iter}

-- the row that stands at index i
pub record At (fronts backs : List ℕ) (i position front back : ℕ) : Type 0 where
  pub in_fronts : i < length fronts
  pub in_backs : i < length backs
  pub position_is : position ≡ i
  pub front_is : front ≡ get_or fronts i 0
  pub back_is : back ≡ get_or backs i 0

module _ (fronts backs : List ℕ) (so_far : List (ℕ × (Bor ℕ × Bor ℕ))) (s t u : Enumerate (Zip (Iter ℕ) (Iter ℕ))) (r : Option (ℕ × (Bor ℕ × Bor ℕ))) (y : Yields (enumerate_steps (zips slice_steps slice_steps)) s so_far t) where
  gives : iter_rest (zip_first (enumerate_source s)) ≡ fronts → iter_rest (zip_second (enumerate_source s)) ≡ backs → enumerate_count s ≡ 0
      → YieldsList (enumerate_steps (zips slice_steps slice_steps)) (λ p. (p.0, (p.1.0.now, p.1.1.now))) s (enumerate_from 0 (zip fronts backs))
  gives f b c = YieldsList-from_enumerate (YieldsList-from_zip (YieldsList-from_slice fronts f) (YieldsList-from_slice backs b)) c

  pub row_turn : (x : ℕ × (Bor ℕ × Bor ℕ)) → r ≡ Some x → enumerate_steps (zips slice_steps slice_steps) t r u
      → iter_rest (zip_first (enumerate_source s)) ≡ fronts → iter_rest (zip_second (enumerate_source s)) ≡ backs → enumerate_count s ≡ 0
      → At fronts backs (length so_far) x.0 x.1.0.now x.1.1.now
  row_turn x is step f b c =
      let i = length so_far in
      let turn = YieldsList-turn (gives f b c) so_far t y r u x is step in
      let d : ℕ × (ℕ × ℕ) = (x.0, (x.1.0.now, x.1.1.now)) in
      let all = length-enumerate_from 0 (zip fronts backs) in
      let long = length-zip fronts backs in
      let count : 0 + i ≡ i = omega arith in
      let row : d ≡ (i, (get_or fronts i 0, get_or backs i 0)) =
      turn.1 ∙ get_or-enumerate_from 0 (zip fronts backs) i d (omega (arith, turn.0))
      ∙ ap₂ (λ (k : ℕ) (z : ℕ × ℕ). (k, z)) count
      (get_or-zip fronts backs i d.1 (omega (arith, turn.0)) (omega (arith, turn.0))
      ∙ ap₂ (λ (f b : ℕ). (f, b)) (get_or_default fronts i d.1.0 0 (omega (arith, turn.0))) (get_or_default backs i d.1.1 0 (omega (arith, turn.0)))) in
      record {
        in_fronts = omega (arith, turn.0);
        in_backs = omega (arith, turn.0);
        position_is = ap (λ (z : ℕ × (ℕ × ℕ)). z.0) row;
        front_is = ap (λ (z : ℕ × (ℕ × ℕ)). z.1.0) row;
        back_is = ap (λ (z : ℕ × (ℕ × ℕ)). z.1.1) row;
      }

  pub row_end : r ≡ None → enumerate_steps (zips slice_steps slice_steps) t r u
      → iter_rest (zip_first (enumerate_source s)) ≡ fronts → iter_rest (zip_second (enumerate_source s)) ≡ backs → enumerate_count s ≡ 0
      → length so_far ≡ min (length fronts) (length backs)
  row_end is step f b c =
      let end = YieldsList-end (gives f b c) so_far t y r u is step in
      end.1 ∙ length-enumerate_from 0 (zip fronts backs) ∙ length-zip fronts backs
