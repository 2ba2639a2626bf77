-- The reading taken on to the next line feed changes nothing of the table. Assumes nothing.
use Prim.Native.Nat.{ℕ, ◌<◌, ◌≤◌}
use mathlib.Core.List.{List, ◌++◌}
use mathlib.Core.Path.{◌≡◌, refl, ap, ◌∙◌}
use native.Mathlib.Omega.{arith}
use lib.ListN.{drop}
use Rattle.listing_read.proofs.Skipping.{feed_least, kinds_skip}
use Rattle.table_blocks.specs.declared.Standing.{Standing}
use Rattle.table_blocks.specs.declared.Standing.TheVariants.{Going, Refused}
use Rattle.table_blocks.specs.Table.{behind, table_from}
use Rattle.table_blocks.specs.Steps.{table_with, Stands}
use Rattle.table_blocks.specs.Onward.{ahead_of}
use Rattle.table_blocks.proofs.Reading.{Made}

module _ (block : List ℕ) (at : ℕ) where
  pub ahead_least : (s : Standing) → at ≤ (ahead_of block at s).at
  unfolding ahead_of
  ahead_least (Going place scan line) = feed_least block at scan
  ahead_least (Refused r) = omega arith

  ahead_table : (s : Standing) (rest : List ℕ) → table_with s (drop at block ++ rest) ≡ table_with (ahead_of block at s).standing (drop (ahead_of block at s).at block ++ rest)
  unfolding ahead_of table_with
  ahead_table (Going place scan line) rest = ap (table_from place line) (kinds_skip block at scan rest)
  ahead_table (Refused r) rest = refl

  ahead_stands : (s : Standing) → Stands s → Stands (ahead_of block at s).standing
  unfolding ahead_of Stands
  ahead_stands (Going place scan line) h = h
  ahead_stands (Refused r) h = h

pub made_ahead : (block : List ℕ) (from : ℕ) (s₀ : Standing) (out₀ : List ℕ) (s : Standing) (i at : ℕ) (out : List ℕ) → from < i → Made block from s₀ out₀ s i at out
    → Made block from s₀ out₀ (ahead_of block i s).standing (ahead_of block i s).at at out
made_ahead block from s₀ out₀ s i at out l m =
    record {
      text = m.text;
      wrote = m.wrote;
      table = λ rest. m.table rest ∙ ap (behind m.text) (ahead_table block i s rest);
      stands = ahead_stands block i s m.stands;
      within = m.within;
      least = omega (arith, ahead_least block i s);
      none = λ e. absurd (omega (arith, ahead_least block i s));
    }
