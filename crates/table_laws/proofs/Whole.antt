-- What the program writes, portion after portion, is the table of the text that it reads, however the text is cut into blocks. Assumes nothing.
use Prim.Native.Nat.{ℕ}
use mathlib.Core.List.{List, [], ◌∷◌, ◌++◌, append_assoc, append-nil}
use mathlib.Core.Path.{◌≡◌, refl, sym, ap, ◌∙◌}
use lib.ListN.{take, drop, drop_of_length-le}
use Rattle.listing_read.proofs.Lines.{kinds_start}
use Rattle.listing_read.specs.declared.Place.TheVariants.{Top}
use Rattle.table_rows.specs.Text.{heading}
use Rattle.table_blocks.specs.declared.Standing.{Standing}
use Rattle.table_blocks.specs.declared.Standing.TheVariants.{Going, Refused}
use Rattle.table_blocks.specs.Table.{Table, behind, no_rows, table_from, table_of, refusal_text, written, told}
use Rattle.table_blocks.specs.Steps.{table_with, opened}
use Rattle.table_blocks.proofs.Reading.{behind_behind}
use Rattle.table_laws.specs.Laws.{Part, Block, bytes_of, parts_text, blocks_text, standing_after, standing_behind, Portions, Blocks, MayStop, Printing, output, errors}

-- the heading, before any line is checked, and then the table of the whole text
pub opened_all : (text : List ℕ) → table_of text ≡ behind heading (table_with opened text)
unfolding table_of table_with
opened_all text = ap (λ ks. behind heading (table_from Top 1 ks)) (sym (kinds_start text))

-- the portions of a block, and the table of what follows it
block_whole : (block : List ℕ) (at : ℕ) (s : Standing) (ps : List Part) → Portions block at s ps → (rest : List ℕ)
    → table_with s (drop at block ++ rest) ≡ behind (parts_text ps) (table_with (standing_after s ps) rest)
block_whole block at s [] h rest = rw (drop_of_length-le block h)
block_whole block at s (p ∷ ps) h rest =
    let t = take p.answer.written p.after in
    h.0.table rest
    ∙ ap (behind t) (block_whole block p.answer.at p.answer.standing ps h.1 rest)
    ∙ behind_behind t (parts_text ps) (table_with (standing_after p.answer.standing ps) rest)

-- blocks one after the other
blocks_whole : (s : Standing) (bs : List Block) → Blocks s bs → (rest : List ℕ)
    → table_with s (bytes_of bs ++ rest) ≡ behind (blocks_text bs) (table_with (standing_behind s bs) rest)
blocks_whole s [] h rest = refl
blocks_whole s (b ∷ bs) h rest =
    let t = parts_text b.parts in
    let s' = standing_after s b.parts in
    ap (table_with s) (append_assoc b.bytes (bytes_of bs) rest)
    ∙ block_whole b.bytes 0 s b.parts h.0 (bytes_of bs ++ rest)
    ∙ ap (behind t) (blocks_whole s' bs h.1 rest)
    ∙ behind_behind t (blocks_text bs) (table_with (standing_behind s' bs) rest)

-- rows are written as the text is read: for every rest of the text, its table begins with the heading and the rows of the portions
pub so_far : (bs : List Block) → Blocks opened bs → (rest : List ℕ)
    → table_of (bytes_of bs ++ rest) ≡ behind (heading ++ blocks_text bs) (table_with (standing_behind opened bs) rest)
so_far bs h rest =
    opened_all (bytes_of bs ++ rest)
    ∙ ap (behind heading) (blocks_whole opened bs h rest)
    ∙ behind_behind heading (blocks_text bs) (table_with (standing_behind opened bs) rest)

-- after reading stops, the rest of the text gives nothing
nothing_more : (s : Standing) (left : List ℕ) → MayStop s left → table_with s left ≡ table_with s []
unfolding table_with
nothing_more (Going place scan line) left h = rw h
nothing_more (Refused r) left h = refl

module _ (text : List ℕ) (p : Printing text) where
  pub whole : table_of text ≡ behind (output p) (no_rows p.end.refused)
  whole =
      let s = standing_behind opened p.blocks in
      let t = heading ++ blocks_text p.blocks in
      let e = p.ends in
      let last = take p.end.next p.after in
      let front : take p.behind_it p.first_row ≡ heading = p.headed.bytes in
      ap table_of p.read
      ∙ so_far p.blocks p.portions p.left
      ∙ ap (behind t) (nothing_more s p.left p.stops ∙ e.table ∙ ap (λ (l : List ℕ). behind l (no_rows p.end.refused)) (sym e.wrote.bytes))
      ∙ behind_behind t last (no_rows p.end.refused)
      ∙ ap (λ (l : List ℕ). behind l (no_rows p.end.refused))
      (append_assoc heading (blocks_text p.blocks) last ∙ ap (λ (h : List ℕ). h ++ (blocks_text p.blocks ++ last)) (sym front))

  -- "rows before it have been written"
  pub all_written : output p ≡ written text
  unfolding written
  all_written = sym (append-nil (output p)) ∙ sym (ap (λ (t : Table). t.rows) whole)

  -- the refusal with its line, or nothing
  pub all_told : errors p ≡ told text
  unfolding told
  all_told = p.refused.bytes ∙ sym (ap (λ (t : Table). refusal_text t.refused) whole)
