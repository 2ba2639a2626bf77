-- A whole run of turns on two lines, in blocks of any lengths.
use Rattle.std.specs.Prelude.{ℕ, List, [], ◌∷◌, ◌++◌, ◌≡◌, take, drop}
use Rattle.compare_report.specs.declared.Part.{Part}
use Rattle.compare_lines.specs.declared.Stage.{Stage}
use Rattle.compare_lines.specs.declared.Stage.TheVariants.{Comparing, First, Second, Over}
use Rattle.compare_lines.specs.declared.Turn.{Turn}
use Rattle.compare_lines.specs.Stages.{Turned}

-- a block of a text from a place on; it is empty only at the end of the text
pub record Reads (text : List ℕ) (from : ℕ) (block : List ℕ) : Type 0 where
  pub rest : List ℕ
  pub cut : drop from text ≡ block ++ rest
  pub over : block ≡ [] → rest ≡ []

-- a turn: the blocks, the caller's buffer before it and after it, and the result of the call
pub record LineTurn : Type 0 where
  pub a : List ℕ
  pub b : List ℕ
  pub before : List ℕ
  pub after : List ℕ
  pub answer : Turn

-- the blocks that the stage wants, of two texts that begin with the two lines
abbrev pub Wanted : List ℕ → List ℕ → Stage → LineTurn → Type 0
Wanted first second (Comparing d) t = Reads first d t.a × Reads second d t.b
Wanted first second (First d) t = Reads first d t.a
Wanted first second (Second d) t = Reads second d t.b
Wanted first second Over t = ⊥

-- turns as `turn` promises them, until the stage is over
abbrev pub Turns : Part → List ℕ → List ℕ → Stage → List LineTurn → Type 0
Turns p first second s [] = s ≡ Over
Turns p first second s (t ∷ ts) =
    Wanted first second s t × Turned p s t.a t.b t.before t.after t.answer × Turns p first second t.answer.stage ts

-- what they print
abbrev pub turns_text : List LineTurn → List ℕ
turns_text [] = []
turns_text (t ∷ ts) = take t.answer.written t.after ++ turns_text ts
