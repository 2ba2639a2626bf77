-- Document 01, "The step and the run": the length of a step, a point along a slope, and the weighted slopes of the four stages.
use Rattle.std.specs.Prelude.{ℕ, Float}
use Rattle.base.specs.Floats.{◌⊕◌, ◌⊗◌, ◌⊘◌, whole, decimal}
use Rattle.state.specs.declared.Vector.{Vector}

-- "H = h/1000 as one float quotient"
unfoldable pub step_h : ℕ → Float
step_h h = whole h ⊘ whole 1000

-- "base + (H·0.5)·slope", "base + H·slope", "base + (H/6)·(..)"
unfoldable pub along : Vector → Float → Vector → Vector
along base factor slope =
    record { x = base.x ⊕ factor ⊗ slope.x; y = base.y ⊕ factor ⊗ slope.y; z = base.z ⊕ factor ⊗ slope.z }

-- "((k1 + 2·k2) + 2·k3) + k4"
abbrev pub weigh : Float → Float → Float → Float → Float
weigh k1 k2 k3 k4 = ((k1 ⊕ whole 2 ⊗ k2) ⊕ whole 2 ⊗ k3) ⊕ k4

unfoldable pub weighed : Vector → Vector → Vector → Vector → Vector
weighed k1 k2 k3 k4 =
    record {
      x = weigh k1.x k2.x k3.x k4.x;
      y = weigh k1.y k2.y k3.y k4.y;
      z = weigh k1.z k2.z k3.z k4.z;
    }

unfoldable pub half : ℕ → Float
half h = step_h h ⊗ decimal 1 2

unfoldable pub sixth : ℕ → Float
sixth h = step_h h ⊘ whole 6
