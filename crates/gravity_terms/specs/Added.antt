-- How the code adds the last terms to a sum of pulls.
use Rattle.std.specs.Prelude.{◌&&◌}
use Rattle.state.specs.State.{used}
use Rattle.state.specs.declared.Vector.{Vector}
use Rattle.state.specs.declared.Setting.{Setting}
use Rattle.gravity_pull.specs.Pull.{minus}
use Rattle.gravity_pull.specs.Sum.{vector_of, soundly}
use Rattle.gravity_pull.specs.declared.Pull.{Pull}
use Rattle.gravity_terms.specs.Terms.{flattened, oblate, sunlit, sound_if}

-- a sum with the term of the oblate Earth, whose pull is given
abbrev pub flattened_by : Setting → Vector → Pull → Pull → Pull
flattened_by s Q by sum = soundly (flattened s Q (vector_of by) (vector_of sum)) (sum.sound && by.sound)

-- the last terms; the positions of the Earth and the Sun are seen from the centre
unfoldable pub oblate_by : Setting → Vector → Vector → Pull → Pull
oblate_by s home P sum = let Q = minus P home in soundly (oblate s Q (vector_of sum)) (sum.sound && sound_if (used s.j) Q)

unfoldable pub sunlit_by : Setting → Vector → Vector → Pull → Pull
sunlit_by s sun P sum = let S = minus P sun in soundly (sunlit s S (vector_of sum)) (sum.sound && sound_if (used s.k) S)
