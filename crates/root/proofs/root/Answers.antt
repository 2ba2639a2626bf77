-- `root::root` meets its contract. Assumes nothing.
use mathlib.Core.Path.{sym, ap, ◌∙◌}
use Rattle.std.specs.Prelude.{Ok}
use Rattle.root.proofs.Signs.{not_refused, refused_negative, refused_infinite}
use Rattle.root.proofs.root.Goals as goal

pub returns-then-x : goal.returns-then-x
returns-then-x c = sym (refused_negative c.args.x c.if-x.true)

pub returns-then-is_finite : goal.returns-then-is_finite
returns-then-is_finite c = ap Ok c.square_root.ensures
    ∙ sym (not_refused c.args.x (sym c.is_finite.ensures ∙ c.if-is_finite.true) c.if-x.false)

pub returns : goal.returns
returns c = sym (refused_infinite c.args.x (sym c.is_finite.ensures ∙ c.if-is_finite.false))
