-- `compare_lines::inner::compare_blocks` meets its contract: so many bytes are the same in both blocks. Assumes nothing.
use mathlib.Core.Path.{sym, ap, ◌∙◌}
use lib.ListN.{length-append}
use Prim.Native.Nat.{ℕ}
use Rattle.std.proofs.lemmas.Slice.Zip.{zip_turn, zip_end}
use Rattle.compare_lines.specs.Stages.{used_up}
use Rattle.compare_lines.proofs.Likes.{all_up, both_feeds, bytes_part, bytes_same}
use Rattle.compare_lines.proofs.inner.compare_blocks.Goals as goal

pub returns-then-x-y : goal.returns-then-x-y
returns-then-x-y c =
    let t = zip_turn c.args.a.now c.args.b.now c.loop-x.yielded c.into_iter-x-iterator.result c.loop-x.x-iterator c.next.new.self c.next.result (cc) (cc) c.loop-x.yielded_by (c.in-Some.field-0-0, c.in-Some.field-0-1) c.in-Some.is c.next.ensures.steps in
    sym (c.loop-x.invariant ∙ bytes_part _ _ _ t.0 t.1 (λ e. c.if-x-y.true (t.2 0 ∙ e ∙ sym (t.3 0))))

pub returns-then-x-eq10 : goal.returns-then-x-eq10
returns-then-x-eq10 c =
    let t = zip_turn c.args.a.now c.args.b.now c.loop-x.yielded c.into_iter-x-iterator.result c.loop-x.x-iterator c.next.new.self c.next.result (cc) (cc) c.loop-x.yielded_by (c.in-Some.field-0-0, c.in-Some.field-0-1) c.in-Some.is c.next.ensures.steps in
    sym (c.loop-x.invariant ∙ both_feeds _ _ _ t.0 t.1 (sym (t.2 0) ∙ c.if-x-eq10.true) (sym (t.3 0) ∙ sym c.if-x-y.false ∙ c.if-x-eq10.true))

pub loop-x-preserved : goal.loop-x-preserved
loop-x-preserved c =
    let t = zip_turn c.args.a.now c.args.b.now c.loop-x.yielded c.into_iter-x-iterator.result c.loop-x.x-iterator c.next.new.self c.next.result (cc) (cc) c.loop-x.yielded_by (c.in-Some.field-0-0, c.in-Some.field-0-1) c.in-Some.is c.next.ensures.steps in
    simp length-append
    (c.loop-x.invariant ∙ bytes_same _ _ _ t.0 t.1 (λ e. c.if-x-eq10.false (t.2 0 ∙ e)) (sym (t.2 0) ∙ c.if-x-y.false ∙ t.3 0))

pub returns : goal.returns
returns c =
    let e = zip_end c.args.a.now c.args.b.now c.loop-x.yielded c.into_iter-x-iterator.result c.loop-x.x-iterator c.next.new.self c.next.result (cc) (cc) c.loop-x.yielded_by c.in-None.is c.next.ensures.steps in
    c.used_up.ensures ∙ sym (c.loop-x.invariant ∙ all_up _ _ _ e ∙ ap (λ (i : ℕ). used_up i c.args.a.now c.args.b.now) (e ∙ sym c.min.ensures))
