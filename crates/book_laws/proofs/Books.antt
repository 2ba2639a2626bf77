-- What a fuller book says about a body. Assumes nothing.
use mathlib.Core.Bool.{Bool, true, false}
use mathlib.Core.List.{List, ◌∷◌}
use mathlib.Core.Logic.{inl, inr}
use mathlib.Core.Path.{◌≡◌, refl, sym, ap, ◌∙◌}
use Prim.Native.Nat.{ℕ, zero, suc, ◌+◌, ◌*◌, ◌<◌}
use native.Mathlib.Omega.{arith}
use lib.Ieee.{Float, binary64, of_bits}
use Rattle.base.specs.declared.Refusal.{Refusal}
use Rattle.std.specs.Prelude.{Err, Option, Some, None}
use Rattle.base.specs.Choice.{if◌then◌otherwise◌}
use Rattle.base.specs.Limits.{is_moment}
use Rattle.book.specs.Contents.{size_of, coefficient}
use Rattle.book.specs.Passes.{passes}
use Rattle.book.specs.Lookup.{lookup}
use Rattle.book.specs.Position.{body_at, position_answer}
use Rattle.book.proofs.Passing.{passing}
use Rattle.book.proofs.Found.{Serving, serving, found, looked_up_lem}
use Rattle.book.proofs.BodyAt.{no_cover, same_content}
use Rattle.book_series.specs.Series.{listed, block_of, content_of}
use Rattle.book_holds.specs.Holds.{Copied}
use Rattle.book_laws.specs.Fuller.{HoldsAll, Unless}

-- ---- a copied entry says the same

same_list : (f g : ℕ → Float) (from n : ℕ) → ((k : ℕ) → k < from + n → f k ≡ g k) → listed f from n ≡ listed g from n
same_list f g from zero e = refl
same_list f g from (suc n) e = λ i. e from (omega arith) i ∷ same_list f g (suc from) n (λ k h. e k (omega arith)) i

module _ (b c : List ℕ) (i j : ℕ) (copy : Copied b c i j) where
  same_float : (k : ℕ) → k < 3 * size_of b i → coefficient b i k ≡ coefficient c j k
  same_float k h = sym (ap (of_bits binary64) (copy.bits k h))

  same_block : block_of (coefficient b i) (size_of b i) ≡ block_of (coefficient c j) (size_of c j)
  same_block =
      let n = size_of b i in
      (λ t.
      record {
        xs = same_list (coefficient b i) (coefficient c j) 0 n (λ k h. same_float k (omega arith)) t;
        ys = same_list (coefficient b i) (coefficient c j) n n (λ k h. same_float k (omega arith)) t;
        zs = same_list (coefficient b i) (coefficient c j) (2 * n) n (λ k h. same_float k (omega arith)) t;
      })
      ∙ ap (block_of (coefficient c j)) (sym copy.size)

  pub copied_content : content_of b i ≡ content_of c j
  copied_content = λ t. record { start = sym copy.start t; span = sym copy.span t; block = same_block t }

-- ---- the lookup

module _ (b c : List ℕ) (holds : HoldsAll b c) (pass : passes c ≡ true) where
  pub record AlsoFound (body t i : ℕ) : Type 0 where
    pub entry : ℕ
    pub is : lookup c body t ≡ Some entry
    pub content : content_of b i ≡ content_of c entry

  pub also_found : (body t i : ℕ) → lookup b body t ≡ Some i → AlsoFound body t i
  also_found body t i e =
      let m = looked_up_lem b body t i e in
      let s = serving b body t i m.meets in
      let h = holds i m.below in
      let copy = h.2 in
      let there : Serving c body t h.0 =
      record {
        own = copy.body ∙ s.own;
        from = let f = s.from in let e = copy.start in omega arith;
        until = let u = s.until in let e = copy.start in let l = copy.span in omega arith;
      } in
      record { entry = h.0; is = found c body t (passing c pass) h.0 h.1 there; content = copied_content b c i h.0 copy }

  -- the position of a body, and its velocity
  pub body_fuller : (body t : ℕ) → Unless (Err Refusal.Cover) (body_at b body t) (body_at c body t)
  body_fuller body t = go (lookup b body t) refl
    where
      go : (l : Option ℕ) → lookup b body t ≡ l → Unless (Err Refusal.Cover) (body_at b body t) (body_at c body t)
      go None e = inl (no_cover b body t e)
      go (Some i) e = let a = also_found body t i e in inr (same_content b c body t i a.entry e a.is a.content)

  pub position_fuller : passes b ≡ true → (body t : ℕ) → Unless (Err Refusal.Cover) (position_answer b body t) (position_answer c body t)
  unfolding position_answer
  position_fuller first body t = rw (first, pass) (go (is_moment t))
    where
      go : (inside : Bool)
          → Unless (Err Refusal.Cover) (if inside then body_at b body t otherwise Err Refusal.Moment) (if inside then body_at c body t otherwise Err Refusal.Moment)
      go true = body_fuller body t
      go false = inr refl
