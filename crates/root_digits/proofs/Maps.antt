-- A list that has f of each element of another, place by place, is `map f` of it. Assumes nothing.
use Rattle.std.proofs.Common.{◌≡◌, ℕ, ◌<◌, List, length, get_or, set, get_or-set_same, get_or-set_other, below_more, map, ◌+◌, ◌≢◌, sym, ◌∙◌, arith}
use Rattle.std.proofs.lemmas.List.{ext_get_or, get_or-map, length-map}

pub map_by : {X Y : Type 0} (f : X → Y) (xs : List X) (ys : List Y) (d : X) (e : Y) → length ys ≡ length xs → ((k : ℕ) → k < length xs → get_or ys k e ≡ f (get_or xs k d)) → ys ≡ map f xs
map_by f xs ys d e l h = ext_get_or e ys (map f xs) (l ∙ sym (length-map xs f)) (λ k b. let c : k < length xs = omega arith in h k c ∙ sym (get_or-map f xs k d e c))

-- what holds of the elements below i of two lists holds of one more, where x and y are written at i
pub both_more : {X Y : Type 0} (P : ℕ → X → Y → Type 0) (xs : List X) (ys : List Y) (i : ℕ) (x : X) (y : Y) → i < length xs → i < length ys →
    ((k : ℕ) → k < i → (d : X) (e : Y) → P k (get_or xs k d) (get_or ys k e)) → P i x y → (k : ℕ) → k < i + 1 → (d : X) (e : Y) → P k (get_or (set xs i x) k d) (get_or (set ys i y) k e)
both_more {X} {Y} P xs ys i x y b c h p =
    below_more (λ k. (d : X) (e : Y) → P k (get_or (set xs i x) k d) (get_or (set ys i y) k e)) i
    (λ k l. let n : k ≢ i = omega arith in λ d e. rw (get_or-set_other xs i k x d n, get_or-set_other ys i k y e n) (h k l d e))
    (λ d e. rw (get_or-set_same xs i x d b, get_or-set_same ys i y e c) p)

-- one more element of a map is written
pub map_more_by : {X Y : Type 0} (f : X → Y) (xs : List X) (ys : List Y) (i : ℕ) (y : Y) (d : X) (e : Y) → i < length ys → ((k : ℕ) → k < i → get_or ys k e ≡ f (get_or xs k d)) →
    y ≡ f (get_or xs i d) → (k : ℕ) → k < i + 1 → get_or (set ys i y) k e ≡ f (get_or xs k d)
map_more_by f xs ys i y d e b h r =
    below_more (λ k. get_or (set ys i y) k e ≡ f (get_or xs k d)) i (λ k l. let n : k ≢ i = omega arith in rw get_or-set_other (h k l)) (rw get_or-set_same r)
