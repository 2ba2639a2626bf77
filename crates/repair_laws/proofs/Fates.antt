-- "Nothing else is dropped": every entry looked at has a fate, and each fate has its own reason. Assumes nothing.
use Prim
use Prim.Native.Nat.{ℕ, zero, suc, ◌<◌, ◌≤◌}
use mathlib.Core.Bool.{Bool, true, false}
use mathlib.Core.List.{List, [], ◌∷◌, ◌++◌}
use mathlib.Core.Logic.{inl, inr, ⊎_elim}
use mathlib.Core.Path.{◌≡◌, refl, sym, ap, ◌∙◌}
use native.Mathlib.Nat.{eq-or-lt_of_le, le_of_suc-le-suc, not-suc-le-zero}
use native.Mathlib.Omega.{arith}
use lib.ListN.{length, get_or, length-set, length-append, get_or-append}
use lib.Seq.{get_or_at, get_or-set_same, get_or-set_other}
use borrow.Author.Tests.{eqb-true, eq-eqb, ne_eqb}
use Rattle.base.specs.Choice.{if◌then◌otherwise◌, ◌=?◌}
use Rattle.book.specs.Passes.{ascends}
use Rattle.repair_sort.specs.Fates.{goes_on, overlapping, no_room}
use Rattle.repair_sort.specs.Reasons.{looked_at, first_reason, reasons}
use Rattle.repair_sort.specs.Ordered.{insert, ordered}
use Rattle.repair_choose.specs.Forward.{Sofar, overlaps_last_of_body, has_room, keep, let_go, settle, forward}
use Rattle.repair_book.specs.Repaired.{repaired, kept_of}
use Rattle.repair_book.proofs.Chosen.{kept_of_lem}
use Rattle.repair_sort.proofs.Either.{either_way}
use Rattle.repair_choose.proofs.Settled.{kept_free}
use Rattle.repair_laws.specs.Laws.{NotIn, Once, fate_after, Settled}

module _ (b : List ℕ) where
  -- ---- the order has each entry that goes on exactly once, and no other
  not_inserted : (i n : ℕ) (l : List ℕ) → (i ≡ n → ⊥) → NotIn i l → NotIn i (insert b n l)
  not_inserted i n [] d a = (d, tt)
  not_inserted i n (j ∷ js) d a = either_way (NotIn i) (ascends b n j) (λ h. (d, a)) (λ h. (a.0, not_inserted i n js d a.1))

  still_once : (i n : ℕ) (l : List ℕ) → (i ≡ n → ⊥) → Once i l → Once i (insert b n l)
  still_once i n [] d a = absurd a
  still_once i n (j ∷ js) d a =
      either_way (Once i) (ascends b n j)
      (λ h. inr (d, a))
      (λ h. ⊎_elim (λ e. inl (e.0, not_inserted i n js d e.1)) (λ e. inr (e.0, still_once i n js d e.1)) a)

  inserted_once : (n : ℕ) (l : List ℕ) → NotIn n l → Once n (insert b n l)
  inserted_once n [] a = inl (refl, tt)
  inserted_once n (j ∷ js) a = either_way (Once n) (ascends b n j) (λ h. inl (refl, a)) (λ h. inr (a.0, inserted_once n js a.1))

  not_yet : (n i : ℕ) → n ≤ i → NotIn i (ordered b n)
  not_yet zero i h = tt
  not_yet (suc n) i h =
      either_way (NotIn i) (first_reason b n =? goes_on)
      (λ e. not_inserted i n (ordered b n) (λ q. omega arith) (not_yet n i (omega arith)))
      (λ e. not_yet n i (omega arith))

  pub never : (n i : ℕ) → (first_reason b i ≡ goes_on → ⊥) → NotIn i (ordered b n)
  never zero i h = tt
  never (suc n) i h =
      either_way (NotIn i) (first_reason b n =? goes_on)
      (λ e. not_inserted i n (ordered b n) (λ q. h (rw q (eqb-true (first_reason b n) goes_on e))) (never n i h))
      (λ e. never n i h)

  pub once : (n i : ℕ) → i < n → first_reason b i ≡ goes_on → Once i (ordered b n)
  once zero i l h = absurd (not-suc-le-zero l)
  once (suc n) i l h =
      ⊎_elim
      (λ e. rw (eq-eqb (first_reason b n) goes_on (rw e at h)) (rw e (inserted_once n (ordered b n) (not_yet n n (omega arith)))))
      (λ m. either_way (Once i) (first_reason b n =? goes_on) (λ e. still_once i n (ordered b n) (λ q. omega arith) (once n i m h)) (λ e. once n i m h))
      (eq-or-lt_of_le (le_of_suc-le-suc l))

  -- ---- going forward, another entry's fate stays
  module _ (room : ℕ) where
    settle_length : (s : Sofar) (j : ℕ) → length (settle b room s j).fates ≡ length s.fates
    unfolding settle
    settle_length s j =
        either_way (λ (r : Sofar). length r.fates ≡ length s.fates) (overlaps_last_of_body b s.kept j)
        (λ h. length-set s.fates j overlapping)
        (λ h. either_way (λ (r : Sofar). length r.fates ≡ length s.fates) (has_room b room s.kept j) (λ k. length-set s.fates j (length s.kept)) (λ k. length-set s.fates j no_room))

    settle_other : (s : Sofar) (i j : ℕ) → (i ≡ j → ⊥) → get_or (settle b room s j).fates i 0 ≡ get_or s.fates i 0
    unfolding settle
    settle_other s i j d =
        either_way (λ (r : Sofar). get_or r.fates i 0 ≡ get_or s.fates i 0) (overlaps_last_of_body b s.kept j)
        (λ h. get_or-set_other s.fates j i overlapping 0 d)
        (λ h. either_way (λ (r : Sofar). get_or r.fates i 0 ≡ get_or s.fates i 0) (has_room b room s.kept j)
        (λ k. get_or-set_other s.fates j i (length s.kept) 0 d) (λ k. get_or-set_other s.fates j i no_room 0 d))

    forward_other : (s : Sofar) (l : List ℕ) (i : ℕ) → NotIn i l → get_or (forward b room s l).fates i 0 ≡ get_or s.fates i 0
    forward_other s [] i a = refl
    forward_other s (j ∷ js) i a = forward_other (settle b room s j) js i a.1 ∙ settle_other s i j a.0

    -- the entry itself gets one of three fates, each for its reason
    settle_own : (s : Sofar) (i : ℕ) → i < length s.fates → get_or (settle b room s i).fates i 0 ≡ fate_after b room s.kept i
    unfolding settle
    settle_own s i h = by (overlaps_last_of_body b s.kept i) (has_room b room s.kept i)
      where
        by : (x y : Bool) → get_or (if x then let_go overlapping s i otherwise if y then keep s i otherwise let_go no_room s i).fates i 0 ≡ (if x then overlapping otherwise if y then length s.kept otherwise no_room)
        by true y = get_or-set_same s.fates i overlapping 0 h
        by false true = get_or-set_same s.fates i (length s.kept) 0 h
        by false false = get_or-set_same s.fates i no_room 0 h

    -- the place of entry i in a list, and its fate there
    record Met (s : Sofar) (l : List ℕ) (i fate : ℕ) : Type 0 where
      before : List ℕ
      behind : List ℕ
      split : l ≡ before ++ i ∷ behind
      fated : fate ≡ fate_after b room (forward b room s before).kept i

    forward_own : (s : Sofar) (l : List ℕ) (i : ℕ) → i < length s.fates → Once i l → Met s l i (get_or (forward b room s l).fates i 0)
    forward_own s [] i h a = absurd a
    forward_own s (j ∷ js) i h a =
        ⊎_elim
        (λ e. record { before = []; behind = js; split = ap (λ (x : ℕ). x ∷ js) (sym e.0); fated = forward_other (settle b room s j) js i e.1 ∙ rw (← e.0) (settle_own s i h) })
        (λ e.
        let m = forward_own (settle b room s j) js i (rw (settle_length s j) h) e.1 in
        record { before = j ∷ m.before; behind = m.behind; split = ap (λ (x : List ℕ). j ∷ x) m.split; fated = m.fated })
        a

    -- ---- the whole: an entry with a first reason gets that as its fate, any other is settled in the forward pass
    reasons_length : (n : ℕ) (fates : List ℕ) → length (reasons b n fates) ≡ length fates
    reasons_length zero fates = refl
    reasons_length (suc n) fates =
        either_way (λ (l : List ℕ). length l ≡ length fates) (first_reason b n =? goes_on)
        (λ e. reasons_length n fates)
        (λ e. length-set (reasons b n fates) n (first_reason b n) ∙ reasons_length n fates)

    reason_told : (n : ℕ) (fates : List ℕ) (i : ℕ) → i < n → i < length fates → (first_reason b i ≡ goes_on → ⊥) → get_or (reasons b n fates) i 0 ≡ first_reason b i
    reason_told zero fates i l h d = absurd (not-suc-le-zero l)
    reason_told (suc n) fates i l h d =
        ⊎_elim
        (λ e. rw (← e, ne_eqb (first_reason b i) goes_on d) (get_or-set_same (reasons b i fates) i (first_reason b i) 0 (rw (reasons_length i fates) h)))
        (λ m.
        either_way (λ (x : List ℕ). get_or x i 0 ≡ first_reason b i) (first_reason b n =? goes_on)
        (λ e. reason_told n fates i m h d)
        (λ e. get_or-set_other (reasons b n fates) n i (first_reason b n) 0 (λ q. omega arith) ∙ reason_told n fates i m h d))
        (eq-or-lt_of_le (le_of_suc-le-suc l))

    pub dropped_at_sight : (fates : List ℕ) (i : ℕ) → i < looked_at b → i < length fates → (first_reason b i ≡ goes_on → ⊥) → get_or (repaired b room fates).fates i 0 ≡ first_reason b i
    unfolding repaired
    dropped_at_sight fates i l h d = forward_other _ (ordered b (looked_at b)) i (never (looked_at b) i d) ∙ reason_told (looked_at b) fates i l h d

    pub settled_going_forward : (fates : List ℕ) (i : ℕ) → i < looked_at b → i < length fates → first_reason b i ≡ goes_on → Settled b room i (get_or (repaired b room fates).fates i 0)
    unfolding repaired
    settled_going_forward fates i l h e =
        let s : Sofar = record { kept = []; fates = reasons b (looked_at b) fates } in
        let m = forward_own s (ordered b (looked_at b)) i (rw (reasons_length (looked_at b) fates) h) (once (looked_at b) i l e) in
        let among = kept_free b room s (record { kept = []; fates = [] }) m.before refl in
        record {
          before = m.before;
          behind = m.behind;
          order = m.split;
          fated = m.fated ∙ ap (λ (kept : List ℕ). fate_after b room kept i) among;
        }

    -- ---- an entry whose fate is a number is the entry of that number in the new book
    -- in the forward pass, what is kept stays in its place
    record Stays (l m : List ℕ) (k : ℕ) : Type 0 where
      inside : k < length m
      same : get_or m k 0 ≡ get_or l k 0

    settle_stays : (s : Sofar) (i k : ℕ) → k < length s.kept → Stays s.kept (settle b room s i).kept k
    unfolding settle
    settle_stays s i k h =
        let as_it_was : Stays s.kept s.kept k = record { inside = h; same = refl } in
        either_way (λ (r : Sofar). Stays s.kept r.kept k) (overlaps_last_of_body b s.kept i)
        (λ e. as_it_was)
        (λ e.
        either_way (λ (r : Sofar). Stays s.kept r.kept k) (has_room b room s.kept i)
        (λ f. record { inside = omega (arith, length-append s.kept (i ∷ [])); same = get_or-append s.kept (i ∷ []) 0 k h })
        (λ f. as_it_was))

    forward_stays : (s : Sofar) (l : List ℕ) (k : ℕ) → k < length s.kept → Stays s.kept (forward b room s l).kept k
    forward_stays s [] k h = record { inside = h; same = refl }
    forward_stays s (j ∷ js) k h =
        let one = settle_stays s j k h in
        let rest = forward_stays (settle b room s j) js k one.inside in
        record { inside = rest.inside; same = rest.same ∙ one.same }

    forward_append : (s : Sofar) (l m : List ℕ) → forward b room s (l ++ m) ≡ forward b room (forward b room s l) m
    forward_append s [] m = refl
    forward_append s (j ∷ js) m = forward_append (settle b room s j) js m

    -- a fate below 2,559 is the next number, and the entry is kept
    numbered_next : (s : Sofar) (i : ℕ) → fate_after b room s.kept i < 2559 → ((settle b room s i).kept ≡ s.kept ++ (i ∷ [])) × (fate_after b room s.kept i ≡ length s.kept)
    unfolding settle
    numbered_next s i = by (overlaps_last_of_body b s.kept i) (has_room b room s.kept i)
      where
        by :
            (x y : Bool) → (if x then overlapping otherwise if y then length s.kept otherwise no_room) < 2559
            → ((if x then let_go overlapping s i otherwise if y then keep s i otherwise let_go no_room s i).kept ≡ s.kept ++ (i ∷ []))
            × ((if x then overlapping otherwise if y then length s.kept otherwise no_room) ≡ length s.kept)
        by true y h = absurd (omega arith)
        by false true h = (refl, refl)
        by false false h = absurd (omega arith)

    numbered :
        (fates : List ℕ) (i : ℕ) → i < looked_at b → i < length fates → first_reason b i ≡ goes_on → get_or (repaired b room fates).fates i 0 < 2559
        → (get_or (repaired b room fates).fates i 0 < length (repaired b room fates).kept) × (get_or (repaired b room fates).kept (get_or (repaired b room fates).fates i 0) 0 ≡ i)
    unfolding repaired
    numbered fates i l h e below =
        let s : Sofar = record { kept = []; fates = reasons b (looked_at b) fates } in
        let m = forward_own s (ordered b (looked_at b)) i (rw (reasons_length (looked_at b) fates) h) (once (looked_at b) i l e) in
        let t = forward b room s m.before in
        let n = numbered_next t i (rw (← m.fated) below) in
        let fate : get_or (forward b room s (ordered b (looked_at b))).fates i 0 ≡ length t.kept = m.fated ∙ n.1 in
        let whole : (forward b room s (ordered b (looked_at b))).kept ≡ (forward b room (settle b room t i) m.behind).kept =
        ap (λ (x : List ℕ). (forward b room s x).kept) m.split ∙ ap (λ (r : Sofar). r.kept) (forward_append s m.before (i ∷ m.behind))
        in
        let here : length t.kept < length (settle b room t i).kept = rw n.0 (omega (arith, length-append t.kept (i ∷ []))) in
        let stays = forward_stays (settle b room t i) m.behind (length t.kept) here in
        rw (fate, whole) (stays.inside, stays.same ∙ ap (λ (x : List ℕ). get_or x (length t.kept) 0) n.0 ∙ get_or_at t.kept i [] 0 (length t.kept) refl)

    pub told_its_number :
        (fates : List ℕ) (i : ℕ) → i < looked_at b → i < length fates → first_reason b i ≡ goes_on → get_or (repaired b room fates).fates i 0 < 2559
        → (get_or (repaired b room fates).fates i 0 < length (kept_of b room)) × (get_or (kept_of b room) (get_or (repaired b room fates).fates i 0) 0 ≡ i)
    told_its_number fates i l h e below = rw (← kept_of_lem b room fates) (numbered fates i l h e below)
