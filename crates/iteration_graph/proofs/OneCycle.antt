-- There is one cycle that is named.
use Rattle.std.specs.Prelude.{◌≡◌, ◌≢◌, ◌⊎◌, ℕ, zero, suc, ◌+◌, ◌-◌, ◌≤◌, ◌<◌, not, List, length, take, Some, None, slice_index_or, refl}
use Rattle.std.proofs.Common.{◌∙◌, sym, ap, subst, arith, inl, inr}
use Rattle.std.proofs.lemmas.Bool.{cases_lt, cases_order}
use Rattle.std.proofs.lemmas.Grind.{same_number_lists, get_or_default_zero}
use Rattle.std.proofs.Math.Seq.{take-length}
use Rattle.iteration_graph.specs.Graphs.{first_below, first_free, is_among, step, steps, IsPlaced, IsCycle, NamesCycle}
use Rattle.iteration_graph.specs.StepLaws.{GoesRound}
use Rattle.iteration_graph.proofs.StepLaws.{steps_more, steps_add, lowest_within}
use Rattle.iteration_graph.proofs.OrderLaws.{same_placed}

module _ (f : ℕ → ℕ) (start : ℕ) (cycle : List ℕ) (c : IsCycle f start cycle) where
  first : ℕ
  first = slice_index_or cycle 0 start

  first_is : (d : ℕ) → slice_index_or cycle 0 d ≡ slice_index_or cycle 0 start
  first_is d = get_or_default_zero cycle 0 d c.some ∙ sym (get_or_default_zero cycle 0 start c.some)

  -- steps from the first variable go over the cycle from its end
  from_end : (j d : ℕ) → j < length cycle → slice_index_or cycle (length cycle - 1 - j) d ≡ steps f (j + 1) (slice_index_or cycle 0 start)
  from_end zero d h =
      let last : length cycle - 1 ≡ length cycle - 1 - 0 = omega arith in
      ap (λ i. slice_index_or cycle i d) (sym last) ∙ c.closes d ∙ ap f (first_is d) ∙ sym (steps_more f 0 (slice_index_or cycle 0 start))
  from_end (suc j) d h =
      let place = length cycle - 1 - suc j in
      let next : place + 1 ≡ length cycle - 1 - j = omega (arith, h) in
      let before = from_end j d (omega (arith, h)) in
      c.back place d (omega (arith, h, next)) ∙ ap (λ i. f (slice_index_or cycle i d)) next ∙ ap f before
      ∙ sym (steps_more f (j + 1) (slice_index_or cycle 0 start))
      ∙ ap (λ k. steps f k (slice_index_or cycle 0 start)) (omega arith)

  pub at_place : (i d : ℕ) → i < length cycle → slice_index_or cycle i d ≡ steps f (length cycle - i) (slice_index_or cycle 0 start)
  at_place i d h =
      let there : length cycle - 1 - (length cycle - 1 - i) ≡ i = omega (arith, h) in
      let count : length cycle - 1 - i + 1 ≡ length cycle - i = omega (arith, h) in
      ap (λ k. slice_index_or cycle k d) (sym there) ∙ from_end (length cycle - 1 - i) d (omega (arith, h))
      ∙ ap (λ k. steps f k (slice_index_or cycle 0 start)) count

  pub round : GoesRound f (length cycle) (slice_index_or cycle 0 start)
  round = record {
    period = length cycle;
    some = c.some;
    within = omega arith;
    comes_back = sym (at_place 0 start c.some
        ∙ ap (λ k. steps f k (slice_index_or cycle 0 start)) (omega arith));
  }

  -- the first variable is the least that steps from it lead to
  low : (k : ℕ) → k ≤ length cycle → slice_index_or cycle 0 start ≤ steps f k (slice_index_or cycle 0 start)
  low zero h = omega arith
  low (suc k) h =
      let i = length cycle - suc k in
      let count : length cycle - i ≡ suc k = omega (arith, h) in
      let here : i < length cycle = omega (arith, h) in
      let at = at_place i start here ∙ ap (λ n. steps f n (slice_index_or cycle 0 start)) count in
      let least = c.least i start here in
      omega (arith, at, least)

  pub low_always : (k : ℕ) → slice_index_or cycle 0 start ≤ steps f k (slice_index_or cycle 0 start)
  low_always k = lowest_within f (length cycle) (slice_index_or cycle 0 start) (slice_index_or cycle 0 start) k k round low (omega arith)

  -- no fewer steps come back to it
  pub shortest : (k : ℕ) → 0 < k → k < length cycle → steps f k (slice_index_or cycle 0 start) ≢ slice_index_or cycle 0 start
  shortest k some h same =
      let i = length cycle - k in
      let count : length cycle - i ≡ k = omega (arith, h) in
      let here : i < length cycle = omega (arith, some, h) in
      c.once 0 i start (omega (arith, h)) here (sym same
      ∙ sym (at_place i start here ∙ ap (λ n. steps f n (slice_index_or cycle 0 start)) count))

-- from where steps lead on a round, steps lead back
back_again : (f : ℕ → ℕ) (n v e : ℕ) → GoesRound f n v → (j : ℕ) × (steps f j (steps f e v) ≡ v)
back_again f n v zero g = (0, refl)
back_again f n v (suc e) g = by_steps (back_again f n v e g)
  where
    by_steps : (j : ℕ) × (steps f j (steps f e v) ≡ v) → (j : ℕ) × (steps f j (f (steps f e v)) ≡ v)
    by_steps (zero, here) =
        let last : g.period - 1 + 1 ≡ g.period = omega (arith, g.some) in (
          g.period - 1,
          ap (λ w. steps f (g.period - 1) (f w)) here ∙ steps_add f (g.period - 1) 1 v ∙ ap (λ k. steps f k v) last
              ∙ g.comes_back,
        )
    by_steps (suc j, there) =
        let more : j + 1 ≡ suc j = omega arith in
        (j, steps_add f j 1 (steps f e v) ∙ ap (λ k. steps f k (steps f e v)) more ∙ there)

-- two cycles that one start leads to begin with one variable
begin_by : (f : ℕ → ℕ) (start : ℕ) (cycle other : List ℕ) (c : IsCycle f start cycle) (d : IsCycle f start other)
    → c.reached.0 ≤ d.reached.0 → slice_index_or cycle 0 start ≡ slice_index_or other 0 start
begin_by f start cycle other c d order =
    let a = slice_index_or cycle 0 start in
    let b = slice_index_or other 0 start in
    let e = d.reached.0 - c.reached.0 in
    let whole : e + c.reached.0 ≡ d.reached.0 = omega (arith, order) in
    let on : steps f e a ≡ b = ap (steps f e) c.reached.1 ∙ steps_add f e c.reached.0 start ∙ ap (λ k. steps f k start) whole
    ∙ sym d.reached.1 in
    let below = low_always f start cycle c e in
    let back = back_again f (length cycle) a e (round f start cycle c) in
    let again : steps f back.0 b ≡ a = ap (steps f back.0) (sym on) ∙ back.1 in
    let above = low_always f start other d back.0 in
    omega (arith, below, on, above, again)

one_beginning : (f : ℕ → ℕ) (start : ℕ) (cycle other : List ℕ) → IsCycle f start cycle → IsCycle f start other
    → slice_index_or cycle 0 start ≡ slice_index_or other 0 start
one_beginning f start cycle other c d = by_order (cases_lt d.reached.0 c.reached.0)
  where
    by_order : (d.reached.0 < c.reached.0) ⊎ (c.reached.0 ≤ d.reached.0) → slice_index_or cycle 0 start ≡ slice_index_or other 0 start
    by_order (inl later) = sym (begin_by f start other cycle d c (omega (arith, later)))
    by_order (inr before) = begin_by f start cycle other c d before

no_longer : (f : ℕ → ℕ) (start : ℕ) (cycle other : List ℕ) → IsCycle f start cycle → IsCycle f start other → length cycle < length other → ⊥
unfolding round
no_longer f start cycle other c d longer =
    let same = one_beginning f start cycle other c d in
    shortest f start other d (length cycle) c.some longer (ap (steps f (length cycle)) (sym same) ∙ (round f start cycle c).comes_back
    ∙ same)

pub same_cycle : (f : ℕ → ℕ) (start : ℕ) (cycle other : List ℕ) → IsCycle f start cycle → IsCycle f start other → cycle ≡ other
same_cycle f start cycle other c d = by_length (cases_order (length cycle) (length other))
  where
    by_length : (length cycle ≡ length other) ⊎ ((length cycle < length other) ⊎ (length other < length cycle)) → cycle ≡ other
    by_length (inl long) =
        same_number_lists cycle other long (λ k h.
        at_place f start cycle c k 0 h
        ∙ ap (λ n. steps f (n - k) (slice_index_or cycle 0 start)) long
        ∙ ap (steps f (length other - k)) (one_beginning f start cycle other c d)
        ∙ sym (at_place f start other d k 0 (omega (arith, h, long))))
    by_length (inr (inl longer)) = absurd (no_longer f start cycle other c d longer)
    by_length (inr (inr shorter)) = absurd (no_longer f start other cycle d c shorter)

-- where none is free, what is placed is one list
none_more : (n : ℕ) (edges : List (ℕ × ℕ)) (placed others : List ℕ) → IsPlaced n edges placed → IsPlaced n edges others
    → first_free n edges placed ≡ None → length placed < length others → ⊥
none_more n edges placed others is be stuck more =
    let all = same_placed n edges placed others (length placed) is be (omega arith) (omega (arith, more)) in
    let next = be (length placed) 0 more in
    none_is_some (sym stuck ∙ ap (first_free n edges) (sym (take-length placed) ∙ all) ∙ next)
  where
    none_is_some : None ≡ Some (slice_index_or others (length placed) 0) → ⊥
    none_is_some h = cc

same_stuck : (n : ℕ) (edges : List (ℕ × ℕ)) (placed others : List ℕ) → IsPlaced n edges placed → IsPlaced n edges others
    → first_free n edges placed ≡ None → first_free n edges others ≡ None → placed ≡ others
same_stuck n edges placed others is be stuck blocked = by_length (cases_order (length placed) (length others))
  where
    by_length : (length placed ≡ length others) ⊎ ((length placed < length others) ⊎ (length others < length placed)) → placed ≡ others
    by_length (inl long) = sym (take-length placed)
        ∙ same_placed n edges placed others (length placed) is be (omega arith) (omega (arith, long)) ∙ ap (λ k. take k others) long
        ∙ take-length others
    by_length (inr (inl more)) = absurd (none_more n edges placed others is be stuck more)
    by_length (inr (inr fewer)) = absurd (none_more n edges others placed be is blocked fewer)

pub one_cycle : (n : ℕ) (edges : List (ℕ × ℕ)) (cycle other : List ℕ) → NamesCycle n edges cycle → NamesCycle n edges other → cycle ≡ other
one_cycle n edges cycle other c d =
    let placed : d.placed ≡ c.placed = same_stuck n edges d.placed c.placed d.are_placed c.are_placed d.stuck c.stuck in
    let start : d.start ≡ c.start = some_same (sym d.first_left ∙ ap (λ ps. first_below n (λ v. not (is_among ps v))) placed
    ∙ c.first_left) in
    same_cycle (step n edges c.placed) c.start cycle other c.cycle_is
    (subst (λ ps. IsCycle (step n edges ps) c.start other) placed
    (subst (λ s. IsCycle (step n edges d.placed) s other) start d.cycle_is))
  where
    some_same : {x y : ℕ} → Some x ≡ Some y → x ≡ y
    some_same h = cc
