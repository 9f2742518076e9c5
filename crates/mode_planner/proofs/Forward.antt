-- Edges that lead from earlier variables to later ones.
use Rattle.std.specs.Prelude.{◌≡◌, ◌≢◌, ◌⊎◌, ℕ, zero, suc, ◌+◌, ◌-◌, ◌≤◌, ◌<◌, ◌==◌, ◌||◌, nat_lt, Bool, true, false, if◌then◌else◌}
use Rattle.std.specs.Prelude.{List, [], ◌∷◌, Option, Some, None, filter_map, map, length, slice_index, slice_index_or, refl}
use Rattle.std.specs.List.{list_any, list_all, cons_option}
use Rattle.std.proofs.Common.{◌∙◌, sym, ap, subst, arith, inl, inr}
use Rattle.std.proofs.lemmas.Bool.Decides.{nat_tests}
use Rattle.std.proofs.lemmas.Bool.{cases_lt}
use Rattle.std.proofs.lemmas.List.Quantifiers.{position-Some}
use Rattle.level_core.specs.Kinds.{properties}
use Rattle.format_spec.specs.declared.format.FormatLevel.{FormatLevel}
use Rattle.format_spec.specs.Formats.{IsFormat, modes_of}
use Rattle.index_notation.specs.Statement.{IsDistinct, numbers_from}
use Rattle.iteration_graph.specs.Edges.{access_edges, by_level, neighbours}
use Rattle.iteration_graph.specs.Graphs.{NamesCycle, has_edge, leads}
use Rattle.iteration_graph.proofs.OrderLaws.{cycle_edges, cycle_closes}
use Rattle.lists.specs.Each.{Each}
use Rattle.lists.proofs.Each.{each_get}
use Rattle.std.proofs.lemmas.Option.{slice_get-get_or}
use Rattle.lists.proofs.Tests.{both_true, same_number}
use Rattle.mode_planner.specs.Plans.{LeadsForward, is_back, mode_of, modes_in_order, planned_edges}

-- ---- no cycle
one_of_two : (a b : Bool) → (a || b) ≡ true → (a ≡ true) ⊎ (b ≡ true)
one_of_two true b h = inl refl
one_of_two false b h = inr h

edge_forward : (edges : List (ℕ × ℕ)) (u v : ℕ) → Each LeadsForward edges → has_edge edges u v ≡ true → u < v
edge_forward [] u v each h = absurd cc
edge_forward (e ∷ edges) u v each h = elim (one_of_two (leads u v e) (has_edge edges u v) h) [
  | inl here ↦ (
      let t = both_true (e.0 == u) (e.1 == v) here in
      let from = same_number e.0 u t.0 in
      let to = same_number e.1 v t.1 in
      let first = each.0 in
      omega (arith, from, to, first))
  | inr later ↦ edge_forward edges u v each.1 later
]

module _ (n : ℕ) (edges : List (ℕ × ℕ)) (cycle : List ℕ) (each : Each LeadsForward edges) (names : NamesCycle n edges cycle) where
  rises : (k : ℕ) → k < length cycle → slice_index_or cycle 0 0 ≤ slice_index_or cycle k 0
  rises zero h = omega arith
  rises (suc k) h =
      let more : k + 1 ≡ suc k = omega arith in
      let inside : k + 1 < length cycle = omega (arith, h) in
      let before : k < length cycle = omega (arith, h) in
      let next = edge_forward edges (slice_index_or cycle k 0) (slice_index_or cycle (k + 1) 0) each
      (cycle_edges n edges cycle k 0 names inside) in
      let here = rises k before in
      let same : slice_index_or cycle (k + 1) 0 ≡ slice_index_or cycle (suc k) 0 = ap (λ i. slice_index_or cycle i 0) more in
      omega (arith, next, here, same)

  pub no_cycle' : ⊥
  no_cycle' =
      let some = names.cycle_is.some in
      let last : length cycle - 1 < length cycle = omega (arith, some) in
      let round = edge_forward edges (slice_index_or cycle (length cycle - 1) 0) (slice_index_or cycle 0 0) each
      (cycle_closes n edges cycle 0 names) in
      let rise = rises (length cycle - 1) last in
      absurd (omega (arith, round, rise))

pub no_cycle : (n : ℕ) (edges : List (ℕ × ℕ)) (cycle : List ℕ) → Each LeadsForward edges → NamesCycle n edges cycle → ⊥
no_cycle n edges cycle each names = no_cycle' n edges cycle each names

-- ---- an access that isn't named
each_apart : (vars modes : List ℕ)
    → ((k : ℕ) → suc k < length modes → slice_index vars (slice_index_or modes k 0) ≢ slice_index vars (slice_index_or modes (suc k) 0))
    → Each (λ (e : ℕ × ℕ). e.0 ≢ e.1) (neighbours (map (slice_index vars) modes))
each_apart vars [] h = tt
each_apart vars (m ∷ []) h = tt
each_apart vars (m ∷ p ∷ modes) h =
    (h 0 (omega arith), each_apart vars (p ∷ modes) (λ k g. h (suc k) (omega (arith, g))))

is_less : (a b : ℕ) → a < b → nat_lt a b ≡ true
is_less a b h = grind (arith, nat_tests, h)

both_not : (b : Bool) → b ≡ true → b ≡ false → ⊥
both_not true h g = cc
both_not false h g = cc

not_back : (edges : List (ℕ × ℕ)) → list_any is_back edges ≡ false → Each (λ (e : ℕ × ℕ). e.0 ≢ e.1) edges → Each LeadsForward edges
not_back [] h each = tt
not_back (e ∷ edges) h each =
    let t = neither (is_back e) (list_any is_back edges) h in
    (first (e.0) (e.1) t.0 each.0, not_back edges t.1 each.1)
  where
    neither : (a b : Bool) → (a || b) ≡ false → (a ≡ false) × (b ≡ false)
    neither true b h = absurd cc
    neither false b h = (refl, h)

    first : (u v : ℕ) → nat_lt v u ≡ false → u ≢ v → u < v
    first u v h apart = elim (cases_lt u v) [
      | inl less ↦ less
      | inr more ↦ elim (cases_lt v u) [
        | inl back ↦ absurd (both_not (nat_lt v u) (is_less v u back) h)
        | inr same ↦ absurd (apart (omega (arith, more, same)))
      ]
    ]

distinct_places : (vars : List ℕ) (i j : ℕ) → IsDistinct vars → i < j → j < length vars → slice_index vars i ≢ slice_index vars j
distinct_places [] i j distinct less inside = absurd (omega (arith, inside))
distinct_places (x ∷ xs) i zero distinct less inside = absurd (omega (arith, less))
distinct_places (x ∷ xs) zero (suc j) distinct less inside =
    each_get (λ y. x ≢ y) xs j (slice_index xs j) distinct.0 (slice_get-get_or xs j 0 (omega (arith, inside)))
distinct_places (x ∷ xs) (suc i) (suc j) distinct less inside =
    distinct_places xs i j distinct.1 (omega (arith, less)) (omega (arith, inside))

-- variables at two modes that aren't one
apart_at : (vars : List ℕ) (m p : ℕ) → IsDistinct vars → m < length vars → p < length vars → m ≢ p → slice_index vars m ≢ slice_index vars p
apart_at vars m p distinct first second apart same = elim (cases_lt m p) [
  | inl less ↦ distinct_places vars m p distinct less second same
  | inr more ↦ elim (cases_lt p m) [
    | inl less ↦ distinct_places vars p m distinct less first (sym same)
    | inr most ↦ apart (omega (arith, more, most))
  ]
]

kept_forward : (levels : List FormatLevel) (vars : List ℕ) → IsFormat levels → length levels ≡ length vars → IsDistinct vars
    → list_any is_back (access_edges levels vars) ≡ false → Each LeadsForward (access_edges levels vars)
kept_forward levels vars format count distinct h = by_test (list_all (λ level. (properties level.letter).full) levels) refl
  where
    neighbouring : (k : ℕ) → suc k < length (modes_of levels)
        → slice_index vars (slice_index_or (modes_of levels) k 0) ≢ slice_index vars (slice_index_or (modes_of levels) (suc k) 0)
    neighbouring k inside =
        let some = format.order.count in
        let first = format.order.below k 0 (omega (arith, inside, some)) in
        let second = format.order.below (suc k) 0 inside in
        apart_at vars (slice_index_or (modes_of levels) k 0) (slice_index_or (modes_of levels) (suc k) 0) distinct
        (omega (arith, first, count)) (omega (arith, second, count))
        (format.order.once k (suc k) 0 (omega arith) inside)

    by_test : (t : Bool) → list_all (λ level. (properties level.letter).full) levels ≡ t → Each LeadsForward (access_edges levels vars)
    by_test true is =
        subst (Each LeadsForward) (sym (ap (λ t. if t then [] else neighbours (by_level levels vars)) is)) tt
    by_test false is =
        let all : access_edges levels vars ≡ neighbours (by_level levels vars) =
        ap (λ t. if t then [] else neighbours (by_level levels vars)) is in
        subst (Each LeadsForward) (sym all) (not_back (neighbours (by_level levels vars)) (sym (ap (list_any is_back) all) ∙ h)
        (each_apart vars (modes_of levels) neighbouring))

-- ---- one that is named: its variables rise
cons_forward : (a : ℕ) (xs : List ℕ) → Each (λ x. a < x) xs → Each LeadsForward (neighbours xs) → Each LeadsForward (neighbours (a ∷ xs))
cons_forward a [] above rest = tt
cons_forward a (x ∷ xs) above rest = (above.0, rest)

each_weaker : (P Q : ℕ → Type 0) (xs : List ℕ) → ((x : ℕ) → P x → Q x) → Each P xs → Each Q xs
each_weaker P Q [] f h = tt
each_weaker P Q (x ∷ xs) f h = (f x h.0, each_weaker P Q xs f h.1)

stands : (vars : List ℕ) (v m : ℕ) → mode_of vars v ≡ Some m → slice_index vars m ≡ v
stands vars v m is = let found = position-Some (λ other. other == v) vars m 0 is in same_number (slice_index_or vars m 0) v found.1

module _ (vars : List ℕ) where
  abbrev row : ℕ → ℕ → List ℕ
  row a n = map (slice_index vars) (filter_map (mode_of vars) (numbers_from a n))

  from_on : (a n : ℕ) → Each (λ x. a ≤ x) (row a n)
  from_on a zero = tt
  from_on a (suc n) = by_mode (mode_of vars a) refl
      (each_weaker (λ x. a + 1 ≤ x) (λ x. a ≤ x) (row (a + 1) n) (λ x h. omega (arith, h)) (from_on (a + 1) n))
    where
      by_mode : (o : Option ℕ) → mode_of vars a ≡ o → Each (λ x. a ≤ x) (row (a + 1) n)
          → Each (λ x. a ≤ x) (map (slice_index vars) (cons_option o (filter_map (mode_of vars) (numbers_from (a + 1) n))))
      by_mode None is rest = rest
      by_mode (Some m) is rest = (let here = stands vars a m is in omega (arith, here), rest)

  row_forward : (a n : ℕ) → Each LeadsForward (neighbours (row a n))
  row_forward a zero = tt
  row_forward a (suc n) = by_mode (mode_of vars a) refl (row_forward (a + 1) n) (from_on (a + 1) n)
    where
      by_mode : (o : Option ℕ) → mode_of vars a ≡ o → Each LeadsForward (neighbours (row (a + 1) n)) → Each (λ x. a + 1 ≤ x) (row (a + 1) n)
          → Each LeadsForward (neighbours (map (slice_index vars) (cons_option o (filter_map (mode_of vars) (numbers_from (a + 1) n)))))
      by_mode None is rest above = rest
      by_mode (Some m) is rest above =
          let here = stands vars a m is in
          cons_forward (slice_index vars m) (row (a + 1) n)
          (each_weaker (λ x. a + 1 ≤ x) (λ x. slice_index vars m < x) (row (a + 1) n) (λ x h. omega (arith, h, here)) above) rest

pub all_forward : (count : ℕ) (levels : List FormatLevel) (vars : List ℕ) → IsFormat levels → length levels ≡ length vars → IsDistinct vars
    → Each LeadsForward (planned_edges count levels vars)
all_forward count levels vars format same distinct = by_test (list_any is_back (access_edges levels vars)) refl
  where
    by_test : (t : Bool) → list_any is_back (access_edges levels vars) ≡ t
        → Each LeadsForward (if t then neighbours (map (slice_index vars) (modes_in_order count vars)) else access_edges levels vars)
    by_test true is = row_forward vars 0 count
    by_test false is = kept_forward levels vars format same distinct is
