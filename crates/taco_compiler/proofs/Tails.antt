-- The tail of a result in a loop order: the modes of its left variables behind the first summed one.
use Rattle.std.specs.Prelude.{◌≡◌, ℕ, zero, suc, ◌+◌, ◌-◌, ◌<◌, ◌≤◌, true, false, if◌then◌else◌, List, [], ◌∷◌, All}
use Rattle.std.specs.Prelude.{length, take, drop, slice_index_or, refl}
use Rattle.std.proofs.Common.{◌∙◌, sym, ap, subst, arith}
use Rattle.std.proofs.lemmas.List.{drop_more, length-drop, take_all}
use Rattle.std.proofs.lemmas.List.Elements.{All-drop}
use Rattle.lists.specs.Each.{Each}
use Rattle.format_spec.specs.declared.format.FormatLevel.{FormatLevel}
use Rattle.format_spec.specs.Formats.{IsFormat, modes_of}
use Rattle.index_notation.specs.Statement.{numbers_from}
use Rattle.index_notation.specs.declared.syntax.Statement.{Statement}
use Rattle.iteration_graph.specs.Edges.{format_of}
use Rattle.concrete_notation.specs.Nests.{left_in_order}
use Rattle.concrete_notation.specs.Workspaces.{AreAllDense}
use Rattle.row_orders.specs.Heads.{result_levels}
use Rattle.row_orders.specs.Orders.{AreOutsideSums}
use Rattle.row_orders.specs.Takings.{is_inside_sum}
use Rattle.row_orders.proofs.LevelOrders.{modes_below, modes_many}
use Rattle.sparse_results.specs.Keys.{HasOrderedResult}
use Rattle.taco_compiler.specs.Grouping.{IsTail}
use Rattle.taco_compiler.specs.Loops.{MayBeLowered}
use Rattle.taco_compiler.specs.Tails.{from_sum, tail_of}
use Rattle.taco_compiler.proofs.Targets.{keys_many}

-- a result that is not dense throughout orders the loops
pub ordered_result : (s : Statement) (formats : List (List FormatLevel)) (order : List ℕ) → MayBeLowered s formats order
    → (AreAllDense (format_of formats s.left.tensor) → ⊥) → HasOrderedResult s formats
ordered_result s formats order ready some =
    let result = ready.named.result in
    record {
      numbered = ready.numbered;
      named = ready.named;
      left = ready.left;
      format = subst (λ t. IsFormat (format_of formats t)) result ready.formed.0;
      some = λ dense. some (subst (λ t. AreAllDense (format_of formats t)) (sym result) dense);
    }

-- there is a level for each left variable
levels_many : (s : Statement) (formats : List (List FormatLevel)) (order : List ℕ) → MayBeLowered s formats order
    → (AreAllDense (format_of formats s.left.tensor) → ⊥)
    → length (modes_of (format_of formats s.left.tensor)) ≡ length (left_in_order s order)
levels_many s formats order ready some =
    modes_many s formats (record { numbered = ready.numbered; left = ready.left; format = ready.formed.0 })
    ∙ sym (keys_many s formats (ordered_result s formats order ready some) order ready.is_order)

-- the first left variables may be as many as there are levels
pub first_within : (s : Statement) (formats : List (List FormatLevel)) (order : List ℕ) → MayBeLowered s formats order
    → (AreAllDense (format_of formats s.left.tensor) → ⊥) → (first : ℕ) (all : List ℕ) → first ≤ length (left_in_order s order)
    → all ≡ modes_of (format_of formats s.left.tensor) → first ≤ length all
first_within s formats order ready some first all within is =
    let many = levels_many s formats order ready some in let same = ap length is in omega (arith, within, many, same)

-- a variable that has a summed one before it is where the tail begins
pub tail_begins : (s : Statement) (order vs : List ℕ) (n : ℕ) → n < length vs
    → is_inside_sum s order (slice_index_or vs n 0) ≡ true → drop n vs ≡ from_sum s order (drop n vs)
tail_begins s order vs n inside is =
    let behind = drop_more vs n 0 inside in
    behind
    ∙ sym (ap (λ b. if b then (slice_index_or vs n 0 ∷ drop (n + 1) vs) else from_sum s order (drop (n + 1) vs)) is)
    ∙ sym (ap (from_sum s order) behind)

-- one that has none is passed by
pub tail_behind : (s : Statement) (order vs : List ℕ) (n : ℕ) → n < length vs
    → is_inside_sum s order (slice_index_or vs n 0) ≡ false → from_sum s order (drop (n + 1) vs) ≡ from_sum s order (drop n vs)
tail_behind s order vs n inside is =
    sym (ap (from_sum s order) (drop_more vs n 0 inside)
    ∙ ap (λ b. if b then (slice_index_or vs n 0 ∷ drop (n + 1) vs) else from_sum s order (drop (n + 1) vs)) is)

-- the tail has as many variables as modes
pub tail_many : (s : Statement) (formats : List (List FormatLevel)) (order : List ℕ) (first : ℕ) (modes : List ℕ)
    → IsTail s formats order first modes → length (tail_of s order) ≡ length modes
tail_many s formats order first modes tail =
    let long = length-drop first (left_in_order s order) in
    let same = ap length tail.rest in
    let many = tail.many in
    omega (arith, long, same, many)

-- the modes behind those of the first ones are the tail's
pub tail_is : (s : Statement) (formats : List (List FormatLevel)) (order : List ℕ) → MayBeLowered s formats order
    → (AreAllDense (format_of formats s.left.tensor) → ⊥) → (first : ℕ) (all modes : List ℕ) → first ≤ length (left_in_order s order)
    → AreOutsideSums s order (take first (left_in_order s order)) → drop first (left_in_order s order) ≡ tail_of s order
    → all ≡ modes_of (format_of formats s.left.tensor)
    → modes ≡ take (length all - first) (drop first all) → IsTail s formats order first modes
tail_is s formats order ready some first all modes within outside rest is are =
    let long = length-drop first all in
    let whole : modes ≡ drop first all = are ∙ take_all (length all - first) (drop first all) (omega (arith, long)) in
    let inside = first_within s formats order ready some first all within is in
    let many = levels_many s formats order ready some in
    let same = ap length is in
    let each = ap length whole in
    record {
      outside = outside;
      rest = rest;
      are = whole ∙ ap (drop first) is;
      many = omega (arith, long, inside, many, same, each);
    }

-- a list of one number
pub one_alone : (ms : List ℕ) → length ms ≡ 1 → ms ≡ slice_index_or ms 0 0 ∷ []
one_alone [] h = absurd (omega (arith, h))
one_alone (m ∷ []) h = refl
one_alone (m ∷ k ∷ ms) h = absurd (omega (arith, h))

-- where numbers one after another are below a bound, so is each place
pub place_below : (from count n k : ℕ) → Each (λ v. v < n) (numbers_from from count) → k < count → from + k < n
place_below from zero n k each h = absurd (omega (arith, h))
place_below from (suc count) n zero each h = let b = each.0 in omega (arith, b)
place_below from (suc count) n (suc k) each h =
    let b = place_below (from + 1) count n k each.1 (omega (arith, h)) in omega (arith, b)

-- the one mode of a tail is a variable of the statement
pub tail_variable : (s : Statement) (formats : List (List FormatLevel)) (order : List ℕ) (first : ℕ) (modes : List ℕ)
    → MayBeLowered s formats order → IsTail s formats order first modes → length modes ≡ 1 → slice_index_or modes 0 0 < length s.vars
tail_variable s formats order first modes ready tail one =
    let below : All (λ m. m < length s.left.vars) modes =
    subst (All (λ m. m < length s.left.vars)) (sym tail.are)
    (All-drop (λ m. m < length s.left.vars) first (modes_of (result_levels s formats))
    (modes_below s formats (record { numbered = ready.numbered; left = ready.left; format = ready.formed.0 }))) in
    let inside = place_below 0 (length s.left.vars) (length s.vars) (slice_index_or modes 0 0)
    (subst (Each (λ v. v < length s.vars)) ready.named.standing ready.numbered.left.vars_stand) (below 0 0 (omega (arith, one))) in
    omega (arith, inside)
