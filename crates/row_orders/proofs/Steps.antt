-- What the loops over groups, orders and levels do in one turn.
use Rattle.std.specs.Prelude.{◌≡◌, ◌≢◌, ℕ, zero, suc, ◌+◌, ◌<◌, Bool, ◌||◌}
use Rattle.std.specs.Prelude.{List, [], ◌∷◌, ◌++◌, length, drop, slice_index_or, refl}
use Rattle.std.specs.List.{list_any}
use Rattle.std.proofs.Common.{◌∙◌, sym, ap, arith, add-one, drop-cons}
use Rattle.format_spec.specs.declared.format.FormatLevel.{FormatLevel}
use Rattle.iteration_graph.specs.Edges.{by_level}
use Rattle.row_orders.specs.Heads.{head_levels, tail_levels}
use Rattle.row_orders.specs.Takings.{outside}
use Rattle.row_orders.proofs.Fronts.{outside_more}
use Rattle.row_orders.proofs.HeadLengths.{levels_parted, by_level_parts}

dropped : {X : Type 0} (xs : List X) (i : ℕ) (d : X) → i < length xs → drop i xs ≡ slice_index_or xs i d ∷ drop (i + 1) xs
dropped xs i d inside = drop-cons xs i d inside ∙ ap (λ n. slice_index_or xs i d ∷ drop n xs) (sym (add-one i))

-- whether some element passes a test, from a place on
any_on : {X : Type 0} (p : X → Bool) (xs : List X) (i : ℕ) (d : X) (b : Bool) → i < length xs → p (slice_index_or xs i d) ≡ b
    → list_any p (drop i xs) ≡ (b || list_any p (drop (i + 1) xs))
any_on p xs i d b inside is = ap (list_any p) (dropped xs i d inside) ∙ ap (λ c. c || list_any p (drop (i + 1) xs)) is

-- whether a number before another one in the rest of an order passes a test
pub inside_on : (p : ℕ → Bool) (order : List ℕ) (i v : ℕ) (b : Bool) → i < length order → slice_index_or order i 0 ≢ v
    → p (slice_index_or order i 0) ≡ b → list_any p (outside (drop i order) v) ≡ (b || list_any p (outside (drop (i + 1) order) v))
inside_on p order i v b inside apart is =
    ap (λ vs. list_any p (outside vs v)) (dropped order i 0 inside)
    ∙ ap (list_any p) (outside_more (slice_index_or order i 0) (drop (i + 1) order) v apart)
    ∙ ap (λ c. c || list_any p (outside (drop (i + 1) order) v)) is

-- the variable of a level of the head
in_front : (xs ys : List ℕ) (i : ℕ) → i < length xs → slice_index_or (xs ++ ys) i 0 ≡ slice_index_or xs i 0
in_front [] ys i inside = absurd (omega (arith, inside))
in_front (x ∷ xs) ys zero inside = refl
in_front (x ∷ xs) ys (suc i) inside = in_front xs ys i (omega (arith, inside))

levels_long : (levels : List FormatLevel) (vars : List ℕ) → length (by_level levels vars) ≡ length levels
levels_long [] vars = refl
levels_long (level ∷ levels) vars = ap suc (levels_long levels vars)

head_variable : (levels : List FormatLevel) (vars : List ℕ) (depth : ℕ) → depth < length (head_levels levels)
    → slice_index_or (by_level levels vars) depth 0 ≡ slice_index_or (by_level (head_levels levels) vars) depth 0
head_variable levels vars depth inside =
    let long = levels_long (head_levels levels) vars in
    ap (λ ls. slice_index_or (by_level ls vars) depth 0) (sym (levels_parted levels))
    ∙ ap (λ vs. slice_index_or vs depth 0) (by_level_parts (head_levels levels) (tail_levels levels) vars)
    ∙ in_front (by_level (head_levels levels) vars) (by_level (tail_levels levels) vars) depth (omega (arith, inside, long))

-- whether a variable of the head passes a test, from a level on
pub head_on : (p : ℕ → Bool) (levels : List FormatLevel) (vars : List ℕ) (depth v : ℕ) (b : Bool) → depth < length (head_levels levels)
    → v ≡ slice_index_or (by_level levels vars) depth 0 → p v ≡ b → list_any p (drop depth (by_level (head_levels levels) vars))
    ≡ (b || list_any p (drop (depth + 1) (by_level (head_levels levels) vars)))
head_on p levels vars depth v b inside there is =
    let long = levels_long (head_levels levels) vars in
    any_on p (by_level (head_levels levels) vars) depth 0 b (omega (arith, inside, long))
    (ap p (sym (there ∙ head_variable levels vars depth inside)) ∙ is)
