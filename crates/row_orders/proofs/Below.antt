-- The coordinates of rows are below the ranges of their variables.
use Rattle.std.specs.Prelude.{◌≡◌, ◌⊎◌, ℕ, zero, suc, ◌<◌, nat_eq, Bool, true, false, ◌||◌}
use Rattle.std.specs.Prelude.{List, [], ◌∷◌, ◌++◌, length, map, Option, None, Some, refl}
use Rattle.std.proofs.Common.{◌∙◌, sym, ap, subst, arith, inl, inr, true≢false}
use Rattle.std.proofs.lemmas.Bool.{eqb-true, eqb-false}
use denote.Hole.Carrier.{hidden}
use Rattle.lists.specs.Each.{Each}
use Rattle.lists.proofs.Each.{each_append}
use Rattle.numbers.specs.Arithmetic.{Arithmetic}
use Rattle.tensor_map.specs.Entries.{Entry}
use Rattle.index_notation.specs.Statement.{IsNumbered}
use Rattle.index_notation.specs.declared.syntax.Statement.{Statement}
use Rattle.expr_terms.specs.Points.{coords_at, with_coordinate}
use Rattle.expr_terms.specs.Result.{AreBelow}
use Rattle.expr_terms.specs.Terms.{terms, contains, own_variables}
use Rattle.expr_terms.specs.declared.term.Term.{Term}
use Rattle.expr_terms.proofs.PointLaws.{coordinate_same, coordinate_other}
use Rattle.concrete_notation.specs.declared.concrete.Concrete.TheBlock.{hidden-the_row-Concrete-0}
use Rattle.concrete_notation.specs.Contributions.{rows_below}
use Rattle.concrete_notation.specs.Nests.{Nest, inside, nests, nest_of, IsOrderOf}
use Rattle.concrete_notation.proofs.Around.{loops_contain}
use Rattle.concrete_notation.proofs.Points.{all_below, or_first}
use Rattle.loop_code.specs.declared.loops.LoopCode.{LoopCode, Add, Both', Loop', Sum', Row_of-LoopCode, end_of-LoopCode, more_of-LoopCode}
use Rattle.loop_code.specs.declared.loops.Seek.{Seek}
use Rattle.loop_code.specs.Loops.{Layout, Stored, Env, at_cursor, start, moved, term_value, row_of, sum_of, contributions, contributions_in}
use Rattle.lowering.specs.Layouts.{layout_of}
use Rattle.lowering.specs.Lowered.{concrete_of, concrete_in}
use Rattle.row_orders.specs.Orders.{RowsAreBelow}
use Rattle.row_orders.proofs.Lists.{each_parts, each_permuted, each_unmapped, each_weaker}
use Rattle.row_orders.proofs.Rising.{moved_point}

each_in_range : (P : Entry → Type 0) (n : ℕ) (f : ℕ → List Entry) → ((x : ℕ) → x < n → Each P (f x)) → Each P (rows_below n f)
each_in_range P zero f h = tt
each_in_range P (suc n) f h =
    each_append P (rows_below n f) (f n) (each_in_range P n f (λ x less. h x (omega (arith, less)))) (h n (omega arith))

or_rest : (b c : Bool) → (b || c) ≡ true → b ≡ false → c ≡ true
or_rest true c h e = cc
or_rest false c h e = h

module _ (a : Arithmetic) (layout : Layout) (stored : Stored) (ranges : ℕ → ℕ) (target : List ℕ) where
  abbrev IsBelow : Entry → Type 0
  IsBelow row = AreBelow row.coords (map ranges target)

  -- each variable has a coordinate below its range, or a loop around each term
  abbrev Reaches : (ℕ → ℕ) → List Nest → Type 0
  Reaches point ns = (w : ℕ) → contains target w ≡ true → (point w < ranges w) ⊎ Each (λ (n : Nest). contains n.loops w ≡ true) ns

  reaches_inside : (v : ℕ) (seeks : List Seek) (ns : List Nest) (env : Env) (x : ℕ) → x < ranges v
      → Reaches env.point (map (inside v) ns) → Reaches (moved layout stored v seeks env x).point ns
  reaches_inside v seeks ns env x less h w there = by (nat_eq v w) refl (h w there)
    where
      at : (moved layout stored v seeks env x).point w ≡ with_coordinate env.point v x w
      at = ap (λ (point : ℕ → ℕ). point w) (moved_point a layout stored ranges v seeks env x)

      by : (b : Bool) → nat_eq v w ≡ b → (env.point w < ranges w) ⊎ Each (λ (n : Nest). contains n.loops w ≡ true) (map (inside v) ns)
          → ((moved layout stored v seeks env x).point w < ranges w) ⊎ Each (λ (n : Nest). contains n.loops w ≡ true) ns
      by true e before =
          let same : v ≡ w = eqb-true v w e in
          inl (subst (λ y. y < ranges w) (sym (at ∙ ap (with_coordinate env.point v x) (sym same) ∙ coordinate_same env.point v x))
          (subst (λ u. x < ranges u) same less))
      by false e (inl here) = inl (subst (λ y. y < ranges w)
          (sym (at ∙ coordinate_other env.point v x w (eqb-false v w e))) here)
      by false e (inr each) = inr (each_weaker (λ (n : Nest). (nat_eq v w || contains n.loops w) ≡ true)
          (λ (n : Nest). contains n.loops w ≡ true) ns (λ n found. or_rest (nat_eq v w) (contains n.loops w) found e)
          (each_unmapped (λ (n : Nest). contains n.loops w ≡ true) (inside v) ns each))

  reaches_first : (ms ns : List Nest) (point : ℕ → ℕ) → Reaches point (ms ++ ns) → Reaches point ms
  reaches_first ms ns point h w there = elim (h w there) [
    | inl here ↦ inl here
    | inr each ↦ inr (each_parts (λ (n : Nest). contains n.loops w ≡ true) ms ns each).0
  ]

  reaches_second : (ms ns : List Nest) (point : ℕ → ℕ) → Reaches point (ms ++ ns) → Reaches point ns
  reaches_second ms ns point h w there = elim (h w there) [
    | inl here ↦ inl here
    | inr each ↦ inr (each_parts (λ (n : Nest). contains n.loops w ≡ true) ms ns each).1
  ]

  one_below : (point : ℕ → ℕ) (t : Term) (value : Option ℕ) → Reaches point (record { loops = []; term = t } ∷ [])
      → Each IsBelow (row_of (coords_at point target) value)
  one_below point t None h = tt
  one_below point t (Some x) h = (
    all_below ranges point target (λ w there. elim (h w there) [
      | inl here ↦ here
      | inr each ↦ absurd (true≢false (sym each.0))
    ]),
    tt,
  )

  mutual
    unfolding hidden-the_row-Concrete-0 hidden

    pub all_rows_below : (c : LoopCode) (env : Env) → Reaches env.point (nests (concrete_of c))
        → Each IsBelow (contributions a layout stored ranges target c env)
    all_rows_below (Loop' v seeks p body) env h =
        each_in_range IsBelow (ranges v)
        (λ x. contributions_in a layout stored ranges target body (moved layout stored v seeks env x))
        (λ x less. all_rows_below_in body (moved layout stored v seeks env x)
        (reaches_inside v seeks (nests (concrete_in body)) env x less h))
    all_rows_below (Both' p f q g) env h =
        each_append IsBelow (contributions_in a layout stored ranges target f env)
        (contributions_in a layout stored ranges target g env)
        (all_rows_below_in f env (reaches_first (nests (concrete_in f)) (nests (concrete_in g)) env.point h))
        (all_rows_below_in g env (reaches_second (nests (concrete_in f)) (nests (concrete_in g)) env.point h))
    all_rows_below (Add t) env h = one_below env.point t (term_value a stored env t) h
    all_rows_below (Sum' k p inside q body) env h =
        all_rows_below_in body (at_cursor env k (sum_of a (contributions_in a layout stored ranges [] inside env))) h

    all_rows_below_in : {m : _} (row : Row_of-LoopCode m) (env : Env) → Reaches env.point (nests (concrete_in row))
        → Each IsBelow (contributions_in a layout stored ranges target row env)
    all_rows_below_in end_of-LoopCode env h = tt
    all_rows_below_in (more_of-LoopCode c rest) env h = all_rows_below c env h

looped : (s : Statement) → IsNumbered s → (order : List ℕ) → IsOrderOf (length s.vars) order → (v : ℕ) → contains s.left.vars v ≡ true
    → (ts : List Term) → Each (λ (n : Nest). contains n.loops v ≡ true) (map (nest_of s order) ts)
looped s numbered order ordered v left [] = tt
looped s numbered order ordered v left (t ∷ ts) = (
  loops_contain s numbered order ordered t v ∙ or_first (contains s.left.vars v) (contains (own_variables s t) v) left,
  looped s numbered order ordered v left ts,
)

pub rows_are_below : RowsAreBelow
rows_are_below s formats numbered order ordered loops are target left a inputs stored =
    all_rows_below a (layout_of s formats) stored inputs.ranges target loops start
    (λ w there. inr (each_permuted (λ (n : Nest). contains n.loops w ≡ true) (map (nest_of s order) (terms s.expr))
    (nests (concrete_of loops)) are.terms (looped s numbered order ordered w (left w there) (terms s.expr))))
