-- Of a statement without nested sums all is as if there were none: its groups are its terms', and no loops have a sum.
use Rattle.std.specs.Prelude.{◌≡◌, ◌⊎◌, ℕ, ◌+◌, ◌≤◌, nat_lt, not, Bool, true, false, ◌&&◌, ◌||◌, if◌then◌else◌}
use Rattle.std.specs.Prelude.{List, [], ◌∷◌, length, map, Option, Some, None, refl}
use Rattle.std.proofs.Common.{◌∙◌, sym, ap, subst, arith, inl, inr}
use Rattle.std.proofs.lemmas.Bool.Decides.{nat_tests}
use Rattle.std.proofs.lemmas.Option.{slice_get_past}
use denote.Hole.Carrier.{hidden}
use Rattle.format_spec.specs.declared.format.FormatLevel.{FormatLevel}
use Rattle.index_notation.specs.declared.operator.Operator.{Operator}
use Rattle.index_notation.specs.declared.syntax.Access.{Access}
use Rattle.index_notation.specs.declared.syntax.Expr.{Expr, map-Expr, Num, Access as AccessOf, Binary, Neg}
use Rattle.index_notation.specs.declared.syntax.Expr.TheVariants.{rolls-Num, rolls-Access, rolls-Binary, rolls-Neg}
use Rattle.index_notation.specs.declared.syntax.Expr.TheBlock.{hidden-the_row-Expr-0}
use Rattle.index_notation.specs.declared.syntax.Expr.TheFolds.{ind-Expr}
use Rattle.index_notation.specs.declared.syntax.Expr.TheViews.{roll-Expr}
use Rattle.index_notation.specs.declared.syntax.Expr.TheOpen as view
use Rattle.index_notation.specs.declared.syntax.Statement.{Statement}
use Rattle.expr_terms.specs.Points.{with_coordinate}
use Rattle.expr_terms.specs.Terms.{terms}
use Rattle.concrete_notation.specs.Nests.{Nest, nest_of}
use Rattle.loop_code.specs.declared.loops.LoopCode.{LoopCode, Add, Both', Loop', Sum', Row_of-LoopCode, end_of-LoopCode, more_of-LoopCode}
use Rattle.loop_code.specs.Loops.{Stored}
use Rattle.loop_code.specs.Opened.{put_in}
use Rattle.loop_code.specs.Parts.{is_full, is_live, is_some, remains}
use Rattle.loop_code.specs.Turns.{count_below}
use Rattle.lowering.specs.Held.{path_span}
use Rattle.lowering.specs.Layouts.{layout_of, variables_of}
use Rattle.lowering.specs.Seeking.{reached}
use Rattle.lowering.specs.Sums.{first_sum, starts_at}
use Rattle.statement_costs.specs.Costs.{at, group_length, group_of, group_repeats, groups_length, has_started, in_place, is_full_group}
use Rattle.statement_costs.specs.Costs.{is_here, is_walked, is_wanted, next_level, of_starting, opened_group, own_group, present_at}
use Rattle.statement_costs.specs.Costs.{segment_length, some_term, statement_cost, statement_repeats, sum_walked, total, with_others}
use Rattle.statement_costs.specs.Plain.{plain_full, plain_here, plain_length, plain_repeats, plain_slots, plain_total, plain_walked}
use Rattle.statement_costs.specs.Plain.{whole_plain}
use Rattle.statement_costs.specs.Slots.{group_slots, level_slots, statement_slots}

-- an expression in which each access stands for itself
abbrev StaysSame : Expr → Type 0
StaysSame e = put_in (λ k. AccessOf k) e ≡ e

num_same : (n : ℕ) → StaysSame (Num n)
num_same n = refl

access_same : (k : ℕ) → StaysSame (AccessOf k)
access_same k = refl

binary_same : (o : Operator) (e f : Expr) → StaysSame e → StaysSame f → StaysSame (Binary o e f)
unfolding hidden-the_row-Expr-0 hidden
binary_same o e f h g = λ i. Binary o (h i) (g i)

neg_same : (e : Expr) → StaysSame e → StaysSame (Neg e)
unfolding hidden-the_row-Expr-0 hidden
neg_same e h = λ i. Neg (h i)

layer_same : (y : view.Expr-F ((e : Expr) × StaysSame e))
    → StaysSame (roll-Expr (map-Expr ((e : Expr) × StaysSame e) Expr (λ e. e.0) y))
layer_same (view.Num n) = subst StaysSame (sym (rolls-Num n)) (num_same n)
layer_same (view.Access k) = subst StaysSame (sym (rolls-Access k)) (access_same k)
layer_same (view.Binary o e f) = subst StaysSame (sym (rolls-Binary o e.0 f.0)) (binary_same o e.0 f.0 e.1 f.1)
layer_same (view.Neg e) = subst StaysSame (sym (rolls-Neg e.0)) (neg_same e.0 e.1)

pub put_same : (e : Expr) → StaysSame e
put_same = ind-Expr StaysSame (λ x y is. subst (λ z. StaysSame (roll-Expr z)) is (layer_same y))

each_same : (group : List Nest) → map (with_others (λ k. AccessOf k)) group ≡ group
each_same [] = refl
each_same (n ∷ group) =
    let rest = each_same group in
    let first = put_same n.term.expr in
    λ i. record { loops = n.loops; term = record { negated = n.term.negated; expr = first i } } ∷ rest i

abbrev mutual
  -- no sum stands in loops
  pub HasNone : LoopCode → Type 0
  HasNone (Loop' v seeks p body) = HasNone_in body
  HasNone (Both' p f q g) = HasNone_in f × HasNone_in g
  HasNone (Add t) = Unit {0}
  HasNone (Sum' k p inside q body) = ⊥

  pub HasNone_in : {m : _} → Row_of-LoopCode m → Type 0
  HasNone_in end_of-LoopCode = Unit {0}
  HasNone_in (more_of-LoopCode c rest) = HasNone c

or_true : (b : Bool) → (b || true) ≡ true
or_true true = refl
or_true false = refl

none_plus : (m : ℕ) → 0 + m ≡ m
none_plus m = omega arith

behind_test : (k n : ℕ) → n ≤ k → nat_lt k n ≡ false
behind_test k n h = grind (arith, nat_tests, h)

before_or_behind : (k n : ℕ) → (nat_lt k n ≡ true) ⊎ (n ≤ k)
before_or_behind k n = grind (arith, nat_tests)

module _ (s : Statement) (none : s.sums ≡ []) where
  no : length s.sums ≡ 0
  no = ap length none

  pub opened_same : (started : ℕ → Bool) (group : List Nest) → opened_group s started group ≡ group
  opened_same started group = ap (λ n. map (with_others (in_place s started n)) group) no ∙ each_same group

  module _ (formats : List (List FormatLevel)) (stored : Stored) (ranges : ℕ → ℕ) where
    here_is : (bound : List ℕ) (point : ℕ → ℕ) (k : ℕ)
        → is_here s formats stored ranges bound point k ≡ plain_here s formats stored bound point k
    here_is bound point k = by (before_or_behind k (first_sum s))
      where
        by : (nat_lt k (first_sum s) ≡ true) ⊎ (first_sum s ≤ k)
            → is_here s formats stored ranges bound point k ≡ plain_here s formats stored bound point k
        by (inl before) =
            ap (λ b. if b then is_some (at s formats stored bound point k)
            else (not (has_started s bound k) || present_at s formats stored ranges (length s.sums) point k)) before
        by (inr behind) =
            let past = slice_get_past s.accesses k (omega (arith, behind, no)) in
            let there : present_at s formats stored ranges (length s.sums) point k ≡ true =
            ap (λ n. present_at s formats stored ranges n point k) no
            ∙ ap (λ (a : Option Access).
            is_some (path_span (layout_of s formats) stored k (length (variables_of formats a)) point)) past in
            ap (λ b. if b then is_some (at s formats stored bound point k)
            else (not (has_started s bound k) || present_at s formats stored ranges (length s.sums) point k))
            (behind_test k (first_sum s) behind)
            ∙ ap (λ b. not (has_started s bound k) || b) there ∙ or_true (not (has_started s bound k))
            ∙ sym (ap (λ (a : Option Access).
            is_some (path_span (layout_of s formats) stored k (reached bound (variables_of formats a)) point)) past)

    all_here : (bound : List ℕ) (point : ℕ → ℕ)
        → is_here s formats stored ranges bound point ≡ plain_here s formats stored bound point
    all_here bound point = λ i k. here_is bound point k i

    pub walked_plain : (number : ℕ → ℕ) (group : List Nest) (bound : List ℕ) (point : ℕ → ℕ) (v : ℕ)
        → sum_walked s formats stored ranges number group bound point v ≡ plain_walked s formats stored number group bound point v
    walked_plain number group bound point v =
        ap (λ (P : ℕ → Bool). count_below (length s.accesses)
        (λ k. if some_term (λ e. is_live P e k) group && is_walked s formats bound v k then number k else 0)) (all_here bound point)

    pub full_plain : (group : List Nest) (bound : List ℕ) (point : ℕ → ℕ) (v : ℕ)
        → is_full_group s formats stored ranges group bound point v ≡ plain_full s formats stored group bound point v
    full_plain group bound point v =
        ap (λ (P : ℕ → Bool). some_term (is_full (λ k. not (is_walked s formats bound v k)) P) group) (all_here bound point)

    pub length_plain : (group : List Nest) (bound : List ℕ) (point : ℕ → ℕ) (v : ℕ)
        → group_length s formats stored ranges group bound point v ≡ plain_length s formats stored ranges group bound point v
    length_plain group bound point v =
        let full = full_plain group bound point v in
        let walked = walked_plain (segment_length s formats stored bound point) group bound point v in
        λ i. if full i then ranges v else walked i

    none_starts : (number : List Nest → ℕ) (innermost : Option ℕ) (bound : List ℕ) (point : ℕ → ℕ) (group : List Nest)
        → of_starting s formats stored ranges number innermost bound point group ≡ 0
    none_starts number innermost bound point group =
        ap (λ m. count_below m (λ n. if starts_at s (λ k. is_wanted s formats stored ranges innermost bound point group n) innermost bound n
        then number (own_group s n) else 0)) no

    -- where a number of groups is what another is, so are the totals
    module _ (number plain : List Nest → List ℕ → (ℕ → ℕ) → ℕ → ℕ)
        (same : (group : List Nest) (bound : List ℕ) (point : ℕ → ℕ) (v : ℕ) → number group bound point v ≡ plain group bound point v) where
      total_plain : (order : List ℕ) (nests : List Nest) (bound : List ℕ) (point : ℕ → ℕ)
          → total s formats stored ranges number order nests bound point
          ≡ plain_total s formats stored ranges plain order nests bound point
      total_plain [] nests bound point = refl
      total_plain (v ∷ order) nests bound point =
          let group = opened_same (has_started s bound) (group_of v nests) in
          let there = all_here bound point in
          let own = ap (λ g. number g bound point v) group ∙ same (group_of v nests) bound point v in
          let more : (x : ℕ) → of_starting s formats stored ranges
          (λ one. total s formats stored ranges number order one (v ∷ bound) (with_coordinate point v x)) (Some v) (v ∷ bound)
          (with_coordinate point v x) (group_of v nests)
          + total s formats stored ranges number order (group_of v nests) (v ∷ bound) (with_coordinate point v x)
          ≡ plain_total s formats stored ranges plain order (group_of v nests) (v ∷ bound) (with_coordinate point v x) =
          λ x.
          ap (λ m. m + total s formats stored ranges number order (group_of v nests) (v ∷ bound) (with_coordinate point v x))
          (none_starts (λ one. total s formats stored ranges number order one (v ∷ bound) (with_coordinate point v x)) (Some v)
          (v ∷ bound) (with_coordinate point v x) (group_of v nests))
          ∙ none_plus (total s formats stored ranges number order (group_of v nests) (v ∷ bound) (with_coordinate point v x))
          ∙ total_plain order (group_of v nests) (v ∷ bound) (with_coordinate point v x) in
          let rest = total_plain order nests bound point in
          λ i. (if some_term (remains (there i)) (group i) then own i + count_below (ranges v) (λ x. more x i) else 0) + rest i

      pub whole_is_plain : (order : List ℕ)
          → of_starting s formats stored ranges (λ own. total s formats stored ranges number order own [] (λ v. 0)) None [] (λ v. 0)
          (map (nest_of s order) (terms s.expr))
          + total s formats stored ranges number order (map (nest_of s order) (terms s.expr)) [] (λ v. 0)
          ≡ whole_plain s formats stored ranges plain order
      whole_is_plain order =
          ap (λ m. m + total s formats stored ranges number order (map (nest_of s order) (terms s.expr)) [] (λ v. 0))
          (none_starts (λ own. total s formats stored ranges number order own [] (λ v. 0)) None [] (λ v. 0)
          (map (nest_of s order) (terms s.expr)))
          ∙ none_plus (total s formats stored ranges number order (map (nest_of s order) (terms s.expr)) [] (λ v. 0))
          ∙ total_plain order (map (nest_of s order) (terms s.expr)) [] (λ v. 0)

    -- so the cost of such a statement, its repeats and its slots are as if nothing was said of sums
    pub cost_is_plain : (order : List ℕ) → statement_cost s formats order stored ranges
        ≡ whole_plain s formats stored ranges (plain_length s formats stored ranges) order
    cost_is_plain = whole_is_plain (group_length s formats stored ranges) (plain_length s formats stored ranges) length_plain

    pub repeats_are_plain : (order : List ℕ) → statement_repeats s formats order stored ranges
        ≡ whole_plain s formats stored ranges (plain_repeats s formats stored ranges) order
    repeats_are_plain =
        whole_is_plain (group_repeats s formats stored ranges) (plain_repeats s formats stored ranges)
        (λ group bound point v. walked_plain (groups_length s formats stored bound point) group bound point v)

    pub slots_are_plain : (order : List ℕ) (widths : ℕ → ℕ → ℕ) → statement_slots s formats order stored widths ranges
        ≡ whole_plain s formats stored ranges (plain_slots s formats stored ranges widths) order
    slots_are_plain order widths =
        whole_is_plain (group_slots s formats widths stored ranges) (plain_slots s formats stored ranges widths)
        (λ group bound point v.
        walked_plain (λ k. level_slots s formats widths k (next_level s formats bound k)) group bound point v) order
