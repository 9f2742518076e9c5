-- A workspace is called for where a level of the tail isn't dense.
use Rattle.std.specs.Prelude.{◌≡◌, ℕ, nat_eq, not, Bool, true, false, ◌||◌, ◌&&◌, cond, if◌then◌else◌}
use Rattle.std.specs.Prelude.{List, [], ◌∷◌, filter, length, slice_index, refl}
use Rattle.std.specs.List.{list_all, list_any}
use Rattle.std.proofs.Common.{◌∙◌, sym, ap, subst, true≢false}
use Rattle.std.proofs.lemmas.Bool.{eqb-true, eq-eqb}
use Rattle.std.proofs.lemmas.List.Sums.{take_while-cons}
use Rattle.lists.specs.Each.{Each}
use Rattle.format_spec.specs.declared.format.FormatLevel.{FormatLevel}
use Rattle.index_notation.specs.Statement.{IsDistinct, IsNumbered}
use Rattle.index_notation.specs.declared.syntax.Statement.{Statement}
use Rattle.iteration_graph.specs.Edges.{by_level, statement_edges}
use Rattle.iteration_graph.specs.Graphs.{IsLoopOrder}
use Rattle.expr_terms.specs.declared.term.Term.{Term}
use Rattle.expr_terms.specs.Terms.{terms, contains, own_variables}
use Rattle.expr_terms.proofs.PointLaws.{not_contained}
use Rattle.concrete_notation.proofs.Around.{own_is_not_left}
use Rattle.concrete_notation.proofs.Orders.{is_order_of}
use Rattle.concrete_notation.proofs.Points.{or_first, or_second}
use Rattle.row_orders.specs.Heads.{is_dense, head_levels, tail_levels, result_levels, head}
use Rattle.row_orders.specs.Orders.{HasResult}
use Rattle.row_orders.specs.Tails.{behind_sum, is_sparse_in_tail, WorkspacesAreForTails, SumsOutsideCall}
use Rattle.row_orders.specs.Takings.{is_summed, outside, is_inside_sum, is_unordered}
use Rattle.row_orders.proofs.Fronts.{outside_more}
use Rattle.row_orders.proofs.LevelOrders.{left_order}
use Rattle.row_orders.proofs.Lists.{clash, each_parts, each_weaker}
use Rattle.row_orders.proofs.Orders.{no_head, whole}

both_of : (b c : Bool) → (b && c) ≡ true → (b ≡ true) × (c ≡ true)
both_of true c h = (refl, h)
both_of false c h = cc

not_so : (b : Bool) → (b ≡ true → ⊥) → b ≡ false
not_so true h = absurd (h refl)
not_so false h = refl

outside_itself : (v : ℕ) (order : List ℕ) → outside (v ∷ order) v ≡ []
outside_itself v order =
    take_while-cons (λ u. not (nat_eq u v)) v order ∙ ap (λ b. cond (not b) (v ∷ outside order v) []) (eq-eqb v v refl)

module _ (s : Statement) where
  -- what stands behind the first summed variable stands in the order
  behind_within : (order : List ℕ) (v : ℕ) → contains (behind_sum s order) v ≡ true → contains order v ≡ true
  behind_within [] v h = h
  behind_within (x ∷ order) v h = or_second (nat_eq x v) (contains order v) (by (is_summed s x) h (behind_within order v))
    where
      by : (b : Bool) → contains (if b then order else behind_sum s order) v ≡ true
          → (contains (behind_sum s order) v ≡ true → contains order v ≡ true) → contains order v ≡ true
      by true here rest = here
      by false here rest = rest here

  -- a variable that isn't summed stands behind a summed one exactly where one stands before it
  behind_is : (order : List ℕ) (v : ℕ) → IsDistinct order → contains order v ≡ true → is_summed s v ≡ false
      → is_inside_sum s order v ≡ contains (behind_sum s order) v
  behind_is [] v distinct there plain = absurd (true≢false (sym there))
  behind_is (x ∷ order) v distinct there plain =
      by (nat_eq x v) refl there (behind_is order v distinct.1)
    where
      inner : (b : Bool) → is_summed s x ≡ b → contains order v ≡ true
          → (contains order v ≡ true → is_summed s v ≡ false → is_inside_sum s order v ≡ contains (behind_sum s order) v)
          → (b || is_inside_sum s order v) ≡ contains (if b then order else behind_sum s order) v
      inner true e here rest = sym here
      inner false e here rest = rest here plain

      by : (b : Bool) → nat_eq x v ≡ b → (b || contains order v) ≡ true
          → (contains order v ≡ true → is_summed s v ≡ false → is_inside_sum s order v ≡ contains (behind_sum s order) v)
          → is_inside_sum s (x ∷ order) v ≡ contains (behind_sum s (x ∷ order)) v
      by true e here rest =
          let same : x ≡ v = eqb-true x v e in
          let summed : is_summed s x ≡ false = ap (is_summed s) same ∙ plain in
          let absent : contains order v ≡ false = ap (contains order) (sym same) ∙ not_contained x order distinct.0 in
          ap (λ u. is_inside_sum s (u ∷ order) v) same ∙ ap (list_any (is_summed s)) (outside_itself v order)
          ∙ sym (ap (λ b. contains (if b then order else behind_sum s order) v) summed
          ∙ not_so (contains (behind_sum s order) v) (λ h. clash (contains order v) (behind_within order v h) absent))
      by false e here rest =
          ap (list_any (is_summed s)) (outside_more x order v (λ same. clash (nat_eq x v) (eq-eqb x v same) e))
          ∙ inner (is_summed s x) refl here rest
          ∙ refl

-- where one of some variables passes a test, all later ones do
abbrev StayPassing : (ℕ → Bool) → List ℕ → Type 0
StayPassing p [] = Unit {0}
StayPassing p (v ∷ vs) = (p v ≡ true → Each (λ w. p w ≡ true) vs) × StayPassing p vs

each_in : (p q : ℕ → Bool) (order : List ℕ) → ((v : ℕ) → contains order v ≡ true → p v ≡ true) → Each (λ v. p v ≡ true) (filter q order)
each_in p q [] h = tt
each_in p q (x ∷ order) h =
    by (q x) (each_in p q order (λ v there. h v (or_second (nat_eq x v) (contains order v) there)))
  where
    by : (b : Bool) → Each (λ v. p v ≡ true) (filter q order) → Each (λ v. p v ≡ true) (cond b (x ∷ filter q order) (filter q order))
    by true more = (h x (or_first (nat_eq x x) (contains order x) (eq-eqb x x refl)), more)
    by false more = more

all_passing : (p q : ℕ → Bool) (order : List ℕ) → ((v : ℕ) → contains order v ≡ true → p v ≡ true) → StayPassing p (filter q order)
all_passing p q [] h = tt
all_passing p q (x ∷ order) h = by (q x) (all_passing p q order more)
  where
    more : (v : ℕ) → contains order v ≡ true → p v ≡ true
    more v there = h v (or_second (nat_eq x v) (contains order v) there)

    by : (b : Bool) → StayPassing p (filter q order) → StayPassing p (cond b (x ∷ filter q order) (filter q order))
    by true rest = ((λ here. each_in p q order more), rest)
    by false rest = rest

-- of variables in loop order those behind the first summed one come last
tail_last : (s : Statement) (q : ℕ → Bool) (order : List ℕ) → IsDistinct order
    → StayPassing (contains (behind_sum s order)) (filter q order)
tail_last s q [] distinct = tt
tail_last s q (x ∷ order) distinct = by (is_summed s x) (tail_last s q order distinct.1)
  where
    absent : contains order x ≡ false
    absent = not_contained x order distinct.0

    with_first : (p : ℕ → Bool) → (p x ≡ true → Each (λ w. p w ≡ true) (filter q order)) → StayPassing p (filter q order) → (c : Bool)
        → StayPassing p (cond c (x ∷ filter q order) (filter q order))
    with_first p first more true = (first, more)
    with_first p first more false = more

    by : (b : Bool) → StayPassing (contains (behind_sum s order)) (filter q order)
        → StayPassing (contains (if b then order else behind_sum s order)) (filter q (x ∷ order))
    by true more =
        with_first (contains order) (λ here. absurd (clash (contains order x) here absent))
        (all_passing (contains order) q order (λ v there. there)) (q x)
    by false more =
        with_first (contains (behind_sum s order)) (λ here. absurd (clash (contains order x) (behind_within s order x here) absent))
        more (q x)

-- ---- levels whose variables pass a test
abbrev is_sparse_at : (ℕ → Bool) → List ℕ → FormatLevel → Bool
is_sparse_at p vars level = not (is_dense level) && p (slice_index vars level.mode)

none_of_dense : (p : ℕ → Bool) (vars : List ℕ) (levels : List FormatLevel) → list_all is_dense levels ≡ true
    → list_any (is_sparse_at p vars) levels ≡ false
none_of_dense p vars [] dense = refl
none_of_dense p vars (level ∷ levels) dense =
    let parts = both_of (is_dense level) (list_all is_dense levels) dense in
    ap (λ b. (not b && p (slice_index vars level.mode)) || list_any (is_sparse_at p vars) levels) parts.0
    ∙ none_of_dense p vars levels parts.1

some_of_sparse : (p : ℕ → Bool) (vars : List ℕ) (levels : List FormatLevel) → list_all is_dense levels ≡ false
    → Each (λ v. p v ≡ true) (by_level levels vars) → list_any (is_sparse_at p vars) levels ≡ true
some_of_sparse p vars [] sparse passes = absurd (true≢false sparse)
some_of_sparse p vars (level ∷ levels) sparse passes =
    ap (λ b. (not (is_dense level) && b) || list_any (is_sparse_at p vars) levels) passes.0
    ∙ by (is_dense level) sparse (λ rest. some_of_sparse p vars levels rest passes.1)
  where
    by : (b : Bool) → (b && list_all is_dense levels) ≡ false
        → (list_all is_dense levels ≡ false → list_any (is_sparse_at p vars) levels ≡ true)
        → ((not b && true) || list_any (is_sparse_at p vars) levels) ≡ true
    by true rest more = more rest
    by false rest more = refl

-- a variable of the head passes exactly where that of some level does that isn't dense
sparse_in_head : (p : ℕ → Bool) (vars : List ℕ) (levels : List FormatLevel) → StayPassing p (by_level levels vars)
    → list_any p (by_level (head_levels levels) vars) ≡ list_any (is_sparse_at p vars) levels
sparse_in_head p vars [] stay = refl
sparse_in_head p vars (level ∷ levels) stay =
    by (list_all is_dense (level ∷ levels)) refl (sparse_in_head p vars levels stay.1)
  where
    passing : (b c : Bool) → p (slice_index vars level.mode) ≡ b → is_dense level ≡ c → (c && list_all is_dense levels) ≡ false
        → list_any p (by_level (head_levels levels) vars) ≡ list_any (is_sparse_at p vars) levels
        → (b || list_any p (by_level (head_levels levels) vars)) ≡ ((not c && b) || list_any (is_sparse_at p vars) levels)
    passing true true e dense sparse more = sym (some_of_sparse p vars levels sparse (stay.0 e))
    passing true false e dense sparse more = refl
    passing false true e dense sparse more = more
    passing false false e dense sparse more = more

    by : (b : Bool) → list_all is_dense (level ∷ levels) ≡ b
        → list_any p (by_level (head_levels levels) vars) ≡ list_any (is_sparse_at p vars) levels
        → list_any p (by_level (if b then [] else (level ∷ head_levels levels)) vars) ≡ list_any (is_sparse_at p vars) (level ∷ levels)
    by true dense more = sym (none_of_dense p vars (level ∷ levels) dense)
    by false sparse more = passing (p (slice_index vars level.mode)) (is_dense level) refl refl sparse more

-- ---- the law
-- a variable of the left side is summed in no term
left_not_summed : (s : Statement) → IsNumbered s → (v : ℕ) → contains s.left.vars v ≡ true → (ts : List Term)
    → list_any (λ (t : Term). contains (own_variables s t) v) ts ≡ false
left_not_summed s numbered v left [] = refl
left_not_summed s numbered v left (t ∷ ts) =
    ap (λ b. b || list_any (λ (u : Term). contains (own_variables s u) v) ts)
    (not_so (contains (own_variables s t) v) (λ own. clash (contains s.left.vars v) left (own_is_not_left s numbered t v own)))
    ∙ left_not_summed s numbered v left ts

any_same : (p q : ℕ → Bool) (vs : List ℕ) → Each (λ v. p v ≡ q v) vs → list_any p vs ≡ list_any q vs
any_same p q [] each = refl
any_same p q (v ∷ vs) each = ap (λ b. b || list_any p vs) each.0 ∙ ap (λ b. q v || b) (any_same p q vs each.1)

-- what passes a test, and stands in the order
kept : (p : ℕ → Bool) (order : List ℕ) → Each (λ v. (p v ≡ true) × (contains order v ≡ true)) (filter p order)
kept p [] = tt
kept p (x ∷ order) = by (p x) refl
    (each_weaker (λ v. (p v ≡ true) × (contains order v ≡ true)) (λ v. (p v ≡ true) × (contains (x ∷ order) v ≡ true)) (filter p order)
    (λ v h. (h.0, or_second (nat_eq x v) (contains order v) h.1)) (kept p order))
  where
    by : (b : Bool) → p x ≡ b → Each (λ v. (p v ≡ true) × (contains (x ∷ order) v ≡ true)) (filter p order)
        → Each (λ v. (p v ≡ true) × (contains (x ∷ order) v ≡ true)) (cond b (x ∷ filter p order) (filter p order))
    by true e more = ((e, or_first (nat_eq x x) (contains order x) (eq-eqb x x refl)), more)
    by false e more = more

module _ (s : Statement) (formats : List (List FormatLevel)) (h : HasResult s formats) (order : List ℕ)
    (loops : IsLoopOrder (length s.vars) (statement_edges s formats) order) where
  abbrev levels : List FormatLevel
  levels = result_levels s formats

  once : IsDistinct order
  once = (is_order_of (length s.vars) (statement_edges s formats) order loops).once

  tested : (b : Bool) → list_all is_dense levels ≡ b
      → list_any (is_inside_sum s order) (head s formats) ≡ list_any (is_sparse_in_tail s order) levels
  tested true dense =
      ap (λ ls. list_any (is_inside_sum s order) (by_level ls s.left.vars)) (no_head levels dense)
      ∙ sym (none_of_dense (contains (behind_sum s order)) s.left.vars levels dense)
  tested false sparse =
      any_same (is_inside_sum s order) (contains (behind_sum s order)) (head s formats)
      (each_weaker (λ v. (contains s.left.vars v ≡ true) × (contains order v ≡ true))
      (λ v. is_inside_sum s order v ≡ contains (behind_sum s order) v) (head s formats)
      (λ v there. behind_is s order v once there.1 (left_not_summed s h.numbered v there.0 (terms s.expr))) heads)
      ∙ sparse_in_head (contains (behind_sum s order)) s.left.vars levels
      (subst (StayPassing (contains (behind_sum s order))) (left_order s formats h order loops sparse)
      (tail_last s (contains s.left.vars) order once))
    where
      heads : Each (λ v. (contains s.left.vars v ≡ true) × (contains order v ≡ true)) (head s formats)
      heads = (each_parts (λ v. (contains s.left.vars v ≡ true) × (contains order v ≡ true)) (head s formats)
          (by_level (tail_levels levels) s.left.vars)
          (subst (Each (λ v. (contains s.left.vars v ≡ true) × (contains order v ≡ true)))
          (left_order s formats h order loops sparse ∙ whole s formats h) (kept (contains s.left.vars) order))).0

pub workspaces_are_for_tails : WorkspacesAreForTails
workspaces_are_for_tails s formats h order loops =
    ap (λ b. list_any is_unordered (result_levels s formats) || b)
    (tested s formats h order loops (list_all is_dense (result_levels s formats)) refl)

some_passes : (p : ℕ → Bool) (vs : List ℕ) (v : ℕ) → contains vs v ≡ true → p v ≡ true → list_any p vs ≡ true
some_passes p [] v there passes = absurd (true≢false (sym there))
some_passes p (u ∷ vs) v there passes = by (nat_eq u v) refl there (λ later. some_passes p vs v later passes)
  where
    by : (b : Bool) → nat_eq u v ≡ b → (b || contains vs v) ≡ true → (contains vs v ≡ true → list_any p vs ≡ true)
        → (p u || list_any p vs) ≡ true
    by true e here rest = or_first (p u) (list_any p vs) (ap p (eqb-true u v e) ∙ passes)
    by false e here rest = or_second (p u) (list_any p vs) (rest here)

pub sums_outside_call : SumsOutsideCall
sums_outside_call s formats order u v in_head before summed =
    or_second (list_any is_unordered (result_levels s formats)) (list_any (is_inside_sum s order) (head s formats))
    (some_passes (is_inside_sum s order) (head s formats) v in_head (some_passes (is_summed s) (outside order v) u before summed))
