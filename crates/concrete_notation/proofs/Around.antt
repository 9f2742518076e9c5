-- The loops of a term: the left variables and its own ones, each once.
use Rattle.std.specs.Prelude.{◌≡◌, ℕ, ◌<◌, Bool, true, false, not, ◌||◌, ◌&&◌, List, ◌++◌, length, refl}
use Rattle.std.proofs.Common.{◌∙◌, sym, ap, true≢false}
use Rattle.index_notation.specs.Statement.{IsDistinct, IsNumbered, numbers_from}
use Rattle.index_notation.specs.declared.syntax.Statement.{Statement}
use Rattle.expr_terms.specs.Terms.{contains, stands_in, is_own, own_variables}
use Rattle.expr_terms.specs.declared.term.Term.{Term}
use Rattle.concrete_notation.specs.Nests.{IsOrderOf, loops_of, left_in_order}
use Rattle.concrete_notation.proofs.Points.{contains_filtered, contains_both, distinct_filtered, distinct_both, each_contained}
use Rattle.concrete_notation.proofs.Points.{numbers_distinct, number_below}

both_of : (b c : Bool) → (b && c) ≡ true → (b ≡ true) × (c ≡ true)
both_of true c h = (refl, h)
both_of false c h = cc

not_so : (b : Bool) → not b ≡ true → b ≡ false
not_so true h = cc
not_so false h = refl

and_all : (b c : Bool) → (b ≡ true → c ≡ true) → (b && c) ≡ b
and_all true c h = h refl
and_all false c h = refl

module _ (s : Statement) (numbered : IsNumbered s) where
  pub left_below : (v : ℕ) → contains s.left.vars v ≡ true → v < length s.vars
  left_below = each_contained (λ v. v < length s.vars) s.left.vars numbered.left.vars_stand

  pub own_below : (t : Term) (v : ℕ) → contains (own_variables s t) v ≡ true → v < length s.vars
  own_below t v h =
      number_below (length s.vars) v
      (both_of (is_own s t.expr v) (contains (numbers_from 0 (length s.vars)) v)
      (sym (contains_filtered (is_own s t.expr) (numbers_from 0 (length s.vars)) v) ∙ h)).1

  pub own_is_not_left : (t : Term) (v : ℕ) → contains (own_variables s t) v ≡ true → contains s.left.vars v ≡ false
  own_is_not_left t v h =
      let own = both_of (is_own s t.expr v) (contains (numbers_from 0 (length s.vars)) v)
      (sym (contains_filtered (is_own s t.expr) (numbers_from 0 (length s.vars)) v) ∙ h) in
      not_so (contains s.left.vars v) (both_of (stands_in s.accesses v t.expr) (not (contains s.left.vars v)) own.0).1

  pub left_is_not_own : (t : Term) (v : ℕ) → contains s.left.vars v ≡ true → contains (own_variables s t) v ≡ false
  left_is_not_own t v h = by (contains (own_variables s t) v) refl
    where
      by : (b : Bool) → contains (own_variables s t) v ≡ b → b ≡ false
      by true is = absurd (true≢false (sym h ∙ own_is_not_left t v is))
      by false is = refl

  pub own_distinct : (t : Term) → IsDistinct (own_variables s t)
  own_distinct t = distinct_filtered (is_own s t.expr) (numbers_from 0 (length s.vars)) (numbers_distinct 0 (length s.vars))

  module _ (order : List ℕ) (ordered : IsOrderOf (length s.vars) order) where
    pub loops_distinct : (t : Term) → IsDistinct (loops_of s order (own_variables s t))
    loops_distinct t = distinct_filtered (λ v. contains s.left.vars v || contains (own_variables s t) v) order ordered.once

    pub loops_contain : (t : Term) (v : ℕ)
        → contains (loops_of s order (own_variables s t)) v ≡ (contains s.left.vars v || contains (own_variables s t) v)
    loops_contain t v =
        contains_filtered (λ w. contains s.left.vars w || contains (own_variables s t) w) order v
        ∙ and_all (contains s.left.vars v || contains (own_variables s t) v) (contains order v)
        (λ h. ordered.all v (below (contains s.left.vars v) refl h))
      where
        below : (b : Bool) → contains s.left.vars v ≡ b → (b || contains (own_variables s t) v) ≡ true → v < length s.vars
        below true is h = left_below v is
        below false is h = own_below t v h

    pub keys_distinct : IsDistinct (left_in_order s order)
    keys_distinct = distinct_filtered (λ v. contains s.left.vars v || false) order ordered.once

    pub keys_contain : (v : ℕ) → contains (left_in_order s order) v ≡ contains s.left.vars v
    keys_contain v =
        contains_filtered (λ w. contains s.left.vars w || false) order v
        ∙ ap (λ b. b && contains order v) (or_none (contains s.left.vars v))
        ∙ and_all (contains s.left.vars v) (contains order v) (λ h. ordered.all v (left_below v h))
      where
        or_none : (b : Bool) → (b || false) ≡ b
        or_none true = refl
        or_none false = refl

    -- the keys and a term's own variables are its loops
    pub around_distinct : (keys : List ℕ) → IsDistinct keys → ((v : ℕ) → contains keys v ≡ contains s.left.vars v) → (t : Term)
        → IsDistinct (keys ++ own_variables s t)
    around_distinct keys once are t =
        distinct_both keys (own_variables s t) once (own_distinct t) (λ v h. left_is_not_own t v (sym (are v) ∙ h))

    pub around_contain : (keys : List ℕ) → ((v : ℕ) → contains keys v ≡ contains s.left.vars v) → (t : Term) (v : ℕ)
        → contains (loops_of s order (own_variables s t)) v ≡ contains (keys ++ own_variables s t) v
    around_contain keys are t v =
        loops_contain t v ∙ ap (λ b. b || contains (own_variables s t) v) (sym (are v)) ∙ sym (contains_both keys (own_variables s t) v)
