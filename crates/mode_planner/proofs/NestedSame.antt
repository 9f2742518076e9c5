-- The value of a statement with nested sums depends on the values of the tensors that it reads, at coordinates of their orders.
use Rattle.std.specs.Prelude.{◌≡◌, ℕ, ◌+◌, Bool, true, false, nat_eq, cond, List, [], ◌∷◌, ◌++◌, length, refl}
use Rattle.std.proofs.lemmas.Bool.{eq-eqb}
use Rattle.lists.specs.Each.{Each}
use Rattle.lists.proofs.Each.{each_append}
use Rattle.numbers.specs.Arithmetic.{Arithmetic}
use Rattle.index_notation.specs.declared.syntax.Access.{Access}
use Rattle.index_notation.specs.declared.syntax.NestedSum.{NestedSum}
use Rattle.index_notation.specs.declared.syntax.Statement.{Statement}
use Rattle.expr_terms.specs.Nested.{accesses_with, flat, flat_values, free_in, nested_value, sum_access, sum_value}
use Rattle.expr_terms.specs.Nested.{values_with, with_tensor}
use Rattle.expr_terms.specs.Points.{point_of}
use Rattle.expr_terms.specs.Value.{value_of}
use Rattle.expr_terms.specs.ValueLaws.{AgreeAt}
use Rattle.expr_terms.proofs.PointLaws.{sum_over_same}
use Rattle.expr_terms.proofs.TermLaws.{statement_value_same}
use Rattle.expr_terms.proofs.ValueLaws.{value_of_same}

module _ (a : Arithmetic) (ranges : ℕ → ℕ) (vars : ℕ) where
  sum_same : (accesses : List Access) (sum : NestedSum) (values other : ℕ → List ℕ → ℕ) → Each (AgreeAt values other) accesses
      → (coords : List ℕ) → sum_value a ranges vars accesses values sum coords ≡ sum_value a ranges vars accesses other sum coords
  sum_same accesses sum values other agree coords =
      sum_over_same a ranges (sum.var ∷ []) (λ p. value_of a values accesses p sum.inside) (λ p. value_of a other accesses p sum.inside)
      (λ p. value_of_same a values other p p accesses agree sum.inside (λ v h. refl)) (point_of (free_in vars accesses sum) coords)

  -- one more tensor of the same values
  more_agree : (accesses : List Access) (tensor : ℕ) (one two : List ℕ → ℕ) (values other : ℕ → List ℕ → ℕ)
      → ((coords : List ℕ) → one coords ≡ two coords) → Each (AgreeAt values other) accesses
      → Each (AgreeAt (with_tensor values tensor one) (with_tensor other tensor two)) accesses
  more_agree [] tensor one two values other same agree = tt
  more_agree (access ∷ accesses) tensor one two values other same agree = (
    (λ coords long. by coords (agree.0 coords long) (nat_eq access.tensor tensor)),
    more_agree accesses tensor one two values other same agree.1,
  )
    where
      by : (coords : List ℕ) → values access.tensor coords ≡ other access.tensor coords → (b : Bool)
          → cond b (one coords) (values access.tensor coords) ≡ cond b (two coords) (other access.tensor coords)
      by coords agrees true = same coords
      by coords agrees false = agrees

  agree_with : (accesses : List Access) (tensor : ℕ) (sums : List NestedSum) (values other : ℕ → List ℕ → ℕ)
      → Each (AgreeAt values other) accesses
      → Each (AgreeAt (values_with a ranges vars accesses tensor sums values) (values_with a ranges vars accesses tensor sums other))
      (accesses_with vars accesses tensor sums)
  agree_with accesses tensor [] values other agree = agree
  agree_with accesses tensor (sum ∷ sums) values other agree =
      let one = sum_value a ranges vars accesses values sum in
      let two = sum_value a ranges vars accesses other sum in
      let same = sum_same accesses sum values other agree in
      let access = sum_access vars accesses tensor sum in
      agree_with (accesses ++ (access ∷ [])) (tensor + 1) sums (with_tensor values tensor one) (with_tensor other tensor two)
      (each_append (AgreeAt (with_tensor values tensor one) (with_tensor other tensor two)) accesses (access ∷ [])
      (more_agree accesses tensor one two values other same agree)
      ((λ coords long. by coords (values tensor coords) (other tensor coords) (nat_eq tensor tensor) (unequal_not tensor) same), tt))
    where
      unequal_not : (t : ℕ) → nat_eq t t ≡ true
      unequal_not t = eq-eqb t t refl

      by : (coords : List ℕ) (x y : ℕ) (b : Bool) → b ≡ true
          → ((cs : List ℕ) → sum_value a ranges vars accesses values sum cs ≡ sum_value a ranges vars accesses other sum cs)
          → cond b (sum_value a ranges vars accesses values sum coords) x ≡ cond b (sum_value a ranges vars accesses other sum coords) y
      by coords x y true is same = same coords
      by coords x y false is same = cc

pub nested_value_same : (a : Arithmetic) (s : Statement) (values other : ℕ → List ℕ → ℕ) → Each (AgreeAt values other) s.accesses
    → (ranges : ℕ → ℕ) (coords : List ℕ) → nested_value a s values ranges coords ≡ nested_value a s other ranges coords
nested_value_same a s values other agree ranges coords =
    statement_value_same a (flat s) (flat_values a s values ranges) (flat_values a s other ranges)
    (agree_with a ranges (length s.vars) s.accesses (length s.tensors) s.sums values other agree) ranges coords
