-- Counting over distinct variables doesn't depend on their order.
use Rattle.std.specs.Prelude.{◌≡◌, ◌≢◌, ℕ, zero, suc, ◌+◌, nat_eq, Bool, true, false, ◌||◌, cond, not, List, [], ◌∷◌, refl}
use Rattle.std.proofs.Common.{◌∙◌, sym, ap}
use Rattle.std.proofs.lemmas.Bool.{eqb-true, eqb-false, eq-eqb}
use Rattle.index_notation.specs.Statement.{IsDistinct}
use Rattle.expr_terms.specs.PointLaws.{without}
use Rattle.expr_terms.specs.Points.{with_coordinate}
use Rattle.expr_terms.specs.Terms.{contains}
use Rattle.expr_terms.proofs.PointLaws.{coordinates_swap, without_none, without_distinct, contains_without, without_contains, not_contained}
use Rattle.loop_code.specs.Turns.{count_below}
use Rattle.loop_code.proofs.Turns.{count_none, count_plus}
use Rattle.lowering.specs.Right.{count_over}

pub count_same : (n : ℕ) (f g : ℕ → ℕ) → ((x : ℕ) → f x ≡ g x) → count_below n f ≡ count_below n g
count_same zero f g h = refl
count_same (suc n) f g h = ap (λ k. k + f n) (count_same n f g h) ∙ ap (λ k. count_below n g + k) (h n)

-- counts over two ranges change places
counts_swap : (n m : ℕ) (g : ℕ → ℕ → ℕ)
    → count_below n (λ x. count_below m (λ y. g x y)) ≡ count_below m (λ y. count_below n (λ x. g x y))
counts_swap zero m g = sym (count_none m)
counts_swap (suc n) m g =
    ap (λ k. k + count_below m (λ y. g n y)) (counts_swap n m g)
    ∙ sym (count_plus m (λ y. count_below n (λ x. g x y)) (λ y. g n y))

module _ (range : ℕ → ℕ) (f : (ℕ → ℕ) → ℕ) where
  count_over_swap : (v w : ℕ) (vs : List ℕ) → v ≢ w → (p : ℕ → ℕ)
      → count_over range (v ∷ w ∷ vs) f p ≡ count_over range (w ∷ v ∷ vs) f p
  count_over_swap v w vs apart p =
      counts_swap (range v) (range w) (λ x y. count_over range vs f (with_coordinate (with_coordinate p v x) w y))
      ∙ count_same (range w)
      (λ y. count_below (range v) (λ x. count_over range vs f (with_coordinate (with_coordinate p v x) w y)))
      (λ y. count_below (range v) (λ x. count_over range vs f (with_coordinate (with_coordinate p w y) v x)))
      (λ y. count_same (range v) (λ x. count_over range vs f (with_coordinate (with_coordinate p v x) w y))
      (λ x. count_over range vs f (with_coordinate (with_coordinate p w y) v x))
      (λ x. ap (count_over range vs f) (coordinates_swap p v x w y apart)))

  -- any of the variables may be counted over first
  count_over_first : (v : ℕ) (ws : List ℕ) → IsDistinct ws → contains ws v ≡ true → (p : ℕ → ℕ)
      → count_over range ws f p ≡ count_over range (v ∷ without v ws) f p
  count_over_first v [] distinct here p = absurd cc
  count_over_first v (w ∷ ws) distinct here p =
      by (nat_eq w v) refl here (λ here' x. count_over_first v ws distinct.1 here' (with_coordinate p w x))
    where
      by : (b : Bool) → nat_eq w v ≡ b → (b || contains ws v) ≡ true
          → (contains ws v ≡ true → (x : ℕ)
          → count_over range ws f (with_coordinate p w x) ≡ count_over range (v ∷ without v ws) f (with_coordinate p w x))
          → count_over range (w ∷ ws) f p ≡ count_over range (v ∷ cond (not b) (w ∷ without v ws) (without v ws)) f p
      by true e here rest =
          let is : w ≡ v = eqb-true w v e in
          ap (λ us. count_over range (w ∷ us) f p) (sym (without_none w ws distinct.0))
          ∙ ap (λ u. count_over range (u ∷ without u ws) f p) is
      by false e here rest =
          count_same (range w) (λ x. count_over range ws f (with_coordinate p w x))
          (λ x. count_over range (v ∷ without v ws) f (with_coordinate p w x)) (λ x. rest here x)
          ∙ count_over_swap w v (without v ws) (eqb-false w v e) p

  -- counting over distinct variables doesn't depend on their order
  pub count_over_order : (vs ws : List ℕ) → IsDistinct vs → IsDistinct ws → ((u : ℕ) → contains vs u ≡ contains ws u) → (p : ℕ → ℕ)
      → count_over range vs f p ≡ count_over range ws f p
  count_over_order [] [] distinct distinct' same p = refl
  count_over_order [] (w ∷ ws) distinct distinct' same p =
      absurd (let e : false ≡ true = same w ∙ ap (λ b. b || contains ws w) (eq-eqb w w refl) in cc)
  count_over_order (v ∷ vs) ws distinct distinct' same p =
      let here : contains ws v ≡ true = sym (same v) ∙ ap (λ b. b || contains vs v) (eq-eqb v v refl) in
      count_same (range v) (λ x. count_over range vs f (with_coordinate p v x))
      (λ x. count_over range (without v ws) f (with_coordinate p v x))
      (λ x. count_over_order vs (without v ws) distinct.1 (without_distinct v ws distinct') others (with_coordinate p v x))
      ∙ sym (count_over_first v ws distinct' here p)
    where
      by : (u : ℕ) (b : Bool) → nat_eq v u ≡ b → contains vs u ≡ contains (without v ws) u
      by u true e =
          let is : v ≡ u = eqb-true v u e in
          ap (contains vs) (sym is) ∙ not_contained v vs distinct.0 ∙ sym (without_contains v ws) ∙ ap (contains (without v ws)) is
      by u false e = sym (ap (λ b. b || contains vs u) e) ∙ same u ∙ sym (contains_without v ws u (eqb-false v u e))

      others : (u : ℕ) → contains vs u ≡ contains (without v ws) u
      others u = by u (nat_eq v u) refl
