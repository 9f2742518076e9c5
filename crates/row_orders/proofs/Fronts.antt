-- The loops of each term begin with those over the head, where no summed variable stands before one of it.
use Rattle.std.specs.Prelude.{◌≡◌, ◌≢◌, ℕ, nat_eq, not, Bool, true, false, ◌||◌, cond, List, [], ◌∷◌, ◌++◌, filter, refl}
use Rattle.std.specs.List.{list_any}
use Rattle.std.proofs.Common.{◌∙◌, sym, ap, subst}
use Rattle.std.proofs.lemmas.List.Sums.{take_while-cons}
use Rattle.lists.specs.Each.{Each}
use Rattle.index_notation.specs.Statement.{IsDistinct}
use Rattle.expr_terms.proofs.TermLaws.{each_filtered}
use Rattle.concrete_notation.proofs.Points.{neither}
use Rattle.row_orders.specs.Takings.{outside}
use Rattle.row_orders.proofs.Lists.{apart_test, each_parts}
use Rattle.row_orders.proofs.Rising.{Starts}

-- what stands before a number in an order that another one begins
pub outside_more : (x : ℕ) (order : List ℕ) (h : ℕ) → x ≢ h → outside (x ∷ order) h ≡ x ∷ outside order h
outside_more x order h apart =
    take_while-cons (λ u. not (nat_eq u h)) x order
    ∙ ap (λ b. cond (not b) (x ∷ outside order h) []) (apart_test x h apart)

-- where nothing stands before each of these numbers that passes a test
abbrev AreFree : (ℕ → Bool) → List ℕ → List ℕ → Type 0
AreFree q order front = Each (λ h. list_any q (outside order h) ≡ false) front

free_behind : (q : ℕ → Bool) (x : ℕ) (order front : List ℕ) → Each (λ h. x ≢ h) front → AreFree q (x ∷ order) front
    → AreFree q order front
free_behind q x order [] apart free = tt
free_behind q x order (h ∷ front) apart free = (
  (neither (q x) (list_any q (outside order h)) (ap (list_any q) (sym (outside_more x order h apart.0)) ∙ free.0)).1,
  free_behind q x order front apart.1 free.1,
)

-- of an order's numbers that pass one of two tests, those begin that begin those that pass the first, as far as nothing that passes the
-- second stands before them
pub front_stays : (p q : ℕ → Bool) (order front rest : List ℕ) → IsDistinct order → filter p order ≡ front ++ rest
    → AreFree q order front → Starts front (filter (λ v. p v || q v) order)
front_stays p q order [] rest distinct is free = tt
front_stays p q [] (v ∷ front) rest distinct is free = absurd (none is)
  where
    none : [] ≡ v ∷ (front ++ rest) → ⊥
    none e = cc
front_stays p q (x ∷ order) (v ∷ front) rest distinct is free =
    by (p x) refl is (λ e apart. front_stays p q order front rest distinct.1 e (free_behind q x order front apart free.1))
    (λ e apart. front_stays p q order (v ∷ front) rest distinct.1 e (free_behind q x order (v ∷ front) apart free))
  where
    apart : Each (λ h. x ≢ h) (filter p order)
    apart = each_filtered (λ h. x ≢ h) p order distinct.0

    among : (more : List ℕ) → filter p order ≡ more ++ rest → Each (λ h. x ≢ h) more
    among more e = (each_parts (λ h. x ≢ h) more rest (subst (Each (λ h. x ≢ h)) e apart)).0

    head_is : (u : ℕ) (us ws : List ℕ) → u ∷ us ≡ v ∷ ws → v ≡ u
    head_is u us ws e = cc

    tail_is : (u : ℕ) (us ws : List ℕ) → u ∷ us ≡ v ∷ ws → us ≡ ws
    tail_is u us ws e = cc

    by : (b : Bool) → p x ≡ b → cond b (x ∷ filter p order) (filter p order) ≡ v ∷ (front ++ rest)
        → (filter p order ≡ front ++ rest → Each (λ h. x ≢ h) front → Starts front (filter (λ u. p u || q u) order))
        → (filter p order ≡ v ∷ (front ++ rest) → Each (λ h. x ≢ h) (v ∷ front)
        → Starts (v ∷ front) (filter (λ u. p u || q u) order))
        → Starts (v ∷ front) (cond (b || q x) (x ∷ filter (λ u. p u || q u) order) (filter (λ u. p u || q u) order))
    by true e whole here later =
        let rest_is : filter p order ≡ front ++ rest = tail_is x (filter p order) (front ++ rest) whole in
        (head_is x (filter p order) (front ++ rest) whole, here rest_is (among front rest_is))
    by false e whole here later =
        let passed : Each (λ h. x ≢ h) (v ∷ front) = among (v ∷ front) whole in
        let none : q x ≡ false =
        (neither (q x) (list_any q (outside order v)) (ap (list_any q) (sym (outside_more x order v passed.0)) ∙ free.0)).0 in
        subst (λ b. Starts (v ∷ front) (cond b (x ∷ filter (λ u. p u || q u) order) (filter (λ u. p u || q u) order))) (sym none)
        (later whole passed)
