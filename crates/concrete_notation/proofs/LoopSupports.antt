-- The coordinates to which loops contribute: those at which some term is present.
use Rattle.std.specs.Prelude.{◌≡◌, ◌⊎◌, ℕ, zero, suc, ◌<◌, Bool, true, false, nat_eq, ◌||◌, if◌then◌else◌, List, [], ◌∷◌, ◌++◌, map, refl}
use Rattle.std.proofs.Common.{◌∙◌, sym, ap, subst, arith, inl, inr}
use Rattle.std.proofs.lemmas.Bool.{cases_eq, eqb-true, eqb-false, eq-eqb}
use Rattle.numbers.specs.Arithmetic.{Arithmetic}
use Rattle.tensor_map.specs.Entries.{Entry, Listed}
use Rattle.tensor_map.proofs.Lemmas.{listed_append}
use Rattle.index_notation.specs.declared.syntax.Access.{Access}
use Rattle.expr_terms.specs.Points.{with_coordinate}
use Rattle.expr_terms.specs.Terms.{contains, term_value}
use Rattle.expr_terms.specs.declared.term.Term.{Term}
use Rattle.expr_terms.proofs.PointLaws.{unequal, coordinate_same, coordinate_other}
use Rattle.workspaces.specs.Presence.{is_present}
use Rattle.concrete_notation.specs.declared.concrete.Concrete.{Concrete, Add, Forall', Both', Where', Row_of-Concrete}
use Rattle.concrete_notation.specs.declared.concrete.Concrete.{end_of-Concrete, more_of-Concrete}
use Rattle.concrete_notation.specs.Contributions.{Inputs, rows_below, rows_of_term, contributions, contributions_in}
use Rattle.concrete_notation.specs.Nests.{Nest, inside, nests, nests_in, workspaces, workspaces_in}
use Rattle.concrete_notation.specs.Right.{IsSome}
use Rattle.concrete_notation.proofs.LoopSums.{none_of_both}
use Rattle.concrete_notation.proofs.Points.{neither, or_second, or_first}

pub some_first : {X : Type 0} (P : X → Type 0) (xs ys : List X) → IsSome P xs → IsSome P (xs ++ ys)
some_first P [] ys h = absurd h
some_first P (x ∷ xs) ys (inl h) = inl h
some_first P (x ∷ xs) ys (inr h) = inr (some_first P xs ys h)

pub some_second : {X : Type 0} (P : X → Type 0) (xs ys : List X) → IsSome P ys → IsSome P (xs ++ ys)
some_second P [] ys h = h
some_second P (x ∷ xs) ys h = inr (some_second P xs ys h)

pub some_either : {X : Type 0} (P : X → Type 0) (xs ys : List X) → IsSome P (xs ++ ys) → IsSome P xs ⊎ IsSome P ys
some_either P [] ys h = inr h
some_either P (x ∷ xs) ys (inl h) = inl (inl h)
some_either P (x ∷ xs) ys (inr h) = elim (some_either P xs ys h) [ inl k ↦ inl (inr k) | inr k ↦ inr k ]

-- some point of which P is true differs from the given one at these variables alone, each below its range
pub record SomePoint (ranges : ℕ → ℕ) (vars : List ℕ) (point : ℕ → ℕ) (P : (ℕ → ℕ) → Type 0) : Type 0 where
  pub at : ℕ → ℕ
  pub others : (w : ℕ) → contains vars w ≡ false → at w ≡ point w
  pub below : (w : ℕ) → contains vars w ≡ true → at w < ranges w
  pub holds : P at

-- some coordinate of the range lists it
record ListedBelow (n : ℕ) (f : ℕ → List Entry) (coords : List ℕ) : Type 0 where
  x : ℕ
  below : x < n
  listed : Listed (f x) coords

listed_below : (n : ℕ) (f : ℕ → List Entry) (coords : List ℕ) → Listed (rows_below n f) coords → ListedBelow n f coords
listed_below zero f coords h = absurd h
listed_below (suc n) f coords h = elim ((listed_append coords (rows_below n f) (f n)).0 h) [
  | inl k ↦ let b = listed_below n f coords k in record { x = b.x; below = omega (arith, b.below); listed = b.listed }
  | inr k ↦ record { x = n; below = omega arith; listed = k }
]

within_or_last : (n x : ℕ) → x < suc n → (x < n) ⊎ (x ≡ n)
within_or_last n x l = grind (arith, l)

below_listed : (n : ℕ) (f : ℕ → List Entry) (coords : List ℕ) (x : ℕ) → x < n → Listed (f x) coords → Listed (rows_below n f) coords
below_listed zero f coords x l h = absurd (omega (arith, l))
below_listed (suc n) f coords x l h = elim (within_or_last n x l) [
  | inl k ↦ (listed_append coords (rows_below n f) (f n)).1 (inl (below_listed n f coords x k h))
  | inr k ↦ (listed_append coords (rows_below n f) (f n)).1 (inr (subst (λ y. Listed (f y) coords) k h))
]

some_inside : (P Q : Nest → Type 0) (v : ℕ) (ns : List Nest) → ((n : Nest) → P n → Q (inside v n)) → IsSome P ns
    → IsSome Q (map (inside v) ns)
some_inside P Q v [] f h = absurd h
some_inside P Q v (n ∷ ns) f (inl h) = inl (f n h)
some_inside P Q v (n ∷ ns) f (inr h) = inr (some_inside P Q v ns f h)

-- a nest inside a loop is at some coordinate
record SomeCoordinate (P : ℕ → Nest → Type 0) (ns : List Nest) (n : ℕ) : Type 0 where
  x : ℕ
  below : x < n
  some : IsSome (P x) ns

inside_some : (Q : Nest → Type 0) (P : ℕ → Nest → Type 0) (v n : ℕ) (ns : List Nest)
    → ((m : Nest) → Q (inside v m) → (x : ℕ) × (x < n) × P x m) → IsSome Q (map (inside v) ns) → SomeCoordinate P ns n
inside_some Q P v n [] f h = absurd h
inside_some Q P v n (m ∷ ns) f (inl h) = let k = f m h in record { x = k.0; below = k.1; some = inl k.2 }
inside_some Q P v n (m ∷ ns) f (inr h) =
    let k = inside_some Q P v n ns f h in record { x = k.x; below = k.below; some = inr k.some }

module _ (ranges : ℕ → ℕ) (P : (ℕ → ℕ) → Type 0) (v : ℕ) (vars : List ℕ) (point : ℕ → ℕ) where
  into_loop : (x : ℕ) → x < ranges v → SomePoint ranges vars (with_coordinate point v x) P → SomePoint ranges (v ∷ vars) point P
  into_loop x l s = record {
    at = s.at;
    others = λ w e. let both = neither (nat_eq v w) (contains vars w) e in
        s.others w both.1 ∙ coordinate_other point v x w (eqb-false v w both.0);
    below = λ w e. by_inner w e (contains vars w) refl;
    holds = s.holds;
  }
    where
      or_false : (b : Bool) → (b || false) ≡ true → b ≡ true
      or_false true h = refl
      or_false false h = h

      by_inner : (w : ℕ) → (nat_eq v w || contains vars w) ≡ true → (b : Bool) → contains vars w ≡ b → s.at w < ranges w
      by_inner w e true is = s.below w is
      by_inner w e false is =
          let same : v ≡ w = eqb-true v w (or_false (nat_eq v w) (ap (λ b. nat_eq v w || b) (sym is) ∙ e)) in
          let there : s.at w ≡ x = s.others w is ∙ ap (with_coordinate point v x) (sym same) ∙ coordinate_same point v x in
          subst (λ u. s.at w < ranges u) same (omega (arith, there, l))

  out_of_loop : (s : SomePoint ranges (v ∷ vars) point P) → SomePoint ranges vars (with_coordinate point v (s.at v)) P
  out_of_loop s = record {
    at = s.at;
    others = λ w e. elim (cases_eq v w) [
      | inl same ↦ ap s.at (sym same) ∙ sym (coordinate_same point v (s.at v)) ∙ ap (with_coordinate point v (s.at v)) same
      | inr other ↦ s.others w (ap (λ b. b || contains vars w) (unequal v w other) ∙ e) ∙ sym (coordinate_other point v (s.at v) w other)
    ];
    below = λ w e. s.below w (or_second (nat_eq v w) (contains vars w) e);
    holds = s.holds;
  }

  first_below : (s : SomePoint ranges (v ∷ vars) point P) → s.at v < ranges v
  first_below s = s.below v (or_first (nat_eq v v) (contains vars v) (eq-eqb v v refl))

module _ (a : Arithmetic) (inputs : Inputs) (accesses : List Access) (target coords : List ℕ) where
  -- the term is present at a point with these coordinates
  abbrev pub IsThere : Term → (ℕ → ℕ) → Type 0
  IsThere t p = (map p target ≡ coords) × (is_present inputs.paths accesses p t.expr ≡ true)

  -- and the loops around it reach the point
  abbrev pub Reaches : (ℕ → ℕ) → Nest → Type 0
  Reaches point nest = SomePoint inputs.ranges nest.loops point (IsThere nest.term)

  term_listed : (t : Term) (p : ℕ → ℕ) → Listed (rows_of_term a inputs accesses target p t) coords → IsThere t p
  term_listed t p = by (is_present inputs.paths accesses p t.expr) refl
    where
      by : (b : Bool) → is_present inputs.paths accesses p t.expr ≡ b
          → Listed (if b then (record { coords = map p target; value = term_value a inputs.values accesses p t } ∷ []) else []) coords
          → IsThere t p
      by true present (inl here) = (here, present)
      by true present (inr more) = absurd more
      by false absent h = absurd h

  listed_term : (t : Term) (p : ℕ → ℕ) → IsThere t p → Listed (rows_of_term a inputs accesses target p t) coords
  listed_term t p h = by (is_present inputs.paths accesses p t.expr) h.1
    where
      by : (b : Bool) → b ≡ true
          → Listed (if b then (record { coords = map p target; value = term_value a inputs.values accesses p t } ∷ []) else []) coords
      by true is = inl h.0
      by false is = cc

  mutual
    pub loops_listed : (c : Concrete) → workspaces c ≡ [] → (point : ℕ → ℕ)
        → Listed (contributions a inputs accesses target c point) coords → IsSome (Reaches point) (nests c)
    loops_listed (Add t) plain point r =
        inl (record { at = point; others = λ w e. refl; below = λ w e. cc; holds = term_listed t point r })
    loops_listed (Forall' v p body) plain point r =
        let b = listed_below (inputs.ranges v)
        (λ x. contributions_in a inputs accesses target body (with_coordinate point v x)) coords r in
        some_inside (Reaches (with_coordinate point v b.x)) (Reaches point) v (nests_in body)
        (λ n s. into_loop inputs.ranges (IsThere n.term) v n.loops point b.x b.below s)
        (inside_listed body plain (with_coordinate point v b.x) b.listed)
    loops_listed (Both' p first q second) plain point r =
        let parts = none_of_both (workspaces_in first) (workspaces_in second) plain in
        elim ((listed_append coords (contributions_in a inputs accesses target first point)
        (contributions_in a inputs accesses target second point)).0 r) [
          | inl k ↦ some_first (Reaches point) (nests_in first) (nests_in second) (inside_listed first parts.0 point k)
          | inr k ↦ some_second (Reaches point) (nests_in first) (nests_in second) (inside_listed second parts.1 point k)
        ]
    loops_listed (Where' keys p body) plain point r = cc

    inside_listed : {m : _} (c : Row_of-Concrete m) → workspaces_in c ≡ [] → (point : ℕ → ℕ)
        → Listed (contributions_in a inputs accesses target c point) coords → IsSome (Reaches point) (nests_in c)
    inside_listed end_of-Concrete plain point r = absurd r
    inside_listed (more_of-Concrete c rest) plain point r = loops_listed c plain point r

  mutual
    pub listed_loops : (c : Concrete) → workspaces c ≡ [] → (point : ℕ → ℕ)
        → IsSome (Reaches point) (nests c) → Listed (contributions a inputs accesses target c point) coords
    listed_loops (Add t) plain point (inl s) =
        let same : s.at ≡ point = λ i w. s.others w refl i in
        listed_term t point (subst (IsThere t) same s.holds)
    listed_loops (Add t) plain point (inr s) = absurd s
    listed_loops (Forall' v p body) plain point r =
        let w = inside_some (Reaches point) (λ x. Reaches (with_coordinate point v x)) v (inputs.ranges v) (nests_in body)
        (λ n s. (
          s.at v,
          first_below inputs.ranges (IsThere n.term) v n.loops point s,
          out_of_loop inputs.ranges (IsThere n.term) v n.loops point s,
        )) r in
        below_listed (inputs.ranges v)
        (λ x. contributions_in a inputs accesses target body (with_coordinate point v x)) coords w.x w.below
        (listed_inside body plain (with_coordinate point v w.x) w.some)
    listed_loops (Both' p first q second) plain point r =
        let parts = none_of_both (workspaces_in first) (workspaces_in second) plain in
        (listed_append coords (contributions_in a inputs accesses target first point)
        (contributions_in a inputs accesses target second point)).1
        (elim (some_either (Reaches point) (nests_in first) (nests_in second) r) [
          | inl k ↦ inl (listed_inside first parts.0 point k)
          | inr k ↦ inr (listed_inside second parts.1 point k)
        ])
    listed_loops (Where' keys p body) plain point r = cc

    listed_inside : {m : _} (c : Row_of-Concrete m) → workspaces_in c ≡ [] → (point : ℕ → ℕ)
        → IsSome (Reaches point) (nests_in c) → Listed (contributions_in a inputs accesses target c point) coords
    listed_inside end_of-Concrete plain point r = absurd r
    listed_inside (more_of-Concrete c rest) plain point r = listed_loops c plain point r
