-- In a loop order each term fits its loops.
use Rattle.std.specs.Prelude.{◌≡◌, ◌≢◌, ◌⊎◌, ℕ, zero, suc, ◌+◌, ◌≤◌, ◌<◌, ◌==◌, nat_eq, Bool, true, false, not, ◌||◌}
use Rattle.std.specs.Prelude.{◌&&◌, cond, if◌then◌else◌, List, [], ◌∷◌, ◌++◌, length}
use Rattle.std.specs.Prelude.{map, filter, take, All, Some, None, slice_get, slice_index, slice_index_or, refl}
use Rattle.std.specs.List.{list_any, list_all}
use Rattle.std.proofs.Common.{◌∙◌, sym, ap, subst, arith, inl, inr}
use Rattle.std.proofs.lemmas.Bool.Decides.{nat_tests}
use Rattle.std.proofs.lemmas.List.{append_assoc, append-nil}
use Rattle.std.proofs.lemmas.List.Sorted.{All-permutation}
use Rattle.level_core.specs.declared.letter.Letter.TheVariants.{Dense}
use Rattle.level_core.specs.Kinds.{properties}
use Rattle.format_spec.specs.declared.format.FormatLevel.{FormatLevel}
use Rattle.format_spec.specs.Formats.{letters_of, modes_of, IsFormat}
use Rattle.index_notation.specs.Statement.{IsDistinct, IsNumbered, IsRead, AccessesUnder, AccessesUnder_in, numbers_from}
use Rattle.index_notation.specs.declared.syntax.Access.{Access}
use Rattle.index_notation.specs.declared.syntax.Expr.{Expr, Num, Access as AccessOf, Binary', Neg', Row_of-Expr, end_of-Expr, more_of-Expr}
use Rattle.index_notation.specs.declared.syntax.Statement.{Statement}
use Rattle.iteration_graph.specs.Edges.{AreFormed, neighbours, by_level, access_edges, format_of, edges_of, statement_edges}
use Rattle.iteration_graph.specs.Graphs.{IsLoopOrder, is_among, leads, has_edge}
use Rattle.iteration_graph.proofs.OrderLaws.{each_forward}
use Rattle.lists.specs.Each.{Each}
use Rattle.expr_terms.specs.Terms.{terms, terms_in, contains, is_at_access, stands_in, own_variables, is_own, stands_before}
use Rattle.expr_terms.proofs.TermLaws.{each_negated, each_of_sides}
use Rattle.expr_terms.specs.declared.term.Term.{Term}
use Rattle.concrete_notation.specs.declared.concrete.Concrete.{Concrete}
use Rattle.concrete_notation.specs.Nests.{Nest, IsOrderOf, loops_of, nest_of, nests}
use Rattle.concrete_notation.proofs.Orders.{is_order_of}
use Rattle.concrete_notation.proofs.Points.{contains_both, contains_filtered, each_contained}
use Rattle.loop_code.specs.declared.loops.LoopCode.{LoopCode}
use Rattle.loop_code.specs.Places.{EachAccess}
use Rattle.lowering.specs.Layouts.{levels_of, variables_of}
use Rattle.lowering.specs.Lowered.{IsInOrder}
use Rattle.lowering.specs.Seeking.{has_access, reached}
use Rattle.lowering.specs.Shapes.{Allows, AreGood, MayLoop, Fits, AllFit, IsLowered, variables_at}
use Rattle.lowering.specs.Starts.{StartsInPlace}
use Rattle.lowering.specs.Sums.{AreInner, HasSums, SuitsFormats, are_bound, first_sum, reads, sum_at, vars_at, vars_of}
use Rattle.lowering.specs.Wrapped.{wrapped}
use Rattle.lowering.proofs.Accesses.{each_access, or_left, or_right}
use Rattle.lowering.proofs.Reached.{reached_bound, reached_stops, reached_within}
use Rattle.lowering.proofs.Shapes.{root_good, root_in_place}
use Rattle.lowering.proofs.Standing.{all_bound, number_in, one_bound, same_by, self_test, stands_by}
use Rattle.lowering.proofs.Through.{sum_of_list, under_in}

clash : (b : Bool) → b ≡ true → b ≡ false → ⊥
clash b h g = cc

or_split : (b c : Bool) → (b || c) ≡ true → (b ≡ true) ⊎ (c ≡ true)
or_split true c h = inl refl
or_split false c h = inr h

-- the accesses of the terms of an expression are its own
mutual
  terms_under : (n : ℕ) (e : Expr) → AccessesUnder n e → Each (λ (t : Term). EachAccess (λ k. k < n) t.expr) (terms e)
  terms_under n (Num k) h = (tt, tt)
  terms_under n (AccessOf k) h = (h, tt)
  terms_under n (Binary' o p e q f) h =
      each_of_sides (λ (t : Term). EachAccess (λ k. k < n) t.expr) (λ t g. g) o (Binary' o p e q f) (terms_in e) (terms_in f)
      (under_in n e h.0, under_in n f h.1) (terms_under_in n e h.0) (terms_under_in n f h.1)
  terms_under n (Neg' p e) h =
      each_negated (λ (t : Term). EachAccess (λ k. k < n) t.expr) (λ t g. g) (terms_in e) (terms_under_in n e h)

  terms_under_in : {m : _} (n : ℕ) (row : Row_of-Expr m) → AccessesUnder_in n row
      → Each (λ (t : Term). EachAccess (λ k. k < n) t.expr) (terms_in row)
  terms_under_in n end_of-Expr h = tt
  terms_under_in n (more_of-Expr e rest) h = terms_under n e h

-- where each of some variables is bound all are reached
reached_all : (bound ws : List ℕ) → Each (λ w. contains bound w ≡ true) ws → reached bound ws ≡ length ws
reached_all bound [] h = refl
reached_all bound (w ∷ ws) h = ap (λ b. if b then suc (reached bound ws) else 0) h.0 ∙ ap suc (reached_all bound ws h.1)

each_at : (P : ℕ → Type 0) (ws : List ℕ) (i d : ℕ) → Each P ws → i < length ws → P (slice_index_or ws i d)
each_at P [] i d h l = absurd (omega (arith, l))
each_at P (w ∷ ws) zero d h l = h.0
each_at P (w ∷ ws) (suc i) d h l = each_at P ws i d h.1 (omega (arith, l))

-- places in lists
place_of : (xs : List ℕ) (w d : ℕ) → contains xs w ≡ true → (j : ℕ) × (j < length xs) × (slice_index_or xs j d ≡ w)
place_of [] w d h = absurd (cc h)
place_of (x ∷ xs) w d h = elim (or_split (nat_eq x w) (contains xs w) h) [
  | inl is ↦ (0, omega arith, same_by x w is)
  | inr more ↦ let p = place_of xs w d more in (suc p.0, omega (arith, p.1), p.2)
]

at_front : (xs ys : List ℕ) (j d : ℕ) → j < length xs → slice_index_or (xs ++ ys) j d ≡ slice_index_or xs j d
at_front [] ys j d l = absurd (omega (arith, l))
at_front (x ∷ xs) ys zero d l = refl
at_front (x ∷ xs) ys (suc j) d l = at_front xs ys j d (omega (arith, l))

among_front : (xs ys : List ℕ) (j w : ℕ) → j ≤ length xs → is_among (take j (xs ++ ys)) w ≡ true → contains xs w ≡ true
among_front xs ys zero w l h = absurd (cc h)
among_front [] ys (suc j) w l h = absurd (omega (arith, l))
among_front (x ∷ xs) ys (suc j) w l h = elim (or_split (x == w) (is_among (take j (xs ++ ys)) w) h) [
  | inl is ↦ or_left (nat_eq x w) (contains xs w) is
  | inr more ↦ or_right (nat_eq x w) (contains xs w) (among_front xs ys j w (omega (arith, l)) more)
]

any_first : {X : Type 0} (f : X → Bool) (xs ys : List X) → list_any f xs ≡ true → list_any f (xs ++ ys) ≡ true
any_first f [] ys h = absurd (cc h)
any_first f (x ∷ xs) ys h = elim (or_split (f x) (list_any f xs) h) [
  | inl is ↦ or_left (f x) (list_any f (xs ++ ys)) is
  | inr more ↦ or_right (f x) (list_any f (xs ++ ys)) (any_first f xs ys more)
]

any_second : {X : Type 0} (f : X → Bool) (xs ys : List X) → list_any f ys ≡ true → list_any f (xs ++ ys) ≡ true
any_second f [] ys h = h
any_second f (x ∷ xs) ys h = or_right (f x) (list_any f (xs ++ ys)) (any_second f xs ys h)

-- two levels one below the other give an edge
neighbours_edge : (ws : List ℕ) (i d : ℕ) → suc i < length ws
    → list_any (leads (slice_index_or ws i d) (slice_index_or ws (suc i) d)) (neighbours ws) ≡ true
neighbours_edge [] i d l = absurd (omega (arith, l))
neighbours_edge (v ∷ []) i d l = absurd (omega (arith, l))
neighbours_edge (v ∷ w ∷ rest) zero d l = or_left (leads v w (v, w)) (list_any (leads v w) (neighbours (w ∷ rest))) (both_same (v == v)
    (w == w) (eq_self v) (eq_self w))
  where
    eq_self : (n : ℕ) → (n == n) ≡ true
    eq_self n = grind (arith, nat_tests)

    both_same : (b c : Bool) → b ≡ true → c ≡ true → (b && c) ≡ true
    both_same b c h g = ap (λ x. x && c) h ∙ g
neighbours_edge (v ∷ w ∷ rest) (suc i) d l =
    or_right (leads (slice_index_or (w ∷ rest) i d) (slice_index_or (w ∷ rest) (suc i) d) (v, w))
    (list_any (leads (slice_index_or (w ∷ rest) i d) (slice_index_or (w ∷ rest) (suc i) d)) (neighbours (w ∷ rest)))
    (neighbours_edge (w ∷ rest) i d (omega (arith, l)))

all_full : (levels : List FormatLevel) (d : ℕ) → list_all (λ level. (properties level.letter).full) levels ≡ true
    → (properties (slice_index_or (letters_of levels) d Dense)).full ≡ true
all_full [] d h = refl
all_full (l ∷ levels) zero h = first (properties l.letter).full (list_all (λ level. (properties level.letter).full) levels) h
  where
    first : (b c : Bool) → (b && c) ≡ true → b ≡ true
    first true c h = refl
    first false c h = absurd (cc h)
all_full (l ∷ levels) (suc d) h = all_full levels d (second (properties l.letter).full (list_all (λ level.
    (properties level.letter).full) levels) h)
  where
    second : (b c : Bool) → (b && c) ≡ true → c ≡ true
    second true c h = h
    second false c h = absurd (cc h)

in_accesses : (formats : List (List FormatLevel)) (accesses : List Access) (k : ℕ) (access : Access) (f : ℕ × ℕ → Bool)
    → slice_get accesses k ≡ Some access → list_any f (access_edges (format_of formats access.tensor) access.vars) ≡ true
    → list_any f (edges_of formats accesses) ≡ true
in_accesses formats [] k access f h any = cc
in_accesses formats (a ∷ accesses) zero access f h any =
    any_first f (access_edges (format_of formats a.tensor) a.vars) (edges_of formats accesses)
    (subst (λ (b : Access). list_any f (access_edges (format_of formats b.tensor) b.vars) ≡ true) (same h) any)
  where
    same : Some a ≡ Some access → access ≡ a
    same h = cc
in_accesses formats (a ∷ accesses) (suc k) access f h any =
    any_second f (access_edges (format_of formats a.tensor) a.vars) (edges_of formats accesses)
    (in_accesses formats accesses k access f h any)

-- what stands before a variable in an order
before_by : (done rest : List ℕ) (w v : ℕ) → contains done w ≡ true → stands_before (done ++ v ∷ rest) w v ≡ true
before_by [] rest w v h = absurd (cc h)
before_by (x ∷ done) rest w v h = by (nat_eq x w) h (before_by done rest w v)
  where
    there : (done : List ℕ) → contains (done ++ v ∷ rest) v ≡ true
    there [] = or_left (nat_eq v v) (contains rest v) (self_test v)
    there (y ∷ done) = or_right (nat_eq y v) (contains (done ++ v ∷ rest) v) (there done)

    by : (b : Bool) → (b || contains done w) ≡ true → (contains done w ≡ true → stands_before (done ++ v ∷ rest) w v ≡ true)
        → (if b then contains (done ++ v ∷ rest) v else stands_before (done ++ v ∷ rest) w v) ≡ true
    by true h more = there done
    by false h more = more h

behind_there : (xs : List ℕ) (w v : ℕ) → stands_before xs w v ≡ true → contains xs v ≡ true
behind_there [] w v h = absurd (cc h)
behind_there (x ∷ xs) w v h = or_right (nat_eq x v) (contains xs v) (by (nat_eq x w) h (behind_there xs w v))
  where
    by : (b : Bool) → (if b then contains xs v else stands_before xs w v) ≡ true
        → (stands_before xs w v ≡ true → contains xs v ≡ true) → contains xs v ≡ true
    by true h more = h
    by false h more = more h

not_there : (x : ℕ) (xs : List ℕ) → Each (λ y. x ≢ y) xs → contains xs x ≡ false
not_there x [] h = refl
not_there x (y ∷ xs) h = let other : nat_eq y x ≡ false = test_apart x y h.0 in ap (λ b. b || contains xs x) other ∙ not_there x xs h.1
  where
    test_apart : (a b : ℕ) → a ≢ b → nat_eq b a ≡ false
    test_apart a b h = grind (arith, nat_tests, h)

-- no variable stands before itself, where none stands twice
none_before : (xs : List ℕ) → IsDistinct xs → (v : ℕ) → stands_before xs v v ≡ false
none_before [] once v = refl
none_before (x ∷ xs) once v = by (nat_eq x v) (same_by x v) (none_before xs once.1 v)
  where
    by : (b : Bool) → (b ≡ true → x ≡ v) → stands_before xs v v ≡ false → (if b then contains xs v else stands_before xs v v) ≡ false
    by true same more = ap (contains xs) (sym (same refl)) ∙ not_there x xs once.0
    by false same more = more

-- what stands before what stands before another stands before that
before_all : (xs : List ℕ) → IsDistinct xs → (u v w : ℕ) → stands_before xs u v ≡ true → stands_before xs v w ≡ true
    → stands_before xs u w ≡ true
before_all [] once u v w h g = absurd (cc h)
before_all (x ∷ xs) once u v w h g = by (nat_eq x u) (nat_eq x v) (same_by x v) (before_all xs once.1 u v w) h g
  where
    by : (b c : Bool) → (c ≡ true → x ≡ v)
        → (stands_before xs u v ≡ true → stands_before xs v w ≡ true → stands_before xs u w ≡ true)
        → (if b then contains xs v else stands_before xs u v) ≡ true
        → (if c then contains xs w else stands_before xs v w) ≡ true → (if b then contains xs w else stands_before xs u w) ≡ true
    by true true same more h g = g
    by true false same more h g = behind_there xs v w g
    by false true same more h g =
        absurd (clash (contains xs v) (behind_there xs u v h) (ap (contains xs) (sym (same refl)) ∙ not_there x xs once.0))
    by false false same more h g = more h g

-- an order up to a variable and behind it
record Split (order : List ℕ) (v : ℕ) : Type 0 where
  done : List ℕ
  rest : List ℕ
  all : order ≡ done ++ v ∷ rest
  before : (w : ℕ) → stands_before order w v ≡ true → contains done w ≡ true

split_at : (order : List ℕ) → IsDistinct order → (v : ℕ) → contains order v ≡ true → Split order v
split_at [] once v h = absurd (cc h)
split_at (x ∷ xs) once v h = by (nat_eq x v) (same_by x v) h (split_at xs once.1 v)
  where
    first : x ≡ v → Split (x ∷ xs) v
    first same = record {
      done = [];
      rest = xs;
      all = ap (λ y. y ∷ xs) same;
      before = λ w g. absurd (clash (contains xs v) (none w (nat_eq x w) g) (ap (contains xs) (sym same) ∙ not_there x xs once.0));
    }
      where
        none : (w : ℕ) (b : Bool) → (if b then contains xs v else stands_before xs w v) ≡ true → contains xs v ≡ true
        none w true g = g
        none w false g = behind_there xs w v g

    later : Split xs v → Split (x ∷ xs) v
    later s = record {
      done = x ∷ s.done;
      rest = s.rest;
      all = ap (λ ys. x ∷ ys) s.all;
      before = λ w g. at w (nat_eq x w) g;
    }
      where
        at : (w : ℕ) (b : Bool) → (if b then contains xs v else stands_before xs w v) ≡ true → (b || contains s.done w) ≡ true
        at w true g = refl
        at w false g = s.before w g

    by : (b : Bool) → (b ≡ true → x ≡ v) → (b || contains xs v) ≡ true → (contains xs v ≡ true → Split xs v) → Split (x ∷ xs) v
    by true same h more = first (same refl)
    by false same h more = later (more h)

module _ (s : Statement) (formats : List (List FormatLevel)) (numbered : IsNumbered s) (formed : AreFormed formats s.accesses)
    (orders : Each (SuitsFormats formats) s.accesses) where
  -- what is so of each access is so of the one with a number
  of_number : (P : Access → Type 0) (accesses : List Access) (k : ℕ) (access : Access) → Each P accesses
      → slice_get accesses k ≡ Some access → P access
  of_number P [] k access h is = absurd (cc is)
  of_number P (a ∷ accesses) zero access h is = subst P (same a access is) h.0
    where
      same : (a b : Access) → Some a ≡ Some b → a ≡ b
      same a b h = cc
  of_number P (a ∷ accesses) (suc k) access h is = of_number P accesses k access h.1 is

  -- each of the variables of the levels of an access is one of its variables
  each_mapped : (vars modes : List ℕ) → Each (λ mode. mode < length vars) modes
      → Each (λ w. contains vars w ≡ true) (map (slice_index vars) modes)
  each_mapped vars [] h = tt
  each_mapped vars (m ∷ modes) h = (at vars m h.0, each_mapped vars modes h.1)
    where
      at : (vars : List ℕ) (m : ℕ) → m < length vars → contains vars (slice_index vars m) ≡ true
      at [] m l = absurd (omega (arith, l))
      at (v ∷ vars) zero l = or_left (nat_eq v v) (contains vars v) (self_test v)
      at (v ∷ vars) (suc m) l = or_right (nat_eq v (slice_index vars m)) (contains vars (slice_index vars m)) (at vars m (omega
          (arith, l)))

  all_each : (n : ℕ) (modes : List ℕ) → All (λ mode. mode < n) modes → Each (λ mode. mode < n) modes
  all_each n [] h = tt
  all_each n (m ∷ modes) h = (h 0 0 (omega arith), all_each n modes (λ k d l. h (suc k) d (omega (arith, l))))

  own_vars : (access : Access) → IsFormat (format_of formats access.tensor) → length (format_of formats access.tensor) ≡ length access.vars
      → Each (λ w. contains access.vars w ≡ true) (by_level (format_of formats access.tensor) access.vars)
  own_vars access format long =
      each_mapped access.vars (modes_of (format_of formats access.tensor))
      (subst (λ n. Each (λ mode. mode < n) (modes_of (format_of formats access.tensor))) long
      (all_each (length (format_of formats access.tensor)) (modes_of (format_of formats access.tensor)) format.order.below))

  less_or_not : (a b : ℕ) → (a < b) ⊎ (b ≤ a)
  less_or_not a b = grind arith

  outside : (xs : List (List FormatLevel)) (i : ℕ) → length xs ≤ i → slice_index_or xs i [] ≡ []
  outside [] i h = refl
  outside (x ∷ xs) zero h = absurd (omega (arith, h))
  outside (x ∷ xs) (suc i) h = outside xs i (omega (arith, h))

  module _ (order : List ℕ) (placed : IsLoopOrder (length s.vars) (statement_edges s formats) order) where
    ordered : IsOrderOf (length s.vars) order
    ordered = is_order_of (length s.vars) (statement_edges s formats) order placed

    -- the variables of an access's levels are its own, and the statement's
    module _ (k : ℕ) (access : Access) (is : slice_get s.accesses k ≡ Some access) where
      variables : Each (λ w. contains access.vars w ≡ true) (variables_at s formats k)
      variables =
          subst (λ o. Each (λ w. contains access.vars w ≡ true) (variables_of formats o)) (sym is)
          (by (less_or_not access.tensor (length formats)))
        where
          by : (access.tensor < length formats) ⊎ (length formats ≤ access.tensor)
              → Each (λ w. contains access.vars w ≡ true) (by_level (format_of formats access.tensor) access.vars)
          by (inl below) =
              own_vars access (of_number (λ (a : Access). IsFormat (format_of formats a.tensor)) s.accesses k access formed is)
              (of_number (SuitsFormats formats) s.accesses k access orders is below).order
          by (inr above) =
              subst (λ (f : List FormatLevel). Each (λ w. contains access.vars w ≡ true) (by_level f access.vars))
              (sym (outside formats access.tensor above)) tt

      variable_below : (w : ℕ) → contains access.vars w ≡ true → w < length s.vars
      variable_below w h =
          each_contained (λ v. v < length s.vars) access.vars
          (of_number (IsRead (length s.tensors) (length s.vars)) s.accesses k access numbered.right is).vars_stand w h

      -- a loop that comes next reaches one level at most of an access with edges
      next_reaches : (done rest bound : List ℕ) (v : ℕ) → order ≡ done ++ v ∷ rest → ((w : ℕ) → contains bound w ≡ true
          → contains done w ≡ true)
          → contains done v ≡ false → MayLoop s formats bound v k
      next_reaches done rest bound v all known fresh d below part = elim (less_or_more (reached (v ∷ bound) ws) (suc (reached bound ws))) [
        | inl few ↦ few
        | inr many ↦ absurd (clash (contains done v) (reached_before many) fresh)
      ]
        where
          ws : List ℕ
          ws = variables_at s formats k

          less_or_more : (a b : ℕ) → (a ≤ b) ⊎ (b < a)
          less_or_more a b = grind arith

          within : reached (v ∷ bound) ws ≤ length ws
          within = reached_within (v ∷ bound) ws

          first : ℕ
          first = slice_index_or ws (reached bound ws) 0

          second : ℕ
          second = slice_index_or ws (suc (reached bound ws)) 0

          by_first : (b c : Bool) → (b || c) ≡ true → c ≡ false → b ≡ true
          by_first true c h g = refl
          by_first false c h g = absurd (clash c h g)

          first_is : suc (reached bound ws) < reached (v ∷ bound) ws → v ≡ first
          first_is many =
              same_by v first (by_first (nat_eq v first) (contains bound first) (reached_bound (v ∷ bound) ws (reached bound ws) 0
              (omega (arith, many)))
              (reached_stops bound ws 0 (omega (arith, many, within))))

          edges_here : list_all (λ level. (properties level.letter).full) (format_of formats access.tensor) ≡ false
          edges_here = by (list_all (λ level. (properties level.letter).full) (format_of formats access.tensor)) refl
            where
              by : (b : Bool) → list_all (λ level. (properties level.letter).full) (format_of formats access.tensor) ≡ b → b ≡ false
              by false h = refl
              by true h =
                  absurd (clash (properties (slice_index_or (letters_of (format_of formats access.tensor)) d Dense)).full
                  (all_full (format_of formats access.tensor) d h)
                  (sym (ap (λ o. (properties (slice_index_or (letters_of (levels_of formats o)) d Dense)).full) is) ∙ part))

          edge : suc (reached bound ws) < reached (v ∷ bound) ws → has_edge (statement_edges s formats) v second ≡ true
          edge many =
              any_second (leads v second) (access_edges (format_of formats s.left.tensor) s.left.vars) (edges_of formats s.accesses)
              (in_accesses formats s.accesses k access (leads v second) is
              (ap (λ b. list_any (leads v second) (if b then [] else neighbours (by_level
              (format_of formats access.tensor) access.vars))) edges_here
              ∙ ap (λ o. list_any (leads v second) (neighbours (variables_of formats o))) (sym is)
              ∙ ap (λ u. list_any (leads u second) (neighbours ws)) (first_is many)
              ∙ neighbours_edge ws (reached bound ws) 0 (omega (arith, many, within))))

          second_known : suc (reached bound ws) < reached (v ∷ bound) ws → contains (done ++ v ∷ []) second ≡ true
          second_known many = contains_both done (v ∷ []) second
              ∙ by (or_split (nat_eq v second) (contains bound second) (reached_bound (v ∷ bound) ws (suc (reached bound ws)) 0 many))
            where
              by : (nat_eq v second ≡ true) ⊎ (contains bound second ≡ true) → (contains done second || (nat_eq v second || false)) ≡ true
              by (inl h) = or_right (contains done second) (nat_eq v second || false) (or_left (nat_eq v second) false h)
              by (inr h) = or_left (contains done second) (nat_eq v second || false) (known second h)

          long : (xs : List ℕ) (x : ℕ) → length (xs ++ x ∷ []) ≡ suc (length xs)
          long [] x = refl
          long (y ∷ xs) x = ap suc (long xs x)

          longer : (xs ys : List ℕ) → length xs ≤ length (xs ++ ys)
          longer [] ys = omega arith
          longer (x ∷ xs) ys = let more = longer xs ys in omega (arith, more)

          order_is : order ≡ (done ++ v ∷ []) ++ rest
          order_is = all ∙ sym (append_assoc done (v ∷ []) rest)

          reached_before : suc (reached bound ws) < reached (v ∷ bound) ws → contains done v ≡ true
          reached_before many =
              let p = place_of (done ++ v ∷ []) second 0 (second_known many) in
              let size = long done v in
              let total = longer (done ++ v ∷ []) rest in
              let count : length ((done ++ v ∷ []) ++ rest) ≡ length s.vars = ap length (sym order_is) ∙ placed.count in
              let in_order : slice_index_or order p.0 0 ≡ second =
              ap (λ xs. slice_index_or xs p.0 0) order_is ∙ at_front (done ++ v ∷ []) rest p.0 0 p.1 ∙ p.2 in
              let v_in : contains access.vars v ≡ true =
              ap (contains access.vars) (first_is many) ∙ each_at (λ w. contains access.vars w ≡ true) ws
              (reached bound ws) 0 variables (omega (arith, many, within)) in
              let forward = each_forward (length s.vars) (statement_edges s formats) order v p.0 0 placed (omega
              (arith, p.1, total, count)) (variable_below v v_in)
              (ap (has_edge (statement_edges s formats) v) in_order ∙ edge many) in
              among_front done (v ∷ rest) p.0 v (omega (arith, p.1, size)) (ap (λ xs. is_among (take p.0 xs) v) (sym all) ∙ forward)

    some_access : (accesses : List Access) (k : ℕ) → k < length accesses → (access : Access) × (slice_get accesses k ≡ Some access)
    some_access [] k l = absurd (omega (arith, l))
    some_access (a ∷ accesses) zero l = (a, refl)
    some_access (a ∷ accesses) (suc k) l = some_access accesses k (omega (arith, l))

    each_as_in : (P Q : ℕ → Type 0) (ws : List ℕ) → ((w : ℕ) → P w → Q w) → Each P ws → Each Q ws
    each_as_in P Q [] f h = tt
    each_as_in P Q (w ∷ ws) f h = (f w h.0, each_as_in P Q ws f h.1)

    apart_front : (done rest : List ℕ) (v : ℕ) → IsDistinct (done ++ v ∷ rest) → contains done v ≡ false
    apart_front [] rest v h = refl
    apart_front (x ∷ done) rest v h =
        let other : nat_eq x v ≡ false = let apart = middle done h.0 in grind (arith, nat_tests, apart) in
        ap (λ b. b || contains done v) other ∙ apart_front done rest v h.1
      where
        middle : (done : List ℕ) → Each (λ y. x ≢ y) (done ++ v ∷ rest) → x ≢ v
        middle [] h = h.0
        middle (y ∷ done) h = middle done h.1

    -- a statement's loops may be lowered in its order, for which its sums are inner
    pub all_allowed : HasSums s formats → AreInner s order → Allows s formats order
    all_allowed sums inner = record {
      apart = none_before order ordered.once;
      behind = before_all order ordered.once;
      next = λ bound v k there before l.
          let p = some_access s.accesses k l in
          let split = split_at order ordered.once v there in
          next_reaches k p.0 p.1 split.done split.rest bound v split.all
          (λ w h. split.before w (each_contained (λ u. stands_before order u v ≡ true) bound before w h))
          (apart_front split.done split.rest v (subst IsDistinct split.all ordered.once));
      whole = λ bound k l h. let p = some_access s.accesses k l in
          reached_all bound (variables_at s formats k)
          (each_as_in (λ w. contains p.0.vars w ≡ true) (λ w. contains bound w ≡ true) (variables_at s formats k)
          (λ w is. one_bound bound (vars_at s k) h w (ap (λ o. contains (vars_of o) w) p.1 ∙ is)) (variables k p.0 p.1));
      sums = sums;
      inner = inner;
      known = λ n l. ordered.all (sum_at s n).var (sum_of_list (length s.vars) (first_sum s) s.sums sums.numbers n l).0;
    }

    module _ (t : Term) where
      abbrev around : ℕ → Bool
      around v = contains s.left.vars v || contains (own_variables s t) v

      -- the variables of the term's accesses have loops around it
      variable_around : (k : ℕ) (access : Access) → has_access t.expr k ≡ true → slice_get s.accesses k ≡ Some access → (w : ℕ)
          → contains access.vars w ≡ true → around w ≡ true
      variable_around k access has is w h = by (contains s.left.vars w) refl
        where
          stands : stands_in s.accesses w t.expr ≡ true
          stands = stands_by s.accesses w k t.expr has (ap (is_at_access w) is ∙ h)

          both : (a b c : Bool) → a ≡ true → b ≡ false → c ≡ true → ((a && not b) && c) ≡ true
          both a b c f g i = ap (λ x. (x && not b) && c) f ∙ ap (λ x. not x && c) g ∙ i

          by : (b : Bool) → contains s.left.vars w ≡ b → (b || contains (own_variables s t) w) ≡ true
          by true left = refl
          by false left =
              contains_filtered (is_own s t.expr) (numbers_from 0 (length s.vars)) w
              ∙ both (stands_in s.accesses w t.expr) (contains s.left.vars w) (contains (numbers_from 0 (length s.vars)) w) stands left
              (number_in 0 (length s.vars) w (omega arith) (let below = variable_below k access is w h in
              let high : w < 0 + length s.vars = omega (arith, below) in high))

      fits_rest : EachAccess (λ k. k < length s.accesses) t.expr → (rest done bound : List ℕ) → order ≡ done ++ rest
          → ((w : ℕ) → contains bound w ≡ (around w && contains done w)) → Fits s order bound (filter around rest) t
      fits_rest below [] done bound all are =
          each_access (λ k. k < length s.accesses)
          (λ k. (k < length s.accesses) × (are_bound bound (vars_at s k) ≡ true)) t.expr
          (λ k has l. (l, known k has (some_access s.accesses k l))) below
        where
          known : (k : ℕ) → has_access t.expr k ≡ true → ((access : Access) × (slice_get s.accesses k ≡ Some access))
              → are_bound bound (vars_at s k) ≡ true
          known k has p = all_bound bound (vars_at s k) (λ w at.
              let h : contains p.0.vars w ≡ true = sym (ap (λ o. contains (vars_of o) w) p.1) ∙ at in
              are w ∙ ap (λ b. b && contains done w) (variable_around k p.0 has p.1 w h)
              ∙ ap (λ xs. contains xs w) (sym (all ∙ append-nil done)) ∙ ordered.all w (variable_below k p.0 p.1 w h))
      fits_rest below (v ∷ rest) done bound all are =
          by (around v) refl
          (λ skips. fits_rest below rest (done ++ v ∷ []) bound (all ∙ sym (append_assoc done (v ∷ []) rest)) (still skips))
          (λ takes. fits_rest below rest (done ++ v ∷ []) (v ∷ bound) (all ∙ sym (append_assoc done (v ∷ []) rest)) (more takes))
        where
          at : (w : ℕ) → contains (done ++ v ∷ []) w ≡ (contains done w || (nat_eq v w || false))
          at w = contains_both done (v ∷ []) w

          still : around v ≡ false → (w : ℕ) → contains bound w ≡ (around w && contains (done ++ v ∷ []) w)
          still skips w = are w ∙ cases (nat_eq v w) (around w) (contains done w) (λ h. ap around (sym (same_by v w h)) ∙ skips)
              ∙ ap (λ b. around w && b) (sym (at w))
            where
              cases : (x a c : Bool) → (x ≡ true → a ≡ false) → (a && c) ≡ (a && (c || (x || false)))
              cases true a c f = ap (λ b. b && c) (f refl) ∙ sym (ap (λ b. b && (c || true)) (f refl))
              cases false true true f = refl
              cases false true false f = refl
              cases false false c f = refl

          more : around v ≡ true → (w : ℕ) → contains (v ∷ bound) w ≡ (around w && contains (done ++ v ∷ []) w)
          more takes w =
              ap (λ b. nat_eq v w || b) (are w)
              ∙ cases (nat_eq v w) (around w) (contains done w) (λ h. ap around (sym (same_by v w h)) ∙ takes)
              ∙ ap (λ b. around w && b) (sym (at w))
            where
              or_true : (c : Bool) → (c || true) ≡ true
              or_true true = refl
              or_true false = refl

              cases : (x a c : Bool) → (x ≡ true → a ≡ true) → (x || (a && c)) ≡ (a && (c || (x || false)))
              cases true a c f = sym (ap (λ b. b && (c || true)) (f refl) ∙ or_true c)
              cases false true true f = refl
              cases false true false f = refl
              cases false false c f = refl

          in_done : (w : ℕ) → contains bound w ≡ true → contains done w ≡ true
          in_done w h = second (around w) (contains done w) (sym (are w) ∙ h)
            where
              second : (a c : Bool) → (a && c) ≡ true → c ≡ true
              second true c h = h
              second false c h = absurd (cc h)

          in_order : contains order v ≡ true
          in_order = ap (λ xs. contains xs v) all ∙ there done
            where
              there : (done : List ℕ) → contains (done ++ v ∷ rest) v ≡ true
              there [] = or_left (nat_eq v v) (contains rest v) (self_test v)
              there (y ∷ done) = or_right (nat_eq y v) (contains (done ++ v ∷ rest) v) (there done)

          before : (ws : List ℕ) → ((w : ℕ) → contains ws w ≡ true → contains done w ≡ true)
              → Each (λ w. stands_before order w v ≡ true) ws
          before [] f = tt
          before (w ∷ ws) f = (
            ap (λ xs. stands_before xs w v) all
                ∙ before_by done rest w v (f w (or_left (nat_eq w w) (contains ws w) (self_test w))),
            before ws (λ u h. f u (or_right (nat_eq w u) (contains ws u) h)),
          )

          by : (b : Bool) → around v ≡ b → (around v ≡ false → Fits s order bound (filter around rest) t)
              → (around v ≡ true → Fits s order (v ∷ bound) (filter around rest) t)
              → Fits s order bound (cond b (v ∷ filter around rest) (filter around rest)) t
          by true is f g = (in_order, before bound in_done, g is)
          by false is f g = f is

      term_fits : EachAccess (λ k. k < length s.accesses) t.expr → Fits s order [] (loops_of s order (own_variables s t)) t
      term_fits below = fits_rest below order [] [] refl (λ w. none (around w))
        where
          none : (b : Bool) → false ≡ (b && false)
          none true = refl
          none false = refl

  each_all : {X : Type 0} (P : X → Type 0) (xs : List X) → Each P xs → All P xs
  each_all P [] h = λ k d l. absurd (omega (arith, l))
  each_all P (x ∷ xs) h = λ k d l. at (each_all P xs h.1) k d l
    where
      at : All P xs → (k : ℕ) (d : _) → k < suc (length xs) → P (slice_index_or (x ∷ xs) k d)
      at more zero d l = h.0
      at more (suc k) d l = more k d (omega (arith, l))

  pub all_fit : (c : Concrete) (h : IsInOrder s formats c) → AllFit s h.order [] c
  all_fit c h = all_each_of (λ (n : Nest). Fits s h.order [] n.loops n.term) (nests c)
      (All-permutation (λ (n : Nest). Fits s h.order [] n.loops n.term) (map (nest_of s h.order) (terms s.expr)) (nests c) h.terms
      (each_all (λ (n : Nest). Fits s h.order [] n.loops n.term) (map (nest_of s h.order) (terms s.expr))
      (mapped (terms s.expr) (terms_under (length s.accesses) s.expr numbered.expr))))
    where
      all_each_of : {X : Type 0} (P : X → Type 0) (xs : List X) → All P xs → Each P xs
      all_each_of P [] g = tt
      all_each_of P (x ∷ xs) g = (g 0 x (omega arith), all_each_of P xs (λ k d l. g (suc k) d (omega (arith, l))))

      mapped : (ts : List Term) → Each (λ (t : Term). EachAccess (λ k. k < length s.accesses) t.expr) ts
          → Each (λ (n : Nest). Fits s h.order [] n.loops n.term) (map (nest_of s h.order) ts)
      mapped [] g = tt
      mapped (t ∷ ts) g = (term_fits h.order h.is_order t g.0, mapped ts g.1)

-- the loops of a statement in its order, with the sums around them that start outside all loops
pub root_from : (s : Statement) (formats : List (List FormatLevel)) (c : Concrete) → IsNumbered s → HasSums s formats
    → Each (SuitsFormats formats) s.accesses → AreFormed formats s.accesses → IsInOrder s formats c → (limit : ℕ) (loops all : LoopCode)
    → limit ≡ length s.sums → IsLowered s formats [] c loops → all ≡ wrapped s formats (reads s limit c) None [] limit loops
    → AreGood s formats [] (λ k. 0) (λ k. false) all
root_from s formats c numbered sums suits formed h limit loops all top low is =
    subst (AreGood s formats [] (λ k. 0) (λ k. false))
    (sym (is ∙ ap (λ n. wrapped s formats (reads s n c) None [] n loops) top))
    (root_good s formats h.order (all_allowed s formats numbered formed suits h.order h.is_order sums h.inner) c
    (all_fit s formats numbered formed suits c h) loops low)

-- and each of their sums starts in place
pub root_placed : (s : Statement) (formats : List (List FormatLevel)) (c : Concrete) → IsNumbered s → HasSums s formats
    → Each (SuitsFormats formats) s.accesses → AreFormed formats s.accesses → IsInOrder s formats c → (limit : ℕ) (loops all : LoopCode)
    → limit ≡ length s.sums → IsLowered s formats [] c loops → all ≡ wrapped s formats (reads s limit c) None [] limit loops
    → StartsInPlace s None [] 0 all
root_placed s formats c numbered sums suits formed h limit loops all top low is =
    subst (StartsInPlace s None [] 0)
    (sym (is ∙ ap (λ n. wrapped s formats (reads s n c) None [] n loops) top))
    (root_in_place s formats h.order (all_allowed s formats numbered formed suits h.order h.is_order sums h.inner) c
    (all_fit s formats numbered formed suits c h) loops low)
