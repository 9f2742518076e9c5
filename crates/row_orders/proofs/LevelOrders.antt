-- A result that isn't dense throughout orders the loops over the left variables: they stand in loop order as its levels do.
use Rattle.std.specs.Prelude.{◌≡◌, ◌≢◌, ℕ, zero, suc, ◌<◌, nat_eq, Bool, true, false, ◌&&◌, ◌||◌, cond, if◌then◌else◌}
use Rattle.std.specs.Prelude.{List, [], ◌∷◌, length, map, All, filter, take, slice_index, slice_index_or, refl}
use Rattle.std.specs.List.{list_all}
use Rattle.std.proofs.Common.{◌∙◌, sym, ap, subst, arith, true≢false}
use Rattle.std.proofs.lemmas.Bool.{eqb-true, eq-eqb}
use Rattle.std.proofs.lemmas.List.Folds.{list_any-append}
use Rattle.format_spec.specs.declared.format.FormatLevel.{FormatLevel}
use Rattle.format_spec.specs.Formats.{modes_of}
use Rattle.format_spec.proofs.Pigeonholes.{each_mode_stands}
use Rattle.index_notation.specs.Statement.{IsDistinct}
use Rattle.index_notation.specs.declared.syntax.Statement.{Statement}
use Rattle.iteration_graph.specs.Edges.{neighbours, access_edges, edges_of, statement_edges}
use Rattle.iteration_graph.specs.Graphs.{IsLoopOrder, has_edge, is_among, leads}
use Rattle.iteration_graph.proofs.OrderLaws.{each_forward}
use Rattle.lists.specs.Each.{Each}
use Rattle.expr_terms.specs.Terms.{contains}
use Rattle.concrete_notation.specs.Nests.{IsOrderOf}
use Rattle.concrete_notation.proofs.Around.{left_below}
use Rattle.concrete_notation.proofs.Orders.{is_order_of}
use Rattle.concrete_notation.proofs.Points.{neither, or_first, or_second}
use Rattle.row_orders.specs.Heads.{is_dense, left_levels, result_levels}
use Rattle.row_orders.specs.Orders.{HasResult}
use Rattle.row_orders.proofs.Lists.{apart_test, clash}

not_head : (b c : Bool) → (b || c) ≡ true → b ≡ false → c ≡ true
not_head true c h e = cc
not_head false c h e = h

same_test : (b c : Bool) → (b ≡ true → c ≡ true) → (c ≡ true → b ≡ true) → b ≡ c
same_test true true to from = refl
same_test true false to from = sym (to refl)
same_test false true to from = from refl
same_test false false to from = refl

filter_same : (p q : ℕ → Bool) (xs : List ℕ) → Each (λ y. p y ≡ q y) xs → filter p xs ≡ filter q xs
filter_same p q [] each = refl
filter_same p q (x ∷ xs) each =
    let rest = filter_same p q xs each.1 in
    let first = each.0 in
    λ i. cond (first i) (x ∷ rest i) (rest i)

-- where a variable stands in the order, another one stands before it
abbrev Precedes : List ℕ → ℕ → ℕ → Type 0
Precedes order u v = (k : ℕ) → k < length order → slice_index_or order k 0 ≡ v → is_among (take k order) u ≡ true

-- of each two neighbours in a list the first stands before the second in the order
abbrev Follow : List ℕ → List ℕ → Type 0
Follow order [] = Unit {0}
Follow order (v ∷ []) = Unit {0}
Follow order (u ∷ w ∷ rest) = Precedes order u w × Follow order (w ∷ rest)

follow_tail : (order : List ℕ) (v : ℕ) (vs : List ℕ) → Follow order (v ∷ vs) → Follow order vs
follow_tail order v [] f = tt
follow_tail order v (w ∷ ws) f = f.1

-- the first of the order can only be the first of the list
head_apart : (x : ℕ) (rest : List ℕ) (v : ℕ) (vs : List ℕ) → Follow (x ∷ rest) (v ∷ vs) → contains vs x ≡ false
head_apart x rest v [] f = refl
head_apart x rest v (w ∷ ws) f = by (nat_eq w x) refl (head_apart x rest w ws f.1)
  where
    by : (b : Bool) → nat_eq w x ≡ b → contains ws x ≡ false → (b || contains ws x) ≡ false
    by true e more = absurd (true≢false (sym (f.0 0 (omega arith) (sym (eqb-true w x e)))))
    by false e more = more

-- behind a first one that isn't in the list
precedes_behind : (x : ℕ) (rest : List ℕ) (u w : ℕ) → Precedes (x ∷ rest) u w → x ≢ u → Precedes rest u w
precedes_behind x rest u w before apart k h is =
    not_head (nat_eq x u) (is_among (take k rest) u) (before (suc k) (omega (arith, h)) is) (apart_test x u apart)

not_in : (u x : ℕ) (vs : List ℕ) → contains (u ∷ vs) x ≡ false → x ≢ u
not_in u x vs none same =
    clash (nat_eq u x) (eq-eqb u x (sym same)) (neither (nat_eq u x) (contains vs x) none).0

follow_behind : (x : ℕ) (rest vs : List ℕ) → Follow (x ∷ rest) vs → contains vs x ≡ false → Follow rest vs
follow_behind x rest [] f none = tt
follow_behind x rest (v ∷ []) f none = tt
follow_behind x rest (u ∷ w ∷ vs) f none = (
  precedes_behind x rest u w f.0 (not_in u x (w ∷ vs) none),
  follow_behind x rest (w ∷ vs) f.1 (neither (nat_eq u x) (contains (w ∷ vs) x) none).1,
)

apart_same : (v : ℕ) (vs xs : List ℕ) → Each (λ y. v ≢ y) xs → Each (λ y. contains (v ∷ vs) y ≡ contains vs y) xs
apart_same v vs [] each = tt
apart_same v vs (y ∷ ys) each = (ap (λ b. b || contains vs y) (apart_test v y each.0), apart_same v vs ys each.1)

-- members of the list that stand in an order stand behind its first one, where that isn't in the list
members_behind : (x : ℕ) (rest vs : List ℕ) → contains vs x ≡ false
    → ((v : ℕ) → contains vs v ≡ true → contains (x ∷ rest) v ≡ true) → (v : ℕ) → contains vs v ≡ true → contains rest v ≡ true
members_behind x rest vs none all v h =
    not_head (nat_eq x v) (contains rest v) (all v h)
    (apart_test x v (λ same. clash (contains vs x) (ap (contains vs) same ∙ h) none))

-- a list whose neighbours stand in order is that part of the order
filter_is : (order vs : List ℕ) → IsDistinct order → Follow order vs → ((v : ℕ) → contains vs v ≡ true → contains order v ≡ true)
    → filter (contains vs) order ≡ vs
filter_is [] [] distinct f all = refl
filter_is [] (v ∷ vs) distinct f all =
    absurd (true≢false (sym (all v (or_first (nat_eq v v) (contains vs v) (eq-eqb v v refl)))))
filter_is (x ∷ rest) [] distinct f all = filter_is rest [] distinct.1 tt (λ v h. absurd (true≢false (sym h)))
filter_is (x ∷ rest) (v ∷ vs) distinct f all =
    by (nat_eq v x) refl (filter_is rest vs distinct.1) (filter_is rest (v ∷ vs) distinct.1)
  where
    apart : contains vs x ≡ false
    apart = head_apart x rest v vs f

    by : (b : Bool) → nat_eq v x ≡ b
        → (Follow rest vs → ((w : ℕ) → contains vs w ≡ true → contains rest w ≡ true) → filter (contains vs) rest ≡ vs)
        → (Follow rest (v ∷ vs) → ((w : ℕ) → contains (v ∷ vs) w ≡ true → contains rest w ≡ true)
        → filter (contains (v ∷ vs)) rest ≡ v ∷ vs)
        → cond (b || contains vs x) (x ∷ filter (contains (v ∷ vs)) rest) (filter (contains (v ∷ vs)) rest) ≡ v ∷ vs
    by true e tail whole =
        let same : v ≡ x = eqb-true v x e in
        let others : filter (contains (v ∷ vs)) rest ≡ vs =
        filter_same (contains (v ∷ vs)) (contains vs) rest
        (apart_same v vs rest (subst (λ u. Each (λ y. u ≢ y) rest) (sym same) distinct.0))
        ∙ tail (follow_behind x rest vs (follow_tail (x ∷ rest) v vs f) apart)
        (members_behind x rest vs apart (λ w h. all w (or_second (nat_eq v w) (contains vs w) h))) in
        λ i. sym same i ∷ others i
    by false e tail whole =
        let none : contains (v ∷ vs) x ≡ false = ap (λ b. b || contains vs x) e ∙ apart in
        ap (λ b. cond b (x ∷ filter (contains (v ∷ vs)) rest) (filter (contains (v ∷ vs)) rest)) apart
        ∙ whole (follow_behind x rest (v ∷ vs) f none) (members_behind x rest (v ∷ vs) none all)

-- edges between neighbours
follow : (n : ℕ) (order vs : List ℕ) → Each (λ v. v < n) vs
    → ((u w : ℕ) → u < n → has_edge (neighbours vs) u w ≡ true → Precedes order u w) → Follow order vs
follow n order [] small h = tt
follow n order (v ∷ []) small h = tt
follow n order (u ∷ w ∷ rest) small h = (
  h u w small.0 (or_first (leads u w (u, w)) (has_edge (neighbours (w ∷ rest)) u w) here),
  follow n order (w ∷ rest) small.1
      (λ a b l e. h a b l (or_second (leads a b (u, w)) (has_edge (neighbours (w ∷ rest)) a b) e)),
)
  where
    here : leads u w (u, w) ≡ true
    here = ap (λ b. b && nat_eq w w) (eq-eqb u u refl) ∙ eq-eqb w w refl

-- ---- the left variables, level by level
each_contained : (P : ℕ → Type 0) (xs : List ℕ) → ((v : ℕ) → contains xs v ≡ true → P v) → Each P xs
each_contained P [] h = tt
each_contained P (x ∷ xs) h = (
  h x (or_first (nat_eq x x) (contains xs x) (eq-eqb x x refl)),
  each_contained P xs (λ v e. h v (or_second (nat_eq x v) (contains xs v) e)),
)

contains_at : (xs : List ℕ) (k v : ℕ) → k < length xs → slice_index xs k ≡ v → contains xs v ≡ true
contains_at [] k v below is = absurd (omega (arith, below))
contains_at (x ∷ xs) zero v below is = or_first (nat_eq x v) (contains xs v) (eq-eqb x v is)
contains_at (x ∷ xs) (suc k) v below is = or_second (nat_eq x v) (contains xs v) (contains_at xs k v (omega (arith, below)) is)

in_left : (left ms : List ℕ) (v : ℕ) → All (λ m. m < length left) ms → contains (map (slice_index left) ms) v ≡ true
    → contains left v ≡ true
in_left left [] v below h = absurd (true≢false (sym h))
in_left left (m ∷ ms) v below h =
    by (nat_eq (slice_index left m) v) refl h (in_left left ms v (λ k d l. below (suc k) d (omega (arith, l))))
  where
    by : (b : Bool) → nat_eq (slice_index left m) v ≡ b → (b || contains (map (slice_index left) ms) v) ≡ true
        → (contains (map (slice_index left) ms) v ≡ true → contains left v ≡ true) → contains left v ≡ true
    by true e there rest = contains_at left m v (below 0 0 (omega arith)) (eqb-true (slice_index left m) v e)
    by false e there rest = rest there

-- where a number stands
record StandsIn (xs : List ℕ) (v : ℕ) : Type 0 where
  at : ℕ
  inside : at < length xs
  is : slice_index xs at ≡ v

stands : (xs : List ℕ) (v : ℕ) → contains xs v ≡ true → StandsIn xs v
stands [] v h = absurd (true≢false (sym h))
stands (x ∷ xs) v h = by (nat_eq x v) refl h (stands xs v)
  where
    by : (b : Bool) → nat_eq x v ≡ b → (b || contains xs v) ≡ true → (contains xs v ≡ true → StandsIn xs v) → StandsIn (x ∷ xs) v
    by true e there rest = record { at = 0; inside = omega arith; is = eqb-true x v e }
    by false e there rest =
        let r = rest there in let b = r.inside in record { at = suc r.at; inside = omega (arith, b); is = r.is }

mapped_in : (f : ℕ → ℕ) (ms : List ℕ) (k : ℕ) → k < length ms → contains (map f ms) (f (slice_index ms k)) ≡ true
mapped_in f [] k h = absurd (omega (arith, h))
mapped_in f (m ∷ ms) zero h = or_first (nat_eq (f m) (f m)) (contains (map f ms) (f m)) (eq-eqb (f m) (f m) refl)
mapped_in f (m ∷ ms) (suc k) h =
    or_second (nat_eq (f m) (f (slice_index ms k))) (contains (map f ms) (f (slice_index ms k))) (mapped_in f ms k (omega (arith, h)))

module _ (s : Statement) (formats : List (List FormatLevel)) (h : HasResult s formats) where
  abbrev levels : List ℕ
  levels = left_levels s formats

  pub modes_many : length (modes_of (result_levels s formats)) ≡ length s.left.vars
  modes_many = h.format.order.count ∙ h.left.order

  pub modes_below : All (λ m. m < length s.left.vars) (modes_of (result_levels s formats))
  modes_below =
      subst (λ n. All (λ m. m < n) (modes_of (result_levels s formats))) h.left.order h.format.order.below

  same : (v : ℕ) → contains levels v ≡ contains s.left.vars v
  same v =
      same_test (contains levels v) (contains s.left.vars v) (in_left s.left.vars (modes_of (result_levels s formats)) v modes_below)
      (λ there.
      let f = stands s.left.vars v there in
      let b = f.inside in
      let order = h.left.order in
      let count = h.format.order.count in
      let mode = each_mode_stands (length (result_levels s formats)) (modes_of (result_levels s formats)) f.at h.format.order
      (omega (arith, b, order)) in
      let inside = mode.1 in
      subst (λ u. contains levels u ≡ true) (ap (slice_index s.left.vars) mode.2 ∙ f.is)
      (mapped_in (slice_index s.left.vars) (modes_of (result_levels s formats)) mode.0 (omega (arith, inside, count))))

  module _ (order : List ℕ) (loops : IsLoopOrder (length s.vars) (statement_edges s formats) order)
      (sparse : list_all is_dense (result_levels s formats) ≡ false) where
    ordered : IsOrderOf (length s.vars) order
    ordered = is_order_of (length s.vars) (statement_edges s formats) order loops

    small : Each (λ v. v < length s.vars) levels
    small = each_contained (λ v. v < length s.vars) levels (λ v e. left_below s h.numbered v (sym (same v) ∙ e))

    edges_are : access_edges (result_levels s formats) s.left.vars ≡ neighbours levels
    edges_are = ap (λ b. if b then [] else neighbours levels) sparse

    edge_there : (u w : ℕ) → has_edge (neighbours levels) u w ≡ true → has_edge (statement_edges s formats) u w ≡ true
    edge_there u w e =
        list_any-append (leads u w) (access_edges (result_levels s formats) s.left.vars) (edges_of formats s.accesses)
        ∙ ap (λ b. b || has_edge (edges_of formats s.accesses) u w) (ap (λ es. has_edge es u w) edges_are ∙ e)

    in_order : Follow order levels
    in_order = follow (length s.vars) order levels small (λ u w below e k l is.
        let count = loops.count in
        each_forward (length s.vars) (statement_edges s formats) order u k 0 loops (omega (arith, l, count)) below
        (ap (has_edge (statement_edges s formats) u) is ∙ edge_there u w e))

    pub left_order : filter (contains s.left.vars) order ≡ left_levels s formats
    left_order =
        ap (λ (p : ℕ → Bool). filter p order) (λ i v. sym (same v) i)
        ∙ filter_is order levels ordered.once in_order (λ v e. ordered.all v (left_below s h.numbered v (sym (same v) ∙ e)))
