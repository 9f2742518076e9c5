-- A result that isn't dense throughout orders the loops over the left variables.
use Rattle.std.specs.Prelude.{◌≡◌, ◌≢◌, ℕ, suc, ◌<◌, nat_eq, Bool, true, false, ◌&&◌, ◌||◌, cond, List, [], ◌∷◌, length, map, All}
use Rattle.std.specs.Prelude.{filter, take, slice_index, slice_index_or, refl}
use Rattle.std.proofs.Common.{◌∙◌, sym, ap, subst, arith}
use Rattle.std.proofs.lemmas.Bool.{eqb-true, eq-eqb}
use Rattle.std.proofs.lemmas.List.Folds.{list_any-append}
use Rattle.format_spec.specs.declared.format.FormatLevel.{FormatLevel}
use Rattle.format_spec.specs.Formats.{modes_of}
use Rattle.index_notation.specs.Statement.{IsDistinct}
use Rattle.index_notation.specs.declared.syntax.Statement.{Statement}
use Rattle.iteration_graph.specs.Edges.{format_of, by_level, neighbours, access_edges, edges_of, statement_edges}
use Rattle.iteration_graph.specs.Graphs.{IsLoopOrder, has_edge, is_among, leads}
use Rattle.iteration_graph.proofs.EdgeSteps.{sparse_gives_all}
use Rattle.iteration_graph.proofs.OrderLaws.{each_forward}
use Rattle.lists.specs.Each.{Each}
use Rattle.expr_terms.specs.Terms.{contains}
use Rattle.concrete_notation.specs.Nests.{IsOrderOf, left_in_order}
use Rattle.concrete_notation.proofs.Around.{left_below, keys_distinct, keys_contain}
use Rattle.concrete_notation.proofs.Orders.{is_order_of}
use Rattle.concrete_notation.proofs.Points.{neither, or_first, or_second}
use Rattle.dense_results.proofs.Modes.{contains_at, are_modes}
use Rattle.sparse_results.specs.Keys.{HasOrderedResult, ResultOrdersLoops}
use Rattle.sparse_results.specs.Results.{AreLevelKeys}

apart_test : (u v : ℕ) → u ≢ v → nat_eq u v ≡ false
apart_test u v apart = by (nat_eq u v) refl
  where
    by : (b : Bool) → nat_eq u v ≡ b → b ≡ false
    by true e = absurd (apart (eqb-true u v e))
    by false e = refl

not_head : (b c : Bool) → (b || c) ≡ true → b ≡ false → c ≡ true
not_head true c h e = cc
not_head false c h e = h

same_test : (b c : Bool) → (b ≡ true → c ≡ true) → (c ≡ true → b ≡ true) → b ≡ c
same_test true true to from = refl
same_test true false to from = sym (to refl)
same_test false true to from = from refl
same_test false false to from = refl

filter_same : (p q : ℕ → Bool) (xs : List ℕ) → Each (λ y. p y ≡ q y) xs → filter p xs ≡ filter q xs
filter_same p q [] each = refl
filter_same p q (x ∷ xs) each =
    let rest = filter_same p q xs each.1 in
    let first = each.0 in
    λ i. cond (first i) (x ∷ rest i) (rest i)

-- where a variable stands in the order, another one stands before it
abbrev Precedes : List ℕ → ℕ → ℕ → Type 0
Precedes order u v = (k : ℕ) → k < length order → slice_index_or order k 0 ≡ v → is_among (take k order) u ≡ true

-- of each two neighbours in a list the first stands before the second in the order
abbrev Follow : List ℕ → List ℕ → Type 0
Follow order [] = Unit {0}
Follow order (v ∷ []) = Unit {0}
Follow order (u ∷ w ∷ rest) = Precedes order u w × Follow order (w ∷ rest)

follow_tail : (order : List ℕ) (v : ℕ) (vs : List ℕ) → Follow order (v ∷ vs) → Follow order vs
follow_tail order v [] f = tt
follow_tail order v (w ∷ ws) f = f.1

-- the first of the order can only be the first of the list
head_apart : (x : ℕ) (rest : List ℕ) (v : ℕ) (vs : List ℕ) → Follow (x ∷ rest) (v ∷ vs) → contains vs x ≡ false
head_apart x rest v [] f = refl
head_apart x rest v (w ∷ ws) f = by (nat_eq w x) refl (head_apart x rest w ws f.1)
  where
    clash : false ≡ true → (b : Bool) → b ≡ false
    clash h b = cc

    by : (b : Bool) → nat_eq w x ≡ b → contains ws x ≡ false → (b || contains ws x) ≡ false
    by true e more = clash (f.0 0 (omega arith) (sym (eqb-true w x e))) (true || contains ws x)
    by false e more = more

-- behind a first one that isn't in the list
precedes_behind : (x : ℕ) (rest : List ℕ) (u w : ℕ) → Precedes (x ∷ rest) u w → x ≢ u → Precedes rest u w
precedes_behind x rest u w before apart k h is =
    not_head (nat_eq x u) (is_among (take k rest) u) (before (suc k) (omega (arith, h)) is) (apart_test x u apart)

not_in : (u x : ℕ) (vs : List ℕ) → contains (u ∷ vs) x ≡ false → x ≢ u
not_in u x vs none same =
    clash (nat_eq u x) (eq-eqb u x (sym same)) (neither (nat_eq u x) (contains vs x) none).0
  where
    clash : (b : Bool) → b ≡ true → b ≡ false → ⊥
    clash b h g = cc

follow_behind : (x : ℕ) (rest vs : List ℕ) → Follow (x ∷ rest) vs → contains vs x ≡ false → Follow rest vs
follow_behind x rest [] f none = tt
follow_behind x rest (v ∷ []) f none = tt
follow_behind x rest (u ∷ w ∷ vs) f none = (
  precedes_behind x rest u w f.0 (not_in u x (w ∷ vs) none),
  follow_behind x rest (w ∷ vs) f.1 (neither (nat_eq u x) (contains (w ∷ vs) x) none).1,
)

apart_same : (v : ℕ) (vs xs : List ℕ) → Each (λ y. v ≢ y) xs → Each (λ y. contains (v ∷ vs) y ≡ contains vs y) xs
apart_same v vs [] each = tt
apart_same v vs (y ∷ ys) each = (ap (λ b. b || contains vs y) (apart_test v y each.0), apart_same v vs ys each.1)

-- members of the list that stand in an order stand behind its first one, where that isn't in the list
members_behind : (x : ℕ) (rest vs : List ℕ) → contains vs x ≡ false
    → ((v : ℕ) → contains vs v ≡ true → contains (x ∷ rest) v ≡ true) → (v : ℕ) → contains vs v ≡ true → contains rest v ≡ true
members_behind x rest vs none all v h =
    not_head (nat_eq x v) (contains rest v) (all v h)
    (apart_test x v (λ same. clash (contains vs x) (ap (contains vs) same ∙ h) none))
  where
    clash : (b : Bool) → b ≡ true → b ≡ false → ⊥
    clash b e g = cc

-- a list whose neighbours stand in order is that part of the order
filter_is : (order vs : List ℕ) → IsDistinct order → Follow order vs → ((v : ℕ) → contains vs v ≡ true → contains order v ≡ true)
    → filter (contains vs) order ≡ vs
filter_is [] [] distinct f all = refl
filter_is [] (v ∷ vs) distinct f all =
    absurd (clash (all v (or_first (nat_eq v v) (contains vs v) (eq-eqb v v refl))))
  where
    clash : false ≡ true → ⊥
    clash h = cc
filter_is (x ∷ rest) [] distinct f all = filter_is rest [] distinct.1 tt (λ v h. absurd (clash h))
  where
    clash : false ≡ true → ⊥
    clash h = cc
filter_is (x ∷ rest) (v ∷ vs) distinct f all =
    by (nat_eq v x) refl (filter_is rest vs distinct.1) (filter_is rest (v ∷ vs) distinct.1)
  where
    apart : contains vs x ≡ false
    apart = head_apart x rest v vs f

    by : (b : Bool) → nat_eq v x ≡ b
        → (Follow rest vs → ((w : ℕ) → contains vs w ≡ true → contains rest w ≡ true) → filter (contains vs) rest ≡ vs)
        → (Follow rest (v ∷ vs) → ((w : ℕ) → contains (v ∷ vs) w ≡ true → contains rest w ≡ true)
        → filter (contains (v ∷ vs)) rest ≡ v ∷ vs)
        → cond (b || contains vs x) (x ∷ filter (contains (v ∷ vs)) rest) (filter (contains (v ∷ vs)) rest) ≡ v ∷ vs
    by true e tail whole =
        let same : v ≡ x = eqb-true v x e in
        let others : filter (contains (v ∷ vs)) rest ≡ vs =
        filter_same (contains (v ∷ vs)) (contains vs) rest
        (apart_same v vs rest (subst (λ u. Each (λ y. u ≢ y) rest) (sym same) distinct.0))
        ∙ tail (follow_behind x rest vs (follow_tail (x ∷ rest) v vs f) apart)
        (members_behind x rest vs apart (λ w h. all w (or_second (nat_eq v w) (contains vs w) h))) in
        λ i. sym same i ∷ others i
    by false e tail whole =
        let none : contains (v ∷ vs) x ≡ false = ap (λ b. b || contains vs x) e ∙ apart in
        ap (λ b. cond b (x ∷ filter (contains (v ∷ vs)) rest) (filter (contains (v ∷ vs)) rest)) apart
        ∙ whole (follow_behind x rest (v ∷ vs) f none) (members_behind x rest (v ∷ vs) none all)

-- edges between neighbours
follow : (n : ℕ) (order vs : List ℕ) → Each (λ v. v < n) vs
    → ((u w : ℕ) → u < n → has_edge (neighbours vs) u w ≡ true → Precedes order u w) → Follow order vs
follow n order [] small h = tt
follow n order (v ∷ []) small h = tt
follow n order (u ∷ w ∷ rest) small h = (
  h u w small.0 (or_first (leads u w (u, w)) (has_edge (neighbours (w ∷ rest)) u w) here),
  follow n order (w ∷ rest) small.1
      (λ a b l e. h a b l (or_second (leads a b (u, w)) (has_edge (neighbours (w ∷ rest)) a b) e)),
)
  where
    here : leads u w (u, w) ≡ true
    here = ap (λ b. b && nat_eq w w) (eq-eqb u u refl) ∙ eq-eqb w w refl

-- ---- the left variables, level by level
each_from : (P : ℕ → Type 0) (xs : List ℕ) → ((v : ℕ) → contains xs v ≡ true → P v) → Each P xs
each_from P [] h = tt
each_from P (x ∷ xs) h = (
  h x (or_first (nat_eq x x) (contains xs x) (eq-eqb x x refl)),
  each_from P xs (λ v e. h v (or_second (nat_eq x v) (contains xs v) e)),
)

in_left : (left ms : List ℕ) (v : ℕ) → All (λ m. m < length left) ms → contains (map (slice_index left) ms) v ≡ true
    → contains left v ≡ true
in_left left [] v below h = absurd (clash h)
  where
    clash : false ≡ true → ⊥
    clash e = cc
in_left left (m ∷ ms) v below h =
    by (nat_eq (slice_index left m) v) refl h (in_left left ms v (λ k d l. below (suc k) d (omega (arith, l))))
  where
    by : (b : Bool) → nat_eq (slice_index left m) v ≡ b → (b || contains (map (slice_index left) ms) v) ≡ true
        → (contains (map (slice_index left) ms) v ≡ true → contains left v ≡ true) → contains left v ≡ true
    by true e there rest = contains_at left m v (below 0 0 (omega arith)) (eqb-true (slice_index left m) v e)
    by false e there rest = rest there

-- where a number stands
record StandsIn (xs : List ℕ) (v : ℕ) : Type 0 where
  at : ℕ
  inside : at < length xs
  is : slice_index xs at ≡ v

found : (xs : List ℕ) (v : ℕ) → contains xs v ≡ true → StandsIn xs v
found [] v h = absurd (clash h)
  where
    clash : false ≡ true → ⊥
    clash e = cc
found (x ∷ xs) v h = by (nat_eq x v) refl h (found xs v)
  where
    by : (b : Bool) → nat_eq x v ≡ b → (b || contains xs v) ≡ true → (contains xs v ≡ true → StandsIn xs v) → StandsIn (x ∷ xs) v
    by true e there rest = record { at = 0; inside = omega arith; is = eqb-true x v e }
    by false e there rest =
        let r = rest there in let b = r.inside in record { at = suc r.at; inside = omega (arith, b); is = r.is }

mapped_in : (f : ℕ → ℕ) (ms : List ℕ) (m : ℕ) → contains ms m ≡ true → contains (map f ms) (f m) ≡ true
mapped_in f [] m h = h
mapped_in f (x ∷ ms) m h = by (nat_eq x m) refl h (mapped_in f ms m)
  where
    by : (b : Bool) → nat_eq x m ≡ b → (b || contains ms m) ≡ true → (contains ms m ≡ true → contains (map f ms) (f m) ≡ true)
        → (nat_eq (f x) (f m) || contains (map f ms) (f m)) ≡ true
    by true e there rest = or_first (nat_eq (f x) (f m)) (contains (map f ms) (f m)) (eq-eqb (f x) (f m) (ap f (eqb-true x m e)))
    by false e there rest = or_second (nat_eq (f x) (f m)) (contains (map f ms) (f m)) (rest there)

module _ (s : Statement) (formats : List (List FormatLevel)) (h : HasOrderedResult s formats) (order : List ℕ)
    (loops : IsLoopOrder (length s.vars) (statement_edges s formats) order) where
  abbrev format : List FormatLevel
  format = format_of formats 0

  abbrev levels : List ℕ
  levels = by_level (format_of formats 0) s.left.vars

  ordered : IsOrderOf (length s.vars) order
  ordered = is_order_of (length s.vars) (statement_edges s formats) order loops

  modes_many : length (modes_of (format_of formats 0)) ≡ length s.left.vars
  modes_many = h.format.order.count ∙ ap (λ t. length (format_of formats t)) (sym h.named.result) ∙ h.left.order

  modes_below : All (λ m. m < length s.left.vars) (modes_of (format_of formats 0))
  modes_below =
      subst (λ n. All (λ m. m < n) (modes_of (format_of formats 0))) (sym h.format.order.count ∙ modes_many) h.format.order.below

  same : (v : ℕ) → contains levels v ≡ contains s.left.vars v
  same v =
      same_test (contains levels v) (contains s.left.vars v) (in_left s.left.vars (modes_of (format_of formats 0)) v modes_below)
      (λ there.
      let f = found s.left.vars v there in
      let b = f.inside in
      let mode = (are_modes (format_of formats 0) h.format).each f.at (omega (arith, b, modes_many)) in
      subst (λ u. contains levels u ≡ true) f.is (mapped_in (slice_index s.left.vars) (modes_of (format_of formats 0)) f.at mode))

  small : Each (λ v. v < length s.vars) levels
  small = each_from (λ v. v < length s.vars) levels (λ v e. left_below s h.numbered v (sym (same v) ∙ e))

  edges_are : access_edges (format_of formats s.left.tensor) s.left.vars ≡ neighbours levels
  edges_are =
      ap (λ t. access_edges (format_of formats t) s.left.vars) h.named.result
      ∙ sparse_gives_all (format_of formats 0) s.left.vars h.some

  edge_there : (u w : ℕ) → has_edge (neighbours levels) u w ≡ true → has_edge (statement_edges s formats) u w ≡ true
  edge_there u w e =
      list_any-append (leads u w) (access_edges (format_of formats s.left.tensor) s.left.vars) (edges_of formats s.accesses)
      ∙ ap (λ b. b || has_edge (edges_of formats s.accesses) u w) (ap (λ es. has_edge es u w) edges_are ∙ e)

  in_order : Follow order levels
  in_order = follow (length s.vars) order levels small (λ u w below e k l is.
      let count = loops.count in
      each_forward (length s.vars) (statement_edges s formats) order u k 0 loops (omega (arith, l, count)) below
      (ap (has_edge (statement_edges s formats) u) is ∙ edge_there u w e))

  keys_same : left_in_order s order ≡ levels
  keys_same =
      ap (λ (p : ℕ → Bool). filter p order) (λ i v. test v i)
      ∙ filter_is order levels ordered.once in_order (λ v e. ordered.all v (left_below s h.numbered v (sym (same v) ∙ e)))
    where
      or_none : (b : Bool) → (b || false) ≡ b
      or_none true = refl
      or_none false = refl

      test : (v : ℕ) → (contains s.left.vars v || false) ≡ contains levels v
      test v = or_none (contains s.left.vars v) ∙ sym (same v)

  pub level_keys : AreLevelKeys s (format_of formats 0) (left_in_order s order)
  level_keys = record {
    keys_are = record { once = keys_distinct s h.numbered order ordered; left = keys_contain s h.numbered order ordered };
    order = keys_same;
  }

pub result_orders_loops : ResultOrdersLoops
result_orders_loops s formats h order loops = level_keys s formats h order loops
