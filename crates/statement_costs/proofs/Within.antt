-- Loops count no more than their groups.
use Rattle.std.specs.Prelude.{◌≡◌, ◌≢◌, ◌⊎◌, ℕ, suc, ◌+◌, ◌≤◌, ◌<◌, nat_eq, nat_lt, Bool, true, false, ◌||◌, ◌&&◌, if◌then◌else◌}
use Rattle.std.specs.Prelude.{List, [], ◌∷◌, ◌++◌, length, Option, Some, None, refl}
use Rattle.std.proofs.Common.{◌∙◌, sym, ap, subst, arith, inl, inr}
use Rattle.std.proofs.lemmas.Bool.Decides.{nat_tests, eqb_tells}
use Rattle.std.proofs.lemmas.List.Concat.{flat_map-append}
use denote.Hole.Carrier.{hidden}
use Rattle.format_spec.specs.declared.format.FormatLevel.{FormatLevel}
use Rattle.index_notation.specs.Statement.{IsDistinct}
use Rattle.index_notation.specs.declared.syntax.Expr.{Expr}
use Rattle.index_notation.specs.declared.syntax.Statement.{Statement}
use Rattle.lists.specs.Each.{Each}
use Rattle.expr_terms.specs.Points.{with_coordinate}
use Rattle.expr_terms.specs.Terms.{contains, stands_before}
use Rattle.expr_terms.specs.declared.term.Term.{Term}
use Rattle.concrete_notation.specs.declared.concrete.Concrete.TheBlock.{hidden-the_row-Concrete-0}
use Rattle.concrete_notation.specs.Nests.{Nest, inside, next_loops, nests, SharesLoops}
use Rattle.loop_code.specs.declared.loops.LoopCode.{LoopCode, Loop, Both, Add, Sum}
use Rattle.loop_code.specs.declared.loops.LoopCode.TheBlock.{hidden-the_row-LoopCode-0}
use Rattle.loop_code.specs.declared.loops.Seek.{Seek}
use Rattle.loop_code.specs.Loops.{Stored, Env, at_cursor, moved}
use Rattle.loop_code.specs.Parts.{given, here, is_full, is_full_below, is_live, is_live_below, pruned, remains, remains_below}
use Rattle.loop_code.specs.Places.{AreSeeks, IsWellPlaced, depth_after}
use Rattle.loop_code.specs.Turns.{adds_some, count_below, some_if}
use Rattle.loop_code.proofs.Equations.{placed_loop}
use Rattle.loop_code.proofs.Turns.{count_most}
use Rattle.lowering.specs.Layouts.{layout_of}
use Rattle.lowering.specs.Lowered.{concrete_of}
use Rattle.lowering.specs.Seeking.{has_access}
use Rattle.lowering.specs.Shapes.{Allows}
use Rattle.lowering.specs.Sums.{are_bound, first_sum, is_met, reads_any, starts_at, sum_at, sum_tree, vars_at}
use Rattle.lowering.proofs.Standing.{none_behind}
use Rattle.lowering.proofs.Through.{so_both}
use Rattle.statement_costs.specs.Costs.{at, group_of, has_started, has_started_before, inside_of, is_here, is_there, is_wanted}
use Rattle.statement_costs.specs.Costs.{opened_group, own_group, present_at, some_term, total}
use Rattle.lowering.specs.Starts.{IsBehind, IsNext, MayStart}
use Rattle.statement_costs.proofs.Groups.{AreAlong, IsAlong, along_one, entered, group_other, starting, total_both, total_loop}
use Rattle.statement_costs.proofs.Here.{IsLaid, IsThere, full_is, laid_by, leaf, less_there, live_is, remains_is, remains_less, terms_of}
use Rattle.statement_costs.proofs.Here.{there_by, there_pruned}
use Rattle.statement_costs.proofs.Lengths.{count_take}
use Rattle.statement_costs.proofs.Moves.{inner_point, laid_inside, reads_loop, same_some, starts_loop, there_inside}
use Rattle.statement_costs.proofs.Opened.{Started, less_or_not, live_here, remains_here, same_by, started_known, started_so}
use Rattle.statement_costs.proofs.Parts.{less_live, some_less, some_stands, some_uses}
use Rattle.statement_costs.proofs.Steps.{IsStep, group_at, in_group}
use Rattle.statement_costs.proofs.Summing.{all_tell, back, behind_two, itself, laid_body, laid_first, laid_second}
use Rattle.statement_costs.proofs.Summing.{laid_summed, leaf_of_body, next, past}
use Rattle.statement_costs.proofs.Summing.{sum_there, there_first, there_second, there_summed, wanted}
use Rattle.statement_costs.proofs.Trees.{IsCount, below_loop, by_parts, concrete_sum, nests_loop, nests_of, nests_sum, nests_two, next_loop}
use Rattle.statement_costs.proofs.Trees.{next_two, reached_loop, shares_loop, shares_sum, shares_two}

neither : (b c : Bool) → (b || c) ≡ false → (b ≡ false) × (c ≡ false)
neither true c h = absurd (cc h)
neither false c h = (refl, h)

contains_both : (xs ys : List ℕ) (v : ℕ) → contains (xs ++ ys) v ≡ (contains xs v || contains ys v)
contains_both [] ys v = refl
contains_both (x ∷ xs) ys v = ap (λ b. nat_eq x v || b) (contains_both xs ys v) ∙ by (nat_eq x v)
  where
    by : (b : Bool) → (b || (contains xs v || contains ys v)) ≡ ((b || contains xs v) || contains ys v)
    by true = refl
    by false = refl

-- of lists that have no number in common one lacks a number
one_lacks : (xs ys : List ℕ) (v : ℕ) → IsDistinct (xs ++ ys) → (contains xs v ≡ false) ⊎ (contains ys v ≡ false)
one_lacks [] ys v distinct = inl refl
one_lacks (x ∷ xs) ys v distinct = by (eqb_tells x v) (one_lacks xs ys v distinct.1)
  where
    absent : (zs : List ℕ) → Each (λ z. x ≢ z) zs → contains zs x ≡ false
    absent [] apart = refl
    absent (z ∷ zs) apart =
        let other : nat_eq z x ≡ false = let here = apart.0 in grind (arith, nat_tests, here) in
        ap (λ b. b || contains zs x) other ∙ absent zs apart.1

    second : (b c : Bool) → (b || c) ≡ false → c ≡ false
    second true c h = absurd (cc h)
    second false c h = h

    by : ((nat_eq x v ≡ true) × (x ≡ v)) ⊎ ((nat_eq x v ≡ false) × (x ≢ v)) → (contains xs v ≡ false) ⊎ (contains ys v ≡ false)
        → ((nat_eq x v || contains xs v) ≡ false) ⊎ (contains ys v ≡ false)
    by (inl same) rest =
        inr (second (contains xs v) (contains ys v)
        (sym (contains_both xs ys v) ∙ ap (contains (xs ++ ys)) (sym same.1) ∙ absent (xs ++ ys) distinct.0))
    by (inr other) (inl lacks) = inl (ap (λ b. b || contains xs v) other.0 ∙ lacks)
    by (inr other) (inr lacks) = inr lacks

group_both : (v : ℕ) (xs ys : List Nest) → group_of v xs ≡ [] → group_of v ys ≡ [] → group_of v (xs ++ ys) ≡ []
group_both v xs ys f g = flat_map-append (λ (n : Nest). inside_of v n.loops n.term) xs ys ∙ ap (λ zs. zs ++ group_of v ys) f ∙ g

-- a variable that is no next loop has no group
pub no_group : (v : ℕ) (c : LoopCode) → contains (next_loops (concrete_of c)) v ≡ false → group_of v (nests_of c) ≡ []
no_group v = by_parts (λ c. contains (next_loops (concrete_of c)) v ≡ false → group_of v (nests_of c) ≡ [])
    (λ w seeks body more lacks. ap (group_of v) (nests_loop w seeks body) ∙ group_other w v (nests_of body)
    (first (nat_eq w v) (sym (ap (λ ws. contains ws v) (next_loop w seeks body)) ∙ lacks)))
    (λ f g one two lacks.
    let apart = neither (contains (next_loops (concrete_of f)) v) (contains (next_loops (concrete_of g)) v)
    (sym (ap (λ ws. contains ws v) (next_two f g) ∙ contains_both (next_loops (concrete_of f)) (next_loops (concrete_of g)) v) ∙ lacks) in
    ap (group_of v) (nests_two f g) ∙ group_both v (nests_of f) (nests_of g) (one apart.0) (two apart.1))
    (λ t lacks. refl)
    (λ k inside body one two lacks. ap (group_of v) (nests_sum k inside body)
    ∙ two (sym (ap (λ c. contains (next_loops c) v) (concrete_sum k inside body)) ∙ lacks))
  where
    first : (b : Bool) → (b || false) ≡ false → b ≡ false
    first true h = absurd (cc h)
    first false h = refl

each_first : {X : Type 0} (P : X → Type 0) (xs ys : List X) → Each P (xs ++ ys) → Each P xs
each_first P [] ys h = tt
each_first P (x ∷ xs) ys h = (h.0, each_first P xs ys h.1)

each_second : {X : Type 0} (P : X → Type 0) (xs ys : List X) → Each P (xs ++ ys) → Each P ys
each_second P [] ys h = h
each_second P (x ∷ xs) ys h = each_second P xs ys h.1

-- ---- orders
-- what is left of an order behind some of its variables
pub record IsLeft (whole order : List ℕ) : Type 0 where
  pub front : List ℕ
  pub is : whole ≡ front ++ order

pub left_tail : (whole : List ℕ) (u : ℕ) (order : List ℕ) → IsLeft whole (u ∷ order) → IsLeft whole order
left_tail whole u order h = record { front = h.front ++ u ∷ []; is = h.is ∙ join h.front }
  where
    join : (front : List ℕ) → front ++ u ∷ order ≡ (front ++ u ∷ []) ++ order
    join [] = refl
    join (x ∷ front) = ap (λ xs. x ∷ xs) (join front)

not_both : {A : Type 0} (b : Bool) → b ≡ true → b ≡ false → A
not_both b h g = absurd (cc (h, g))

self : (n : ℕ) → nat_eq n n ≡ true
self n = grind (arith, nat_tests)

-- where no variable stands twice, what stands behind one is left there
left_behind : (front order : List ℕ) (v w : ℕ) → ((u : ℕ) → stands_before (front ++ v ∷ order) u u ≡ false)
    → stands_before (front ++ v ∷ order) v w ≡ true → contains order w ≡ true
left_behind [] order v w apart h = sym (ap (λ b. if b then contains order w else stands_before order v w) (self v)) ∙ h
left_behind (x ∷ front) order v w apart h =
    by (nat_eq x v) refl h (apart v)
    (λ more. left_behind front order v w (λ u. later u (nat_eq x u) refl (apart u)) more)
  where
    later : (u : ℕ) (b : Bool) → nat_eq x u ≡ b
        → (if b then contains (front ++ v ∷ order) u else stands_before (front ++ v ∷ order) u u) ≡ false
        → stands_before (front ++ v ∷ order) u u ≡ false
    later u true e none = absent (front ++ v ∷ order) none
      where
        absent : (xs : List ℕ) → contains xs u ≡ false → stands_before xs u u ≡ false
        absent [] g = refl
        absent (y ∷ ys) g =
            let parts = neither (nat_eq y u) (contains ys u) g in
            ap (λ b. if b then contains ys u else stands_before ys u u) parts.0 ∙ absent ys parts.1
    later u false e none = none

    stands : (front : List ℕ) → contains (front ++ v ∷ order) v ≡ true
    stands [] = ap (λ b. b || contains order v) (self v)
    stands (y ∷ front) = either (nat_eq y v) (contains (front ++ v ∷ order) v) (stands front)
      where
        either : (b c : Bool) → c ≡ true → (b || c) ≡ true
        either true c g = refl
        either false c g = g

    by : (b : Bool) → nat_eq x v ≡ b
        → (if b then contains (front ++ v ∷ order) w else stands_before (front ++ v ∷ order) v w) ≡ true
        → (if b then contains (front ++ v ∷ order) v else stands_before (front ++ v ∷ order) v v) ≡ false
        → (stands_before (front ++ v ∷ order) v w ≡ true → contains order w ≡ true) → contains order w ≡ true
    by true e h none more = not_both (contains (front ++ v ∷ order) v) (stands front) none
    by false e h none more = more h

pub behind_in : (whole order : List ℕ) (v w : ℕ) → ((u : ℕ) → stands_before whole u u ≡ false) → IsLeft whole (v ∷ order)
    → stands_before whole v w ≡ true → contains order w ≡ true
behind_in whole order v w apart h is =
    left_behind h.front order v w (λ u. ap (λ xs. stands_before xs u u) (sym h.is) ∙ apart u)
    (ap (λ xs. stands_before xs v w) (sym h.is) ∙ is)

each_contained : (P : ℕ → Type 0) (xs : List ℕ) → Each P xs → (v : ℕ) → contains xs v ≡ true → P v
each_contained P [] h v is = absurd (cc is)
each_contained P (x ∷ xs) h v is = by (nat_eq x v) refl is (each_contained P xs h.1 v)
  where
    by : (b : Bool) → nat_eq x v ≡ b → (b || contains xs v) ≡ true → (contains xs v ≡ true → P v) → P v
    by true e g more = subst P (same_by x v e) h.0
    by false e g more = more g

tree_nests : (s : Statement) (n : ℕ) → nests (sum_tree s n) ≡ own_group s n
unfolding hidden-the_row-Concrete-0 hidden
tree_nests s n = refl

tree_shares : (s : Statement) (n : ℕ) → SharesLoops (sum_tree s n)
unfolding hidden-the_row-Concrete-0 hidden
tree_shares s n = tt

-- ---- loops and their groups
module _ (s : Statement) (formats : List (List FormatLevel)) (stored : Stored) (ranges : ℕ → ℕ) (order : List ℕ)
    (allows : Allows s formats order) (own : ℕ → List Seek → LoopCode → Env → ℕ) (count : LoopCode → Env → ℕ)
    (counts : IsCount (layout_of s formats) stored ranges own count) (number : List Nest → List ℕ → (ℕ → ℕ) → ℕ → ℕ)
    (most : (bound : List ℕ) (depth : ℕ → ℕ) (v : ℕ) (seeks : List Seek) (body : LoopCode) (env : Env)
    → IsStep s formats stored ranges bound depth v seeks body env
    → own v seeks body env ≤ number (group_at s formats stored ranges bound body) bound env.point v) where
  -- the total of some terms in an order
  abbrev all : List ℕ → List Nest → List ℕ → (ℕ → ℕ) → ℕ
  all rest ns bound point = total s formats stored ranges number rest ns bound point

  -- loops stand inside those of bound variables, in what is left of the order; each sum that may start has its loop's variable there
  pub record IsBelow (outer : ℕ → Bool) (innermost : Option ℕ) (bound : List ℕ) (from : ℕ) (depth : ℕ → ℕ) (rest : List ℕ) (c : LoopCode)
      (env : Env) : Type 0 where
    pub laid : IsLaid s formats stored ranges outer innermost bound from depth c
    pub there : IsThere s formats stored ranges true outer bound c env
    pub shares : SharesLoops (concrete_of c)
    pub along : AreAlong rest (nests_of c)
    pub left : IsLeft order rest
    pub open_sums : (n : ℕ) → n < length s.sums → MayStart s innermost bound (first_sum s + n)
        → contains rest (sum_at s n).var ≡ true

  -- a number of one sum that starts at a point, and of those from one on
  abbrev one_sum : Option ℕ → List ℕ → (ℕ → ℕ) → List ℕ → List Nest → ℕ → ℕ
  one_sum innermost bound point rest group n =
      if starts_at s (λ k. is_wanted s formats stored ranges innermost bound point group n) innermost bound n
      then all rest (own_group s n) bound point else 0

  abbrev pub later : ℕ → Option ℕ → List ℕ → (ℕ → ℕ) → List ℕ → List Nest → ℕ → ℕ
  later from innermost bound point rest group n =
      if nat_lt (first_sum s + n) from then 0 else one_sum innermost bound point rest group n

  abbrev pub sums_from : ℕ → Option ℕ → List ℕ → (ℕ → ℕ) → List ℕ → List Nest → ℕ
  sums_from from innermost bound point rest group = count_below (length s.sums) (later from innermost bound point rest group)

  abbrev pub IsWithin : LoopCode → Type 0
  IsWithin c = (outer : ℕ → Bool) (innermost : Option ℕ) (bound : List ℕ) (from : ℕ) (depth : ℕ → ℕ) (rest : List ℕ) (env : Env)
      → IsBelow outer innermost bound from depth rest c env
      → (IsBehind s innermost bound from (concrete_of c) → count c env ≤ all rest (nests_of c) bound env.point)
      × (count c env ≤ sums_from from innermost bound env.point rest (nests_of c) + all rest (nests_of c) bound env.point)

  -- from the first on they are all that start
  pub all_start : (innermost : Option ℕ) (bound : List ℕ) (point : ℕ → ℕ) (rest : List ℕ) (group : List Nest)
      → sums_from 0 innermost bound point rest group ≡ starting s formats stored ranges number rest innermost bound point group
  all_start innermost bound point rest group =
      λ i. count_below (length s.sums) (λ n. if none_before (first_sum s + n) i then 0 else one_sum innermost bound point rest group n)
    where
      none_before : (j : ℕ) → nat_lt j 0 ≡ false
      none_before j = grind (arith, nat_tests)

  -- what holds without sums holds with those that start
  settled : (m sums rest : ℕ) → m ≤ rest → m ≤ sums + rest
  settled m sums rest h = omega (arith, h)

  within_add : (t : Term) → IsWithin (Add t)
  within_add t outer innermost bound from depth rest env b =
      let none = counts.add t env in
      let first : count (Add t) env ≤ all rest (nests_of (Add t)) bound env.point = omega (arith, none) in (
        λ behind. first,
        settled (count (Add t) env) (sums_from from innermost bound env.point rest (nests_of (Add t)))
            (all rest (nests_of (Add t)) bound env.point) first,
      )

  -- ---- loops side by side
  within_both : (f g : LoopCode) → IsWithin f → IsWithin g → IsWithin (Both f g)
  within_both f g one two outer innermost bound from depth rest env b = (
    λ behind. both,
    settled (count (Both f g) env) (sums_from from innermost bound env.point rest (nests_of (Both f g)))
        (all rest (nests_of (Both f g)) bound env.point) both,
  )
    where
      shares : IsDistinct (next_loops (concrete_of f) ++ next_loops (concrete_of g)) × SharesLoops (concrete_of f)
          × SharesLoops (concrete_of g)
      shares = shares_two f g b.shares

      along : AreAlong rest (nests_of f ++ nests_of g)
      along = subst (AreAlong rest) (nests_two f g) b.along

      behind_here : IsBehind s innermost bound from (concrete_of f) × IsBehind s innermost bound from (concrete_of g)
      behind_here = behind_two s formats stored ranges order allows outer innermost bound from depth f g b.laid

      first : count f env ≤ all rest (nests_of f) bound env.point
      first = (one outer innermost bound from depth rest env (record {
        laid = laid_first s formats stored ranges order allows outer innermost bound from depth f g b.laid;
        there = there_first s formats stored ranges order allows outer innermost bound from depth f g b.laid true env b.there;
        shares = shares.1;
        along = each_first (λ (n : Nest). IsAlong rest n.loops) (nests_of f) (nests_of g) along;
        left = b.left;
        open_sums = b.open_sums;
      })).0 behind_here.0

      second : count g env ≤ all rest (nests_of g) bound env.point
      second = (two outer innermost bound from depth rest env (record {
        laid = laid_second s formats stored ranges order allows outer innermost bound from depth f g b.laid;
        there = there_second s formats stored ranges order allows outer innermost bound from depth f g b.laid true env b.there;
        shares = shares.2;
        along = each_second (λ (n : Nest). IsAlong rest n.loops) (nests_of f) (nests_of g) along;
        left = b.left;
        open_sums = b.open_sums;
      })).0 behind_here.1

      apart : (v : ℕ) → IsDistinct (next_loops (concrete_of f) ++ next_loops (concrete_of g))
          → (group_of v (nests_of f) ≡ []) ⊎ (group_of v (nests_of g) ≡ [])
      apart v distinct = by (one_lacks (next_loops (concrete_of f)) (next_loops (concrete_of g)) v distinct)
        where
          by : (contains (next_loops (concrete_of f)) v ≡ false) ⊎ (contains (next_loops (concrete_of g)) v ≡ false)
              → (group_of v (nests_of f) ≡ []) ⊎ (group_of v (nests_of g) ≡ [])
          by (inl lacks) = inl (no_group v f lacks)
          by (inr lacks) = inr (no_group v g lacks)

      both : count (Both f g) env ≤ all rest (nests_of (Both f g)) bound env.point
      both =
          let sums = counts.both f g env in
          let totals = total_both s formats stored ranges number rest (nests_of f) (nests_of g) (λ v. apart v shares.0) bound env.point in
          let whole : all rest (nests_of (Both f g)) bound env.point ≡ all rest (nests_of f ++ nests_of g) bound env.point =
          ap (λ ns. all rest ns bound env.point) (nests_two f g) in
          let one_most = first in
          let two_most = second in
          omega (arith, one_most, two_most, sums, totals, whole)

  -- ---- a loop
  module _ (v : ℕ) (seeks : List Seek) (body : LoopCode) (outer : ℕ → Bool) (innermost : Option ℕ) (bound : List ℕ) (from : ℕ)
      (depth : ℕ → ℕ) (rest : List ℕ) (env : Env) (b : IsBelow outer innermost bound from depth rest (Loop v seeks body) env) where
    abbrev started : ℕ → Bool
    started = has_started s bound

    behind : IsBehind s innermost bound from (concrete_of body)
    behind = (starts_loop s innermost bound from v seeks body b.laid.starts).0

    covers : (j : ℕ) → reads_any s (concrete_of (Loop v seeks body)) j ≡ true → first_sum s ≤ j → started j ≡ true
        → Started s innermost bound from j
    covers j read low h =
        started_so s innermost bound from j h (λ may. elim (less_or_not j from) [
          | inl less ↦ less
          | inr over ↦ absurd (behind.none j over low (sym (reads_loop s v seeks body j) ∙ read) may)
        ])

    covered : (j : ℕ) → reads_any s (concrete_of (Loop v seeks body)) j ≡ true → first_sum s ≤ j → Started s innermost bound from j
        → started j ≡ true
    covered j read low h = started_known s innermost bound from j h

    laid : IsLaid s formats stored ranges started innermost bound from depth (Loop v seeks body)
    laid = laid_by s formats stored ranges allows.sums outer innermost bound from depth (Loop v seeks body) b.laid started covers covered

    there : IsThere s formats stored ranges true started bound (Loop v seeks body) env
    there =
        there_by s formats stored ranges allows.sums outer innermost bound from depth (Loop v seeks body) b.laid started covers covered true
        env b.there

    pruned_there : IsThere s formats stored ranges true started bound (Loop v seeks body) (pruned body env)
    pruned_there = there_pruned s formats stored ranges allows.sums started innermost bound from depth v seeks body laid env there

    remains_loop : remains_below (here env) (Loop v seeks body) ≡ remains_below (here env) body
    unfolding hidden-the_row-LoopCode-0 hidden
    remains_loop = refl

    full_loop : (F Q : ℕ → Bool) → is_full_below F Q (Loop v seeks body) ≡ is_full_below F Q body
    unfolding hidden-the_row-LoopCode-0 hidden
    full_loop F Q = refl

    live_loop : (Q : ℕ → Bool) (k : ℕ) → is_live_below Q (Loop v seeks body) k ≡ is_live_below Q body k
    unfolding hidden-the_row-LoopCode-0 hidden
    live_loop Q k = refl

    abbrev P : ℕ → Bool
    P = is_here s formats stored ranges bound env.point

    same_terms : (f : Expr → Bool) → some_term f (terms_of s formats stored ranges started (Loop v seeks body))
        ≡ some_term f (group_at s formats stored ranges bound body)
    same_terms = same_some s formats stored ranges order allows started innermost bound from depth v seeks body laid

    body_remains : remains_below (here env) body ≡ some_term (remains P) (group_at s formats stored ranges bound body)
    body_remains =
        sym remains_loop
        ∙ remains_is s formats stored ranges allows.sums started innermost bound from depth (Loop v seeks body) laid true env there refl
        ∙ same_terms (remains P)

    low_test : (k : ℕ) → k < first_sum s → nat_lt k (first_sum s) ≡ true
    low_test k l = grind (arith, nat_tests, l)

    live_is_group : (k : ℕ) → k < first_sum s → is_live_below (here env) body k ≡ in_group s formats stored ranges bound env.point body k
    live_is_group k low =
        sym (live_loop (here env) k)
        ∙ live_is s formats stored ranges allows.sums started innermost bound from depth (Loop v seeks body) laid true env there refl k
        (λ over. absurd (omega (arith, low, over)))
        ∙ same_terms (λ e. is_live P e k)

    cursor_is : (k : ℕ) → k < first_sum s → (pruned body env).cursor k
        ≡ (if in_group s formats stored ranges bound env.point body k then at s formats stored bound env.point k else None)
    cursor_is k low =
        ap (λ c. if c then env.cursor k else None) (live_is_group k low)
        ∙ by (in_group s formats stored ranges bound env.point body k) refl
      where
        by : (c : Bool) → in_group s formats stored ranges bound env.point body k ≡ c
            → (if c then env.cursor k else None) ≡ (if c then at s formats stored bound env.point k else None)
        by true is =
            there.live refl k (same_terms (λ e. is_live P e k) ∙ is)
            ∙ ap (λ c. if c then at s formats stored bound env.point k
            else some_if (present_at s formats stored ranges (length s.sums) env.point k)) (low_test k low)
        by false is = refl

    abbrev placed_here : (contains bound v ≡ false) × AreSeeks (layout_of s formats) (length s.accesses) v bound depth depth seeks
        × IsWellPlaced (layout_of s formats) (length s.accesses) (v ∷ bound) (depth_after seeks depth) body
    placed_here = placed_loop (layout_of s formats) (length s.accesses) bound depth v seeks body laid.placed

    step : IsStep s formats stored ranges bound depth v seeks body (pruned body env)
    step = record {
      fresh = placed_here.0;
      are = placed_here.1;
      below = (below_loop s v seeks body laid.below).0;
      outer = λ k is. laid.reached k (reads_loop s v seeks body k ∙ is);
      inner = (reached_loop s formats bound depth v seeks body laid.finds).0;
      full = λ F. sym (full_loop F (here (pruned body env)))
          ∙ full_is s formats stored ranges allows.sums started innermost bound from depth (Loop v seeks body) laid true (pruned body env)
          pruned_there refl F
          ∙ same_terms (is_full F P);
      stands = λ k is. sym (reads_loop s v seeks body k)
          ∙ (leaf s formats stored ranges allows.sums started innermost bound from depth (Loop v seeks body) laid k
          (same_terms (λ e. has_access e k) ∙ is)).0;
      cursor = cursor_is;
      sums = none_behind s formats allows.sums;
    }

    abbrev inner : ℕ → Env
    inner x = moved (layout_of s formats) stored v seeks (pruned body env) x

    below_body : (left : List ℕ) → AreAlong left (nests_of body) → IsLeft order (v ∷ left) → (x : ℕ)
        → IsBelow started (Some v) (v ∷ bound) 0 (depth_after seeks depth) left body (inner x)
    below_body left along is x = record {
      laid = laid_inside s formats stored ranges order allows started innermost bound from depth v seeks body laid;
      there = there_inside s formats stored ranges order allows started innermost bound from depth v seeks body laid true (pruned body env)
          pruned_there x;
      shares = shares_loop v seeks body b.shares;
      along = along;
      left = left_tail order v left is;
      open_sums = λ n l may. behind_in order left v (sum_at s n).var allows.apart is
          (each_contained (λ w. stands_before order w (sum_at s n).var ≡ true) (vars_at s (first_sum s + n)) (allows.inner n l) v may.met);
    }

    point_is : (x : ℕ) → (inner x).point ≡ with_coordinate env.point v x
    point_is x =
        inner_point s formats stored ranges order allows started innermost bound from depth v seeks body laid true (pruned body env)
        pruned_there x

    loop_first : IsWithin body → count (Loop v seeks body) env ≤ all rest (nests_of (Loop v seeks body)) bound env.point
    loop_first more =
        subst (λ ns. count (Loop v seeks body) env ≤ all rest ns bound env.point) (sym (nests_loop v seeks body))
        (total_loop s formats stored ranges number (IsLeft order) (left_tail order) v (nests_of body) bound env.point
        (count (Loop v seeks body) env) nothing group rest b.left (subst (AreAlong rest) (nests_loop v seeks body) b.along))
      where
        nothing : nests_of body ≡ [] → count (Loop v seeks body) env ≤ 0
        nothing none =
            let zero_count : count (Loop v seeks body) env ≡ 0 =
            counts.loop v seeks body env
            ∙ ap (λ t. if t then own v seeks body (pruned body env) + count_below (ranges v) (λ x. count body (inner x)) else 0)
            (body_remains ∙ ap (λ ns. some_term (remains P) (opened_group s started ns)) none) in
            omega (arith, zero_count)

        by : (t : Bool) (m n i j : ℕ) → m ≤ n → i ≤ j → (if t then m + i else 0) ≤ (if t then n + j else 0)
        by true m n i j f g = omega (arith, f, g)
        by false m n i j f g = omega arith

        group : (left : List ℕ) → AreAlong left (nests_of body) → IsLeft order (v ∷ left)
            → count (Loop v seeks body) env ≤ entered s formats stored ranges number v left (nests_of body) bound env.point
        group left along is =
            subst (λ m. m ≤ entered s formats stored ranges number v left (nests_of body) bound env.point)
            (sym (counts.loop v seeks body env))
            (subst (λ t. (if t then own v seeks body (pruned body env) + count_below (ranges v) (λ x. count body (inner x)) else 0)
            ≤ entered s formats stored ranges number v left (nests_of body) bound env.point) (sym body_remains)
            (by (some_term (remains P) (group_at s formats stored ranges bound body)) (own v seeks body (pruned body env))
            (number (group_at s formats stored ranges bound body) bound env.point v) (count_below (ranges v) (λ x. count body (inner x)))
            (count_below (ranges v) (λ x. inside_total x (with_coordinate env.point v x)))
            (most bound depth v seeks body (pruned body env) step)
            (count_most (ranges v) (λ x. count body (inner x)) (λ x. inside_total x (with_coordinate env.point v x)) at_coordinate)))
          where
            inside_total : ℕ → (ℕ → ℕ) → ℕ
            inside_total x point =
                starting s formats stored ranges number left (Some v) (v ∷ bound) point (nests_of body)
                + all left (nests_of body) (v ∷ bound) point

            at_coordinate : (x : ℕ) → count body (inner x) ≤ inside_total x (with_coordinate env.point v x)
            at_coordinate x =
                subst (λ (p : ℕ → ℕ). count body (inner x) ≤ inside_total x p) (point_is x)
                (subst (λ m. count body (inner x) ≤ m + all left (nests_of body) (v ∷ bound) (inner x).point)
                (all_start (Some v) (v ∷ bound) (inner x).point left (nests_of body))
                (more started (Some v) (v ∷ bound) 0 (depth_after seeks depth) left (inner x) (below_body left along is x)).1)

  within_loop : (v : ℕ) (seeks : List Seek) (body : LoopCode) → IsWithin body → IsWithin (Loop v seeks body)
  within_loop v seeks body more outer innermost bound from depth rest env b =
      let first = loop_first v seeks body outer innermost bound from depth rest env b more in (
        λ behind. first,
        settled (count (Loop v seeks body) env) (sums_from from innermost bound env.point rest (nests_of (Loop v seeks body)))
            (all rest (nests_of (Loop v seeks body)) bound env.point) first,
      )

  -- ---- a sum
  module _ (k : ℕ) (inside body : LoopCode) (one : IsWithin inside) (two : IsWithin body) (outer : ℕ → Bool) (innermost : Option ℕ)
      (bound : List ℕ) (from : ℕ) (depth : ℕ → ℕ) (rest : List ℕ) (env : Env)
      (b : IsBelow outer innermost bound from depth rest (Sum k inside body) env) where
    nx : IsNext s innermost bound from k (concrete_of inside) (concrete_of body)
    nx = next s formats stored ranges order allows outer innermost bound from depth k inside body b.laid

    abbrev n : ℕ
    n = nx.number

    abbrev before : ℕ → Bool
    before = has_started_before s innermost bound k

    covers_sum : (j : ℕ) → reads_any s (concrete_of (Sum k inside body)) j ≡ true → first_sum s ≤ j → before j ≡ true
        → Started s innermost bound from j
    covers_sum j read low h =
        back s formats stored ranges order allows outer innermost bound from depth k inside body b.laid j
        (sym (ap (λ c. reads_any s c j) (concrete_sum k inside body)) ∙ read) low h

    covered_sum : (j : ℕ) → reads_any s (concrete_of (Sum k inside body)) j ≡ true → first_sum s ≤ j
        → Started s innermost bound from j → before j ≡ true
    covered_sum j read low h = past s formats stored ranges order allows outer innermost bound from depth k inside body b.laid j h

    sum_laid : IsLaid s formats stored ranges before innermost bound from depth (Sum k inside body)
    sum_laid =
        laid_by s formats stored ranges allows.sums outer innermost bound from depth (Sum k inside body) b.laid before covers_sum
        covered_sum

    sum_env_there : IsThere s formats stored ranges true before bound (Sum k inside body) env
    sum_env_there =
        there_by s formats stored ranges allows.sums outer innermost bound from depth (Sum k inside body) b.laid before covers_sum
        covered_sum
        true env b.there

    abbrev inside_laid : IsLaid s formats stored ranges before innermost bound k depth inside
    inside_laid = laid_summed s formats stored ranges order allows before innermost bound from depth k inside body sum_laid

    abbrev body_laid : IsLaid s formats stored ranges (given before k true) innermost bound (suc k) depth body
    body_laid = laid_body s formats stored ranges order allows before innermost bound from depth k inside body sum_laid

    abbrev body_env : Env
    body_env = at_cursor env k (some_if (adds_some (layout_of s formats) stored ranges inside env))

    body_most : count body body_env
        ≤ sums_from (suc k) innermost bound env.point rest (nests_of body) + all rest (nests_of body) bound env.point
    body_most = (two (given before k true) innermost bound (suc k) depth rest body_env (record {
      laid = body_laid;
      there = sum_there s formats stored ranges order allows inside (all_tell s formats stored ranges order allows inside) before innermost
          bound from depth k body sum_laid env true sum_env_there;
      shares = shares_sum k inside body b.shares;
      along = subst (AreAlong rest) (nests_sum k inside body) b.along;
      left = b.left;
      open_sums = b.open_sums;
    })).1

    abbrev Q : ℕ → Bool
    Q = is_there s formats stored ranges before bound env.point

    abbrev body_terms : List Nest
    body_terms = terms_of s formats stored ranges (given before k true) body

    known : first_sum s ≤ k → Started s innermost bound (suc k) k
    known low = itself s formats stored ranges order allows before innermost bound from depth k inside body sum_laid

    may : MayStart s innermost bound (first_sum s + n)
    may = subst (MayStart s innermost bound) nx.access nx.starts

    nests_inside : nests_of inside ≡ own_group s n
    nests_inside = ap nests nx.tree ∙ tree_nests s n

    shares_inside : SharesLoops (concrete_of inside)
    shares_inside = subst SharesLoops (sym nx.tree) (tree_shares s n)

    abbrev part_env : Bool
    part_env = remains_below (here env) inside

    abbrev part : Bool
    part = remains_below Q inside

    abbrev live_sum_here : Bool
    live_sum_here = is_live_below (given (here env) k part_env) body k

    -- where the sum is computed it is wanted
    module _ (is : live_sum_here ≡ true) where
      live_env : some_term (λ e. is_live (given (here env) k part_env) e k) body_terms ≡ true
      live_env =
          sym (live_here s (length s.vars) allows.sums.numbers (given before k true) body innermost bound (suc k) body_laid.starts
          body_laid.covers body_laid.covered (given (here env) k part_env) k known) ∙ is

      stands : some_uses body_terms k ≡ true
      stands = some_stands (given (here env) k part_env) body_terms k live_env

      part_more : part_env ≡ true → part ≡ true
      part_more h =
          remains_here s (length s.vars) allows.sums.numbers before inside innermost bound k inside_laid.starts inside_laid.covers
          inside_laid.covered Q
          ∙ remains_less s formats stored ranges allows.sums before innermost bound k depth inside inside_laid false env
          (there_summed s formats stored ranges order allows before innermost bound from depth k inside body sum_laid env true false
          sum_env_there stands (λ no. absurd (never no))) h
        where
          never : false ≡ true → ⊥
          never e = cc

      live_part : some_term (λ e. is_live (given Q k part) e k) body_terms ≡ true
      live_part =
          some_less (given Q k part) (given (here env) k part_env) (λ e. is_live (given (here env) k part_env) e k)
          (λ e. is_live (given Q k part) e k) (less_live (given (here env) k part_env) (given Q k part) k) body_terms
          (λ i stands_there here_there. by i stands_there (nat_eq k i) refl here_there) live_env
        where
          by : (i : ℕ) → some_uses body_terms i ≡ true → (c : Bool) → nat_eq k i ≡ c
              → (if c then part_env else here env i) ≡ true → (if c then part else Q i) ≡ true
          by i leaf_is true e h = part_more h
          by i leaf_is false e h =
              less_there s formats stored ranges allows.sums before innermost bound from depth (Sum k inside body) sum_laid true env
              sum_env_there i
              (leaf_of_body s formats stored ranges order allows before innermost bound from depth k inside body sum_laid i e leaf_is) h

      want : wanted s formats stored ranges order allows before innermost bound from depth k inside body sum_laid env ≡ true
      want =
          live_here s (length s.vars) allows.sums.numbers (given before k true) body innermost bound (suc k) body_laid.starts
          body_laid.covers body_laid.covered (given Q k part) k known ∙ live_part

      inside_most : count inside env ≤ all rest (own_group s n) bound env.point
      inside_most =
          subst (λ ns. count inside env ≤ all rest ns bound env.point) nests_inside
          ((one before innermost bound k depth rest env (record {
            laid = inside_laid;
            there = there_summed s formats stored ranges order allows before innermost bound from depth k inside body sum_laid env true true
                sum_env_there stands (λ yes. (refl, want));
            shares = shares_inside;
            along = subst (AreAlong rest) (sym nests_inside) (along_one rest (sum_at s n).var (b.open_sums n nx.below may), tt);
            left = b.left;
            open_sums = b.open_sums;
          })).0 nx.behind)

      abbrev wanted_at : ℕ → Bool
      wanted_at i =
          some_term (λ e. is_live (given (is_there s formats stored ranges (has_started_before s innermost bound i) bound env.point) i
          (some_term (remains (is_there s formats stored ranges (has_started_before s innermost bound i) bound env.point))
          (opened_group s (has_started_before s innermost bound i) (own_group s n)))) e i)
          (opened_group s (given (has_started_before s innermost bound i) i true) (nests_of body))

      is_wanted_here : is_wanted s formats stored ranges innermost bound env.point (nests_of body) n ≡ true
      is_wanted_here =
          subst (λ i. wanted_at i ≡ true) nx.access
          (subst (λ r. some_term (λ e. is_live (given Q k r) e k) body_terms ≡ true)
          (remains_here s (length s.vars) allows.sums.numbers before inside innermost bound k inside_laid.starts inside_laid.covers
          inside_laid.covered Q
          ∙ ap (λ ns. some_term (remains Q) (opened_group s before ns)) nests_inside) live_part)

      starts_here : starts_at s (λ j. is_wanted s formats stored ranges innermost bound env.point (nests_of body) n) innermost bound n
          ≡ true
      starts_here =
          so_both (is_wanted s formats stored ranges innermost bound env.point (nests_of body) n)
          (is_met innermost (vars_at s (first_sum s + n)) && are_bound bound (vars_at s (first_sum s + n))) is_wanted_here
          (so_both (is_met innermost (vars_at s (first_sum s + n))) (are_bound bound (vars_at s (first_sum s + n))) may.met may.known)

      counted : count inside env ≤ one_sum innermost bound env.point rest (nests_of body) n
      counted =
          subst (λ t. count inside env ≤ (if t then all rest (own_group s n) bound env.point else 0)) (sym starts_here) inside_most

    sum_counted : (if live_sum_here then count inside env else 0) ≤ one_sum innermost bound env.point rest (nests_of body) n
    sum_counted = by live_sum_here counted
      where
        by : (c : Bool) → (c ≡ true → count inside env ≤ one_sum innermost bound env.point rest (nests_of body) n)
            → (if c then count inside env else 0) ≤ one_sum innermost bound env.point rest (nests_of body) n
        by true f = f refl
        by false f = omega arith

    less_test : (i j : ℕ) → i < j → nat_lt i j ≡ true
    less_test i j l = grind (arith, nat_tests, l)

    over_test : (i j : ℕ) → j ≤ i → nat_lt i j ≡ false
    over_test i j l = grind (arith, nat_tests, l)

    test_less : (i j : ℕ) → nat_lt i j ≡ true → i < j
    test_less i j h = grind (arith, nat_tests, h)

    later_more : (m : ℕ) → later (suc k) innermost bound env.point rest (nests_of body) m
        ≤ later from innermost bound env.point rest (nests_of body) m
    later_more m = by (nat_lt (first_sum s + m) from) refl (nat_lt (first_sum s + m) (suc k)) refl
      where
        by : (c : Bool) → nat_lt (first_sum s + m) from ≡ c → (d : Bool) → nat_lt (first_sum s + m) (suc k) ≡ d
            → (if d then 0 else one_sum innermost bound env.point rest (nests_of body) m)
            ≤ (if c then 0 else one_sum innermost bound env.point rest (nests_of body) m)
        by c e true g = omega arith
        by false e false g = omega arith
        by true e false g =
            let first = test_less (first_sum s + m) from e in
            let low = nx.next in
            absurd (clash (nat_lt (first_sum s + m) (suc k)) (less_test (first_sum s + m) (suc k) (omega (arith, first, low))) g)
          where
            clash : (x : Bool) → x ≡ true → x ≡ false → ⊥
            clash x h i = cc

    sums_more : sums_from (suc k) innermost bound env.point rest (nests_of body) + (if live_sum_here then count inside env else 0)
        ≤ sums_from from innermost bound env.point rest (nests_of body)
    sums_more =
        count_take (length s.sums) n (if live_sum_here then count inside env else 0)
        (later (suc k) innermost bound env.point rest (nests_of body)) (later from innermost bound env.point rest (nests_of body)) nx.below
        (λ m other. later_more m)
        (let is = nx.access in
        let low = nx.next in
        let gone : later (suc k) innermost bound env.point rest (nests_of body) n ≡ 0 =
        ap (λ c. if c then 0 else one_sum innermost bound env.point rest (nests_of body) n)
        (less_test (first_sum s + n) (suc k) (omega (arith, is))) in
        let stays : later from innermost bound env.point rest (nests_of body) n ≡ one_sum innermost bound env.point rest (nests_of body) n =
        ap (λ c. if c then 0 else one_sum innermost bound env.point rest (nests_of body) n)
        (over_test (first_sum s + n) from (omega (arith, is, low))) in
        let own_most = sum_counted in
        omega (arith, gone, stays, own_most))

    sum_second : count (Sum k inside body) env
        ≤ sums_from from innermost bound env.point rest (nests_of (Sum k inside body))
        + all rest (nests_of (Sum k inside body)) bound env.point
    sum_second =
        subst (λ ns. count (Sum k inside body) env ≤ sums_from from innermost bound env.point rest ns + all rest ns bound env.point)
        (sym (nests_sum k inside body))
        (let parts = counts.sum k inside body env in
        let first = sums_more in
        let second = body_most in
        omega (arith, parts, first, second))

    -- behind all sums that start none does
    sum_behind : IsBehind s innermost bound from (concrete_of (Sum k inside body)) → ⊥
    sum_behind behind_all =
        let is = nx.access in
        behind_all.none k nx.next (omega (arith, is)) (ap (λ c. reads_any s c k) (concrete_sum k inside body) ∙ nx.used) nx.starts

  within_sum : (k : ℕ) (inside body : LoopCode) → IsWithin inside → IsWithin body → IsWithin (Sum k inside body)
  within_sum k inside body one two outer innermost bound from depth rest env b = (
    λ behind. absurd (sum_behind k inside body one two outer innermost bound from depth rest env b behind),
    sum_second k inside body one two outer innermost bound from depth rest env b,
  )

  -- loops count no more than their groups, and the sums that start
  pub within : (c : LoopCode) → IsWithin c
  within = by_parts IsWithin within_loop within_both within_add within_sum
