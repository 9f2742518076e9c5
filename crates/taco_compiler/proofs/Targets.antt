-- The left variables in loop order are a target as the left variables are.
use Rattle.std.specs.Prelude.{◌≡◌, ℕ, zero, suc, ◌≤◌, ◌<◌, nat_eq, Bool, true, false, ◌||◌, List, [], ◌∷◌, length}
use Rattle.std.specs.Prelude.{filter, slice_index_or, refl}
use Rattle.std.proofs.Common.{◌∙◌, sym, ap, subst, arith}
use Rattle.std.proofs.lemmas.Bool.{eqb-true, eq-eqb}
use Rattle.format_spec.specs.declared.format.FormatLevel.{FormatLevel}
use Rattle.format_spec.specs.Formats.{modes_of}
use Rattle.index_notation.specs.declared.syntax.Statement.{Statement}
use Rattle.iteration_graph.specs.Edges.{format_of, statement_edges}
use Rattle.limits.specs.Limits.{greatest_order}
use Rattle.expr_terms.specs.Terms.{contains}
use Rattle.concrete_notation.specs.Nests.{IsOrderOf, left_in_order}
use Rattle.concrete_notation.proofs.Around.{keys_contain, left_below}
use Rattle.concrete_notation.proofs.Orders.{is_order_of}
use Rattle.loop_code.specs.declared.loops.LoopCode.{LoopCode, Loop', Both', Add, Sum', Row_of-LoopCode, end_of-LoopCode}
use Rattle.loop_code.specs.declared.loops.LoopCode.{more_of-LoopCode}
use Rattle.operand_arrays.specs.Terms.{TargetIsBound, TargetIsBound_in}
use Rattle.sparse_results.specs.Keys.{HasOrderedResult}
use Rattle.sparse_results.proofs.Keys.{result_orders_loops}
use Rattle.taco_compiler.specs.Compiled.{IsOrder}
use Rattle.taco_compiler.proofs.Fits.{IsTarget, map_long}

-- in a loop order the left variables are those that the left side contains
pub keys_filtered : (s : Statement) (order : List ℕ) → filter (contains s.left.vars) order ≡ left_in_order s order
keys_filtered s order = ap (λ (p : ℕ → Bool). filter p order) (λ i v. or_none (contains s.left.vars v) i)
  where
    or_none : (b : Bool) → b ≡ (b || false)
    or_none true = refl
    or_none false = refl

-- a list contains what stands in it
contains_there : (xs : List ℕ) (k d : ℕ) → k < length xs → contains xs (slice_index_or xs k d) ≡ true
contains_there [] k d l = absurd (omega (arith, l))
contains_there (x ∷ xs) zero d l = ap (λ b. b || contains xs x) (eq-eqb x x refl)
contains_there (x ∷ xs) (suc k) d l =
    or_second (nat_eq x (slice_index_or xs k d)) (contains_there xs k d (omega (arith, l)))
  where
    or_second : (b : Bool) {c : Bool} → c ≡ true → (b || c) ≡ true
    or_second true h = refl
    or_second false h = h

-- and what it contains stands at a place
record Stands (xs : List ℕ) (v d : ℕ) : Type 0 where
  at : ℕ
  below : at < length xs
  is : slice_index_or xs at d ≡ v

stands : (xs : List ℕ) (v d : ℕ) → contains xs v ≡ true → Stands xs v d
stands [] v d h = absurd (cc h)
stands (x ∷ xs) v d h = by (nat_eq x v) refl h (stands xs v d)
  where
    by : (b : Bool) → nat_eq x v ≡ b → (b || contains xs v) ≡ true → (contains xs v ≡ true → Stands xs v d) → Stands (x ∷ xs) v d
    by true e g rest = record { at = 0; below = omega arith; is = eqb-true x v e }
    by false e g rest = let r = rest g in let b = r.below in record { at = suc r.at; below = omega (arith, b); is = r.is }

-- variables among those of a target have coordinates at each term where those have
mutual
  among_bound : (target others bound : List ℕ) → ((v : ℕ) → contains others v ≡ true → contains target v ≡ true)
      → (loops : LoopCode) → TargetIsBound target bound loops → TargetIsBound others bound loops
  among_bound target others bound among (Loop' v seeks p body) h = among_bound_in target others (v ∷ bound) among body h
  among_bound target others bound among (Both' p f q g) h =
      (among_bound_in target others bound among f h.0, among_bound_in target others bound among g h.1)
  among_bound target others bound among (Add t) h =
      λ k d l. let s = stands target (slice_index_or others k d) d (among (slice_index_or others k d) (contains_there others k d l)) in
      subst (λ v. contains bound v ≡ true) s.is (h s.at d s.below)
  among_bound target others bound among (Sum' k p inside q body) h = among_bound_in target others bound among body h

  among_bound_in : {m : _} (target others bound : List ℕ) → ((v : ℕ) → contains others v ≡ true → contains target v ≡ true)
      → (row : Row_of-LoopCode m) → TargetIsBound_in target bound row → TargetIsBound_in others bound row
  among_bound_in target others bound among end_of-LoopCode h = tt
  among_bound_in target others bound among (more_of-LoopCode c rest) h = among_bound target others bound among c h

module _ (s : Statement) (formats : List (List FormatLevel)) (h : HasOrderedResult s formats) (order : List ℕ)
    (is : IsOrder s formats order) where
  ordered : IsOrderOf (length s.vars) order
  ordered = is_order_of (length s.vars) (statement_edges s formats) order is

  among : (v : ℕ) → contains (left_in_order s order) v ≡ true → contains s.left.vars v ≡ true
  among v c = sym (keys_contain s h.numbered order ordered v) ∙ c

  -- there is a key for each left variable
  pub keys_many : length (left_in_order s order) ≡ length s.left.vars
  keys_many =
      ap length (result_orders_loops s formats h order is).order
      ∙ map_long (λ m. slice_index_or s.left.vars m 0) (modes_of (format_of formats 0))
      ∙ map_long (λ (l : FormatLevel). l.mode) (format_of formats 0)
      ∙ subst (λ t. length (format_of formats t) ≡ length s.left.vars) h.named.result h.left.order

  pub keys_are_target : (keys : ℕ) → length (left_in_order s order) ≡ keys → IsTarget s (left_in_order s order) keys
  keys_are_target keys many = record {
    within = λ k d l. left_below s h.numbered (slice_index_or (left_in_order s order) k d)
        (among (slice_index_or (left_in_order s order) k d) (contains_there (left_in_order s order) k d l));
    short = subst (λ n. n ≤ greatest_order) (sym keys_many) h.numbered.left.order;
    many = many;
  }

  pub keys_bound : (loops : LoopCode) → TargetIsBound s.left.vars [] loops → TargetIsBound (left_in_order s order) [] loops
  keys_bound loops bound = among_bound s.left.vars (left_in_order s order) [] among loops bound
