-- All loops of a statement count no more than its groups.
use Rattle.std.specs.Prelude.{◌≡◌, ℕ, zero, suc, ◌≤◌, ◌<◌, nat_lt, not, Bool, true, false, ◌||◌, ◌&&◌, if◌then◌else◌, List, [], ◌∷◌}
use Rattle.std.specs.Prelude.{length, map, slice_index_or, None, refl}
use Rattle.std.specs.List.{All}
use Rattle.std.proofs.Common.{◌∙◌, sym, ap, subst, arith, inl}
use Rattle.std.proofs.lemmas.Bool.Decides.{nat_tests}
use Rattle.std.proofs.lemmas.List.Sorted.{All-permutation}
use Rattle.format_spec.specs.declared.format.FormatLevel.{FormatLevel}
use Rattle.index_notation.specs.declared.syntax.Statement.{Statement}
use Rattle.lists.specs.Each.{Each}
use Rattle.expr_terms.specs.Terms.{contains, own_variables, terms}
use Rattle.expr_terms.specs.declared.term.Term.{Term}
use Rattle.concrete_notation.specs.declared.concrete.Concrete.{Concrete}
use Rattle.concrete_notation.specs.Nests.{Nest, SharesLoops, nest_of, nests}
use Rattle.loop_code.specs.declared.loops.LoopCode.{LoopCode}
use Rattle.loop_code.specs.declared.loops.Seek.{Seek}
use Rattle.loop_code.specs.Loops.{Stored, Env, start}
use Rattle.loop_code.specs.Parts.{is_full, is_live}
use Rattle.loop_code.specs.Turns.{count_below, some_if}
use Rattle.lowering.specs.Held.{path_span}
use Rattle.lowering.specs.Layouts.{layout_of}
use Rattle.lowering.specs.Lowered.{IsInOrder, IsInPlace, concrete_of, plain}
use Rattle.lowering.specs.Shapes.{Allows, FindsBelow, FindsReached, variables_at}
use Rattle.lowering.specs.Sums.{first_sum}
use Rattle.lowering.proofs.Reached.{none_reached}
use Rattle.lowering.proofs.RightLoops.{same_nests}
use Rattle.statement_costs.specs.Costs.{at, group_length, group_repeats, groups_length, is_here, is_there, is_walked, present_at}
use Rattle.statement_costs.specs.Costs.{segment_length, some_term, sum_walked, whole_total}
use Rattle.lowering.specs.Starts.{StartsInPlace}
use Rattle.statement_costs.proofs.Groups.{AreAlong, AreSame, IsAlong, filtered_along, permutation_same, some_same, starting_same}
use Rattle.statement_costs.proofs.Groups.{total_same}
use Rattle.statement_costs.proofs.Here.{IsLaid, IsThere, leaf, place, terms_of}
use Rattle.statement_costs.proofs.Opened.{Started, started_before, started_known}
use Rattle.statement_costs.proofs.Parts.{some_stands, some_uses}
use Rattle.statement_costs.proofs.Steps.{IsStep, group_at}
use Rattle.statement_costs.proofs.Trees.{IsCount, nests_of}
use Rattle.statement_costs.proofs.Within.{all_start, within}

each_all : {X : Type 0} (P : X → Type 0) (xs : List X) → Each P xs → All P xs
each_all P [] h = λ k d l. absurd (omega (arith, l))
each_all P (x ∷ xs) h = λ k d l. at (each_all P xs h.1) k d l
  where
    at : All P xs → (k : ℕ) (d : _) → k < suc (length xs) → P (slice_index_or (x ∷ xs) k d)
    at more zero d l = h.0
    at more (suc k) d l = more k d (omega (arith, l))

all_each : {X : Type 0} (P : X → Type 0) (xs : List X) → All P xs → Each P xs
all_each P [] g = tt
all_each P (x ∷ xs) g = (g 0 x (omega arith), all_each P xs (λ k d l. g (suc k) d (omega (arith, l))))

module _ (s : Statement) (formats : List (List FormatLevel)) (stored : Stored) (ranges : ℕ → ℕ) where
  pub walked_sums : (of_access : ℕ → ℕ) (xs ys : List Nest) (bound : List ℕ) (point : ℕ → ℕ) (v : ℕ) → AreSame xs ys
      → sum_walked s formats stored ranges of_access xs bound point v ≡ sum_walked s formats stored ranges of_access ys bound point v
  walked_sums of_access xs ys bound point v same =
      let alike : (k : ℕ) → some_term (λ e. is_live (is_here s formats stored ranges bound point) e k) xs
      ≡ some_term (λ e. is_live (is_here s formats stored ranges bound point) e k) ys =
      λ k. some_same (λ e. is_live (is_here s formats stored ranges bound point) e k) xs ys same in
      λ i. count_below (length s.accesses) (λ k. if alike k i && is_walked s formats bound v k then of_access k else 0)

  pub repeats_same : (xs ys : List Nest) (bound : List ℕ) (point : ℕ → ℕ) (v : ℕ) → AreSame xs ys
      → group_repeats s formats stored ranges xs bound point v ≡ group_repeats s formats stored ranges ys bound point v
  repeats_same xs ys bound point v same = walked_sums (groups_length s formats stored bound point) xs ys bound point v same

  pub length_same : (xs ys : List Nest) (bound : List ℕ) (point : ℕ → ℕ) (v : ℕ) → AreSame xs ys
      → group_length s formats stored ranges xs bound point v ≡ group_length s formats stored ranges ys bound point v
  length_same xs ys bound point v same =
      let full = some_same (is_full (λ k. not (is_walked s formats bound v k)) (is_here s formats stored ranges bound point)) xs ys same in
      let sums = walked_sums (segment_length s formats stored bound point) xs ys bound point v same in
      λ i. if full i then ranges v else sums i

  module _ (c : Concrete) (in_order : IsInOrder s formats c) (allows : Allows s formats in_order.order) (shares : SharesLoops (plain c))
      (loops : LoopCode) (shape : concrete_of loops ≡ plain c) (placed : IsInPlace s formats loops)
      (finds : FindsReached s formats [] (λ k. 0) loops) (starts : StartsInPlace s None [] 0 loops) (below : FindsBelow s loops) where
    nests_are : nests_of loops ≡ nests c
    nests_are = ap nests shape ∙ same_nests c

    are_along : AreAlong in_order.order (nests_of loops)
    are_along =
        subst (AreAlong in_order.order) (sym nests_are)
        (all_each (λ (n : Nest). IsAlong in_order.order n.loops) (nests c)
        (All-permutation (λ (n : Nest). IsAlong in_order.order n.loops) (map (nest_of s in_order.order) (terms s.expr)) (nests c)
        in_order.terms
        (each_all (λ (n : Nest). IsAlong in_order.order n.loops) (map (nest_of s in_order.order) (terms s.expr))
        (each_term (terms s.expr)))))
      where
        each_term : (ts : List Term) → Each (λ (n : Nest). IsAlong in_order.order n.loops) (map (nest_of s in_order.order) ts)
        each_term [] = tt
        each_term (t ∷ ts) =
            (filtered_along (λ v. contains s.left.vars v || contains (own_variables s t) v) in_order.order, each_term ts)

    -- no sum has started
    none : ℕ → Bool
    none j = false

    not_yet : (j : ℕ) → Started s None [] 0 j → ⊥
    not_yet j h =
        let l = started_before s None [] 0 j h (record { known = started_known s None [] 0 j h; met = refl }) in absurd (omega (arith, l))

    start_laid : IsLaid s formats stored ranges none None [] 0 (λ k. 0) loops
    unfolding none
    start_laid = record {
      placed = placed;
      finds = finds;
      reached = λ k is. none_reached (variables_at s formats k);
      below = below;
      starts = starts;
      covers = λ j read low out. absurd (never out);
      covered = λ j read low h. absurd (not_yet j h);
    }
      where
        never : false ≡ true → ⊥
        never e = cc

    start_place : (k : ℕ) → some_uses (terms_of s formats stored ranges none loops) k ≡ true
        → start.cursor k ≡ place s formats stored ranges [] (λ v. 0) k
    start_place k h = by (nat_lt k (first_sum s)) refl
      where
        high : nat_lt k (first_sum s) ≡ false → first_sum s ≤ k
        high e = grind (arith, nat_tests, e)

        by : (b : Bool) → nat_lt k (first_sum s) ≡ b
            → start.cursor k ≡ (if b then at s formats stored [] (λ v. 0) k
            else some_if (present_at s formats stored ranges (length s.sums) (λ v. 0) k))
        by true e = ap (λ d. path_span (layout_of s formats) stored k d (λ v. 0)) (none_reached (variables_at s formats k))
        by false e =
            absurd (not_yet k ((leaf s formats stored ranges allows.sums none None [] 0 (λ k. 0) loops start_laid k h).1 (high e)))

    start_there : IsThere s formats stored ranges true none [] loops start
    start_there = record {
      some = λ k h. inl (start_place k h);
      live = λ e k h. start_place k
          (some_stands (is_there s formats stored ranges none [] (λ v. 0)) (terms_of s formats stored ranges none loops) k h);
    }

    pub whole : (own : ℕ → List Seek → LoopCode → Env → ℕ) (count : LoopCode → Env → ℕ)
        → IsCount (layout_of s formats) stored ranges own count → (number : List Nest → List ℕ → (ℕ → ℕ) → ℕ → ℕ)
        → ((bound : List ℕ) (depth : ℕ → ℕ) (v : ℕ) (seeks : List Seek) (body : LoopCode) (env : Env)
        → IsStep s formats stored ranges bound depth v seeks body env
        → own v seeks body env ≤ number (group_at s formats stored ranges bound body) bound env.point v)
        → ((xs ys : List Nest) (bound : List ℕ) (point : ℕ → ℕ) (v : ℕ) → AreSame xs ys
        → number xs bound point v ≡ number ys bound point v)
        → count loops start ≤ whole_total s formats stored ranges number in_order.order
    whole own count counts number most numbers =
        let counted = (within s formats stored ranges in_order.order allows own count counts number most loops none None [] 0 (λ k. 0)
        in_order.order start (record {
          laid = start_laid;
          there = start_there;
          shares = subst SharesLoops (sym shape) shares;
          along = are_along;
          left = record { front = []; is = refl };
          open_sums = λ n l may. allows.known n l;
        })).1 in
        let sums = all_start s formats stored ranges in_order.order allows own count counts number most None [] (λ v. 0) in_order.order
        (nests_of loops)
        ∙ starting_same s formats stored ranges number in_order.order None [] (λ v. 0) (nests_of loops)
        (map (nest_of s in_order.order) (terms s.expr)) same in
        let totals = total_same s formats stored ranges number numbers in_order.order (nests_of loops)
        (map (nest_of s in_order.order) (terms s.expr)) same [] (λ v. 0) in
        omega (arith, counted, sums, totals)
      where
        same : AreSame (nests_of loops) (map (nest_of s in_order.order) (terms s.expr))
        same =
            subst (λ ns. AreSame ns (map (nest_of s in_order.order) (terms s.expr))) (sym nests_are)
            (λ f. sym (permutation_same (map (nest_of s in_order.order) (terms s.expr)) (nests c) in_order.terms f))
