-- The loops of a concrete statement that shares loops have at most as many slots as the statement, whatever is stored of its accesses.
use Rattle.std.specs.Prelude.{◌≡◌, ℕ, suc, ◌+◌, ◌≤◌, ◌<◌, Bool, true, false, ◌&&◌, if◌then◌else◌, List, [], length}
use Rattle.std.specs.Prelude.{Option, Some, None, refl}
use Rattle.std.proofs.Common.{◌∙◌, sym, ap, subst, arith}
use denote.Hole.Carrier.{hidden}
use Rattle.level_core.specs.declared.span.Span.{Span}
use Rattle.format_spec.specs.declared.format.FormatLevel.{FormatLevel}
use Rattle.index_notation.specs.Statement.{IsNumbered}
use Rattle.index_notation.specs.declared.syntax.Statement.{Statement}
use Rattle.iteration_graph.specs.Edges.{AreFormed}
use Rattle.lists.specs.Each.{Each}
use Rattle.concrete_notation.specs.declared.concrete.Concrete.{Concrete}
use Rattle.concrete_notation.specs.Nests.{Nest, SharesLoops}
use Rattle.loop_code.specs.declared.loops.LoopCode.{LoopCode, Loop, Both, Sum}
use Rattle.loop_code.specs.declared.loops.LoopCode.TheBlock.{hidden-the_row-LoopCode-0}
use Rattle.loop_code.specs.declared.loops.Seek.{Seek}
use Rattle.loop_code.specs.Loops.{Layout, Stored, Env, at_cursor, moved, start}
use Rattle.loop_code.specs.Parts.{given, here, is_live_below, is_some, pruned, remains_below}
use Rattle.loop_code.specs.Turns.{adds_some, count_below, some_if}
use Rattle.lowering.specs.Layouts.{layout_of}
use Rattle.lowering.specs.Lowered.{IsInOrder, IsInPlace, concrete_of, plain}
use Rattle.lowering.specs.Shapes.{FindsBelow, FindsReached}
use Rattle.lowering.specs.Sums.{HasSums, SuitsFormats, reads_any}
use Rattle.lowering.proofs.Fits.{all_allowed}
use Rattle.statement_costs.specs.Costs.{at, is_walked, next_level}
use Rattle.statement_costs.specs.Slots.{group_slots, level_slots, slots, slots_here, statement_slots}
use Rattle.lowering.specs.Starts.{StartsInPlace}
use Rattle.statement_costs.proofs.Groups.{AreSame}
use Rattle.statement_costs.proofs.Lengths.{seeks_most}
use Rattle.statement_costs.proofs.Steps.{IsStep, group_at, in_group, step_real, step_walked}
use Rattle.statement_costs.proofs.Trees.{IsCount}
use Rattle.statement_costs.proofs.Whole.{walked_sums, whole}

module _ (layout : Layout) (stored : Stored) (ranges : ℕ → ℕ) (of_level : ℕ → ℕ → ℕ) where
  abbrev own : ℕ → List Seek → LoopCode → Env → ℕ
  own v seeks body env = slots_here of_level seeks env

  slots_loop : (v : ℕ) (seeks : List Seek) (body : LoopCode) (env : Env) → slots layout stored ranges of_level (Loop v seeks body) env
      ≡ (if remains_below (here env) body then own v seeks body (pruned body env)
      + count_below (ranges v) (λ x. slots layout stored ranges of_level body (moved layout stored v seeks (pruned body env) x)) else 0)
  unfolding hidden-the_row-LoopCode-0 hidden
  slots_loop v seeks body env = refl

  slots_both : (f g : LoopCode) (env : Env) → slots layout stored ranges of_level (Both f g) env
      ≡ slots layout stored ranges of_level f env + slots layout stored ranges of_level g env
  unfolding hidden-the_row-LoopCode-0 hidden
  slots_both f g env = refl

  slots_sum : (k : ℕ) (inside body : LoopCode) (env : Env) → slots layout stored ranges of_level (Sum k inside body) env
      ≡ (if is_live_below (given (here env) k (remains_below (here env) inside)) body k
      then slots layout stored ranges of_level inside env else 0)
      + slots layout stored ranges of_level body (at_cursor env k (some_if (adds_some layout stored ranges inside env)))
  unfolding hidden-the_row-LoopCode-0 hidden
  slots_sum k inside body env = refl

  slots_count : IsCount layout stored ranges own (slots layout stored ranges of_level)
  slots_count = record { loop = slots_loop; both = slots_both; add = λ t env. refl; sum = slots_sum }

module _ (s : Statement) (formats : List (List FormatLevel)) (stored : Stored) (ranges : ℕ → ℕ) (widths : ℕ → ℕ → ℕ) where
  slots_same : (xs ys : List Nest) (bound : List ℕ) (point : ℕ → ℕ) (v : ℕ) → AreSame xs ys
      → group_slots s formats widths stored ranges xs bound point v ≡ group_slots s formats widths stored ranges ys bound point v
  slots_same xs ys bound point v same =
      walked_sums s formats stored ranges (λ k. level_slots s formats widths k (next_level s formats bound k)) xs ys bound point v same

  module _ (bound : List ℕ) (depth : ℕ → ℕ) (v : ℕ) (seeks : List Seek) (body : LoopCode) (env : Env)
      (step : IsStep s formats stored ranges bound depth v seeks body env) where
    abbrev live : ℕ → Bool
    live k = in_group s formats stored ranges bound env.point body k

    -- the slots of a level that is gone through are those of its access in the group
    summed : (x : Seek) → reads_any s (concrete_of body) x.access ≡ true → x.access < length s.accesses → x.level ≡ suc (depth x.access)
        → (layout_of s formats).full x.access x.level ≡ false → (layout_of s formats).variable x.access x.level ≡ v
        → x.level ≤ (layout_of s formats).levels x.access
        → (if here env x.access then level_slots s formats widths x.access x.level else 0)
        ≤ (if live x.access && is_walked s formats bound v x.access
        then level_slots s formats widths x.access (next_level s formats bound x.access) else 0)
    summed x used below level part own within =
        let walked = step_walked s formats stored ranges bound depth v seeks body env step x used level part own within in
        let same : x.level ≡ next_level s formats bound x.access = level ∙ ap suc (step.outer x.access used) in
        let cursor : here env x.access ≡ is_some (if live x.access then at s formats stored bound env.point x.access else None) =
        ap is_some (step.cursor x.access
        (step_real s formats stored ranges bound depth v seeks body env step x.access x.level (depth x.access) level within)) in
        subst (λ w. (if here env x.access then level_slots s formats widths x.access x.level else 0)
        ≤ (if live x.access && w then level_slots s formats widths x.access (next_level s formats bound x.access) else 0)) (sym walked)
        (subst (λ h. (if h then level_slots s formats widths x.access x.level else 0)
        ≤ (if live x.access && true then level_slots s formats widths x.access (next_level s formats bound x.access) else 0)) (sym cursor)
        (subst (λ n. (if is_some (if live x.access then at s formats stored bound env.point x.access else None)
        then level_slots s formats widths x.access n else 0)
        ≤ (if live x.access && true then level_slots s formats widths x.access (next_level s formats bound x.access) else 0)) (sym same)
        (by (live x.access) (at s formats stored bound env.point x.access)
        (level_slots s formats widths x.access (next_level s formats bound x.access)))))
      where
        by : (b : Bool) (o : Option Span) (n : ℕ) → (if is_some (if b then o else None) then n else 0) ≤ (if b && true then n else 0)
        by true None n = omega arith
        by true (Some p) n = omega arith
        by false o n = omega arith

    slots_most : slots_here (level_slots s formats widths) seeks env
        ≤ group_slots s formats widths stored ranges (group_at s formats stored ranges bound body) bound env.point v
    slots_most =
        seeks_most (layout_of s formats) (length s.accesses) v bound depth (reads_any s (concrete_of body))
        (λ x. if here env x.access then level_slots s formats widths x.access x.level else 0)
        (λ k. if live k && is_walked s formats bound v k then level_slots s formats widths k (next_level s formats bound k) else 0) summed
        (λ xs. slots_here (level_slots s formats widths) xs env) refl (λ x xs. refl) seeks step.are step.below

module _ (s : Statement) (formats : List (List FormatLevel)) (numbered : IsNumbered s) (sums : HasSums s formats)
    (suits : Each (SuitsFormats formats) s.accesses) (formed : AreFormed formats s.accesses) (c : Concrete)
    (in_order : IsInOrder s formats c) (shares : SharesLoops (plain c)) (loops : LoopCode) (shape : concrete_of loops ≡ plain c)
    (placed : IsInPlace s formats loops) (finds : FindsReached s formats [] (λ k. 0) loops) (starts : StartsInPlace s None [] 0 loops)
    (below : FindsBelow s loops) (stored : Stored) (ranges : ℕ → ℕ) (widths : ℕ → ℕ → ℕ) where
  pub loops_gather_no_more : slots (layout_of s formats) stored ranges (level_slots s formats widths) loops start
      ≤ statement_slots s formats in_order.order stored widths ranges
  loops_gather_no_more =
      whole s formats stored ranges c in_order
      (all_allowed s formats numbered formed suits in_order.order in_order.is_order sums in_order.inner) shares loops shape placed finds
      starts below
      (own (layout_of s formats) stored ranges (level_slots s formats widths))
      (slots (layout_of s formats) stored ranges (level_slots s formats widths))
      (slots_count (layout_of s formats) stored ranges (level_slots s formats widths)) (group_slots s formats widths stored ranges)
      (λ bound depth v seeks body env step. slots_most s formats stored ranges widths bound depth v seeks body env step)
      (slots_same s formats stored ranges widths)
