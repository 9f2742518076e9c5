-- A statement is compiled as it is stored: in its loop order, or by the plan that mends its storage orders.
use Rattle.std.specs.Prelude.{◌≡◌, ◌≤◌, ℕ, Bool, true, false, ◌||◌, ◌⊎◌, List, length, Option, None, Some, IfSome, Ok, refl}
use Rattle.std.specs.List.{list_any}
use Rattle.std.proofs.Common.{◌∙◌, sym, ap, subst, inl, inr, arith}
use Rattle.numbers.specs.Arithmetic.{Arithmetic}
use Rattle.kernel_code.specs.Semirings.{semiring_of}
use Rattle.format_spec.specs.declared.format.FormatLevel.{FormatLevel}
use Rattle.index_notation.specs.Statement.{IsNumberedWithSums}
use Rattle.index_notation.specs.declared.syntax.NestedSum.{NestedSum}
use Rattle.index_notation.specs.declared.syntax.Statement.{Statement}
use Rattle.expr_terms.specs.Minus.{has_minus}
use Rattle.nested_sums.specs.Bound.{HasNoBadSum}
use Rattle.nested_sums.specs.Pieces.{HasMeaningWithSums}
use Rattle.iteration_graph.specs.Edges.{statement_edges}
use Rattle.iteration_graph.proofs.OrderLaws.{no_order}
use Rattle.mode_planner.specs.Planned.{Answers as PlanAnswers, CanBeCompiled, HaveOrder}
use Rattle.mode_planner.specs.declared.planned.Planned.{Planned}
use Rattle.command_line.specs.declared.Task.{Task}
use Rattle.command_line.specs.declared.Task.TheVariants as task
use Rattle.taco_compiler.specs.Compiled.{Answers, IsOrder, HasCycle}
use Rattle.taco_compiler.specs.declared.compiled.Compiled.{Compiled}
use Rattle.taco_top.specs.Values.{Values}
use Rattle.taco_top.specs.Asked.{needs_files, needs_kernel, needs_order, writes_result}
use Rattle.taco_top.specs.Run.{Request}
use Rattle.taco_top.specs.Stored.{IsRunBy, stored_statement, stored_formats}
use Rattle.taco_top.specs.Told.{IsKernelOf}
use Rattle.taco_top.proofs.PlannedSums.{planned_bound}

-- a task with a kernel needs an order of loops, or mends storage orders
of_task : (t : Task) → needs_kernel t ≡ true → (needs_order t ≡ true) ⊎ (t ≡ task.Auto)
of_task task.Run needs = inl refl
of_task task.Kernel needs = inl refl
of_task task.Report needs = inl refl
of_task task.Auto needs = inr refl
of_task task.Plan needs = absurd cc

-- one that writes a result has a kernel, and reads files
pub writing_needs_kernel : (t : Task) → writes_result t ≡ true → needs_kernel t ≡ true
writing_needs_kernel task.Run writes = refl
writing_needs_kernel task.Kernel writes = refl
writing_needs_kernel task.Report writes = refl
writing_needs_kernel task.Auto writes = refl
writing_needs_kernel task.Plan writes = absurd cc

pub writing_needs_files : (t : Task) → writes_result t ≡ true → needs_files t ≡ true
writing_needs_files task.Run writes = refl
writing_needs_files task.Kernel writes = absurd cc
writing_needs_files task.Report writes = refl
writing_needs_files task.Auto writes = refl
writing_needs_files task.Plan writes = absurd cc

-- what is planned has no cycle, and what has an order has none
uncycled : (s : Statement) (formats : List (List FormatLevel)) (plan : Option Planned) (cycle : List ℕ) → PlanAnswers s formats plan
    → IfSome plan (λ planned. CanBeCompiled planned.statement planned.formats)
    → HasCycle (stored_statement s plan) (stored_formats formats plan) cycle → ⊥
uncycled s formats None cycle answers compiled has = no_order (length s.vars) (statement_edges s formats) cycle answers.loops has answers.is
uncycled s formats (Some plan) cycle answers compiled has = compiled.no_cycle cycle has

module _ (r : Request) (formats : List (List FormatLevel)) (formats_are : formats ≡ r.formats) (plan : Option Planned)
    (unplanned : needs_order r.task ≡ true → plan ≡ None)
    (planned : r.task ≡ task.Auto → PlanAnswers r.statement formats plan) where
  -- the statement has a loop order, where its task needs one and it was compiled
  pub ordered : (order : List ℕ) → IsOrder (stored_statement r.statement plan) (stored_formats formats plan) order
      → needs_order r.task ≡ true → HaveOrder r.statement r.formats
  ordered order is needs = record {
    loops = order;
    is = subst (λ fs. IsOrder r.statement fs order) formats_are
        (subst (λ p. IsOrder (stored_statement r.statement p) (stored_formats formats p) order) (unplanned needs) is);
  }

  pub run_by : (order : List ℕ) → IsOrder (stored_statement r.statement plan) (stored_formats formats plan) order
      → needs_kernel r.task ≡ true → IsRunBy r plan
  run_by order is needs = by (of_task r.task needs)
    where
      by : (needs_order r.task ≡ true) ⊎ (r.task ≡ task.Auto) → IsRunBy r plan
      by (inl needed) = subst (λ p. IsRunBy r p) (sym (unplanned needed)) (ordered order is needed)
      by (inr mends) = subst (λ fs. PlanAnswers r.statement fs plan) formats_are (planned mends)

  pub kernel_is : (over : Values) (c : Compiled)
      → Answers over.arithmetic (stored_statement r.statement plan) (stored_formats formats plan) (Ok c)
      → c.kernel.semiring ≡ semiring_of over.is_ring over.name
      → IsKernelOf over (stored_statement r.statement plan) (stored_formats r.formats plan) c.order c.kernel
  kernel_is over c is named =
      subst (λ fs. IsKernelOf over (stored_statement r.statement plan) (stored_formats fs plan) c.order c.kernel) formats_are
      (record { is_order = is.0; right = is.1; compiled = is.2; over_is = named })

  -- each minus has a meaning in what is stored, where it has one in what is asked for
  pub stored_meant : (b : Bool) → needs_kernel r.task ≡ true → HasMeaningWithSums b r.statement
      → HasMeaningWithSums b (stored_statement r.statement plan)
  stored_meant b needs meant = by (of_task r.task needs)
    where
      kept : (c : Bool) (planned : Planned) → PlanAnswers r.statement formats (Some planned) → HasMeaningWithSums c r.statement
          → HasMeaningWithSums c planned.statement
      kept true planned answers is = tt
      kept false planned answers is =
          ap (λ e. has_minus e || list_any (λ (sum : NestedSum). has_minus sum.inside) planned.statement.sums) answers.planned.expr
          ∙ ap (λ sums. has_minus r.statement.expr || list_any (λ (sum : NestedSum). has_minus sum.inside) sums) answers.planned.sums
          ∙ is

      of_plan : (p : Option Planned) → PlanAnswers r.statement formats p → HasMeaningWithSums b (stored_statement r.statement p)
      of_plan None answers = meant
      of_plan (Some planned) answers = kept b planned answers meant

      by : (needs_order r.task ≡ true) ⊎ (r.task ≡ task.Auto) → HasMeaningWithSums b (stored_statement r.statement plan)
      by (inl needed) = subst (λ p. HasMeaningWithSums b (stored_statement r.statement p)) (sym (unplanned needed)) meant
      by (inr mends) = of_plan plan (planned mends)

  -- what is stored is numbered, and no sum of it is bad
  pub stored_numbered : needs_kernel r.task ≡ true → IsNumberedWithSums r.statement
      → IfSome plan (λ planned. CanBeCompiled planned.statement planned.formats) → IsNumberedWithSums (stored_statement r.statement plan)
  stored_numbered needs numbered compiled = by plan compiled
    where
      by : (p : Option Planned) → IfSome p (λ planned. CanBeCompiled planned.statement planned.formats)
          → IsNumberedWithSums (stored_statement r.statement p)
      by None able = numbered
      by (Some planned) able = able.numbered

  pub stored_bound : Arithmetic → needs_kernel r.task ≡ true → IsNumberedWithSums r.statement → HasNoBadSum r.statement
      → HasNoBadSum (stored_statement r.statement plan)
  stored_bound a needs numbered bound = by (of_task r.task needs)
    where
      of_plan : (p : Option Planned) → PlanAnswers r.statement formats p → HasNoBadSum (stored_statement r.statement p)
      of_plan None answers = bound
      of_plan (Some planned) answers = planned_bound a r.statement formats planned numbered answers.planned bound

      by : (needs_order r.task ≡ true) ⊎ (r.task ≡ task.Auto) → HasNoBadSum (stored_statement r.statement plan)
      by (inl needed) = subst (λ p. HasNoBadSum (stored_statement r.statement p)) (sym (unplanned needed)) bound
      by (inr mends) = of_plan plan (planned mends)

  -- there are no more formats than tensors
  pub stored_few : needs_kernel r.task ≡ true → length r.formats ≡ length r.statement.tensors
      → length (stored_formats formats plan) ≤ length (stored_statement r.statement plan).tensors
  stored_few needs many = by (of_task r.task needs)
    where
      here : length formats ≤ length r.statement.tensors
      here = let same : length formats ≡ length r.formats = ap length formats_are in omega (arith, same, many)

      of_plan : (p : Option Planned) → PlanAnswers r.statement formats p
          → length (stored_formats formats p) ≤ length (stored_statement r.statement p).tensors
      of_plan None answers = here
      of_plan (Some planned) answers =
          let f = answers.planned.formats_many in let t = answers.planned.tensors_many in omega (arith, f, t)

      by : (needs_order r.task ≡ true) ⊎ (r.task ≡ task.Auto)
          → length (stored_formats formats plan) ≤ length (stored_statement r.statement plan).tensors
      by (inl needed) =
          subst (λ p. length (stored_formats formats p) ≤ length (stored_statement r.statement p).tensors) (sym (unplanned needed)) here
      by (inr mends) = of_plan plan (planned mends)

  -- a cycle is told only where an order is needed
  pub cyclic : IfSome plan (λ planned. CanBeCompiled planned.statement planned.formats) → (cycle : List ℕ)
      → HasCycle (stored_statement r.statement plan) (stored_formats formats plan) cycle → needs_kernel r.task ≡ true
      → (needs_order r.task ≡ true) × HasCycle r.statement r.formats cycle
  cyclic compiled cycle has needs = by (of_task r.task needs)
    where
      by : (needs_order r.task ≡ true) ⊎ (r.task ≡ task.Auto) → (needs_order r.task ≡ true) × HasCycle r.statement r.formats cycle
      by (inl needed) = (
        needed,
        subst (λ fs. HasCycle r.statement fs cycle) formats_are
            (subst (λ p. HasCycle (stored_statement r.statement p) (stored_formats formats p) cycle) (unplanned needed) has),
      )
      by (inr mends) = absurd (uncycled r.statement formats plan cycle (planned mends) compiled has)
