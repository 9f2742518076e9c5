-- The operands of a planned statement are those of the given one, drawn by its plan.
use Rattle.std.specs.Prelude.{◌≡◌, ℕ, zero, suc, ◌+◌, ◌≤◌, ◌<◌, List, length, map, All, Option, None, Some}
use Rattle.std.specs.Prelude.{slice_get, slice_index, refl}
use Rattle.std.proofs.Common.{◌∙◌, sym, ap, subst, arith}
use Rattle.lists.proofs.Each.{each_from, each_get}
use Rattle.numbers.specs.Arithmetic.{Arithmetic}
use Rattle.tensor_map.specs.Entries.{Entry, Entries, value_at}
use Rattle.format_spec.specs.declared.format.FormatLevel.{FormatLevel}
use Rattle.index_notation.specs.declared.syntax.Access.{Access}
use Rattle.index_notation.specs.declared.syntax.Statement.{Statement}
use Rattle.expr_terms.specs.Operands.{entries_of, list_or_none, operand_values}
use Rattle.tns_io.specs.Positions.{IsBelow}
use Rattle.mode_planner.specs.Planned.{IsPlanned, IsReadAt, origin_of}
use Rattle.mode_planner.specs.declared.planned.Planned.{Planned}
use Rattle.mode_planner.proofs.PlannedLaws.{all_formats, are_origins, is_numbered, is_well_named, left_format, stands}
use Rattle.mode_planner.proofs.PlannedValues.{values_kept}
use Rattle.operand_packing.specs.Drawn.{HaveOperands, drawn, or_no_entries}
use Rattle.operand_packing.specs.Operands.{AreOperands, AreRanges, HasOrder, IsRead, ReadsBelow, ReadsOperand, operand_of}
use Rattle.operand_packing.proofs.Lists.{default_free}
use Rattle.operand_packing.proofs.Steps.{drawn_at, drawn_long}
use Rattle.kernel_runs.specs.Runs.{IsTensorOf}

list_of : (o : Option Entries) → (or_no_entries o).list ≡ list_or_none o
list_of None = refl
list_of (Some entries) = refl

entries_there : (operands : List Entries) (tensor : ℕ) → entries_of operands tensor ≡ list_or_none (operand_of operands tensor)
entries_there operands zero = refl
entries_there operands (suc n) = refl

-- a tensor of the planned statement has the entries of its origin
entries_drawn : (origins : List ℕ) (operands : List Entries) (tensor : ℕ) → 0 < tensor → tensor ≤ length origins
    → entries_of (drawn origins operands) tensor ≡ entries_of operands (origin_of origins tensor)
entries_drawn origins operands zero some within = absurd (omega (arith, some))
entries_drawn origins operands (suc n) some within =
    ap list_or_none (drawn_at origins operands n (omega (arith, within)))
    ∙ list_of (operand_of operands (slice_index origins n)) ∙ sym (entries_there operands (slice_index origins n))

-- and its order
order_of_some : (order : ℕ) (o : Option Entries) → HasOrder order o → (or_no_entries o).order ≡ order
order_of_some order None has = absurd has
order_of_some order (Some entries) has = has

order_drawn : (origins : List ℕ) (operands : List Entries) (tensor order : ℕ) → 0 < tensor → tensor ≤ length origins
    → HasOrder order (operand_of operands (origin_of origins tensor)) → HasOrder order (operand_of (drawn origins operands) tensor)
order_drawn origins operands zero order some within has = absurd (omega (arith, some))
order_drawn origins operands (suc n) order some within has =
    subst (HasOrder order) (sym (drawn_at origins operands n (omega (arith, within))))
    (order_of_some order (operand_of operands (slice_index origins n)) has)

module _ (s : Statement) (formats : List (List FormatLevel)) (plan : Planned) (p : IsPlanned s formats plan) (operands : List Entries)
    (are : AreOperands s formats operands) where
  pub planned_operands : AreOperands plan.statement plan.formats (drawn plan.origins operands)
  planned_operands =
      let long = drawn_long plan.origins operands in
      let tensors = p.tensors_many in
      let stored = p.formats_many in
      record {
        numbered = is_numbered s formats plan p are.numbered are.named are.result_format are.formats_fit;
        named = is_well_named s formats plan p are.numbered are.named are.result_format are.formats_fit;
        many = omega (arith, long, tensors);
        formats_many = omega (arith, stored, tensors);
        result_format = left_format s formats plan p are.numbered are.named are.result_format are.formats_fit;
        formats_fit = all_formats s formats plan p are.numbered are.named are.result_format are.formats_fit;
        reads = each_from (ReadsOperand (drawn plan.origins operands)) plan.statement.accesses reads_drawn;
        read = λ n h. read_at n (p.numbered.read (n + 1) (omega arith) (omega (arith, h, long)));
      }
    where
      reads_drawn : (place : ℕ) (access : Access) → slice_get plan.statement.accesses place ≡ Some access
          → ReadsOperand (drawn plan.origins operands) access
      reads_drawn place access there =
          let at = stands s formats plan p place access there in
          order_drawn plan.origins operands access.tensor (length access.vars) at.planned.stored.operand at.planned.stored.within
          (subst (λ t. HasOrder (length access.vars) (operand_of operands t)) (sym at.planned.stored.origin_is)
          (subst (λ (vars : List ℕ). HasOrder (length vars) (operand_of operands at.old.tensor)) (sym at.planned.vars)
          (each_get (ReadsOperand operands) s.accesses place at.old are.reads at.at)))

      read_at : (n : ℕ) → (place : ℕ) × IsReadAt plan.statement.accesses place (n + 1) → IsRead plan.statement.accesses (n + 1)
      read_at n found = record {
        place = found.0;
        access = found.1.access;
        stands = found.1.stands;
        tensor_is = found.1.tensor_is;
      }

  pub planned_ranges : (ranges : List ℕ) → AreRanges s operands ranges → AreRanges plan.statement (drawn plan.origins operands) ranges
  planned_ranges ranges fits = record {
    long = fits.long ∙ ap (λ names. length names) (sym p.vars);
    small = fits.small;
    below = each_from (ReadsBelow (drawn plan.origins operands) (slice_index ranges)) plan.statement.accesses below_drawn;
  }
    where
      below_drawn : (place : ℕ) (access : Access) → slice_get plan.statement.accesses place ≡ Some access
          → ReadsBelow (drawn plan.origins operands) (slice_index ranges) access
      below_drawn place access there =
          let at = stands s formats plan p place access there in
          let same : entries_of (drawn plan.origins operands) access.tensor ≡ entries_of operands at.old.tensor =
          entries_drawn plan.origins operands access.tensor at.planned.stored.operand at.planned.stored.within
          ∙ ap (entries_of operands) at.planned.stored.origin_is in
          subst (λ list. All (λ (entry : Entry). IsBelow (map (slice_index ranges) access.vars) entry.coords) list) (sym same)
          (subst (λ (vars : List ℕ). All (λ (entry : Entry). IsBelow (map (slice_index ranges) vars) entry.coords)
          (entries_of operands at.old.tensor)) (sym at.planned.vars)
          (each_get (ReadsBelow operands (slice_index ranges)) s.accesses place at.old fits.below at.at))

  pub origins_known : HaveOperands plan.origins operands
  origins_known = λ k d h.
      let known = (are_origins s formats plan p are.numbered are.named are.result_format are.formats_fit).operands (suc k) (omega arith)
      (omega (arith, h)) in
      subst (λ o. (0 < o) × (o ≤ length operands)) (default_free plan.origins k 0 d h)
      (known.0, (let below = known.1 in let many = are.many in omega (arith, below, many)))

  -- the entries of the planned statement's result are those of the given one's
  pub planned_tensor : (a : Arithmetic) (ranges : ℕ → ℕ) (shape : List ℕ) (entries : Entries)
      → IsTensorOf a plan.statement (drawn plan.origins operands) ranges shape entries → IsTensorOf a s operands ranges shape entries
  planned_tensor a ranges shape entries is = record {
    shape_is = is.shape_is ∙ ap (λ (l : Access). map ranges l.vars) p.left;
    order_is = is.order_is;
    below = is.below;
    increasing = is.increasing;
    nonzero = is.nonzero;
    values_are = λ coords below. is.values_are coords below
        ∙ values_kept a s formats plan (operand_values a operands) (operand_values a (drawn plan.origins operands)) ranges coords
        are.numbered p
        (λ tensor at some within. ap (λ list. value_at a list at) (entries_drawn plan.origins operands tensor some within));
  }
