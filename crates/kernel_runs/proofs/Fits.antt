-- No fault may come of sizes that fit.
use Rattle.std.specs.Prelude.{◌≡◌, ℕ, zero, suc, ◌≤◌, List, [], ◌∷◌, ◌++◌, Result, Ok, Err}
use Rattle.std.proofs.Common.{◌∙◌, sym, subst, arith, inl, inr}
use Rattle.std.proofs.lemmas.List.Elements.{All-tail}
use Rattle.limits.specs.Limits.{greatest_position_count}
use Rattle.expr_terms.specs.declared.range_fault.RangeFault.{RangeFault}
use Rattle.numbers.specs.Arithmetic.{Arithmetic}
use Rattle.tensor_map.specs.Entries.{Entries}
use Rattle.kernel_code.specs.declared.syntax.Kernel.{Kernel}
use Rattle.level_core.specs.declared.letter.Letter.{Letter}
use Rattle.format_spec.specs.declared.format.FormatLevel.{FormatLevel}
use Rattle.index_notation.specs.declared.syntax.Statement.{Statement}
use Rattle.tensor_storage.specs.Counts.{AreFew, positions_of}
use Rattle.kernel_correctness.specs.Stores.{StartsFew}
use Rattle.level_core.specs.Kinds.{parents_below}
use Rattle.kernel_machine.specs.Begins as begins
use Rattle.operand_packing.proofs.SizeLaws.{index_small}
use Rattle.kernel_runs.specs.declared.fault.RunFault.TheVariants.{Range, SizeLimit, Workspace, Memory}
use Rattle.operand_packing.specs.Drawn.{drawn}
use Rattle.kernel_runs.specs.Planned.{PlannedRefusesNoneThatFit}
use Rattle.kernel_runs.specs.Runs.{IsLargeLevelBy, LevelsFit, PairsFit, RefusesNoneThatFit, result_level_sizes}

-- no number in the midst of few ones passes the limit
few_within : (above below : List ℕ) (count : ℕ) → AreFew (above ++ (count ∷ below)) → count ≤ greatest_position_count
few_within [] below count few = few 0 0 (omega arith)
few_within (n ∷ above) below count few =
    few_within above below count (All-tail (λ count. count ≤ greatest_position_count) n (above ++ (count ∷ below)) few)

begins_not : (letters : List Letter) (sizes : List ℕ) (parents number level count : ℕ) → StartsFew letters sizes parents
    → begins.IsTooLarge letters sizes parents number level count → ⊥
begins_not [] sizes parents number level count few large = large
begins_not (letter ∷ letters) [] parents number level count few large = large
begins_not (letter ∷ letters) (size ∷ sizes) parents number level count few (inl here) =
    let first = few.0 in let passes = here.0 in omega (arith, first, passes)
begins_not (letter ∷ letters) (size ∷ sizes) parents number level count few (inr there) =
    begins_not letters sizes (parents_below letter size parents) (suc number) level count few.1 there.1

-- one answer has one list of ranges
pub same_ranges : (r : Result (List ℕ) RangeFault) (xs ys : List ℕ) → r ≡ Ok xs → r ≡ Ok ys → xs ≡ ys
same_ranges (Ok zs) xs ys x y =
    let first : zs ≡ xs = cc in
    let second : zs ≡ ys = cc in sym first ∙ second
same_ranges (Err fault) xs ys x y = absurd cc

-- no level is too large
none_large : (a : Arithmetic) (s : Statement) (formats : List (List FormatLevel)) (kernel : Kernel) (ranges : List ℕ)
    (operands : List Entries) (tensor level count : ℕ) → LevelsFit a s formats ranges operands
    → IsLargeLevelBy a s formats kernel ranges operands tensor level count → ⊥
none_large a s formats kernel ranges operands zero level count all (inl c) =
    begins_not _ (result_level_sizes formats ranges) 1 1 level count all.begins c.first
none_large a s formats kernel ranges operands zero level count all (inr c) =
    let few = index_small greatest_position_count (positions_of c.store.format c.store.ranges c.passes.table)
    (all.result_fits c.store c.is_store c.passes.table c.passes.named) c.passes.at in
    let most = c.passes.most in
    let passes = c.passes.passes in
    omega (arith, few, most, passes)
none_large a s formats kernel ranges operands (suc n) level count all large =
    let first = large.large.first in
    let few = few_within first.above first.below count
    (subst AreFew first.all (all.operands_fit large.n large.entries large.is large.large.counts large.large.have)) in
    let passes = first.passes in
    omega (arith, few, passes)

pub none_refused : RefusesNoneThatFit
none_refused a s formats kernel given operands bounds ranges (Range fault) told may fit = fit
none_refused a s formats kernel given operands bounds ranges (Memory error) told may fit = fit
none_refused a s formats kernel given operands bounds ranges (Workspace count) told may fit =
    let same = same_ranges _ ranges may.ranges told may.ranges_are in
    let pairs : PairsFit a s formats may.ranges operands = subst (λ rs. PairsFit a s formats rs operands) same fit in
    let few = pairs may.sparse may.store may.is_store may.most.0 may.most.1 in
    let most = may.most.2 in
    let passes = may.passes in
    omega (arith, few, most, passes)
none_refused a s formats kernel given operands bounds ranges (SizeLimit large) told may fit =
    let same = same_ranges _ ranges may.ranges told may.ranges_are in
    none_large a s formats kernel may.ranges operands large.tensor large.level large.count
    (subst (λ rs. LevelsFit a s formats rs operands) same fit) may.by

pub planned_none_refused : PlannedRefusesNoneThatFit
planned_none_refused a s plan kernel given operands bounds ranges (Range fault) told may fit = fit
planned_none_refused a s plan kernel given operands bounds ranges (Memory error) told may fit = fit
planned_none_refused a s plan kernel given operands bounds ranges (Workspace count) told may fit =
    let same = same_ranges _ ranges may.ranges told may.ranges_are in
    let pairs : PairsFit a plan.statement plan.formats may.ranges (drawn plan.origins operands) =
    subst (λ rs. PairsFit a plan.statement plan.formats rs (drawn plan.origins operands)) same fit in
    let few = pairs may.sparse may.store may.is_store may.most.0 may.most.1 in
    let most = may.most.2 in
    let passes = may.passes in
    omega (arith, few, most, passes)
planned_none_refused a s plan kernel given operands bounds ranges (SizeLimit large) told may fit =
    let same = same_ranges _ ranges may.ranges told may.ranges_are in
    none_large a plan.statement plan.formats kernel may.ranges (drawn plan.origins operands) large.tensor large.level large.count
    (subst (λ rs. LevelsFit a plan.statement plan.formats rs (drawn plan.origins operands)) same fit) may.by
