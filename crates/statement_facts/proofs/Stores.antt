-- The levels of operands on a store, and what is told of a run's start.
use Rattle.std.specs.Prelude.{◌≡◌, ℕ, zero, suc, ◌+◌, ◌≤◌, ◌<◌, List, [], ◌∷◌, ◌++◌, length, All, Some, slice_get}
use Rattle.std.specs.Prelude.{slice_index, slice_index_or, refl}
use Rattle.std.proofs.Common.{◌∙◌, ap, sym, subst, arith}
use Rattle.std.proofs.lemmas.List.Elements.{All-nil, All-cons}
use Rattle.std.proofs.lemmas.Option.{get_or_from_slice_get, slice_get_within}
use Rattle.limits.specs.Limits.{greatest_position_count}
use Rattle.limits.proofs.Limits.{positions_are_small}
use Rattle.kernel_code.specs.Kernels.{start_arrays}
use Rattle.level_core.specs.Meaning.{Arrays}
use Rattle.format_spec.specs.declared.format.FormatLevel.{FormatLevel}
use Rattle.format_spec.specs.Formats.{letters_of}
use Rattle.index_notation.specs.declared.syntax.Statement.{Statement}
use Rattle.iteration_graph.specs.Edges.{format_of}
use Rattle.tensor_storage.specs.Storages.{Storage}
use Rattle.kernel_correctness.specs.Stores.{Store, IsStoreOf, IsGiven, IsHeld, IsOperand, AreOperands, OperandsHeld, level_sizes}
use Rattle.kernel_correctness.proofs.Starts.{starts_on_store}
use Rattle.lists.specs.Each.{Each}
use Rattle.lists.proofs.Each.{each_append}
use Rattle.store_facts.specs.declared.facts.StoreFact.{StoreFact}
use Rattle.store_facts.specs.Facts.{IsFact}
use Rattle.statement_facts.specs.Facts.{AreTrue, AreTrueOfOperands, IsTrueOfTensor, HeldLevels}

-- the operand of a number
record OperandAt (s : Statement) (formats : List (List FormatLevel)) (ranges : ℕ → ℕ) (tensor : ℕ) (arrays : Arrays) : Type 0 where
  of : Storage
  is : IsOperand (format_of formats tensor) (level_sizes s ranges tensor (format_of formats tensor)) of
  held : IsHeld of tensor arrays

operand_at : (s : Statement) (formats : List (List FormatLevel)) (ranges : ℕ → ℕ) (first : ℕ) (operands : List Storage) (arrays : Arrays)
    (i : ℕ) → i < length operands → AreOperands s formats ranges first operands → OperandsHeld operands first arrays
    → OperandAt s formats ranges (first + i) arrays
operand_at s formats ranges first [] arrays i l are held = absurd (omega (arith, l))
operand_at s formats ranges first (o ∷ os) arrays zero l are held =
    let same : first ≡ first + 0 = omega arith in
    subst (λ t. OperandAt s formats ranges t arrays) same (record { of = o; is = are.0; held = held.0 })
operand_at s formats ranges first (o ∷ os) arrays (suc i) l are held =
    let same : suc first + i ≡ first + suc i = omega arith in
    subst (λ t. OperandAt s formats ranges t arrays) same
    (operand_at s formats ranges (suc first) os arrays i (omega (arith, l)) are.1 held.1)

-- the levels of a tensor of the right side, on a store
pub levels_held : (s : Statement) (formats : List (List FormatLevel)) (nothing : ℕ) (store : Store) (arrays : Arrays) (tensor : ℕ)
    → IsStoreOf s formats store → IsGiven nothing store arrays → 0 < tensor → tensor + length s.sums < length s.tensors
    → HeldLevels s tensor 1 (format_of formats tensor) arrays
levels_held s formats nothing store arrays zero of given some within = absurd (omega (arith, some))
levels_held s formats nothing store arrays (suc i) of given some within =
    let at = operand_at s formats (slice_index store.ranges) 1 store.operands arrays i
    (let many = of.operands in omega (arith, many, within)) of.operands_keep given.operands in
    let there : OperandAt s formats (slice_index store.ranges) (suc i) arrays =
    (let same : 1 + i ≡ suc i = omega arith in subst (λ t. OperandAt s formats (slice_index store.ranges) t arrays) same at) in
    record {
      ranges = store.ranges;
      ranges_are = given.ranges;
      many = of.each;
      levels = there.of.levels;
      letters = there.is.storage.letters ∙ ap letters_of there.is.format_is;
      sizes = there.is.sizes_are;
      keep = there.is.keeps;
      held = there.held.levels;
    }

all_each : (P : StoreFact → Type 0) (facts : List StoreFact) → Each P facts → All P facts
all_each P [] h = All-nil P
all_each P (f ∷ fs) h = All-cons P f fs h.0 (all_each P fs h.1)

small_at : (xs : List ℕ) (i v : ℕ) → All (λ range. range ≤ greatest_position_count) xs → slice_get xs i ≡ Some v
    → v ≤ greatest_position_count
small_at xs i v h is =
    subst (λ range. range ≤ greatest_position_count) (get_or_from_slice_get xs i v v is) (h i v (slice_get_within xs i v is))

-- what is true of operands on every store is so where a run starts
pub true_of_all : (s : Statement) (formats : List (List FormatLevel)) (facts : List StoreFact) → AreTrueOfOperands s formats facts
    → AreTrue s formats facts
true_of_all s formats facts h = record {
  keeps = λ nothing store arrays k of given.
      let start = starts_on_store nothing store k arrays given in
      record {
        each = all_each (IsFact (start_arrays k arrays)) facts (h nothing store (start_arrays k arrays) of start);
        words = λ ranges v range is at.
            let same : store.ranges ≡ ranges = (let both : Some store.ranges ≡ Some ranges = sym given.ranges ∙ is in cc both) in
            let small = small_at store.ranges v range of.small (ap (λ ys. slice_get ys v) same ∙ at) in
            let few = positions_are_small in
            omega (arith, small, few);
      };
}

pub none_true : (s : Statement) (formats : List (List FormatLevel)) (facts : List StoreFact) → facts ≡ []
    → AreTrueOfOperands s formats facts
none_true s formats facts is nothing store arrays of given = subst (Each (IsFact arrays)) (sym is) tt

-- the facts of one tensor more
pub more_true : (s : Statement) (formats : List (List FormatLevel)) (tensor : ℕ) (format : List FormatLevel)
    (facts more all : List StoreFact)
    → format ≡ format_of formats tensor → AreTrueOfOperands s formats facts → IsTrueOfTensor s tensor format more → all ≡ facts ++ more
    → AreTrueOfOperands s formats all
more_true s formats tensor format facts more all format_is old new is nothing store arrays of given =
    subst (Each (IsFact arrays)) (sym is)
    (each_append (IsFact arrays) facts more (old nothing store arrays of given)
    (new arrays (λ some within. subst (λ f. HeldLevels s tensor 1 f arrays) (sym format_is)
    (levels_held s formats nothing store arrays tensor of given some within))))

-- what stands at a place doesn't depend on what there would be elsewhere
pub any_default : {X : Type 0} (xs : List X) (i : ℕ) (d e : X) → i < length xs → slice_index_or xs i d ≡ slice_index_or xs i e
any_default [] i d e l = absurd (omega (arith, l))
any_default (x ∷ xs) zero d e l = refl
any_default (x ∷ xs) (suc i) d e l = any_default xs i d e (omega (arith, l))
