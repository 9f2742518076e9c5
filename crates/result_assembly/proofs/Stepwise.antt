-- Values that are stored one after another, each at a place, and the turns of the loop that does it.
use Rattle.std.specs.Prelude.{◌≡◌, ◌≢◌, ℕ, zero, suc, ◌+◌, ◌≤◌, ◌<◌, if◌then◌else◌, List, length, slice_set}
use Rattle.std.specs.Prelude.{refl}
use Rattle.std.proofs.Common.{◌∙◌, ap, subst, arith}
use Rattle.std.proofs.lemmas.List.{length-set}
use Rattle.kernel_code.specs.Meaning.{same_kind}
use Rattle.kernel_code.specs.declared.syntax.LoopKind.{LoopKind}
use Rattle.kernel_code.specs.declared.syntax.LoopKind.TheVariants.{Merge, Skip, Gather, Drain, Probe}
use Rattle.level_core.specs.Fragments.{turns_of}
use Rattle.level_rows.specs.Placing.{insert_turns}
use Rattle.level_rows.specs.Values.{StoresValues}
use Rattle.level_rows.proofs.ValueLaws.{none_stored, one_stored}

-- the words once the first n values are stored at their places
abbrev pub values_upto : (ℕ → ℕ) → (ℕ → ℕ) → List ℕ → ℕ → List ℕ
values_upto place value first zero = first
values_upto place value first (suc n) = slice_set (values_upto place value first n) (place n) (value n)

pub upto_long : (place value : ℕ → ℕ) (first : List ℕ) (n : ℕ) → length (values_upto place value first n) ≡ length first
upto_long place value first zero = refl
upto_long place value first (suc n) =
    length-set (values_upto place value first n) (place n) (value n) ∙ upto_long place value first n

-- the places of later values don't matter
pub upto_same : (place other value : ℕ → ℕ) (first : List ℕ) (n : ℕ) → ((i : ℕ) → i < n → place i ≡ other i)
    → values_upto place value first n ≡ values_upto other value first n
upto_same place other value first zero same = refl
upto_same place other value first (suc n) same =
    ap (λ xs. slice_set xs (place n) (value n)) (upto_same place other value first n (λ i h. same i (omega (arith, h))))
    ∙ ap (λ p. slice_set (values_upto other value first n) p (value n)) (same n (omega arith))

-- all are stored where no two places are one
pub upto_stored : (count : ℕ) (place value : ℕ → ℕ) (first : List ℕ) → ((i j : ℕ) → i < j → j < count → place i ≢ place j)
    → ((i : ℕ) → i < count → place i < length first) → (n : ℕ) → n ≤ count
    → StoresValues n place value first (values_upto place value first n)
upto_stored count place value first apart within zero h = none_stored place value first
upto_stored count place value first apart within (suc n) h =
    let next : n + 1 ≡ suc n = omega arith in
    subst (λ m. StoresValues m place value first (values_upto place value first (suc n))) next
    (one_stored n count place value first (values_upto place value first n) apart (omega (arith, h)) (within n (omega (arith, h)))
    (upto_stored count place value first apart within n (omega (arith, h))))

-- one row more, sought for in at most so many probe turns
pub row_made : (before t u done width : ℕ) (k : LoopKind) → t ≤ before + insert_turns width done k
    → u ≤ (if same_kind Drain k then t + 1 else t) + turns_of Probe width k → u ≤ before + insert_turns width (suc done) k
row_made before t u done width Merge h g = omega (arith, h, g)
row_made before t u done width Skip h g = omega (arith, h, g)
row_made before t u done width Gather h g = omega (arith, h, g)
row_made before t u done width Drain h g = omega (arith, h, g)
row_made before t u done width Probe h g = omega (arith, h, g)

pub no_row : (before width : ℕ) (k : LoopKind) → before ≤ before + insert_turns width 0 k
no_row before width Merge = omega arith
no_row before width Skip = omega arith
no_row before width Gather = omega arith
no_row before width Drain = omega arith
no_row before width Probe = omega arith
