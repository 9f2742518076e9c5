-- What is told of a statement that reads each nested sum of a written one as a tensor: of the written one's tensors what was told, and of a
-- sum the sum of what stands inside.
use Rattle.std.specs.Prelude.{◌≡◌, ℕ, zero, suc, ◌+◌, ◌-◌, ◌^◌, ◌≤◌, ◌<◌, Bool, true, false, nat_eq, cond, List, [], ◌∷◌, ◌++◌, length}
use Rattle.std.specs.Prelude.{if◌then◌else◌, map, option_to_list, take, Some, slice_get, slice_index_or, refl}
use Rattle.std.proofs.Common.{◌∙◌, sym, ap, subst, arith}
use Rattle.std.proofs.Math.Seq.{take-append_seam}
use Rattle.lists.proofs.Each.{each_get}
use Rattle.numbers.specs.Arithmetic.{Arithmetic, Laws}
use Rattle.numbers.proofs.Sums.{sum_fits}
use Rattle.format_spec.specs.declared.format.FormatLevel.{FormatLevel}
use Rattle.index_notation.specs.Statement.{IsAccess, IsNumberedWithSums}
use Rattle.index_notation.specs.declared.syntax.Access.{Access}
use Rattle.index_notation.specs.declared.syntax.NestedSum.{NestedSum}
use Rattle.index_notation.specs.declared.syntax.Statement.{Statement}
use Rattle.expr_terms.specs.Nested.{accesses_with, flat, flat_values, free_in, sum_access, sum_value, values_with, with_tensor}
use Rattle.expr_terms.specs.Points.{point_of, with_coordinate}
use Rattle.expr_terms.specs.Ranges.{greatest_of, mode_size, ranges_at}
use Rattle.expr_terms.specs.Value.{access_value_or_zero, value_of}
use Rattle.expr_terms.specs.ValueLaws.{AreWords}
use Rattle.expr_terms.proofs.NestedLaws.{accesses_kept, accesses_longer, flat_plain, names_longer}
use Rattle.expr_terms.proofs.NestedValues.{sum_is_read, values_kept}
use Rattle.expr_terms.proofs.PointLaws.{unequal}
use Rattle.workspaces.specs.Nested.{flat_paths, paths_with}
use Rattle.workspaces.specs.Presence.{access_is_present}
use Rattle.workspaces.specs.PresenceLaws.{AreZeroElsewhere}
use Rattle.workspaces.proofs.Absent.{absent_is_zero}
use Rattle.workspaces.proofs.NestedZeros.{flat_zero_elsewhere}
use Rattle.nested_sums.proofs.PathReadings.{paths_kept, sum_is_there}
use Rattle.concrete_notation.specs.Contributions.{Inputs}
use Rattle.lowering.specs.Sums.{AreSummed, HasSums, first_sum, no_sum, sum_at}
use Rattle.lowering.proofs.FlatSums.{flat_has_sums}
use Rattle.kernel_correctness.specs.Stores.{IsFlat, level_sizes, told_with_sums}

-- what is told of a written statement's tensors and sums
abbrev pub flat_inputs : Arithmetic → Statement → Inputs → Inputs
flat_inputs a w inputs = record {
  paths = flat_paths w inputs.paths inputs.ranges;
  values = flat_values a w inputs.values inputs.ranges;
  ranges = inputs.ranges;
}

module _ (w : Statement) where
  first_is : first_sum (flat w) ≡ length w.accesses
  first_is = let longer = accesses_longer (length w.vars) w.accesses (length w.tensors) w.sums in omega (arith, longer)

  front_is : take (first_sum (flat w)) (flat w).accesses ≡ w.accesses
  front_is =
      let kept = accesses_kept (length w.vars) w.accesses (length w.tensors) w.sums in
      ap (λ n. take n (flat w).accesses) first_is ∙ ap (take (length w.accesses)) kept.1 ∙ take-append_seam w.accesses kept.0

  tensors_are : length (flat w).tensors - length w.sums ≡ length w.tensors
  tensors_are = let longer = names_longer w.tensors w.sums in omega (arith, longer)

pub told_flat : (a : Arithmetic) (w : Statement) (inputs : Inputs) → told_with_sums a (flat w) inputs ≡ flat_inputs a w inputs
told_flat a w inputs = λ i. record {
  paths = paths_with inputs.ranges (length w.vars) (front_is w i) (tensors_are w i) w.sums inputs.paths;
  values = values_with a inputs.ranges (length w.vars) (front_is w i) (tensors_are w i) w.sums inputs.values;
  ranges = inputs.ranges;
}

-- without sums it is what is told of tensors
pub told_plain : (a : Arithmetic) (s : Statement) (inputs : Inputs) → s.sums ≡ [] → told_with_sums a s inputs ≡ inputs
told_plain a s inputs none =
    let told : List NestedSum → Inputs = λ sums. record {
      paths = paths_with inputs.ranges (length s.vars) (take (first_sum s) s.accesses) (length s.tensors - length s.sums) sums inputs.paths;
      values = values_with a inputs.ranges (length s.vars) (take (first_sum s) s.accesses) (length s.tensors - length s.sums) sums
          inputs.values;
      ranges = inputs.ranges;
    } in ap told none

get_or : (sums : List NestedSum) (n : ℕ) → n < length sums → slice_get sums n ≡ Some (slice_index_or sums n no_sum)
get_or [] n h = absurd (omega (arith, h))
get_or (sum ∷ sums) zero h = refl
get_or (sum ∷ sums) (suc n) h = get_or sums n (omega (arith, h))

get_front : (xs ys : List Access) (k : ℕ) → k < length xs → slice_get (xs ++ ys) k ≡ slice_get xs k
get_front [] ys k h = absurd (omega (arith, h))
get_front (x ∷ xs) ys zero h = refl
get_front (x ∷ xs) ys (suc k) h = get_front xs ys k (omega (arith, h))

module _ (a : Arithmetic) (laws : Laws a) where
  -- of a sum the sum of its inside is told
  flat_told : (w : Statement) → IsNumberedWithSums w → (inputs : Inputs) → AreZeroElsewhere a inputs.paths inputs.values
      → AreSummed a (flat w) (flat_inputs a w inputs)
  flat_told w numbered inputs elsewhere = record {
    paths = λ n below point.
        ap (λ m. is_there (m + n) point) (first_is w)
        ∙ sum_is_there w numbered inputs.paths inputs.ranges n (sum_at w n) (get_or w.sums n below) point;
    values = λ n below point.
        ap (λ m. value_there (m + n) point) (first_is w)
        ∙ sum_is_read a w numbered inputs.values inputs.ranges n (sum_at w n) (get_or w.sums n below) point;
    absent = λ n below point none.
        absent_is_zero a laws (flat_paths w inputs.paths inputs.ranges) (flat_values a w inputs.values inputs.ranges)
        (flat_zero_elsewhere a laws w inputs.paths inputs.values inputs.ranges elsewhere) (flat w).accesses point (sum_at w n).inside none;
  }
    where
      is_there : ℕ → (ℕ → ℕ) → Bool
      is_there k point = access_is_present (flat_paths w inputs.paths inputs.ranges) point (slice_get (flat w).accesses k)

      value_there : ℕ → (ℕ → ℕ) → ℕ
      value_there k point = access_value_or_zero a (flat_values a w inputs.values inputs.ranges) point (slice_get (flat w).accesses k)

  pub sums_told : (s : Statement) (formats : List (List FormatLevel)) → IsFlat s formats → (inputs : Inputs)
      → AreZeroElsewhere a inputs.paths inputs.values → AreSummed a s (told_with_sums a s inputs)
  sums_told s formats is inputs elsewhere =
      subst (λ t. AreSummed a t (told_with_sums a t inputs)) (sym is.is)
      (subst (AreSummed a (flat is.written)) (sym (told_flat a is.written inputs)) (flat_told is.written is.numbered inputs elsewhere))

  -- tensors and sums are zero where they have no path, if tensors are
  pub zero_told : (s : Statement) (formats : List (List FormatLevel)) → IsFlat s formats → (inputs : Inputs)
      → AreZeroElsewhere a inputs.paths inputs.values
      → AreZeroElsewhere a (told_with_sums a s inputs).paths (told_with_sums a s inputs).values
  zero_told s formats is inputs elsewhere =
      subst (λ t. AreZeroElsewhere a (told_with_sums a t inputs).paths (told_with_sums a t inputs).values) (sym is.is)
      (subst (λ (told : Inputs). AreZeroElsewhere a told.paths told.values) (sym (told_flat a is.written inputs))
      (flat_zero_elsewhere a laws is.written inputs.paths inputs.values inputs.ranges elsewhere))

  words_with : (ranges : ℕ → ℕ) (vars : ℕ) (accesses : List Access) (tensor : ℕ) (sums : List NestedSum) (values : ℕ → List ℕ → ℕ)
      → AreWords values → AreWords (values_with a ranges vars accesses tensor sums values)
  words_with ranges vars accesses tensor [] values words = words
  words_with ranges vars accesses tensor (sum ∷ sums) values words =
      words_with ranges vars (accesses ++ (sum_access vars accesses tensor sum ∷ [])) (tensor + 1) sums
      (with_tensor values tensor (sum_value a ranges vars accesses values sum)) (λ other coords. by other coords (nat_eq other tensor))
    where
      by : (other : ℕ) (coords : List ℕ) (b : Bool)
          → cond b (sum_value a ranges vars accesses values sum coords) (values other coords) < 2 ^ 64
      by other coords true = sum_fits a laws (ranges sum.var)
          (λ x. value_of a values accesses (with_coordinate (point_of (free_in vars accesses sum) coords) sum.var x) sum.inside)
      by other coords false = words other coords

  -- all values are words, if those of tensors are
  pub words_told : (s : Statement) (inputs : Inputs) → AreWords inputs.values → AreWords (told_with_sums a s inputs).values
  words_told s inputs words =
      words_with inputs.ranges (length s.vars) (take (first_sum s) s.accesses) (length s.tensors - length s.sums) s.sums inputs.values words

-- of a tensor is told what was
pub value_told : (a : Arithmetic) (s : Statement) (inputs : Inputs) (tensor : ℕ) (coords : List ℕ)
    → tensor < length s.tensors - length s.sums → (told_with_sums a s inputs).values tensor coords ≡ inputs.values tensor coords
value_told a s inputs tensor coords below =
    values_kept a inputs.ranges (length s.vars) (take (first_sum s) s.accesses) (length s.tensors - length s.sums) s.sums inputs.values
    tensor coords below

pub path_told : (a : Arithmetic) (s : Statement) (inputs : Inputs) (tensor : ℕ) (coords : List ℕ)
    → tensor < length s.tensors - length s.sums → (told_with_sums a s inputs).paths tensor coords ≡ inputs.paths tensor coords
path_told a s inputs tensor coords below =
    paths_kept inputs.ranges (length s.vars) (take (first_sum s) s.accesses) (length s.tensors - length s.sums) s.sums inputs.paths
    tensor coords below

-- an access before those of sums reads a tensor
pub access_told : (s : Statement) (formats : List (List FormatLevel)) → IsFlat s formats → (k : ℕ) (access : Access)
    → slice_get s.accesses k ≡ Some access → k < first_sum s → access.tensor < length s.tensors - length s.sums
access_told s formats is k access at below =
    subst (λ (t : Statement). slice_get t.accesses k ≡ Some access → k < first_sum t → access.tensor < length t.tensors - length t.sums)
    (sym is.is) there at below
  where
    there : slice_get (flat is.written).accesses k ≡ Some access → k < first_sum (flat is.written)
        → access.tensor < length (flat is.written).tensors - length is.written.sums
    there found here =
        let kept = accesses_kept (length is.written.vars) is.written.accesses (length is.written.tensors) is.written.sums in
        let inside : k < length is.written.accesses = subst (λ n. k < n) (first_is is.written) here in
        subst (λ n. access.tensor < n) (sym (tensors_are is.written))
        (each_get (IsAccess (length is.written.tensors) (length is.written.vars)) is.written.accesses k access is.numbered.right
        (sym (get_front is.written.accesses kept.0 k inside) ∙ ap (λ (xs : List Access). slice_get xs k) (sym kept.1) ∙ found)).tensor

-- it has its sums behind its accesses of tensors
pub flat_sums : (s : Statement) (formats : List (List FormatLevel)) → IsFlat s formats → HasSums s formats
flat_sums s formats is =
    subst (λ t. HasSums t formats) (sym is.is) (flat_has_sums is.written is.numbered formats is.few)

-- a written statement without nested sums is flat
pub plain_is_flat : (s : Statement) (formats : List (List FormatLevel)) → IsNumberedWithSums s → s.sums ≡ []
    → length formats ≤ length s.tensors → IsFlat s formats
plain_is_flat s formats numbered none few = record { written = s; numbered = numbered; is = sym (flat_plain s none); few = few }

-- ---- the sizes of a tensor's levels
module _ (ranges : ℕ → ℕ) (tensor mode : ℕ) where
  behind_last : (accesses : List Access) (last : Access) → (last.tensor ≡ tensor → ⊥)
      → ranges_at ranges tensor mode (accesses ++ (last ∷ [])) ≡ ranges_at ranges tensor mode accesses
  behind_last [] last apart = ap (λ b. if b then (map ranges (option_to_list (slice_get last.vars mode)) ++ []) else [])
      (unequal last.tensor tensor apart)
  behind_last (access ∷ accesses) last apart =
      ap (λ rest. if nat_eq access.tensor tensor then (map ranges (option_to_list (slice_get access.vars mode)) ++ rest) else rest)
      (behind_last accesses last apart)

  ranges_behind : (vars : ℕ) (accesses : List Access) (first : ℕ) (sums : List NestedSum) → tensor < first
      → ranges_at ranges tensor mode (accesses_with vars accesses first sums) ≡ ranges_at ranges tensor mode accesses
  ranges_behind vars accesses first [] below = refl
  ranges_behind vars accesses first (sum ∷ sums) below =
      ranges_behind vars (accesses ++ (sum_access vars accesses first sum ∷ [])) (first + 1) sums (omega (arith, below))
      ∙ behind_last accesses (sum_access vars accesses first sum) (λ same. absurd (omega (arith, below, same)))

  -- accesses of sums read other tensors
  pub mode_size_flat : (s : Statement) → tensor < length s.tensors → mode_size s ranges tensor mode ≡ mode_size (flat s) ranges tensor mode
  mode_size_flat s below =
      ap (λ rest. greatest_of (if nat_eq s.left.tensor tensor
      then (map ranges (option_to_list (slice_get s.left.vars mode)) ++ rest) else rest))
      (sym (ranges_behind (length s.vars) s.accesses (length s.tensors) s.sums below))

pub sizes_flat : (s : Statement) (ranges : ℕ → ℕ) (tensor : ℕ) (format : List FormatLevel) → tensor < length s.tensors
    → level_sizes s ranges tensor format ≡ level_sizes (flat s) ranges tensor format
sizes_flat s ranges tensor [] below = refl
sizes_flat s ranges tensor (level ∷ format) below =
    λ i. mode_size_flat ranges tensor level.mode s below i ∷ sizes_flat s ranges tensor format below i
