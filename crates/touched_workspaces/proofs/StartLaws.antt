-- The code before the first row.
use Rattle.std.specs.Prelude.{◌≡◌, ℕ, ◌+◌, ◌≤◌, ◌<◌, nat_lt, ◌&&◌, Bool, true, false, [], ◌∷◌, replicate, Some, refl}
use Rattle.std.proofs.Common.{◌∙◌, ap, arith, inl}
use Rattle.std.proofs.lemmas.Bool.Decides.{nat_tests}
use Rattle.std.proofs.lemmas.List.{length-replicate, get_or-replicate}
use Rattle.limits.specs.Limits.{greatest_workspace_pairs}
use Rattle.lists.proofs.Tests.{number_apart, test_within}
use Rattle.kernel_code.specs.Arrays.{may_have}
use Rattle.kernel_code.specs.Does.{Does, Never}
use Rattle.kernel_code.specs.Keeps.{Leaves, NoVariable, no_turns}
use Rattle.kernel_code.specs.Meaning.{Setting, State, value, set_array, word_of}
use Rattle.kernel_code.specs.declared.syntax.Arr.TheVariants.{Range, Key, Sums}
use Rattle.kernel_code.specs.declared.syntax.KExpr.{Num, At}
use Rattle.kernel_code.proofs.ArrayNames.{same_arr_self}
use Rattle.kernel_code.proofs.Does.{does_nothing, does_extend, does_if_yes, does_if_no}
use Rattle.kernel_code.proofs.Keeps.{this_array, other_array, leaves_none, leaves_array}
use Rattle.kernel_code.proofs.Words.{word_is}
use Rattle.term_code.specs.WorkspaceSinks.{HoldsRows}
use Rattle.touched_workspaces.specs.Codes.{is_large, zeros_code, begin_code}
use Rattle.touched_workspaces.specs.Sinks.{TouchedSink, HasRange, IsOther, HoldsTouched}
use Rattle.touched_workspaces.specs.Sizes.{greatest_marked_range}
use Rattle.touched_workspaces.specs.Starts.{HasNoRows, BeginsTouched}
use Rattle.touched_workspaces.specs.Touched.{HoldsMarked}
use Rattle.touched_workspaces.proofs.RowLaws.{marks_are_few, not_other, large_is, range_kept, only_key, denied}

-- a list without rows
no_rows : (list : ℕ) (s : State) → HasNoRows list s → HoldsRows list 1 [] s.arrays
no_rows list s none = record { key = only_key list [] s.arrays none.key; sums = none.sums; few = omega arith }

module _ (k : TouchedSink) (c : Setting) (zero_is : k.zero ≡ c.arithmetic.zero) (apart : k.dense ≡ k.list → ⊥) (size : ℕ) (s : State)
    (range : HasRange k.variable size s) (dense : HasNoRows k.dense s) (list : HasNoRows k.list s) (top : ℕ) where
  abbrev IsBegun : State → Type 0
  IsBegun t = Leaves NoVariable (IsOther k) top no_turns s t × HoldsTouched k c.arithmetic (size ∷ []) [] t

  unchanged : greatest_marked_range < size → IsBegun s
  unchanged large = (
    leaves_none NoVariable (IsOther k) top no_turns s,
    record {
      size = size;
      ranges_are = refl;
      range = range;
      zero_is = zero_is;
      apart = apart;
      each = tt;
      marked = λ small. absurd (omega (arith, small, large));
      pushed = λ _. no_rows k.list s list;
    },
  )

  abbrev with_marks : State
  with_marks = set_array s (Key k.dense 0) (replicate size 0)

  abbrev with_sums : State
  with_sums = set_array with_marks (Sums k.dense) (replicate size k.zero)

  none_marked : HoldsMarked k.dense k.list size c.arithmetic [] with_sums.arrays
  none_marked = record {
    touched = [];
    marked = record {
      marks = replicate size 0;
      held = other_array with_marks (Sums k.dense) (Key k.dense 0) (replicate size k.zero) refl
          ∙ this_array s (Key k.dense 0) (Key k.dense 0) (replicate size 0) (same_arr_self (Key k.dense 0));
      many = length-replicate size 0;
      each = λ x h. get_or-replicate size x 0 0 h;
      once = tt;
      below = λ x h. absurd (never h);
      listed = no_rows k.list with_sums (record {
        key = other_array with_marks (Sums k.dense) (Key k.list 0) (replicate size k.zero) refl
            ∙ other_array s (Key k.dense 0) (Key k.list 0) (replicate size 0) (ap (λ b. b && true) (number_apart k.dense k.list apart))
            ∙ list.key;
        sums = other_array with_marks (Sums k.dense) (Sums k.list) (replicate size k.zero) (number_apart k.dense k.list apart)
            ∙ other_array s (Key k.dense 0) (Sums k.list) (replicate size 0) refl ∙ list.sums;
      });
    };
    summed = record {
      sums = replicate size k.zero;
      held = this_array with_marks (Sums k.dense) (Sums k.dense) (replicate size k.zero) (same_arr_self (Sums k.dense));
      many = length-replicate size k.zero;
      each = λ x h. get_or-replicate size x k.zero 0 h ∙ zero_is;
    };
    same = λ coords. (λ h. h, λ h. h);
  }
    where
      never : false ≡ true → ⊥
      never e = cc

  begun : size ≤ greatest_marked_range → IsBegun with_sums
  begun small = (
    leaves,
    record {
      size = size;
      ranges_are = refl;
      range = range_kept k.variable size s with_sums
          (other_array with_marks (Sums k.dense) Range (replicate size k.zero) refl
          ∙ other_array s (Key k.dense 0) Range (replicate size 0) refl) range;
      zero_is = zero_is;
      apart = apart;
      each = tt;
      marked = λ _. none_marked;
      pushed = λ large. absurd (omega (arith, small, large));
    },
  )
    where
      leaves : Leaves NoVariable (IsOther k) top no_turns s with_sums
      leaves =
          leaves_array NoVariable (IsOther k) top no_turns s with_marks (Sums k.dense) (replicate size k.zero)
          (λ b out. not_other k (Sums k.dense) b (inl refl) out)
          (leaves_array NoVariable (IsOther k) top no_turns s s (Key k.dense 0) (replicate size 0)
          (λ b out. not_other k (Key k.dense 0) b (inl refl) out) (leaves_none NoVariable (IsOther k) top no_turns s))

  zeros : size ≤ greatest_marked_range → Does c (zeros_code k) s IsBegun Never
  zeros small =
      let less = marks_are_few in
      let may : size ≤ greatest_workspace_pairs = omega (arith, small, less) in
      does_extend c (Key k.dense 0) (At Range (Num k.variable)) (Num 0) _ s size 0 [] IsBegun Never (told s range) refl refl dense.key
      (λ _. does_extend c (Sums k.dense) (At Range (Num k.variable)) (Num k.zero) [] with_marks size k.zero [] IsBegun Never
      (told with_marks (range_kept k.variable size s with_marks (other_array s (Key k.dense 0) Range (replicate size 0) refl) range))
      refl refl
      (other_array s (Key k.dense 0) (Sums k.dense) (replicate size 0) refl ∙ dense.sums)
      (λ _. does_nothing c with_sums IsBegun Never (begun small))
      (λ over. denied (may_have (Sums k.dense) (0 + size)) (test_within (0 + size) greatest_workspace_pairs (omega (arith, may))) over))
      (λ over. denied (may_have (Key k.dense 0) (0 + size)) (test_within (0 + size) greatest_workspace_pairs (omega (arith, may))) over)
    where
      told : (t : State) → HasRange k.variable size t → value (At Range (Num k.variable)) t ≡ Some size
      told t has = word_is Range (Num k.variable) has.words k.variable size t has.words_are refl has.told

  does_begin : Does c (begin_code k) s IsBegun Never
  does_begin = by (nat_lt greatest_marked_range size) refl
    where
      by : (b : Bool) → nat_lt greatest_marked_range size ≡ b → Does c (begin_code k) s IsBegun Never
      by true test =
          let large : greatest_marked_range < size = grind (arith, nat_tests, test) in
          does_if_yes c (is_large k.variable) [] (zeros_code k) [] s 0 IsBegun IsBegun Never
          (large_is k.variable size s range ∙ ap (λ b. Some (word_of b)) test) (does_nothing c s IsBegun Never (unchanged large))
          (λ t h. does_nothing c t IsBegun Never h)
      by false test =
          let small : size ≤ greatest_marked_range = grind (arith, nat_tests, test) in
          does_if_no c (is_large k.variable) [] (zeros_code k) [] s IsBegun IsBegun Never
          (large_is k.variable size s range ∙ ap (λ b. Some (word_of b)) test) (zeros small)
          (λ t h. does_nothing c t IsBegun Never h)

pub begins : (k : TouchedSink) → BeginsTouched k (begin_code k)
begins k = λ c zero_is apart size s range dense list top. does_begin k c zero_is apart size s range dense list top
