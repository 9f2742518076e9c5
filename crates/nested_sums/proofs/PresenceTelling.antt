-- Presence, told by words: one where something is present, and zero elsewhere. Sums of such words tell whether one is.
use Rattle.std.specs.Prelude.{◌≡◌, ℕ, zero, suc, ◌+◌, ◌<◌, ◌^◌, ◌-◌, max, bit_or, Bool, true, false, ◌||◌, ◌&&◌, List, [], ◌∷◌}
use Rattle.std.specs.Prelude.{length, map, Some, slice_get, refl}
use Rattle.std.specs.Int.{bit_at}
use Rattle.std.specs.List.{list_any}
use Rattle.std.proofs.Common.{◌∙◌, sym, ap, arith}
use Rattle.std.proofs.lemmas.Nat.Bits.{bit_at_or, same_from_bits}
use Rattle.numbers.specs.Arithmetic.{Arithmetic, Laws, on_words}
use Rattle.numbers.specs.Sums.{sum_below, total_of}
use Rattle.numbers.proofs.Sums.{sum_same, zero_before}
use Rattle.semirings.specs.Bits.{flags, flag_laws, plus_of_flags}
use Rattle.index_notation.specs.Operators.{is_there}
use Rattle.index_notation.specs.Statement.{IsNumberedWithSums, numbers_from}
use Rattle.index_notation.specs.declared.operator.Operator.{Operator}
use Rattle.index_notation.specs.declared.operator.Operator.TheVariants as op
use Rattle.index_notation.specs.declared.syntax.Expr.{Expr, Num, Access as AccessOf, Binary', Neg', Row_of-Expr, end_of-Expr, more_of-Expr}
use Rattle.index_notation.specs.declared.syntax.NestedSum.{NestedSum}
use Rattle.index_notation.specs.declared.syntax.Statement.{Statement}
use Rattle.expr_terms.specs.Nested.{flat}
use Rattle.expr_terms.specs.Points.{with_coordinate, sum_over}
use Rattle.expr_terms.specs.Signs.{signed_value}
use Rattle.expr_terms.specs.Value.{applied, minus}
use Rattle.workspaces.specs.Nested.{flat_paths}
use Rattle.workspaces.specs.Presence.{access_is_present, is_present, is_present_in}
use Rattle.nested_sums.specs.Bound.{bounds}
use Rattle.nested_sums.specs.Multiplied.{with_sums}
use Rattle.nested_sums.specs.Support.{some_choice}
use Rattle.nested_sums.proofs.BoundVariables.{bound_by_sum}
use Rattle.nested_sums.proofs.FreeVariables.{free_outside}
use Rattle.nested_sums.proofs.Meaning.{meaning, meaning_in}
use Rattle.nested_sums.proofs.OpenedSums.{IsReadBy}
use Rattle.nested_sums.proofs.PathReadings.{access_or_none_same, agreeing_paths, sum_is_there, read_is_there}
use Rattle.nested_sums.proofs.PieceValues.{Squares}
use Rattle.nested_sums.proofs.Tellings.{Telling, Tells, meaning_at}

-- flags, where what is taken away counts as what is added
abbrev pub marks : Arithmetic
marks = record {
  zero = (on_words flags).zero;
  one = (on_words flags).one;
  minus_one = (on_words flags).one;
  plus = (on_words flags).plus;
  times = (on_words flags).times;
}

pub mark_laws : Laws marks
mark_laws = record {
  zero_fits = flag_laws.zero_fits;
  one_fits = flag_laws.one_fits;
  plus_fits = flag_laws.plus_fits;
  times_fits = flag_laws.times_fits;
  plus_comm = flag_laws.plus_comm;
  plus_assoc = flag_laws.plus_assoc;
  times_comm = flag_laws.times_comm;
  times_assoc = flag_laws.times_assoc;
  plus_zero = flag_laws.plus_zero;
  times_one = flag_laws.times_one;
  times_zero = flag_laws.times_zero;
  distributes = flag_laws.distributes;
}

max_self : (a : ℕ) → max a a ≡ a
max_self a = omega arith

or_self : (x : ℕ) → bit_or x x ≡ x
or_self x = same_from_bits _ _ (λ i. bit_at_or x x i ∙ max_self (bit_at x i))

both_ones : marks.plus marks.one marks.one ≡ marks.one
both_ones = plus_of_flags marks.one marks.one mark_laws.one_fits mark_laws.one_fits ∙ or_self marks.one

one_is_none : (x y : ℕ) → x ≡ 2 ^ 64 - 1 → y ≡ 0 → x ≡ y → ⊥
one_is_none x y h g e = omega (arith, h, g, e)

ones_apart : marks.one ≡ marks.zero → ⊥
unfolding flags
ones_apart e = one_is_none _ _ refl refl e

pub mark_squares : Squares marks
mark_squares = mark_laws.times_one marks.one mark_laws.one_fits

-- a word for a test
abbrev pub mark : Bool → ℕ
mark true = marks.one
mark false = marks.zero

pub mark_tells : (b c : Bool) → mark b ≡ mark c → b ≡ c
mark_tells true true e = refl
mark_tells true false e = absurd (ones_apart e)
mark_tells false true e = absurd (ones_apart (sym e))
mark_tells false false e = refl

pub mark_fits : (b : Bool) → mark b < 2 ^ 64
mark_fits true = mark_laws.one_fits
mark_fits false = mark_laws.zero_fits

mark_or : (b c : Bool) → marks.plus (mark b) (mark c) ≡ mark (b || c)
mark_or true true = both_ones
mark_or true false = mark_laws.plus_zero marks.one mark_laws.one_fits
mark_or false c = zero_before marks mark_laws (mark c) (mark_fits c)

mark_and : (b c : Bool) → marks.times (mark b) (mark c) ≡ mark (b && c)
mark_and true c = mark_laws.times_comm marks.one (mark c) ∙ mark_laws.times_one (mark c) (mark_fits c)
mark_and false c = mark_laws.times_comm marks.zero (mark c) ∙ mark_laws.times_zero (mark c)

mark_minus : (b : Bool) → minus marks (mark b) ≡ mark b
mark_minus b = mark_laws.times_comm marks.one (mark b) ∙ mark_laws.times_one (mark b) (mark_fits b)

pub mark_signed : (n b : Bool) → signed_value marks n (mark b) ≡ mark b
mark_signed true b = mark_minus b
mark_signed false b = refl

mark_applied : (o : Operator) (b c : Bool) → applied marks o (mark b) (mark c) ≡ mark (is_there o b c)
mark_applied op.Add b c = mark_or b c
mark_applied op.Sub b c = ap (marks.plus (mark b)) (mark_minus c) ∙ mark_or b c
mark_applied op.Mul b c = mark_and b c

-- the last number of a range
any_last : (f : ℕ → Bool) (n count : ℕ) → list_any f (numbers_from n (suc count)) ≡ (f (n + count) || list_any f (numbers_from n count))
any_last f n zero = let here : n ≡ n + 0 = omega arith in ap (λ k. f k || false) here
any_last f n (suc count) =
    let there : n + 1 + count ≡ n + suc count = omega arith in
    ap (λ b. f n || b) (any_last f (n + 1) count ∙ ap (λ k. f k || list_any f (numbers_from (n + 1) count)) there)
    ∙ swap (f n) (f (n + suc count)) (list_any f (numbers_from (n + 1) count))
  where
    swap : (b c d : Bool) → (b || (c || d)) ≡ (c || (b || d))
    swap true true d = refl
    swap true false d = refl
    swap false c d = refl

pub mark_sum : (n : ℕ) (f : ℕ → Bool) → sum_below marks n (λ x. mark (f x)) ≡ mark (list_any f (numbers_from 0 n))
mark_sum zero f = refl
mark_sum (suc n) f =
    let here : 0 + n ≡ n = omega arith in
    ap (marks.plus (mark (f n))) (mark_sum n f) ∙ mark_or (f n) (list_any f (numbers_from 0 n))
    ∙ ap (λ k. mark (f k || list_any f (numbers_from 0 n))) (sym here) ∙ ap mark (sym (any_last f 0 n))

pub mark_over : (ranges : ℕ → ℕ) (vs : List ℕ) (f : (ℕ → ℕ) → Bool) (p : ℕ → ℕ)
    → sum_over marks ranges vs (λ q. mark (f q)) p ≡ mark (some_choice ranges vs f p)
mark_over ranges [] f p = refl
mark_over ranges (v ∷ vs) f p =
    sum_same marks (ranges v) (λ x. sum_over marks ranges vs (λ q. mark (f q)) (with_coordinate p v x))
    (λ x. mark (some_choice ranges vs f (with_coordinate p v x))) (λ x h. mark_over ranges vs f (with_coordinate p v x))
    ∙ mark_sum (ranges v) (λ x. some_choice ranges vs f (with_coordinate p v x))

pub mark_total : {A : Type 0} (f : A → Bool) (xs : List A) → total_of marks (map (λ x. mark (f x)) xs) ≡ mark (list_any f xs)
mark_total f [] = refl
mark_total f (x ∷ xs) = ap (marks.plus (mark (f x))) (mark_total f xs) ∙ mark_or (f x) (list_any f xs)

abbrev pub presence_telling : (ℕ → List ℕ → Bool) → (ℕ → ℕ) → Telling
presence_telling paths ranges = record {
  a = marks;
  laws = mark_laws;
  num = λ n. marks.one;
  num_fits = λ n. mark_laws.one_fits;
  ranges = ranges;
  leaf = λ s p k. mark (access_is_present (flat_paths s paths ranges) p (slice_get (flat s).accesses k));
  leaf_fits = λ s p k. mark_fits (access_is_present (flat_paths s paths ranges) p (slice_get (flat s).accesses k));
  local = λ s k p q same. ap mark (access_or_none_same (flat_paths s paths ranges) (flat_paths s paths ranges) p q (flat s).accesses k
      (agreeing_paths (flat_paths s paths ranges) (flat s).accesses) same);
}

module _ (paths : ℕ → List ℕ → Bool) (ranges : ℕ → ℕ) (s : Statement) where
  mutual
    -- an expression means whether it is present
    pub means_presence : (p : ℕ → ℕ) (e : Expr)
        → meaning (meaning_at (presence_telling paths ranges) s) p e ≡ mark (is_present (flat_paths s paths ranges) (flat s).accesses p e)
    means_presence p (Num n) = refl
    means_presence p (AccessOf k) = refl
    means_presence p (Binary' o r e q f) =
        (λ i. applied marks o (means_presence_in p e i) (means_presence_in p f i))
        ∙ mark_applied o (is_present_in (flat_paths s paths ranges) (flat s).accesses p e)
        (is_present_in (flat_paths s paths ranges) (flat s).accesses p f)
    means_presence p (Neg' r e) =
        ap (minus marks) (means_presence_in p e) ∙ mark_minus (is_present_in (flat_paths s paths ranges) (flat s).accesses p e)

    means_presence_in : {r : _} (p : ℕ → ℕ) (e : Row_of-Expr r)
        → meaning_in (meaning_at (presence_telling paths ranges) s) p e
        ≡ mark (is_present_in (flat_paths s paths ranges) (flat s).accesses p e)
    means_presence_in p end_of-Expr = refl
    means_presence_in p (more_of-Expr e rest) = means_presence p e

  sum_means_presence : IsNumberedWithSums s → (i : ℕ) (sum : NestedSum) → slice_get s.sums i ≡ Some sum
      → IsReadBy (meaning_at (presence_telling paths ranges) s) (bounds s) (length s.accesses + i) sum
  sum_means_presence h i sum at = record {
    value = λ p. ap mark (sum_is_there s h paths ranges i sum at p)
        ∙ sym (mark_sum (ranges sum.var)
        (λ x. is_present (flat_paths s paths ranges) (flat s).accesses (with_coordinate p sum.var x) sum.inside))
        ∙ sum_same marks (ranges sum.var)
        (λ x. mark (is_present (flat_paths s paths ranges) (flat s).accesses (with_coordinate p sum.var x) sum.inside))
        (λ x. meaning (meaning_at (presence_telling paths ranges) s) (with_coordinate p sum.var x) sum.inside)
        (λ x below. sym (means_presence (with_coordinate p sum.var x) sum.inside));
    bound = bound_by_sum s h i sum at;
    free = λ v stands other. free_outside s h i sum at v stands other;
  }

pub presence_tells : (paths : ℕ → List ℕ → Bool) (ranges : ℕ → ℕ) → Tells (presence_telling paths ranges)
presence_tells paths ranges = record {
  sums = λ s h i sum at. sum_means_presence paths ranges s h i sum at;
  accesses = λ s h sums expr other k below p. ap mark
      (read_is_there (with_sums s sums expr) other paths ranges p (AccessOf k) below
      ∙ sym (read_is_there s h paths ranges p (AccessOf k) below));
}
