-- Lemmas about code that stands behind other statements: only the number of a stuck statement differs.
use Rattle.std.specs.Prelude.{◌≡◌, ℕ, zero, suc, ◌+◌, Bool, true, false, nat_le, if◌then◌else◌, refl}
use Rattle.std.proofs.Common.{◌∙◌, sym, ap, arith, zero-add, add-zero}
use Rattle.kernel_code.specs.Arrays.{word_count}
use Rattle.kernel_code.specs.Kernels.{all_turns, within}
use Rattle.kernel_code.specs.Meaning.{State, Outcome, Ended, Stuck, Over, More, then_run, number_behind, behind}

word_count_on : (m n : ℕ) → word_count (m + word_count n) ≡ word_count (m + n)
unfolding word_count
word_count_on m n = omega arith

number_on : (m n statement : ℕ) → number_behind m (number_behind n statement) ≡ number_behind (m + n) statement
number_on zero n statement = ap (λ j. number_behind j statement) (sym (zero-add n))
number_on (suc m) zero statement = ap (λ j. number_behind j statement) (sym (add-zero (suc m)))
number_on (suc m) (suc n) statement =
    let sum : suc m + (suc n + statement) ≡ suc (m + suc n) + statement = omega arith in
    let all : suc (m + suc n) ≡ suc m + suc n = omega arith in
    word_count_on (suc m) (suc n + statement) ∙ ap word_count sum ∙ ap (λ j. number_behind j statement) all

-- behind nothing code does what it does
pub behind_none : (o : Outcome) → behind 0 o ≡ o
behind_none (Ended s) = refl
behind_none (Stuck t statement) = refl
behind_none (Over t a count) = refl
behind_none More = refl

pub behind_on : (m n : ℕ) (o : Outcome) → behind m (behind n o) ≡ behind (m + n) o
behind_on m n (Ended s) = refl
behind_on m n (Stuck t statement) = ap (Stuck t) (number_on m n statement)
behind_on m n (Over t a count) = refl
behind_on m n More = refl

pub then_same : (o : Outcome) (f g : State → Outcome) → ((s : State) → f s ≡ g s) → then_run o f ≡ then_run o g
then_same (Ended s) f g h = h s
then_same (Stuck t statement) f g h = refl
then_same (Over t a count) f g h = refl
then_same More f g h = refl

-- what goes on behind code that stands behind other statements
pub behind_then : (m n : ℕ) (o : Outcome) (next : State → Outcome)
    → behind m (then_run o (λ s. behind n (next s))) ≡ then_run (behind m o) (λ s. behind (m + n) (next s))
behind_then m n (Ended s) next = behind_on m n (next s)
behind_then m n (Stuck t statement) next = refl
behind_then m n (Over t a count) next = refl
behind_then m n More next = refl

-- the number isn't asked for the turns
pub within_behind : (n m : ℕ) (o : Outcome) → within n (behind m o) ≡ behind m (within n o)
within_behind n m (Ended s) = either (nat_le (all_turns s.turns) n)
  where
    either : (b : Bool) → (if b then Ended s else More) ≡ behind m (if b then Ended s else More)
    either true = refl
    either false = refl
within_behind n m (Stuck t statement) = either (nat_le (all_turns t) n)
  where
    either : (b : Bool) → (if b then Stuck t (number_behind m statement) else More) ≡ behind m (if b then Stuck t statement else More)
    either true = refl
    either false = refl
within_behind n m (Over t a count) = either (nat_le (all_turns t) n)
  where
    either : (b : Bool) → (if b then Over t a count else More) ≡ behind m (if b then Over t a count else More)
    either true = refl
    either false = refl
within_behind n m More = refl
