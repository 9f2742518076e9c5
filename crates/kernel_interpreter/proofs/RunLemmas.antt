-- How a step ends, as an outcome.
use Rattle.std.specs.Prelude.{◌≡◌, ℕ, suc, ◌+◌, ◌<◌, true, false, List, [], ◌∷◌, ◌++◌, length, take, drop, slice_index_or, refl}
use Rattle.std.proofs.Common.{◌∙◌, ap, sym, arith, add-zero}
use Rattle.std.proofs.Math.Seq.{drop-cons}
use Rattle.std.proofs.lemmas.List.{take_more}
use Rattle.kernel_code.specs.declared.syntax.KStmt.{KStmt}
use Rattle.kernel_code.specs.Kernels.{all_turns, within}
use Rattle.kernel_code.specs.Turns.{AtLeast}
use Rattle.kernel_code.proofs.TurnsLemmas.{at_least_list}
use Rattle.kernel_code.proofs.Behind.{behind_on, within_behind}
use Rattle.kernel_code.proofs.Equations.{statements_in_append}
use Rattle.kernel_code.proofs.RunLemmas.{first_then}
use Rattle.kernel_interpreter.specs.declared.machine.Machine.{Machine}
use Rattle.kernel_interpreter.specs.declared.ending.Step.{Step}
use Rattle.kernel_interpreter.specs.declared.ending.Step.TheVariants as step
use Rattle.kernel_code.specs.Meaning.{Setting, State, Outcome, Ended, Stuck, Over, More, then_run, behind, run}
use Rattle.kernel_code.specs.Meaning.{run_list, statements_in, statements_in_list}
use Rattle.kernel_interpreter.specs.Store.{state_of, outcome_at, has_ended, IsTold}

-- what hasn't ended stops what follows
pub not_ended : (e : Step) (m : Machine) (next : State → Outcome) → has_ended e ≡ false → outcome_at e m ≡ then_run (outcome_at e m) next
not_ended step.Ended m next h = cc
not_ended step.Stuck m next h = refl
not_ended step.StuckInside m next h = refl
not_ended step.Over m next h = refl
not_ended step.More m next h = refl
not_ended step.Memory m next h = refl

pub is_ended : (e : Step) (m : Machine) → has_ended e ≡ true → outcome_at e m ≡ Ended (state_of m)
is_ended step.Ended m h = refl
is_ended step.Stuck m h = cc
is_ended step.StuckInside m h = cc
is_ended step.Over m h = cc
is_ended step.More m h = cc
is_ended step.Memory m h = cc

pub told_ended : (e : Step) → has_ended e ≡ true → IsTold e
told_ended step.Ended h = tt
told_ended step.Stuck h = tt
told_ended step.StuckInside h = tt
told_ended step.Over h = tt
told_ended step.More h = tt
told_ended step.Memory h = cc

at_least_behind : (m n : ℕ) (o : Outcome) → AtLeast m o → AtLeast m (behind n o)
at_least_behind m n (Ended s) h = h
at_least_behind m n (Stuck t statement) h = h
at_least_behind m n (Over t a count) h = h
at_least_behind m n More h = h

-- so does what hasn't ended behind other statements
pub stopped_behind : (n : ℕ) (e : Step) (m : Machine) (told : Outcome) (next : State → Outcome) → has_ended e ≡ false
    → told ≡ behind n (outcome_at e m) → told ≡ then_run told next
stopped_behind n step.Ended m told next stop h = cc
stopped_behind n step.Stuck m told next stop h = h ∙ ap (λ o. then_run o next) (sym h)
stopped_behind n step.StuckInside m told next stop h = h ∙ ap (λ o. then_run o next) (sym h)
stopped_behind n step.Over m told next stop h = h ∙ ap (λ o. then_run o next) (sym h)
stopped_behind n step.More m told next stop h = h ∙ ap (λ o. then_run o next) (sym h)
stopped_behind n step.Memory m told next stop h = h ∙ ap (λ o. then_run o next) (sym h)

-- turns are only added in a body
pub at_least_body : (c : Setting) (n : ℕ) (body : List KStmt) (s : State) → AtLeast (all_turns s.turns) (behind 1 (run_list c n body s))
at_least_body c n body s = at_least_behind (all_turns s.turns) 1 (run_list c n body s) (at_least_list c n body s)

-- what code is told to do, it is told to do behind other statements
pub told_behind : (limit n : ℕ) (o told before : Outcome) → told ≡ behind n before → before ≡ within limit o
    → told ≡ within limit (behind n o)
told_behind limit n o told before h g = h ∙ ap (behind n) g ∙ sym (within_behind limit n o)

module _ (c : Setting) (limit : ℕ) (code : List KStmt) (i : ℕ) (this : KStmt) (st : State) (total : Outcome) (here : i < length code)
    (is : this ≡ slice_index_or code i this)
    (left : behind (statements_in_list (take i code)) (within limit (run_list c limit (drop i code) st)) ≡ total)
  where
    -- the next statement, and the rest
    first : (o : Outcome) → o ≡ within limit (run c limit this st)
        → within limit (run_list c limit (drop i code) st)
        ≡ then_run o (λ s. behind (statements_in this) (within limit (run_list c limit (drop (suc i) code) s)))
    first o did =
        ap (λ code. within limit (run_list c limit code st)) (drop-cons code i this here)
        ∙ ap (λ s. within limit (run_list c limit (s ∷ drop (suc i) code) st)) (sym is)
        ∙ first_then c limit this (drop (suc i) code) st o did

    -- a statement that doesn't end stops the code
    pub stopped : (e : Step) (new : Machine) (told : Outcome) → has_ended e ≡ false → outcome_at e new ≡ within limit (run c limit this st)
        → told ≡ behind (statements_in_list (take i code)) (outcome_at e new) → told ≡ total
    stopped e new told stop did h =
        h ∙ ap (behind (statements_in_list (take i code)))
        (not_ended e new (λ s. behind (statements_in this) (within limit (run_list c limit (drop (suc i) code) s))) stop
        ∙ sym (first (outcome_at e new) did)) ∙ left

    counted : statements_in_list (take i code) + statements_in this ≡ statements_in_list (take (i + 1) code)
    counted =
        ap (λ n. statements_in_list (take i code) + n) (sym (add-zero (statements_in this)))
        ∙ sym (statements_in_append (take i code) (this ∷ []))
        ∙ ap (λ s. statements_in_list (take i code ++ s ∷ [])) is
        ∙ ap statements_in_list (sym (take_more code i this here))

    -- one that ends leaves the rest
    pub went_on : (new : State) → Ended new ≡ within limit (run c limit this st)
        → behind (statements_in_list (take (i + 1) code)) (within limit (run_list c limit (drop (i + 1) code) new)) ≡ total
    went_on new did =
        let next : i + 1 ≡ suc i = omega arith in
        ap (λ j. behind (statements_in_list (take (i + 1) code)) (within limit (run_list c limit (drop j code) new))) next
        ∙ ap (λ n. behind n (within limit (run_list c limit (drop (suc i) code) new))) (sym counted)
        ∙ sym (behind_on (statements_in_list (take i code)) (statements_in this) (within limit (run_list c limit (drop (suc i) code) new)))
        ∙ ap (behind (statements_in_list (take i code))) (sym (first (Ended new) did)) ∙ left
