-- A kernel whose code ends so, or is refused a growth, from its start ends so within some number of turns.
use Rattle.std.specs.Prelude.{◌≡◌, ℕ, ◌+◌, ◌≤◌, nat_le, true, false, if◌then◌else◌, refl}
use Rattle.std.proofs.Common.{◌∙◌, ap, sym, subst, arith}
use Rattle.std.proofs.lemmas.Bool.Decides.{nat_tests}
use Rattle.kernel_code.specs.Does.{Refusal, OnOutcome}
use Rattle.kernel_code.specs.Kernels.{all_turns, within, told, setting_of, start_state}
use Rattle.kernel_code.specs.Meaning.{State, Outcome, Ended, Stuck, Over, More, run_list}
use Rattle.kernel_code.specs.More.{IsGood}
use Rattle.kernel_code.proofs.Appended.{appends_alike}
use Rattle.kernel_correctness.specs.CodeEnds.{ToldOf, EndsAsCodeDoes}

abbrev turns_of : Outcome → ℕ
turns_of (Ended s) = all_turns s.turns
turns_of (Stuck t statement) = all_turns t
turns_of (Over t a count) = all_turns t
turns_of More = 0

few : (m n : ℕ) → m ≤ n → nat_le m n ≡ true
few m n h = grind (arith, nat_tests, h)

within_all : (n : ℕ) (o : Outcome) → turns_of o ≤ n → within n o ≡ o
within_all n (Ended s) h = ap (λ b. if b then Ended s else More) (few (all_turns s.turns) n h)
within_all n (Stuck t statement) h = ap (λ b. if b then Stuck t statement else More) (few (all_turns t) n h)
within_all n (Over t a count) h = ap (λ b. if b then Over t a count else More) (few (all_turns t) n h)
within_all n More h = refl

told_of : (order : ℕ) (P : State → Type 0) (R : Refusal) (o : Outcome) → OnOutcome P R o → ToldOf order P R (told order o)
told_of order P R (Ended s) h = (s, h, refl, refl)
told_of order P R (Stuck t statement) h = absurd h
told_of order P R (Over t a count) h = (t, (a, h, refl))
told_of order P R More h = absurd h

good : (P : State → Type 0) (R : Refusal) (o : Outcome) → OnOutcome P R o → IsGood o
good P R (Ended s) h = tt
good P R (Stuck t statement) h = h
good P R (Over t a count) h = tt
good P R More h = tt

pub ends_as_code_does : EndsAsCodeDoes
ends_as_code_does a order kernel arrays P R d =
    let n : ℕ = d.enough + turns_of d.outcome in
    let start = start_state kernel arrays in
    let ended : run_list (setting_of false a kernel) n kernel.body start ≡ d.outcome = d.reached n (omega arith) in
    let whole = ap (told order) (within_all n d.outcome (omega arith)) in
    record {
      turns = n;
      outcome = told order d.outcome;
      is = ap (λ o. told order (within n o)) (appends_alike (setting_of true a kernel) n kernel.body start
          (subst IsGood (sym ended) (good P R d.outcome d.kept)) ∙ ended) ∙ whole;
      appends = ap (λ o. told order (within n o)) ended ∙ whole;
      so = told_of order P R d.outcome d.kept;
    }
