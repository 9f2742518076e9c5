-- Lemmas about what specs/More.antt defines.
use Rattle.std.specs.Prelude.{◌≡◌, ℕ, zero, suc, ◌+◌, ◌≤◌, Bool, true, false, nat_le, if◌then◌else◌, List, [], ◌∷◌}
use Rattle.std.specs.Prelude.{Option, Some, None, refl}
use Rattle.std.proofs.Common.{◌∙◌, ap, arith}
use Rattle.kernel_code.specs.declared.syntax.LoopKind.{LoopKind}
use Rattle.kernel_code.specs.declared.syntax.KStmt.{KStmt, Set, Combine, Put, AddTo, Push, Extend, Cut, Sort, SortSum, If', While'}
use Rattle.kernel_code.specs.declared.syntax.KStmt.{Row_of-KStmt, end_of-KStmt, more_of-KStmt}
use Rattle.kernel_code.specs.Meaning.{Setting, State, Outcome, Ended, Stuck, Over, More, value, one_turn, then_run, choice, run_turns, run}
use Rattle.kernel_code.specs.Meaning.{run_row, run_list, behind, statements_in, statements_in_row}
use Rattle.kernel_code.specs.Kernels.{all_turns, within, start_state, setting_of, told, NotFinished}
use Rattle.kernel_code.specs.More.{Settled, GoesOn}
use Rattle.lists.proofs.Tests.{test_within, within_tested}

then_more : (o p : Outcome) (next more : State → Outcome) → (Settled o → p ≡ o) → ((s : State) → Settled (next s) → more s ≡ next s)
    → Settled (then_run o next) → then_run p more ≡ then_run o next
then_more (Ended s) p next more h g k = ap (λ o. then_run o more) (h tt) ∙ g s k
then_more (Stuck t statement) p next more h g k = ap (λ o. then_run o more) (h tt)
then_more (Over t a count) p next more h g k = ap (λ o. then_run o more) (h tt)
then_more More p next more h g k = absurd k

behind_more : (k : ℕ) (o p : Outcome) → (Settled o → p ≡ o) → Settled (behind k o) → behind k p ≡ behind k o
behind_more k (Ended s) p h d = ap (behind k) (h tt)
behind_more k (Stuck t statement) p h d = ap (behind k) (h tt)
behind_more k (Over t a count) p h d = ap (behind k) (h tt)
behind_more k More p h d = absurd d

choice_more : (s : State) (v : Option ℕ) (f f' g g' : Outcome) → (Settled f → f' ≡ f) → (Settled g → g' ≡ g) → Settled (choice s v f g)
    → choice s v f' g' ≡ choice s v f g
choice_more s None f f' g g' a b k = refl
choice_more s (Some zero) f f' g g' a b k = b k
choice_more s (Some (suc v)) f f' g g' a b k = a k

turns_more : (n m : ℕ) (k : LoopKind) (test : State → Option ℕ) (body more : State → Outcome) → n ≤ m
    → ((s : State) → Settled (body s) → more s ≡ body s) → (s : State) → Settled (run_turns n k test body s)
    → run_turns m k test more s ≡ run_turns n k test body s
turns_more zero zero k test body more l h s d = choice_more s (test s) More More (Ended s) (Ended s) (λ e. absurd e) (λ e. refl) d
turns_more zero (suc m) k test body more l h s d =
    choice_more s (test s) More (then_run (more (one_turn s k)) (run_turns m k test more)) (Ended s) (Ended s) (λ e. absurd e) (λ e. refl) d
turns_more (suc n) zero k test body more l h s d = absurd (omega arith)
turns_more (suc n) (suc m) k test body more l h s d =
    choice_more s (test s) (then_run (body (one_turn s k)) (run_turns n k test body))
    (then_run (more (one_turn s k)) (run_turns m k test more)) (Ended s) (Ended s)
    (then_more (body (one_turn s k)) (more (one_turn s k)) (run_turns n k test body) (run_turns m k test more) (h (one_turn s k))
    (turns_more n m k test body more (omega arith) h))
    (λ e. refl) d

mutual
  pub run_more : (c : Setting) (n m : ℕ) (s : KStmt) (st : State) → n ≤ m → Settled (run c n s st) → run c m s st ≡ run c n s st
  run_more c n m (Set x e) st l d = refl
  run_more c n m (Combine x o e f) st l d = refl
  run_more c n m (Put a i e) st l d = refl
  run_more c n m (AddTo a i e) st l d = refl
  run_more c n m (Push a e) st l d = refl
  run_more c n m (Extend a count e) st l d = refl
  run_more c n m (Cut a e) st l d = refl
  run_more c n m (Sort g) st l d = refl
  run_more c n m (SortSum w) st l d = refl
  run_more c n m (If' e p first q second) st l d =
      let k = 1 + statements_in_row first in
      choice_more st (value e st) (behind 1 (run_row c n first st)) (behind 1 (run_row c m first st)) (behind k (run_row c n second st))
      (behind k (run_row c m second st)) (behind_more 1 (run_row c n first st) (run_row c m first st) (row_more c n m first st l))
      (behind_more k (run_row c n second st) (run_row c m second st) (row_more c n m second st l)) d
  run_more c n m (While' k e p body) st l d =
      turns_more n m k (value e) (λ s'. behind 1 (run_row c n body s')) (λ s'. behind 1 (run_row c m body s')) l
      (λ s'. behind_more 1 (run_row c n body s') (run_row c m body s') (row_more c n m body s' l)) st d

  row_more : {r : _} (c : Setting) (n m : ℕ) (row : Row_of-KStmt r) (st : State) → n ≤ m → Settled (run_row c n row st)
      → run_row c m row st ≡ run_row c n row st
  row_more c n m end_of-KStmt st l d = refl
  row_more c n m (more_of-KStmt s rest) st l d =
      let k = statements_in s in
      then_more (run c n s st) (run c m s st) (λ st'. behind k (run_row c n rest st')) (λ st'. behind k (run_row c m rest st'))
      (run_more c n m s st l) (λ st'. behind_more k (run_row c n rest st') (run_row c m rest st') (row_more c n m rest st' l)) d

pub list_more : (c : Setting) (n m : ℕ) (code : List KStmt) (st : State) → n ≤ m → Settled (run_list c n code st)
    → run_list c m code st ≡ run_list c n code st
list_more c n m [] st l d = refl
list_more c n m (s ∷ rest) st l d =
    let k = statements_in s in
    then_more (run c n s st) (run c m s st) (λ st'. behind k (run_list c n rest st')) (λ st'. behind k (run_list c m rest st'))
    (run_more c n m s st l) (λ st'. behind_more k (run_list c n rest st') (run_list c m rest st') (list_more c n m rest st' l)) d

kept_if : (b c : Bool) (o : Outcome) → (b ≡ true → c ≡ true) → Settled (if b then o else More)
    → (if c then o else More) ≡ (if b then o else More)
kept_if true c o h d = ap (λ t. if t then o else More) (h refl)
kept_if false c o h d = absurd d

settled_if : (b : Bool) (o : Outcome) → Settled (if b then o else More) → Settled o
settled_if true o d = d
settled_if false o d = absurd d

wider : (n m t : ℕ) → n ≤ m → nat_le t n ≡ true → nat_le t m ≡ true
wider n m t l h = test_within t m (let u = within_tested t n h in omega arith)

within_more : (n m : ℕ) (o : Outcome) → n ≤ m → Settled (within n o) → within m o ≡ within n o
within_more n m (Ended s) l d =
    kept_if (nat_le (all_turns s.turns) n) (nat_le (all_turns s.turns) m) (Ended s) (wider n m (all_turns s.turns) l) d
within_more n m (Stuck t statement) l d = kept_if (nat_le (all_turns t) n) (nat_le (all_turns t) m) (Stuck t statement)
    (wider n m (all_turns t) l) d
within_more n m (Over t a count) l d =
    kept_if (nat_le (all_turns t) n) (nat_le (all_turns t) m) (Over t a count) (wider n m (all_turns t) l) d
within_more n m More l d = refl

within_settled : (n : ℕ) (o : Outcome) → Settled (within n o) → Settled o
within_settled n (Ended s) d = tt
within_settled n (Stuck t statement) d = tt
within_settled n (Over t a count) d = tt
within_settled n More d = d

-- what is told of a run within n turns in all is told within more
pub told_within_more : (c : Setting) (n m : ℕ) (code : List KStmt) (st : State) → n ≤ m → Settled (within n (run_list c n code st))
    → within m (run_list c m code st) ≡ within n (run_list c n code st)
told_within_more c n m code st l d = ap (within m) (list_more c n m code st l (within_settled n (run_list c n code st) d))
    ∙ within_more n m (run_list c n code st) l d

finished_settled : (order : ℕ) (o : Outcome) → (told order o ≡ NotFinished → ⊥) → Settled o
finished_settled order (Ended s) h = tt
finished_settled order (Stuck t statement) h = tt
finished_settled order (Over t a count) h = tt
finished_settled order More h = h refl

pub goes_on : GoesOn
goes_on cuts arithmetic order k given n m l h =
    let c : Setting = setting_of cuts arithmetic k in
    ap (told order) (told_within_more c n m k.body (start_state k given) l
    (finished_settled order (within n (run_list c n k.body (start_state k given))) h))
