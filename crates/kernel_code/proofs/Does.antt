-- Lemmas about what specs/Does.antt defines.
use Rattle.std.specs.Prelude.{◌≡◌, ℕ, zero, suc, ◌+◌, ◌≤◌, ◌<◌, Bool, true, false, nat_lt, if◌then◌else◌, List, [], ◌∷◌, ◌++◌, length}
use Rattle.std.specs.Prelude.{take, replicate, Option, Some, slice_get, slice_index, slice_set, refl}
use Rattle.std.proofs.Common.{◌∙◌, sym, ap, arith}
use Rattle.std.proofs.lemmas.Bool.Decides.{nat_tests}
use Rattle.kernel_code.specs.declared.syntax.Arr.{Arr}
use Rattle.kernel_code.specs.declared.syntax.Arr.TheVariants.{Range, Values, Dimension, Ends, Coordinates, Width, Key, Sums}
use Rattle.kernel_code.specs.declared.syntax.Arr.TheVariants.{ListCoordinates, ListPositions}
use Rattle.kernel_code.specs.declared.syntax.LoopKind.{LoopKind}
use Rattle.kernel_code.specs.declared.syntax.ValueOp.{ValueOp}
use Rattle.kernel_code.specs.declared.syntax.KExpr.{KExpr}
use Rattle.kernel_code.specs.declared.syntax.KStmt.{KStmt, Set, Combine, Put, AddTo, Push, Extend, Cut, Sort, SortSum, If, While}
use Rattle.kernel_code.specs.Arrays.{may_write, is_scratch, may_cut, may_have, told_count, sum_in}
use Rattle.kernel_code.specs.Meaning.{Setting, State, Outcome, Ended, Stuck, Over, More, value, apply_each, combined, then_run, if_written}
use Rattle.kernel_code.specs.Meaning.{with_array, set_var, set_array, one_turn, changed, grown, choice, run, run_list, run_turns}
use Rattle.kernel_code.specs.Meaning.{sort_outcome, sort_sum_outcome, set_outcome, put_outcome, add_outcome, push_outcome, extend_outcome}
use Rattle.kernel_code.specs.Meaning.{cut_outcome, behind, statements_in, statements_in_list}
use Rattle.kernel_code.proofs.Behind.{behind_none, behind_then}
use Rattle.kernel_code.proofs.Equations.{run_if, run_while}
use Rattle.kernel_code.specs.Does.{Refusal, OnOutcome, Does, Turn, Ends, Goes}

weaker_on : (P Q : State → Type 0) (R T : Refusal) (o : Outcome) → ((s : State) → P s → Q s)
    → ((t : LoopKind → ℕ) (a : Arr) (count : ℕ) → R t a count → T t a count) → OnOutcome P R o → OnOutcome Q T o
weaker_on P Q R T (Ended s) f g h = f s h
weaker_on P Q R T (Stuck t statement) f g h = h
weaker_on P Q R T (Over t a count) f g h = g t a count h
weaker_on P Q R T More f g h = h

pub does_weaker : (c : Setting) (code : List KStmt) (s : State) (P Q : State → Type 0) (R T : Refusal) → Does c code s P R
    → ((s' : State) → P s' → Q s') → ((t : LoopKind → ℕ) (a : Arr) (count : ℕ) → R t a count → T t a count) → Does c code s Q T
does_weaker c code s P Q R T d f g =
    record { enough = d.enough; outcome = d.outcome; reached = d.reached; kept = weaker_on P Q R T d.outcome f g d.kept }

pub does_nothing : (c : Setting) (s : State) (P : State → Type 0) (R : Refusal) → P s → Does c [] s P R
does_nothing c s P R h = record { enough = 0; outcome = Ended s; reached = λ m _. refl; kept = h }

on_behind : (P : State → Type 0) (R : Refusal) (n : ℕ) (o : Outcome) → OnOutcome P R o → OnOutcome P R (behind n o)
on_behind P R n (Ended s) h = h
on_behind P R n (Stuck t statement) h = h
on_behind P R n (Over t a count) h = h
on_behind P R n More h = h

then_assoc : (c : Setting) (n m : ℕ) (a b : List KStmt) (o : Outcome)
    → ((s : State) → run_list c n (a ++ b) s ≡ then_run (run_list c n a s) (λ s'. behind (statements_in_list a) (run_list c n b s')))
    → then_run o (λ s. behind m (run_list c n (a ++ b) s))
    ≡ then_run (then_run o (λ s. behind m (run_list c n a s))) (λ s'. behind (m + statements_in_list a) (run_list c n b s'))
then_assoc c n m a b (Ended s') h = ap (behind m) (h s') ∙ behind_then m (statements_in_list a) (run_list c n a s') (run_list c n b)
then_assoc c n m a b (Stuck t statement) h = refl
then_assoc c n m a b (Over t x count) h = refl
then_assoc c n m a b More h = refl

-- code and then more code
pub run_append : (c : Setting) (n : ℕ) (a b : List KStmt) (s : State)
    → run_list c n (a ++ b) s ≡ then_run (run_list c n a s) (λ s'. behind (statements_in_list a) (run_list c n b s'))
run_append c n [] b s = sym (behind_none (run_list c n b s))
run_append c n (k ∷ a) b s = then_assoc c n (statements_in k) a b (run c n k s) (run_append c n a b)

then_does : (c : Setting) (a b : List KStmt) (s : State) (P Q : State → Type 0) (R : Refusal) (n : ℕ) (o : Outcome)
    → ((m : ℕ) → n ≤ m → run_list c m a s ≡ o) → OnOutcome P R o → ((s' : State) → P s' → Does c b s' Q R) → Does c (a ++ b) s Q R
then_does c a b s P Q R n (Ended s') reached h next =
    let d = next s' h in
    let k = statements_in_list a in
    record {
      enough = n + d.enough;
      outcome = behind k d.outcome;
      reached = λ m le. run_append c m a b s ∙ ap (λ o. then_run o (λ st. behind k (run_list c m b st))) (reached m (omega arith))
          ∙ ap (behind k) (d.reached m (omega arith));
      kept = on_behind Q R k d.outcome d.kept;
    }
then_does c a b s P Q R n (Stuck t statement) reached h next = absurd h
then_does c a b s P Q R n (Over t x count) reached h next =
    record {
      enough = n;
      outcome = Over t x count;
      reached = λ m le. run_append c m a b s
          ∙ ap (λ o. then_run o (λ st. behind (statements_in_list a) (run_list c m b st))) (reached m le);
      kept = h;
    }
then_does c a b s P Q R n More reached h next = absurd h

pub does_append : (c : Setting) (a b : List KStmt) (s : State) (P Q : State → Type 0) (R : Refusal) → Does c a s P R
    → ((s' : State) → P s' → Does c b s' Q R) → Does c (a ++ b) s Q R
does_append c a b s P Q R d next = then_does c a b s P Q R d.enough d.outcome d.reached d.kept next

-- a statement before others
pub does_then : (c : Setting) (k : KStmt) (rest : List KStmt) (s : State) (P Q : State → Type 0) (R : Refusal) → Does c (k ∷ []) s P R
    → ((s' : State) → P s' → Does c rest s' Q R) → Does c (k ∷ rest) s Q R
does_then c k rest s P Q R d next = does_append c (k ∷ []) rest s P Q R d next

-- a statement that ends whatever the bound
pub does_ended : (c : Setting) (k : KStmt) (rest : List KStmt) (s s' : State) (P : State → Type 0) (R : Refusal)
    → ((m : ℕ) → run c m k s ≡ Ended s') → Does c rest s' P R → Does c (k ∷ rest) s P R
does_ended c k rest s s' P R h d = record {
  enough = d.enough;
  outcome = behind (statements_in k) d.outcome;
  reached = λ m le. ap (λ o. then_run o (λ st. behind (statements_in k) (run_list c m rest st))) (h m)
      ∙ ap (behind (statements_in k)) (d.reached m le);
  kept = on_behind P R (statements_in k) d.outcome d.kept;
}

-- a statement that is refused a growth whatever the bound
pub does_over : (c : Setting) (k : KStmt) (rest : List KStmt) (s : State) (t : LoopKind → ℕ) (a : Arr) (count : ℕ) (P : State
    → Type 0) (R : Refusal) → ((m : ℕ) → run c m k s ≡ Over t a count) → R t a count → Does c (k ∷ rest) s P R
does_over c k rest s t a count P R h r = record {
  enough = 0;
  outcome = Over t a count;
  reached = λ m le. ap (λ o. then_run o (λ st. behind (statements_in k) (run_list c m rest st))) (h m);
  kept = r;
}

if_written_is : (s : State) (b : Bool) (ys : Option (List ℕ)) (xs : List ℕ) (next : List ℕ → Outcome) → b ≡ true → ys ≡ Some xs
    → if_written s b ys next ≡ next xs
if_written_is s b ys xs next w h = ap (λ b. if_written s b ys next) w ∙ ap (λ ys. if_written s true ys next) h

-- arrays of workspaces and scratch lists may be cut always
pub scratch_may_be_cut : (cuts : Bool) (a : Arr) → is_scratch a ≡ true → may_cut cuts a ≡ true
scratch_may_be_cut false a is = is
scratch_may_be_cut true (Key n k) is = refl
scratch_may_be_cut true (Sums n) is = refl
scratch_may_be_cut true (ListCoordinates n) is = refl
scratch_may_be_cut true (ListPositions n) is = refl
scratch_may_be_cut true Range is = cc is
scratch_may_be_cut true (Values n) is = cc is
scratch_may_be_cut true (Dimension n k) is = cc is
scratch_may_be_cut true (Ends n k) is = cc is
scratch_may_be_cut true (Coordinates n k) is = cc is
scratch_may_be_cut true (Width n k) is = cc is

-- what may be cut may be written
pub cut_is_written : (cuts : Bool) (a : Arr) → may_cut cuts a ≡ true → may_write a ≡ true
cut_is_written true a h = h
cut_is_written false a h = scratch_may_be_cut true a h

pub with_array_is : (s : State) (a : Arr) (xs : List ℕ) (next : List ℕ → Outcome) → may_write a ≡ true → s.arrays a ≡ Some xs
    → with_array s a next ≡ next xs
with_array_is s a xs next w h = if_written_is s (may_write a) (s.arrays a) xs next w h

pub changed_is : (s : State) (a : Arr) (i : ℕ) (f : ℕ → ℕ) (xs : List ℕ) → i < length xs
    → changed s a i f xs ≡ Ended (set_array s a (slice_set xs i (f (slice_index xs i))))
changed_is s a i f xs h = let is : nat_lt i (length xs) ≡ true =
    grind (arith, nat_tests) in ap (λ b. if b then Ended (set_array s a (slice_set xs i (f (slice_index xs i)))) else Stuck s.turns 1) is

pub grown_is : (s : State) (a : Arr) (count : ℕ) (xs more : List ℕ) → may_have a count ≡ true
    → grown s a count xs more ≡ Ended (set_array s a (xs ++ more))
grown_is s a count xs more h = ap (λ b. if b then Ended (set_array s a (xs ++ more)) else Over s.turns a (told_count a count)) h

pub grown_over : (s : State) (a : Arr) (count : ℕ) (xs more : List ℕ) → may_have a count ≡ false
    → grown s a count xs more ≡ Over s.turns a (told_count a count)
grown_over s a count xs more h = ap (λ b. if b then Ended (set_array s a (xs ++ more)) else Over s.turns a (told_count a count)) h

pub does_set : (c : Setting) (x : ℕ) (e : KExpr) (rest : List KStmt) (s : State) (v : ℕ) (P : State → Type 0) (R : Refusal)
    → value e s ≡ Some v → Does c rest (set_var s x v) P R → Does c (Set x e ∷ rest) s P R
does_set c x e rest s v P R h d = does_ended c (Set x e) rest s (set_var s x v) P R (λ m. ap (set_outcome s x) h) d

pub does_combine : (c : Setting) (x : ℕ) (o : ValueOp) (e f : KExpr) (rest : List KStmt) (s : State) (v w : ℕ) (P : State
    → Type 0) (R : Refusal) → value e s ≡ Some v → value f s ≡ Some w
    → Does c rest (set_var s x (combined c.arithmetic o v w)) P R → Does c (Combine x o e f ∷ rest) s P R
does_combine c x o e f rest s v w P R he hf d =
    does_ended c (Combine x o e f) rest s (set_var s x (combined c.arithmetic o v w)) P R
    (λ m. ap (λ u. set_outcome s x (apply_each (combined c.arithmetic o) u (value f s))) he
    ∙ ap (λ u. set_outcome s x (apply_each (combined c.arithmetic o) (Some v) u)) hf) d

pub does_put : (c : Setting) (a : Arr) (i e : KExpr) (rest : List KStmt) (s : State) (j v : ℕ) (xs : List ℕ) (P : State
    → Type 0) (R : Refusal) → value i s ≡ Some j → value e s ≡ Some v → may_write a ≡ true → s.arrays a ≡ Some xs → j < length xs
    → Does c rest (set_array s a (slice_set xs j v)) P R → Does c (Put a i e ∷ rest) s P R
does_put c a i e rest s j v xs P R hi he w ha l d =
    does_ended c (Put a i e) rest s (set_array s a (slice_set xs j v)) P R
    (λ m. ap (λ o. put_outcome s a o (value e s)) hi ∙ ap (put_outcome s a (Some j)) he
    ∙ with_array_is s a xs (changed s a j (λ old. v)) w ha ∙ changed_is s a j (λ old. v) xs l) d

pub does_add_to : (c : Setting) (a : Arr) (i e : KExpr) (rest : List KStmt) (s : State) (j v : ℕ) (xs : List ℕ) (P : State
    → Type 0) (R : Refusal) → value i s ≡ Some j → value e s ≡ Some v → may_write a ≡ true → s.arrays a ≡ Some xs → j < length xs
    → Does c rest (set_array s a (slice_set xs j (sum_in c.arithmetic a (slice_index xs j) v))) P R → Does c (AddTo a i e ∷ rest) s P R
does_add_to c a i e rest s j v xs P R hi he w ha l d =
    does_ended c (AddTo a i e) rest s (set_array s a (slice_set xs j (sum_in c.arithmetic a (slice_index xs j) v))) P R
    (λ m. ap (λ o. add_outcome c.arithmetic s a o (value e s)) hi ∙ ap (add_outcome c.arithmetic s a (Some j)) he
    ∙ with_array_is s a xs (changed s a j (λ old. sum_in c.arithmetic a old v)) w ha
    ∙ changed_is s a j (λ old. sum_in c.arithmetic a old v) xs l) d

-- a growth that is allowed goes on, and one that isn't is refused
grows : (c : Setting) (k : KStmt) (rest : List KStmt) (s : State) (a : Arr) (count : ℕ) (xs more : List ℕ) (P : State
    → Type 0) (R : Refusal) (b : Bool) → may_have a count ≡ b → ((m : ℕ) → run c m k s ≡ grown s a count xs more)
    → (may_have a count ≡ true → Does c rest (set_array s a (xs ++ more)) P R)
    → (may_have a count ≡ false → R s.turns a (told_count a count)) → Does c (k ∷ rest) s P R
grows c k rest s a count xs more P R true is h go over = does_ended c k rest s (set_array s a (xs ++ more)) P R (λ m. h m
    ∙ grown_is s a count xs more is) (go is)
grows c k rest s a count xs more P R false is h go over = does_over c k rest s s.turns a (told_count a count) P R (λ m. h m
    ∙ grown_over s a count xs more is) (over is)

pub does_push : (c : Setting) (a : Arr) (e : KExpr) (rest : List KStmt) (s : State) (v : ℕ) (xs : List ℕ) (P : State
    → Type 0) (R : Refusal) → value e s ≡ Some v → may_write a ≡ true → s.arrays a ≡ Some xs
    → (may_have a (length xs + 1) ≡ true → Does c rest (set_array s a (xs ++ v ∷ [])) P R)
    → (may_have a (length xs + 1) ≡ false → R s.turns a (told_count a (length xs + 1)))
    → Does c (Push a e ∷ rest) s P R
does_push c a e rest s v xs P R he w ha go over =
    grows c (Push a e) rest s a (length xs + 1) xs (v ∷ []) P R (may_have a (length xs + 1)) refl
    (λ m. ap (push_outcome s a) he ∙ with_array_is s a xs (λ xs. grown s a (length xs + 1) xs (v ∷ [])) w ha) go over

pub does_extend : (c : Setting) (a : Arr) (n e : KExpr) (rest : List KStmt) (s : State) (k v : ℕ) (xs : List ℕ) (P : State
    → Type 0) (R : Refusal) → value n s ≡ Some k → value e s ≡ Some v → may_write a ≡ true → s.arrays a ≡ Some xs
    → (may_have a (length xs + k) ≡ true → Does c rest (set_array s a (xs ++ replicate k v)) P R)
    → (may_have a (length xs + k) ≡ false → R s.turns a (told_count a (length xs + k)))
    → Does c (Extend a n e ∷ rest) s P R
does_extend c a n e rest s k v xs P R hn he w ha go over =
    grows c (Extend a n e) rest s a (length xs + k) xs (replicate k v) P R (may_have a (length xs + k)) refl
    (λ m. ap (λ o. extend_outcome s a o (value e s)) hn ∙ ap (extend_outcome s a (Some k)) he
    ∙ with_array_is s a xs (λ xs. grown s a (length xs + k) xs (replicate k v)) w ha) go over

pub does_cut : (c : Setting) (a : Arr) (e : KExpr) (rest : List KStmt) (s : State) (n : ℕ) (xs : List ℕ) (P : State
    → Type 0) (R : Refusal) → value e s ≡ Some n → is_scratch a ≡ true → s.arrays a ≡ Some xs → Does c rest (set_array s a (take n xs)) P R
    → Does c (Cut a e ∷ rest) s P R
does_cut c a e rest s n xs P R he w ha d =
    does_ended c (Cut a e) rest s (set_array s a (take n xs)) P R (λ m. ap (cut_outcome c.cuts_results s a) he
    ∙ if_written_is s (may_cut c.cuts_results a) (s.arrays a) xs (λ xs. Ended (set_array s a (take n xs)))
    (scratch_may_be_cut c.cuts_results a w) ha) d

-- a sort that ends: the equation computes from the lists that the arrays hold
pub does_sort : (c : Setting) (g : ℕ) (rest : List KStmt) (s s' : State) (P : State → Type 0) (R : Refusal)
    → sort_outcome s g (s.arrays (ListCoordinates g)) (s.arrays (ListPositions g)) ≡ Ended s' → Does c rest s' P R
    → Does c (Sort g ∷ rest) s P R
does_sort c g rest s s' P R h d = does_ended c (Sort g) rest s s' P R (λ m. h) d

pub does_sort_sum : (c : Setting) (w : ℕ) (rest : List KStmt) (s s' : State) (P : State → Type 0) (R : Refusal)
    → sort_sum_outcome c.arithmetic s w (slice_get c.workspaces w) (s.arrays (Sums w)) ≡ Ended s' → Does c rest s' P R
    → Does c (SortSum w ∷ rest) s P R
does_sort_sum c w rest s s' P R h d = does_ended c (SortSum w) rest s s' P R (λ m. h) d

alone : (c : Setting) (m : ℕ) (k : KStmt) (s : State) → run_list c m (k ∷ []) s ≡ run c m k s
alone c m k s = last (run c m k s)
  where
    last : (o : Outcome) → then_run o (λ st. behind (statements_in k) (run_list c m [] st)) ≡ o
    last (Ended s') = refl
    last (Stuck t statement) = refl
    last (Over t a count) = refl
    last More = refl

-- a statement that does what some code in it does
as_code : (c : Setting) (k : KStmt) (code : List KStmt) (n : ℕ) (s : State) (P : State → Type 0) (R : Refusal)
    → ((m : ℕ) → run c m k s ≡ behind n (run_list c m code s)) → Does c code s P R → Does c (k ∷ []) s P R
as_code c k code n s P R same d = record {
  enough = d.enough;
  outcome = behind n d.outcome;
  reached = λ m le. alone c m k s ∙ same m ∙ ap (behind n) (d.reached m le);
  kept = on_behind P R n d.outcome d.kept;
}

pub does_if_yes : (c : Setting) (e : KExpr) (first second rest : List KStmt) (s : State) (n : ℕ) (P Q : State → Type 0) (R : Refusal)
    → value e s ≡ Some (suc n) → Does c first s P R → ((s' : State) → P s' → Does c rest s' Q R) → Does c (If e first second ∷ rest) s Q R
does_if_yes c e first second rest s n P Q R h d next =
    does_then c (If e first second) rest s P Q R
    (as_code c (If e first second) first 1 s P R (λ m. run_if c m e first second s
    ∙ ap (λ v. choice s v (behind 1 (run_list c m first s)) (behind (1 + statements_in_list first) (run_list c m second s))) h) d) next

pub does_if_no : (c : Setting) (e : KExpr) (first second rest : List KStmt) (s : State) (P Q : State → Type 0) (R : Refusal)
    → value e s ≡ Some 0 → Does c second s P R → ((s' : State) → P s' → Does c rest s' Q R) → Does c (If e first second ∷ rest) s Q R
does_if_no c e first second rest s P Q R h d next =
    does_then c (If e first second) rest s P Q R
    (as_code c (If e first second) second (1 + statements_in_list first) s P R (λ m. run_if c m e first second s
    ∙ ap (λ v. choice s v (behind 1 (run_list c m first s)) (behind (1 + statements_in_list first) (run_list c m second s))) h) d) next

-- the body of a loop, which stands behind the loop's own statement
abbrev body_of : Setting → ℕ → List KStmt → State → Outcome
body_of c m body s = behind 1 (run_list c m body s)

-- the turns of a loop, of which at most n are made
record Loops (c : Setting) (k : LoopKind) (e : KExpr) (body : List KStmt) (n : ℕ) (s : State) (P : State
    → Type 0) (R : Refusal) : Type 0 where
  enough : ℕ
  outcome : Outcome
  reached : (m j : ℕ) → enough ≤ m → n ≤ j → run_turns j k (value e) (body_of c m body) s ≡ outcome
  kept : OnOutcome P R outcome

run_turns_end : (k : LoopKind) (e : KExpr) (body : State → Outcome) (s : State) (j : ℕ) → value e s ≡ Some 0
    → run_turns j k (value e) body s ≡ Ended s
run_turns_end k e body s zero h = ap (λ o. choice s o More (Ended s)) h
run_turns_end k e body s (suc j) h = ap (λ o. choice s o (then_run (body (one_turn s k)) (run_turns j k (value e) body)) (Ended s)) h

run_turns_go : (k : LoopKind) (e : KExpr) (body : State → Outcome) (s : State) (j v : ℕ) → value e s ≡ Some (suc v)
    → run_turns (suc j) k (value e) body s ≡ then_run (body (one_turn s k)) (run_turns j k (value e) body)
run_turns_go k e body s j v h = ap (λ o. choice s o (then_run (body (one_turn s k)) (run_turns j k (value e) body)) (Ended s)) h

after_turn : (c : Setting) (k : LoopKind) (e : KExpr) (body : List KStmt) (n : ℕ) (s : State) (v : ℕ) (Less P : State
    → Type 0) (R : Refusal) → value e s ≡ Some (suc v)
    → (enough : ℕ) (o : Outcome) → ((m : ℕ) → enough ≤ m → run_list c m body (one_turn s k) ≡ o) → OnOutcome Less R o
    → ((s' : State) → Less s' → Loops c k e body n s' P R) → Loops c k e body (suc n) s P R
after_turn c k e body n s v Less P R h enough (Ended s') reached kept next =
    let d = next s' kept in
    record {
      enough = enough + d.enough;
      outcome = d.outcome;
      reached = λ m. elim [
        | zero ↦ λ le lj. absurd (omega arith)
        | suc j ↦ λ le lj. run_turns_go k e (body_of c m body) s j v h
            ∙ ap (λ o. then_run (behind 1 o) (run_turns j k (value e) (body_of c m body))) (reached m (omega arith))
            ∙ d.reached m j (omega arith) (omega arith)
      ];
      kept = d.kept;
    }
after_turn c k e body n s v Less P R h enough (Stuck t statement) reached kept next = absurd kept
after_turn c k e body n s v Less P R h enough (Over t a count) reached kept next =
    record {
      enough = enough;
      outcome = Over t a count;
      reached = λ m. elim [
        | zero ↦ λ le lj. absurd (omega arith)
        | suc j ↦ λ le lj. run_turns_go k e (body_of c m body) s j v h
            ∙ ap (λ o. then_run (behind 1 o) (run_turns j k (value e) (body_of c m body))) (reached m le)
      ];
      kept = kept;
    }
after_turn c k e body n s v Less P R h enough More reached kept next = absurd kept

-- an invariant with a measure: it says at most how many turns are left
loops : (c : Setting) (k : LoopKind) (e : KExpr) (body : List KStmt) (Inv : ℕ → State → Type 0) (P : State → Type 0) (R : Refusal)
    → ((s : State) → Inv 0 s → value e s ≡ Some 0)
    → ((n : ℕ) (s : State) → Inv n s → value e s ≡ Some 0 → P s)
    → ((n : ℕ) (s : State) → Inv (suc n) s → Turn c k e body s (Inv n) P R)
    → (n : ℕ) (s : State) → Inv n s → Loops c k e body n s P R
loops c k e body Inv P R none ends step zero s i = record {
  enough = 0;
  outcome = Ended s;
  reached = λ m j le lj. run_turns_end k e (body_of c m body) s j (none s i);
  kept = ends 0 s i (none s i);
}
loops c k e body Inv P R none ends step (suc n) s i =
    let again = loops c k e body Inv P R none ends step n in
    elim (step n s i) [
      | Ends z p ↦ record { enough = 0; outcome = Ended s; reached = λ m j le lj. run_turns_end k e (body_of c m body) s j z; kept = p }
      | Goes v g d ↦ after_turn c k e body n s v (Inv n) P R g d.enough d.outcome d.reached d.kept again
    ]

-- the loop rule
pub does_while : (c : Setting) (k : LoopKind) (e : KExpr) (body rest : List KStmt) (Inv : ℕ → State → Type 0) (P Q : State
    → Type 0) (R : Refusal)
    → ((s : State) → Inv 0 s → value e s ≡ Some 0)
    → ((n : ℕ) (s : State) → Inv n s → value e s ≡ Some 0 → P s)
    → ((n : ℕ) (s : State) → Inv (suc n) s → Turn c k e body s (Inv n) P R)
    → (n : ℕ) (s : State) → Inv n s
    → ((s' : State) → P s' → Does c rest s' Q R)
    → Does c (While k e body ∷ rest) s Q R
does_while c k e body rest Inv P Q R none ends step n s i next =
    let d = loops c k e body Inv P R none ends step n s i in
    does_then c (While k e body) rest s P Q R
    (record {
      enough = d.enough + n;
      outcome = d.outcome;
      reached = λ m le. alone c m (While k e body) s ∙ run_while c m k e body s ∙ d.reached m m (omega arith) (omega arith);
      kept = d.kept;
    }) next
