-- Lemmas about code that does what other code does from a state with other variables.
use Rattle.std.specs.Prelude.{◌≡◌, ℕ, zero, suc, ◌+◌, Bool, true, false, nat_lt, ◌==◌, if◌then◌else◌, List, [], ◌∷◌, ◌++◌}
use Rattle.std.specs.Prelude.{Option, Some, None, length, map, replicate, slice_get, slice_index, slice_set, take, refl}
use Rattle.std.proofs.Common.{◌∙◌, ap, sym, subst}
use Rattle.numbers.specs.Arithmetic.{Arithmetic}
use Rattle.kernel_code.specs.declared.syntax.Arr.{Arr}
use Rattle.kernel_code.specs.declared.syntax.Arr.TheVariants.{Key, Sums, ListCoordinates, ListPositions}
use Rattle.kernel_code.specs.declared.syntax.LoopKind.{LoopKind}
use Rattle.kernel_code.specs.declared.syntax.ValueOp.{ValueOp}
use Rattle.kernel_code.specs.declared.syntax.KExpr.{KExpr}
use Rattle.kernel_code.specs.declared.syntax.KStmt.{KStmt, Set, Combine, Put, AddTo, Push, Extend, Cut, Sort, SortSum, If, While}
use Rattle.kernel_code.specs.Arrays.{may_write, may_cut, may_have, told_count, sum_in}
use Rattle.kernel_code.specs.Rows.{Row, rows_from, summed_rows, sorted_rows, list_rows, column_of}
use Rattle.kernel_code.specs.Meaning.{Setting, State, Outcome, Ended, Stuck, Over, More, value, apply_each, combined, one_turn, then_run}
use Rattle.kernel_code.specs.Meaning.{behind, statements_in, choice, run_turns, run, add_outcome, push_outcome}
use Rattle.kernel_code.specs.Meaning.{extend_outcome, cut_outcome, sort_outcome, sort_sum_outcome, summed, set_columns, key_columns}
use Rattle.kernel_code.specs.Meaning.{one_more_column, with_value, with_array, if_written, changed, grown, set_var, set_array}
use Rattle.simplifier.specs.Refines.{plain}
use Rattle.simplifier.specs.Same.{unnumbered}
use Rattle.simplifier.proofs.Unnumbered.{plain_append, plain_if, plain_while}
use Rattle.dead_code.specs.Follows.{Vars, Tie, with_vars, EndsAlike, Follows, ReadsAs}

-- a variable given a value
abbrev pub given : Vars → ℕ → ℕ → Vars
given vars x v = λ y. if x == y then Some v else vars y

pub alike_now : (A : Tie) (o o' p p' : Outcome) → o ≡ o' → p ≡ p' → EndsAlike A o' p' → EndsAlike A o p
alike_now A o o' p p' is same h = subst (λ q. EndsAlike A q p) (sym is) (subst (EndsAlike A o') (sym same) h)

alike_wider : (A B : Tie) → ((v w : Vars) → A v w → B v w) → (o p : Outcome) → EndsAlike A o p → EndsAlike B o p
alike_wider A B wider (Ended s) p h = record { vars = h.vars; is = h.is; tied = wider s.vars h.vars h.tied }
alike_wider A B wider (Stuck t statement) p h = tt
alike_wider A B wider (Over t a count) p h = h
alike_wider A B wider More p h = h

pub alike_plain : (A : Tie) (o p : Outcome) → EndsAlike A o p → EndsAlike A (unnumbered o) (unnumbered p)
alike_plain A (Ended s) p h = record { vars = h.vars; is = ap unnumbered h.is; tied = h.tied }
alike_plain A (Stuck t statement) p h = tt
alike_plain A (Over t a count) p h = ap unnumbered h
alike_plain A More p h = ap unnumbered h

then_alike : (A B : Tie) (o p : Outcome) (f g : State → Outcome) → EndsAlike A o p
    → ((s : State) (w : Vars) → A s.vars w → EndsAlike B (f s) (g (with_vars s w))) → EndsAlike B (then_run o f) (then_run p g)
then_alike A B (Ended s) p f g h next = subst (λ q. EndsAlike B (f s) (then_run q g)) (sym h.is) (next s h.vars h.tied)
then_alike A B (Stuck t statement) p f g h next = tt
then_alike A B (Over t a count) p f g h next = ap (λ q. then_run q g) h
then_alike A B More p f g h next = ap (λ q. then_run q g) h

choice_alike : (A : Tie) (s : State) (w : Vars) (p q : Option ℕ) (f g one other : Outcome) → q ≡ p
    → ((v : ℕ) → p ≡ Some (suc v) → EndsAlike A f one) → (p ≡ Some 0 → EndsAlike A g other)
    → EndsAlike A (choice s p f g) (choice (with_vars s w) q one other)
choice_alike A s w None q f g one other is there elsewhere = tt
choice_alike A s w (Some zero) q f g one other is there elsewhere =
    subst (λ v. EndsAlike A g (choice (with_vars s w) v one other)) (sym is) (elsewhere refl)
choice_alike A s w (Some (suc v)) q f g one other is there elsewhere =
    subst (λ v. EndsAlike A f (choice (with_vars s w) v one other)) (sym is) (there v refl)

with_alike : (A : Tie) (s : State) (w : Vars) (p q : Option ℕ) (f g : ℕ → Outcome) → q ≡ p → ((v : ℕ) → EndsAlike A (f v) (g v))
    → EndsAlike A (with_value s p f) (with_value (with_vars s w) q g)
with_alike A s w None q f g is h = tt
with_alike A s w (Some v) q f g is h = subst (λ x. EndsAlike A (f v) (with_value (with_vars s w) x g)) (sym is) (h v)

written_alike : (A : Tie) (s : State) (w : Vars) (b : Bool) (xs : Option (List ℕ)) (f g : List ℕ → Outcome)
    → ((ys : List ℕ) → EndsAlike A (f ys) (g ys)) → EndsAlike A (if_written s b xs f) (if_written (with_vars s w) b xs g)
written_alike A s w false xs f g h = tt
written_alike A s w true None f g h = tt
written_alike A s w true (Some xs) f g h = h xs

changed_alike : (A : Tie) (s : State) (w : Vars) (b : Bool) (a : Arr) (ys : List ℕ) → A s.vars w
    → EndsAlike A (if b then Ended (set_array s a ys) else Stuck s.turns 1)
    (if b then Ended (set_array (with_vars s w) a ys) else Stuck s.turns 1)
changed_alike A s w true a ys h = record { vars = w; is = refl; tied = h }
changed_alike A s w false a ys h = tt

grown_alike : (A : Tie) (s : State) (w : Vars) (b : Bool) (a d : Arr) (count : ℕ) (ys : List ℕ) → A s.vars w
    → EndsAlike A (if b then Ended (set_array s a ys) else Over s.turns d count)
    (if b then Ended (set_array (with_vars s w) a ys) else Over s.turns d count)
grown_alike A s w true a d count ys h = record { vars = w; is = refl; tied = h }
grown_alike A s w false a d count ys h = refl

-- code
pub follows_none : (A B : Tie) → ((v w : Vars) → A v w → B v w) → Follows A [] [] B
follows_none A B wider = record { at = λ c n s w h. record { vars = w; is = refl; tied = wider s.vars w h } }

pub follows_then : (A B C : Tie) (a b d e : List KStmt) → Follows A a d B → Follows B b e C → Follows A (a ++ b) (d ++ e) C
follows_then A B C a b d e p q = record {
  at = λ c n s w h.
      alike_now C _ _ _ _ (plain_append c n a b s) (plain_append c n d e (with_vars s w))
      (then_alike B C (plain c n a s) (plain c n d (with_vars s w)) (plain c n b) (plain c n e) (p.at c n s w h) (λ s w h. q.at c n s w h));
}

pub follows_wider : (A B C D : Tie) (a b : List KStmt) → ((v w : Vars) → A v w → B v w) → ((v w : Vars) → C v w → D v w)
    → Follows B a b C → Follows A a b D
follows_wider A B C D a b before after p = record {
  at = λ c n s w h. alike_wider C D after (plain c n a s) (plain c n b (with_vars s w)) (p.at c n s w (before s.vars w h));
}

pub follows_now : (A B : Tie) (a a' b b' : List KStmt) → a ≡ a' → b ≡ b' → Follows A a' b' B → Follows A a b B
follows_now A B a a' b b' is same h = subst (λ x. Follows A x b B) (sym is) (subst (λ x. Follows A a' x B) (sym same) h)

-- a statement
pub alone : (c : Setting) (n : ℕ) (k : KStmt) (s : State) → plain c n (k ∷ []) s ≡ unnumbered (run c n k s)
alone c n k s = last (run c n k s)
  where
    last : (o : Outcome) → unnumbered (then_run o (λ s'. behind (statements_in k) (Ended s'))) ≡ unnumbered o
    last (Ended s') = refl
    last (Stuck t statement) = refl
    last (Over t a count) = refl
    last More = refl

follows_step : (A B : Tie) (k j : KStmt)
    → ((c : Setting) (n : ℕ) (s : State) (w : Vars) → A s.vars w
    → EndsAlike B (unnumbered (run c n k s)) (unnumbered (run c n j (with_vars s w))))
    → Follows A (k ∷ []) (j ∷ []) B
follows_step A B k j h = record {
  at = λ c n s w tied. alike_now B _ _ _ _ (alone c n k s) (alone c n j (with_vars s w)) (h c n s w tied);
}

follows_alike : (A B : Tie) (k j : KStmt)
    → ((c : Setting) (n : ℕ) (s : State) (w : Vars) → A s.vars w → EndsAlike B (run c n k s) (run c n j (with_vars s w)))
    → Follows A (k ∷ []) (j ∷ []) B
follows_alike A B k j h = follows_step A B k j (λ c n s w tied. alike_plain B (run c n k s) (run c n j (with_vars s w)) (h c n s w tied))

-- a variable that is set: the value told by the second may stand in another variable
pub set_alike : (A : Tie) (x y : ℕ) (e f : KExpr) (c : Setting) (n : ℕ) (s : State) (w : Vars) → value f (with_vars s w) ≡ value e s
    → ((v : ℕ) → A (given s.vars x v) (given w y v)) → EndsAlike A (run c n (Set x e) s) (run c n (Set y f) (with_vars s w))
set_alike A x y e f c n s w is sets =
    with_alike A s w (value e s) (value f (with_vars s w)) (λ v. Ended (set_var s x v)) (λ v. Ended (set_var (with_vars s w) y v)) is
    (λ v. record { vars = given w y v; is = refl; tied = sets v })

pub follows_set : (A B : Tie) (x y : ℕ) (e f : KExpr) → ReadsAs A e f → ((v w : Vars) (n : ℕ) → A v w → B (given v x n) (given w y n))
    → Follows A (Set x e ∷ []) (Set y f ∷ []) B
follows_set A B x y e f reads sets = follows_alike A B (Set x e) (Set y f) (λ c n s w h.
    set_alike B x y e f c n s w (reads.at s w h) (λ v. sets s.vars w v h))

pub combine_alike : (A : Tie) (x y : ℕ) (o : ValueOp) (e f g h : KExpr) (c : Setting) (n : ℕ) (s : State) (w : Vars)
    → value g (with_vars s w) ≡ value e s → value h (with_vars s w) ≡ value f s → ((v : ℕ) → A (given s.vars x v) (given w y v))
    → EndsAlike A (run c n (Combine x o e f) s) (run c n (Combine y o g h) (with_vars s w))
combine_alike A x y o e f g h c n s w first second sets =
    with_alike A s w (apply_each (combined c.arithmetic o) (value e s) (value f s))
    (apply_each (combined c.arithmetic o) (value g (with_vars s w)) (value h (with_vars s w)))
    (λ v. Ended (set_var s x v)) (λ v. Ended (set_var (with_vars s w) y v))
    (ap (λ p. apply_each (combined c.arithmetic o) p (value h (with_vars s w))) first
    ∙ ap (apply_each (combined c.arithmetic o) (value e s)) second)
    (λ v. record { vars = given w y v; is = refl; tied = sets v })

pub follows_combine : (A B : Tie) (x y : ℕ) (o : ValueOp) (e f g h : KExpr) → ReadsAs A e g → ReadsAs A f h
    → ((v w : Vars) (n : ℕ) → A v w → B (given v x n) (given w y n)) → Follows A (Combine x o e f ∷ []) (Combine y o g h ∷ []) B
follows_combine A B x y o e f g h first second sets = follows_alike A B (Combine x o e f) (Combine y o g h) (λ c n s w k.
    combine_alike B x y o e f g h c n s w (first.at s w k) (second.at s w k) (λ v. sets s.vars w v k))

-- a statement that sets a variable whose value the tie doesn't ask for
dropped : (A B : Tie) (k : KStmt)
    → ((c : Setting) (n : ℕ) (s : State) (w : Vars) → A s.vars w → EndsAlike B (run c n k s) (Ended (with_vars s w)))
    → Follows A (k ∷ []) [] B
dropped A B k h = record {
  at = λ c n s w tied.
      alike_now B _ _ _ _ (alone c n k s) refl (alike_plain B (run c n k s) (Ended (with_vars s w)) (h c n s w tied));
}

value_dropped : (B : Tie) (s : State) (w : Vars) (x : ℕ) (p : Option ℕ) → ((n : ℕ) → B (given s.vars x n) w)
    → EndsAlike B (with_value s p (λ v. Ended (set_var s x v))) (Ended (with_vars s w))
value_dropped B s w x None h = tt
value_dropped B s w x (Some v) h = record { vars = w; is = refl; tied = h v }

pub set_dropped : (A B : Tie) (x : ℕ) (e : KExpr) → ((v w : Vars) (n : ℕ) → A v w → B (given v x n) w) → Follows A (Set x e ∷ []) [] B
set_dropped A B x e h = dropped A B (Set x e) (λ c n s w tied. value_dropped B s w x (value e s) (λ v. h s.vars w v tied))

pub combine_dropped : (A B : Tie) (x : ℕ) (o : ValueOp) (e f : KExpr) → ((v w : Vars) (n : ℕ) → A v w → B (given v x n) w)
    → Follows A (Combine x o e f ∷ []) [] B
combine_dropped A B x o e f h = dropped A B (Combine x o e f) (λ c n s w tied.
    value_dropped B s w x (apply_each (combined c.arithmetic o) (value e s) (value f s)) (λ v. h s.vars w v tied))

-- arrays
module _ (A : Tie) (a : Arr) where
  pub put_alike : (i e j f : KExpr) (c : Setting) (n : ℕ) (s : State) (w : Vars) → value j (with_vars s w) ≡ value i s
      → value f (with_vars s w) ≡ value e s → A s.vars w → EndsAlike A (run c n (Put a i e) s) (run c n (Put a j f) (with_vars s w))
  put_alike i e j f c n s w index item h =
      with_alike A s w (value i s) (value j (with_vars s w))
      (λ m. with_value s (value e s) (λ v. with_array s a (changed s a m (λ old. v))))
      (λ m. with_value (with_vars s w) (value f (with_vars s w)) (λ v.
      with_array (with_vars s w) a (changed (with_vars s w) a m (λ old. v))))
      index
      (λ m. with_alike A s w (value e s) (value f (with_vars s w)) (λ v. with_array s a (changed s a m (λ old. v)))
      (λ v. with_array (with_vars s w) a (changed (with_vars s w) a m (λ old. v))) item
      (λ v. written_alike A s w (may_write a) (s.arrays a) (changed s a m (λ old. v)) (changed (with_vars s w) a m (λ old. v))
      (λ ys. changed_alike A s w (nat_lt m (length ys)) a (slice_set ys m v) h)))

  pub sum_alike : (i e j f : KExpr) (c : Setting) (n : ℕ) (s : State) (w : Vars) → value j (with_vars s w) ≡ value i s
      → value f (with_vars s w) ≡ value e s → A s.vars w → EndsAlike A (run c n (AddTo a i e) s) (run c n (AddTo a j f) (with_vars s w))
  sum_alike i e j f c n s w index item h =
      with_alike A s w (value i s) (value j (with_vars s w)) (λ m. add_outcome c.arithmetic s a (Some m) (value e s))
      (λ m. add_outcome c.arithmetic (with_vars s w) a (Some m) (value f (with_vars s w))) index
      (λ m. with_alike A s w (value e s) (value f (with_vars s w)) (λ v. add_outcome c.arithmetic s a (Some m) (Some v))
      (λ v. add_outcome c.arithmetic (with_vars s w) a (Some m) (Some v)) item
      (λ v. written_alike A s w (may_write a) (s.arrays a) (changed s a m (λ old. sum_in c.arithmetic a old v))
      (changed (with_vars s w) a m (λ old. sum_in c.arithmetic a old v))
      (λ ys. changed_alike A s w (nat_lt m (length ys)) a (slice_set ys m (sum_in c.arithmetic a (slice_index ys m) v)) h)))

  pub push_alike : (e f : KExpr) (c : Setting) (n : ℕ) (s : State) (w : Vars) → value f (with_vars s w) ≡ value e s → A s.vars w
      → EndsAlike A (run c n (Push a e) s) (run c n (Push a f) (with_vars s w))
  push_alike e f c n s w item h =
      with_alike A s w (value e s) (value f (with_vars s w)) (λ v. push_outcome s a (Some v)) (λ v. push_outcome (with_vars s w) a (Some v))
      item
      (λ v. written_alike A s w (may_write a) (s.arrays a) (λ xs. grown s a (length xs + 1) xs (v ∷ []))
      (λ xs. grown (with_vars s w) a (length xs + 1) xs (v ∷ []))
      (λ ys. grown_alike A s w (may_have a (length ys + 1)) a a (told_count a (length ys + 1)) (ys ++ v ∷ []) h))

  pub extend_alike : (i e j f : KExpr) (c : Setting) (n : ℕ) (s : State) (w : Vars) → value j (with_vars s w) ≡ value i s
      → value f (with_vars s w) ≡ value e s → A s.vars w → EndsAlike A (run c n (Extend a i e) s) (run c n (Extend a j f) (with_vars s w))
  extend_alike i e j f c n s w index item h =
      with_alike A s w (value i s) (value j (with_vars s w)) (λ m. extend_outcome s a (Some m) (value e s))
      (λ m. extend_outcome (with_vars s w) a (Some m) (value f (with_vars s w))) index
      (λ m. with_alike A s w (value e s) (value f (with_vars s w)) (λ v. extend_outcome s a (Some m) (Some v))
      (λ v. extend_outcome (with_vars s w) a (Some m) (Some v)) item
      (λ v. written_alike A s w (may_write a) (s.arrays a) (λ xs. grown s a (length xs + m) xs (replicate m v))
      (λ xs. grown (with_vars s w) a (length xs + m) xs (replicate m v))
      (λ ys. grown_alike A s w (may_have a (length ys + m)) a a (told_count a (length ys + m)) (ys ++ replicate m v) h)))

  pub cut_alike : (e f : KExpr) (c : Setting) (n : ℕ) (s : State) (w : Vars) → value f (with_vars s w) ≡ value e s → A s.vars w
      → EndsAlike A (run c n (Cut a e) s) (run c n (Cut a f) (with_vars s w))
  cut_alike e f c n s w item h =
      with_alike A s w (value e s) (value f (with_vars s w)) (λ v. cut_outcome c.cuts_results s a (Some v))
      (λ v. cut_outcome c.cuts_results (with_vars s w) a (Some v)) item
      (λ v. written_alike A s w (may_cut c.cuts_results a) (s.arrays a) (λ xs. Ended (set_array s a (take v xs)))
      (λ xs. Ended (set_array (with_vars s w) a (take v xs))) (λ ys. record { vars = w; is = refl; tied = h }))

  pub follows_put : (i e j f : KExpr) → ReadsAs A i j → ReadsAs A e f → Follows A (Put a i e ∷ []) (Put a j f ∷ []) A
  follows_put i e j f index item = follows_alike A A (Put a i e) (Put a j f) (λ c n s w h.
      put_alike i e j f c n s w (index.at s w h) (item.at s w h) h)

  pub follows_sum : (i e j f : KExpr) → ReadsAs A i j → ReadsAs A e f → Follows A (AddTo a i e ∷ []) (AddTo a j f ∷ []) A
  follows_sum i e j f index item = follows_alike A A (AddTo a i e) (AddTo a j f) (λ c n s w h.
      sum_alike i e j f c n s w (index.at s w h) (item.at s w h) h)

  pub follows_push : (e f : KExpr) → ReadsAs A e f → Follows A (Push a e ∷ []) (Push a f ∷ []) A
  follows_push e f item = follows_alike A A (Push a e) (Push a f) (λ c n s w h. push_alike e f c n s w (item.at s w h) h)

  pub follows_extend : (i e j f : KExpr) → ReadsAs A i j → ReadsAs A e f → Follows A (Extend a i e ∷ []) (Extend a j f ∷ []) A
  follows_extend i e j f index item = follows_alike A A (Extend a i e) (Extend a j f) (λ c n s w h.
      extend_alike i e j f c n s w (index.at s w h) (item.at s w h) h)

  pub follows_cut : (e f : KExpr) → ReadsAs A e f → Follows A (Cut a e ∷ []) (Cut a f ∷ []) A
  follows_cut e f item = follows_alike A A (Cut a e) (Cut a f) (λ c n s w h. cut_alike e f c n s w (item.at s w h) h)

sorted_alike : (A : Tie) (s : State) (w : Vars) (b : Bool) (a d : Arr) (xs ys : List ℕ) → A s.vars w
    → EndsAlike A (if b then Ended (set_array (set_array s a xs) d ys) else Stuck s.turns 1)
    (if b then Ended (set_array (set_array (with_vars s w) a xs) d ys) else Stuck s.turns 1)
sorted_alike A s w true a d xs ys h = record { vars = w; is = refl; tied = h }
sorted_alike A s w false a d xs ys h = tt

list_alike : (A : Tie) (s : State) (w : Vars) (g : ℕ) (cs ps : Option (List ℕ)) → A s.vars w
    → EndsAlike A (sort_outcome s g cs ps) (sort_outcome (with_vars s w) g cs ps)
list_alike A s w g None ps h = tt
list_alike A s w g (Some cs) None h = tt
list_alike A s w g (Some cs) (Some ps) h =
    sorted_alike A s w (length cs == length ps) (ListCoordinates g) (ListPositions g)
    (map (λ r. r.coordinate) (sorted_rows (list_rows cs ps))) (map (λ r. r.position) (sorted_rows (list_rows cs ps))) h

pub follows_sort : (A : Tie) (g : ℕ) → Follows A (Sort g ∷ []) (Sort g ∷ []) A
follows_sort A g = follows_alike A A (Sort g) (Sort g) (λ c n s w h.
    list_alike A s w g (s.arrays (ListCoordinates g)) (s.arrays (ListPositions g)) h)

columns_same : (s : State) (w : Vars) (space count n : ℕ) → key_columns (with_vars s w) space count n ≡ key_columns s space count n
columns_same s w space count zero = refl
columns_same s w space count (suc n) =
    ap (λ columns. one_more_column count columns (s.arrays (Key space n))) (columns_same s w space count n)

set_same : (s : State) (w : Vars) (space : ℕ) (rows : List Row) (n : ℕ)
    → set_columns (with_vars s w) space rows n ≡ with_vars (set_columns s space rows n) w
set_same s w space rows zero = refl
set_same s w space rows (suc n) = ap (λ t. set_array t (Key space n) (column_of n rows)) (set_same s w space rows n)

vars_same : (s : State) (space : ℕ) (rows : List Row) (n : ℕ) → (set_columns s space rows n).vars ≡ s.vars
vars_same s space rows zero = refl
vars_same s space rows (suc n) = vars_same s space rows n

summed_alike : (A : Tie) (a : Arithmetic) (s : State) (w : Vars) (space keys : ℕ) (vs : List ℕ) (columns : Option (List (List ℕ)))
    → A s.vars w → EndsAlike A (summed a s space keys vs columns) (summed a (with_vars s w) space keys vs columns)
summed_alike A a s w space keys vs None h = tt
summed_alike A a s w space keys vs (Some columns) h =
    let rows = summed_rows a (rows_from columns 0 vs) in
    record {
      vars = w;
      is = ap (λ t. Ended (set_array t (Sums space) (map (λ r. r.value) rows))) (set_same s w space rows keys);
      tied = subst (λ v. A v w) (sym (vars_same s space rows keys)) h;
    }

sums_alike : (A : Tie) (a : Arithmetic) (s : State) (w : Vars) (space : ℕ) (keys : Option ℕ) (vs : Option (List ℕ)) → A s.vars w
    → EndsAlike A (sort_sum_outcome a s space keys vs) (sort_sum_outcome a (with_vars s w) space keys vs)
sums_alike A a s w space None vs h = tt
sums_alike A a s w space (Some keys) None h = tt
sums_alike A a s w space (Some keys) (Some vs) h =
    subst (λ columns. EndsAlike A (sort_sum_outcome a s space (Some keys) (Some vs)) (summed a (with_vars s w) space keys vs columns))
    (sym (columns_same s w space (length vs) keys))
    (summed_alike A a s w space keys vs (key_columns s space (length vs) keys) h)

pub follows_sort_sum : (A : Tie) (space : ℕ) → Follows A (SortSum space ∷ []) (SortSum space ∷ []) A
follows_sort_sum A space = follows_alike A A (SortSum space) (SortSum space) (λ c n s w h.
    sums_alike A c.arithmetic s w space (slice_get c.workspaces space) (s.arrays (Sums space)) h)

-- choices
pub choice_runs : (B C D : Tie) (e d : KExpr) (first second one other : List KStmt) → Follows B first one D → Follows C second other D
    → (c : Setting) (n : ℕ) (s : State) (w : Vars) → value d (with_vars s w) ≡ value e s → B s.vars w → C s.vars w
    → EndsAlike D (unnumbered (run c n (If e first second) s)) (unnumbered (run c n (If d one other) (with_vars s w)))
choice_runs B C D e d first second one other p q c n s w is there elsewhere =
    alike_now D _ _ _ _ (plain_if c n e first second s) (plain_if c n d one other (with_vars s w))
    (choice_alike D s w (value e s) (value d (with_vars s w)) (plain c n first s) (plain c n second s) (plain c n one (with_vars s w))
    (plain c n other (with_vars s w)) is (λ v _. p.at c n s w there) (λ _. q.at c n s w elsewhere))

pub follows_choice : (A B C D : Tie) (e d : KExpr) (first second one other : List KStmt) → ReadsAs A e d
    → ((v w : Vars) → A v w → B v w) → ((v w : Vars) → A v w → C v w) → Follows B first one D → Follows C second other D
    → Follows A (If e first second ∷ []) (If d one other ∷ []) D
follows_choice A B C D e d first second one other reads there elsewhere p q = follows_step A D (If e first second) (If d one other)
    (λ c n s w h. choice_runs B C D e d first second one other p q c n s w (reads.at s w h) (there s.vars w h) (elsewhere s.vars w h))

choice_gone : (A : Tie) (s : State) (p : Option ℕ) (f g o : Outcome) → EndsAlike A f o → EndsAlike A g o → EndsAlike A (choice s p f g) o
choice_gone A s None f g o h k = tt
choice_gone A s (Some zero) f g o h k = k
choice_gone A s (Some (suc v)) f g o h k = h

pub choice_dropped : (A B C D : Tie) (e : KExpr) (first second : List KStmt) → ((v w : Vars) → A v w → B v w)
    → ((v w : Vars) → A v w → C v w) → Follows B first [] D → Follows C second [] D → Follows A (If e first second ∷ []) [] D
choice_dropped A B C D e first second there elsewhere p q = record {
  at = λ c n s w h.
      alike_now D _ _ _ _ (alone c n (If e first second) s ∙ plain_if c n e first second s) refl
      (choice_gone D s (value e s) (plain c n first s) (plain c n second s) (Ended (with_vars s w)) (p.at c n s w (there s.vars w h))
      (q.at c n s w (elsewhere s.vars w h)));
}

-- loops
turns_alike : (A : Tie) (c : Setting) (n j : ℕ) (k : LoopKind) (e d : KExpr) (body turned : List KStmt) → ReadsAs A e d
    → Follows A body turned A → (s : State) (w : Vars) → A s.vars w
    → EndsAlike A (run_turns j k (value e) (plain c n body) s) (run_turns j k (value d) (plain c n turned) (with_vars s w))
turns_alike A c n zero k e d body turned reads p s w h =
    choice_alike A s w (value e s) (value d (with_vars s w)) More (Ended s) More (Ended (with_vars s w)) (reads.at s w h) (λ v is. refl)
    (λ is. record { vars = w; is = refl; tied = h })
turns_alike A c n (suc j) k e d body turned reads p s w h =
    choice_alike A s w (value e s) (value d (with_vars s w))
    (then_run (plain c n body (one_turn s k)) (run_turns j k (value e) (plain c n body))) (Ended s)
    (then_run (plain c n turned (one_turn (with_vars s w) k)) (run_turns j k (value d) (plain c n turned))) (Ended (with_vars s w))
    (reads.at s w h)
    (λ v is.
    then_alike A A (plain c n body (one_turn s k)) (plain c n turned (one_turn (with_vars s w) k))
    (run_turns j k (value e) (plain c n body))
    (run_turns j k (value d) (plain c n turned)) (p.at c n (one_turn s k) w h)
    (λ s w h. turns_alike A c n j k e d body turned reads p s w h))
    (λ is. record { vars = w; is = refl; tied = h })

pub follows_loop : (A B : Tie) (k : LoopKind) (e d : KExpr) (body turned : List KStmt) → ReadsAs A e d → Follows A body turned A
    → ((v w : Vars) → A v w → B v w) → Follows A (While k e body ∷ []) (While k d turned ∷ []) B
follows_loop A B k e d body turned reads p wider = follows_wider A A A B (While k e body ∷ []) (While k d turned ∷ []) (λ v w h. h) wider
    (follows_step A A (While k e body) (While k d turned) (λ c n s w h.
    alike_now A _ _ _ _ (plain_while c n k e body s) (plain_while c n k d turned (with_vars s w))
    (turns_alike A c n n k e d body turned reads p s w h)))
