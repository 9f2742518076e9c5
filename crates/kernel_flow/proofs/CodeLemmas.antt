-- Lemmas about code that passes: what does the same in place of other code where facts hold.
use Rattle.std.specs.Prelude.{◌≡◌, ℕ, zero, suc, ◌+◌, ◌<◌, Bool, true, false, nat_lt, ◌==◌, if◌then◌else◌}
use Rattle.std.specs.Prelude.{List, [], ◌∷◌, ◌++◌, Option, Some, None, Result, Ok, Err, IfOk}
use Rattle.std.specs.declared.alloc.AllocError.{AllocError}
use Rattle.std.specs.Prelude.{length, slice_get, slice_set, replicate, refl}
use Rattle.std.proofs.Common.{◌∙◌, ap, sym, subst, take, get_or, arith}
use Rattle.std.proofs.lemmas.List.{take_more}
use Rattle.numbers.specs.Arithmetic.{Arithmetic}
use Rattle.kernel_code.specs.declared.syntax.Arr.{Arr}
use Rattle.kernel_code.specs.declared.syntax.Arr.TheVariants.{Key, Sums, ListCoordinates, ListPositions}
use Rattle.kernel_code.specs.declared.syntax.LoopKind.{LoopKind}
use Rattle.kernel_code.specs.declared.syntax.ValueOp.{ValueOp}
use Rattle.kernel_code.specs.declared.syntax.KExpr.{KExpr, Num, Var, At', Len, Bin', Min', Width'}
use Rattle.kernel_code.specs.declared.syntax.KExpr.{Row_of-KExpr, end_of-KExpr, more_of-KExpr}
use Rattle.kernel_code.specs.Keeps.{Mentions, Mentions_in}
use Rattle.kernel_code.specs.declared.syntax.KStmt.{KStmt, Set, Combine, Put, AddTo, Push, Extend, Cut, Sort, SortSum, If, While}
use Rattle.kernel_code.specs.Arrays.{same_arr, may_write, may_cut, may_have, told_count}
use Rattle.kernel_code.specs.Rows.{Row}
use Rattle.kernel_code.specs.Meaning.{Setting, State, Outcome, Ended, Stuck, Over, More, value, apply_each, combined, one_turn, then_run}
use Rattle.kernel_code.specs.Meaning.{behind, statements_in, choice, run_turns, run, add_outcome, push_outcome, extend_outcome}
use Rattle.kernel_code.specs.Meaning.{cut_outcome, sort_outcome, sort_sum_outcome, summed, set_columns, key_columns, with_value, with_array}
use Rattle.kernel_code.specs.Meaning.{if_written, changed, set_var, set_array}
use Rattle.kernel_code.proofs.ArrayNames.{same_arr_is}
use Rattle.kernel_code.proofs.Does.{cut_is_written}
use Rattle.kernel_code.proofs.Keeps.{other_array, other_var, value_kept}
use Rattle.kernel_flow.specs.declared.facts.Fact.{Fact}
use Rattle.kernel_flow.specs.Facts.{AllHold, Known, Gives, Survives, Becomes, Learns, WhereZero, WhereNot}
use Rattle.kernel_code.specs.More.{IsGood}
use Rattle.simplifier.specs.Refines.{Refines, plain}
use Rattle.kernel_flow.specs.Passing.{KnownAfter, Passes, PassesTurn}
use Rattle.kernel_flow.specs.Steady.{HasWords}
use Rattle.kernel_flow.proofs.ExprLemmas.{each_settle}
use Rattle.simplifier.specs.Folded.{number_of}
use Rattle.simplifier.proofs.ExprLemmas.{number_is}
use Rattle.simplifier.proofs.Unnumbered.{plain_append, plain_if, plain_while}
use Rattle.simplifier.specs.Same.{unnumbered}
use Rattle.kernel_flow.proofs.FactLemmas.{known_kept, words_kept}

-- a statement by itself
abbrev once : Setting → ℕ → KStmt → State → Outcome
once c n k s = unnumbered (run c n k s)

-- runs one behind another
good_first : (o : Outcome) (f : State → Outcome) → IsGood (then_run o f) → IsGood o
good_first (Ended s) f h = tt
good_first (Stuck t statement) f h = h
good_first (Over t a count) f h = tt
good_first More f h = tt

then_as : (G : List Fact) (o : Outcome) (f g : State → Outcome) → KnownAfter G o → IsGood (then_run o f)
    → ((s : State) → Known G s → IsGood (f s) → g s ≡ f s) → then_run o g ≡ then_run o f
then_as G (Ended s) f g k h same = same s k h
then_as G (Stuck t statement) f g k h same = refl
then_as G (Over t a count) f g k h same = refl
then_as G More f g k h same = refl

then_known : (G H : List Fact) (o : Outcome) (f : State → Outcome) → KnownAfter G o → ((s : State) → Known G s → KnownAfter H (f s))
    → KnownAfter H (then_run o f)
then_known G H (Ended s) f k h = h s k
then_known G H (Stuck t statement) f k h = tt
then_known G H (Over t a count) f k h = tt
then_known G H More f k h = tt

good_now : (o p : Outcome) → o ≡ p → IsGood o → IsGood p
good_now o p is h = subst IsGood is h

known_now : (F : List Fact) (o p : Outcome) → o ≡ p → KnownAfter F p → KnownAfter F o
known_now F o p is h = subst (KnownAfter F) (sym is) h

pub passes_nothing : (F : List Fact) → Passes F [] [] F
passes_nothing F = record { same = λ c n s k g. refl; known = λ c n s k. k }

pub passes_then : (F G H : List Fact) (a b d e : List KStmt) → Passes F a d G → Passes G b e H → Passes F (a ++ b) (d ++ e) H
passes_then F G H a b d e p q = record {
  same = λ c n s k g.
      let first = plain c n a s in
      let good = good_now _ _ (plain_append c n a b s) g in
      plain_append c n d e s ∙ ap (λ o. then_run o (plain c n e)) (p.same c n s k (good_first first (plain c n b) good))
      ∙ then_as G first (plain c n b) (plain c n e) (p.known c n s k) good (λ s k g. q.same c n s k g)
      ∙ sym (plain_append c n a b s);
  known = λ c n s k.
      known_now H _ _ (plain_append c n a b s)
      (then_known G H (plain c n a s) (plain c n b) (p.known c n s k) (λ s k. q.known c n s k));
}

pub passes_from : (F G : List Fact) (a b d : List KStmt) → a ≡ b → Passes F b d G → Passes F a d G
passes_from F G a b d is h = subst (λ x. Passes F x d G) (sym is) h

pub passes_now : (F G : List Fact) (a b d : List KStmt) → d ≡ b → Passes F a b G → Passes F a d G
passes_now F G a b d is h = subst (λ x. Passes F a x G) (sym is) h

pub passes_gives : (F G H : List Fact) (a b : List KStmt) → Gives F G → Passes G a b H → Passes F a b H
passes_gives F G H a b g p = record {
  same = λ c n s k h. p.same c n s (record { words = k.words; all = g.at s k.all }) h;
  known = λ c n s k. p.known c n s (record { words = k.words; all = g.at s k.all });
}

-- one more statement
pub passes_more : (F G H : List Fact) (code out new all : List KStmt) (i : ℕ) (s : KStmt) → i < length code → s ≡ get_or code i s
    → Passes F (take i code) out G → Passes G (s ∷ []) new H → all ≡ out ++ new → Passes F (take (i + 1) code) all H
passes_more F G H code out new all i s l is p q now =
    passes_now F H (take (i + 1) code) (out ++ new) all now
    (passes_from F H (take (i + 1) code) (take i code ++ s ∷ []) (out ++ new)
    (take_more code i s l ∙ ap (λ x. take i code ++ x ∷ []) (sym is)) (passes_then F G H (take i code) (s ∷ []) out new p q))

-- two statements of which one does what the other does where facts hold
record Steps (F : List Fact) (k j : KStmt) (G : List Fact) : Type 0 where
  same : (c : Setting) (n : ℕ) (s : State) → Known F s → IsGood (once c n k s) → once c n j s ≡ once c n k s
  known : (c : Setting) (n : ℕ) (s : State) → Known F s → KnownAfter G (once c n k s)

alone : (c : Setting) (n : ℕ) (k : KStmt) (s : State) → plain c n (k ∷ []) s ≡ once c n k s
alone c n k s = last (run c n k s)
  where
    last : (o : Outcome) → unnumbered (then_run o (λ s'. behind (statements_in k) (Ended s'))) ≡ unnumbered o
    last (Ended s') = refl
    last (Stuck t statement) = refl
    last (Over t a count) = refl
    last More = refl

passes_step : (F G : List Fact) (k j : KStmt) (new : List KStmt) → new ≡ j ∷ [] → Steps F k j G → Passes F (k ∷ []) new G
passes_step F G k j new is h = passes_now F G (k ∷ []) (j ∷ []) new is (record {
  same = λ c n s known good.
      alone c n j s ∙ h.same c n s known (good_now _ _ (alone c n k s) good) ∙ sym (alone c n k s);
  known = λ c n s known. known_now G _ _ (alone c n k s) (h.known c n s known);
})

-- so do two statements without bodies
record Alike (F : List Fact) (k j : KStmt) (G : List Fact) : Type 0 where
  same : (c : Setting) (n : ℕ) (s : State) → Known F s → IsGood (run c n k s) → run c n j s ≡ run c n k s
  known : (c : Setting) (n : ℕ) (s : State) → Known F s → KnownAfter G (run c n k s)

good_numbered : (o : Outcome) → IsGood (unnumbered o) → IsGood o
good_numbered (Ended s) h = h
good_numbered (Stuck t statement) h = h
good_numbered (Over t a count) h = h
good_numbered More h = h

known_unnumbered : (G : List Fact) (o : Outcome) → KnownAfter G o → KnownAfter G (unnumbered o)
known_unnumbered G (Ended s) h = h
known_unnumbered G (Stuck t statement) h = h
known_unnumbered G (Over t a count) h = h
known_unnumbered G More h = h

passes_alike : (F G : List Fact) (k j : KStmt) (new : List KStmt) → new ≡ j ∷ [] → Alike F k j G → Passes F (k ∷ []) new G
passes_alike F G k j new is h = passes_step F G k j new is (record {
  same = λ c n s known good. ap unnumbered (h.same c n s known (good_numbered (run c n k s) good));
  known = λ c n s known. known_unnumbered G (run c n k s) (h.known c n s known);
})

-- values
Has : Option ℕ → Option ℕ → Type 0
Has x u = (k : ℕ) → x ≡ Some k → u ≡ Some k

with_as : (s : State) (p q : Option ℕ) (f g : ℕ → Outcome) → ((v : ℕ) → p ≡ Some v → q ≡ Some v) → IsGood (with_value s p f)
    → ((v : ℕ) → IsGood (f v) → g v ≡ f v) → with_value s q g ≡ with_value s p f
with_as s None q f g h good same = absurd good
with_as s (Some v) q f g h good same = ap (λ x. with_value s x g) (h v refl) ∙ same v good

with_known : (G : List Fact) (s : State) (p : Option ℕ) (f : ℕ → Outcome) → ((v : ℕ) → p ≡ Some v → KnownAfter G (f v))
    → KnownAfter G (with_value s p f)
with_known G s None f h = tt
with_known G s (Some v) f h = h v refl

pub pass_set : (F G : List Fact) (x : ℕ) (e d : KExpr) (new : List KStmt) → Becomes F e d → Learns F x e G → new ≡ Set x d ∷ []
    → Passes F (Set x e ∷ []) new G
pass_set F G x e d new b l is = passes_alike F G (Set x e) (Set x d) new is (record {
  same = λ c n s k good.
      with_as s (value e s) (value d s) (λ v. Ended (set_var s x v)) (λ v. Ended (set_var s x v)) (λ v h. b.at s v k h) good (λ v g. refl);
  known = λ c n s k.
      with_known G s (value e s) (λ v. Ended (set_var s x v))
      (λ v h. record { words = words_kept s (set_var s x v) (λ a r. refl) k.words; all = l.at s v k h });
})

pub pass_combine : (F G : List Fact) (x : ℕ) (o : ValueOp) (e f d g : KExpr) (new : List KStmt) → Becomes F e d → Becomes F f g
    → Survives x F G → new ≡ Combine x o d g ∷ [] → Passes F (Combine x o e f ∷ []) new G
pass_combine F G x o e f d g new b p l is = passes_alike F G (Combine x o e f) (Combine x o d g) new is (record {
  same = λ c n s k good.
      with_as s (apply_each (combined c.arithmetic o) (value e s) (value f s))
      (apply_each (combined c.arithmetic o) (value d s) (value g s))
      (λ v. Ended (set_var s x v)) (λ v. Ended (set_var s x v))
      (λ v h. each_settle (combined c.arithmetic o) (value e s) (value f s) (value d s) (value g s) v (λ n m. b.at s n k m)
      (λ n m. p.at s n k m) h) good (λ v g. refl);
  known = λ c n s k.
      with_known G s (apply_each (combined c.arithmetic o) (value e s) (value f s)) (λ v. Ended (set_var s x v))
      (λ v h. record {
        words = words_kept s (set_var s x v) (λ a r. refl) k.words;
        all = l.at s (set_var s x v) (λ y m. other_var s x y v m) (λ a r. refl) k.all;
      });
})

-- arrays that may be written
apart : (b : Bool) (a d : Arr) → may_write a ≡ true → may_write d ≡ false → same_arr a d ≡ b → b ≡ false
apart true a d w r h = let is = same_arr_is a d h in let both : may_write a ≡ may_write d = ap may_write is in cc
apart false a d w r h = refl

written_known : (F : List Fact) (s : State) (a : Arr) (xs : List ℕ) → may_write a ≡ true → Known F s → Known F (set_array s a xs)
written_known F s a xs w k = known_kept F s (set_array s a xs) (λ y. refl)
    (λ d r. other_array s a d xs (apart (same_arr a d) a d w r refl)) k

array_known : (F : List Fact) (s : State) (b : Bool) (xs : Option (List ℕ)) (next : List ℕ → Outcome)
    → (b ≡ true → (ys : List ℕ) → KnownAfter F (next ys)) → KnownAfter F (if_written s b xs next)
array_known F s false xs next h = tt
array_known F s true None next h = tt
array_known F s true (Some xs) next h = h refl xs

changed_known : (F : List Fact) (s : State) (b : Bool) (o : State) → Known F o → KnownAfter F (if b then Ended o else Stuck s.turns 1)
changed_known F s true o k = k
changed_known F s false o k = tt

grown_known : (F : List Fact) (b : Bool) (o : State) (t : LoopKind → ℕ) (a : Arr) (count : ℕ) → Known F o
    → KnownAfter F (if b then Ended o else Over t a count)
grown_known F true o t a count k = k
grown_known F false o t a count k = tt

pub pass_put : (F : List Fact) (a : Arr) (i e j d : KExpr) (new : List KStmt) → Becomes F i j → Becomes F e d → new ≡ Put a j d ∷ []
    → Passes F (Put a i e ∷ []) new F
pass_put F a i e j d new b p is = passes_alike F F (Put a i e) (Put a j d) new is (record {
  same = λ c n s k good.
      with_as s (value i s) (value j s) (λ i. with_value s (value e s) (λ v. with_array s a (changed s a i (λ old. v))))
      (λ i. with_value s (value d s) (λ v. with_array s a (changed s a i (λ old. v)))) (λ v h. b.at s v k h) good
      (λ m good. with_as s (value e s) (value d s) (λ v. with_array s a (changed s a m (λ old. v)))
      (λ v. with_array s a (changed s a m (λ old. v))) (λ v h. p.at s v k h) good (λ v g. refl));
  known = λ c n s k.
      with_known F s (value i s) (λ i. with_value s (value e s) (λ v. with_array s a (changed s a i (λ old. v))))
      (λ m h. with_known F s (value e s) (λ v. with_array s a (changed s a m (λ old. v)))
      (λ v h. array_known F s (may_write a) (s.arrays a) (changed s a m (λ old. v))
      (λ w ys. changed_known F s (nat_lt m (length ys)) (set_array s a (slice_set ys m v))
      (written_known F s a (slice_set ys m v) w k))));
})

pub pass_sum : (F : List Fact) (a : Arr) (i e j d : KExpr) (new : List KStmt) → Becomes F i j → Becomes F e d → new ≡ AddTo a j d ∷ []
    → Passes F (AddTo a i e ∷ []) new F
pass_sum F a i e j d new b p is = passes_alike F F (AddTo a i e) (AddTo a j d) new is (record {
  same = λ c n s k good.
      with_as s (value i s) (value j s) (λ i. add_outcome c.arithmetic s a (Some i) (value e s))
      (λ i. add_outcome c.arithmetic s a (Some i) (value d s)) (λ v h. b.at s v k h) good
      (λ m good. with_as s (value e s) (value d s) (λ v. add_outcome c.arithmetic s a (Some m) (Some v))
      (λ v. add_outcome c.arithmetic s a (Some m) (Some v)) (λ v h. p.at s v k h) good (λ v g. refl));
  known = λ c n s k.
      with_known F s (value i s) (λ i. add_outcome c.arithmetic s a (Some i) (value e s))
      (λ m h. with_known F s (value e s) (λ v. add_outcome c.arithmetic s a (Some m) (Some v))
      (λ v h. array_known F s (may_write a) (s.arrays a) _
      (λ w ys. changed_known F s (nat_lt m (length ys)) _
      (written_known F s a _ w k))));
})

pub pass_push : (F : List Fact) (a : Arr) (e d : KExpr) (new : List KStmt) → Becomes F e d → new ≡ Push a d ∷ []
    → Passes F (Push a e ∷ []) new F
pass_push F a e d new b is = passes_alike F F (Push a e) (Push a d) new is (record {
  same = λ c n s k good.
      with_as s (value e s) (value d s) (λ v. push_outcome s a (Some v)) (λ v. push_outcome s a (Some v)) (λ v h. b.at s v k h) good
      (λ v g. refl);
  known = λ c n s k.
      with_known F s (value e s) (λ v. push_outcome s a (Some v))
      (λ v h. array_known F s (may_write a) (s.arrays a) _
      (λ w ys. grown_known F (may_have a (length ys + 1)) _ s.turns a (told_count a (length ys + 1))
      (written_known F s a (ys ++ v ∷ []) w k)));
})

pub pass_extend : (F : List Fact) (a : Arr) (i e j d : KExpr) (new : List KStmt) → Becomes F i j → Becomes F e d → new ≡ Extend a j d ∷ []
    → Passes F (Extend a i e ∷ []) new F
pass_extend F a i e j d new b p is = passes_alike F F (Extend a i e) (Extend a j d) new is (record {
  same = λ c n s k good.
      with_as s (value i s) (value j s) (λ i. extend_outcome s a (Some i) (value e s))
      (λ i. extend_outcome s a (Some i) (value d s)) (λ v h. b.at s v k h) good
      (λ m good. with_as s (value e s) (value d s) (λ v. extend_outcome s a (Some m) (Some v))
      (λ v. extend_outcome s a (Some m) (Some v)) (λ v h. p.at s v k h) good (λ v g. refl));
  known = λ c n s k.
      with_known F s (value i s) (λ i. extend_outcome s a (Some i) (value e s))
      (λ m h. with_known F s (value e s) (λ v. extend_outcome s a (Some m) (Some v))
      (λ v h. array_known F s (may_write a) (s.arrays a) _
      (λ w ys. grown_known F (may_have a (length ys + m)) _ s.turns a (told_count a (length ys + m))
      (written_known F s a (ys ++ replicate m v) w k))));
})

pub pass_cut : (F : List Fact) (a : Arr) (e d : KExpr) (new : List KStmt) → Becomes F e d → new ≡ Cut a d ∷ []
    → Passes F (Cut a e ∷ []) new F
pass_cut F a e d new b is = passes_alike F F (Cut a e) (Cut a d) new is (record {
  same = λ c n s k good.
      with_as s (value e s) (value d s) (λ v. cut_outcome c.cuts_results s a (Some v)) (λ v. cut_outcome c.cuts_results s a (Some v))
      (λ v h. b.at s v k h) good (λ v g. refl);
  known = λ c n s k.
      with_known F s (value e s) (λ v. cut_outcome c.cuts_results s a (Some v))
      (λ v h. array_known F s (may_cut c.cuts_results a) (s.arrays a) _
      (λ w ys. written_known F s a _ (cut_is_written c.cuts_results a w) k));
})

sorted_known : (F : List Fact) (s : State) (g : ℕ) (cs ps : Option (List ℕ)) → Known F s → KnownAfter F (sort_outcome s g cs ps)
sorted_known F s g None ps k = tt
sorted_known F s g (Some cs) None k = tt
sorted_known F s g (Some cs) (Some ps) k =
    changed_known F s (length cs == length ps) _
    (written_known F _ (ListPositions g) _ refl (written_known F s (ListCoordinates g) _ refl k))

pub pass_sort : (F : List Fact) (g : ℕ) (new : List KStmt) → new ≡ Sort g ∷ [] → Passes F (Sort g ∷ []) new F
pass_sort F g new is = passes_alike F F (Sort g) (Sort g) new is (record {
  same = λ c n s k good. refl;
  known = λ c n s k. sorted_known F s g (s.arrays (ListCoordinates g)) (s.arrays (ListPositions g)) k;
})

columns_known : (F : List Fact) (s : State) (w : ℕ) (rows : List Row) (n : ℕ) → Known F s → Known F (set_columns s w rows n)
columns_known F s w rows zero k = k
columns_known F s w rows (suc n) k = written_known F (set_columns s w rows n) (Key w n) _ refl (columns_known F s w rows n k)

summed_known : (F : List Fact) (a : Arithmetic) (s : State) (w keys : ℕ) (vs : List ℕ) (columns : Option (List (List ℕ))) → Known F s
    → KnownAfter F (summed a s w keys vs columns)
summed_known F a s w keys vs None k = tt
summed_known F a s w keys vs (Some columns) k = written_known F _ (Sums w) _ refl (columns_known F s w _ keys k)

sort_sum_known : (F : List Fact) (a : Arithmetic) (s : State) (w : ℕ) (keys : Option ℕ) (vs : Option (List ℕ)) → Known F s
    → KnownAfter F (sort_sum_outcome a s w keys vs)
sort_sum_known F a s w None vs k = tt
sort_sum_known F a s w (Some keys) None k = tt
sort_sum_known F a s w (Some keys) (Some vs) k = summed_known F a s w keys vs (key_columns s w (length vs) keys) k

pub pass_sort_sum : (F : List Fact) (w : ℕ) (new : List KStmt) → new ≡ SortSum w ∷ [] → Passes F (SortSum w ∷ []) new F
pass_sort_sum F w new is = passes_alike F F (SortSum w) (SortSum w) new is (record {
  same = λ c n s k good. refl;
  known = λ c n s k. sort_sum_known F c.arithmetic s w (slice_get c.workspaces w) (s.arrays (Sums w)) k;
})

-- choices
after_gives : (F G : List Fact) (o : Outcome) → Gives F G → KnownAfter F o → KnownAfter G o
after_gives F G (Ended s) g k = record { words = k.words; all = g.at s k.all }
after_gives F G (Stuck t statement) g k = tt
after_gives F G (Over t a count) g k = tt
after_gives F G More g k = tt

choice_as : (s : State) (p q : Option ℕ) (first second one other : Outcome) → ((v : ℕ) → p ≡ Some v → q ≡ Some v)
    → IsGood (choice s p first second) → ((v : ℕ) → p ≡ Some (suc v) → IsGood first → one ≡ first)
    → (p ≡ Some 0 → IsGood second → other ≡ second) → choice s q one other ≡ choice s p first second
choice_as s None q first second one other h good there elsewhere = absurd good
choice_as s (Some zero) q first second one other h good there elsewhere = ap (λ x. choice s x one other) (h 0 refl) ∙ elsewhere refl good
choice_as s (Some (suc v)) q first second one other h good there elsewhere =
    ap (λ x. choice s x one other) (h (suc v) refl) ∙ there v refl good

choice_known : (G : List Fact) (s : State) (p : Option ℕ) (first second : Outcome) → ((v : ℕ) → p ≡ Some (suc v) → KnownAfter G first)
    → (p ≡ Some 0 → KnownAfter G second) → KnownAfter G (choice s p first second)
choice_known G s None first second there elsewhere = tt
choice_known G s (Some zero) first second there elsewhere = elsewhere refl
choice_known G s (Some (suc v)) first second there elsewhere = there v refl

pub pass_choice : (F A B G H K : List Fact) (e d : KExpr) (first second one other new : List KStmt) → Becomes F e d → WhereNot F e A
    → WhereZero F e B → Passes A first one G → Passes B second other H → Gives G K → Gives H K → new ≡ If d one other ∷ []
    → Passes F (If e first second ∷ []) new K
pass_choice F A B G H K e d first second one other new b there elsewhere p q g h is =
    passes_step F K (If e first second) (If d one other) new is
    (record {
      same = λ c n s k good.
          plain_if c n d one other s
          ∙ choice_as s (value e s) (value d s) (plain c n first s) (plain c n second s) (plain c n one s) (plain c n other s)
          (λ v h. b.at s v k h) (good_now _ _ (plain_if c n e first second s) good)
          (λ v is good. p.same c n s (record { words = k.words; all = there.at s v k.words k.all is }) good)
          (λ is good. q.same c n s (record { words = k.words; all = elsewhere.at s k.words k.all is }) good)
          ∙ sym (plain_if c n e first second s);
      known = λ c n s k.
          known_now K _ _ (plain_if c n e first second s)
          (choice_known K s (value e s) (plain c n first s) (plain c n second s)
          (λ v is. after_gives G K (plain c n first s) g (p.known c n s (record { words = k.words; all = there.at s v k.words k.all is })))
          (λ is.
          after_gives H K (plain c n second s) h (q.known c n s (record { words = k.words; all = elsewhere.at s k.words k.all is }))));
    })

-- a choice whose test is known
taken_as : (s : State) (p : Option ℕ) (v : ℕ) (first second : Outcome) → ((w : ℕ) → p ≡ Some w → w ≡ v) → IsGood (choice s p first second)
    → p ≡ Some v
taken_as s None v first second h good = absurd good
taken_as s (Some w) v first second h good = ap Some (h w refl)

same_value_of : (v w : ℕ) → Some v ≡ Some w → w ≡ v
same_value_of v w h = cc

pub pass_second : (F G : List Fact) (e d : KExpr) (first second new : List KStmt) → Becomes F e d → ((s : State) → value d s ≡ Some 0)
    → Passes F second new G → Passes F (If e first second ∷ []) new G
pass_second F G e d first second new b is p = record {
  same = λ c n s k good.
      let now = alone c n (If e first second) s ∙ plain_if c n e first second s in
      let good = good_now _ _ now good in
      let zero_is = taken_as s (value e s) 0 (plain c n first s) (plain c n second s)
      (λ w h. same_value_of 0 w (sym (is s) ∙ b.at s w k h)) good in
      let all = now ∙ ap (λ v. choice s v (plain c n first s) (plain c n second s)) zero_is in
      p.same c n s k (good_now _ _ (ap (λ v. choice s v (plain c n first s) (plain c n second s)) zero_is) good) ∙ sym all;
  known = λ c n s k.
      known_now G _ _ (alone c n (If e first second) s ∙ plain_if c n e first second s)
      (choice_known G s (value e s) (plain c n first s) (plain c n second s)
      (λ v h. let wrong = sym (is s) ∙ b.at s (suc v) k h in cc) (λ h. p.known c n s k));
}

pub pass_first : (F G : List Fact) (e d : KExpr) (m : ℕ) (first second new : List KStmt) → Becomes F e d
    → ((s : State) → value d s ≡ Some (suc m)) → Passes F first new G → Passes F (If e first second ∷ []) new G
pass_first F G e d m first second new b is p = record {
  same = λ c n s k good.
      let now = alone c n (If e first second) s ∙ plain_if c n e first second s in
      let good = good_now _ _ now good in
      let more_is = taken_as s (value e s) (suc m) (plain c n first s) (plain c n second s)
      (λ w h. same_value_of (suc m) w (sym (is s) ∙ b.at s w k h)) good in
      let all = now ∙ ap (λ v. choice s v (plain c n first s) (plain c n second s)) more_is in
      p.same c n s k (good_now _ _ (ap (λ v. choice s v (plain c n first s) (plain c n second s)) more_is) good) ∙ sym all;
  known = λ c n s k.
      known_now G _ _ (alone c n (If e first second) s ∙ plain_if c n e first second s)
      (choice_known G s (value e s) (plain c n first s) (plain c n second s)
      (λ v h. p.known c n s k) (λ h. let wrong = sym (is s) ∙ b.at s 0 k h in cc));
}

-- a turn changes no expression's value
mutual
  everything : (e : KExpr) → Mentions (λ y. Unit {0}) (λ a. Unit {0}) e
  everything (Num n) = tt
  everything (Var x) = tt
  everything (At' a p i) = (tt, everything_in i)
  everything (Len a) = tt
  everything (Bin' o p a q b) = (everything_in a, everything_in b)
  everything (Min' p a q b) = (everything_in a, everything_in b)
  everything (Width' p e) = everything_in e

  everything_in : {m : _} (row : Row_of-KExpr m) → Mentions_in (λ y. Unit {0}) (λ a. Unit {0}) row
  everything_in end_of-KExpr = tt
  everything_in (more_of-KExpr e rest) = everything e

turn_kept : (e : KExpr) (s : State) (k : LoopKind) → value e (one_turn s k) ≡ value e s
turn_kept e s k = value_kept (λ y. Unit {0}) (λ a. Unit {0}) e s (one_turn s k) (everything e) (λ y m. refl) (λ a m. refl)

-- loops
turn_known : (F : List Fact) (s : State) (k : LoopKind) → Known F s → Known F (one_turn s k)
turn_known F s k h = known_kept F s (one_turn s k) (λ y. refl) (λ a r. refl) h

turns_as : (F G K : List Fact) (n j : ℕ) (c : Setting) (k : LoopKind) (e d : KExpr) (body turned : List KStmt)
    → PassesTurn F e body d turned G
    → Gives G F → (s : State) → Known F s → IsGood (run_turns j k (value e) (plain c n body) s)
    → ((s : State) → value e (one_turn s k) ≡ value e s)
    → run_turns j k (value d) (plain c n turned) s ≡ run_turns j k (value e) (plain c n body) s
turns_as F G K n zero c k e d body turned p g s known good kept =
    choice_as s (value e s) (value d s) More (Ended s) More (Ended s) (λ v h. p.becomes.at s v known h) good (λ v is good. refl)
    (λ is good. refl)
turns_as F G K n (suc j) c k e d body turned p g s known good kept =
    let again = run_turns j k (value e) (plain c n body) in
    let anew = run_turns j k (value d) (plain c n turned) in
    let first = plain c n body (one_turn s k) in
    choice_as s (value e s) (value d s) (then_run first again) (Ended s) (then_run (plain c n turned (one_turn s k)) anew) (Ended s)
    (λ v h. p.becomes.at s v known h) good
    (λ v is good.
    ap (λ o. then_run o anew) (p.same c n (one_turn s k) v (turn_known F s k known) (kept s ∙ is) (good_first first again good))
    ∙ then_as F first again anew
    (after_gives G F first g (p.known c n (one_turn s k) v (turn_known F s k known) (kept s ∙ is))) good
    (λ s known good. turns_as F G K n j c k e d body turned p g s known good kept))
    (λ is good. refl)

turns_known : (F G K : List Fact) (n j : ℕ) (c : Setting) (k : LoopKind) (e d : KExpr) (body turned : List KStmt)
    → PassesTurn F e body d turned G → Gives G F → WhereZero F e K → (s : State) → Known F s
    → ((s : State) → value e (one_turn s k) ≡ value e s) → KnownAfter K (run_turns j k (value e) (plain c n body) s)
turns_known F G K n zero c k e d body turned p g z s known kept =
    choice_known K s (value e s) More (Ended s) (λ v is. tt) (λ is. record { words = known.words; all = z.at s known.words known.all is })
turns_known F G K n (suc j) c k e d body turned p g z s known kept =
    let again = run_turns j k (value e) (plain c n body) in
    let first = plain c n body (one_turn s k) in
    choice_known K s (value e s) (then_run first again) (Ended s)
    (λ v is.
    then_known F K first again (after_gives G F first g (p.known c n (one_turn s k) v (turn_known F s k known) (kept s ∙ is)))
    (λ s known. turns_known F G K n j c k e d body turned p g z s known kept))
    (λ is. record { words = known.words; all = z.at s known.words known.all is })

pub pass_loop : (F G K : List Fact) (k : LoopKind) (e d : KExpr) (body turned new : List KStmt) → PassesTurn F e body d turned G
    → Gives G F → WhereZero F e K → new ≡ While k d turned ∷ [] → Passes F (While k e body ∷ []) new K
pass_loop F G K k e d body turned new p g z is = passes_step F K (While k e body) (While k d turned) new is (record {
  same = λ c n s known good.
      plain_while c n k d turned s
      ∙ turns_as F G K n n c k e d body turned p g s known (good_now _ _ (plain_while c n k e body s) good) (λ s. turn_kept e s k)
      ∙ sym (plain_while c n k e body s);
  known = λ c n s known.
      known_now K _ _ (plain_while c n k e body s) (turns_known F G K n n c k e d body turned p g z s known (λ s. turn_kept e s k));
})

pub pass_turn : (F A G : List Fact) (e d : KExpr) (body turned : List KStmt) → Becomes F e d → WhereNot F e A → Passes A body turned G
    → PassesTurn F e body d turned G
pass_turn F A G e d body turned b w p = record {
  becomes = b;
  same = λ c n s v k is good. p.same c n s (record { words = k.words; all = w.at s v k.words k.all is }) good;
  known = λ c n s v k is. p.known c n s (record { words = k.words; all = w.at s v k.words k.all is });
}

pub refines : (G : List Fact) (new old : List KStmt) → Passes [] old new G → Refines HasWords new old
refines G new old p = record { same = λ c n s w good. p.same c n s (record { words = w; all = tt }) good }

-- what is known where a test and what it is written as now aren't 0, and where they are
pub not_both : (F A B C : List Fact) (e d : KExpr) → A ≡ F → Becomes F e d → WhereNot A e B → WhereNot B d C → WhereNot F e C
not_both F A B C e d same b h g = record {
  at = λ s v words all is.
      g.at s v words (h.at s v words (subst (λ fs. AllHold fs s) (sym same) all) is)
      (b.at s (suc v) (record { words = words; all = all }) is);
}

pub zero_both : (F A B C : List Fact) (e d : KExpr) → A ≡ F → Becomes F e d → WhereZero A e B → WhereZero B d C → WhereZero F e C
zero_both F A B C e d same b h g = record {
  at = λ s words all is.
      g.at s words (h.at s words (subst (λ fs. AllHold fs s) (sym same) all) is)
      (b.at s 0 (record { words = words; all = all }) is);
}

pub becomes_facts : (F A : List Fact) (e d : KExpr) → A ≡ F → Becomes A e d → Becomes F e d
becomes_facts F A e d is h = subst (λ fs. Becomes fs e d) is h

pub second_now : (F G : List Fact) (k : KStmt) (e d : KExpr) (first second body new : List KStmt) → k ≡ If e first second
    → body ≡ second → Becomes F e d → number_of d ≡ Some 0 → Passes F body new G → Passes F (k ∷ []) new G
second_now F G k e d first second body new is same b n p =
    passes_from F G (k ∷ []) (If e first second ∷ []) new (ap (λ x. x ∷ []) is)
    (pass_second F G e d first second new b (λ s. number_is d 0 n s) (subst (λ x. Passes F x new G) same p))

more_than : (v : ℕ) → 0 < v → (m : ℕ) × (v ≡ suc m)
more_than zero h = absurd (omega arith)
more_than (suc m) h = (m, refl)

pub first_now : (F G : List Fact) (k : KStmt) (e d : KExpr) (first second body new : List KStmt) (v : ℕ) → k ≡ If e first second
    → body ≡ first → Becomes F e d → number_of d ≡ Some v → 0 < v → Passes F body new G → Passes F (k ∷ []) new G
first_now F G k e d first second body new v is same b n l p =
    let more = more_than v l in
    passes_from F G (k ∷ []) (If e first second ∷ []) new (ap (λ x. x ∷ []) is)
    (pass_first F G e d more.0 first second new b (λ s. number_is d v n s ∙ ap Some more.1) (subst (λ x. Passes F x new G) same p))

pub choice_now : (F A B G H K : List Fact) (k : KStmt) (e d : KExpr) (first second there elsewhere one other new : List KStmt)
    → k ≡ If e first second → there ≡ first → elsewhere ≡ second → Becomes F e d → WhereNot F e A → WhereZero F e B
    → Passes A there one G → Passes B elsewhere other H → Gives G K → Gives H K → new ≡ If d one other ∷ [] → Passes F (k ∷ []) new K
choice_now F A B G H K k e d first second there elsewhere one other new is one_is other_is b w z p q g h now =
    passes_from F K (k ∷ []) (If e first second ∷ []) new (ap (λ x. x ∷ []) is)
    (pass_choice F A B G H K e d first second one other new b w z (subst (λ x. Passes A x one G) one_is p)
    (subst (λ x. Passes B x other H) other_is q) g h now)

pub loop_now : (F G : List Fact) (k : KStmt) (kind : LoopKind) (e : KExpr) (body held new : List KStmt) → k ≡ While kind e body
    → held ≡ body → Passes F (While kind e held ∷ []) new G → Passes F (k ∷ []) new G
loop_now F G k kind e body held new is same p =
    passes_from F G (k ∷ []) (While kind e held ∷ []) new (ap (λ x. x ∷ []) (is ∙ ap (While kind e) (sym same))) p

module _ {A : Type 0} where
  pub three_ok : (r : Result A AllocError) (P Q R S : A → Type 0) → IfOk r P → IfOk r Q → IfOk r R → ((x : A) → P x → Q x → R x → S x)
      → IfOk r S
  three_ok (Ok x) P Q R S p q u f = f x p q u
  three_ok (Err why) P Q R S p q u f = tt
