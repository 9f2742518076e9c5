-- Lemmas about statements: what does the same in place of other code, and what is simple.
use Rattle.std.specs.Prelude.{◌≡◌, ℕ, zero, suc, ◌<◌, true, List, [], ◌∷◌, ◌++◌, Option, Some, None, Result, Ok, Err, OnOk, refl}
use Rattle.std.specs.declared.alloc.AllocError.{AllocError}
use Rattle.std.proofs.Common.{◌∙◌, ◌+◌, ap, sym, subst, take, get_or, length, append_assoc, append-nil}
use Rattle.std.proofs.lemmas.List.{take_more}
use Rattle.numbers.specs.Arithmetic.{Arithmetic}
use Rattle.numbers.specs.Ring.{ring}
use Rattle.kernel_code.specs.declared.syntax.Arr.{Arr}
use Rattle.kernel_code.specs.declared.syntax.LoopKind.{LoopKind}
use Rattle.kernel_code.specs.declared.syntax.ValueOp.{ValueOp}
use Rattle.kernel_code.specs.declared.syntax.ValueOp.TheVariants.{Plus, Times}
use Rattle.kernel_code.specs.declared.syntax.KExpr.{KExpr, Bin}
use Rattle.kernel_code.specs.declared.syntax.KStmt.{KStmt, Set, Combine, Put, AddTo, Push, Extend, Cut, If, While}
use Rattle.kernel_code.specs.Meaning.{Setting, State, Outcome, Ended, Stuck, Over, More, value, apply_each, apply_both}
use Rattle.kernel_code.specs.Meaning.{combined, one_turn, then_run}
use Rattle.kernel_code.specs.Meaning.{choice, run_turns, run, run_list, set_outcome, put_outcome, add_outcome, push_outcome, extend_outcome}
use Rattle.kernel_code.specs.Meaning.{cut_outcome, behind, statements_in}
use Rattle.kernel_code.proofs.Behind.{then_same}
use Rattle.kernel_code.proofs.Equations.{value_bin}
use Rattle.kernel_code.proofs.RunLemmas.{turns_end}
use Rattle.simplifier.specs.Folded.{FoldedStep, FoldedCode, SimpleCode, number_of, is_zero, operator_for}
use Rattle.simplifier.specs.Same.{SameValue, SameRuns, unnumbered}
use Rattle.simplifier.proofs.ExprLemmas.{number_is, zero_is}
use Rattle.simplifier.proofs.Unnumbered.{plain_append, plain_if, plain_while, plain_no, plain_yes}

-- two statements do the same
pub record SameStep (over : Arithmetic) (s t : KStmt) : Type 0 where
  pub from : (c : Setting) → c.arithmetic ≡ over → (n : ℕ) (st : State) → unnumbered (run c n s st) ≡ unnumbered (run c n t st)

-- over the ring a sum or product of values is that of words
words_of : (c : Setting) → c.arithmetic ≡ ring → (o : ValueOp) (v w : Option ℕ)
    → apply_each (combined c.arithmetic o) v w ≡ apply_both (operator_for o) v w
unfolding ring
words_of c is Plus None w = refl
words_of c is Plus (Some v) None = refl
words_of c is Plus (Some v) (Some w) = ap (λ m. Some (m.plus v w)) is
words_of c is Times None w = refl
words_of c is Times (Some v) None = refl
words_of c is Times (Some v) (Some w) = ap (λ m. Some (m.times v w)) is

module _ (over : Arithmetic) where
  pub step_same : (s t : KStmt) → s ≡ t → SameStep over s t
  step_same s t is = record { from = λ c q n st. ap (λ s. unnumbered (run c n s st)) is }

  pub step_then : (s t u : KStmt) → SameStep over s t → SameStep over t u → SameStep over s u
  step_then s t u h g = record { from = λ c q n st. h.from c q n st ∙ g.from c q n st }

  pub same_set : (x : ℕ) (e f : KExpr) → SameValue e f → SameStep over (Set x e) (Set x f)
  same_set x e f h = record { from = λ c q n st. ap (λ v. unnumbered (set_outcome st x v)) (h.at st) }

  pub same_combine : (x : ℕ) (o : ValueOp) (e f e' f' : KExpr) → SameValue e e' → SameValue f f'
      → SameStep over (Combine x o e f) (Combine x o e' f')
  same_combine x o e f e' f' h g = record {
    from = λ c q n st. ap (λ v. unnumbered (set_outcome st x (apply_each (combined c.arithmetic o) v (value f st)))) (h.at st)
        ∙ ap (λ v. unnumbered (set_outcome st x (apply_each (combined c.arithmetic o) (value e' st) v))) (g.at st);
  }

  pub same_words : (x : ℕ) (o : ValueOp) (e f r e' f' : KExpr) → over ≡ ring → SameValue r (Bin (operator_for o) e f) → SameValue e e'
      → SameValue f f' → SameStep over (Set x r) (Combine x o e' f')
  same_words x o e f r e' f' ring_is h g k = step_then (Set x r) (Combine x o e f) (Combine x o e' f')
      (record {
        from = λ c q n st. ap (λ v. unnumbered (set_outcome st x v)) (h.at st ∙ value_bin (operator_for o) e f st
            ∙ sym (words_of c (q ∙ ring_is) o (value e st) (value f st)));
      })
      (same_combine x o e f e' f' g k)

  pub same_put : (a : Arr) (i e i' e' : KExpr) → SameValue i i' → SameValue e e' → SameStep over (Put a i e) (Put a i' e')
  same_put a i e i' e' h g = record {
    from = λ c q n st. ap (λ v. unnumbered (put_outcome st a v (value e st))) (h.at st)
        ∙ ap (λ v. unnumbered (put_outcome st a (value i' st) v)) (g.at st);
  }

  pub same_add_to : (a : Arr) (i e i' e' : KExpr) → SameValue i i' → SameValue e e' → SameStep over (AddTo a i e) (AddTo a i' e')
  same_add_to a i e i' e' h g = record {
    from = λ c q n st. ap (λ v. unnumbered (add_outcome c.arithmetic st a v (value e st))) (h.at st)
        ∙ ap (λ v. unnumbered (add_outcome c.arithmetic st a (value i' st) v)) (g.at st);
  }

  pub same_push : (a : Arr) (e f : KExpr) → SameValue e f → SameStep over (Push a e) (Push a f)
  same_push a e f h = record { from = λ c q n st. ap (λ v. unnumbered (push_outcome st a v)) (h.at st) }

  pub same_extend : (a : Arr) (i e i' e' : KExpr) → SameValue i i' → SameValue e e' → SameStep over (Extend a i e) (Extend a i' e')
  same_extend a i e i' e' h g = record {
    from = λ c q n st. ap (λ v. unnumbered (extend_outcome st a v (value e st))) (h.at st)
        ∙ ap (λ v. unnumbered (extend_outcome st a (value i' st) v)) (g.at st);
  }

  pub same_cut : (a : Arr) (e f : KExpr) → SameValue e f → SameStep over (Cut a e) (Cut a f)
  same_cut a e f h = record { from = λ c q n st. ap (λ v. unnumbered (cut_outcome c.cuts_results st a v)) (h.at st) }

  turns_same : (n : ℕ) (k : LoopKind) (test test' : State → Option ℕ) (body body' : State → Outcome) → ((s : State) → test s ≡ test' s)
      → ((s : State) → body s ≡ body' s) → (s : State) → run_turns n k test body s ≡ run_turns n k test' body' s
  turns_same zero k test test' body body' h g s = ap (λ v. choice s v More (Ended s)) (h s)
  turns_same (suc n) k test test' body body' h g s =
      ap (λ v. choice s v (then_run (body (one_turn s k)) (run_turns n k test body)) (Ended s)) (h s)
      ∙ ap (λ o. choice s (test' s) o (Ended s)) (ap (λ o. then_run o (run_turns n k test body)) (g (one_turn s k))
      ∙ then_same (body' (one_turn s k)) (run_turns n k test body) (run_turns n k test' body') (turns_same n k test test' body body' h g))

  pub same_if : (e e' : KExpr) (first second first' second' : List KStmt) → SameValue e e' → SameRuns over first first'
      → SameRuns over second second' → SameStep over (If e first second) (If e' first' second')
  same_if e e' first second first' second' h f g = record {
    from = λ c q n st.
        let plain : List KStmt → Outcome = λ code. unnumbered (run_list c n code st) in
        plain_if c n e first second st ∙ ap (λ v. choice st v (plain first) (plain second)) (h.at st)
        ∙ ap (λ o. choice st (value e' st) o (plain second)) (f.from c q n st)
        ∙ ap (λ o. choice st (value e' st) (plain first') o) (g.from c q n st) ∙ sym (plain_if c n e' first' second' st);
  }

  pub same_while : (k : LoopKind) (e e' : KExpr) (body body' : List KStmt) → SameValue e e' → SameRuns over body body'
      → SameStep over (While k e body) (While k e' body')
  same_while k e e' body body' h f = record {
    from = λ c q n st. plain_while c n k e body st
        ∙ turns_same n k (value e) (value e') (λ s. unnumbered (run_list c n body s)) (λ s. unnumbered (run_list c n body' s)) h.at
        (f.from c q n) st
        ∙ sym (plain_while c n k e' body' st);
  }

  pub runs_same : (a : List KStmt) → SameRuns over a a
  runs_same a = record { from = λ c q n s. refl }

  pub runs_then : (a b d : List KStmt) → SameRuns over a b → SameRuns over b d → SameRuns over a d
  runs_then a b d h g = record { from = λ c q n s. h.from c q n s ∙ g.from c q n s }

  pub runs_now : (a b d : List KStmt) → SameRuns over a b → b ≡ d → SameRuns over a d
  runs_now a b d h is = subst (SameRuns over a) is h

  -- more code behind
  pub runs_more : (a b more : List KStmt) → SameRuns over a b → SameRuns over (a ++ more) (b ++ more)
  runs_more a b more h = record {
    from = λ c q n s. plain_append c n a more s ∙ ap (λ o. then_run o (λ s'. unnumbered (run_list c n more s'))) (h.from c q n s)
        ∙ sym (plain_append c n b more s);
  }

  alone : (c : Setting) (n : ℕ) (s : KStmt) (st : State) → run_list c n (s ∷ []) st ≡ run c n s st
  alone c n s st = last (run c n s st)
    where
      last : (o : Outcome) → then_run o (λ st. behind (statements_in s) (run_list c n [] st)) ≡ o
      last (Ended s) = refl
      last (Stuck t statement) = refl
      last (Over t a count) = refl
      last More = refl

  -- code in place of a statement at the end
  pub runs_behind : (out code : List KStmt) (s : KStmt)
      → ((c : Setting) → c.arithmetic ≡ over → (n : ℕ) (st : State) → unnumbered (run_list c n code st) ≡ unnumbered (run c n s st))
      → SameRuns over (out ++ code) (out ++ s ∷ [])
  runs_behind out code s h = record {
    from = λ c q n st. plain_append c n out code st
        ∙ then_same (unnumbered (run_list c n out st)) (λ st. unnumbered (run_list c n code st))
        (λ st. unnumbered (run_list c n (s ∷ []) st))
        (λ st. h c q n st ∙ sym (ap unnumbered (alone c n s st)))
        ∙ sym (plain_append c n out (s ∷ []) st);
  }

  pub pushed : (out : List KStmt) (s t : KStmt) → SameStep over s t → SameRuns over (out ++ s ∷ []) (out ++ t ∷ [])
  pushed out s t h = runs_behind out (s ∷ []) t (λ c q n st. ap unnumbered (alone c n s st) ∙ h.from c q n st)

  -- one body in place of a choice by a number
  pub takes_second : (out : List KStmt) (e : KExpr) (first second : List KStmt) → number_of e ≡ Some 0
      → SameRuns over (out ++ second) (out ++ If e first second ∷ [])
  takes_second out e first second h =
      runs_behind out second (If e first second) (λ c q n st. plain_no c n e first second st (number_is e 0 h st))

  pub takes_first : (out : List KStmt) (e : KExpr) (first second : List KStmt) (v : ℕ) → number_of e ≡ Some v → 0 < v
      → SameRuns over (out ++ first) (out ++ If e first second ∷ [])
  takes_first out e first second v h l =
      runs_behind out first (If e first second) (λ c q n st. plain_yes c n e first second st v (number_is e v h st) l)

  -- nothing in place of a loop on 0
  pub no_loop : (out : List KStmt) (k : LoopKind) (e : KExpr) (body : List KStmt) → is_zero e ≡ true
      → SameRuns over out (out ++ While k e body ∷ [])
  no_loop out k e body h =
      subst (λ code. SameRuns over code (out ++ While k e body ∷ [])) (append-nil out)
      (runs_behind out [] (While k e body)
      (λ c q n st. sym (plain_while c n k e body st
      ∙ turns_end n k (value e) (λ s. unnumbered (run_list c n body s)) st (number_is e 0 (zero_is e h) st))))

  -- a choice whose test is a number once it is simple, in place of the statement that it was
  choice_now : (out : List KStmt) (e e' : KExpr) (first second : List KStmt) (s : KStmt) → SameValue e' e → s ≡ If e first second
      → SameRuns over (out ++ If e' first second ∷ []) (out ++ s ∷ [])
  choice_now out e e' first second s h from =
      pushed out (If e' first second) s
      (step_then (If e' first second) (If e first second) s (same_if e' e first second first second h (runs_same first) (runs_same second))
      (step_same (If e first second) s (sym from)))

  pub second_taken : (out : List KStmt) (e e' : KExpr) (first second code : List KStmt) (s : KStmt) → number_of e' ≡ Some 0
      → SameValue e' e → code ≡ second → s ≡ If e first second → SameRuns over (out ++ code) (out ++ s ∷ [])
  second_taken out e e' first second code s n h is from =
      subst (λ body. SameRuns over (out ++ body) (out ++ s ∷ [])) (sym is)
      (runs_then (out ++ second) (out ++ If e' first second ∷ []) (out ++ s ∷ []) (takes_second out e' first second n)
      (choice_now out e e' first second s h from))

  pub first_taken : (out : List KStmt) (e e' : KExpr) (first second code : List KStmt) (s : KStmt) (v : ℕ) → number_of e' ≡ Some v → 0 < v
      → SameValue e' e → code ≡ first → s ≡ If e first second → SameRuns over (out ++ code) (out ++ s ∷ [])
  first_taken out e e' first second code s v n l h is from =
      subst (λ body. SameRuns over (out ++ body) (out ++ s ∷ [])) (sym is)
      (runs_then (out ++ first) (out ++ If e' first second ∷ []) (out ++ s ∷ []) (takes_first out e' first second v n l)
      (choice_now out e e' first second s h from))

  -- one more statement of code
  pub runs_so_far : (new out old code : List KStmt) (i : ℕ) (s : KStmt) → i < length code → s ≡ get_or code i s
      → SameRuns over out (old ++ take i code) → SameRuns over new (out ++ s ∷ []) → SameRuns over new (old ++ take (i + 1) code)
  runs_so_far new out old code i s l is h g =
      let all : (old ++ take i code) ++ s ∷ [] ≡ old ++ take (i + 1) code =
      append_assoc old (take i code) (s ∷ []) ∙ ap (λ xs. old ++ xs) (ap (λ x. take i code ++ x ∷ []) is ∙ sym (take_more code i s l)) in
      runs_now new ((old ++ take i code) ++ s ∷ []) (old ++ take (i + 1) code)
      (runs_then new (out ++ s ∷ []) ((old ++ take i code) ++ s ∷ []) g (runs_more out (old ++ take i code) (s ∷ []) h)) all

  folded_behind : (code : List KStmt) (s : KStmt) → FoldedCode over code → FoldedStep over s → FoldedCode over (code ++ s ∷ [])
  folded_behind [] s h g = (g, tt)
  folded_behind (k ∷ rest) s h g = (h.0, folded_behind rest s h.1 g)

  pub simple_pushed : (code : List KStmt) (s : KStmt) → SimpleCode over code → FoldedStep over s → SimpleCode over (code ++ s ∷ [])
  simple_pushed code s h g = record { folded = folded_behind code s h.folded g }

  pub simple_nothing : SimpleCode over []
  simple_nothing = record { folded = tt }

module _ (over : Arithmetic) {A : Type 0} where
  -- a statement that was appended in place of one that does the same
  pub added : (r : Result A AllocError) (new old : List KStmt) (s t : KStmt) → OnOk r (new ≡ old ++ s ∷ []) → SameStep over s t
      → OnOk r (SameRuns over new (old ++ t ∷ []))
  added (Ok done) new old s t is h = subst (λ code. SameRuns over code (old ++ t ∷ [])) (sym is) (pushed over old s t h)
  added (Err why) new old s t is h = tt

  pub runs_result : (r : Result A AllocError) (new a b : List KStmt) → OnOk r (SameRuns over new a) → SameRuns over a b
      → OnOk r (SameRuns over new b)
  runs_result (Ok done) new a b h g = runs_then over new a b h g
  runs_result (Err why) new a b h g = tt

  pub added_simple : (r : Result A AllocError) (new old : List KStmt) (s : KStmt) → OnOk r (new ≡ old ++ s ∷ []) → FoldedStep over s
      → SimpleCode over old → OnOk r (SimpleCode over new)
  added_simple (Ok done) new old s is h g = subst (SimpleCode over) (sym is) (simple_pushed over old s g h)
  added_simple (Err why) new old s is h g = tt
