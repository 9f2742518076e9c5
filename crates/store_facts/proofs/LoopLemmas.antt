-- Lemmas about loops that go by a load: they make the same turns where they ask for the load's test and read at the head of each turn.
use Rattle.std.specs.Prelude.{◌≡◌, ℕ, zero, suc, ◌≤◌, nat_lt, false, List, [], ◌∷◌, ◌++◌, Option, Some, None, IfSome}
use Rattle.std.specs.Prelude.{MatchOption, refl}
use Rattle.std.proofs.lemmas.List.{same_from_push}
use Rattle.std.proofs.Common.{◌∙◌, ap, sym, subst, append_assoc, arith}
use Rattle.std.proofs.lemmas.Bool.Decides.{nat_tests}
use Rattle.kernel_code.specs.declared.syntax.Arr.TheVariants.{Range}
use Rattle.kernel_code.specs.declared.syntax.LoopKind.{LoopKind}
use Rattle.kernel_code.specs.declared.syntax.Op.TheVariants.{Less}
use Rattle.kernel_code.specs.declared.syntax.KExpr.{KExpr, Num, Var, At, At', Len, Bin', Min', Width', Row_of-KExpr, end_of-KExpr}
use Rattle.kernel_code.specs.declared.syntax.KExpr.{more_of-KExpr}
use Rattle.kernel_code.specs.declared.syntax.KStmt.{KStmt, Set, While}
use Rattle.kernel_code.specs.Keeps.{Mentions, Mentions_in}
use Rattle.kernel_code.specs.Meaning.{Setting, State, Outcome, Ended, Stuck, Over, More, value, word_of, apply_both, one_turn, then_run}
use Rattle.kernel_code.specs.Meaning.{choice, run_turns, set_var, set_outcome}
use Rattle.kernel_code.proofs.Behind.{then_same}
use Rattle.kernel_code.proofs.Equations.{value_at, value_bin}
use Rattle.kernel_code.proofs.Keeps.{this_var, value_kept}
use Rattle.kernel_code.proofs.Words.{less_yes}
use Rattle.kernel_code.specs.More.{IsGood}
use Rattle.simplifier.specs.Refines.{Refines, plain}
use Rattle.simplifier.specs.Same.{unnumbered}
use Rattle.simplifier.proofs.Unnumbered.{plain_append, plain_if, plain_while}
use Rattle.store_facts.specs.declared.facts.StoreFact.{StoreFact}
use Rattle.store_facts.specs.declared.loads.Load.{Load}
use Rattle.store_facts.specs.Facts.{KeepsFacts, IsBelow}
use Rattle.store_facts.specs.Loads.{GoesBy, below_range, last_word, load_code, loop_code}
use Rattle.store_facts.proofs.CodeLemmas.{alone, good_now, refines_append, refines_now, refines_same}
use Rattle.store_facts.proofs.FactLemmas.{read_word}
use Rattle.store_facts.proofs.Keeping.{KeptAfter, code_keeps, turn_kept, variable_kept}

-- what a load does
abbrev pub loaded : ℕ → ℕ → State → Option ℕ → Option ℕ → Outcome
loaded x last s test coordinate = choice s test (set_outcome s x coordinate) (Ended (set_var s x last))

-- a loop that ends at once
stops : (s : State) (t : Option ℕ) (o : Outcome) → ((v : ℕ) → t ≡ Some v → v ≡ 0) → IsGood (choice s t o (Ended s))
    → choice s t o (Ended s) ≡ Ended s
stops s None o h good = absurd good
stops s (Some v) o h good = ap (λ w. choice s (Some w) o (Ended s)) (h v refl)

-- where code has ended, what follows it is the same
go_on : (F : List StoreFact) (o : Outcome) (load again anew finish : State → Outcome) → KeptAfter F o
    → IsGood (then_run (then_run o load) again)
    → ((s : State) → KeepsFacts F s → IsGood (then_run (load s) again) → then_run (anew s) finish ≡ then_run (load s) again)
    → then_run (then_run o anew) finish ≡ then_run (then_run o load) again
go_on F (Ended s) load again anew finish kept good same = same s kept good
go_on F (Stuck t statement) load again anew finish kept good same = refl
go_on F (Over t a count) load again anew finish kept good same = refl
go_on F More load again anew finish kept good same = refl

module _ (F : List StoreFact) (k : LoopKind) (x last : ℕ) (asks test coordinate : State → Option ℕ) (inner old new : State → Outcome)
    (old_is : (s : State) → old s ≡ then_run (inner s) (λ t. loaded x last t (test t) (coordinate t)))
    (new_is : (s : State) → new s ≡ then_run (set_outcome s x (coordinate s)) inner)
    (past : (s : State) (v : ℕ) → KeepsFacts F s → asks (set_var s x last) ≡ Some v → v ≡ 0)
    (there : (s : State) (v : ℕ) → KeepsFacts F s → coordinate s ≡ Some v → asks (set_var s x v) ≡ Some 1)
    (still : (s : State) → coordinate (one_turn s k) ≡ coordinate s)
    (keeps : (s : State) → KeepsFacts F s → KeptAfter F (inner s)) where
  -- from a load on
  enter : (j : ℕ) (s : State) (p q : Option ℕ) → test s ≡ p → coordinate s ≡ q → KeepsFacts F s
      → IsGood (then_run (loaded x last s p q) (run_turns j k asks old))
      → then_run (run_turns j k test new s) (λ t. Ended (set_var t x last)) ≡ then_run (loaded x last s p q) (run_turns j k asks old)
  enter j s None q is now kept good = absurd good
  enter zero s (Some zero) q is now kept good =
      let t = set_var s x last in
      ap (λ v. then_run (choice s v More (Ended s)) (λ t. Ended (set_var t x last))) is
      ∙ sym (stops t (asks t) More (λ v h. past s v kept h) good)
  enter (suc j) s (Some zero) q is now kept good =
      let t = set_var s x last in
      ap (λ v. then_run (choice s v (then_run (new (one_turn s k)) (run_turns j k test new)) (Ended s)) (λ t. Ended (set_var t x last))) is
      ∙ sym (stops t (asks t) (then_run (old (one_turn t k)) (run_turns j k asks old)) (λ v h. past s v kept h) good)
  enter j s (Some (suc m)) None is now kept good = absurd good
  enter zero s (Some (suc m)) (Some v) is now kept good =
      let t = set_var s x v in
      ap (λ v. then_run (choice s v More (Ended s)) (λ t. Ended (set_var t x last))) is
      ∙ ap (λ v. choice t v More (Ended t)) (sym (there s v kept now))
  enter (suc j) s (Some (suc m)) (Some v) is now kept good =
      let t = set_var s x v in
      let head = one_turn s k in
      let u = set_var head x v in
      let again = run_turns j k asks old in
      let anew = run_turns j k test new in
      let goes : choice t (asks t) (then_run (old u) again) (Ended t)
      ≡ then_run (then_run (inner u) (λ t. loaded x last t (test t) (coordinate t))) again =
      ap (λ v. choice t v (then_run (old u) again) (Ended t)) (there s v kept now) ∙ ap (λ o. then_run o again) (old_is u) in
      let reads : new head ≡ inner u =
      new_is head ∙ ap (λ v. then_run (set_outcome head x v) inner) (still s ∙ now) in
      ap (λ v. then_run (choice s v (then_run (new head) anew) (Ended s)) (λ t. Ended (set_var t x last))) is
      ∙ ap (λ o. then_run (then_run o anew) (λ t. Ended (set_var t x last))) reads
      ∙ go_on F (inner u) (λ t. loaded x last t (test t) (coordinate t)) again anew (λ t. Ended (set_var t x last))
      (keeps u (variable_kept F head x v (turn_kept F s k kept))) (good_now _ _ goes good)
      (λ s kept good. enter j s (test s) (coordinate s) refl refl kept good)
      ∙ sym goes

-- statements of a load and of a loop
set_plain : (s : State) (x : ℕ) (v : Option ℕ) → unnumbered (set_outcome s x v) ≡ set_outcome s x v
set_plain s x None = refl
set_plain s x (Some v) = refl

pub plain_set : (c : Setting) (n x : ℕ) (e : KExpr) (s : State) → plain c n (Set x e ∷ []) s ≡ set_outcome s x (value e s)
plain_set c n x e s = alone c n (Set x e) s ∙ set_plain s x (value e s)

pub plain_load : (c : Setting) (n : ℕ) (load : Load) (s : State)
    → plain c n (load_code load ∷ []) s
    ≡ loaded load.variable 18446744073709551615 s (value load.test s) (value load.coordinate s)
plain_load c n load s =
    let x = load.variable in
    let first = Set x load.coordinate ∷ [] in
    let second = Set x last_word ∷ [] in
    alone c n (load_code load) s ∙ plain_if c n load.test first second s
    ∙ ap (λ o. choice s (value load.test s) o (plain c n second s)) (plain_set c n x load.coordinate s)
    ∙ ap (choice s (value load.test s) (set_outcome s x (value load.coordinate s))) (plain_set c n x last_word s)

plain_loop : (c : Setting) (n : ℕ) (k : LoopKind) (e : KExpr) (body : List KStmt) (s : State)
    → plain c n (While k e body ∷ []) s ≡ run_turns n k (value e) (plain c n body) s
plain_loop c n k e body s = alone c n (While k e body) s ∙ plain_while c n k e body s

-- a turn changes no expression's value
mutual
  everything : (e : KExpr) → Mentions (λ y. Unit {0}) (λ a. Unit {0}) e
  everything (Num n) = tt
  everything (Var x) = tt
  everything (At' a p i) = (tt, everything_in i)
  everything (Len a) = tt
  everything (Bin' o p a q b) = (everything_in a, everything_in b)
  everything (Min' p a q b) = (everything_in a, everything_in b)
  everything (Width' p e) = everything_in e

  everything_in : {m : _} (row : Row_of-KExpr m) → Mentions_in (λ y. Unit {0}) (λ a. Unit {0}) row
  everything_in end_of-KExpr = tt
  everything_in (more_of-KExpr e rest) = everything e

value_still : (e : KExpr) (s : State) (k : LoopKind) → value e (one_turn s k) ≡ value e s
value_still e s k = value_kept (λ y. Unit {0}) (λ a. Unit {0}) e s (one_turn s k) (everything e) (λ y m. refl) (λ a m. refl)

-- the last word is below no range
none_above : (q : Option ℕ) (v : ℕ) → ((r : ℕ) → q ≡ Some r → r ≤ 18446744073709551615)
    → apply_both Less (Some 18446744073709551615) q ≡ Some v → v ≡ 0
none_above None v small h = cc
none_above (Some r) v small h =
    let l = small r refl in
    let no : nat_lt 18446744073709551615 r ≡ false = grind (arith, nat_tests) in
    let is : word_of (nat_lt 18446744073709551615 r) ≡ v = cc in
    sym is ∙ ap word_of no

past_range : (F : List StoreFact) (x variable : ℕ) (s : State) (v : ℕ) → KeepsFacts F s
    → value (below_range x variable) (set_var s x 18446744073709551615) ≡ Some v → v ≡ 0
past_range F x variable s v kept h =
    let t = set_var s x 18446744073709551615 in
    let range = value (At Range (Num variable)) t in
    none_above range v
    (λ r is.
    let read = read_word (s.arrays Range) (Some variable) r (sym (value_at Range (Num variable) t) ∙ is) in
    let small = kept.words read.0 read.1 r read.2 read.4 in
    omega (arith, small))
    (ap (λ p. apply_both Less p range) (sym (this_var s x 18446744073709551615))
    ∙ sym (value_bin Less (Var x) (At Range (Num variable)) t) ∙ h)

within_range : (F : List StoreFact) (x variable : ℕ) (e : KExpr) → IsBelow F e variable → (s : State) (v : ℕ) → KeepsFacts F s
    → value e s ≡ Some v → value (below_range x variable) (set_var s x v) ≡ Some 1
within_range F x variable e below s v kept is =
    let range = below.at s v kept is in
    let t = set_var s x v in
    less_yes (Var x) (At Range (Num variable)) v range.0 t (this_var s x v) (value_at Range (Num variable) t ∙ range.1) range.2

-- a load and the loop that goes by it
load_and_loop : (F : List StoreFact) (kind : LoopKind) (load : Load) (variable : ℕ) (inner : List KStmt)
    → IsBelow F load.coordinate variable
    → Refines (KeepsFacts F) (loop_code kind load inner)
    (load_code load ∷ While kind (below_range load.variable variable) (inner ++ load_code load ∷ []) ∷ [])
load_and_loop F kind load variable inner below = record {
  same = λ c n s kept good.
      let x = load.variable in
      let asks = below_range x variable in
      let old_body = inner ++ load_code load ∷ [] in
      let new_body = Set x load.coordinate ∷ inner in
      let old = load_code load ∷ While kind asks old_body ∷ [] in
      let finish : State → Outcome = λ t. Ended (set_var t x 18446744073709551615) in
      let old_is : plain c n old s
      ≡ then_run (loaded x 18446744073709551615 s (value load.test s) (value load.coordinate s))
      (run_turns n kind (value asks) (plain c n old_body)) =
      plain_append c n (load_code load ∷ []) (While kind asks old_body ∷ []) s
      ∙ ap (λ o. then_run o (plain c n (While kind asks old_body ∷ []))) (plain_load c n load s)
      ∙ then_same (loaded x 18446744073709551615 s (value load.test s) (value load.coordinate s))
      (plain c n (While kind asks old_body ∷ [])) (run_turns n kind (value asks) (plain c n old_body))
      (plain_loop c n kind asks old_body) in
      let new_is : plain c n (loop_code kind load inner) s
      ≡ then_run (run_turns n kind (value load.test) (plain c n new_body) s) finish =
      plain_append c n (While kind load.test new_body ∷ []) (Set x last_word ∷ []) s
      ∙ ap (λ o. then_run o (plain c n (Set x last_word ∷ []))) (plain_loop c n kind load.test new_body s)
      ∙ then_same (run_turns n kind (value load.test) (plain c n new_body) s) (plain c n (Set x last_word ∷ [])) finish
      (plain_set c n x last_word) in
      new_is
      ∙ enter F kind x 18446744073709551615 (value asks) (value load.test) (value load.coordinate) (plain c n inner) (plain c n old_body)
      (plain c n new_body)
      (λ t. plain_append c n inner (load_code load ∷ []) t
      ∙ then_same (plain c n inner t) (plain c n (load_code load ∷ []))
      (λ u. loaded x 18446744073709551615 u (value load.test u) (value load.coordinate u)) (plain_load c n load))
      (λ t. plain_append c n (Set x load.coordinate ∷ []) inner t
      ∙ ap (λ o. then_run o (plain c n inner)) (plain_set c n x load.coordinate t))
      (past_range F x variable) (within_range F x variable load.coordinate below) (λ t. value_still load.coordinate t kind)
      (code_keeps F c n inner) n s (value load.test s) (value load.coordinate s) refl refl kept (good_now _ _ old_is good)
      ∙ sym old_is;
}

-- a loop that goes by the load at the end of the code before it
pub loop_placed : (F : List StoreFact) (kind : LoopKind) (load : Load) (before : List KStmt) (test : KExpr)
    (body out front inner : List KStmt) (variable : ℕ) → before ≡ front ++ load_code load ∷ [] → body ≡ inner ++ load_code load ∷ []
    → test ≡ below_range load.variable variable → IsBelow F load.coordinate variable → out ≡ front ++ loop_code kind load inner
    → Refines (KeepsFacts F) out (before ++ While kind test body ∷ [])
loop_placed F kind load before test body out front inner variable ahead behind tests below is =
    let loop = While kind (below_range load.variable variable) (inner ++ load_code load ∷ []) in
    refines_now F out (front ++ loop_code kind load inner) (before ++ While kind test body ∷ [])
    (front ++ load_code load ∷ loop ∷ []) is
    (ap (λ xs. xs ++ While kind test body ∷ []) ahead
    ∙ ap (λ xs. (front ++ load_code load ∷ []) ++ While kind test xs ∷ []) behind
    ∙ ap (λ e. (front ++ load_code load ∷ []) ++ While kind e (inner ++ load_code load ∷ []) ∷ []) tests
    ∙ append_assoc front (load_code load ∷ []) (loop ∷ []))
    (refines_append F front (load_code load ∷ loop ∷ []) front (loop_code kind load inner) (refines_same F front)
    (load_and_loop F kind load variable inner below))

-- a load that was found
pub goes_now : (F : List StoreFact) (held before inside body : List KStmt) (test : KExpr) (found : Option Load) (load : Load)
    → held ≡ before → inside ≡ body → found ≡ Some load → IfSome found (λ l. GoesBy F held test inside l) → GoesBy F before test body load
goes_now F held before inside body test found load ahead behind is h =
    subst (λ xs. GoesBy F xs test body load) ahead (subst (λ xs. GoesBy F held test xs load) behind
    (subst (λ o. IfSome o (λ l. GoesBy F held test inside l)) is h))

-- the end of a list taken off
pub popped : (o : Option KStmt) (old new front : List KStmt) (k : KStmt)
    → MatchOption o ((old ≡ []) × (new ≡ [])) (λ last. old ≡ new ++ last ∷ []) → old ≡ front ++ k ∷ [] → new ≡ front
popped None old new [] k h is = let none = h.0 in cc
popped None old new (x ∷ front) k h is = let none = h.0 in cc
popped (Some last) old new front k h is = (same_from_push new front last k (sym h ∙ is)).0

-- what is put in place of a load
pub put_is : (kind : LoopKind) (load : Load) (front inner out next all first turn body : List KStmt) → out ≡ front → body ≡ inner
    → first ≡ Set load.variable load.coordinate ∷ [] → turn ≡ first ++ body → next ≡ out ++ While kind load.test turn ∷ []
    → all ≡ next ++ Set load.variable last_word ∷ [] → all ≡ front ++ loop_code kind load inner
put_is kind load front inner out next all first turn body front_is body_is first_is turn_is next_is all_is =
    let head = Set load.variable load.coordinate in
    let end = Set load.variable last_word ∷ [] in
    let turns : turn ≡ head ∷ inner = turn_is ∙ ap (λ xs. xs ++ body) first_is ∙ ap (λ xs. head ∷ xs) body_is in
    all_is ∙ ap (λ xs. xs ++ end) (next_is ∙ ap (λ xs. xs ++ While kind load.test turn ∷ []) front_is
    ∙ ap (λ b. front ++ While kind load.test b ∷ []) turns)
    ∙ append_assoc front (While kind load.test (head ∷ inner) ∷ []) end
