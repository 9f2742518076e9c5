-- Where no sum is bad, and each is read, none of their variables is bound and free; and the other way.
use Rattle.std.specs.Prelude.{◌≡◌, ◌≢◌, ◌⊎◌, ℕ, zero, suc, ◌+◌, ◌<◌, ◌≤◌, Bool, true, false, nat_eq, ◌&&◌, ◌||◌, if◌then◌else◌}
use Rattle.std.specs.Prelude.{List, [], ◌∷◌, ◌++◌, length, None, Some, slice_get, refl}
use Rattle.std.proofs.Common.{◌∙◌, sym, ap, subst, arith, inl, inr}
use Rattle.std.proofs.lemmas.Bool.{eqb-true, eq-eqb}
use Rattle.lists.specs.Each.{Each}
use Rattle.lists.proofs.Each.{each_from, each_get}
use Rattle.index_notation.specs.Statement.{AccessesUnder, AccessesUnder_in, IsNumberedWithSums}
use Rattle.index_notation.specs.declared.syntax.Access.{Access}
use Rattle.index_notation.specs.declared.syntax.Expr.{Expr, Num, Access as AccessOf, Binary', Neg', Row_of-Expr, end_of-Expr, more_of-Expr}
use Rattle.index_notation.specs.declared.syntax.NestedSum.{NestedSum}
use Rattle.index_notation.specs.declared.syntax.Statement.{Statement}
use Rattle.expr_terms.specs.Nested.{flat}
use Rattle.expr_terms.specs.Terms.{contains, stands_in, stands_inside}
use Rattle.nested_sums.specs.Bad.{AreFine, AreRead, IsFirstBad, ReadsItsSums, first_where, is_bad, reads_leaf, reads_leaf_in, some_reads}
use Rattle.nested_sums.specs.Bad.{stands_twice, sum_variables}
use Rattle.nested_sums.specs.Bound.{AreApart, HasNoBadSum, IsClear, IsClearSum, IsClear_in, bound_in, bound_inside, bounds}
use Rattle.nested_sums.proofs.AddedPieces.{contains_append, each_of, either}
use Rattle.nested_sums.proofs.BoundVariables.{bound_by_sum, inside_under}
use Rattle.nested_sums.proofs.FreeVariables.{free_outside}
use Rattle.nested_sums.proofs.Mentions.{bound_at_access, twice_append, twice_contains}

both_false : (b c : Bool) → (b || c) ≡ false → (b ≡ false) × (c ≡ false)
both_false true c h = cc
both_false false c h = (refl, h)

other_false : (b c : Bool) → (b && c) ≡ false → b ≡ true → c ≡ false
other_false true c h is = h
other_false false c h is = cc

not_both : {A : Type 0} (b : Bool) → b ≡ true → b ≡ false → A
not_both b is isnt = let wrong : true ≡ false = sym is ∙ isnt in absurd cc

first_true : (b c : Bool) → b ≡ true → (b || c) ≡ true
first_true b c h = ap (λ x. x || c) h

second_true : (b c : Bool) → c ≡ true → (b || c) ≡ true
second_true true c h = refl
second_true false c h = h

false_unless : (b : Bool) → (b ≡ true → ⊥) → b ≡ false
false_unless true h = absurd (h refl)
false_unless false h = refl

each_contained : (P : ℕ → Type 0) (vs : List ℕ) → ((v : ℕ) → contains vs v ≡ true → P v) → Each P vs
each_contained P [] h = tt
each_contained P (v ∷ vs) h = (
  h v (first_true (nat_eq v v) (contains vs v) (eq-eqb v v refl)),
  each_contained P vs (λ w there. h w (second_true (nat_eq v w) (contains vs w) there)),
)

-- no number stands twice
abbrev StandOnce : List ℕ → Type 0
StandOnce vs = (v : ℕ) → stands_twice vs v ≡ false

once_append : (vs ws : List ℕ) → StandOnce vs → StandOnce ws → ((v : ℕ) → contains vs v ≡ true → contains ws v ≡ false)
    → StandOnce (vs ++ ws)
once_append vs ws first second apart v =
    twice_append vs ws v ∙ ap (λ b. b || (stands_twice ws v || (contains vs v && contains ws v))) (first v)
    ∙ ap (λ b. b || (contains vs v && contains ws v)) (second v) ∙ none (contains vs v) (apart v)
  where
    none : (b : Bool) → (b ≡ true → contains ws v ≡ false) → (b && contains ws v) ≡ false
    none true h = h refl
    none false h = refl

once_first : (vs ws : List ℕ) → StandOnce (vs ++ ws) → StandOnce vs
once_first vs ws once v =
    (both_false (stands_twice vs v) (stands_twice ws v || (contains vs v && contains ws v)) (sym (twice_append vs ws v) ∙ once v)).0

once_rest : (vs ws : List ℕ) → StandOnce (vs ++ ws) → (v : ℕ) → (stands_twice ws v || (contains vs v && contains ws v)) ≡ false
once_rest vs ws once v =
    (both_false (stands_twice vs v) (stands_twice ws v || (contains vs v && contains ws v)) (sym (twice_append vs ws v) ∙ once v)).1

once_second : (vs ws : List ℕ) → StandOnce (vs ++ ws) → StandOnce ws
once_second vs ws once v = (both_false (stands_twice ws v) (contains vs v && contains ws v) (once_rest vs ws once v)).0

once_apart : (vs ws : List ℕ) → StandOnce (vs ++ ws) → (v : ℕ) → contains vs v ≡ true → contains ws v ≡ false
once_apart vs ws once v there =
    other_false (contains vs v) (contains ws v)
    (both_false (stands_twice ws v) (contains vs v && contains ws v) (once_rest vs ws once v)).1 there

once_more : (n : ℕ) (vs : List ℕ) → contains vs n ≡ false → StandOnce vs → StandOnce (n ∷ vs)
once_more n vs none once v = by (nat_eq n v) refl
  where
    by : (b : Bool) → nat_eq n v ≡ b → (if b then contains vs v else stands_twice vs v) ≡ false
    by true e = ap (contains vs) (sym (eqb-true n v e)) ∙ none
    by false e = once v

once_head : (n : ℕ) (vs : List ℕ) → StandOnce (n ∷ vs) → contains vs n ≡ false
once_head n vs once = sym (ap (λ b. if b then contains vs n else stands_twice vs n) (eq-eqb n n refl)) ∙ once n

once_tail : (n : ℕ) (vs : List ℕ) → StandOnce (n ∷ vs) → StandOnce vs
once_tail n vs once v = false_unless (stands_twice vs v) (λ twice. by (nat_eq n v) refl twice)
  where
    by : (b : Bool) → nat_eq n v ≡ b → stands_twice vs v ≡ true → ⊥
    by true e twice = not_both (contains vs v) (twice_contains vs v twice)
        (sym (ap (λ b. if b then contains vs v else stands_twice vs v) e) ∙ once v)
    by false e twice = not_both (stands_twice vs v) twice
        (sym (ap (λ b. if b then contains vs v else stands_twice vs v) e) ∙ once v)

module _ (accesses : List Access) (told : List (List ℕ)) where
  -- no variable that is bound in an expression is free there, or bound by two sums
  record IsSound (e : Expr) : Type 0 where
    apart : (v : ℕ) → contains (bound_in told e) v ≡ true → stands_in accesses v e ≡ false
    once : StandOnce (bound_in told e)

  record IsSound_in {m : _} (e : Row_of-Expr m) : Type 0 where
    apart : (v : ℕ) → contains (bound_inside told e) v ≡ true → stands_inside accesses v e ≡ false
    once : StandOnce (bound_inside told e)

  module _ {m : _} {n : _} (e : Row_of-Expr m) (f : Row_of-Expr n)
      (apart : (v : ℕ) → contains (bound_inside told e ++ bound_inside told f) v ≡ true
      → (stands_inside accesses v e || stands_inside accesses v f) ≡ false)
      (once : StandOnce (bound_inside told e ++ bound_inside told f)) where
    abbrev es : List ℕ
    es = bound_inside told e

    abbrev fs : List ℕ
    fs = bound_inside told f

    neither : (v : ℕ) → (contains es v || contains fs v) ≡ true
        → (stands_inside accesses v e ≡ false) × (stands_inside accesses v f ≡ false)
    neither v there =
        both_false (stands_inside accesses v e) (stands_inside accesses v f) (apart v (contains_append es fs v ∙ there))

    sound_first : IsSound_in e
    sound_first = record {
      apart = λ v there. (neither v (first_true (contains es v) (contains fs v) there)).0;
      once = once_first es fs once;
    }

    sound_second : IsSound_in f
    sound_second = record {
      apart = λ v there. (neither v (second_true (contains es v) (contains fs v) there)).1;
      once = once_second es fs once;
    }

    first_apart : AreApart es (λ v. stands_inside accesses v f) fs
    first_apart = each_contained (λ v. (stands_inside accesses v f ≡ false) × (contains fs v ≡ false)) es (λ v there. (
      (neither v (first_true (contains es v) (contains fs v) there)).1,
      once_apart es fs once v there,
    ))

    second_apart : AreApart fs (λ v. stands_inside accesses v e) es
    second_apart = each_contained (λ v. (stands_inside accesses v e ≡ false) × (contains es v ≡ false)) fs (λ v there. (
      (neither v (second_true (contains es v) (contains fs v) there)).0,
      false_unless (contains es v) (λ here. not_both (contains fs v) there (once_apart es fs once v here)),
    ))

  mutual
    clear_of : (e : Expr) → IsSound e → IsClear accesses told e
    clear_of (Num n) h = tt
    clear_of (AccessOf k) h = tt
    clear_of (Binary' o p e q f) h = (
      first_apart e f h.apart h.once,
      second_apart e f h.apart h.once,
      clear_in e (sound_first e f h.apart h.once),
      clear_in f (sound_second e f h.apart h.once),
    )
    clear_of (Neg' p e) h = clear_in e (record { apart = h.apart; once = h.once })

    clear_in : {m : _} (e : Row_of-Expr m) → IsSound_in e → IsClear_in accesses told e
    clear_in end_of-Expr h = tt
    clear_in (more_of-Expr e rest) h = clear_of e (record { apart = h.apart; once = h.once })

  mutual
    -- what an expression reads is as sound as it is
    leaf_sound : (k : ℕ) (e : Expr) → IsSound e → reads_leaf k e ≡ true → IsSound (AccessOf k)
    leaf_sound k (Num n) h reads = cc
    leaf_sound k (AccessOf j) h reads = subst (λ l. IsSound (AccessOf l)) (eqb-true j k reads) h
    leaf_sound k (Binary' o p e q f) h reads = elim (either (reads_leaf_in k e) (reads_leaf_in k f) reads) [
      | inl first ↦ leaf_sound_in k e (sound_first e f h.apart h.once) first
      | inr second ↦ leaf_sound_in k f (sound_second e f h.apart h.once) second
    ]
    leaf_sound k (Neg' p e) h reads = leaf_sound_in k e (record { apart = h.apart; once = h.once }) reads

    leaf_sound_in : {m : _} (k : ℕ) (e : Row_of-Expr m) → IsSound_in e → reads_leaf_in k e ≡ true → IsSound (AccessOf k)
    leaf_sound_in k end_of-Expr h reads = cc
    leaf_sound_in k (more_of-Expr e rest) h reads = leaf_sound k e (record { apart = h.apart; once = h.once }) reads

  module _ (n : ℕ) (leaves : (k : ℕ) → k < n → StandOnce (bound_in told (AccessOf k))) where
    mutual
      -- where sides bind nothing that the other binds no variable is bound twice
      once_of : (e : Expr) → AccessesUnder n e → IsClear accesses told e → StandOnce (bound_in told e)
      once_of (Num k) under h = λ v. refl
      once_of (AccessOf k) under h = leaves k under
      once_of (Binary' o p e q f) under h =
          once_append (bound_inside told e) (bound_inside told f) (once_in e under.0 h.2) (once_in f under.1 h.3)
          (λ v there. (each_of (λ w. (stands_inside accesses w f ≡ false) × (contains (bound_inside told f) w ≡ false))
          (bound_inside told e) h.0 v there).1)
      once_of (Neg' p e) under h = once_in e under h

      once_in : {m : _} (e : Row_of-Expr m) → AccessesUnder_in n e → IsClear_in accesses told e → StandOnce (bound_inside told e)
      once_in end_of-Expr under h = λ v. refl
      once_in (more_of-Expr e rest) under h = once_of e under h

-- a sum that reads what stands at a number
record Reader (k : ℕ) (sums : List NestedSum) : Type 0 where
  place : ℕ
  sum : NestedSum
  at : slice_get sums place ≡ Some sum
  reads : reads_leaf k sum.inside ≡ true

reader_of : (k : ℕ) (sums : List NestedSum) → some_reads k sums ≡ true → Reader k sums
reader_of k [] h = cc
reader_of k (sum ∷ sums) h = elim (either (reads_leaf k sum.inside) (some_reads k sums) h) [
  | inl here ↦ record { place = 0; sum = sum; at = refl; reads = here }
  | inr later ↦ (let r = reader_of k sums later in record { place = suc r.place; sum = r.sum; at = r.at; reads = r.reads })
]

-- what stands at a number
access_or_sum : (accesses : List Access) (sums : List NestedSum) (n : ℕ) → n < length accesses + length sums
    → ((access : Access) × (slice_get accesses n ≡ Some access))
    ⊎ ((i : ℕ) × (sum : NestedSum) × (n ≡ length accesses + i) × (slice_get sums i ≡ Some sum))
access_or_sum [] sums n below = let g = got sums n (omega (arith, below)) in inr (n, g.0, omega arith, g.1)
  where
    got : (xs : List NestedSum) (k : ℕ) → k < length xs → (x : NestedSum) × (slice_get xs k ≡ Some x)
    got [] k h = absurd (omega (arith, h))
    got (x ∷ xs) zero h = (x, refl)
    got (x ∷ xs) (suc k) h = got xs k (omega (arith, h))
access_or_sum (access ∷ accesses) sums zero below = inl (access, refl)
access_or_sum (access ∷ accesses) sums (suc n) below = elim (access_or_sum accesses sums n (omega (arith, below))) [
  | inl a ↦ inl a
  | inr b ↦ inr (b.0, b.1, (let number = b.2 in omega (arith, number)), b.3)
]

module _ (s : Statement) (numbered : IsNumberedWithSums s) where
  abbrev accesses : List Access
  accesses = (flat s).accesses

  abbrev told : List (List ℕ)
  told = bounds s

  module _ (i : ℕ) (sum : NestedSum) (at : slice_get s.sums i ≡ Some sum)
      (h : IsSound accesses told (AccessOf (length s.accesses + i))) where
    once_there : StandOnce (sum.var ∷ bound_in told sum.inside)
    once_there = subst StandOnce (bound_by_sum s numbered i sum at) h.once

    own_once : contains (bound_in told sum.inside) sum.var ≡ false
    own_once = once_head sum.var (bound_in told sum.inside) once_there

    inside_sound : IsSound accesses told sum.inside
    inside_sound = record {
      apart = λ v there. false_unless (stands_in accesses v sum.inside) (λ stands.
          let other : v ≢ sum.var =
          (λ same. not_both (contains (bound_in told sum.inside) v) there (ap (contains (bound_in told sum.inside)) same ∙ own_once)) in
          not_both (stands_in accesses v (AccessOf (length s.accesses + i))) (free_outside s numbered i sum at v stands other)
          (h.apart v (ap (λ vs. contains vs v) (bound_by_sum s numbered i sum at)
          ∙ second_true (nat_eq sum.var v) (contains (bound_in told sum.inside) v) there)));
      once = once_tail sum.var (bound_in told sum.inside) once_there;
    }

  -- from the last sum to the first
  all_sound : (first : ℕ) (sums : List NestedSum)
      → ((j : ℕ) (sum : NestedSum) → slice_get sums j ≡ Some sum → slice_get s.sums (first + j) ≡ Some sum)
      → IsSound accesses told s.expr → AreRead (length s.accesses + first) sums s.expr
      → (j : ℕ) (sum : NestedSum) → slice_get sums j ≡ Some sum → IsSound accesses told (AccessOf (length s.accesses + (first + j)))
  all_sound first [] whole h are j sum at = cc
  all_sound first (one ∷ sums) whole h are j sum at = by (all_sound (first + 1) sums next h rest) j at
    where
      next : (j : ℕ) (sum : NestedSum) → slice_get sums j ≡ Some sum → slice_get s.sums (first + 1 + j) ≡ Some sum
      next j sum at = let same : first + 1 + j ≡ first + suc j = omega arith in ap (slice_get s.sums) same ∙ whole (suc j) sum at

      rest : AreRead (length s.accesses + (first + 1)) sums s.expr
      rest =
          let more : length s.accesses + first + 1 ≡ length s.accesses + (first + 1) = omega arith in
          subst (λ k. AreRead k sums s.expr) more are.1

      here : ((j : ℕ) (sum : NestedSum) → slice_get sums j ≡ Some sum
          → IsSound accesses told (AccessOf (length s.accesses + (first + 1 + j))))
          → IsSound accesses told (AccessOf (length s.accesses + first))
      here later = elim (either (reads_leaf (length s.accesses + first) s.expr) (some_reads (length s.accesses + first) sums) are.0) [
        | inl whole_reads ↦ leaf_sound accesses told (length s.accesses + first) s.expr h whole_reads
        | inr sum_reads ↦
            (let r = reader_of (length s.accesses + first) sums sum_reads in
            leaf_sound accesses told (length s.accesses + first) r.sum.inside
            (inside_sound (first + 1 + r.place) r.sum (next r.place r.sum r.at) (later r.place r.sum r.at)) r.reads)
      ]

      by : ((j : ℕ) (sum : NestedSum) → slice_get sums j ≡ Some sum
          → IsSound accesses told (AccessOf (length s.accesses + (first + 1 + j))))
          → (j : ℕ) → slice_get (one ∷ sums) j ≡ Some sum → IsSound accesses told (AccessOf (length s.accesses + (first + j)))
      by later zero at =
          let same : length s.accesses + first ≡ length s.accesses + (first + 0) = omega arith in
          subst (λ k. IsSound accesses told (AccessOf k)) same (here later)
      by later (suc j) at =
          let same : length s.accesses + (first + 1 + j) ≡ length s.accesses + (first + suc j) = omega arith in
          subst (λ k. IsSound accesses told (AccessOf k)) same (later j sum at)

  not_left : (v : ℕ) → is_bad s v ≡ false → contains s.left.vars v ≡ false
  not_left v fine =
      (both_false (contains s.left.vars v) (stands_in accesses v s.expr || stands_twice (sum_variables s) v) fine).0

  not_free : (v : ℕ) → is_bad s v ≡ false → (stands_in accesses v s.expr ≡ false) × (stands_twice (sum_variables s) v ≡ false)
  not_free v fine =
      both_false (stands_in accesses v s.expr) (stands_twice (sum_variables s) v)
      (both_false (contains s.left.vars v) (stands_in accesses v s.expr || stands_twice (sum_variables s) v) fine).1

  module _ (fine : AreFine s) where
    fine_at : (v : ℕ) → contains (sum_variables s) v ≡ true → is_bad s v ≡ false
    fine_at = each_of (λ w. is_bad s w ≡ false) (sum_variables s) fine

    whole_sound : IsSound accesses told s.expr
    whole_sound = record {
      apart = λ v there. (not_free v (fine_at v there)).0;
      once = λ v. false_unless (stands_twice (sum_variables s) v)
          (λ twice. not_both (stands_twice (sum_variables s) v) twice
          (not_free v (fine_at v (twice_contains (sum_variables s) v twice))).1);
    }

    pub fine_is_clear : ReadsItsSums s → HasNoBadSum s
    fine_is_clear read = record {
      left = each_contained (λ v. contains s.left.vars v ≡ false) (sum_variables s) (λ v there. not_left v (fine_at v there));
      free = each_contained (λ v. stands_in accesses v s.expr ≡ false) (sum_variables s)
          (λ v there. (not_free v (fine_at v there)).0);
      sides = clear_of accesses told s.expr whole_sound;
      inside = each_from (IsClearSum accesses told) s.sums (λ j sum at.
          let sound : IsSound accesses told (AccessOf (length s.accesses + j)) =
          (let none : length s.accesses + (0 + j) ≡ length s.accesses + j = omega arith in
          let start : length s.accesses ≡ length s.accesses + 0 = omega arith in
          subst (λ k. IsSound accesses told (AccessOf k)) none
          (all_sound 0 s.sums (λ i one here. (let same : i ≡ 0 + i = omega arith in subst (λ k. slice_get s.sums k ≡ Some one) same here))
          whole_sound (subst (λ k. AreRead k s.sums s.expr) start read) j sum at)) in
          record {
            sides = clear_of accesses told sum.inside (inside_sound j sum at sound);
            own = own_once j sum at sound;
          });
    }

  module _ (clear : HasNoBadSum s) where
    -- no leaf binds a variable twice
    leaves_once : (n : ℕ) → n ≤ length s.accesses + length s.sums → (k : ℕ) → k < n → StandOnce (bound_in told (AccessOf k))
    leaves_once zero most k below = absurd (omega (arith, below))
    leaves_once (suc n) most k below = by (leaves_once n (omega (arith, most))) (less_or_same k n below)
      where
        less_or_same : (k n : ℕ) → k < suc n → (k < n) ⊎ (k ≡ n)
        less_or_same k n below = grind (arith, below)

        of_sum : ((j : ℕ) → j < n → StandOnce (bound_in told (AccessOf j))) → (i : ℕ) → n ≡ length s.accesses + i → (sum : NestedSum)
            → slice_get s.sums i ≡ Some sum → StandOnce (bound_in told (AccessOf n))
        of_sum before i number sum at =
            let under : AccessesUnder n sum.inside =
            subst (λ k. AccessesUnder k sum.inside) (sym number)
            (inside_under (length s.vars) (length s.accesses) s.sums i sum numbered.sums at) in
            let each = each_get (IsClearSum accesses told) s.sums i sum clear.inside at in
            subst StandOnce (sym (ap (λ k. bound_in told (AccessOf k)) number ∙ bound_by_sum s numbered i sum at))
            (once_more sum.var (bound_in told sum.inside) each.own
            (once_of accesses told n before sum.inside under each.sides))

        here : ((j : ℕ) → j < n → StandOnce (bound_in told (AccessOf j)))
            → ((access : Access) × (slice_get s.accesses n ≡ Some access))
            ⊎ ((i : ℕ) × (sum : NestedSum) × (n ≡ length s.accesses + i) × (slice_get s.sums i ≡ Some sum))
            → StandOnce (bound_in told (AccessOf n))
        here before (inl a) = subst StandOnce (sym (bound_at_access s n a.0 a.1)) (λ v. refl)
        here before (inr b) = of_sum before b.0 b.2 b.1 b.3

        by : ((j : ℕ) → j < n → StandOnce (bound_in told (AccessOf j))) → (k < n) ⊎ (k ≡ n) → StandOnce (bound_in told (AccessOf k))
        by before (inl less) = before k less
        by before (inr same) =
            subst (λ j. StandOnce (bound_in told (AccessOf j))) (sym same)
            (here before (access_or_sum s.accesses s.sums n (omega (arith, most))))

    pub clear_is_fine : AreFine s
    clear_is_fine = each_contained (λ v. is_bad s v ≡ false) (sum_variables s) (λ v there.
        ap (λ b. b || (stands_in accesses v s.expr || stands_twice (sum_variables s) v))
        (each_of (λ w. contains s.left.vars w ≡ false) (sum_variables s) clear.left v there)
        ∙ ap (λ b. b || stands_twice (sum_variables s) v)
        (each_of (λ w. stands_in accesses w s.expr ≡ false) (sum_variables s) clear.free v there)
        ∙ once_of accesses told (length s.accesses + length s.sums)
        (leaves_once (length s.accesses + length s.sums) (omega arith)) s.expr numbered.expr clear.sides v)

-- what the first that passes a test tells
pub none_passes : (test : ℕ → Bool) (vs : List ℕ) → first_where test vs ≡ None → Each (λ v. test v ≡ false) vs
none_passes test [] h = tt
none_passes test (v ∷ vs) h = by (test v) refl h (none_passes test vs)
  where
    by : (b : Bool) → test v ≡ b → first_where test (v ∷ vs) ≡ None → (first_where test vs ≡ None → Each (λ w. test w ≡ false) vs)
        → Each (λ w. test w ≡ false) (v ∷ vs)
    by true e none rest = let some : Some v ≡ None = sym (ap (λ b. if b then Some v else first_where test vs) e) ∙ none in absurd cc
    by false e none rest = (e, rest (sym (ap (λ b. if b then Some v else first_where test vs) e) ∙ none))

record FirstIn (test : ℕ → Bool) (vs : List ℕ) (x : ℕ) : Type 0 where
  front : List ℕ
  behind : List ℕ
  all : vs ≡ front ++ (x ∷ behind)
  none_before : Each (λ v. test v ≡ false) front
  is : test x ≡ true

first_in : (test : ℕ → Bool) (vs : List ℕ) (x : ℕ) → first_where test vs ≡ Some x → FirstIn test vs x
first_in test [] x h = cc
first_in test (v ∷ vs) x h = by (test v) refl h (first_in test vs x)
  where
    by : (b : Bool) → test v ≡ b → first_where test (v ∷ vs) ≡ Some x → (first_where test vs ≡ Some x → FirstIn test vs x)
        → FirstIn test (v ∷ vs) x
    by true e some rest =
        let found : Some v ≡ Some x = sym (ap (λ b. if b then Some v else first_where test vs) e) ∙ some in
        let same : v ≡ x = cc in
        record { front = []; behind = vs; all = ap (λ y. y ∷ vs) same; none_before = tt; is = ap test (sym same) ∙ e }
    by false e some rest =
        let r = rest (sym (ap (λ b. if b then Some v else first_where test vs) e) ∙ some) in
        record { front = v ∷ r.front; behind = r.behind; all = ap (λ ys. v ∷ ys) r.all; none_before = (e, r.none_before); is = r.is }

pub first_is_bad : (s : Statement) (x : ℕ) → first_where (is_bad s) (sum_variables s) ≡ Some x → IsFirstBad s x
first_is_bad s x h =
    let f = first_in (is_bad s) (sum_variables s) x h in
    record { front = f.front; behind = f.behind; all = f.all; none_before = f.none_before; is = f.is }

-- where some sum is bad the statement isn't clear
pub bad_is_unclear : (s : Statement) → IsNumberedWithSums s → (x : ℕ) → IsFirstBad s x → HasNoBadSum s → ⊥
bad_is_unclear s numbered x bad clear =
    not_both (is_bad s x) bad.is (each_of (λ v. is_bad s v ≡ false) (sum_variables s) (clear_is_fine s numbered clear) x
    (ap (λ vs. contains vs x) bad.all ∙ contains_append bad.front (x ∷ bad.behind) x
    ∙ second_true (contains bad.front x) (nat_eq x x || contains bad.behind x)
    (first_true (nat_eq x x) (contains bad.behind x) (eq-eqb x x refl))))
