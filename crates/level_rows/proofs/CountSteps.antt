-- What the code does that finds the greatest number of positions below one parent.
use Rattle.std.specs.Prelude.{◌≡◌, ℕ, zero, suc, ◌+◌, ◌≤◌, ◌<◌, ◌^◌, ◌==◌, not, max, nat_lt, Bool, true, false, if◌then◌else◌, List, []}
use Rattle.std.specs.Prelude.{◌∷◌, length, slice_get, Option, Some, refl}
use Rattle.std.proofs.Common.{◌∙◌, sym, ap, subst, arith}
use Rattle.std.proofs.lemmas.Bool.Decides.{nat_tests}
use Rattle.std.proofs.lemmas.Option.{slice_get-get_or, same_Some}
use Rattle.kernel_code.specs.Meaning.{Setting, State, value, word_of, set_var, one_turn, same_kind, length_of}
use Rattle.kernel_code.specs.Does.{Does, Never, Goes}
use Rattle.kernel_code.proofs.Does.{does_nothing, does_set, does_if_yes, does_if_no, does_while}
use Rattle.kernel_code.specs.Keeps.{Leaves, NoVariable, EveryArray}
use Rattle.kernel_code.proofs.Keeps.{this_var, other_var, leaves_set}
use Rattle.kernel_code.specs.declared.syntax.Arr.TheVariants.{Sums, ListPositions}
use Rattle.kernel_code.specs.declared.syntax.LoopKind.TheVariants.{Drain}
use Rattle.kernel_code.specs.declared.syntax.Op.TheVariants.{Add, Less, NotEqual}
use Rattle.kernel_code.specs.declared.syntax.KExpr.{KExpr, Num, Var, At, Len, Bin}
use Rattle.kernel_code.specs.declared.syntax.KStmt.{KStmt, If}
use Rattle.kernel_code.proofs.Words.{word_is, sum_is, less_yes, less_no, less_is, binary_is}
use Rattle.level_core.specs.Fragments.{turns_of}
use Rattle.level_rows.specs.Rows.{Rows}
use Rattle.level_rows.specs.Counting.{other_parent_code, one_more_code, greater_code, count_row_code, greatest_code, MayCount}
use Rattle.level_rows.specs.Counting.{LeavesGreatest, FindsGreatest}
use Rattle.level_rows.proofs.Tallies.{Tallying, none_tallied, tallied_more, tallied_all}

-- the variables while rows are counted, after so many turns
pub record Counted (base : ℕ) (s0 : State) (turns done here most last : ℕ) (s : State) : Type 0 where
  pub at : s.vars base ≡ Some done
  pub here_is : s.vars (base + 1) ≡ Some here
  pub most_is : s.vars (base + 2) ≡ Some most
  pub parent : s.vars (base + 3) ≡ Some last
  pub leaves : Leaves NoVariable EveryArray base (turns_of Drain turns) s0 s

-- a state before a turn, with so many rows left
pub record Countings (base : ℕ) (rows : Rows) (s0 : State) (left : ℕ) (s : State) : Type 0 where
  pub done : ℕ
  pub here : ℕ
  pub most : ℕ
  pub last : ℕ
  pub rest : done + left ≡ rows.count
  pub tally : Tallying rows done last here most
  pub counted : Counted base s0 done done here most last s

turn_more : (b : Bool) (n x y : ℕ) → y ≤ x + (if b then n else 0) → (if b then y + 1 else y) ≤ x + (if b then n + 1 else 0)
turn_more true n x y h = omega (arith, h)
turn_more false n x y h = omega (arith, h)

one_counted : (base : ℕ) (s0 : State) (turns done here most last : ℕ) (s : State) → Counted base s0 turns done here most last s
    → Counted base s0 (turns + 1) done here most last (one_turn s Drain)
one_counted base s0 turns done here most last s d = record {
  at = d.at;
  here_is = d.here_is;
  most_is = d.most_is;
  parent = d.parent;
  leaves = record {
    below = d.leaves.below;
    arrays = d.leaves.arrays;
    turns = λ k. turn_more (same_kind Drain k) turns (s0.turns k) (s.turns k) (d.leaves.turns k);
  };
}

set_temp : (base : ℕ) (s0 : State) (turns done here most last : ℕ) (s : State) (x v : ℕ) → base + 4 ≤ x
    → Counted base s0 turns done here most last s → Counted base s0 turns done here most last (set_var s x v)
set_temp base s0 turns done here most last s x v h d = record {
  at = other_var s x base v (λ e. omega (arith, h, e)) ∙ d.at;
  here_is = other_var s x (base + 1) v (λ e. omega (arith, h, e)) ∙ d.here_is;
  most_is = other_var s x (base + 2) v (λ e. omega (arith, h, e)) ∙ d.most_is;
  parent = other_var s x (base + 3) v (λ e. omega (arith, h, e)) ∙ d.parent;
  leaves = leaves_set NoVariable EveryArray base (turns_of Drain turns) s0 s x v (λ y l e. omega (arith, h, l, e)) d.leaves;
}

set_here : (base : ℕ) (s0 : State) (turns done here most last : ℕ) (s : State) (v : ℕ) → Counted base s0 turns done here most last s
    → Counted base s0 turns done v most last (set_var s (base + 1) v)
set_here base s0 turns done here most last s v d = record {
  at = other_var s (base + 1) base v (λ e. omega (arith, e)) ∙ d.at;
  here_is = this_var s (base + 1) v;
  most_is = other_var s (base + 1) (base + 2) v (λ e. omega (arith, e)) ∙ d.most_is;
  parent = other_var s (base + 1) (base + 3) v (λ e. omega (arith, e)) ∙ d.parent;
  leaves = leaves_set NoVariable EveryArray base (turns_of Drain turns) s0 s (base + 1) v (λ y l e. omega (arith, l, e)) d.leaves;
}

set_most : (base : ℕ) (s0 : State) (turns done here most last : ℕ) (s : State) (v : ℕ) → Counted base s0 turns done here most last s
    → Counted base s0 turns done here v last (set_var s (base + 2) v)
set_most base s0 turns done here most last s v d = record {
  at = other_var s (base + 2) base v (λ e. omega (arith, e)) ∙ d.at;
  here_is = other_var s (base + 2) (base + 1) v (λ e. omega (arith, e)) ∙ d.here_is;
  most_is = this_var s (base + 2) v;
  parent = other_var s (base + 2) (base + 3) v (λ e. omega (arith, e)) ∙ d.parent;
  leaves = leaves_set NoVariable EveryArray base (turns_of Drain turns) s0 s (base + 2) v (λ y l e. omega (arith, l, e)) d.leaves;
}

set_last : (base : ℕ) (s0 : State) (turns done here most last : ℕ) (s : State) (v : ℕ) → Counted base s0 turns done here most last s
    → Counted base s0 turns done here most v (set_var s (base + 3) v)
set_last base s0 turns done here most last s v d = record {
  at = other_var s (base + 3) base v (λ e. omega (arith, e)) ∙ d.at;
  here_is = other_var s (base + 3) (base + 1) v (λ e. omega (arith, e)) ∙ d.here_is;
  most_is = other_var s (base + 3) (base + 2) v (λ e. omega (arith, e)) ∙ d.most_is;
  parent = this_var s (base + 3) v;
  leaves = leaves_set NoVariable EveryArray base (turns_of Drain turns) s0 s (base + 3) v (λ y l e. omega (arith, l, e)) d.leaves;
}

-- the two temporaries of a row
record Temps (base parent first : ℕ) (s : State) : Type 0 where
  pub parent_is : s.vars (base + 4) ≡ Some parent
  pub first_is : s.vars (base + 5) ≡ Some first

temps_kept : (base parent first : ℕ) (s : State) (x v : ℕ) → x < base + 4 → Temps base parent first s
    → Temps base parent first (set_var s x v)
temps_kept base parent first s x v h t =
    record {
      parent_is = other_var s x (base + 4) v (λ e. omega (arith, h, e)) ∙ t.parent_is;
      first_is = other_var s x (base + 5) v (λ e. omega (arith, h, e)) ∙ t.first_is;
    }

-- what a row's code is at, before its last statements
record Mid (base : ℕ) (s0 : State) (turns done here most last parent first : ℕ) (s : State) : Type 0 where
  pub counted : Counted base s0 turns done here most last s
  pub temps : Temps base parent first s

module _ (c : Setting) (base w g level : ℕ) (test : KExpr) (rows : Rows) (s0 : State) (given : MayCount base w g level test rows s0) where
  -- the number below another parent starts at zero
  does_other : (done here most last parent first : ℕ) (rest : List KStmt) (s : State) (Q : State → Type 0)
      → Mid base s0 (done + 1) done here most last parent first s
      → ((t : State) → Mid base s0 (done + 1) done (if last == parent then here else 0) most last parent first t → Does c rest t Q Never)
      → Does c (If (Bin NotEqual (Var (base + 3)) (Var (base + 4))) (other_parent_code base) [] ∷ rest) s Q Never
  does_other done here most last parent first rest s Q m next = by_test (last == parent) refl
    where
      tested : value (Bin NotEqual (Var (base + 3)) (Var (base + 4))) s ≡ Some (word_of (not (last == parent)))
      tested = binary_is NotEqual (Var (base + 3)) (Var (base + 4)) last parent s m.counted.parent m.temps.parent_is

      by_test : (b : Bool) → (last == parent) ≡ b → Does c
          (If (Bin NotEqual (Var (base + 3)) (Var (base + 4))) (other_parent_code base) [] ∷ rest) s Q Never
      by_test true is =
          does_if_no c (Bin NotEqual (Var (base + 3)) (Var (base + 4))) (other_parent_code base) [] rest s
          (Mid base s0 (done + 1) done (if last == parent then here else 0) most last parent first) Q _
          (tested ∙ ap (λ b. Some (word_of (not b))) is)
          (does_nothing c s _ _ (subst (λ b. Mid base s0 (done + 1) done (if b then here else 0) most last parent first s) (sym is) m)) next
      by_test false is =
          does_if_yes c (Bin NotEqual (Var (base + 3)) (Var (base + 4))) (other_parent_code base) [] rest s 0
          (Mid base s0 (done + 1) done (if last == parent then here else 0) most last parent first) Q _
          (tested ∙ ap (λ b. Some (word_of (not b))) is)
          (does_set c (base + 1) (Num 0) [] s 0 _ _ refl
          (does_nothing c (set_var s (base + 1) 0) _ _
          (subst (λ b. Mid base s0 (done + 1) done (if b then here else 0) most last parent first (set_var s (base + 1) 0)) (sym is)
          (record {
            counted = set_here base s0 (done + 1) done here most last s 0 m.counted;
            temps = temps_kept base parent first s (base + 1) 0 (omega arith) m.temps;
          })))) next

  -- a row that begins a position counts
  does_count : (done here most last parent : ℕ) (first : Bool) (rest : List KStmt) (s : State) (Q : State → Type 0) → here + 1 < 2 ^ 64
      → Mid base s0 (done + 1) done here most last parent (word_of first) s
      → ((t : State) → Mid base s0 (done + 1) done (here + (if first then 1 else 0)) most last parent (word_of first) t
      → Does c rest t Q Never)
      → Does c (If (Var (base + 5)) (one_more_code base) [] ∷ rest) s Q Never
  does_count done here most last parent true rest s Q small m next =
      does_if_yes c (Var (base + 5)) (one_more_code base) [] rest s 0
      (Mid base s0 (done + 1) done (here + 1) most last parent (word_of true)) Q _ m.temps.first_is
      (does_set c (base + 1) (Bin Add (Var (base + 1)) (Num 1)) [] s (here + 1) _ _
      (sum_is (Var (base + 1)) (Num 1) here 1 s m.counted.here_is refl small)
      (does_nothing c (set_var s (base + 1) (here + 1)) _ _
      (record {
        counted = set_here base s0 (done + 1) done here most last s (here + 1) m.counted;
        temps = temps_kept base parent (word_of true) s (base + 1) (here + 1) (omega arith) m.temps;
      }))) next
  does_count done here most last parent false rest s Q small m next =
      let same : here ≡ here + 0 = omega arith in
      does_if_no c (Var (base + 5)) (one_more_code base) [] rest s (Mid base s0 (done + 1) done (here + 0) most last parent (word_of false))
      Q _ m.temps.first_is
      (does_nothing c s _ _ (subst (λ n. Mid base s0 (done + 1) done n most last parent (word_of false) s) same m)) next

  -- and the greatest number is kept
  does_greater : (done here most last parent first : ℕ) (rest : List KStmt) (s : State) (Q : State → Type 0)
      → Mid base s0 (done + 1) done here most last parent first s
      → ((t : State) → Mid base s0 (done + 1) done here (max most here) last parent first t → Does c rest t Q Never)
      → Does c (If (Bin Less (Var (base + 2)) (Var (base + 1))) (greater_code base) [] ∷ rest) s Q Never
  does_greater done here most last parent first rest s Q m next = by_test (nat_lt most here) refl
    where
      tested : value (Bin Less (Var (base + 2)) (Var (base + 1))) s ≡ Some (word_of (nat_lt most here))
      tested = less_is (Var (base + 2)) (Var (base + 1)) most here s m.counted.most_is m.counted.here_is

      by_test : (b : Bool) → nat_lt most here ≡ b → Does c (If (Bin Less (Var (base + 2)) (Var (base + 1))) (greater_code base) [] ∷ rest)
          s Q Never
      by_test true is =
          let less : most < here = grind (arith, nat_tests, is) in
          let same : here ≡ max most here = omega (arith, less) in
          does_if_yes c (Bin Less (Var (base + 2)) (Var (base + 1))) (greater_code base) [] rest s 0
          (Mid base s0 (done + 1) done here (max most here) last parent first) Q _ (tested ∙ ap (λ b. Some (word_of b)) is)
          (does_set c (base + 2) (Var (base + 1)) [] s here _ _ m.counted.here_is
          (does_nothing c (set_var s (base + 2) here) _ _
          (subst (λ n. Mid base s0 (done + 1) done here n last parent first (set_var s (base + 2) here)) same
          (record {
            counted = set_most base s0 (done + 1) done here most last s here m.counted;
            temps = temps_kept base parent first s (base + 2) here (omega arith) m.temps;
          })))) next
      by_test false is =
          let less : here ≤ most = grind (arith, nat_tests, is) in
          let same : most ≡ max most here = omega (arith, less) in
          does_if_no c (Bin Less (Var (base + 2)) (Var (base + 1))) (greater_code base) [] rest s
          (Mid base s0 (done + 1) done here (max most here) last parent first) Q _ (tested ∙ ap (λ b. Some (word_of b)) is)
          (does_nothing c s _ _ (subst (λ n. Mid base s0 (done + 1) done here n last parent first s) same m)) next

  -- one row
  does_one : (left : ℕ) (s : State) → Countings base rows s0 (suc left) s
      → Does c (count_row_code base g test) (one_turn s Drain) (Countings base rows s0 left) Never
  does_one left s d =
      let h : d.done < rows.count = let r = d.rest in omega (arith, r) in
      let s1 = one_turn s Drain in
      let d1 = one_counted base s0 d.done d.done d.here d.most d.last s d.counted in
      let long = given.length_is in
      let held = d1.leaves.arrays (ListPositions g) tt ∙ given.places in
      let there : slice_get given.positions d.done ≡ Some (rows.parent d.done) =
      slice_get-get_or given.positions d.done 0 (omega (arith, h, long)) ∙ ap Some (given.parents_are d.done h) in
      let s2 = set_var s1 (base + 4) (rows.parent d.done) in
      let d2 = set_temp base s0 (d.done + 1) d.done d.here d.most d.last s1 (base + 4) (rows.parent d.done) (omega arith) d1 in
      let parent = this_var s1 (base + 4) (rows.parent d.done) in
      let s3 = set_var s2 (base + 5) (word_of (rows.first d.done)) in
      let d3 = set_temp base s0 (d.done + 1) d.done d.here d.most d.last s2 (base + 5) (word_of (rows.first d.done)) (omega arith) d2 in
      let mid : Mid base s0 (d.done + 1) d.done d.here d.most d.last (rows.parent d.done) (word_of (rows.first d.done)) s3 = record {
        counted = d3;
        temps = record {
          parent_is = other_var s2 (base + 5) (base + 4) (word_of (rows.first d.done)) (λ e. omega (arith, e)) ∙ parent;
          first_is = this_var s2 (base + 5) (word_of (rows.first d.done));
        };
      } in
      does_set c (base + 4) (At (ListPositions g) (Var base)) _ s1 (rows.parent d.done) _ _
      (word_is (ListPositions g) (Var base) given.positions d.done (rows.parent d.done) s1 held d1.at there)
      (does_set c (base + 5) test _ s2 (word_of (rows.first d.done)) _ _
      (given.first s2 d.done d.last h d2.at d2.parent parent d.tally.last_is (λ a st. d2.leaves.arrays a tt))
      (does_other d.done d.here d.most d.last (rows.parent d.done) (word_of (rows.first d.done)) _ s3 _ mid
      (λ t m. does_set c (base + 3) (Var (base + 4)) _ t (rows.parent d.done) _ _ m.temps.parent_is
      (does_count d.done (below d) d.most (rows.parent d.done) (rows.parent d.done) (rows.first d.done) _
      (set_var t (base + 3) (rows.parent d.done)) _ (small d h)
      (record {
        counted = set_last base s0 (d.done + 1) d.done (below d) d.most d.last t (rows.parent d.done) m.counted;
        temps = temps_kept base (rows.parent d.done) (word_of (rows.first d.done)) t (base + 3) (rows.parent d.done) (omega arith)
            m.temps;
      })
      (λ u n. does_greater d.done (below d + (if rows.first d.done then 1 else 0)) d.most (rows.parent d.done) (rows.parent d.done)
      (word_of (rows.first d.done)) _ u _ n
      (λ v o. does_set c base (Bin Add (Var base) (Num 1)) [] v (d.done + 1) _ _
      (sum_is (Var base) (Num 1) d.done 1 v o.counted.at refl (let few = given.few in omega (arith, h, few)))
      (does_nothing c (set_var v base (d.done + 1)) _ _ (next_one d h v o.counted))))))))
    where
      below : Countings base rows s0 (suc left) s → ℕ
      below d = if d.last == rows.parent d.done then d.here else 0

      small : (d : Countings base rows s0 (suc left) s) → d.done < rows.count
          → (if d.last == rows.parent d.done then d.here else 0) + 1 < 2 ^ 64
      small d h = by_test (d.last == rows.parent d.done)
        where
          by_test : (b : Bool) → (if b then d.here else 0) + 1 < 2 ^ 64
          by_test true = let few = d.tally.few in let all = given.few in omega (arith, few, all, h)
          by_test false = omega arith

      next_one : (d : Countings base rows s0 (suc left) s) → d.done < rows.count → (v : State)
          → Counted base s0 (d.done + 1) d.done
          ((if d.last == rows.parent d.done then d.here else 0)
          + (if rows.first d.done then 1 else 0)) (max d.most
          ((if d.last == rows.parent d.done then d.here else 0) + (if rows.first d.done then 1 else 0))) (rows.parent d.done) v
          → Countings base rows s0 left (set_var v base (d.done + 1))
      next_one d h v o = record {
        done = d.done + 1;
        here = (if d.last == rows.parent d.done then d.here else 0) + (if rows.first d.done then 1 else 0);
        most = max d.most ((if d.last == rows.parent d.done then d.here else 0) + (if rows.first d.done then 1 else 0));
        last = rows.parent d.done;
        rest = let r = d.rest in omega (arith, r);
        tally = tallied_more rows d.done d.last d.here d.most _ _ given.together h d.tally refl refl;
        counted = record {
          at = this_var v base (d.done + 1);
          here_is = other_var v base (base + 1) (d.done + 1) (λ e. omega (arith, e)) ∙ o.here_is;
          most_is = other_var v base (base + 2) (d.done + 1) (λ e. omega (arith, e)) ∙ o.most_is;
          parent = other_var v base (base + 3) (d.done + 1) (λ e. omega (arith, e)) ∙ o.parent;
          leaves = leaves_set NoVariable EveryArray base (turns_of Drain (d.done + 1)) s0 v base (d.done + 1) (λ y l e. omega (arith, l, e))
              o.leaves;
        };
      }

  long_is : (s : State) → ((a : _) → EveryArray a → s.arrays a ≡ s0.arrays a) → value (Len (Sums w)) s ≡ Some (length given.values)
  long_is s k = ap length_of (k (Sums w) tt ∙ given.values_are)

  test_yes : (s : State) (left : ℕ) → Countings base rows s0 (suc left) s → value (Bin Less (Var base) (Len (Sums w))) s ≡ Some 1
  test_yes s left d = let r = d.rest in let m = given.many in
      less_yes (Var base) (Len (Sums w)) d.done (length given.values) s d.counted.at (long_is s d.counted.leaves.arrays)
      (omega (arith, r, m))

  test_no : (s : State) → Countings base rows s0 0 s → value (Bin Less (Var base) (Len (Sums w))) s ≡ Some 0
  test_no s d = let r = d.rest in let m = given.many in
      less_no (Var base) (Len (Sums w)) d.done (length given.values) s d.counted.at (long_is s d.counted.leaves.arrays)
      (omega (arith, r, m))

  ends : (n : ℕ) (s : State) → Countings base rows s0 n s → value (Bin Less (Var base) (Len (Sums w))) s ≡ Some 0
      → LeavesGreatest base rows s0 s
  ends zero s d z =
      let r = d.rest in
      let all : d.done ≡ rows.count = omega (arith, r) in
      record {
        most = d.most;
        greatest = tallied_all rows d.done d.last d.here d.most all d.tally;
        answer = d.counted.most_is;
        leaves = subst (λ n. Leaves NoVariable EveryArray base (turns_of Drain n) s0 s) all d.counted.leaves;
      }
  ends (suc n) s d z = absurd (apart (sym (test_yes s n d) ∙ z))
    where
      never : (x y : ℕ) → x ≡ y + 1 → y ≡ 0 → x ≡ 0 → ⊥
      never x y e f z = omega (arith, e, f, z)

      apart : ◌≡◌ {A = Option ℕ} (Some 1) (Some 0) → ⊥
      apart e = never 1 0 (omega arith) (omega arith) (same_Some 1 0 e)

  does_all : Does c (greatest_code base w g test) s0 (LeavesGreatest base rows s0) Never
  does_all =
      let s1 = set_var s0 base 0 in
      let s2 = set_var s1 (base + 1) 0 in
      let s3 = set_var s2 (base + 2) 0 in
      let s4 = set_var s3 (base + 3) 0 in
      does_set c base (Num 0) _ s0 0 _ _ refl
      (does_set c (base + 1) (Num 0) _ s1 0 _ _ refl
      (does_set c (base + 2) (Num 0) _ s2 0 _ _ refl
      (does_set c (base + 3) (Num 0) _ s3 0 _ _ refl
      (does_while c Drain (Bin Less (Var base) (Len (Sums w))) (count_row_code base g test) [] (Countings base rows s0)
      (LeavesGreatest base rows s0) _ _
      test_no ends (λ n s d. Goes 0 (test_yes s n d) (does_one n s d)) rows.count s4
      (record {
        done = 0;
        here = 0;
        most = 0;
        last = 0;
        rest = omega arith;
        tally = none_tallied rows;
        counted = record {
          at = other_var s3 (base + 3) base 0 (λ e. omega (arith, e)) ∙ other_var s2 (base + 2) base 0 (λ e. omega (arith, e))
              ∙ other_var s1 (base + 1) base 0 (λ e. omega (arith, e)) ∙ this_var s0 base 0;
          here_is = other_var s3 (base + 3) (base + 1) 0 (λ e. omega (arith, e))
              ∙ other_var s2 (base + 2) (base + 1) 0 (λ e. omega (arith, e)) ∙ this_var s1 (base + 1) 0;
          most_is = other_var s3 (base + 3) (base + 2) 0 (λ e. omega (arith, e)) ∙ this_var s2 (base + 2) 0;
          parent = this_var s3 (base + 3) 0;
          leaves = record {
            below = λ y l m. other_var s3 (base + 3) y 0 (λ e. omega (arith, l, e)) ∙ other_var s2 (base + 2) y 0 (λ e. omega (arith, l, e))
                ∙ other_var s1 (base + 1) y 0 (λ e. omega (arith, l, e)) ∙ other_var s0 base y 0 (λ e. omega (arith, l, e));
            arrays = λ a k. refl;
            turns = λ k. omega arith;
          };
        };
      })
      (λ t a. does_nothing c t _ _ a)))))

pub greatest_found : (base w g level : ℕ) (test : KExpr) → FindsGreatest base w g level test (greatest_code base w g test)
greatest_found base w g level test c rows s given = does_all c base w g level test rows s given
