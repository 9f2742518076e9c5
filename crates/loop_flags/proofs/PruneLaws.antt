-- What code that prunes does, one access after another.
use Rattle.std.specs.Prelude.{◌≡◌, ◌≢◌, ℕ, ◌+◌, ◌≤◌, ◌<◌, nat_eq, nat_lt, Bool, true, false, ◌&&◌, if◌then◌else◌, List, [], ◌∷◌, ◌++◌}
use Rattle.std.specs.Prelude.{length, Option, Some, None, slice_get, refl}
use Rattle.std.proofs.Common.{◌∙◌, sym, ap, subst, arith, inl, inr}
use Rattle.std.proofs.lemmas.Bool.Decides.{nat_tests, eqb_tells}
use Rattle.std.proofs.lemmas.Option.{slice_get_within}
use Rattle.kernel_code.specs.declared.syntax.KExpr.{KExpr, Num, Var}
use Rattle.kernel_code.specs.declared.syntax.KStmt.{KStmt, Set}
use Rattle.kernel_code.specs.Meaning.{Setting, State, value, word_of, set_var}
use Rattle.kernel_code.specs.Does.{Never}
use Rattle.kernel_code.specs.Keeps.{Leaves, NoVariable, EveryArray, no_turns}
use Rattle.kernel_code.proofs.Does.{does_append, does_set, does_nothing, does_if_yes, does_if_no, does_weaker}
use Rattle.kernel_code.proofs.Keeps.{this_var, other_var}
use Rattle.level_core.specs.declared.span.Span.{Span}
use Rattle.level_core.specs.Fragments.{Reads}
use Rattle.level_cursors.specs.Children.{ChildLeft}
use Rattle.loop_code.specs.Loops.{Env, at_cursor as moved_cursor}
use Rattle.loop_code.specs.declared.loops.LoopCode.{LoopCode}
use Rattle.loop_code.specs.Parts.{here, is_some, is_live_below, remains_below, pruned}
use Rattle.operand_arrays.specs.Apart.{AreOutside}
use Rattle.term_code.specs.declared.places.Places.{Places}
use Rattle.term_code.specs.declared.places.AccessPlace.{AccessPlace}
use Rattle.term_code.specs.Places.{AreBelow, Keeps}
use Rattle.term_code.specs.Presence.{Tells}
use Rattle.term_code.proofs.PlaceLaws.{below_more, keeps_kept, keeps_cursor}
use Rattle.term_code.proofs.OptionLaws.{nothing_read}
use Rattle.loop_flags.specs.declared.partly.Partly.{Partly}
use Rattle.loop_flags.specs.Liveness.{StaysBelow}
use Rattle.loop_flags.specs.Pruned.{Prunes, unplaced}
use Rattle.loop_flags.specs.PrunedSteps.{PrunesFirst, first_pruned, copy_code, with_cursor, with_none, with_copy, finished}
use Rattle.loop_flags.proofs.FlagLaws.{never_so}
use Rattle.loop_flags.proofs.PlacesSet.{accesses_set, length_set, below_set, from_set}

-- one after another, the second over variables further on
then_reads : (c : Setting) (first second : List KStmt) (free more : ℕ) (s : State) (P Q : State → Type 0) → free ≤ more
    → Reads c first free no_turns s P
    → ((t : State) → Leaves NoVariable EveryArray free no_turns s t → P t → Reads c second more no_turns t Q)
    → Reads c (first ++ second) free no_turns s Q
then_reads c first second free more s P Q le d next =
    does_append c first second s _ _ Never d (λ t h. does_weaker c second t _ _ Never Never (next t h.0 h.1) (λ u k. (
      record {
        below = λ y b z. k.0.below y (omega (arith, b, le)) z ∙ h.0.below y b z;
        arrays = λ b z. k.0.arrays b z ∙ h.0.arrays b z;
        turns = λ j. let x = h.0.turns j in let y = k.0.turns j in omega (arith, x, y);
      },
      k.1,
    )) (λ t b n z. z))

more_said : (c : Setting) (code : List KStmt) (free : ℕ) (s : State) (P Q : State → Type 0) → Reads c code free no_turns s P
    → ((t : State) → Leaves NoVariable EveryArray free no_turns s t → P t → Q t) → Reads c code free no_turns s Q
more_said c code free s P Q d f = does_weaker c code s _ _ Never Never d (λ t h. (h.0, f t h.0 h.1)) (λ t b n z. z)

-- a copy where the flag is 1
copy_does : (c : Setting) (e : KExpr) (cursor free : ℕ) (b : Bool) (o : Option Span) (s : State) → cursor + 3 ≤ free
    → value e s ≡ Some (word_of b) → (b ≡ true → is_some o ≡ true) → ChildLeft cursor o s
    → Reads c (copy_code e cursor free) free no_turns s (ChildLeft free (if b then o else None))
copy_does c e cursor free false o s low h some left =
    does_if_no c e _ (Set free (Num 0) ∷ []) [] s _ _ Never h
    (does_set c free (Num 0) [] s 0 _ Never refl
    (does_nothing c (set_var s free 0) _ Never (
      record { below = λ y b z. other_var s free y 0 (λ q. omega (arith, b, q)); arrays = λ a z. refl; turns = λ j. omega arith },
      this_var s free 0,
    ))) (λ t k. does_nothing c t _ Never k)
copy_does c e cursor free true None s low h some left = absurd (cc (some refl))
copy_does c e cursor free true (Some span) s low h some left =
    let t1 = set_var s free 1 in
    let t2 = set_var t1 (free + 1) span.lo in
    let t3 = set_var t2 (free + 1 + 1) span.hi in
    let lo : t1.vars (cursor + 1) ≡ Some span.lo = other_var s free (cursor + 1) 1 (λ q. omega (arith, q, low)) ∙ left.1.lo in
    let hi : t2.vars (cursor + 1 + 1) ≡ Some span.hi = other_var t1 (free + 1) (cursor + 1 + 1) span.lo (λ q. omega (arith, q, low))
    ∙ other_var s free (cursor + 1 + 1) 1 (λ q. omega (arith, q, low)) ∙ left.1.hi in
    does_if_yes c e _ _ [] s 0 _ _ Never h
    (does_set c free (Num 1) _ s 1 _ Never refl
    (does_set c (free + 1) (Var (cursor + 1)) _ t1 span.lo _ Never lo
    (does_set c (free + 1 + 1) (Var (cursor + 1 + 1)) [] t2 span.hi _ Never hi
    (does_nothing c t3 _ Never (
      record {
        below = λ y b z. other_var t2 (free + 1 + 1) y span.hi (λ q. omega (arith, b, q))
            ∙ other_var t1 (free + 1) y span.lo (λ q. omega (arith, b, q)) ∙ other_var s free y 1 (λ q. omega (arith, b, q));
        arrays = λ a z. refl;
        turns = λ j. omega arith;
      },
      (
        other_var t2 (free + 1 + 1) free span.hi (λ q. omega (arith, q)) ∙ other_var t1 (free + 1) free span.lo (λ q. omega (arith, q))
            ∙ this_var s free 1,
        record {
          lo = other_var t2 (free + 1 + 1) (free + 1) span.hi (λ q. omega (arith, q)) ∙ this_var t1 (free + 1) span.lo;
          hi = this_var t2 (free + 1 + 1) span.hi;
        },
      ),
    )))))
    (λ t k. does_nothing c t _ Never k)

-- places keep what is the same where they have an access
pub keeps_same : (places : Places) (bound : List ℕ) (e d : Env) (s : State) → e.point ≡ d.point
    → ((k : ℕ) (p : AccessPlace) → slice_get places.accesses k ≡ Some p → e.cursor k ≡ d.cursor k) → Keeps places bound e s
    → Keeps places bound d s
keeps_same places bound e d s point cursor h = record {
  points = λ v is. let p = h.points v is in (p.0, p.1 ∙ ap (λ (f : ℕ → ℕ). Some (f v)) point);
  cursors = λ k p at. subst (λ o. ChildLeft p.cursor o s) (cursor k p at) (h.cursors k p at);
}

less_same : (k i : ℕ) → i ≢ k → nat_lt k i ≡ nat_lt k (i + 1)
less_same k i h = by_test (nat_lt k i) refl
  where
    by_test : (b : Bool) → nat_lt k i ≡ b → b ≡ nat_lt k (i + 1)
    by_test true is = grind (arith, nat_tests)
    by_test false is = grind (arith, nat_tests)

less_next : (k i : ℕ) → i ≡ k → nat_lt k (i + 1) ≡ true
less_next k i h = grind (arith, nat_tests)

less_not : (i : ℕ) → nat_lt i i ≡ false
less_not i = grind (arith, nat_tests)

module _ (loops : LoopCode) (env : Env) where
  next_other : (i k : ℕ) → i ≢ k → (first_pruned i loops env).cursor k ≡ (first_pruned (i + 1) loops env).cursor k
  next_other i k h = ap (λ b. if b then (pruned loops env).cursor k else env.cursor k) (less_same k i h)

  next_this : (i k : ℕ) → i ≡ k → (pruned loops env).cursor k ≡ (first_pruned (i + 1) loops env).cursor k
  next_this i k h = sym (ap (λ b. if b then (pruned loops env).cursor k else env.cursor k) (less_next k i h))

  before_this : (i : ℕ) → (first_pruned i loops env).cursor i ≡ env.cursor i
  before_this i = ap (λ b. if b then (pruned loops env).cursor i else env.cursor i) (less_not i)

  -- an access that stays where some part remains
  stays_pruned : (k : ℕ) → StaysBelow k loops → remains_below (here env) loops ≡ true → env.cursor k ≡ (pruned loops env).cursor k
  stays_pruned k h rem = by_cursor (env.cursor k) refl
    where
      by_cursor : (o : Option Span) → env.cursor k ≡ o → o ≡ (if is_live_below (here env) loops k then o else None)
      by_cursor None is = elim (is_live_below (here env) loops k) as (λ b. ◌≡◌ {A = Option Span} None (if b then None else None)) [
        | true ↦ refl
        | false ↦ refl
      ]
      by_cursor (Some span) is =
          sym (ap (λ b. if b then Some span else None) (h (here env) rem (ap is_some is)))

  -- an access that is live and present
  both_so : (b : Bool) (o : Option Span) → (b && is_some o) ≡ true → is_some o ≡ true
  both_so true o h = h
  both_so false o h = absurd (cc h)

  live_some : (k : ℕ) → (is_live_below (here env) loops k && here env k) ≡ true → is_some (env.cursor k) ≡ true
  live_some k h = both_so (is_live_below (here env) loops k) (env.cursor k) h

  present_is : (k : ℕ) → (if is_live_below (here env) loops k && here env k then env.cursor k else None) ≡ (pruned loops env).cursor k
  present_is k = by (is_live_below (here env) loops k) (env.cursor k)
    where
      by : (b : Bool) (o : Option Span) → (if b && is_some o then o else None) ≡ (if b then o else None)
      by true None = refl
      by true (Some span) = refl
      by false o = refl

  equal : (i k : ℕ) → i ≡ k → nat_eq i k ≡ true
  equal i k h = grind (arith, nat_tests, h)

  apart : (i k : ℕ) → i ≢ k → nat_eq i k ≡ false
  apart i k h = grind (arith, nat_tests, h)

  -- the next access is where it is when pruned
  moved_next : (i : ℕ) (o : Option Span) → o ≡ (pruned loops env).cursor i → (k : ℕ)
      → (moved_cursor (first_pruned i loops env) i o).cursor k ≡ (first_pruned (i + 1) loops env).cursor k
  moved_next i o is k = elim (eqb_tells i k) [
    | inl e ↦ ap (λ b. if b then o else (first_pruned i loops env).cursor k) (equal i k e.1)
        ∙ is ∙ ap (pruned loops env).cursor e.1 ∙ next_this i k e.1
    | inr e ↦ ap (λ b. if b then o else (first_pruned i loops env).cursor k) (apart i k e.1) ∙ next_other i k e.1
  ]

module _ (places : Places) (loops : LoopCode) where
  pub none_pruned : (free : ℕ) (copy : Places) → AreBelow free places → copy ≡ places
      → PrunesFirst places loops 0 (record { places = copy; code = []; zero = free; free = free + 3; left_out = false })
  none_pruned free copy are is = record {
    leaves = λ c bound env s rem keeps zero. nothing_read c (free + 3) s (λ t. Keeps copy bound (first_pruned 0 loops env) t)
        (keeps_same copy bound env (first_pruned 0 loops env) s refl (λ k p at. sym (none k env))
        (subst (λ q. Keeps q bound env s) (sym is) keeps));
    kept = are;
    below = subst (AreBelow (free + 3)) (sym is) (below_more free (free + 3) places (omega arith) are);
    more = omega arith;
    from = λ least low le h. subst (AreOutside least low) (sym is) h;
    variables = ap (λ (q : Places). q.variables) is;
    many = ap (λ (q : Places). length q.accesses) is;
    accesses = ap (λ (q : Places). unplaced q.accesses) is;
  }
    where
      none : (k : ℕ) (env : Env) → (first_pruned 0 loops env).cursor k ≡ env.cursor k
      none k env = ap (λ b. if b then (pruned loops env).cursor k else env.cursor k) (never k)
        where
          never : (k : ℕ) → nat_lt k 0 ≡ false
          never k = grind (arith, nat_tests)

  module _ (i : ℕ) (p : Partly) (h : PrunesFirst places loops i p) where
    pub stays_step : StaysBelow i loops → PrunesFirst places loops (i + 1) p
    stays_step stays = record {
      leaves = λ c bound env s rem keeps zero. more_said c p.code (p.zero + 3) s _ _ (h.leaves c bound env s rem keeps zero)
          (λ t l k. keeps_same p.places bound (first_pruned i loops env) (first_pruned (i + 1) loops env) t refl
          (λ j q at. elim (eqb_tells i j) [
            | inl e ↦ ap (first_pruned i loops env).cursor (sym e.1) ∙ before_this loops env i ∙ stays_pruned loops env i stays rem
                ∙ ap (pruned loops env).cursor e.1 ∙ next_this loops env i j e.1
            | inr e ↦ next_other loops env i j e.1
          ]) k);
      kept = h.kept;
      below = h.below;
      more = h.more;
      from = h.from;
      variables = h.variables;
      many = h.many;
      accesses = h.accesses;
    }

    pub none_step : (flag : KExpr) → i < length places.accesses → flag ≡ Num 0
        → Tells places (λ env. is_live_below (here env) loops i) flag → PrunesFirst places loops (i + 1) (with_none p i)
    none_step flag within zero_is tells = record {
      leaves = λ c bound env s rem keeps zero. more_said c p.code (p.zero + 3) s _ _ (h.leaves c bound env s rem keeps (λ z. zero refl))
          (λ t l k. keeps_same (with_cursor p.places i p.zero) bound (moved_cursor (first_pruned i loops env) i None)
          (first_pruned (i + 1) loops env) t refl (λ j q at. moved_next loops env i None (nowhere bound env s keeps) j)
          (keeps_cursor p.places bound (first_pruned i loops env) t i p.zero None (let m = h.many in omega (arith, m, within)) k
          (l.below p.zero (omega arith) (λ z. z) ∙ zero refl)));
      kept = h.kept;
      below = below_set p.free p.free p.places i p.zero (omega arith) h.more h.below;
      more = h.more;
      from = λ least low le are. from_set least low p.places i p.zero le (h.from least low le are);
      variables = h.variables;
      many = length_set p.places.accesses i p.zero ∙ h.many;
      accesses = accesses_set p.places.accesses i p.zero ∙ h.accesses;
    }
      where
        nowhere : (bound : List ℕ) (env : Env) (s : State) → Keeps places bound env s → None ≡ (pruned loops env).cursor i
        nowhere bound env s keeps =
            sym (ap (λ b. if b then env.cursor i else None)
            (never_so places (λ env. is_live_below (here env) loops i) flag zero_is tells bound env s keeps))

    pub copy_step : (q : AccessPlace) (flag : KExpr) → slice_get places.accesses i ≡ Some q
        → Tells places (λ env. is_live_below (here env) loops i && here env i) flag
        → PrunesFirst places loops (i + 1) (with_copy p i flag q.cursor)
    copy_step q flag at tells = record {
      leaves = λ c bound env s rem keeps zero. then_reads c p.code (copy_code flag q.cursor p.free) (p.zero + 3) p.free s _ _ h.more
          (h.leaves c bound env s rem keeps zero)
          (λ t l k. copied c bound env t (keeps_kept p.zero places bound env s t h.kept
          (λ y b. l.below y (omega (arith, b)) (λ z. z)) keeps) k);
      kept = h.kept;
      below = below_set p.free (p.free + 3) p.places i p.free (omega arith) (omega arith) h.below;
      more = let m = h.more in omega (arith, m);
      from = λ least low le are. let m = h.more in from_set least low p.places i p.free (omega (arith, m, le)) (h.from least low le are);
      variables = h.variables;
      many = length_set p.places.accesses i p.free ∙ h.many;
      accesses = accesses_set p.places.accesses i p.free ∙ h.accesses;
    }
      where
        low : q.cursor + 3 ≤ p.free
        low = let b = h.kept.accesses i q at in let m = h.more in omega (arith, b, m)

        within : i < length p.places.accesses
        within = let b = slice_get_within places.accesses i q at in let m = h.many in omega (arith, b, m)

        copied : (c : Setting) (bound : List ℕ) (env : Env) (t : State) → Keeps places bound env t
            → Keeps p.places bound (first_pruned i loops env) t
            → Reads c (copy_code flag q.cursor p.free) p.free no_turns t
            (Keeps (with_cursor p.places i p.free) bound (first_pruned (i + 1) loops env))
        copied c bound env t keeps k =
            more_said c (copy_code flag q.cursor p.free) p.free t _ _
            (copy_does c flag q.cursor p.free (is_live_below (here env) loops i && here env i) (env.cursor i) t low
            (tells.told bound env t keeps) (live_some loops env i) (keeps.cursors i q at))
            (λ u l left. keeps_same (with_cursor p.places i p.free) bound
            (moved_cursor (first_pruned i loops env) i ((pruned loops env).cursor i)) (first_pruned (i + 1) loops env) u refl
            (λ j r there. moved_next loops env i ((pruned loops env).cursor i) refl j)
            (keeps_cursor p.places bound (first_pruned i loops env) u i p.free ((pruned loops env).cursor i) within
            (keeps_kept p.free p.places bound (first_pruned i loops env) t u h.below (λ y b. l.below y b (λ z. z)) k)
            (subst (λ o. ChildLeft p.free o u) (present_is loops env i) left)))

  -- all accesses are pruned
  all_keeps : (p : Partly) (bound : List ℕ) (env : Env) (t : State) → length p.places.accesses ≡ length places.accesses
      → Keeps p.places bound (first_pruned (length places.accesses) loops env) t → Keeps p.places bound (pruned loops env) t
  all_keeps p bound env t many k =
      keeps_same p.places bound (first_pruned (length places.accesses) loops env) (pruned loops env) t refl
      (λ j q at. ap (λ b. if b then (pruned loops env).cursor j else env.cursor j)
      (below j (let b = slice_get_within p.places.accesses j q at in omega (arith, b, many)))) k
    where
      below : (j : ℕ) → j < length places.accesses → nat_lt j (length places.accesses) ≡ true
      below j h = grind (arith, nat_tests)

  lower : (c : Setting) (code : List KStmt) (free : ℕ) (s : State) (P Q : State → Type 0) → Reads c code (free + 3) no_turns s P
      → ((t : State) → P t → Q t) → Reads c code free no_turns s Q
  lower c code free s P Q d f = does_weaker c code s _ _ Never Never d (λ t h. (
    record { below = λ y b z. h.0.below y (omega (arith, b)) z; arrays = h.0.arrays; turns = h.0.turns },
    f t h.1,
  )) (λ t b n z. z)

  pub all_pruned : (p : Partly) → PrunesFirst places loops (length places.accesses) p → Prunes places loops p.zero (finished p)
  all_pruned p h = record {
    leaves = λ c bound env s rem keeps. by_used p.left_out refl c bound env s rem keeps;
    below = h.below;
    more = let m = h.more in omega (arith, m);
    from = h.from;
    variables = h.variables;
    accesses = h.accesses;
  }
    where
      by_used : (b : Bool) → p.left_out ≡ b → (c : Setting) (bound : List ℕ) (env : Env) (s : State)
          → remains_below (here env) loops ≡ true → Keeps places bound env s
          → Reads c (if b then Set p.zero (Num 0) ∷ p.code else p.code) p.zero no_turns s (Keeps p.places bound (pruned loops env))
      by_used false is c bound env s rem keeps =
          lower c p.code p.zero s _ _ (h.leaves c bound env s rem keeps (λ z. absurd (cc (sym is ∙ z))))
          (λ t k. all_keeps p bound env t h.many k)
      by_used true is c bound env s rem keeps =
          let u = set_var s p.zero 0 in
          does_set c p.zero (Num 0) p.code s 0 _ Never refl
          (does_weaker c p.code u _ _ Never Never
          (h.leaves c bound env u rem (keeps_kept p.zero places bound env s u h.kept
          (λ y b. other_var s p.zero y 0 (λ q. omega (arith, b, q))) keeps) (λ z. this_var s p.zero 0))
          (λ t l. (
            record {
              below = λ y b z. l.0.below y (omega (arith, b)) z ∙ other_var s p.zero y 0 (λ q. omega (arith, b, q));
              arrays = l.0.arrays;
              turns = l.0.turns;
            },
            all_keeps p bound env t h.many l.1,
          )) (λ t b n z. z))
