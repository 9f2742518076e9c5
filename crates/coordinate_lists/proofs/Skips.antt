-- Lemmas about what specs/Skips.antt defines.
use Rattle.std.specs.Prelude.{◌≡◌, ◌≢◌, ℕ, zero, suc, ◌+◌, ◌-◌, ◌^◌, ◌≤◌, ◌<◌, ◌==◌, Bool, true, false, if◌then◌else◌, List, [], ◌∷◌}
use Rattle.std.specs.Prelude.{length, Option, Some, slice_get, slice_index_or, refl}
use Rattle.std.proofs.Common.{◌∙◌, ap, subst, arith, inl, inr}
use Rattle.std.proofs.lemmas.Option.{slice_get-get_or}
use Rattle.std.proofs.lemmas.Bool.Decides.{nat_tests, leb_tells}
use Rattle.kernel_code.specs.declared.syntax.Arr.{Arr}
use Rattle.kernel_code.specs.declared.syntax.LoopKind.{LoopKind}
use Rattle.kernel_code.specs.declared.syntax.LoopKind.TheVariants.{Skip}
use Rattle.kernel_code.specs.declared.syntax.Op.TheVariants.{Add, Less, Equal, And}
use Rattle.kernel_code.specs.declared.syntax.KExpr.{KExpr, Num, Var, At, Bin}
use Rattle.kernel_code.specs.declared.syntax.KStmt.{While}
use Rattle.kernel_code.specs.Meaning.{Setting, State, value, word_of, set_var, one_turn, same_kind, apply_both}
use Rattle.kernel_code.proofs.Equations.{value_bin}
use Rattle.kernel_code.specs.Does.{Does, Never, Turn, Goes}
use Rattle.kernel_code.proofs.Does.{does_set, does_nothing, does_while}
use Rattle.kernel_code.specs.Keeps.{Below, Leaves, NoVariable, EveryArray}
use Rattle.kernel_code.proofs.Keeps.{this_var, other_var}
use Rattle.level_core.specs.declared.span.Span.{Span}
use Rattle.level_core.specs.declared.span.Entry.{Entry}
use Rattle.level_core.specs.Fragments.{Reads, turns_of, SpanLeft}
use Rattle.level_core.proofs.FragmentLaws.{below_kept}
use Rattle.kernel_code.proofs.Words.{word_is, binary_is, sum_is, less_yes, less_no}
use Rattle.coordinate_lists.specs.Spans.{IsGroupIn}
use Rattle.coordinate_lists.specs.Skips.{skip_test, skip_body, skip_code}

one_skip : (k : ℕ) (s : State) (j : LoopKind) → (one_turn s Skip).turns j + turns_of Skip k j ≡ s.turns j + turns_of Skip (suc k) j
one_skip k s j = elim (same_kind Skip j) as
    (λ b. (if b then s.turns j + 1 else s.turns j) + (if b then k else 0) ≡ s.turns j + (if b then suc k else 0))
    [ true ↦ omega arith | false ↦ omega arith ]

fewer_skips : (m n : ℕ) (j : LoopKind) → m ≤ n → turns_of Skip m j ≤ turns_of Skip n j
fewer_skips m n j h = elim (same_kind Skip j) as (λ b. (if b then m else 0) ≤ (if b then n else 0)) [ true ↦ h | false ↦ omega arith ]

not_zero_and_one : (v : Option ℕ) → v ≡ Some 0 → v ≡ Some 1 → ⊥
not_zero_and_one v h g = cc

module _ (c : Setting) (coords : List ℕ) (a : Arr) (free : ℕ) (segment : Span) (e : Entry) (s0 : State) where
  -- the loop stands at the position q of the group, of which k positions are left
  record Skipping (k : ℕ) (s : State) : Type 0 where
    q : ℕ
    left : q + k ≡ e.child.hi
    past : e.child.lo < q
    lo_is : s.vars free ≡ Some e.child.lo
    q_is : s.vars (free + 1) ≡ Some q
    hi_is : s.vars (free + 2) ≡ Some segment.hi
    x_is : s.vars (free + 3) ≡ Some e.coord
    below : (y : ℕ) → y < free → s.vars y ≡ s0.vars y
    arrays : (x : Arr) → s.arrays x ≡ s0.arrays x
    turns : (j : LoopKind) → s.turns j + turns_of Skip k j ≤ s0.turns j + turns_of Skip (e.child.hi - e.child.lo) j

  test_no : (s : State) → value (Bin Less (Var (free + 1)) (Var (free + 2))) s ≡ Some 0 → value (skip_test a free) s ≡ Some 0
  test_no s h = value_bin And (Bin Less (Var (free + 1)) (Var (free + 2))) (Bin Equal (At a (Var (free + 1))) (Var (free + 3))) s
      ∙ ap (λ o. apply_both And o (value (Bin Equal (At a (Var (free + 1))) (Var (free + 3))) s)) h

  equal_value : (v x : ℕ) (b : Bool) (s : State) → value (At a (Var (free + 1))) s ≡ Some v → s.vars (free + 3) ≡ Some x → (v == x) ≡ b
      → value (Bin Equal (At a (Var (free + 1))) (Var (free + 3))) s ≡ Some (word_of b)
  equal_value v x b s h g is = binary_is Equal (At a (Var (free + 1))) (Var (free + 3)) v x s h g ∙ ap (λ t. Some (word_of t)) is

  module _ (held : s0.arrays a ≡ Some coords) (g : IsGroupIn coords segment e) (inside : segment.hi ≤ length coords)
      (small : length coords < 2 ^ 62) where
    coord_of : (q v : ℕ) (s : State) → ((x : Arr) → s.arrays x ≡ s0.arrays x) → s.vars (free + 1) ≡ Some q → slice_get coords q ≡ Some v
        → value (At a (Var (free + 1))) s ≡ Some v
    coord_of q v s f h l = word_is a (Var (free + 1)) coords q v s (f a ∙ held) h l

    test_at_other : (q : ℕ) (s : State) → q ≡ e.child.hi → q < segment.hi → ((x : Arr) → s.arrays x ≡ s0.arrays x)
        → s.vars (free + 1) ≡ Some q → s.vars (free + 2) ≡ Some segment.hi → s.vars (free + 3) ≡ Some e.coord
        → value (skip_test a free) s ≡ Some 0
    test_at_other q s at l f q_is hi_is x_is =
        let there : slice_get coords q ≡ Some (slice_index_or coords q 0) = slice_get-get_or coords q 0 (omega (arith, l, inside)) in
        let apart : slice_index_or coords q 0 ≢ e.coord =
        λ same. g.whole (omega (arith, at, l)) (subst (λ n. slice_get coords n ≡ Some e.coord) at (there ∙ ap Some same)) in
        let no : (slice_index_or coords q 0 == e.coord) ≡ false = grind (arith, nat_tests, apart) in
        binary_is And (Bin Less (Var (free + 1)) (Var (free + 2))) (Bin Equal (At a (Var (free + 1))) (Var (free + 3))) 1 0 s
        (less_yes (Var (free + 1)) (Var (free + 2)) q segment.hi s q_is hi_is l)
        (equal_value (slice_index_or coords q 0) e.coord false s (coord_of q (slice_index_or coords q 0) s f q_is there) x_is no)

    skip_ends : (s : State) → Skipping 0 s → value (skip_test a free) s ≡ Some 0
    skip_ends s i = elim (leb_tells segment.hi i.q) [
      | inl h ↦ test_no s (less_no (Var (free + 1)) (Var (free + 2)) i.q segment.hi s i.q_is i.hi_is h.1)
      | inr h ↦ test_at_other i.q s (omega (arith, i.left)) h.1 i.arrays i.q_is i.hi_is i.x_is
    ]

    skip_goes : (k : ℕ) (s : State) → Skipping (suc k) s → value (skip_test a free) s ≡ Some 1
    skip_goes k s i =
        let in_group : i.q < e.child.hi = omega (arith, i.left) in
        let yes : (e.coord == e.coord) ≡ true = grind (arith, nat_tests) in
        binary_is And (Bin Less (Var (free + 1)) (Var (free + 2))) (Bin Equal (At a (Var (free + 1))) (Var (free + 3))) 1 1 s
        (less_yes (Var (free + 1)) (Var (free + 2)) i.q segment.hi s i.q_is i.hi_is (omega (arith, g.inside, in_group)))
        (equal_value e.coord e.coord true s
        (coord_of i.q e.coord s i.arrays i.q_is (g.equal i.q (omega (arith, i.past)) in_group)) i.x_is yes)

    skipped_one : (k : ℕ) (s : State) (i : Skipping (suc k) s) → Skipping k (set_var (one_turn s Skip) (free + 1) (i.q + 1))
    skipped_one k s i = record {
      q = i.q + 1;
      left = omega (arith, i.left);
      past = omega (arith, i.past);
      lo_is = other_var (one_turn s Skip) (free + 1) free (i.q + 1) (λ z. omega (arith, z)) ∙ i.lo_is;
      q_is = this_var (one_turn s Skip) (free + 1) (i.q + 1);
      hi_is = other_var (one_turn s Skip) (free + 1) (free + 2) (i.q + 1) (λ z. omega (arith, z)) ∙ i.hi_is;
      x_is = other_var (one_turn s Skip) (free + 1) (free + 3) (i.q + 1) (λ z. omega (arith, z)) ∙ i.x_is;
      below = λ y h. other_var (one_turn s Skip) (free + 1) y (i.q + 1) (λ z. omega (arith, z, h)) ∙ i.below y h;
      arrays = i.arrays;
      turns = λ j. let m = one_skip k s j in omega (arith, i.turns j, m);
    }

    skip_turn : (k : ℕ) (s : State) → Skipping (suc k) s → Turn c Skip (skip_test a free) (skip_body free) s (Skipping k) (Skipping 0) Never
    skip_turn k s i = Goes 0 (skip_goes k s i)
        (does_set c (free + 1) (Bin Add (Var (free + 1)) (Num 1)) [] (one_turn s Skip) (i.q + 1) (Skipping k) Never
        (sum_is (Var (free + 1)) (Num 1) i.q 1 (one_turn s Skip) i.q_is refl (omega (arith, i.left, g.inside, inside, small)))
        (does_nothing c (set_var (one_turn s Skip) (free + 1) (i.q + 1)) (Skipping k) Never (skipped_one k s i)))

    skip_over : (n : ℕ) (s : State) → Skipping n s → value (skip_test a free) s ≡ Some 0 → Skipping 0 s
    skip_over zero s i z = i
    skip_over (suc k) s i z = absurd (not_zero_and_one (value (skip_test a free) s) z (skip_goes k s i))

    skip_loop : (n : ℕ) (s : State) → Skipping n s
        → Does c (While Skip (skip_test a free) (skip_body free)
        ∷ []) s (λ s'. Leaves NoVariable EveryArray free (turns_of Skip (e.child.hi - e.child.lo)) s0 s'
        × SpanLeft free e.child s') Never
    skip_loop n s i = does_while c Skip (skip_test a free) (skip_body free) [] Skipping (Skipping 0) _ Never
        (λ t j. skip_ends t j) (λ m t j z. skip_over m t j z) (λ m t j. skip_turn m t j) n s i
        (λ t j. does_nothing c t _ Never (
          record { below = λ y h z. j.below y h; arrays = λ x h. j.arrays x; turns = λ k. omega (arith, j.turns k) },
          record { lo = j.lo_is; hi = j.q_is ∙ ap Some (omega (arith, j.left)) },
        ))

    -- the loop begins at the second position
    skip_starts : (s : State) → s.vars free ≡ Some e.child.lo → s.vars (free + 1) ≡ Some (e.child.lo + 1)
        → s.vars (free + 2) ≡ Some segment.hi → s.vars (free + 3) ≡ Some e.coord
        → ((y : ℕ) → y < free → s.vars y ≡ s0.vars y) → ((x : Arr) → s.arrays x ≡ s0.arrays x) → ((j : LoopKind) → s.turns j ≡ s0.turns j)
        → Skipping (e.child.hi - (e.child.lo + 1)) s
    skip_starts s lo_is q_is hi_is x_is below arrays turns = record {
      q = e.child.lo + 1;
      left = omega (arith, g.some);
      past = omega arith;
      lo_is = lo_is;
      q_is = q_is;
      hi_is = hi_is;
      x_is = x_is;
      below = below;
      arrays = arrays;
      turns = λ j. let k = fewer_skips (e.child.hi - (e.child.lo + 1)) (e.child.hi - e.child.lo) j (omega arith) in
          omega (arith, k, turns j);
    }

-- the child of a group
pub skip_law : (c : Setting) (coords : List ℕ) (a : Arr) (free : ℕ) (segment : Span) (e : Entry) (pos_e hi_e : KExpr) (s : State)
    → s.arrays a ≡ Some coords → value pos_e s ≡ Some e.child.lo → value hi_e s ≡ Some segment.hi → Below free pos_e → Below free hi_e
    → IsGroupIn coords segment e → segment.hi ≤ length coords → length coords < 2 ^ 62
    → Reads c (skip_code a free pos_e hi_e) free (turns_of Skip (e.child.hi - e.child.lo)) s (SpanLeft free e.child)
skip_law c coords a free segment e pos_e hi_e s held p h bp bh g inside small =
    let s1 = set_var s free e.child.lo in
    let s2 = set_var s1 (free + 1) (e.child.lo + 1) in
    let s3 = set_var s2 (free + 2) segment.hi in
    let s4 = set_var s3 (free + 3) e.coord in
    let b1 : (y : ℕ) → y < free → s1.vars y ≡ s.vars y = λ y l. other_var s free y e.child.lo (λ z. omega (arith, z, l)) in
    let b2 : (y : ℕ) → y < free
    → s2.vars y ≡ s.vars y = λ y l. other_var s1 (free + 1) y (e.child.lo + 1) (λ z. omega (arith, z, l)) ∙ b1 y l in
    let b3 : (y : ℕ) → y < free → s3.vars y ≡ s.vars y = λ y l. other_var s2 (free + 2) y segment.hi (λ z. omega (arith, z, l)) ∙ b2 y l in
    let b4 : (y : ℕ) → y < free → s4.vars y ≡ s.vars y = λ y l. other_var s3 (free + 3) y e.coord (λ z. omega (arith, z, l)) ∙ b3 y l in
    let lo3 : s3.vars free ≡ Some e.child.lo = other_var s2 (free + 2) free segment.hi (λ z. omega (arith, z))
    ∙ other_var s1 (free + 1) free (e.child.lo + 1) (λ z. omega (arith, z)) ∙ this_var s free e.child.lo in
    does_set c free pos_e _ s e.child.lo _ Never p
    (does_set c (free + 1) (Bin Add pos_e (Num 1)) _ s1 (e.child.lo + 1) _ Never
    (sum_is pos_e (Num 1) e.child.lo 1 s1 (below_kept free pos_e s s1 bp b1 (λ x. refl)
    ∙ p) refl (omega (arith, g.some, g.inside, inside, small)))
    (does_set c (free + 2) hi_e _ s2 segment.hi _ Never (below_kept free hi_e s s2 bh b2 (λ x. refl) ∙ h)
    (does_set c (free + 3) (At a (Var free)) _ s3 e.coord _ Never
    (word_is a (Var free) coords e.child.lo e.coord s3 held lo3 (g.equal e.child.lo (omega arith) g.some))
    (skip_loop c coords a free segment e s held g inside small (e.child.hi - (e.child.lo + 1)) s4
    (skip_starts c coords a free segment e s held g inside small s4
    (other_var s3 (free + 3) free e.coord (λ z. omega (arith, z)) ∙ lo3)
    (other_var s3 (free + 3) (free + 1) e.coord (λ z. omega (arith, z))
    ∙ other_var s2 (free + 2) (free + 1) segment.hi (λ z. omega (arith, z)) ∙ this_var s1 (free + 1) (e.child.lo + 1))
    (other_var s3 (free + 3) (free + 2) e.coord (λ z. omega (arith, z)) ∙ this_var s2 (free + 2) segment.hi)
    (this_var s3 (free + 3) e.coord)
    b4 (λ x. refl) (λ j. refl))))))
