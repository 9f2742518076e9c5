-- Lemmas about what specs/FragmentLaws.antt defines.
use Rattle.std.specs.Prelude.{◌≡◌, ℕ, zero, suc, ◌+◌, ◌^◌, ◌≤◌, ◌<◌, Bool, true, false, List, [], ◌∷◌, Some, None, slice_get, refl}
use Rattle.std.proofs.Common.{◌∙◌, ap, subst, arith}
use Rattle.kernel_code.specs.declared.syntax.Op.TheVariants.{Add}
use Rattle.kernel_code.specs.declared.syntax.KExpr.{Num, Bin}
use Rattle.kernel_code.specs.declared.syntax.KStmt.{Set}
use Rattle.kernel_code.specs.Arrays.{same_arr}
use Rattle.kernel_code.proofs.ArrayNames.{same_arr_is}
use Rattle.kernel_code.specs.Meaning.{set_var}
use Rattle.kernel_code.proofs.Does.{does_set, does_nothing, does_weaker}
use Rattle.kernel_code.proofs.Keeps.{mentions_bin, this_var, other_var, value_kept, leaves_wider}
use Rattle.kernel_code.specs.Pieces.{position_and_next}
use Rattle.kernel_code.proofs.Words.{sum_is}
use Rattle.level_core.specs.Entries.{Span, one}
use Rattle.level_core.specs.Fragments.{Setting, State, Arr, LoopKind, KExpr, KStmt, value, Below, AreBelow, ValuesAre, IsOf, IsOutside}
use Rattle.level_core.specs.Fragments.{Reads, NoVariable, EveryArray, no_turns, Never, SpanLeft, OptionLeft, NumberLeft}
use Rattle.level_core.specs.FragmentLaws.{one_code, two_code, TwoLeft}

-- an array of the level isn't one outside it
pub outside_apart : (tensor level : ℕ) (a b : Arr) → IsOf tensor level a → IsOutside tensor level b → same_arr a b ≡ false
outside_apart tensor level a b of out = by_test (same_arr a b) refl
  where
    by_test : (t : Bool) → same_arr a b ≡ t → t ≡ false
    by_test true is = absurd (out (subst (IsOf tensor level) (same_arr_is a b is) of))
    by_test false is = refl

-- an argument has its value, over variables below free
pub argument_is : (args : List KExpr) (e : KExpr) (free n v : ℕ) (vs : List ℕ) (s : State) → slice_get args n ≡ Some e
    → slice_get vs n ≡ Some v → AreBelow free args → ValuesAre args s vs → (value e s ≡ Some v) × Below free e
argument_is [] e free n v vs s h g b a = absurd (none_is e h)
  where
    none_is : (e : KExpr) → None ≡ Some e → ⊥
    none_is e h = cc
argument_is (x ∷ args) e free n v [] s h g b a = absurd a
argument_is (x ∷ args) e free zero v (w ∷ vs) s h g b a = let same : x ≡ e = cc in let equal : w ≡ v =
    cc in (subst (λ y. value y s ≡ Some v) same (a.0 ∙ ap Some equal), subst (λ y. Below free y) same b.0)
argument_is (x ∷ args) e free (suc n) v (w ∷ vs) s h g b a = argument_is args e free n v vs s h g b.1 a.1

-- expressions over variables below free keep their values where variables from free on are set, and arrays stay
pub below_kept : (free : ℕ) (e : KExpr) (s t : State) → Below free e → ((y : ℕ) → y < free → t.vars y ≡ s.vars y)
    → ((a : Arr) → t.arrays a ≡ s.arrays a) → value e t ≡ value e s
below_kept free e s t b f g = value_kept (λ y. y < free) EveryArray e s t b f (λ a _. g a)

-- one variable is set, and nothing else changes
pub one_set : (c : Setting) (free v : ℕ) (e : KExpr) (s : State) (P : State → Type 0) → value e s ≡ Some v → P (set_var s free v)
    → Reads c (one_code free e) free no_turns s P
one_set c free v e s P h p =
    does_set c free e [] s v _ Never h
    (does_nothing c (set_var s free v) _ Never
    (record { below = λ y l z. other_var s free y v (λ k. omega (arith, l, k)); arrays = λ a t. refl; turns = λ k. omega arith }, p))

pub number_set : (c : Setting) (free v : ℕ) (e : KExpr) (s : State) → value e s ≡ Some v
    → Reads c (one_code free e) free no_turns s (NumberLeft free v)
number_set c free v e s h = one_set c free v e s (NumberLeft free v) h (this_var s free v)

-- two variables are set, where the second expression is over variables below free
pub two_set : (c : Setting) (free v w : ℕ) (e f : KExpr) (s : State) → value e s ≡ Some v → value f s ≡ Some w → Below free f
    → Reads c (two_code free e f) free no_turns s (TwoLeft free v w)
two_set c free v w e f s h g b =
    let t = set_var s free v in
    does_set c free e (Set (free + 1) f ∷ []) s v _ Never h
    (does_set c (free + 1) f [] t w _ Never (below_kept free f s t b (λ y l. other_var s free y v (λ k. omega (arith, l, k))) (λ a. refl)
    ∙ g)
    (does_nothing c (set_var t (free + 1) w) _ Never (
      record {
        below = λ y l z. other_var t (free + 1) y w (λ k. omega (arith, l, k))
            ∙ other_var s free y v (λ k. omega (arith, l, k));
        arrays = λ a q. refl;
        turns = λ k. omega arith;
      },
      record { first = other_var t (free + 1) free w (λ k. omega (arith, k)) ∙ this_var s free v; second = this_var t (free + 1) w },
    )))

-- a weaker answer of code that reads, with more turns
pub reads_more : (c : Setting) (code : List KStmt) (free : ℕ) (most more : LoopKind → ℕ) (s : State) (P Q : State → Type 0)
    → ((k : LoopKind) → most k ≤ more k) → ((t : State) → P t → Q t) → Reads c code free most s P → Reads c code free more s Q
reads_more c code free most more s P Q l f d =
    does_weaker c code s _ _ Never Never d
    (λ t h. (leaves_wider NoVariable NoVariable EveryArray EveryArray free most more s t (λ y m. m) (λ a m. m) l h.0, f t h.1))
    (λ t a n z. z)

-- a span left in two variables
pub span_set : (c : Setting) (free : ℕ) (span : Span) (e f : KExpr) (s : State) → value e s ≡ Some span.lo → value f s ≡ Some span.hi
    → Below free f → Reads c (two_code free e f) free no_turns s (SpanLeft free span)
span_set c free span e f s h g b =
    reads_more c (two_code free e f) free no_turns no_turns s (TwoLeft free span.lo span.hi) (SpanLeft free span) (λ k. omega arith)
    (λ t l. record { lo = l.first; hi = l.second }) (two_set c free span.lo span.hi e f s h g b)

-- an option that is there, left as 1 and the number
pub some_set : (c : Setting) (free v : ℕ) (f : KExpr) (s : State) → value f s ≡ Some v → Below free f
    → Reads c (two_code free (Num 1) f) free no_turns s (OptionLeft free (Some v))
some_set c free v f s g b =
    reads_more c (two_code free (Num 1) f) free no_turns no_turns s (TwoLeft free 1 v) (OptionLeft free (Some v)) (λ k. omega arith)
    (λ t l. (l.first, l.second)) (two_set c free 1 v (Num 1) f s refl g b)

-- one that isn't, left as 0
pub none_set : (c : Setting) (free : ℕ) (s : State) → Reads c (one_code free (Num 0)) free no_turns s (OptionLeft free None)
none_set c free s = one_set c free 0 (Num 0) s (OptionLeft free None) refl (this_var s free 0)

-- a position, and the next one
pub position_set : (c : Setting) (free q : ℕ) (e : KExpr) (s : State) → value e s ≡ Some q → q + 1 < 2 ^ 64 → Below free e
    → Reads c (position_and_next free e) free no_turns s (SpanLeft free (one q))
position_set c free q e s h l b =
    span_set c free (one q) e (Bin Add e (Num 1)) s h (sum_is e (Num 1) q 1 s h refl l)
    (mentions_bin (λ y. y < free) EveryArray Add e (Num 1) b tt)
