-- What the fragments of dense levels do.
use Rattle.std.specs.Prelude.{◌≡◌, ℕ, ◌+◌, ◌*◌, ◌^◌, ◌≤◌, ◌<◌, nat_lt, Bool, true, false, List, [], ◌∷◌, Some, slice_get, refl}
use Rattle.std.proofs.Common.{◌∙◌, sym, subst, arith}
use Rattle.std.proofs.lemmas.Bool.Decides.{nat_tests}
use Rattle.limits.specs.Limits.{greatest_position_count}
use Rattle.limits.proofs.Limits.{positions_are_small}
use Rattle.kernel_code.specs.declared.syntax.Arr.TheVariants.{Dimension}
use Rattle.kernel_code.specs.declared.syntax.Op.TheVariants.{Add, Mul, Less}
use Rattle.kernel_code.specs.declared.syntax.KExpr.{KExpr, Num, Bin}
use Rattle.kernel_code.specs.Meaning.{Setting, State, value}
use Rattle.kernel_code.proofs.Does.{does_nothing, does_weaker, does_if_yes, does_if_no}
use Rattle.kernel_code.specs.Pieces.{position_and_next}
use Rattle.kernel_code.specs.Keeps.{Below, NoVariable, EveryArray, no_turns}
use Rattle.kernel_code.proofs.Keeps.{mentions_at, mentions_bin, leaves_none, leaves_wider}
use Rattle.level_core.specs.declared.span.Span.{Span}
use Rattle.level_core.specs.declared.span.Entry.{Entry}
use Rattle.level_core.specs.Entries.{one, StandsAt, position_of}
use Rattle.level_core.specs.declared.letter.Letter.TheVariants.{Dense}
use Rattle.level_core.specs.Kinds.{CodeMayPrepare, positions_for}
use Rattle.level_core.specs.Codes.{HoldsPrepared, HoldsInserted}
use Rattle.level_core.specs.Fragments.{Never, AreBelow, ValuesAre, IsOutside, Reads, Writes, Grows, PassesLimitWithin, SpanLeft, OptionLeft}
use Rattle.level_core.proofs.FragmentLaws.{position_set, argument_is, number_set, span_set, some_set, none_set}
use Rattle.kernel_code.proofs.Words.{word_is, product_is, sum_is, less_yes, less_no}
use Rattle.level_core.specs.FragmentLaws.{one_code, two_code}
use Rattle.dense_level.specs.Dense.{KeepsRules, Holds, IsAllowed, segment_of, entries_of, meaning}
use Rattle.dense_level.specs.Laws.{position_is}
use Rattle.dense_level.proofs.Laws.{position_none, child_is, small_start, small_end, small_place}
use Rattle.dense_level.specs.Code.{size_word, times_size, place_word, locate_code}

size_is : (n tensor level : ℕ) (s : State) → Holds n tensor level s.arrays → value (size_word tensor level) s ≡ Some n
size_is n tensor level s h = word_is (Dimension tensor level) (Num 0) (n ∷ []) 0 n s h refl refl

times_is : (n tensor level v : ℕ) (e : KExpr) (s : State) → Holds n tensor level s.arrays → value e s ≡ Some v → v * n < 2 ^ 64
    → value (times_size tensor level e) s ≡ Some (v * n)
times_is n tensor level v e s h is l = product_is e (size_word tensor level) v n s is (size_is n tensor level s h) l

place_is : (n tensor level p x : ℕ) (e f : KExpr) (s : State) → Holds n tensor level s.arrays → value e s ≡ Some p → value f s ≡ Some x
    → p * n + x < 2 ^ 64 → value (place_word tensor level e f) s ≡ Some (p * n + x)
place_is n tensor level p x e f s h parent coordinate l =
    sum_is (times_size tensor level e) f (p * n) x s (times_is n tensor level p e s h parent (omega (arith, l))) coordinate l

below_times : (free tensor level : ℕ) (e : KExpr) → Below free e → Below free (times_size tensor level e)
below_times free tensor level e b =
    mentions_bin (λ y. y < free) EveryArray Mul e (size_word tensor level) b
    (mentions_at (λ y. y < free) EveryArray (Dimension tensor level) (Num 0) tt tt)

below_place : (free tensor level : ℕ) (e f : KExpr) → Below free e → Below free f → Below free (place_word tensor level e f)
below_place free tensor level e f b d =
    mentions_bin (λ y. y < free) EveryArray Add (times_size tensor level e) f (below_times free tensor level e b) d

pub segment_does : (c : Setting) (n tensor level free : ℕ) (args : List KExpr) (lo hi : KExpr) (parent : Span) (s : State)
    → slice_get args 0 ≡ Some lo → slice_get args 1 ≡ Some hi → AreBelow free args → IsAllowed n parent → Holds n tensor level s.arrays
    → ValuesAre args s (parent.lo ∷ parent.hi ∷ [])
    → Reads c (two_code free (times_size tensor level lo) (times_size tensor level hi)) free no_turns s
    (SpanLeft free (segment_of n parent))
segment_does c n tensor level free args lo hi parent s first second below ok held values =
    let start = argument_is args lo free 0 parent.lo (parent.lo ∷ parent.hi ∷ []) s first refl below values in
    let end = argument_is args hi free 1 parent.hi (parent.lo ∷ parent.hi ∷ []) s second refl below values in
    span_set c free (segment_of n parent) (times_size tensor level lo) (times_size tensor level hi) s
    (times_is n tensor level parent.lo lo s held start.0 (small_start n parent ok))
    (times_is n tensor level parent.hi hi s held end.0 (small_end n parent ok)) (below_times free tensor level hi end.1)

pub child_does : (c : Setting) (n free : ℕ) (args : List KExpr) (pos : KExpr) (parent : Span) (e : Entry) (vs : List ℕ) (s : State)
    → slice_get args 0 ≡ Some pos → AreBelow free args → IsAllowed n parent → StandsAt e.child.lo e (entries_of n parent)
    → ValuesAre args s (e.child.lo ∷ vs) → Reads c (position_and_next free pos) free no_turns s (SpanLeft free e.child)
child_does c n free args pos parent e vs s first below ok stands values =
    let at = argument_is args pos free 0 e.child.lo (e.child.lo ∷ vs) s first refl below values in
    let child = child_is n e.child.lo parent e ok stands in
    let small = positions_are_small in
    subst (λ span. Reads c (position_and_next free pos) free no_turns s (SpanLeft free span)) (sym child.0)
    (position_set c free e.child.lo pos s at.0 (omega (arith, child.1, small)) at.1)

-- a coordinate below the size is found, and no other
locate_by : (c : Setting) (n tensor level free p x : ℕ) (e f : KExpr) (s : State) (b : Bool) → nat_lt x n ≡ b → value e s ≡ Some p
    → Below free e → value f s ≡ Some x → Below free f → IsAllowed n (one p) → Holds n tensor level s.arrays
    → Reads c (locate_code tensor level e f free) free no_turns s (OptionLeft free (position_of (entries_of n (one p)) x))
locate_by c n tensor level free p x e f s true is parent below_e coordinate below_f ok held =
    let less : x < n = grind (arith, nat_tests, is) in
    let found = some_set c free (p * n + x) (place_word tensor level e f) s
    (place_is n tensor level p x e f s held parent coordinate (small_place n p x ok less))
    (below_place free tensor level e f below_e below_f) in
    subst (λ o. Reads c (locate_code tensor level e f free) free no_turns s (OptionLeft free o)) (sym (position_is n x (one p) less))
    (does_if_yes c (Bin Less f (size_word tensor level)) (two_code free (Num 1) (place_word tensor level e f))
    (one_code free (Num 0)) [] s 0 _ _ Never
    (less_yes f (size_word tensor level) x n s coordinate (size_is n tensor level s held) less) found
    (λ t h. does_nothing c t _ Never h))
locate_by c n tensor level free p x e f s false is parent below_e coordinate below_f ok held =
    let past : n ≤ x = grind (arith, nat_tests, is) in
    subst (λ o. Reads c (locate_code tensor level e f free) free no_turns s (OptionLeft free o)) (sym (position_none n x (one p) past))
    (does_if_no c (Bin Less f (size_word tensor level)) (two_code free (Num 1) (place_word tensor level e f))
    (one_code free (Num 0)) [] s _ _ Never (less_no f (size_word tensor level) x n s coordinate (size_is n tensor level s held) past)
    (none_set c free s) (λ t h. does_nothing c t _ Never h))

pub locate_does : (c : Setting) (n tensor level free : ℕ) (args : List KExpr) (e f : KExpr) (p x : ℕ) (s : State)
    → slice_get args 0 ≡ Some e → slice_get args 1 ≡ Some f → AreBelow free args → IsAllowed n (one p) → Holds n tensor level s.arrays
    → ValuesAre args s (p ∷ x ∷ [])
    → Reads c (locate_code tensor level e f free) free no_turns s (OptionLeft free (position_of (entries_of n (one p)) x))
locate_does c n tensor level free args e f p x s first second below ok held values =
    let parent = argument_is args e free 0 p (p ∷ x ∷ []) s first refl below values in
    let coordinate = argument_is args f free 1 x (p ∷ x ∷ []) s second refl below values in
    locate_by c n tensor level free p x e f s (nat_lt x n) refl parent.0 parent.1 coordinate.0 coordinate.1 ok held

pub insert_does : (c : Setting) (n tensor level free : ℕ) (args : List KExpr) (e f : KExpr) (p x : ℕ) (s : State)
    → slice_get args 0 ≡ Some e → slice_get args 1 ≡ Some f → AreBelow free args → IsAllowed n (one p) → x < n
    → Holds n tensor level s.arrays → ValuesAre args s (p ∷ x ∷ [])
    → Writes c (one_code free (place_word tensor level e f)) free tensor level no_turns s
    (HoldsInserted meaning n p x tensor level free)
insert_does c n tensor level free args e f p x s first second below ok less held values =
    let parent = argument_is args e free 0 p (p ∷ x ∷ []) s first refl below values in
    let coordinate = argument_is args f free 1 x (p ∷ x ∷ []) s second refl below values in
    let left = number_set c free (p * n + x) (place_word tensor level e f) s
    (place_is n tensor level p x e f s held parent.0 coordinate.0 (small_place n p x ok less)) in
    does_weaker c (one_code free (place_word tensor level e f)) s _ _ Never Never left
    (λ t h. (
      leaves_wider NoVariable NoVariable EveryArray (IsOutside tensor level) free no_turns no_turns s t (λ y m. m) (λ a m. tt)
          (λ k. omega arith) h.0,
      record {
        left = n;
        slot = p * n + x;
        keeps = ok.size;
        inserted = (refl, refl);
        held = h.0.arrays (Dimension tensor level) tt
            ∙ held;
        answer = h.1;
      },
    ))
    (λ t a count z. z)

-- nothing is to be made
pub prepare_does : (c : Setting) (n parents most tensor level free : ℕ) (s : State) → KeepsRules n
    → CodeMayPrepare Dense (positions_for Dense n parents most) → Holds n tensor level s.arrays
    → Grows c [] free tensor level no_turns s (λ t. HoldsPrepared meaning n parents most tensor level t
    × (positions_for Dense n parents most ≤ greatest_position_count))
    (PassesLimitWithin tensor level (positions_for Dense n parents most))
prepare_does c n parents most tensor level free s small may held =
    does_nothing c s _ _ (
      leaves_none NoVariable (IsOutside tensor level) free no_turns s,
      (record { left = n; keeps = small; prepared = refl; held = held }, may refl),
    )
