-- What the fragments of hashed levels do.
use Rattle.std.specs.Prelude.{◌≡◌, ◌⊎◌, ℕ, ◌+◌, ◌*◌, ◌^◌, ◌≤◌, ◌<◌, min, true, false, List, [], ◌∷◌, ◌++◌, length, replicate, Some, None}
use Rattle.std.specs.Prelude.{slice_get, slice_index, refl}
use Rattle.std.proofs.Common.{◌∙◌, sym, ap, subst, arith, inl, inr, lit<}
use Rattle.std.proofs.lemmas.Bool.Decides.{nat_tests, eqb_tells}
use Rattle.limits.specs.Limits.{greatest_position_count}
use Rattle.limits.proofs.Limits.{positions_are_small}
use Rattle.kernel_code.specs.declared.syntax.Arr.TheVariants.{Coordinates, Width as WidthArray}
use Rattle.kernel_code.specs.declared.syntax.Op.TheVariants.{Mul}
use Rattle.kernel_code.specs.declared.syntax.KExpr.{KExpr, Num, Var, At, Width}
use Rattle.kernel_code.specs.declared.syntax.KStmt.{Set, Extend}
use Rattle.kernel_code.specs.Arrays.{may_write, may_have}
use Rattle.kernel_code.proofs.ArrayNames.{same_arr_self}
use Rattle.kernel_code.specs.Meaning.{Setting, State, value, width_of, set_var, set_array}
use Rattle.kernel_code.proofs.Equations.{value_width}
use Rattle.kernel_code.specs.Does.{Refusal, Does, Never}
use Rattle.kernel_code.proofs.Does.{does_nothing, does_set, does_extend, does_if_yes, does_if_no}
use Rattle.kernel_code.specs.Pieces.{position_and_next}
use Rattle.kernel_code.specs.Keeps.{Below, Leaves, NoVariable, EveryArray, no_turns}
use Rattle.kernel_code.proofs.Keeps.{mentions_at, mentions_bin, this_var, other_var, this_array, other_array, leaves_none, leaves_set}
use Rattle.kernel_code.proofs.Keeps.{leaves_array}
use Rattle.level_core.specs.declared.span.Span.{Span}
use Rattle.level_core.specs.declared.span.Entry.{Entry}
use Rattle.level_core.specs.declared.letter.Letter.TheVariants.{Hashed as HashedLetter}
use Rattle.level_core.specs.Kinds.{positions_for, MayPrepare, MayInsert}
use Rattle.level_core.specs.Codes.{HoldsPrepared}
use Rattle.level_core.specs.Entries.{one, IsIn, StandsAt, coord_at}
use Rattle.level_core.specs.Fragments.{AreBelow, ValuesAre, IsOutside, Reads, Grows, RefusedWithin, PassesLimitWithin, SpanLeft, OptionLeft}
use Rattle.level_core.proofs.FragmentLaws.{position_set, outside_apart, argument_is, below_kept, span_set, some_set, none_set}
use Rattle.kernel_code.proofs.Words.{product_is}
use Rattle.level_core.specs.FragmentLaws.{one_code, two_code}
use Rattle.level_core.specs.GuardedProducts.{guarded_product, StandsForProduct}
use Rattle.level_core.proofs.GuardedProducts.{widths_are_factors, guarded_told, all_parents}
use Rattle.hashed_level.specs.Slots.{empty_slot}
use Rattle.hashed_level.specs.SlotLaws.{coord_none, coord_some}
use Rattle.kernel_code.specs.Widths.{slot_width}
use Rattle.kernel_code.proofs.Widths.{width_is_slot_width}
use Rattle.hashed_level.specs.Hashed.{Hashed, block_width, base_of, width_words, Holds, KeepsRules, IsAllowed, segment_of, entries_of}
use Rattle.hashed_level.specs.Hashed.{with_blocks, meaning}
use Rattle.hashed_level.specs.Laws.{block_small, prepared_keeps}
use Rattle.hashed_level.proofs.Laws.{child_is, coord_is}
use Rattle.hashed_level.specs.Code.{width_word, base_word, filled_test, locate_code, insert_code, coord_code, prepare_code}
use Rattle.hashed_level.proofs.SearchCode.{width_is, base_is, slot_read, differ_yes, differ_no, locate_runs, insert_runs, Located, Stored}

one_allowed : (l : Hashed) (parent : Span) → IsAllowed l parent → IsAllowed l (one parent.lo)
one_allowed l parent ok = record { rules = ok.rules; one_parent = refl; prepared = ok.prepared }

below_base : (free tensor level : ℕ) (e : KExpr) → Below free e → Below free (base_word tensor level e)
below_base free tensor level e b =
    mentions_bin (λ y. y < free) EveryArray Mul e (width_word tensor level) b
    (mentions_at (λ y. y < free) EveryArray (WidthArray tensor level) (Num 0) tt tt)

pub segment_does : (c : Setting) (l : Hashed) (tensor level free : ℕ) (args : List KExpr) (lo hi : KExpr) (parent : Span) (s : State)
    → slice_get args 0 ≡ Some lo → slice_get args 1 ≡ Some hi → AreBelow free args → IsAllowed l parent → Holds l tensor level s.arrays
    → ValuesAre args s (parent.lo ∷ parent.hi ∷ [])
    → Reads c (two_code free (base_word tensor level lo) (base_word tensor level hi)) free no_turns s
    (SpanLeft free (segment_of l parent))
segment_does c l tensor level free args lo hi parent s first second below ok held values =
    let start = argument_is args lo free 0 parent.lo (parent.lo ∷ parent.hi ∷ []) s first refl below values in
    let end = argument_is args hi free 1 parent.hi (parent.lo ∷ parent.hi ∷ []) s second refl below values in
    let inside = block_small l parent.lo ok.rules ok.prepared in
    let small = positions_are_small in
    let next : parent.hi * block_width l ≡ base_of l parent.lo + block_width l = ap (λ k. k * block_width l) ok.one_parent ∙ grind arith in
    let last = product_is hi (width_word tensor level) parent.hi (block_width l) s end.0
    (width_is l parent.lo tensor level s (one_allowed l parent ok) held) (omega (arith, next, inside, small)) in
    span_set c free (segment_of l parent) (base_word tensor level lo) (base_word tensor level hi) s
    (base_is l parent.lo tensor level lo s (one_allowed l parent ok) held start.0) (last
    ∙ ap Some next) (below_base free tensor level hi end.1)

pub coord_does : (c : Setting) (l : Hashed) (tensor level free : ℕ) (args : List KExpr) (pos : KExpr) (parent : Span) (q : ℕ) (s : State)
    → slice_get args 0 ≡ Some pos → AreBelow free args → IsAllowed l parent → IsIn q (segment_of l parent) → Holds l tensor level s.arrays
    → ValuesAre args s (q ∷ [])
    → Reads c (coord_code tensor level pos free) free no_turns s (OptionLeft free (coord_at (entries_of l parent) q))
coord_does c l tensor level free args pos parent q s first below ok inside held values =
    let at = argument_is args pos free 0 q (q ∷ []) s first refl below values in
    let word = At (Coordinates tensor level) pos in
    let read = slot_read l parent.lo tensor level q pos s (one_allowed l parent ok) held at.0 inside.1 in
    let x = slice_index l.slots q in
    elim (eqb_tells x empty_slot) [
      | inl k ↦ subst (λ o. Reads c (coord_code tensor level pos free) free no_turns s (OptionLeft free o))
          (sym (coord_is l q parent inside ∙ coord_none x k.1))
          (does_if_no c (filled_test tensor level pos) (two_code free (Num 1) word) (one_code free (Num 0)) [] s _ _ Never
          (differ_no word (Num empty_slot) x empty_slot s read refl k.1) (none_set c free s) (λ t h. does_nothing c t _ Never h))
      | inr k ↦ subst (λ o. Reads c (coord_code tensor level pos free) free no_turns s (OptionLeft free o))
          (sym (coord_is l q parent inside ∙ coord_some x k.1))
          (does_if_yes c (filled_test tensor level pos) (two_code free (Num 1) word) (one_code free (Num 0)) [] s 0 _ _ Never
          (differ_yes word (Num empty_slot) x empty_slot s read refl k.1)
          (some_set c free x word s read (mentions_at (λ y. y < free) EveryArray (Coordinates tensor level) pos tt at.1))
          (λ t h. does_nothing c t _ Never h))
    ]

pub child_does : (c : Setting) (l : Hashed) (free : ℕ) (args : List KExpr) (pos : KExpr) (parent : Span) (e : Entry) (vs : List ℕ)
    (s : State) → slice_get args 0 ≡ Some pos → AreBelow free args → IsAllowed l parent → StandsAt e.child.lo e (entries_of l parent)
    → ValuesAre args s (e.child.lo ∷ vs) → Reads c (position_and_next free pos) free no_turns s (SpanLeft free e.child)
child_does c l free args pos parent e vs s first below ok stands values =
    let at = argument_is args pos free 0 e.child.lo (e.child.lo ∷ vs) s first refl below values in
    let child = child_is l e.child.lo parent e ok stands in
    let small = positions_are_small in
    subst (λ span. Reads c (position_and_next free pos) free no_turns s (SpanLeft free span)) (sym child.0)
    (position_set c free e.child.lo pos s at.0 (omega (arith, child.1, small)) at.1)

pub locate_does : (c : Setting) (l : Hashed) (tensor level free : ℕ) (args : List KExpr) (g e : KExpr) (p x : ℕ) (s : State)
    → slice_get args 0 ≡ Some g → slice_get args 1 ≡ Some e → AreBelow free args → (ok : IsAllowed l (one p))
    → (held : Holds l tensor level s.arrays) → (values : ValuesAre args s (p ∷ x ∷ [])) → (xv : value e s ≡ Some x)
    → (xb : Below free e) → Does c (locate_code tensor level g e free) s (Located c l tensor level free p x e s ok held xv xb) Never
locate_does c l tensor level free args g e p x s first second below ok held values xv xb =
    let parent = argument_is args g free 0 p (p ∷ x ∷ []) s first refl below values in
    locate_runs c l tensor level free p x e s ok held xv xb g parent.0

pub insert_does : (c : Setting) (l : Hashed) (tensor level free : ℕ) (args : List KExpr) (g e : KExpr) (p x : ℕ) (s : State) → tensor ≡ 0
    → slice_get args 0 ≡ Some g → slice_get args 1 ≡ Some e → AreBelow free args → (ok : IsAllowed l (one p))
    → MayInsert HashedLetter l.size (segment_of l (one p)) (entries_of l (one p)) x → (held : Holds l tensor level s.arrays)
    → (values : ValuesAre args s (p ∷ x ∷ [])) → (xv : value e s ≡ Some x) → (xb : Below free e)
    → Does c (insert_code tensor level g e free) s (Stored c l tensor level free p x e s ok held xv xb) Never
insert_does c l tensor level free args g e p x s result first second below ok may held values xv xb =
    let parent = argument_is args g free 0 p (p ∷ x ∷ []) s first refl below values in
    insert_runs c l tensor level free p x e s ok held xv xb g parent.0 result may

nothing_there : (xs : List ℕ) → length xs ≡ 0 → xs ≡ []
nothing_there [] h = refl
nothing_there (x ∷ xs) h = absurd (omega (arith, h))

-- a level without parents has no slots
no_slots : (l : Hashed) → KeepsRules l → l.width ≡ None → l.slots ≡ []
no_slots l rules fresh = let none = rules.fresh fresh in let count = rules.count in nothing_there l.slots (count
    ∙ ap (λ k. k * block_width l) none ∙ grind arith)

-- the parents are made, and their slots are within the limit
abbrev pub Made : Hashed → ℕ → ℕ → ℕ → ℕ → State → Type 0
Made l tensor level parents most t = HoldsPrepared meaning l parents most tensor level t
    × (positions_for HashedLetter l.size parents most ≤ greatest_position_count)

slots_within : (tensor level n : ℕ) → may_have (Coordinates tensor level) n ≡ true → n ≤ greatest_position_count
slots_within tensor level n h = grind (arith, nat_tests, h)

slots_beyond : (tensor level n : ℕ) → may_have (Coordinates tensor level) n ≡ false → greatest_position_count < n
slots_beyond tensor level n h = grind (arith, nat_tests, h)

true_is_false : (b : _) → b ≡ true → b ≡ false → ⊥
true_is_false b h g = cc

-- the width is stored behind the slots
stored : (c : Setting) (l : Hashed) (tensor level free parents most : ℕ) (s u : State) (R : Refusal) → tensor ≡ 0 → KeepsRules l
    → MayPrepare HashedLetter l.width most → positions_for HashedLetter l.size parents most ≤ greatest_position_count
    → Leaves NoVariable (IsOutside tensor level) free no_turns s u → u.vars free ≡ Some (slot_width most)
    → u.arrays (WidthArray tensor level) ≡ Some []
    → u.arrays (Coordinates tensor level) ≡ Some (replicate (parents * slot_width most) empty_slot)
    → Does c (Extend (WidthArray tensor level) (Num 1) (Var free)
    ∷ []) u (λ t. Leaves NoVariable (IsOutside tensor level) free no_turns s t × Made l tensor level parents most t) R
stored c l tensor level free parents most s u R result rules may within left wide none slots =
    let w = slot_width most in
    let width_written : may_write (WidthArray tensor level) ≡ true = grind (arith, nat_tests) in
    let t = set_array u (WidthArray tensor level) ([] ++ replicate 1 w) in
    does_extend c (WidthArray tensor level) (Num 1) (Var free) [] u 1 w [] _ R refl wide width_written none
    (λ _. does_nothing c t _ R (
      leaves_array NoVariable (IsOutside tensor level) free no_turns s u (WidthArray tensor level) ([]
          ++ replicate 1 w) (λ b out. outside_apart tensor level (WidthArray tensor level) b (refl, refl) out) left,
      (
        record {
          left = with_blocks l parents most;
          keeps = prepared_keeps l parents most rules within;
          prepared = refl;
          held = record {
            width = this_array u (WidthArray tensor level) (WidthArray tensor level) ([]
                ++ replicate 1 w) (same_arr_self (WidthArray tensor level));
            slots = other_array u (WidthArray tensor level) (Coordinates tensor level) ([] ++ replicate 1 w) refl ∙ slots;
          };
        },
        within,
      ),
    ))
    (λ over. absurd (true_is_false true refl over))

-- the slots are made, or refused where those of all parents pass the limit
made_slots : (c : Setting) (l : Hashed) (tensor level free parents most n : ℕ) (s u : State) → tensor ≡ 0 → KeepsRules l
    → MayPrepare HashedLetter l.width most → Holds l tensor level u.arrays
    → Leaves NoVariable (IsOutside tensor level) free no_turns s u → u.vars free ≡ Some (slot_width most)
    → u.vars (free + 1) ≡ Some n → StandsForProduct parents (slot_width most) n
    → Does c (Extend (Coordinates tensor level) (Var (free + 1)) (Num empty_slot)
    ∷ Extend (WidthArray tensor level) (Num 1) (Var free) ∷ []) u (λ t. Leaves NoVariable (IsOutside tensor level) free no_turns s t
    × Made l tensor level parents most t)
    (RefusedWithin no_turns s (PassesLimitWithin tensor level (positions_for HashedLetter l.size parents most)))
made_slots c l tensor level free parents most n s u result rules may held left wide asked stands =
    let w = slot_width most in
    let R = RefusedWithin no_turns s (PassesLimitWithin tensor level (positions_for HashedLetter l.size parents most)) in
    let none = no_slots l rules may.unprepared in
    let size : length l.slots + n ≡ n = ap (λ ys. length ys + n) none ∙ omega arith in
    let coordinates_written : may_write (Coordinates tensor level) ≡ true = grind (arith, nat_tests) in
    let xs : List ℕ = l.slots ++ replicate n empty_slot in
    let t = set_array u (Coordinates tensor level) xs in
    does_extend c (Coordinates tensor level) (Var (free + 1)) (Num empty_slot)
    (Extend (WidthArray tensor level) (Num 1) (Var free) ∷ []) u n empty_slot l.slots _ R asked refl coordinates_written held.slots
    (λ some.
    let few : n ≤ greatest_position_count = let long = slots_within tensor level (length l.slots + n) some in omega (arith, long, size) in
    let all : n ≡ parents * w = all_parents parents w n stands few in
    stored c l tensor level free parents most s t R result rules may (omega (arith, few, all))
    (leaves_array NoVariable (IsOutside tensor level) free no_turns s u (Coordinates tensor level) xs
    (λ b out. outside_apart tensor level (Coordinates tensor level) b (refl, refl) out) left)
    wide
    (other_array u (Coordinates tensor level) (WidthArray tensor level) xs refl ∙ held.width
    ∙ ap (λ o. Some (width_words o)) may.unprepared)
    (this_array u (Coordinates tensor level) (Coordinates tensor level) xs (same_arr_self (Coordinates tensor level))
    ∙ ap (λ ys. Some (ys ++ replicate n empty_slot)) none ∙ ap (λ k. Some (replicate k empty_slot)) all))
    (λ over.
    let long = slots_beyond tensor level (length l.slots + n) over in (
      left.turns,
      (n, record { array = (refl, refl); told = size; above = omega (arith, long, size) }, stands.within),
    ))

pub prepare_does : (c : Setting) (l : Hashed) (tensor level free : ℕ) (args : List KExpr) (g e : KExpr) (parents most : ℕ) (s : State)
    → tensor ≡ 0 → slice_get args 0 ≡ Some g → slice_get args 1 ≡ Some e → AreBelow free args → KeepsRules l
    → MayPrepare HashedLetter l.width most → Holds l tensor level s.arrays → ValuesAre args s (parents ∷ most ∷ [])
    → Grows c (prepare_code tensor level g e free) free tensor level no_turns s (Made l tensor level parents most)
    (PassesLimitWithin tensor level (positions_for HashedLetter l.size parents most))
prepare_does c l tensor level free args g e parents most s result first second below rules may held values =
    let w = slot_width most in
    let R = RefusedWithin no_turns s (PassesLimitWithin tensor level (positions_for HashedLetter l.size parents most)) in
    let count = guarded_product g (Var free) in
    let rest = Extend (Coordinates tensor level) (Var (free + 1)) (Num empty_slot)
    ∷ Extend (WidthArray tensor level) (Num 1) (Var free) ∷ [] in
    let small = positions_are_small in
    let few = may.coordinates in
    let parent = argument_is args g free 0 parents (parents ∷ most ∷ []) s first refl below values in
    let each = argument_is args e free 1 most (parents ∷ most ∷ []) s second refl below values in
    let s1 = set_var s free w in
    let wide : value (Width e) s ≡ Some w = value_width e s ∙ ap width_of each.0 ∙ width_is_slot_width most (omega (arith, few, small)) in
    let kept : value g s1 ≡ Some parents =
    below_kept free g s s1 parent.1 (λ y h. other_var s free y w (λ is. omega (arith, h, is))) (λ a. refl) ∙ parent.0 in
    let product = guarded_told g (Var free) parents w s1 kept (this_var s free w) (widths_are_factors most few) in
    let n = product.0 in
    let s2 = set_var s1 (free + 1) n in
    let left = leaves_set NoVariable (IsOutside tensor level) free no_turns s s1 (free + 1) n (λ y h is. omega (arith, h, is))
    (leaves_set NoVariable (IsOutside tensor level) free no_turns s s free w (λ y h is. omega (arith, h, is))
    (leaves_none NoVariable (IsOutside tensor level) free no_turns s)) in
    does_set c free (Width e) (Set (free + 1) count ∷ rest) s w _ R wide
    (does_set c (free + 1) count rest s1 n _ R product.1
    (made_slots c l tensor level free parents most n s s2 result rules may held left
    (other_var s1 (free + 1) free n (λ is. omega (arith, is)) ∙ this_var s free w) (this_var s1 (free + 1) n) product.2))
