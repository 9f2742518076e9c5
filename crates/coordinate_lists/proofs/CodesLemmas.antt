-- Lemmas about what specs/Codes.antt defines.
use Rattle.std.specs.Prelude.{◌≡◌, ℕ, ◌+◌, ◌-◌, ◌≤◌, ◌<◌, ◌^◌, nat_le, true, false, List, [], ◌∷◌, ◌++◌, length, Some, slice_get}
use Rattle.std.specs.Prelude.{slice_index_or, refl}
use Rattle.std.proofs.Common.{◌∙◌, sym, subst, arith}
use Rattle.std.proofs.lemmas.Option.{slice_get-get_or}
use Rattle.std.proofs.lemmas.Bool.Decides.{nat_tests}
use Rattle.limits.specs.Limits.{greatest_position_count}
use Rattle.limits.proofs.Limits.{positions_are_small}
use Rattle.kernel_code.specs.declared.syntax.Arr.TheVariants.{Coordinates}
use Rattle.kernel_code.specs.declared.syntax.LoopKind.TheVariants.{Skip}
use Rattle.kernel_code.specs.declared.syntax.KExpr.{KExpr, Num, At}
use Rattle.kernel_code.specs.declared.syntax.KStmt.{Push}
use Rattle.kernel_code.proofs.ArrayNames.{same_arr_self}
use Rattle.kernel_code.specs.Meaning.{Setting, State, value, set_array}
use Rattle.kernel_code.proofs.Does.{does_push, does_nothing}
use Rattle.kernel_code.specs.Keeps.{EveryArray, no_turns}
use Rattle.kernel_code.proofs.Keeps.{mentions_at, this_array, other_array}
use Rattle.level_core.specs.declared.span.Span.{Span}
use Rattle.level_core.specs.declared.span.Entry.{Entry}
use Rattle.lists.proofs.Tests.{within_tested}
use Rattle.kernel_code.specs.Pieces.{position_and_next}
use Rattle.kernel_code.proofs.Words.{word_is}
use Rattle.level_core.specs.Entries.{span, IsIn, StandsAt, coord_at}
use Rattle.level_core.specs.Logs.{Rises, slice, entries_between}
use Rattle.level_core.specs.Fragments.{AreBelow, ValuesAre, Reads, Grows, RefusedWithin, PassesLimit, SpanLeft, OptionLeft, turns_of}
use Rattle.level_core.specs.FragmentLaws.{two_code}
use Rattle.level_core.proofs.FragmentLaws.{outside_apart, argument_is, some_set, position_set}
use Rattle.coordinate_lists.proofs.Spans.{entries_coord, entry_is_group, entry_is_one}
use Rattle.coordinate_lists.specs.Skips.{skip_code}
use Rattle.coordinate_lists.proofs.Skips.{skip_law}
use Rattle.coordinate_lists.specs.Codes.{Appended}

-- the coordinate of a position among those of a segment
pub coord_law : (c : Setting) (coords : List ℕ) (tensor level free pos : ℕ) (segment : Span) (args : List KExpr) (e : KExpr) (s : State)
    → slice_get args 0 ≡ Some e → AreBelow free args
    → segment.hi ≤ length coords → IsIn pos segment → s.arrays (Coordinates tensor level) ≡ Some coords → ValuesAre args s (pos ∷ [])
    → Reads c (two_code free (Num 1) (At (Coordinates tensor level) e)) free no_turns s
    (OptionLeft free (coord_at (entries_between coords segment) pos))
coord_law c coords tensor level free pos segment args e s first below inside in_segment held values =
    let there : slice_get coords pos ≡ Some (slice_index_or coords pos 0) =
    slice_get-get_or coords pos 0 (omega (arith, in_segment.1, inside)) in
    let at = argument_is args e free 0 pos (pos ∷ []) s first refl below values in
    subst (λ o. Reads c (two_code free (Num 1) (At (Coordinates tensor level) e)) free no_turns s (OptionLeft free o))
    (sym (entries_coord coords segment pos inside in_segment ∙ there))
    (some_set c free (slice_index_or coords pos 0) (At (Coordinates tensor level) e) s
    (word_is (Coordinates tensor level) e coords pos (slice_index_or coords pos 0) s held at.0 there)
    (mentions_at (λ y. y < free) EveryArray (Coordinates tensor level) e tt at.1))

-- where each coordinate stands once, the child of a position is the position
pub position_law : (c : Setting) (coords : List ℕ) (free : ℕ) (segment : Span) (entry : Entry) (args : List KExpr) (e : KExpr) (s : State)
    → slice_get args 0 ≡ Some e → AreBelow free args
    → segment.hi ≤ length coords → length coords ≤ greatest_position_count → Rises true 0 (slice coords segment)
    → StandsAt entry.child.lo entry (entries_between coords segment) → ValuesAre args s (entry.child.lo ∷ segment.lo ∷ segment.hi ∷ [])
    → Reads c (position_and_next free e) free no_turns s (SpanLeft free entry.child)
position_law c coords free segment entry args e s first below inside limit rises stands values =
    let g = entry_is_group coords segment entry entry.child.lo inside stands in
    let alone = entry_is_one coords segment entry entry.child.lo rises stands in
    let at = argument_is args e free 0 entry.child.lo (entry.child.lo ∷ segment.lo ∷ segment.hi ∷ []) s first refl below values in
    let small : entry.child.lo + 1 < 2 ^ 64 = omega (arith, positions_are_small, g.some, g.inside, inside, limit) in
    subst (λ hi. Reads c (position_and_next free e) free no_turns s (SpanLeft free (span entry.child.lo hi))) (sym alone)
    (position_set c free entry.child.lo e s at.0 small at.1)

-- else its end is found by the loop
pub group_law : (c : Setting) (coords : List ℕ) (tensor level free : ℕ) (segment : Span) (entry : Entry) (args : List KExpr)
    (e hi : KExpr) (s : State) → slice_get args 0 ≡ Some e → slice_get args 2 ≡ Some hi → AreBelow free args
    → segment.hi ≤ length coords → length coords ≤ greatest_position_count
    → StandsAt entry.child.lo entry (entries_between coords segment) → s.arrays (Coordinates tensor level) ≡ Some coords
    → ValuesAre args s (entry.child.lo ∷ segment.lo ∷ segment.hi ∷ [])
    → Reads c (skip_code (Coordinates tensor level) free e hi) free (turns_of Skip (entry.child.hi - entry.child.lo)) s
    (SpanLeft free entry.child)
group_law c coords tensor level free segment entry args e hi s first third below inside limit stands held values =
    let at = argument_is args e free 0 entry.child.lo (entry.child.lo ∷ segment.lo ∷ segment.hi ∷ []) s first refl below values in
    let end = argument_is args hi free 2 segment.hi (entry.child.lo ∷ segment.lo ∷ segment.hi ∷ []) s third refl below values in
    skip_law c coords (Coordinates tensor level) free segment entry e hi s held at.0 end.0 at.1 end.1
    (entry_is_group coords segment entry entry.child.lo inside stands) inside (omega (arith, limit, positions_are_small))

past_test : (n m : ℕ) → nat_le n m ≡ false → m < n
past_test n m h = grind (arith, nat_tests, h)

first_value : (args : List KExpr) (e : KExpr) (x : ℕ) (s : State) → slice_get args 0 ≡ Some e → ValuesAre args s (x ∷ [])
    → value e s ≡ Some x
first_value [] e x s h v = absurd v
first_value (y ∷ args) e x s h v = let same : y ≡ e = cc in subst (λ z. value z s ≡ Some x) same v.0

-- a push appends the coordinate, or is refused where it passes the limit
pub append_law : (c : Setting) (coords : List ℕ) (level free x : ℕ) (args : List KExpr) (e : KExpr) (s : State)
    → slice_get args 0 ≡ Some e → ValuesAre args s (x ∷ []) → s.arrays (Coordinates 0 level) ≡ Some coords
    → Grows c (Push (Coordinates 0 level) e
    ∷ []) free 0 level no_turns s (Appended level x coords s) (PassesLimit 0 level (length coords + 1))
append_law c coords level free x args e s first values held =
    let t = set_array s (Coordinates 0 level) (coords ++ x ∷ []) in
    let R = RefusedWithin no_turns s (PassesLimit 0 level (length coords + 1)) in
    does_push c (Coordinates 0 level) e [] s x coords _ R (first_value args e x s first values) refl held
    (λ may. does_nothing c t _ R (
      record {
        below = λ y l z. refl;
        arrays =
            λ a out. other_array s (Coordinates 0 level) a (coords ++ x
            ∷ []) (outside_apart 0 level (Coordinates 0 level) a (refl, refl) out);
        turns = λ k. omega arith;
      },
      record {
        array = this_array s (Coordinates 0 level) (Coordinates 0 level) (coords ++ x ∷ []) (same_arr_self (Coordinates 0 level));
        within = within_tested (length coords + 1) greatest_position_count may;
        others = λ a apart. other_array s (Coordinates 0 level) a (coords ++ x ∷ []) apart;
      },
    ))
    (λ over. (
      λ k. omega arith,
      record {
        array = (refl, refl);
        told = refl;
        above =
            past_test (length coords + 1) greatest_position_count over;
      },
    ))
