-- Lemmas about what specs/CodeLaws.antt defines.
use Rattle.std.specs.Prelude.{◌≡◌, ◌≢◌, ℕ, ◌+◌, ◌-◌, ◌≤◌, ◌<◌, ◌^◌, nat_lt, Bool, true, false, if◌then◌else◌, List, [], ◌∷◌, ◌++◌, length}
use Rattle.std.specs.Prelude.{take, replicate, slice_get, slice_set, Some, refl}
use Rattle.std.proofs.Common.{◌∙◌, sym, ap, arith}
use Rattle.std.proofs.lemmas.Bool.Decides.{nat_tests}
use Rattle.std.proofs.lemmas.List.{append-nil}
use Rattle.limits.specs.Limits.{greatest_position_count}
use Rattle.limits.proofs.Limits.{positions_are_small}
use Rattle.kernel_code.specs.declared.syntax.Arr.{Arr}
use Rattle.kernel_code.specs.declared.syntax.Arr.TheVariants.{Ends, Coordinates}
use Rattle.kernel_code.specs.declared.syntax.Op.TheVariants.{Add, Sub, Less}
use Rattle.kernel_code.specs.declared.syntax.KExpr.{KExpr, Num, Len, At, Bin}
use Rattle.kernel_code.specs.declared.syntax.KStmt.{KStmt, Extend}
use Rattle.kernel_code.specs.Arrays.{same_arr, may_have}
use Rattle.kernel_code.proofs.ArrayNames.{same_arr_self}
use Rattle.kernel_code.specs.Meaning.{Setting, State, value, length_of, set_array}
use Rattle.kernel_code.specs.Does.{Never}
use Rattle.kernel_code.proofs.Does.{does_nothing, does_put, does_extend, does_if_yes, does_if_no, does_weaker}
use Rattle.kernel_code.specs.Keeps.{EveryArray, no_turns}
use Rattle.kernel_code.proofs.Keeps.{mentions_at, leaves_none, leaves_array, other_array, this_array}
use Rattle.level_core.specs.declared.span.Span.{Span}
use Rattle.level_core.specs.declared.span.Entry.{Entry}
use Rattle.level_core.specs.declared.stage.Stage.TheVariants.{Unfinished, Finished}
use Rattle.level_core.specs.Logs.{Log, total, with_parents, with_coord, with_edges, CodeMayReserve, MayAppend, MayAppendEdges}
use Rattle.level_core.specs.Fragments.{AreBelow, ValuesAre, IsOutside, Reads, Writes, Grows, RefusedWithin, SpanLeft, PassesLimit}
use Rattle.level_core.specs.Fragments.{child_turns, turns_of}
use Rattle.level_core.specs.FragmentLaws.{two_code}
use Rattle.level_core.proofs.FragmentLaws.{outside_apart, argument_is, span_set}
use Rattle.kernel_code.proofs.Words.{word_is, sum_is, difference_is, less_yes, less_no}
use Rattle.coordinate_lists.specs.Codes.{Appended}
use Rattle.kernel_code.specs.declared.syntax.LoopKind.TheVariants.{Skip}
use Rattle.level_core.specs.Codes.{HoldsLog}
use Rattle.compressed_level.specs.Compressed.{CompressedLevel, letter_of, ends_of, KeepsRules, IsAllowed, segment_of, Holds, meaning}
use Rattle.compressed_level.specs.Code.{reserve_code, edges_code}
use Rattle.compressed_level.specs.Laws.{logged, keeps_parents, ends_are, unfinished_ends, ungiven_is, never_branchless}
use Rattle.compressed_level.proofs.Laws.{end_is, keeps_coord, keeps_edges, edges_are, set_behind}

-- the level with room for more parents
abbrev reserved : CompressedLevel → ℕ → CompressedLevel
reserved l parents = logged l (with_parents (letter_of l.unique) parents l.log)

-- what reserving leaves, where the parents are within the limit
abbrev pub Reserves : CompressedLevel → ℕ → ℕ → ℕ → State → Type 0
Reserves l parents tensor level t = HoldsLog meaning l (with_parents (letter_of l.unique) parents l.log) tensor level t
    × (parents ≤ greatest_position_count)

-- where a parent's positions begin and end is left
pub segment_does : (c : Setting) (l : CompressedLevel) (tensor level free : ℕ) (parent : Span) (args : List KExpr) (a b : KExpr)
    (s : State) → slice_get args 0 ≡ Some a → slice_get args 1 ≡ Some b → AreBelow free args
    → IsAllowed l parent → Holds l tensor level s.arrays → ValuesAre args s (parent.lo ∷ parent.hi ∷ [])
    → Reads c (two_code free (At (Ends tensor level) a) (At (Ends tensor level) b)) free no_turns s (SpanLeft free (segment_of l parent))
segment_does c l tensor level free parent args a b s first second below ok held values =
    let x = argument_is args a free 0 parent.lo (parent.lo ∷ parent.hi ∷ []) s first refl below values in
    let y = argument_is args b free 1 parent.hi (parent.lo ∷ parent.hi ∷ []) s second refl below values in
    let single = ok.single in
    span_set c free (segment_of l parent) (At (Ends tensor level) a) (At (Ends tensor level) b) s
    (word_is (Ends tensor level) a (ends_of l.log.stage l.log.counts) parent.lo (total (take parent.lo l.log.counts)) s held.ends x.0
    (end_is l parent parent.lo ok (omega (arith, single))))
    (word_is (Ends tensor level) b (ends_of l.log.stage l.log.counts) parent.hi (total (take parent.hi l.log.counts)) s held.ends y.0
    (end_is l parent parent.hi ok (omega arith)))
    (mentions_at (λ y. y < free) EveryArray (Ends tensor level) b tt y.1)

outside_ends : (level : ℕ) (a : Arr) → IsOutside 0 level a → same_arr (Ends 0 level) a ≡ false
outside_ends level a out = outside_apart 0 level (Ends 0 level) a (refl, refl) out

-- the level that a state with other segment ends holds
holds_ends : (l m : CompressedLevel) (level : ℕ) (s : State) (xs : List ℕ) → Holds l 0 level s.arrays
    → xs ≡ ends_of m.log.stage m.log.counts → m.log.coords ≡ l.log.coords → Holds m 0 level (set_array s (Ends 0 level) xs).arrays
holds_ends l m level s xs h e coords = record {
  ends = this_array s (Ends 0 level) (Ends 0 level) xs (same_arr_self (Ends 0 level)) ∙ ap Some e;
  coords = other_array s (Ends 0 level) (Coordinates 0 level) xs refl ∙ h.coords ∙ ap Some (sym coords);
}

reserved_counts : (l : CompressedLevel) (parents more : ℕ) → more ≡ parents - length l.log.counts → l.log.stage ≢ Finished
    → ends_of l.log.stage l.log.counts ++ replicate more 0 ≡ ends_of Unfinished (reserved l parents).log.counts
reserved_counts l parents more h f =
    ap (λ xs. xs ++ replicate more 0) (ends_are l.log.stage l.log.counts f) ∙ ap (λ n. 0 ∷ (l.log.counts ++ replicate n 0)) h
    ∙ ap (λ z. 0 ∷ (l.log.counts ++ replicate (parents - length l.log.counts) z)) (sym (ungiven_is l.unique))

ends_length : (l : CompressedLevel) → l.log.stage ≢ Finished → length (ends_of l.log.stage l.log.counts) ≡ length l.log.counts + 1
ends_length l f = ap length (ends_are l.log.stage l.log.counts f) ∙ omega arith

-- the state that keeps the level with room for more parents
reserves : (l : CompressedLevel) (level parents more : ℕ) (s : State) (xs : List ℕ)
    → xs ≡ ends_of l.log.stage l.log.counts ++ replicate more 0 → more ≡ parents - length l.log.counts → parents ≤ greatest_position_count
    → l.log.stage ≢ Finished → KeepsRules l
    → s.arrays (Ends 0 level) ≡ Some xs → s.arrays (Coordinates 0 level) ≡ Some l.log.coords → Reserves l parents 0 level s
reserves l level parents more s xs are count within reservable k ends coords = (
  record {
    left = reserved l parents;
    keeps = keeps_parents l parents k (record { within = within; reservable = reservable });
    kind = refl;
    size = refl;
    log = refl;
    held = record { ends = ends ∙ ap Some (are ∙ reserved_counts l parents more count reservable); coords = coords };
  },
  within,
)

ends_within : (level n : ℕ) → may_have (Ends 0 level) n ≡ true → n ≤ greatest_position_count + 1
ends_within level n h = grind (arith, nat_tests, h)

ends_beyond : (level n : ℕ) → may_have (Ends 0 level) n ≡ false → greatest_position_count + 1 < n
ends_beyond level n h = grind (arith, nat_tests, h)

-- zeros behind the segment ends, or the refusal of more parents than the limit
more_ends : (c : Setting) (l : CompressedLevel) (level free parents : ℕ) (e : KExpr) (s : State) → KeepsRules l → l.log.stage ≢ Finished
    → Holds l 0 level s.arrays → length l.log.counts ≤ parents → value e s ≡ Some (parents - length l.log.counts)
    → Grows c (Extend (Ends 0 level) e (Num 0) ∷ []) free 0 level no_turns s (Reserves l parents 0 level) (PassesLimit 0 level parents)
more_ends c l level free parents e s k reservable held fewer more_is =
    let more : ℕ = parents - length l.log.counts in
    let xs : List ℕ = ends_of l.log.stage l.log.counts in
    let R = RefusedWithin no_turns s (PassesLimit 0 level parents) in
    let long = ends_length l reservable in
    let size : length xs + more ≡ parents + 1 = omega (arith, long, fewer) in
    does_extend c (Ends 0 level) e (Num 0) [] s more 0 xs _ R more_is refl refl held.ends
    (λ may. let some = ends_within level (length xs + more) may in
    does_nothing c (set_array s (Ends 0 level) (xs ++ replicate more 0)) _ R (
      leaves_array _ (IsOutside 0 level) free no_turns s s (Ends 0 level) (xs
          ++ replicate more 0) (outside_ends level) (leaves_none _ (IsOutside 0 level) free no_turns s),
      reserves l level parents more (set_array s (Ends 0 level) (xs ++ replicate more 0)) (xs
          ++ replicate more 0) refl refl (omega (arith, some, size)) reservable k
          (this_array s (Ends 0 level) (Ends 0 level) (xs ++ replicate more 0) (same_arr_self (Ends 0 level)))
          (other_array s (Ends 0 level) (Coordinates 0 level) (xs ++ replicate more 0) refl ∙ held.coords),
    ))
    (λ no. let many = ends_beyond level (length xs + more) no in (
      λ k. omega arith,
      record {
        array = (refl, refl);
        told = ap (λ n. n - 1) size ∙ omega arith;
        above =
            omega (arith, many, size);
      },
    ))

pub reserve_does : (c : Setting) (l : CompressedLevel) (level free n parents : ℕ) (args : List KExpr) (p : KExpr) (s : State)
    → slice_get args 1 ≡ Some p → AreBelow free args
    → KeepsRules l → CodeMayReserve (letter_of l.unique) parents l.log → Holds l 0 level s.arrays → ValuesAre args s (n ∷ parents ∷ [])
    → Grows c (reserve_code level p) free 0 level no_turns s (Reserves l parents 0 level) (PassesLimit 0 level parents)
reserve_does c l level free n parents args p s second below k m held values = by_test (nat_lt parents (length l.log.counts + 1)) refl
  where
    word : parents < 2 ^ 64
    word = m.word

    at : value p s ≡ Some parents
    at = (argument_is args p free 1 parents (n ∷ parents ∷ []) s second refl below values).0

    few : length l.log.counts ≤ greatest_position_count
    few = k.parents

    long : value (Len (Ends 0 level)) s ≡ Some (length l.log.counts + 1)
    long = ap length_of held.ends ∙ ap Some (ends_length l m.reservable)

    there : value (Bin Sub (Len (Ends 0 level)) (Num 1)) s ≡ Some (length l.log.counts)
    there = difference_is (Len (Ends 0 level)) (Num 1) (length l.log.counts + 1) 1 s long refl (omega (arith, few, positions_are_small))
        (omega arith) ∙ ap Some (omega arith)

    by_test : (b : Bool) → nat_lt parents (length l.log.counts + 1) ≡ b
        → Grows c (reserve_code level p) free 0 level no_turns s (Reserves l parents 0 level) (PassesLimit 0 level parents)
    by_test true is =
        let enough : parents ≤ length l.log.counts = grind (arith, nat_tests, is) in
        let same : ends_of l.log.stage l.log.counts ≡ ends_of l.log.stage l.log.counts
        ++ replicate 0 0 = sym (append-nil (ends_of l.log.stage l.log.counts)) in
        does_if_yes c (Bin Less p (Len (Ends 0 level))) [] _ [] s 0 _ _ (RefusedWithin no_turns s (PassesLimit 0 level parents))
        (less_yes p (Len (Ends 0 level)) parents (length l.log.counts + 1) s at long (omega (arith, enough)))
        (does_nothing c s _ (RefusedWithin no_turns s (PassesLimit 0 level parents)) (
          leaves_none _ (IsOutside 0 level) free no_turns s,
          reserves l level parents 0 s (ends_of l.log.stage l.log.counts) same
              (omega (arith, enough)) (omega (arith, enough, few)) m.reservable k held.ends held.coords,
        ))
        (λ t h. does_nothing c t _ (RefusedWithin no_turns s (PassesLimit 0 level parents)) h)
    by_test false is =
        let fewer : length l.log.counts < parents = grind (arith, nat_tests, is) in
        does_if_no c (Bin Less p (Len (Ends 0 level))) [] _ [] s _ _ (RefusedWithin no_turns s (PassesLimit 0 level parents))
        (less_no p (Len (Ends 0 level)) parents (length l.log.counts + 1) s at long (omega (arith, fewer)))
        (more_ends c l level free parents (Bin Sub p (Bin Sub (Len (Ends 0 level)) (Num 1))) s k m.reservable held (omega (arith, fewer))
        (difference_is p (Bin Sub (Len (Ends 0 level)) (Num 1)) parents (length l.log.counts) s at there word (omega (arith, fewer))))
        (λ t h. does_nothing c t _ (RefusedWithin no_turns s (PassesLimit 0 level parents)) h)

abbrev given : CompressedLevel → ℕ → ℕ → ℕ → CompressedLevel
given l parent begin end = logged l (with_edges (letter_of l.unique) parent begin end l.log)

given_ends : (l : CompressedLevel) (parent begin end : ℕ) → l.log.stage ≡ Unfinished
    → slice_set (ends_of l.log.stage l.log.counts) (parent + 1) (end - begin) ≡ ends_of (given l parent begin end).log.stage
    (given l parent begin end).log.counts
given_ends l parent begin end u =
    ap (λ xs. slice_set xs (parent + 1) (end - begin)) (ends_are l.log.stage l.log.counts (unfinished_ends l.log.stage u))
    ∙ set_behind l.log.counts parent (end - begin)
    ∙ sym (ends_are l.log.stage (slice_set l.log.counts parent (end - begin)) (unfinished_ends l.log.stage u))
    ∙ ap (λ log. ends_of log.stage log.counts) (sym (edges_are l.unique parent begin end l.log))

given_coords : (unique : Bool) (parent begin end : ℕ) (log : Log) → (with_edges (letter_of unique) parent begin end log).coords ≡ log.coords
given_coords true parent begin end log = refl
given_coords false parent begin end log = refl

pub edges_does : (c : Setting) (l : CompressedLevel) (level free parent begin end : ℕ) (args : List KExpr) (p b e : KExpr) (s : State)
    → slice_get args 0 ≡ Some p → slice_get args 1 ≡ Some b → slice_get args 2 ≡ Some e → AreBelow free args
    → KeepsRules l → MayAppendEdges (letter_of l.unique) parent begin end l.log → Holds l 0 level s.arrays
    → ValuesAre args s (parent ∷ begin ∷ end ∷ [])
    → Writes c (edges_code level p b e) free 0 level no_turns s
    (HoldsLog meaning l (with_edges (letter_of l.unique) parent begin end l.log) 0 level)
edges_does c l level free parent begin end args p b e s first second third below k m held values =
    let x = argument_is args p free 0 parent (parent ∷ begin ∷ end ∷ []) s first refl below values in
    let y = argument_is args b free 1 begin (parent ∷ begin ∷ end ∷ []) s second refl below values in
    let z = argument_is args e free 2 end (parent ∷ begin ∷ end ∷ []) s third refl below values in
    let g = m.gives (never_branchless l.unique) in
    let reserved = g.reserved in
    let begins = g.begins in
    let ends = g.ends in
    let sum = k.given in
    let parents = k.parents in
    let few = k.few in
    let small = positions_are_small in
    let size = ends_length l (unfinished_ends l.log.stage m.unfinished) in
    let xs : List ℕ = slice_set (ends_of l.log.stage l.log.counts) (parent + 1) (end - begin) in
    does_put c (Ends 0 level) (Bin Add p (Num 1)) (Bin Sub e b) [] s (parent + 1) (end - begin) (ends_of l.log.stage l.log.counts) _ Never
    (sum_is p (Num 1) parent 1 s x.0 refl (omega (arith, reserved, parents, small)))
    (difference_is e b end begin s z.0 y.0 (omega (arith, ends, few, small)) (omega (arith, begins, ends, sum)))
    refl held.ends (omega (arith, size, reserved))
    (does_nothing c (set_array s (Ends 0 level) xs) _ Never (
      leaves_array _ (IsOutside 0 level) free no_turns s s (Ends 0 level) xs (outside_ends level)
          (leaves_none _ (IsOutside 0 level) free no_turns s),
      record {
        left = given l parent begin end;
        keeps = keeps_edges l parent begin end k m;
        kind = refl;
        size = refl;
        log = refl;
        held =
            holds_ends l (given l parent begin end) level s xs held (given_ends l parent begin end m.unfinished)
            (given_coords l.unique parent begin end l.log);
      },
    ))

-- the letters of two levels tell whether they are unique
pub letter_tells : (u v : Bool) → letter_of u ≡ letter_of v → u ≡ v
letter_tells true true h = refl
letter_tells true false h = absurd (apart h)
  where
    apart : letter_of true ≡ letter_of false → ⊥
    apart h = cc
letter_tells false true h = absurd (apart h)
  where
    apart : letter_of false ≡ letter_of true → ⊥
    apart h = cc
letter_tells false false h = refl

pub child_turns_are : (u : Bool) (e : Entry)
    → child_turns (letter_of u) e ≡ (if u then no_turns else turns_of Skip (e.child.hi - e.child.lo))
child_turns_are true e = refl
child_turns_are false e = refl

pub append_does : (c : Setting) (l : CompressedLevel) (level free x : ℕ) (code : List KStmt) (s : State) → KeepsRules l
    → MayAppend (letter_of l.unique) l.size x l.log → Holds l 0 level s.arrays
    → Grows c code free 0 level no_turns s (Appended level x l.log.coords s) (PassesLimit 0 level (length l.log.coords + 1))
    → Grows c code free 0 level no_turns s (λ t. HoldsLog meaning l (with_coord x l.log) 0 level t
    × (length l.log.coords + 1 ≤ greatest_position_count)) (PassesLimit 0 level (length l.log.coords + 1))
append_does c l level free x code s k may held d =
    let R = RefusedWithin no_turns s (PassesLimit 0 level (length l.log.coords + 1)) in
    does_weaker c code s _ _ R R d
    (λ t h. (
      h.0,
      (
        record {
          left = logged l (with_coord x l.log);
          keeps = keeps_coord l x k may h.1.within;
          kind = refl;
          size = refl;
          log = refl;
          held = record { ends = h.1.others (Ends 0 level) refl ∙ held.ends; coords = h.1.array };
        },
        h.1.within,
      ),
    ))
    (λ t a n z. z)
