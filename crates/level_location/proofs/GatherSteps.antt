-- What the code does that gathers levels before a loop.
use Rattle.std.specs.Prelude.{◌≡◌, ℕ, suc, ◌+◌, ◌-◌, ◌≤◌, ◌<◌, Bool, true, false, if◌then◌else◌, List, [], ◌∷◌, ◌++◌, length, drop}
use Rattle.std.specs.Prelude.{Option, Some, None, slice_get, refl}
use Rattle.std.proofs.Common.{◌∙◌, sym, ap, subst, arith}
use Rattle.kernel_code.specs.declared.syntax.Arr.{Arr}
use Rattle.kernel_code.specs.declared.syntax.Arr.TheVariants.{Range, Values, Dimension, Ends, Coordinates, Width, Key, Sums}
use Rattle.kernel_code.specs.declared.syntax.Arr.TheVariants.{ListCoordinates, ListPositions}
use Rattle.kernel_code.specs.declared.syntax.LoopKind.{LoopKind}
use Rattle.kernel_code.specs.declared.syntax.LoopKind.TheVariants.{Gather}
use Rattle.kernel_code.specs.declared.syntax.KExpr.{Var}
use Rattle.kernel_code.specs.declared.syntax.KStmt.{KStmt}
use Rattle.kernel_code.specs.Meaning.{Setting, State, same_kind}
use Rattle.kernel_code.specs.Does.{Never}
use Rattle.kernel_code.specs.Keeps.{no_turns}
use Rattle.kernel_code.proofs.Does.{does_append, does_nothing, does_weaker}
use Rattle.level_core.specs.declared.letter.Letter.{Letter}
use Rattle.level_core.specs.declared.span.Span.{Span}
use Rattle.level_core.specs.declared.span.Entry.{Entry}
use Rattle.level_core.specs.Fragments.{IsOf, turns_of}
use Rattle.level_core.specs.Kinds.{properties}
use Rattle.level_core.specs.Meaning.{Arrays}
use Rattle.level_cursors.specs.Children.{ChildLeft}
use Rattle.level_cursors.specs.Cursors.{turns_if}
use Rattle.format_spec.specs.declared.format.FormatLevel.{FormatLevel}
use Rattle.index_notation.specs.declared.syntax.Statement.{Statement}
use Rattle.lists.specs.Each.{Each}
use Rattle.tensor_storage.specs.declared.level.StorageLevel.{StorageLevel}
use Rattle.tensor_storage.specs.Levels.{meaning}
use Rattle.tensor_storage.specs.Laws.{laws}
use Rattle.tensor_storage.specs.Storages.{IsOpen}
use Rattle.gathered_lists.specs.Gathered.{Fills, Gathers}
use Rattle.gathered_lists.specs.InOrder.{in_order}
use Rattle.gathered_lists.specs.Keeping.{rows_kept}
use Rattle.gathered_lists.specs.Rows.{HoldsEntries}
use Rattle.result_targets.specs.Scratch.{IsOfList, HasList}
use Rattle.kernel_correctness.specs.Stores.{AreHeld}
use Rattle.loop_code.specs.declared.loops.Seek.{Seek}
use Rattle.loop_code.specs.Loops.{Env}
use Rattle.loop_code.specs.Parts.{entries_of}
use Rattle.loop_code.specs.Places.{AreSeeks, deeper}
use Rattle.lowering.specs.Layouts.{layout_of}
use Rattle.lowering.specs.Stored.{entries_at as entries_stored}
use Rattle.operand_arrays.specs.Operands.{Operands, AreReady, stored_in}
use Rattle.term_code.specs.declared.places.AccessPlace.{AccessPlace}
use Rattle.term_code.specs.declared.places.Places.{Places}
use Rattle.term_code.specs.Places.{AreBelow}
use Rattle.term_code.proofs.PlaceLaws.{keeps_kept}
use Rattle.level_location.specs.Listed.{Gathered, IsOfLists, IsOffLists, HasLists, ListsHold, AreNext, GathersSeeks, GathersAll}
use Rattle.level_location.specs.Listed.{gather_turns, list_turns}
use Rattle.level_location.specs.Made.{place_of}
use Rattle.level_location.specs.SeekCursors.{ends_at}
use Rattle.level_location.specs.Segments.{segment_at}
use Rattle.level_location.specs.Walked.{IsLevel, is_listed, letter_of, next_list, past_lists}
use Rattle.level_location.proofs.CursorFacts.{place_is}
use Rattle.level_location.proofs.Levels.{LevelThere, seek_level, seek_stored, apart, listed_unordered, listed_not_full}
use Rattle.level_location.proofs.Lists.{next_listed, next_unlisted, next_more, past_lists_more}

-- an array of a level isn't one of a list
level_off : (tensor level list : ℕ) (a : Arr) → IsOf tensor level a → IsOfList list a → ⊥
level_off tensor level list Range h g = g
level_off tensor level list (Values n) h g = g
level_off tensor level list (Dimension n k) h g = g
level_off tensor level list (Ends n k) h g = g
level_off tensor level list (Coordinates n k) h g = g
level_off tensor level list (Width n k) h g = g
level_off tensor level list (Key n k) h g = g
level_off tensor level list (Sums n) h g = g
level_off tensor level list (ListCoordinates n) h g = h
level_off tensor level list (ListPositions n) h g = h

-- nor one of another list
list_apart : (n m : ℕ) (a : Arr) → (n ≡ m → ⊥) → IsOfList n a → IsOfList m a → ⊥
list_apart n m Range h f g = g
list_apart n m (Values k) h f g = g
list_apart n m (Dimension k l) h f g = g
list_apart n m (Ends k l) h f g = g
list_apart n m (Coordinates k l) h f g = g
list_apart n m (Width k l) h f g = g
list_apart n m (Key k l) h f g = g
list_apart n m (Sums k) h f g = g
list_apart n m (ListCoordinates k) h f g = h (sym f ∙ g)
list_apart n m (ListPositions k) h f g = h (sym f ∙ g)

held_off : (levels : List StorageLevel) (tensor level first past : ℕ) (a b : Arrays)
    → ((x : Arr) → IsOffLists first past x → b x ≡ a x) → AreHeld levels tensor level a → AreHeld levels tensor level b
held_off [] tensor level first past a b same h = tt
held_off (l ∷ levels) tensor level first past a b same h = (
  laws.held_there l tensor level a b (λ x of. same x (λ g. level_off tensor level g.list x of g.of)) h.0,
  held_off levels tensor (suc level) first past a b same h.1,
)

-- operands stay ready where all arrays but scratch lists stay
pub ready_off : (s : Statement) (formats : List (List FormatLevel)) (accesses : List AccessPlace) (o : Operands) (first past : ℕ)
    (a b : Arrays) → ((x : Arr) → IsOffLists first past x → b x ≡ a x) → AreReady s formats accesses o a → AreReady s formats accesses o b
ready_off s formats accesses o first past a b same r = record {
  letters = r.letters;
  held = λ k p at. held_off (o.levels k) p.tensor 1 first past a b same (r.held k p at);
  values = λ k p at is. same (Values p.tensor) (λ g. g.of) ∙ r.values k p at is;
  stored = r.stored;
  none = r.none;
  sums = r.sums;
}

-- a list is there, and holds what it held, while its arrays stay
pub list_there : (list : ℕ) (t u : State) → ((a : Arr) → IsOfList list a → u.arrays a ≡ t.arrays a) → HasList list t → HasList list u
list_there list t u same h = record {
  coordinates = h.coordinates;
  positions = h.positions;
  coordinates_are = same (ListCoordinates list) refl ∙ h.coordinates_are;
  positions_are = same (ListPositions list) refl ∙ h.positions_are;
}

pub entries_held : (list : ℕ) (es : List Entry) (t u : State) → ((a : Arr) → IsOfList list a → u.arrays a ≡ t.arrays a)
    → HoldsEntries list es t → HoldsEntries list es u
entries_held list es t u same h =
    record { rows = rows_kept list es t u h.rows same; few = h.few; each = h.each; rising = h.rising }

-- the code of one level fills its list, by the positions where its access stands
fills_by : (levels : List StorageLevel) (letter : Letter) (tensor level d access place list free positions : ℕ) (code : List KStmt)
    (c : Setting) (o : Operands) (state : State) (cur : Option Span) → LevelThere levels d letter → level ≡ suc d → o.levels access ≡ levels
    → Gathers meaning letter tensor level list free (Var place) (ends_at place) code → AreHeld levels tensor 1 state.arrays
    → ((p : Span) → cur ≡ Some p → IsOpen meaning (drop d levels) positions p) → ChildLeft place cur state → HasList list state
    → Fills c code list free
    (turns_if (λ span. turns_of Gather ((segment_at levels level span).hi - (segment_at levels level span).lo)) cur) state
    (in_order (entries_of (stored_in o) cur access level))
fills_by levels letter tensor level d access place list free positions code c o state None there e same gathers held opened left has =
    gathers.off c state left has
fills_by levels letter tensor level d access place list free positions code c o state (Some p) there e same gathers held opened left has =
    let l = there.level in
    let ok = (there.opened positions p (opened p refl)).0 in
    let number : 1 + d ≡ level = omega (arith, e) in
    let run = gathers.on c state 0 left.0 has l there.kind p ok
    (subst (λ n. meaning.holds l tensor n state.arrays) number (there.held tensor 1 state.arrays held)) (left.1.lo, (left.1.hi, tt)) in
    let entries : entries_of (stored_in o) (Some p) access level ≡ meaning.entries l p =
    ap (λ ls. entries_stored ls level p) same ∙ ap (λ n. entries_stored levels n p) e ∙ there.entries p in
    let segment : segment_at levels level p ≡ meaning.segment_of l p = ap (λ n. segment_at levels n p) e ∙ there.segment p in
    subst (λ es. Fills c code list free (turns_of Gather ((segment_at levels level p).hi - (segment_at levels level p).lo)) state
    (in_order es)) (sym entries)
    (subst (λ q. Fills c code list free (turns_of Gather (q.hi - q.lo)) state (in_order (meaning.entries l p))) (sym segment) run)

module _ (s : Statement) (formats : List (List FormatLevel)) (places : Places) (gathered : List ℕ) where
  -- a level that isn't gathered
  pub none_gathered : (seek : Seek) (list free : ℕ) → is_listed s formats gathered seek ≡ false
      → GathersSeeks s formats places gathered (seek ∷ []) list free (record { code = []; lists = list })
  none_gathered seek list free unlisted = record {
    lists = sym (next_unlisted s formats gathered list seek unlisted);
    run = λ c o bound depth env state ready opened next keeps has. does_nothing c state _ Never (
      record { below = λ y b z. refl; arrays = λ a off. refl; turns = λ j. omega arith },
      ((λ is. absurd (apart (sym is ∙ unlisted))), tt),
    );
  }

  -- a level that is
  pub one_gathered : (seek : Seek) (list free : ℕ) (code : List KStmt) → is_listed s formats gathered seek ≡ true
      → IsLevel s formats seek → length places.accesses ≡ length s.accesses
      → Gathers meaning (letter_of s formats seek) (place_of places.accesses seek.access).tensor seek.level list free
      (Var (place_of places.accesses seek.access).cursor) (ends_at (place_of places.accesses seek.access).cursor) code
      → GathersSeeks s formats places gathered (seek ∷ []) list free (record { code = code; lists = list + 1 })
  one_gathered seek list free code listed is long gathers = record {
    lists = sym (next_listed s formats gathered list seek listed);
    run = λ c o bound depth env state ready opened next keeps has.
        let k = seek.access in
        let p = place_of places.accesses k in
        let access = is.access in
        let within : k < length places.accesses = omega (arith, long, access) in
        let at = place_is places.accesses k within in
        let level = next.0 listed in
        let there = seek_level s formats (o.levels k) seek (depth k) (ready.letters k access) is level in
        let has_levels = seek_stored s formats (o.levels k) (o.stored k) seek (ready.letters k access) is (ready.none k) in
        let turns : LoopKind → ℕ =
        turns_if (λ span. turns_of Gather ((segment_at (o.levels k) seek.level span).hi - (segment_at (o.levels k) seek.level span).lo))
        (env.cursor k) in
        let most : list_turns s formats gathered o seek env ≡ turns = ap (λ b. if b then turns else no_turns) listed in
        let run = fills_by (o.levels k) (letter_of s formats seek) p.tensor seek.level (depth k) k p.cursor list free (length (o.words k))
        code c o state (env.cursor k) there level refl gathers (ready.held k p at) (λ q. opened k q has_levels) (keeps.cursors k p at)
        (has list (omega arith) (omega arith)) in
        does_weaker c code state _ _ Never Never run
        (λ t q. (
          record {
            below = q.0.below;
            arrays = λ a off. q.0.arrays a
                (λ of. off (record { list = list; from = omega arith; before = omega arith; of = of }));
            turns = λ j. let less = q.0.turns j in let same = ap (λ f. f j) most in omega (arith, less, same);
          },
          ((λ z. q.1), tt),
        ))
        (λ t a n z. z);
  }

  -- one level, and then others
  pub gathered_more : (seek : Seek) (others : List Seek) (list free : ℕ) (one rest : Gathered) → AreBelow free places
      → GathersSeeks s formats places gathered (seek ∷ []) list free one
      → GathersSeeks s formats places gathered others one.lists free rest
      → GathersSeeks s formats places gathered (seek ∷ others) list free (record { code = one.code ++ rest.code; lists = rest.lists })
  gathered_more seek others list free one rest below first second = record {
    lists = second.lists ∙ ap (λ n. past_lists s formats gathered n others) first.lists;
    run = λ c o bound depth env state ready opened next keeps has.
        let one_is = first.lists in
        let rest_is = second.lists in
        let more = next_more s formats gathered list seek in
        let further = past_lists_more s formats gathered one.lists others in
        let up : list ≤ one.lists = omega (arith, one_is, more) in
        let on : one.lists ≤ rest.lists = omega (arith, rest_is, further) in
        does_append c one.code rest.code state _ _ Never
        (first.run c o bound depth env state ready opened (next.0, tt) keeps (λ n l u. has n l (omega (arith, u, on))))
        (λ t q. does_weaker c rest.code t _ _ Never Never
        (second.run c o bound depth env t
        (ready_off s formats places.accesses o list one.lists state.arrays t.arrays q.0.arrays ready) opened next.1
        (keeps_kept free places bound env state t below (λ y b. q.0.below y b (λ z. z)) keeps)
        (λ n l u. list_there n state t
        (λ a of. q.0.arrays a (λ g. let before = g.before in list_apart n g.list a (λ e. omega (arith, e, before, l)) of g.of))
        (has n (omega (arith, l, up)) u)))
        (λ u w. (
          record {
            below = λ y b z. w.0.below y b z ∙ q.0.below y b z;
            arrays = λ a off. w.0.arrays a
                (λ g. let from = g.from in
                off (record { list = g.list; from = omega (arith, from, up); before = g.before; of = g.of }))
                ∙ q.0.arrays a
                (λ g. let before = g.before in
                off (record { list = g.list; from = g.from; before = omega (arith, before, on); of = g.of }));
            turns = λ j. let f = q.0.turns j in let g = w.0.turns j in omega (arith, f, g);
          },
          (
            (λ is.
                let next_is = next_listed s formats gathered list seek is in
                entries_held list _ t u
                (λ a of. w.0.arrays a
                (λ g. let from = g.from in list_apart list g.list a (λ e. omega (arith, e, from, one_is, next_is)) of g.of))
                (q.1.0 is)),
            subst (λ n. ListsHold s formats gathered (stored_in o) env n others u) first.lists w.1,
          ),
        ))
        (λ u a n z. z));
  }

  -- no level is left
  pub nothing_gathered : (list free : ℕ) → GathersSeeks s formats places gathered [] list free (record { code = []; lists = list })
  nothing_gathered list free = record {
    lists = refl;
    run = λ c o bound depth env state ready opened next keeps has. does_nothing c state _ Never
        (record { below = λ y b z. refl; arrays = λ a off. refl; turns = λ j. omega arith }, tt);
  }

  -- a level that is gathered at a loop is its access's first there
  are_next : (count v : ℕ) (bound : List ℕ) (above depth : ℕ → ℕ) (seeks : List Seek)
      → AreSeeks (layout_of s formats) count v bound above depth seeks → AreNext s formats gathered above seeks
  are_next count v bound above depth [] are = tt
  are_next count v bound above depth (seek ∷ seeks) are = (
    (λ is. are.0.next ∙ ap suc (are.0.own (are.0.full_is ∙ listed_not_full s formats gathered seek is)).1),
    are_next count v bound above (deeper depth seek.access) seeks are.1,
  )

  -- all levels of a loop
  pub all_gathered : (seeks : List Seek) (list free : ℕ) (made : Gathered) → GathersSeeks s formats places gathered seeks list free made
      → GathersAll s formats places gathered seeks list free made
  all_gathered seeks list free made gathers = record {
    lists = gathers.lists;
    run = λ c o count v bound depth env state ready opened placed keeps has.
        gathers.run c o bound depth env state ready opened (are_next count v bound depth depth seeks placed) keeps has;
  }

  -- gathering takes gather turns alone
  list_alone : (o : Operands) (seek : Seek) (env : Env) (j : LoopKind) → same_kind Gather j ≡ false
      → list_turns s formats gathered o seek env j ≡ 0
  list_alone o seek env j other = by (is_listed s formats gathered seek) (env.cursor seek.access)
    where
      width : Span → ℕ
      width span = (segment_at (o.levels seek.access) seek.level span).hi - (segment_at (o.levels seek.access) seek.level span).lo

      by : (b : Bool) (cur : Option Span) → (if b then turns_if (λ span. turns_of Gather (width span)) cur else no_turns) j ≡ 0
      by true None = refl
      by true (Some span) = ap (λ t. if t then width span else 0) other
      by false cur = refl

  pub gathers_alone : (o : Operands) (seeks : List Seek) (env : Env) (j : LoopKind) → same_kind Gather j ≡ false
      → gather_turns s formats gathered o seeks env j ≡ 0
  gathers_alone o [] env j other = refl
  gathers_alone o (seek ∷ seeks) env j other =
      let one = list_alone o seek env j other in
      let rest = gathers_alone o seeks env j other in
      omega (arith, one, rest)

-- the place of an access, among those that are asked
pub place_same : (accesses list : List AccessPlace) (k : ℕ) → list ≡ accesses → place_of list k ≡ place_of accesses k
place_same accesses list k same = ap (λ ps. place_of ps k) same

-- its three variables are below the free ones
pub place_low : (places : Places) (list : List AccessPlace) (k free : ℕ) → list ≡ places.accesses → k < length places.accesses
    → AreBelow free places → (place_of list k).cursor + 3 ≤ free
place_low places list k free same within below =
    subst (λ ps. (place_of ps k).cursor + 3 ≤ free) (sym same)
    (below.accesses k (place_of places.accesses k) (place_is places.accesses k within))
