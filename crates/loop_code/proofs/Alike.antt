-- Lemmas about what specs/Alike.antt defines.
use Rattle.std.specs.Prelude.{◌≡◌, ℕ, zero, suc, ◌+◌, nat_eq, not, Bool, true, false, ◌||◌, ◌&&◌, if◌then◌else◌, List, [], ◌∷◌, length}
use Rattle.std.specs.Prelude.{Option, None, refl}
use Rattle.std.proofs.Common.{◌∙◌, sym, ap}
use Rattle.std.proofs.lemmas.Bool.{eqb-true}
use Rattle.lists.specs.Each.{Each}
use Rattle.level_core.specs.declared.span.Span.{Span}
use Rattle.tensor_storage.specs.Children.{child_of}
use Rattle.expr_terms.specs.Points.{with_coordinate}
use Rattle.loop_code.specs.Alike.{AreAlike, SeeksOthers, SeeksOthers_in}
use Rattle.loop_code.specs.Loops.{Layout, Stored, Env, Seek, LoopCode, Add, Both', Loop', Sum', Row_of-LoopCode, end_of-LoopCode}
use Rattle.loop_code.specs.Loops.{more_of-LoopCode, at_cursor, at_variable, follow, found, moved, sought}
use Rattle.loop_code.specs.Parts.{entries_at, entries_of, given, here, is_full_below_in, is_live_below_in, is_other, is_some, only, remains}
use Rattle.loop_code.specs.Parts.{remains_below_in, some_has}
use Rattle.loop_code.specs.Turns.{adds_some, adds_some_in, cost, cost_in, count_below, dups, dups_in, if_live, if_remains, is_full_at}
use Rattle.loop_code.specs.Turns.{length_at, lengths, merge_turns, merge_turns_in, repeated, repeated_at, repeats, skip_turns}
use Rattle.loop_code.specs.Turns.{skip_turns_in, some_below, some_if, summed, turns_at, weight_at, weight_of}

count_same : (n : ℕ) (f g : ℕ → ℕ) → ((x : ℕ) → f x ≡ g x) → count_below n f ≡ count_below n g
count_same zero f g same = refl
count_same (suc n) f g same = λ i. count_same n f g same i + same n i

pub some_same : (n : ℕ) (f g : ℕ → Bool) → ((x : ℕ) → f x ≡ g x) → some_below n f ≡ some_below n g
some_same zero f g same = refl
some_same (suc n) f g same = λ i. some_same n f g same i || same n i

module _ (sums : ℕ → Bool) where
  alike_here : (e d : Env) → AreAlike sums e d → here e ≡ here d
  alike_here e d h = λ i k. h.there k i

  alike_cursor : (e d : Env) (k : ℕ) (o u : Option Span) → AreAlike sums e d → o ≡ u
      → AreAlike sums (at_cursor e k o) (at_cursor d k u)
  alike_cursor e d k o u h same = record {
    point = h.point;
    others = λ j is. at j (nat_eq k j) (h.others j is);
    there = λ j. there j (nat_eq k j);
  }
    where
      at : (j : ℕ) (b : Bool) → e.cursor j ≡ d.cursor j → (if b then o else e.cursor j) ≡ (if b then u else d.cursor j)
      at j true other = same
      at j false other = other

      there : (j : ℕ) (b : Bool) → is_some (if b then o else e.cursor j) ≡ is_some (if b then u else d.cursor j)
      there j true = ap is_some same
      there j false = h.there j

  -- a sum may differ, where it is there in both
  pub alike_sum : (e d : Env) (k : ℕ) (o u : Option Span) → AreAlike sums e d → sums k ≡ true → is_some o ≡ is_some u
      → AreAlike sums (at_cursor e k o) (at_cursor d k u)
  alike_sum e d k o u h of_sum same = record {
    point = h.point;
    others = λ j is. at j is (nat_eq k j) refl;
    there = λ j. there j (nat_eq k j);
  }
    where
      at : (j : ℕ) → sums j ≡ false → (b : Bool) → nat_eq k j ≡ b → (if b then o else e.cursor j) ≡ (if b then u else d.cursor j)
      at j is true this = absurd (let no : true ≡ false = sym of_sum ∙ ap sums (eqb-true k j this) ∙ is in cc)
      at j is false this = h.others j is

      there : (j : ℕ) (b : Bool) → is_some (if b then o else e.cursor j) ≡ is_some (if b then u else d.cursor j)
      there j true = same
      there j false = h.there j

  pub alike_self : (e : Env) → AreAlike sums e e
  alike_self e = record { point = refl; others = λ k is. refl; there = λ k. refl }

  alike_only : (L : ℕ → Bool) (e d : Env) → AreAlike sums e d → AreAlike sums (only L e) (only L d)
  alike_only L e d h = record {
    point = h.point;
    others = λ j is. ap (λ o. if L j then o else None) (h.others j is);
    there = λ j. by j (L j);
  }
    where
      by : (j : ℕ) (b : Bool) → is_some (if b then e.cursor j else None) ≡ is_some (if b then d.cursor j else None)
      by j true = h.there j
      by j false = refl

  module _ (layout : Layout) (stored : Stored) where
    alike_found : (seeks : List Seek) (e d : Env) → Each (λ (s : Seek). sums s.access ≡ false) seeks → AreAlike sums e d
        → AreAlike sums (found layout stored seeks e) (found layout stored seeks d)
    alike_found [] e d none h = h
    alike_found (s ∷ seeks) e d none h =
        let o = sought layout stored e s.access s.level in
        let u = sought layout stored d s.access s.level in
        let same : o ≡ u = λ i. follow (h.others s.access none.0 i)
        (λ p. child_of (stored.entries s.access s.level p) (h.point i (layout.variable s.access s.level))) in
        alike_found seeks (at_cursor e s.access o) (at_cursor d s.access u) none.1 (alike_cursor e d s.access o u h same)

    alike_moved : (v : ℕ) (seeks : List Seek) (e d : Env) (x : ℕ) → Each (λ (s : Seek). sums s.access ≡ false) seeks → AreAlike sums e d
        → AreAlike sums (moved layout stored v seeks e x) (moved layout stored v seeks d x)
    alike_moved v seeks e d x none h =
        alike_found seeks (at_variable e v x) (at_variable d v x) none
        (record { point = ap (λ (p : ℕ → ℕ). with_coordinate p v x) h.point; others = h.others; there = h.there })

    alike_entries : (s : Seek) (e d : Env) → sums s.access ≡ false → AreAlike sums e d → entries_at stored e s ≡ entries_at stored d s
    alike_entries s e d none h = ap (λ o. entries_of stored o s.access s.level) (h.others s.access none)

    alike_lengths : (seeks : List Seek) (e d : Env) → Each (λ (s : Seek). sums s.access ≡ false) seeks → AreAlike sums e d
        → lengths stored e seeks ≡ lengths stored d seeks
    alike_lengths [] e d none h = refl
    alike_lengths (s ∷ seeks) e d none h =
        λ i. (if s.full then 0 else length (alike_entries s e d none.0 h i)) + alike_lengths seeks e d none.1 h i

    alike_repeated : (seeks : List Seek) (e d : Env) → Each (λ (s : Seek). sums s.access ≡ false) seeks → AreAlike sums e d
        → repeated layout stored e seeks ≡ repeated layout stored d seeks
    alike_repeated [] e d none h = refl
    alike_repeated (s ∷ seeks) e d none h =
        λ i. (if s.full then 0 else weight_of (repeats layout s) (alike_entries s e d none.0 h i)) + alike_repeated seeks e d none.1 h i

    alike_repeated_at : (seeks : List Seek) (e d : Env) (x : ℕ) → Each (λ (s : Seek). sums s.access ≡ false) seeks → AreAlike sums e d
        → repeated_at layout stored e seeks x ≡ repeated_at layout stored d seeks x
    alike_repeated_at [] e d x none h = refl
    alike_repeated_at (s ∷ seeks) e d x none h =
        λ i. (if s.full then 0 else weight_at (repeats layout s) (alike_entries s e d none.0 h i) x)
        + alike_repeated_at seeks e d x none.1 h i

    alike_has : (seeks : List Seek) (e d : Env) (x : ℕ) → Each (λ (s : Seek). sums s.access ≡ false) seeks → AreAlike sums e d
        → some_has stored e seeks x ≡ some_has stored d seeks x
    alike_has [] e d x none h = refl
    alike_has (s ∷ seeks) e d x none h =
        λ i. (not s.full && is_some (child_of (alike_entries s e d none.0 h i) x)) || alike_has seeks e d x none.1 h i

    module _ (ranges : ℕ → ℕ) where
      -- a number of what is left of a loop's body
      alike_remains : {m : _} (body : Row_of-LoopCode m) (e d : Env) (f : Env → ℕ) → AreAlike sums e d
          → ((e d : Env) → AreAlike sums e d → f e ≡ f d)
          → if_remains layout stored ranges body e f ≡ if_remains layout stored ranges body d f
      alike_remains body e d f h same =
          ap (λ (P : ℕ → Bool). if remains_below_in P body then f (only (is_live_below_in P body) e) else 0) (alike_here e d h)
          ∙ ap (λ n. if remains_below_in (here d) body then n else 0)
          (same (only (is_live_below_in (here d) body) e) (only (is_live_below_in (here d) body) d)
          (alike_only (is_live_below_in (here d) body) e d h))

      alike_full : {m : _} (seeks : List Seek) (body : Row_of-LoopCode m) (e d : Env) → AreAlike sums e d
          → is_full_at layout stored ranges seeks body e ≡ is_full_at layout stored ranges seeks body d
      alike_full seeks body e d h = ap (λ (P : ℕ → Bool). is_full_below_in (is_other seeks) P body) (alike_here e d h)

      alike_turns : {m : _} (seeks : List Seek) (body : Row_of-LoopCode m) (e d : Env) (x : ℕ)
          → Each (λ (s : Seek). sums s.access ≡ false) seeks → AreAlike sums e d
          → turns_at layout stored ranges seeks body e x ≡ turns_at layout stored ranges seeks body d x
      alike_turns seeks body e d x none h = λ i. alike_full seeks body e d h i || alike_has seeks e d x none h i

      alike_live : {m n : _} (k : ℕ) (inside : Row_of-LoopCode m) (body : Row_of-LoopCode n) (e d : Env) (x y : ℕ) → AreAlike sums e d
          → x ≡ y → if_live layout stored ranges k inside body e x ≡ if_live layout stored ranges k inside body d y
      alike_live k inside body e d x y h same =
          λ i. if is_live_below_in (given (alike_here e d h i) k (remains_below_in (alike_here e d h i) inside)) body k then same i else 0

      mutual
        -- the same loops add some row
        pub alike_some : (loops : LoopCode) (e d : Env) → SeeksOthers sums loops → AreAlike sums e d
            → adds_some layout stored ranges loops e ≡ adds_some layout stored ranges loops d
        alike_some (Loop' v seeks p body) e d none h =
            some_same (ranges v) (λ x. adds_some_in layout stored ranges body (moved layout stored v seeks e x))
            (λ x. adds_some_in layout stored ranges body (moved layout stored v seeks d x))
            (λ x. alike_some_in body (moved layout stored v seeks e x) (moved layout stored v seeks d x) none.1
            (alike_moved v seeks e d x none.0 h))
        alike_some (Both' p f q g) e d none h = λ i. alike_some_in f e d none.0 h i || alike_some_in g e d none.1 h i
        alike_some (Add t) e d none h = ap (λ (P : ℕ → Bool). remains P t.expr) (alike_here e d h)
        alike_some (Sum' k p inside q body) e d none h =
            alike_some_in body (summed layout stored ranges k inside e) (summed layout stored ranges k inside d) none.2
            (alike_cursor e d k (some_if (adds_some_in layout stored ranges inside e))
            (some_if (adds_some_in layout stored ranges inside d)) h
            (ap some_if (alike_some_in inside e d none.1 h)))

        pub alike_some_in : {m : _} (row : Row_of-LoopCode m) (e d : Env) → SeeksOthers_in sums row → AreAlike sums e d
            → adds_some_in layout stored ranges row e ≡ adds_some_in layout stored ranges row d
        alike_some_in end_of-LoopCode e d none h = refl
        alike_some_in (more_of-LoopCode c rest) e d none h = alike_some c e d none h

      alike_summed : {m : _} (k : ℕ) (inside : Row_of-LoopCode m) (e d : Env) → SeeksOthers_in sums inside → AreAlike sums e d
          → AreAlike sums (summed layout stored ranges k inside e) (summed layout stored ranges k inside d)
      alike_summed k inside e d none h =
          alike_cursor e d k (some_if (adds_some_in layout stored ranges inside e)) (some_if (adds_some_in layout stored ranges inside d)) h
          (ap some_if (alike_some_in inside e d none h))

      mutual
        pub alike_cost : (loops : LoopCode) (e d : Env) → SeeksOthers sums loops → AreAlike sums e d
            → cost layout stored ranges loops e ≡ cost layout stored ranges loops d
        alike_cost (Loop' v seeks p body) e d none h =
            alike_remains body e d
            (λ e. length_at layout stored ranges v seeks body e + count_below (ranges v)
            (λ x. cost_in layout stored ranges body (moved layout stored v seeks e x)))
            h
            (λ e d h. λ i. (if alike_full seeks body e d h i then ranges v else alike_lengths seeks e d none.0 h i)
            + count_same (ranges v)
            (λ x. cost_in layout stored ranges body (moved layout stored v seeks e x))
            (λ x. cost_in layout stored ranges body (moved layout stored v seeks d x))
            (λ x. alike_cost_in body (moved layout stored v seeks e x) (moved layout stored v seeks d x) none.1
            (alike_moved v seeks e d x none.0 h)) i)
        alike_cost (Both' p f q g) e d none h = λ i. alike_cost_in f e d none.0 h i + alike_cost_in g e d none.1 h i
        alike_cost (Add t) e d none h = refl
        alike_cost (Sum' k p inside q body) e d none h =
            λ i. alike_live k inside body e d (cost_in layout stored ranges inside e) (cost_in layout stored ranges inside d) h
            (alike_cost_in inside e d none.1 h) i
            + alike_cost_in body (summed layout stored ranges k inside e) (summed layout stored ranges k inside d) none.2
            (alike_summed k inside e d none.1 h) i

        pub alike_cost_in : {m : _} (row : Row_of-LoopCode m) (e d : Env) → SeeksOthers_in sums row → AreAlike sums e d
            → cost_in layout stored ranges row e ≡ cost_in layout stored ranges row d
        alike_cost_in end_of-LoopCode e d none h = refl
        alike_cost_in (more_of-LoopCode c rest) e d none h = alike_cost c e d none h

      mutual
        pub alike_merges : (loops : LoopCode) (e d : Env) → SeeksOthers sums loops → AreAlike sums e d
            → merge_turns layout stored ranges loops e ≡ merge_turns layout stored ranges loops d
        alike_merges (Loop' v seeks p body) e d none h =
            alike_remains body e d
            (λ e. count_below (ranges v) (λ x. if turns_at layout stored ranges seeks body e x then 1
            + merge_turns_in layout stored ranges body (moved layout stored v seeks e x) else 0))
            h
            (λ e d h. λ i. count_same (ranges v)
            (λ x. if turns_at layout stored ranges seeks body e x then 1 + merge_turns_in layout stored ranges body
            (moved layout stored v seeks e x) else 0)
            (λ x. if turns_at layout stored ranges seeks body d x then 1 + merge_turns_in layout stored ranges body
            (moved layout stored v seeks d x) else 0)
            (λ x. λ j. if alike_turns seeks body e d x none.0 h j then 1 + alike_merges_in body
            (moved layout stored v seeks e x) (moved layout stored v seeks d x) none.1 (alike_moved v seeks e d x none.0 h) j else 0) i)
        alike_merges (Both' p f q g) e d none h = λ i. alike_merges_in f e d none.0 h i + alike_merges_in g e d none.1 h i
        alike_merges (Add t) e d none h = refl
        alike_merges (Sum' k p inside q body) e d none h =
            λ i. alike_live k inside body e d (merge_turns_in layout stored ranges inside e)
            (merge_turns_in layout stored ranges inside d) h
            (alike_merges_in inside e d none.1 h) i
            + alike_merges_in body (summed layout stored ranges k inside e) (summed layout stored ranges k inside d) none.2
            (alike_summed k inside e d none.1 h) i

        pub alike_merges_in : {m : _} (row : Row_of-LoopCode m) (e d : Env) → SeeksOthers_in sums row → AreAlike sums e d
            → merge_turns_in layout stored ranges row e ≡ merge_turns_in layout stored ranges row d
        alike_merges_in end_of-LoopCode e d none h = refl
        alike_merges_in (more_of-LoopCode c rest) e d none h = alike_merges c e d none h

      mutual
        pub alike_dups : (loops : LoopCode) (e d : Env) → SeeksOthers sums loops → AreAlike sums e d
            → dups layout stored ranges loops e ≡ dups layout stored ranges loops d
        alike_dups (Loop' v seeks p body) e d none h =
            alike_remains body e d
            (λ e. repeated layout stored e seeks + count_below (ranges v)
            (λ x. dups_in layout stored ranges body (moved layout stored v seeks e x)))
            h
            (λ e d h. λ i. alike_repeated seeks e d none.0 h i
            + count_same (ranges v)
            (λ x. dups_in layout stored ranges body (moved layout stored v seeks e x))
            (λ x. dups_in layout stored ranges body (moved layout stored v seeks d x))
            (λ x. alike_dups_in body (moved layout stored v seeks e x) (moved layout stored v seeks d x) none.1
            (alike_moved v seeks e d x none.0 h)) i)
        alike_dups (Both' p f q g) e d none h = λ i. alike_dups_in f e d none.0 h i + alike_dups_in g e d none.1 h i
        alike_dups (Add t) e d none h = refl
        alike_dups (Sum' k p inside q body) e d none h =
            λ i. alike_live k inside body e d (dups_in layout stored ranges inside e) (dups_in layout stored ranges inside d) h
            (alike_dups_in inside e d none.1 h) i
            + alike_dups_in body (summed layout stored ranges k inside e) (summed layout stored ranges k inside d) none.2
            (alike_summed k inside e d none.1 h) i

        pub alike_dups_in : {m : _} (row : Row_of-LoopCode m) (e d : Env) → SeeksOthers_in sums row → AreAlike sums e d
            → dups_in layout stored ranges row e ≡ dups_in layout stored ranges row d
        alike_dups_in end_of-LoopCode e d none h = refl
        alike_dups_in (more_of-LoopCode c rest) e d none h = alike_dups c e d none h

      mutual
        pub alike_skips : (loops : LoopCode) (e d : Env) → SeeksOthers sums loops → AreAlike sums e d
            → skip_turns layout stored ranges loops e ≡ skip_turns layout stored ranges loops d
        alike_skips (Loop' v seeks p body) e d none h =
            alike_remains body e d
            (λ e. count_below (ranges v) (λ x. if turns_at layout stored ranges seeks body e x
            then repeated_at layout stored e seeks x + skip_turns_in layout stored ranges body
            (moved layout stored v seeks e x) else 0))
            h
            (λ e d h. λ i. count_same (ranges v)
            (λ x. if turns_at layout stored ranges seeks body e x then repeated_at layout stored e seeks x
            + skip_turns_in layout stored ranges body
            (moved layout stored v seeks e x) else 0)
            (λ x. if turns_at layout stored ranges seeks body d x then repeated_at layout stored d seeks x
            + skip_turns_in layout stored ranges body
            (moved layout stored v seeks d x) else 0)
            (λ x. λ j. if alike_turns seeks body e d x none.0 h j then alike_repeated_at seeks e d x none.0 h j + alike_skips_in
            body (moved layout stored v seeks e x) (moved layout stored v seeks d x) none.1 (alike_moved v seeks e d x none.0 h) j
            else 0) i)
        alike_skips (Both' p f q g) e d none h = λ i. alike_skips_in f e d none.0 h i + alike_skips_in g e d none.1 h i
        alike_skips (Add t) e d none h = refl
        alike_skips (Sum' k p inside q body) e d none h =
            λ i. alike_live k inside body e d (skip_turns_in layout stored ranges inside e) (skip_turns_in layout stored ranges inside d) h
            (alike_skips_in inside e d none.1 h) i
            + alike_skips_in body (summed layout stored ranges k inside e) (summed layout stored ranges k inside d) none.2
            (alike_summed k inside e d none.1 h) i

        pub alike_skips_in : {m : _} (row : Row_of-LoopCode m) (e d : Env) → SeeksOthers_in sums row → AreAlike sums e d
            → skip_turns_in layout stored ranges row e ≡ skip_turns_in layout stored ranges row d
        alike_skips_in end_of-LoopCode e d none h = refl
        alike_skips_in (more_of-LoopCode c rest) e d none h = alike_skips c e d none h
