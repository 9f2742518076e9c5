-- Where accesses are at a loop, and which of them it goes through.
use Rattle.std.specs.Prelude.{◌≡◌, ◌≢◌, ◌⊎◌, ℕ, zero, suc, ◌≤◌, ◌<◌, nat_eq, not, Bool, true, false, ◌||◌, ◌&&◌, if◌then◌else◌}
use Rattle.std.specs.Prelude.{List, [], ◌∷◌, length, slice_index_or, Option, Some, None, refl}
use Rattle.std.proofs.Common.{◌∙◌, sym, ap, subst, arith, inl, inr}
use Rattle.std.proofs.lemmas.Bool.Decides.{nat_tests, eqb_tells}
use Rattle.level_core.specs.declared.span.Span.{Span}
use Rattle.tensor_storage.specs.Children.{child_of}
use Rattle.format_spec.specs.declared.format.FormatLevel.{FormatLevel}
use Rattle.index_notation.specs.declared.syntax.Statement.{Statement}
use Rattle.expr_terms.specs.Points.{with_coordinate}
use Rattle.expr_terms.specs.Terms.{contains}
use Rattle.expr_terms.proofs.PointLaws.{coordinate_other}
use Rattle.loop_code.specs.declared.loops.Seek.{Seek}
use Rattle.loop_code.specs.Loops.{Layout, Stored, Env, follow, at_cursor, sought, found}
use Rattle.loop_code.specs.Parts.{is_iterator, is_some}
use Rattle.loop_code.specs.Places.{AreSeeks, deeper, depth_after}
use Rattle.lowering.specs.Held.{path_span}
use Rattle.lowering.specs.Layouts.{layout_of}
use Rattle.lowering.specs.Seeking.{reached}
use Rattle.lowering.specs.Shapes.{variables_at}
use Rattle.lowering.proofs.Reached.{reached_bound, reached_more}
use Rattle.statement_costs.specs.Costs.{at, is_variable, is_walked, next_level, next_variable}
use Rattle.statement_costs.proofs.Parts.{and_first, and_second, same_if}

self : (k : ℕ) → nat_eq k k ≡ true
self k = grind (arith, nat_tests)

clash : {A : Type 0} (b : Bool) → b ≡ true → b ≡ false → A
clash b h g = absurd (cc (h, g))

pub is_some_of_none : is_some None ≡ true → ⊥
is_some_of_none h = cc

module _ (layout : Layout) (stored : Stored) where
  -- the same coordinates lead to the same positions
  pub path_same : (k d : ℕ) (p q : ℕ → ℕ) → ((e : ℕ) → e < d → p (layout.variable k (suc e)) ≡ q (layout.variable k (suc e)))
      → path_span layout stored k d p ≡ path_span layout stored k d q
  path_same k zero p q f = refl
  path_same k (suc d) p q f =
      ap (λ o. follow o (λ s. child_of (stored.entries k (suc d) s) (p (layout.variable k (suc d)))))
      (path_same k d p q (λ e l. f e (omega (arith, l))))
      ∙ ap (λ x. follow (path_span layout stored k d q) (λ s. child_of (stored.entries k (suc d) s) x)) (f d (omega arith))

  -- where a path is stored its front is
  pub path_front : (k d e : ℕ) (p : ℕ → ℕ) → d ≤ e → is_some (path_span layout stored k e p) ≡ true
      → is_some (path_span layout stored k d p) ≡ true
  path_front k d zero p l h = let none : zero ≡ d = omega (arith, l) in ap (λ n. is_some (path_span layout stored k n p)) (sym none)
  path_front k d (suc e) p l h = by (less_or_same d e l)
      (λ m. path_front k d e p m (followed (path_span layout stored k e p) (λ s. child_of (stored.entries k (suc e) s)
      (p (layout.variable k (suc e)))) h))
    where
      less_or_same : (d e : ℕ) → d ≤ suc e → (d ≤ e) ⊎ (d ≡ suc e)
      less_or_same d e l = grind (arith, l)

      followed : (o : Option Span) (f : Span → Option Span) → is_some (follow o f) ≡ true → is_some o ≡ true
      followed None f g = absurd (is_some_of_none g)
      followed (Some q) f g = refl

      by : (d ≤ e) ⊎ (d ≡ suc e) → (d ≤ e → is_some (path_span layout stored k d p) ≡ true)
          → is_some (path_span layout stored k d p) ≡ true
      by (inl m) more = more m
      by (inr same) more = ap (λ n. is_some (path_span layout stored k n p)) same ∙ h

  -- at these coordinates, of the accesses that are asked for, those of L are so deep, and the others aren't present
  pub record AreAt (asked L : ℕ → Bool) (depth : ℕ → ℕ) (coordinates : ℕ → ℕ) (env : Env) : Type 0 where
    pub point : env.point ≡ coordinates
    pub cursor : (k : ℕ) → asked k ≡ true
        → env.cursor k ≡ (if L k then path_span layout stored k (depth k) coordinates else None)

  level_at : (asked L : ℕ → Bool) (depth : ℕ → ℕ) (point : ℕ → ℕ) (env : Env) (k level : ℕ) → level ≡ suc (depth k)
      → AreAt asked L depth point env → AreAt asked L (deeper depth k) point (at_cursor env k (sought layout stored env k level))
  level_at asked L depth point env k level is h = record {
    point = h.point;
    cursor = λ j wanted. elim (eqb_tells k j) [
      | inl same ↦ (
          subst (λ i. (if nat_eq k j then sought layout stored env k level else env.cursor j)
          ≡ (if L i then path_span layout stored i (deeper depth k i) point else None)) same.1
          (ap (λ b. if b then sought layout stored env k level else env.cursor j) same.0
          ∙ here (subst (λ i. asked i ≡ true) (sym same.1) wanted)
          ∙ ap (λ b. if L k then path_span layout stored k (if b then suc (depth k) else depth k) point else None) (sym (self k))))
      | inr other ↦ (
          ap (λ b. if b then sought layout stored env k level else env.cursor j) other.0 ∙ h.cursor j wanted
          ∙ ap (λ b. if L j then path_span layout stored j (if b then suc (depth k) else depth j) point else None) (sym other.0))
    ];
  }
    where
      here : asked k ≡ true
          → sought layout stored env k level ≡ (if L k then path_span layout stored k (suc (depth k)) point else None)
      here wanted =
          ap (λ o. follow o (λ p. child_of (stored.entries k level p) (env.point (layout.variable k level)))) (h.cursor k wanted)
          ∙ ap (λ (f : ℕ → ℕ). follow (if L k then path_span layout stored k (depth k) point else None)
          (λ p. child_of (stored.entries k level p) (f (layout.variable k level)))) h.point
          ∙ ap (λ n. follow (if L k then path_span layout stored k (depth k) point else None)
          (λ p. child_of (stored.entries k n p) (point (layout.variable k n)))) is
          ∙ by (L k)
        where
          by : (b : Bool) → follow (if b then path_span layout stored k (depth k) point else None)
              (λ p. child_of (stored.entries k (suc (depth k)) p) (point (layout.variable k (suc (depth k)))))
              ≡ (if b then path_span layout stored k (suc (depth k)) point else None)
          by true = refl
          by false = refl

  -- behind the seeks of a loop
  pub found_at : (count v : ℕ) (bound : List ℕ) (above : ℕ → ℕ) (asked L : ℕ → Bool) (point : ℕ → ℕ) (depth : ℕ → ℕ)
      (seeks : List Seek) (env : Env)
      → AreSeeks layout count v bound above depth seeks → AreAt asked L depth point env
      → AreAt asked L (depth_after seeks depth) point (found layout stored seeks env)
  found_at count v bound above asked L point depth [] env are h = h
  found_at count v bound above asked L point depth (x ∷ seeks) env are h =
      found_at count v bound above asked L point (deeper depth x.access) seeks
      (at_cursor env x.access (sought layout stored env x.access x.level))
      are.1
      (level_at asked L depth point env x.access x.level are.0.next h)

-- the next variable of an access is that of the next level
next_is : (bound ws : List ℕ) (v : ℕ) → reached bound ws < length ws → slice_index_or ws (reached bound ws) 0 ≡ v
    → is_variable v (next_variable bound ws) ≡ true
next_is bound [] v l is = absurd (omega (arith, l))
next_is bound (w ∷ ws) v l is = by (λ m f. next_is bound ws v m f) (contains bound w) l is
  where
    by : (reached bound ws < length ws → slice_index_or ws (reached bound ws) 0 ≡ v → is_variable v (next_variable bound ws) ≡ true)
        → (c : Bool) → (if c then suc (reached bound ws) else 0) < suc (length ws)
        → slice_index_or (w ∷ ws) (if c then suc (reached bound ws) else 0) 0 ≡ v
        → is_variable v (if c then next_variable bound ws else Some w) ≡ true
    by more true m f = more (omega (arith, m)) f
    by more false m f = ap (λ u. nat_eq u v) f ∙ self v

-- a loop over the next variable reaches the next level
next_reached : (bound ws : List ℕ) (v : ℕ) → is_variable v (next_variable bound ws) ≡ true → reached bound ws < reached (v ∷ bound) ws
next_reached bound [] v is = absurd (cc is)
next_reached bound (w ∷ ws) v is = by (next_reached bound ws v) (contains bound w) (nat_eq v w) (λ h. same h) is
  where
    same : nat_eq w v ≡ true → nat_eq v w ≡ true
    same h = grind (arith, nat_tests, h)

    by : (is_variable v (next_variable bound ws) ≡ true → reached bound ws < reached (v ∷ bound) ws) → (c b : Bool)
        → (nat_eq w v ≡ true → b ≡ true) → is_variable v (if c then next_variable bound ws else Some w) ≡ true
        → (if c then suc (reached bound ws) else 0) < (if b || c then suc (reached (v ∷ bound) ws) else 0)
    by more true true f h = let most = more h in omega (arith, most)
    by more true false f h = let most = more h in omega (arith, most)
    by more false true f h = omega arith
    by more false false f h = absurd (let no = f h in cc no)

-- a level more of an access is found where it is among the seeks, and the first of them is the next level
first_sought : (layout : Layout) (count v : ℕ) (bound : List ℕ) (above depth : ℕ → ℕ) (k : ℕ) (seeks : List Seek)
    → AreSeeks layout count v bound above depth seeks → depth k < depth_after seeks depth k → layout.full k (suc (depth k)) ≡ false
    → is_iterator seeks k ≡ true
first_sought layout count v bound above depth k [] are l part = absurd (omega (arith, l))
first_sought layout count v bound above depth k (x ∷ seeks) are l part = elim (eqb_tells x.access k) [
  | inl same ↦ (
      let not_full : x.full ≡ false = are.0.full_is ∙ ap (λ n. layout.full x.access n) are.0.next
      ∙ ap (λ j. layout.full j (suc (depth j))) same.1 ∙ part in
      ap (λ b. (b && not x.full) || is_iterator seeks k) same.0 ∙ ap (λ b. not b || is_iterator seeks k) not_full)
  | inr other ↦ (
      let here : deeper depth x.access k ≡ depth k = ap (λ b. if b then suc (depth x.access) else depth k) other.0 in
      ap (λ b. (b && not x.full) || is_iterator seeks k) other.0
      ∙ first_sought layout count v bound above (deeper depth x.access) k seeks are.1
      (subst (λ n. n < depth_after seeks (deeper depth x.access) k) (sym here) l)
      (subst (λ n. layout.full k (suc n) ≡ false) (sym here) part))
]

-- an access of which a level that isn't full is found is at that level, which is the loop's own
iterator_is : (layout : Layout) (count v : ℕ) (bound : List ℕ) (above depth : ℕ → ℕ) (k : ℕ) (seeks : List Seek)
    → AreSeeks layout count v bound above depth seeks → is_iterator seeks k ≡ true
    → (layout.full k (suc (above k)) ≡ false) × (layout.variable k (suc (above k)) ≡ v) × (suc (above k) ≤ layout.levels k)
iterator_is layout count v bound above depth k [] are h = absurd (cc h)
iterator_is layout count v bound above depth k (x ∷ seeks) are h =
    by (eqb_tells x.access k) x.full refl h (iterator_is layout count v bound above (deeper depth x.access) k seeks are.1)
  where
    taken : (b f : Bool) → b ≡ true → f ≡ true → ((b && not f) || is_iterator seeks k) ≡ true → is_iterator seeks k ≡ true
    taken true true e g i = i
    taken true false e g i = clash false g refl
    taken false f e g i = clash false e refl

    passed : (b f : Bool) → b ≡ false → ((b && not f) || is_iterator seeks k) ≡ true → is_iterator seeks k ≡ true
    passed true f e i = clash true refl e
    passed false f e i = i

    by : ((nat_eq x.access k ≡ true) × (x.access ≡ k)) ⊎ ((nat_eq x.access k ≡ false) × (x.access ≢ k)) → (f : Bool) → x.full ≡ f
        → ((nat_eq x.access k && not x.full) || is_iterator seeks k) ≡ true
        → (is_iterator seeks k ≡ true
        → (layout.full k (suc (above k)) ≡ false) × (layout.variable k (suc (above k)) ≡ v) × (suc (above k) ≤ layout.levels k))
        → (layout.full k (suc (above k)) ≡ false) × (layout.variable k (suc (above k)) ≡ v) × (suc (above k) ≤ layout.levels k)
    by (inl same) false is i more =
        let own = are.0.own is in
        let level : x.level ≡ suc (above x.access) = are.0.next ∙ ap suc own.1 in
        subst (λ j. (layout.full j (suc (above j)) ≡ false) × (layout.variable j (suc (above j)) ≡ v) × (suc (above j) ≤ layout.levels j))
        same.1 (
          sym (ap (λ n. layout.full x.access n) level) ∙ sym are.0.full_is ∙ is,
          sym (ap (λ n. layout.variable x.access n) level) ∙ own.0,
          subst (λ n. n ≤ layout.levels x.access) level are.0.within,
        )
    by (inl same) true is i more = more (taken (nat_eq x.access k) x.full same.0 is i)
    by (inr other) f is i more = more (passed (nat_eq x.access k) x.full other.0 i)

module _ (s : Statement) (formats : List (List FormatLevel)) (stored : Stored) (bound : List ℕ) where
  -- another coordinate of a variable that isn't bound leaves an access where it is
  pub at_same : (v x : ℕ) (point : ℕ → ℕ) (k : ℕ) → contains bound v ≡ false
      → at s formats stored bound point k ≡ at s formats stored bound (with_coordinate point v x) k
  at_same v x point k fresh =
      path_same (layout_of s formats) stored k (reached bound (variables_at s formats k)) point (with_coordinate point v x)
      (λ e l. sym (coordinate_other point v x (slice_index_or (variables_at s formats k) e 0)
      (λ same. clash (contains bound v) (ap (contains bound) same ∙ reached_bound bound (variables_at s formats k) e 0 l) fresh)))

  -- where an access is present inside a loop it is outside
  pub at_front : (v x : ℕ) (point : ℕ → ℕ) (k : ℕ) → contains bound v ≡ false
      → is_some (at s formats stored (v ∷ bound) (with_coordinate point v x) k) ≡ true → is_some (at s formats stored bound point k) ≡ true
  at_front v x point k fresh h =
      ap is_some (at_same v x point k fresh)
      ∙ path_front (layout_of s formats) stored k (reached bound (variables_at s formats k))
      (reached (v ∷ bound) (variables_at s formats k)) (with_coordinate point v x) (reached_more v bound (variables_at s formats k)) h

  pub walked_at : (v k d : ℕ) → d ≡ reached bound (variables_at s formats k) → (layout_of s formats).full k (suc d) ≡ false
      → (layout_of s formats).variable k (suc d) ≡ v → suc d ≤ (layout_of s formats).levels k → is_walked s formats bound v k ≡ true
  walked_at v k d is part own in_levels =
      let not_full : (layout_of s formats).full k (suc (reached bound ws)) ≡ false =
      subst (λ n. (layout_of s formats).full k (suc n) ≡ false) is part in
      let variable : slice_index_or ws (reached bound ws) 0 ≡ v = subst (λ n. slice_index_or ws n 0 ≡ v) is own in
      let within : suc (reached bound ws) ≤ length ws = subst (λ n. suc n ≤ length ws) is in_levels in
      ap (λ b. is_variable v (next_variable bound ws) && not b) not_full
      ∙ ap (λ b. b && true) (next_is bound ws v (omega (arith, within)) variable)
    where
      ws : List ℕ
      ws = variables_at s formats k

  -- the accesses that are gone through at a loop are those of which it finds a level that isn't full
  pub walked_same : (count v : ℕ) (depth : ℕ → ℕ) (seeks : List Seek) (k : ℕ)
      → AreSeeks (layout_of s formats) count v bound depth depth seeks → depth k ≡ reached bound (variables_at s formats k)
      → depth_after seeks depth k ≡ reached (v ∷ bound) (variables_at s formats k)
      → is_iterator seeks k ≡ is_walked s formats bound v k
  walked_same count v depth seeks k are outer inner = same_if (is_iterator seeks k) (is_walked s formats bound v k) walked iterator
    where
      ws : List ℕ
      ws = variables_at s formats k

      walked : is_iterator seeks k ≡ true → is_walked s formats bound v k ≡ true
      walked h =
          let is = iterator_is (layout_of s formats) count v bound depth depth k seeks are h in
          walked_at v k (depth k) outer is.0 is.1 is.2

      iterator : is_walked s formats bound v k ≡ true → is_iterator seeks k ≡ true
      iterator h =
          let next = next_reached bound ws v (and_first (is_variable v (next_variable bound ws))
          (not ((layout_of s formats).full k (next_level s formats bound k))) h) in
          first_sought (layout_of s formats) count v bound depth depth k seeks are (omega (arith, next, outer, inner))
          (subst (λ n. (layout_of s formats).full k (suc n) ≡ false) (sym outer)
          (not_not ((layout_of s formats).full k (next_level s formats bound k))
          (and_second (is_variable v (next_variable bound ws)) (not ((layout_of s formats).full k (next_level s formats bound k))) h)))
        where
          not_not : (b : Bool) → not b ≡ true → b ≡ false
          not_not true g = absurd (cc g)
          not_not false g = refl
