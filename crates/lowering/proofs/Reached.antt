-- The levels of an access that bound variables reach, and the seeks of a loop.
use Rattle.std.specs.Prelude.{◌≡◌, ◌≢◌, ◌⊎◌, ℕ, zero, suc, ◌+◌, ◌-◌, ◌≤◌, ◌<◌, nat_eq, Bool}
use Rattle.std.specs.Prelude.{true, false, ◌||◌, if◌then◌else◌, List, [], ◌∷◌, ◌++◌, length, slice_index_or, slice_get, refl}
use Rattle.std.proofs.Common.{◌∙◌, sym, ap, subst, arith, inl, inr}
use Rattle.std.proofs.lemmas.Bool.Decides.{nat_tests, eqb_tells}
use Rattle.format_spec.specs.declared.format.FormatLevel.{FormatLevel}
use Rattle.index_notation.specs.Statement.{IsDistinct}
use Rattle.index_notation.specs.declared.syntax.Statement.{Statement}
use Rattle.lists.specs.Each.{Each}
use Rattle.expr_terms.specs.Terms.{contains}
use Rattle.loop_code.specs.declared.loops.Seek.{Seek}
use Rattle.loop_code.specs.Loops.{Layout}
use Rattle.loop_code.specs.Places.{AreSeeks, deeper, depth_after}
use Rattle.lowering.specs.Layouts.{layout_of, levels_of, variables_of}
use Rattle.lowering.specs.Seeking.{full_at, reached, seeks_of, seeks_if, seeks_at}
use Rattle.lowering.specs.Shapes.{MayLoop, variables_at}

same_by : (a b : ℕ) → nat_eq a b ≡ true → a ≡ b
same_by a b h = grind (arith, nat_tests, h)

test_self : (a : ℕ) → nat_eq a a ≡ true
test_self a = grind (arith, nat_tests)

test_other : (a b : ℕ) → a ≢ b → nat_eq a b ≡ false
test_other a b h = grind (arith, nat_tests, h)

clash : (b : Bool) → b ≡ true → b ≡ false → ⊥
clash b h g = cc

-- one variable more reaches no less
pub reached_more : (v : ℕ) (bound ws : List ℕ) → reached bound ws ≤ reached (v ∷ bound) ws
reached_more v bound [] = omega arith
reached_more v bound (w ∷ ws) = by (nat_eq v w) (contains bound w) (reached_more v bound ws)
  where
    by : (b c : Bool) → reached bound ws ≤ reached (v ∷ bound) ws
        → (if c then suc (reached bound ws) else 0) ≤ (if b || c then suc (reached (v ∷ bound) ws) else 0)
    by true true l = omega (arith, l)
    by true false l = omega arith
    by false true l = omega (arith, l)
    by false false l = omega arith

pub reached_within : (bound ws : List ℕ) → reached bound ws ≤ length ws
reached_within bound [] = omega arith
reached_within bound (w ∷ ws) = by (contains bound w) (reached_within bound ws)
  where
    by : (c : Bool) → reached bound ws ≤ length ws → (if c then suc (reached bound ws) else 0) ≤ suc (length ws)
    by true l = omega (arith, l)
    by false l = omega arith

-- the variables of the levels that are reached are bound
pub reached_bound : (bound ws : List ℕ) (e d : ℕ) → e < reached bound ws → contains bound (slice_index_or ws e d) ≡ true
reached_bound bound [] e d l = absurd (omega (arith, l))
reached_bound bound (w ∷ ws) e d l = by (reached_bound bound ws) e (contains bound w) refl l
  where
    by : ((e d : ℕ) → e < reached bound ws → contains bound (slice_index_or ws e d) ≡ true) → (e : ℕ) (c : Bool) → contains bound w ≡ c
        → e < (if c then suc (reached bound ws) else 0) → contains bound (slice_index_or (w ∷ ws) e d) ≡ true
    by rest e false is k = absurd (omega (arith, k))
    by rest zero true is k = is
    by rest (suc e) true is k = rest e d (omega (arith, k))

-- and that of the next level isn't
pub reached_stops : (bound ws : List ℕ) (d : ℕ) → reached bound ws < length ws
    → contains bound (slice_index_or ws (reached bound ws) d) ≡ false
reached_stops bound [] d l = absurd (omega (arith, l))
reached_stops bound (w ∷ ws) d l = by (contains bound w) refl l (reached_stops bound ws d)
  where
    by : (c : Bool) → contains bound w ≡ c → (if c then suc (reached bound ws) else 0) < suc (length ws)
        → (reached bound ws < length ws → contains bound (slice_index_or ws (reached bound ws) d) ≡ false)
        → contains bound (slice_index_or (w ∷ ws) (if c then suc (reached bound ws) else 0) d) ≡ false
    by true is k rest = rest (omega (arith, k))
    by false is k rest = is

module _ (layout : Layout) (count v : ℕ) (bound : List ℕ) (above : ℕ → ℕ) where
  pub are_both : (xs ys : List Seek) (depth : ℕ → ℕ) → AreSeeks layout count v bound above depth xs
      → AreSeeks layout count v bound above (depth_after xs depth) ys → AreSeeks layout count v bound above depth (xs ++ ys)
  are_both [] ys depth first second = second
  are_both (x ∷ xs) ys depth first second = (first.0, are_both xs ys (deeper depth x.access) first.1 second)

pub depth_both : (xs ys : List Seek) (depth : ℕ → ℕ) → depth_after (xs ++ ys) depth ≡ depth_after ys (depth_after xs depth)
depth_both [] ys depth = refl
depth_both (x ∷ xs) ys depth = depth_both xs ys (deeper depth x.access)

-- behind some levels of an access
pub depth_chain : (full : ℕ → Bool) (k d n : ℕ) (depth : ℕ → ℕ) (j : ℕ)
    → depth_after (seeks_of full k d n) depth j ≡ (if nat_eq k j then depth k + n else depth j)
depth_chain full k d zero depth j = by (nat_eq k j) (same_by k j)
  where
    by : (b : Bool) → (b ≡ true → k ≡ j) → depth j ≡ (if b then depth k + 0 else depth j)
    by true h = let same : depth k ≡ depth j = ap depth (h refl) in omega (arith, same)
    by false h = refl
depth_chain full k d (suc n) depth j =
    depth_chain full k (suc d) n (deeper depth k) j
    ∙ ap (λ b. if nat_eq k j then (if b then suc (depth k) else depth k) + n else (if nat_eq k j then suc (depth k) else depth j))
    (test_self k)
    ∙ by (nat_eq k j)
  where
    by : (b : Bool) → (if b then suc (depth k) + n else (if b then suc (depth k) else depth j)) ≡ (if b then depth k + suc n else depth j)
    by true = omega arith
    by false = refl

module _ (s : Statement) (formats : List (List FormatLevel)) (v : ℕ) (bound : List ℕ) where
  abbrev full_of : ℕ → ℕ → Bool
  full_of k = full_at (levels_of formats (slice_get s.accesses k))

  -- the levels of an access behind those found so far are in place where they are reached
  chain_are : (k : ℕ) → k < length s.accesses → (above : ℕ → ℕ) → MayLoop s formats bound v k
      → above k ≡ reached bound (variables_at s formats k) → (d n : ℕ) (depth : ℕ → ℕ) → depth k ≡ d
      → reached bound (variables_at s formats k) ≤ d → d + n ≡ reached (v ∷ bound) (variables_at s formats k)
      → AreSeeks (layout_of s formats) (length s.accesses) v bound above depth (seeks_of (full_of k) k d n)
  chain_are k below above may at d zero depth here low high = tt
  chain_are k below above may at d (suc n) depth here low high = (
    record {
      access = below;
      next = ap suc (sym here);
      within = omega (arith, high, within);
      known = reached_bound (v ∷ bound) ws d 0 (omega (arith, high));
      full_is = refl;
      own = λ part.
          let step = may d (omega (arith, high, within)) part in
          let first : d ≡ reached bound ws = omega (arith, low, high, step) in
          (variable_is first, here ∙ first ∙ sym at);
    },
    chain_are k below above may at (suc d) n (deeper depth k)
        (ap (λ b. if b then suc (depth k) else depth k) (test_self k) ∙ ap suc here) (omega (arith, low)) (omega (arith, high)),
  )
    where
      ws : List ℕ
      ws = variables_at s formats k

      within : reached (v ∷ bound) ws ≤ length ws
      within = reached_within (v ∷ bound) ws

      variable_is : d ≡ reached bound ws → slice_index_or ws d 0 ≡ v
      variable_is first =
          let stops : contains bound (slice_index_or ws d 0) ≡ false =
          subst (λ e. contains bound (slice_index_or ws e 0) ≡ false) (sym first) (reached_stops bound ws 0 (omega
          (arith, first, high, within))) in
          let found : contains (v ∷ bound) (slice_index_or ws d 0) ≡ true = reached_bound (v ∷ bound) ws d 0 (omega (arith, high)) in
          sym (same_by v (slice_index_or ws d 0) (by (nat_eq v (slice_index_or ws d 0)) (contains bound
          (slice_index_or ws d 0)) found stops))
        where
          by : (b c : Bool) → (b || c) ≡ true → c ≡ false → b ≡ true
          by true c h g = refl
          by false c h g = absurd (clash c h g)

  module _ (used : ℕ → Bool) (above : ℕ → ℕ)
      (may : (k : ℕ) → used k ≡ true → MayLoop s formats bound v k)
      (at : (k : ℕ) → used k ≡ true → above k ≡ reached bound (variables_at s formats k)) where
    abbrev seeks_below : List ℕ → List Seek
    seeks_below ks = seeks_at s formats used bound (v ∷ bound) ks

    abbrev of_access : ℕ → List Seek
    of_access k = seeks_if (used k) (full_of k) k (variables_at s formats k) bound (v ∷ bound)

    -- of an access the levels up to those that are reached inside
    access_are : (k : ℕ) → k < length s.accesses → (depth : ℕ → ℕ) → depth k ≡ above k
        → AreSeeks (layout_of s formats) (length s.accesses) v bound above depth (of_access k)
    access_are k below depth here = by (used k) refl
      where
        by : (b : Bool) → used k ≡ b → AreSeeks (layout_of s formats) (length s.accesses) v bound above depth
            (seeks_if b (full_of k) k (variables_at s formats k) bound (v ∷ bound))
        by false is = tt
        by true is =
            let more = reached_more v bound (variables_at s formats k) in
            chain_are k below above (may k is) (at k is) (reached bound (variables_at s formats k))
            (reached (v ∷ bound) (variables_at s formats k) - reached bound (variables_at s formats k)) depth (here ∙ at k is)
            (omega arith) (omega (arith, more))

    access_depth : (k : ℕ) (depth : ℕ → ℕ) → depth k ≡ above k → used k ≡ true
        → depth_after (of_access k) depth k ≡ reached (v ∷ bound) (variables_at s formats k)
    access_depth k depth here is =
        let low = at k is in
        let more = reached_more v bound (variables_at s formats k) in
        ap (λ b. depth_after (seeks_if b (full_of k) k (variables_at s formats k) bound (v ∷ bound)) depth k) is
        ∙ depth_chain (full_of k) k (reached bound (variables_at s formats k))
        (reached (v ∷ bound) (variables_at s formats k) - reached bound (variables_at s formats k)) depth k
        ∙ ap (λ b. if b then depth k + (reached (v ∷ bound) (variables_at s formats k) - reached bound
        (variables_at s formats k)) else depth k)
        (test_self k)
        ∙ omega (arith, here, low, more)

    access_other : (k j : ℕ) (depth : ℕ → ℕ) → k ≢ j → depth_after (of_access k) depth j ≡ depth j
    access_other k j depth other = by (used k)
      where
        by : (b : Bool) → depth_after (seeks_if b (full_of k) k (variables_at s formats k) bound (v ∷ bound)) depth j ≡ depth j
        by false = refl
        by true =
            depth_chain (full_of k) k (reached bound (variables_at s formats k))
            (reached (v ∷ bound) (variables_at s formats k) - reached bound (variables_at s formats k)) depth j
            ∙ ap (λ b. if b then depth k + (reached (v ∷ bound) (variables_at s formats k) - reached bound
            (variables_at s formats k)) else depth j)
            (test_other k j other)

    pub all_are : (ks : List ℕ) → IsDistinct ks → Each (λ k. k < length s.accesses) ks → (depth : ℕ → ℕ)
        → Each (λ k. depth k ≡ above k) ks
        → AreSeeks (layout_of s formats) (length s.accesses) v bound above depth (seeks_below ks)
    all_are [] once below depth here = tt
    all_are (k ∷ ks) once below depth here =
        are_both (layout_of s formats) (length s.accesses) v bound above (of_access k) (seeks_below ks) depth
        (access_are k below.0 depth here.0)
        (all_are ks once.1 below.1 (depth_after (of_access k) depth) (still ks once.0 here.1))
      where
        still : (js : List ℕ) → Each (λ j. k ≢ j) js → Each (λ j. depth j ≡ above j) js
            → Each (λ j. depth_after (of_access k) depth j ≡ above j) js
        still [] apart h = tt
        still (j ∷ js) apart h = (access_other k j depth apart.0 ∙ h.0, still js apart.1 h.1)

    rest_other : (ks : List ℕ) (depth : ℕ → ℕ) (j : ℕ) → Each (λ k. j ≢ k) ks → depth_after (seeks_below ks) depth j ≡ depth j
    rest_other [] depth j apart = refl
    rest_other (k ∷ ks) depth j apart =
        ap (λ (f : ℕ → ℕ). f j) (depth_both (of_access k) (seeks_below ks) depth)
        ∙ rest_other ks (depth_after (of_access k) depth) j apart.1 ∙ access_other k j depth (λ e. apart.0 (sym e))

    pub all_reached : (ks : List ℕ) → IsDistinct ks → (depth : ℕ → ℕ) → Each (λ k. depth k ≡ above k) ks → (j : ℕ) → contains ks j ≡ true
        → used j ≡ true → depth_after (seeks_below ks) depth j ≡ reached (v ∷ bound) (variables_at s formats j)
    all_reached [] once depth here j is u = absurd (cc is)
    all_reached (k ∷ ks) once depth here j is u =
        ap (λ (f : ℕ → ℕ). f j) (depth_both (of_access k) (seeks_below ks) depth)
        ∙ by (λ there. all_reached ks once.1 (depth_after (of_access k) depth) (still ks once.0 here.1) j there u) (eqb_tells k j)
      where
        still : (js : List ℕ) → Each (λ i. k ≢ i) js → Each (λ i. depth i ≡ above i) js
            → Each (λ i. depth_after (of_access k) depth i ≡ above i) js
        still [] apart h = tt
        still (i ∷ js) apart h = (access_other k i depth apart.0 ∙ h.0, still js apart.1 h.1)

        in_rest : (b : Bool) → (b || contains ks j) ≡ true → b ≡ false → contains ks j ≡ true
        in_rest true h g = absurd (cc g)
        in_rest false h g = h

        by : (contains ks j ≡ true → depth_after (seeks_below ks) (depth_after (of_access k) depth) j ≡ reached (v ∷ bound)
            (variables_at s formats j))
            → ((nat_eq k j ≡ true) × (k ≡ j)) ⊎ ((nat_eq k j ≡ false) × (k ≢ j))
            → depth_after (seeks_below ks) (depth_after (of_access k) depth) j ≡ reached (v ∷ bound) (variables_at s formats j)
        by later (inl same) =
            rest_other ks (depth_after (of_access k) depth) j (subst (λ i. Each (λ w. i ≢ w) ks) same.1 once.0)
            ∙ subst (λ i. depth_after (of_access k) depth i ≡ reached (v ∷ bound) (variables_at s formats i)) same.1
            (access_depth k depth here.0 (ap used same.1 ∙ u))
        by later (inr other) = later (in_rest (nat_eq k j) is other.0)

-- only accesses that are used are found
pub only_used : (s : Statement) (formats : List (List FormatLevel)) (used : ℕ → Bool) (outer inner ks : List ℕ)
    → Each (λ (x : Seek). used x.access ≡ true) (seeks_at s formats used outer inner ks)
only_used s formats used outer inner [] = tt
only_used s formats used outer inner (k ∷ ks) =
    each_both (seeks_if (used k) (full_at (levels_of formats (slice_get s.accesses k))) k (variables_of formats
    (slice_get s.accesses k)) outer inner)
    (seeks_at s formats used outer inner ks) (of_one (used k) refl) (only_used s formats used outer inner ks)
  where
    each_both : (xs ys : List Seek) → Each (λ (x : Seek). used x.access ≡ true) xs → Each (λ (x : Seek). used x.access ≡ true) ys
        → Each (λ (x : Seek). used x.access ≡ true) (xs ++ ys)
    each_both [] ys f g = g
    each_both (x ∷ xs) ys f g = (f.0, each_both xs ys f.1 g)

    chain : used k ≡ true → (full : ℕ → Bool) (d n : ℕ) → Each (λ (x : Seek). used x.access ≡ true) (seeks_of full k d n)
    chain is full d zero = tt
    chain is full d (suc n) = (is, chain is full (suc d) n)

    of_one : (b : Bool) → used k ≡ b → Each (λ (x : Seek). used x.access ≡ true)
        (seeks_if b (full_at (levels_of formats (slice_get s.accesses k))) k (variables_of formats (slice_get s.accesses k)) outer inner)
    of_one false is = tt
    of_one true is = chain is (full_at (levels_of formats (slice_get s.accesses k)))
        (reached outer (variables_of formats (slice_get s.accesses k)))
        (reached inner (variables_of formats (slice_get s.accesses k)) - reached outer (variables_of formats (slice_get s.accesses k)))

pub none_reached : (ws : List ℕ) → 0 ≡ reached [] ws
none_reached [] = refl
none_reached (w ∷ ws) = refl
