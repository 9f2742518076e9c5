-- Where accesses are at a place of loops with sums: each that stands in the terms below is where the coordinates lead, or has been left
-- out, and none has been that stands in a part that remains.
use Rattle.std.specs.Prelude.{◌≡◌, ◌⊎◌, ℕ, ◌≤◌, nat_lt, not, Bool, true, false, ◌||◌, if◌then◌else◌, List, length}
use Rattle.std.specs.Prelude.{Option, None, refl}
use Rattle.std.proofs.Common.{◌∙◌, sym, ap, subst, arith, inl, inr}
use Rattle.std.proofs.lemmas.Bool.Decides.{nat_tests}
use denote.Hole.Carrier.{hidden}
use Rattle.level_core.specs.declared.span.Span.{Span}
use Rattle.format_spec.specs.declared.format.FormatLevel.{FormatLevel}
use Rattle.index_notation.specs.declared.syntax.Expr.{Access as AccessOf}
use Rattle.index_notation.specs.declared.syntax.Statement.{Statement}
use Rattle.concrete_notation.specs.Nests.{Nest}
use Rattle.loop_code.specs.declared.loops.LoopCode.{LoopCode, Loop}
use Rattle.loop_code.specs.declared.loops.LoopCode.TheBlock.{hidden-the_row-LoopCode-0}
use Rattle.loop_code.specs.declared.loops.Seek.{Seek}
use Rattle.loop_code.specs.Loops.{Stored, Env}
use Rattle.loop_code.specs.Opened.{opened, whole}
use Rattle.loop_code.specs.Parts.{here, is_full, is_full_below, is_live, is_live_below, is_some, pruned, remains, remains_below}
use Rattle.loop_code.specs.Places.{IsWellPlaced}
use Rattle.loop_code.specs.Turns.{some_if}
use Rattle.lowering.specs.Layouts.{layout_of}
use Rattle.lowering.specs.Lowered.{concrete_of}
use Rattle.lowering.specs.Seeking.{has_access}
use Rattle.lowering.specs.Shapes.{AreReached, FindsBelow, FindsReached}
use Rattle.lowering.specs.Sums.{HasSums, first_sum, reads_any}
use Rattle.statement_costs.specs.Costs.{at, is_there, opened_group, present_at, some_term}
use Rattle.lowering.specs.Starts.{StartsInPlace}
use Rattle.statement_costs.proofs.Leaves.{leaf_told, uses_whole}
use Rattle.statement_costs.proofs.Opened.{Started, full_here, live_here, none_opened, remains_here, same_by, terms_are}
use Rattle.statement_costs.proofs.Parts.{AreLess, AreLive, alike_live, full_same, less_remains, live_same, remains_same, some_less}
use Rattle.statement_costs.proofs.Parts.{some_present}
use Rattle.statement_costs.proofs.Parts.{some_stands, some_uses}
use Rattle.statement_costs.proofs.Trees.{nests_of, uses_terms}
use Rattle.statement_costs.proofs.Walks.{is_some_of_none}

pub some_told : (b : Bool) → is_some (some_if b) ≡ b
some_told true = refl
some_told false = refl

module _ (s : Statement) (formats : List (List FormatLevel)) (stored : Stored) (ranges : ℕ → ℕ) where
  -- where an access is at a point: a tensor's where the coordinates lead, and a sum that has started where it is present
  abbrev pub place : List ℕ → (ℕ → ℕ) → ℕ → Option Span
  place bound point k =
      if nat_lt k (first_sum s) then at s formats stored bound point k
      else some_if (present_at s formats stored ranges (length s.sums) point k)

  pub place_there : (started : ℕ → Bool) (bound : List ℕ) (point : ℕ → ℕ) (k : ℕ) → (first_sum s ≤ k → started k ≡ true)
      → is_some (place bound point k) ≡ is_there s formats stored ranges started bound point k
  place_there started bound point k f = by (nat_lt k (first_sum s)) (λ e. f (high e))
    where
      high : nat_lt k (first_sum s) ≡ false → first_sum s ≤ k
      high e = grind (arith, nat_tests, e)

      by : (b : Bool) → (b ≡ false → started k ≡ true)
          → is_some (if b then at s formats stored bound point k else some_if (present_at s formats stored ranges (length s.sums) point k))
          ≡ (if b then is_some (at s formats stored bound point k)
          else (not (started k) || present_at s formats stored ranges (length s.sums) point k))
      by true g = refl
      by false g =
          some_told (present_at s formats stored ranges (length s.sums) point k)
          ∙ ap (λ c. not c || present_at s formats stored ranges (length s.sums) point k) (sym (g refl))

  -- the terms of loops where some sums have started, and whether an access stands in the part of them that remains
  abbrev pub terms_of : (ℕ → Bool) → LoopCode → List Nest
  terms_of outer c = opened_group s outer (nests_of c)

  abbrev pub in_part : (ℕ → Bool) → List ℕ → (ℕ → ℕ) → LoopCode → ℕ → Bool
  in_part outer bound point c k =
      some_term (λ e. is_live (is_there s formats stored ranges outer bound point) e k) (terms_of outer c)

  -- loops stand inside those of bound variables, where some sums have started, which are those of the place as far as they are read
  pub record IsLaid (outer : ℕ → Bool) (innermost : Option ℕ) (bound : List ℕ) (from : ℕ) (depth : ℕ → ℕ) (c : LoopCode) : Type 0 where
    pub placed : IsWellPlaced (layout_of s formats) (length s.accesses) bound depth c
    pub finds : FindsReached s formats bound depth c
    pub reached : AreReached s formats bound depth (concrete_of c)
    pub below : FindsBelow s c
    pub starts : StartsInPlace s innermost bound from c
    pub covers : (j : ℕ) → reads_any s (concrete_of c) j ≡ true → first_sum s ≤ j → outer j ≡ true → Started s innermost bound from j
    pub covered : (j : ℕ) → reads_any s (concrete_of c) j ≡ true → first_sum s ≤ j → Started s innermost bound from j → outer j ≡ true

  -- accesses are where they should be, but for some that have been left out; where it is told so, these stand in no part that remains
  pub record IsThere (exact : Bool) (outer : ℕ → Bool) (bound : List ℕ) (c : LoopCode) (env : Env) : Type 0 where
    pub some : (k : ℕ) → some_uses (terms_of outer c) k ≡ true
        → (env.cursor k ≡ place bound env.point k) ⊎ (env.cursor k ≡ None)
    pub live : exact ≡ true → (k : ℕ) → in_part outer bound env.point c k ≡ true → env.cursor k ≡ place bound env.point k

  module _ (sums : HasSums s formats) where
    module _ (outer : ℕ → Bool) (innermost : Option ℕ) (bound : List ℕ) (from : ℕ) (depth : ℕ → ℕ) (c : LoopCode)
        (laid : IsLaid outer innermost bound from depth c) where
      same_terms : nests_of (opened c) ≡ terms_of outer c
      same_terms = terms_are s (length s.vars) sums.numbers outer c innermost bound from laid.starts laid.covers laid.covered

      pub leaf_is : (k : ℕ) → some_uses (terms_of outer c) k ≡ has_access (whole (λ j. AccessOf j) c) k
      leaf_is k =
          sym (ap (λ ns. some_uses ns k) same_terms)
          ∙ sym (uses_terms (opened c) (none_opened c (λ j. AccessOf j)) k) ∙ uses_whole (λ j. AccessOf j) c k

      -- each access that stands there is read, and is no sum or has started
      pub leaf : (k : ℕ) → some_uses (terms_of outer c) k ≡ true
          → (reads_any s (concrete_of c) k ≡ true) × (first_sum s ≤ k → Started s innermost bound from k)
      leaf k h =
          leaf_told s (length s.vars) sums.numbers k
          ((reads_any s (concrete_of c) k ≡ true) × (first_sum s ≤ k → Started s innermost bound from k)) c innermost bound from
          (λ j. AccessOf j) laid.starts
          (λ j read known is. let same = same_by j k is in (
            subst (λ i. reads_any s (concrete_of c) i ≡ true) same read,
            subst (λ i. first_sum s ≤ i → Started s innermost bound from i) same known,
          )) (sym (leaf_is k) ∙ h)

      pub leaf_started : (k : ℕ) → some_uses (terms_of outer c) k ≡ true → first_sum s ≤ k → outer k ≡ true
      leaf_started k h low = let l = leaf k h in laid.covered k l.0 low (l.1 low)

      module _ (exact : Bool) (env : Env) (there : IsThere exact outer bound c env) where
        abbrev P : ℕ → Bool
        P = is_there s formats stored ranges outer bound env.point

        pub less_there : AreLess P (here env) (terms_of outer c)
        less_there k h is = by (there.some k h)
          where
            by : (env.cursor k ≡ place bound env.point k) ⊎ (env.cursor k ≡ None) → P k ≡ true
            by (inl at_place) = sym (place_there outer bound env.point k (leaf_started k h)) ∙ sym (ap is_some at_place) ∙ is
            by (inr none) = absurd (is_some_of_none (sym (ap is_some none) ∙ is))

        pub live_there : exact ≡ true → AreLive P (here env) (terms_of outer c)
        live_there e k h =
            ap is_some (there.live e k h)
            ∙ place_there outer bound env.point k (leaf_started k (some_stands P (terms_of outer c) k h))
            ∙ some_present P k (terms_of outer c) h

        pub remains_less : remains_below (here env) c ≡ true → some_term (remains P) (terms_of outer c) ≡ true
        remains_less h =
            some_less P (here env) (remains (here env)) (remains P) (less_remains (here env) P) (terms_of outer c) less_there
            (sym (remains_here s (length s.vars) sums.numbers outer c innermost bound from laid.starts laid.covers laid.covered (here env))
            ∙ h)

        pub remains_is : exact ≡ true → remains_below (here env) c ≡ some_term (remains P) (terms_of outer c)
        remains_is e =
            remains_here s (length s.vars) sums.numbers outer c innermost bound from laid.starts laid.covers laid.covered (here env)
            ∙ remains_same P (here env) (terms_of outer c) less_there (live_there e)

        pub full_is : exact ≡ true → (G : ℕ → Bool) → is_full_below G (here env) c ≡ some_term (is_full G P) (terms_of outer c)
        full_is e G =
            full_here s (length s.vars) sums.numbers outer c innermost bound from laid.starts laid.covers laid.covered G (here env)
            ∙ full_same P (here env) (terms_of outer c) less_there (live_there e) G

        pub live_is : exact ≡ true → (k : ℕ) → (first_sum s ≤ k → Started s innermost bound from k)
            → is_live_below (here env) c k ≡ in_part outer bound env.point c k
        live_is e k known =
            live_here s (length s.vars) sums.numbers outer c innermost bound from laid.starts laid.covers laid.covered (here env) k known
            ∙ live_same P (here env) (terms_of outer c) less_there (live_there e) k

      -- where more or fewer sums have started that aren't read
      module _ (other : ℕ → Bool)
          (covers : (j : ℕ) → reads_any s (concrete_of c) j ≡ true → first_sum s ≤ j → other j ≡ true → Started s innermost bound from j)
          (covered : (j : ℕ) → reads_any s (concrete_of c) j ≡ true → first_sum s ≤ j → Started s innermost bound from j
          → other j ≡ true) where
        pub laid_by : IsLaid other innermost bound from depth c
        laid_by = record {
          placed = laid.placed;
          finds = laid.finds;
          reached = laid.reached;
          below = laid.below;
          starts = laid.starts;
          covers = covers;
          covered = covered;
        }

        terms_by : terms_of outer c ≡ terms_of other c
        terms_by = sym same_terms ∙ terms_are s (length s.vars) sums.numbers other c innermost bound from laid.starts covers covered

        pub there_by : (exact : Bool) (env : Env) → IsThere exact outer bound c env → IsThere exact other bound c env
        there_by exact env there = record {
          some = λ k h. there.some k (ap (λ ns. some_uses ns k) terms_by ∙ h);
          live = λ e k h. there.live e k (part k ∙ h);
        }
          where
            part : (k : ℕ) → in_part outer bound env.point c k ≡ in_part other bound env.point c k
            part k =
                alike_live (is_there s formats stored ranges outer bound env.point) (is_there s formats stored ranges other bound env.point)
                (terms_of outer c)
                (λ j is. let l = leaf j is in
                sym (place_there outer bound env.point j (leaf_started j is))
                ∙ place_there other bound env.point j (λ low. covered j l.0 low (l.1 low))) k
                ∙ ap (some_term (λ e. is_live (is_there s formats stored ranges other bound env.point) e k)) terms_by

    -- accesses that stand in no part of a loop may be left out
    module _ (outer : ℕ → Bool) (innermost : Option ℕ) (bound : List ℕ) (from : ℕ) (depth : ℕ → ℕ) (v : ℕ) (seeks : List Seek)
        (body : LoopCode) (laid : IsLaid outer innermost bound from depth (Loop v seeks body)) (env : Env)
        (there : IsThere true outer bound (Loop v seeks body) env) where
      live_here_is : (k : ℕ) → (first_sum s ≤ k → Started s innermost bound from k)
          → is_live_below (here env) body k ≡ in_part outer bound env.point (Loop v seeks body) k
      unfolding hidden-the_row-LoopCode-0 hidden
      live_here_is k known = live_is outer innermost bound from depth (Loop v seeks body) laid true env there refl k known

      pub there_pruned : IsThere true outer bound (Loop v seeks body) (pruned body env)
      there_pruned = record {
        some = λ k h. by k (is_live_below (here env) body k) (there.some k h);
        live = λ e k h. let stands = some_stands (is_there s formats stored ranges outer bound env.point)
            (terms_of outer (Loop v seeks body)) k h in
            ap (λ b. if b then env.cursor k else None)
            (live_here_is k (leaf outer innermost bound from depth (Loop v seeks body) laid k stands).1 ∙ h)
            ∙ there.live e k h;
      }
        where
          by : (k : ℕ) (b : Bool) → (env.cursor k ≡ place bound env.point k) ⊎ (env.cursor k ≡ None)
              → ((if b then env.cursor k else None) ≡ place bound env.point k) ⊎ ((if b then env.cursor k else None) ≡ None)
          by k true o = o
          by k false o = inr refl
