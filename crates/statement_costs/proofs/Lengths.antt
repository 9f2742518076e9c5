-- The segments that a loop goes through are together no longer than those of the accesses that its group goes through.
use Rattle.std.specs.Prelude.{◌≡◌, ◌≢◌, ◌⊎◌, ℕ, zero, suc, ◌+◌, ◌-◌, ◌≤◌, ◌<◌, nat_eq, Bool, true, false, if◌then◌else◌}
use Rattle.std.specs.Prelude.{List, [], ◌∷◌, length, refl}
use Rattle.std.proofs.Common.{◌∙◌, sym, ap, subst, arith, inl, inr}
use Rattle.std.proofs.lemmas.Bool.Decides.{nat_tests, eqb_tells}
use Rattle.level_core.specs.declared.span.Entry.{Entry as LevelEntry}
use Rattle.lists.specs.Each.{Each}
use Rattle.loop_code.specs.declared.loops.Seek.{Seek}
use Rattle.loop_code.specs.Loops.{Layout}
use Rattle.loop_code.specs.Places.{AreSeeks, deeper}
use Rattle.loop_code.specs.Turns.{count_below, weight_of}
use Rattle.loop_code.proofs.Turns.{count_most}

self : (k : ℕ) → nat_eq k k ≡ true
self k = grind (arith, nat_tests)

-- a sum that is at most another but at one place, where that has room for a number more
pub count_take : (n a w : ℕ) (f g : ℕ → ℕ) → a < n → ((k : ℕ) → k ≢ a → f k ≤ g k) → f a + w ≤ g a
    → count_below n f + w ≤ count_below n g
count_take zero a w f g l most room = absurd (omega (arith, l))
count_take (suc n) a w f g l most room =
    by (λ m. count_take n a w f g m most room) (eqb_tells n a)
  where
    everywhere : (k : ℕ) → f k ≤ g k
    everywhere k = elim (eqb_tells k a) [
      | inl same ↦ subst (λ j. f j ≤ g j) (sym same.1) (let less : f a ≤ g a = omega (arith, room) in less)
      | inr other ↦ most k other.1
    ]

    by : (a < n → count_below n f + w ≤ count_below n g) → ((nat_eq n a ≡ true) × (n ≡ a)) ⊎ ((nat_eq n a ≡ false) × (n ≢ a))
        → (count_below n f + f n) + w ≤ count_below n g + g n
    by more (inl same) =
        let rest = count_most n f g everywhere in
        let here : f n + w ≤ g n = subst (λ j. f j + w ≤ g j) (sym same.1) room in
        omega (arith, rest, here)
    by more (inr other) =
        let rest = more (omega (arith, l, other.1)) in
        let here = most n other.1 in
        omega (arith, rest, here)

pub weight_most : (f g : LevelEntry → ℕ) (es : List LevelEntry) → ((e : LevelEntry) → f e ≤ g e) → weight_of f es ≤ weight_of g es
weight_most f g [] h = omega arith
weight_most f g (e ∷ es) h = let more = weight_most f g es h in omega (arith, more, h e)

pub weight_none : (es : List LevelEntry) → weight_of (λ e. 0) es ≡ 0
weight_none [] = refl
weight_none (e ∷ es) = let more = weight_none es in omega (arith, more)

-- coordinates are stored at least once
pub length_weight : (u : Bool) (es : List LevelEntry) → (u ≡ false → Each (λ (e : LevelEntry). e.child.lo < e.child.hi) es)
    → length es ≤ weight_of (λ e. if u then 1 else e.child.hi - e.child.lo) es
length_weight u [] h = omega arith
length_weight true (e ∷ es) h =
    let more = length_weight true es (λ no. absurd (let n : true ≡ false = no in cc n)) in omega (arith, more)
length_weight false (e ∷ es) h =
    let here = (h refl).0 in
    let more = length_weight false es (λ no. (h refl).1) in
    omega (arith, here, more)

-- a number of each seek that isn't full, summed, where that is at most a number of its access
module _ (layout : Layout) (count v : ℕ) (bound : List ℕ) (above : ℕ → ℕ) (used : ℕ → Bool) (of_seek : Seek → ℕ) (of_access : ℕ → ℕ)
    (most : (x : Seek) → used x.access ≡ true → x.access < count → x.level ≡ suc (above x.access)
    → layout.full x.access x.level ≡ false → layout.variable x.access x.level ≡ v → x.level ≤ layout.levels x.access
    → of_seek x ≤ of_access x.access)
    (sum : List Seek → ℕ) (none : sum [] ≡ 0)
    (next : (x : Seek) (seeks : List Seek) → sum (x ∷ seeks) ≡ (if x.full then 0 else of_seek x) + sum seeks) where
  -- of an access of which no level has been found here
  abbrev left : (ℕ → ℕ) → ℕ → ℕ
  left depth k = if nat_eq (depth k) (above k) then of_access k else 0

  left_other : (depth : ℕ → ℕ) (a k : ℕ) → nat_eq a k ≡ false → left (deeper depth a) k ≡ left depth k
  left_other depth a k h = ap (λ b. if nat_eq (if b then suc (depth a) else depth k) (above k) then of_access k else 0) h

  left_none : (depth : ℕ → ℕ) (a : ℕ) → above a ≤ depth a → left (deeper depth a) a ≡ 0
  left_none depth a low =
      ap (λ b. if nat_eq (if b then suc (depth a) else depth a) (above a) then of_access a else 0) (self a)
      ∙ ap (λ b. if b then of_access a else 0) (apart (depth a) (above a) low)
    where
      apart : (d e : ℕ) → e ≤ d → nat_eq (suc d) e ≡ false
      apart d e l = grind (arith, nat_tests, l)

  deeper_low : (depth : ℕ → ℕ) (a : ℕ) → ((k : ℕ) → above k ≤ depth k) → (k : ℕ) → above k ≤ deeper depth a k
  deeper_low depth a low k = elim (eqb_tells a k) [
    | inl same ↦ (
        let low_here : above k ≤ suc (depth a) = let here = low a in subst (λ j. above j ≤ suc (depth a)) same.1 (omega (arith, here)) in
        subst (λ b. above k ≤ (if b then suc (depth a) else depth k)) (sym same.0) low_here)
    | inr other ↦ subst (λ b. above k ≤ (if b then suc (depth a) else depth k)) (sym other.0) (low k)
  ]

  left_most : (depth : ℕ → ℕ) (a : ℕ) → ((k : ℕ) → above k ≤ depth k) → (k : ℕ) → left (deeper depth a) k ≤ left depth k
  left_most depth a low k = elim (eqb_tells a k) [
    | inl same ↦ (
        let nothing : left (deeper depth a) k ≡ 0 = subst (λ j. left (deeper depth a) j ≡ 0) same.1 (left_none depth a (low a)) in
        omega (arith, nothing))
    | inr other ↦ let alike = left_other depth a k other.0 in omega (arith, alike)
  ]

  seeks_left : (depth : ℕ → ℕ) (seeks : List Seek) → AreSeeks layout count v bound above depth seeks
      → Each (λ (x : Seek). used x.access ≡ true) seeks → ((k : ℕ) → above k ≤ depth k)
      → sum seeks ≤ count_below count (left depth)
  seeks_left depth [] are uses low = let zero_sum = none in omega (arith, zero_sum)
  seeks_left depth (x ∷ seeks) are uses low =
      by x.full refl (seeks_left (deeper depth x.access) seeks are.1 uses.1 (deeper_low depth x.access low))
    where
      by : (b : Bool) → x.full ≡ b → sum seeks ≤ count_below count (left (deeper depth x.access))
          → sum (x ∷ seeks) ≤ count_below count (left depth)
      by true is rest =
          let sums : sum (x ∷ seeks) ≡ 0 + sum seeks = next x seeks ∙ ap (λ b. (if b then 0 else of_seek x) + sum seeks) is in
          let fewer = count_most count (left (deeper depth x.access)) (left depth) (left_most depth x.access low) in
          omega (arith, sums, rest, fewer)
      by false is rest =
          let sums : sum (x ∷ seeks) ≡ of_seek x + sum seeks = next x seeks ∙ ap (λ b. (if b then 0 else of_seek x) + sum seeks) is in
          let own = are.0.own is in
          let level : x.level ≡ suc (above x.access) = are.0.next ∙ ap suc own.1 in
          let here = most x uses.0 are.0.access level (sym are.0.full_is ∙ is) own.0 are.0.within in
          let taken : left (deeper depth x.access) x.access ≡ 0 = left_none depth x.access (low x.access) in
          let open_here : left depth x.access ≡ of_access x.access =
          ap (λ n. if nat_eq n (above x.access) then of_access x.access else 0) own.1
          ∙ ap (λ b. if b then of_access x.access else 0) (self (above x.access)) in
          let fewer = count_take count x.access (of_seek x) (left (deeper depth x.access)) (left depth) are.0.access
          (λ k other. let fewer_there = left_most depth x.access low k in fewer_there)
          (omega (arith, taken, open_here, here)) in
          omega (arith, sums, rest, fewer)

  pub seeks_most : (seeks : List Seek) → AreSeeks layout count v bound above above seeks
      → Each (λ (x : Seek). used x.access ≡ true) seeks → sum seeks ≤ count_below count of_access
  seeks_most seeks are uses =
      let all = seeks_left above seeks are uses (λ k. omega arith) in
      let whole = count_most count (left above) of_access (λ k. at_most (nat_eq (above k) (above k)) (of_access k)) in
      omega (arith, all, whole)
    where
      at_most : (b : Bool) (m : ℕ) → (if b then m else 0) ≤ m
      at_most true m = omega arith
      at_most false m = omega arith
