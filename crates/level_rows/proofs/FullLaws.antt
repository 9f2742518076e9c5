-- A full level has a position for each coordinate below its range, in order: so the position of a coordinate below a parent can be told.
use Rattle.std.specs.Prelude.{◌≡◌, ◌≢◌, ◌⊎◌, ℕ, zero, suc, ◌+◌, ◌-◌, ◌*◌, ◌≤◌, ◌<◌, ◌==◌, Bool, true, false, if◌then◌else◌, List, [], ◌∷◌}
use Rattle.std.specs.Prelude.{Some, None, refl}
use Rattle.std.proofs.Common.{◌∙◌, sym, ap, subst, arith, inl, inr}
use Rattle.std.proofs.lemmas.Bool.{cases_lt}
use Rattle.std.proofs.lemmas.Bool.Decides.{nat_tests}
use Rattle.level_core.specs.declared.span.Entry.{Entry}
use Rattle.level_core.specs.declared.letter.Letter.TheVariants.{Dense}
use Rattle.level_core.specs.Entries.{AllBelow, Rising, Single, Tiles, one, position_of}
use Rattle.level_core.specs.Kinds.{properties, AreEntries}
use Rattle.level_core.specs.Meaning.{Meaning}
use Rattle.level_core.specs.Laws.{Laws}
use Rattle.level_core.proofs.KindLaws.{full_is_dense}

none_some : (q : ℕ) → None ≡ Some q → ⊥
none_some q h = cc

-- a coordinate below those that rise has no position
rising_none : (least x : ℕ) (es : List Entry) → Rising least es → x < least → position_of es x ≡ None
rising_none least x [] r h = refl
rising_none least x (e ∷ es) r h =
    let from = r.0 in
    let other : (e.coord == x) ≡ false = grind (arith, nat_tests, from, h) in
    ap (λ b. if b then Some e.child.lo else position_of es x) other ∙ rising_none (e.coord + 1) x es r.1 (omega (arith, from, h))

-- what a list of entries is that has each coordinate from x on, below n, one position each, one after another from pos on
record Rows (x n pos hi : ℕ) (es : List Entry) : Type 0 where
  end : hi ≡ pos + (n - x)
  at : (y : ℕ) → x ≤ y → y < n → position_of es y ≡ Some (pos + (y - x))

-- one more coordinate in front
one_more : (x n pos hi : ℕ) (e : Entry) (es : List Entry) → Rising x (e ∷ es) → AllBelow n (e ∷ es) → Single (e ∷ es)
    → Tiles pos hi (e ∷ es) → ((y : ℕ) → x ≤ y → y < n → (q : ℕ) × position_of (e ∷ es) y ≡ Some q)
    → (x + 1 ≤ n → Rising (x + 1) es → AllBelow n es → Single es → Tiles (pos + 1) hi es
    → ((y : ℕ) → x + 1 ≤ y → y < n → (q : ℕ) × position_of es y ≡ Some q) → Rows (x + 1) n (pos + 1) hi es)
    → Rows x n pos hi (e ∷ es)
one_more x n pos hi e es r b s t full again = record {
  end = let k = rest.end in let below = b.0 in omega (arith, k, here, next, first, below);
  at = λ y from below. by_test y from below (e.coord == y) refl;
}
  where
    -- the first coordinate is x: else x has no position
    first : e.coord ≡ x
    first = by_test (e.coord == x) refl
      where
        by_test : (t : Bool) → (e.coord == x) ≡ t → e.coord ≡ x
        by_test true is = grind (arith, nat_tests, is)
        by_test false is =
            let other : e.coord ≢ x = grind (arith, nat_tests, is) in
            let from = r.0 in
            let below = b.0 in
            let k = full x (omega arith) (omega (arith, from, below)) in
            absurd (none_some k.0 (sym (rising_none (e.coord + 1) x es r.1 (omega (arith, from)))
            ∙ sym (ap (λ t. if t then Some e.child.lo else position_of es x) is) ∙ k.1))

    here : e.child.lo ≡ pos
    here = t.0

    next : e.child.hi ≡ pos + 1
    next = s.0 ∙ ap (λ p. p + 1) here

    rest : Rows (x + 1) n (pos + 1) hi es
    rest = again (let below = b.0 in omega (arith, below, first)) (subst (λ c. Rising (c + 1) es) first r.1) b.1 s.1
        (subst (λ p. Tiles p hi es) next t.2)
        (λ y more below.
        let k = full y (omega (arith, more)) below in
        let other : (e.coord == y) ≡ false = grind (arith, nat_tests, first, more) in
        (k.0, sym (ap (λ t. if t then Some e.child.lo else position_of es y) other) ∙ k.1))

    apart_more : (a c : ℕ) → a ≤ c → (a ≡ c → ⊥) → a + 1 ≤ c
    apart_more a c h other = by_case (cases_lt a c)
      where
        by_case : (a < c) ⊎ (c ≤ a) → a + 1 ≤ c
        by_case (inl l) = omega (arith, l)
        by_case (inr l) = let same : a ≡ c = omega (arith, h, l) in absurd (other same)

    by_test : (y : ℕ) → x ≤ y → y < n → (t : Bool) → (e.coord == y) ≡ t → position_of (e ∷ es) y ≡ Some (pos + (y - x))
    by_test y more below true is =
        let same : e.coord ≡ y = grind (arith, nat_tests, is) in
        let there : e.child.lo ≡ pos + (y - x) = omega (arith, here, same, first) in
        ap (λ t. if t then Some e.child.lo else position_of es y) is ∙ ap Some there
    by_test y more below false is =
        let other : e.coord ≢ y = grind (arith, nat_tests, is) in
        let behind : x + 1 ≤ y = apart_more x y more (λ same. other (first ∙ same)) in
        let there : pos + 1 + (y - (x + 1)) ≡ pos + (y - x) = omega (arith, behind) in
        ap (λ t. if t then Some e.child.lo else position_of es y) is ∙ rest.at y behind below ∙ ap Some there

all_there : (x n pos hi : ℕ) (es : List Entry) → x ≤ n → Rising x es → AllBelow n es → Single es → Tiles pos hi es
    → ((y : ℕ) → x ≤ y → y < n → (q : ℕ) × position_of es y ≡ Some q) → Rows x n pos hi es
all_there x n pos hi [] within r b s t full = by_order (cases_lt x n)
  where
    by_order : (x < n) ⊎ (n ≤ x) → Rows x n pos hi []
    by_order (inl more) = let k = full x (omega arith) more in absurd (none_some k.0 k.1)
    by_order (inr done) = record { end = omega (arith, t, done, within); at = λ y from below. absurd (omega (arith, from, below, done)) }
all_there x n pos hi (e ∷ es) within r b s t full =
    one_more x n pos hi e es r b s t full (λ w q c d u f. all_there (x + 1) n (pos + 1) hi es w q c d u f)

module _ {L : Type 0} (means : Meaning L) (laws : Laws means) (l : L) (n parents : ℕ) (full : (properties (means.kind l)).full ≡ true)
    (size : means.size l ≡ n) (has : means.has_parents l parents) where
  is_dense : means.kind l ≡ Dense
  is_dense = full_is_dense (means.kind l) full

  rows_below : (p : ℕ) → p < parents
      → Rows 0 n (means.segment_of l (one p)).lo (means.segment_of l (one p)).hi (means.entries l (one p))
  rows_below p h =
      let are : AreEntries (properties Dense) n (one p) (means.segment_of l (one p)) (means.entries l (one p)) =
      subst (λ k. AreEntries (properties k) n (one p) (means.segment_of l (one p)) (means.entries l (one p))) is_dense
      (subst (λ k. AreEntries (properties (means.kind l)) k (one p) (means.segment_of l (one p)) (means.entries l (one p))) size
      (laws.entries l (one p) (laws.parents l parents p has h))) in
      let have = are.properties in
      all_there 0 n (means.segment_of l (one p)).lo (means.segment_of l (one p)).hi (means.entries l (one p)) (omega arith)
      (have.ordered refl) are.below (have.unique refl) (have.compact refl) (λ y _ below. have.full refl y below)

  -- each parent's positions begin behind those of the parents before
  begins_at : (p : ℕ) → p < parents → (means.segment_of l (one p)).lo ≡ p * n
  begins_at zero h =
      let none : 0 ≡ zero * n = omega arith in
      (laws.in_row l).first (one 0) (laws.parents l parents 0 has h) refl ∙ none
  begins_at (suc p) h =
      let before : p < parents = omega (arith, h) in
      let end = (rows_below p before).end in
      let lo = begins_at p before in
      let at : p + 1 ≡ suc p = omega arith in
      let next : (means.segment_of l (one p)).hi ≡ (means.segment_of l (one (suc p))).lo = (laws.in_row l).next (one p) (one (suc p))
      (laws.parents l parents p has before) (laws.parents l parents (suc p) has h) at in
      omega (arith, end, lo, next)

  -- the position of a coordinate below a parent
  pub full_position : (p x : ℕ) → p < parents → x < n → position_of (means.entries l (one p)) x ≡ Some (p * n + x)
  full_position p x h below =
      let lo = begins_at p h in
      let at : (means.segment_of l (one p)).lo + (x - 0) ≡ p * n + x = omega (arith, lo) in
      (rows_below p h).at x (omega arith) below ∙ ap Some at
