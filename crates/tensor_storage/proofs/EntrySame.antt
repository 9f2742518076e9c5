-- Entries below a parent are told by the coordinate at each position.
use Rattle.std.specs.Prelude.{◌≡◌, ◌≢◌, ◌⊎◌, ℕ, zero, suc, ◌+◌, ◌-◌, ◌≤◌, ◌<◌, ◌==◌, false, if◌then◌else◌, List, [], ◌∷◌, Option, Some}
use Rattle.std.specs.Prelude.{None, refl}
use Rattle.std.proofs.Common.{◌∙◌, sym, ap, arith, inl, inr}
use Rattle.std.proofs.lemmas.Bool.{cases_lt, cases_order}
use Rattle.std.proofs.lemmas.Bool.Decides.{nat_tests}
use Rattle.level_core.specs.declared.span.Span.{Span}
use Rattle.level_core.specs.declared.span.Entry.{Entry}
use Rattle.level_core.specs.Entries.{Placed, Tiles, Rising, AllBelow, Lacks, Distinct, Single, coord_at, position_of, sought_at}
use Rattle.level_core.specs.Entries.{span as the_span}
use Rattle.level_core.specs.Orders.{IsAfterSmaller}
use Rattle.level_core.proofs.EntryLaws.{coord_here, coord_past, coord_before}
use Rattle.level_core.proofs.Orders.{position_coord, coord_position}
use Rattle.level_rows.proofs.Entries.{coord_from, lacks_at, stands_within}

none_some : {A : Type 0} (x : ℕ) → None ≡ Some x → A
none_some x h = absurd (apart h)
  where
    apart : None ≡ Some x → ⊥
    apart e = cc

same_some : (x y : ℕ) → Some x ≡ Some y → x ≡ y
same_some x y h = cc

-- no coordinate stands before the entries
none_below : (pos hi q : ℕ) (es : List Entry) → Placed pos hi es → q < pos → coord_at es q ≡ None
none_below pos hi q [] p h = refl
none_below pos hi q (e ∷ es) p h =
    let before = p.0 in let some = p.1 in
    coord_before e es q (omega (arith, before, h)) ∙ none_below e.child.hi hi q es p.2 (omega (arith, before, some, h))

lacks_coord : (x q : ℕ) (es : List Entry) → Lacks x es → coord_at es q ≡ Some x → ⊥
lacks_coord x q es lacks h = let k = coord_from q x es h in lacks_at x k.entry.child.lo k.entry es lacks k.stands k.coord

abbrev pub entry_with : ℕ → ℕ → ℕ → Entry
entry_with x lo hi = record { coord = x; child = the_span lo hi }

-- another entry's position
other_position : (x : ℕ) (e : Entry) (es : List Entry) → e.coord ≢ x → position_of (e ∷ es) x ≡ position_of es x
other_position x e es apart = let is : (e.coord == x) ≡ false = grind (arith, nat_tests, apart) in
    ap (λ b. if b then Some e.child.lo else position_of es x) is

entry_is : (e f : Entry) → e.coord ≡ f.coord → e.child.lo ≡ f.child.lo → e.child.hi ≡ f.child.hi → e ≡ f
entry_is e f coord lo hi =
    ap (λ x. entry_with x e.child.lo e.child.hi) coord ∙ ap (λ a. entry_with f.coord a e.child.hi) lo
    ∙ ap (λ b. entry_with f.coord f.child.lo b) hi

-- entries with the same coordinate at each position are the same
pub entries_same : (a b c d : ℕ) (es fs : List Entry) → Placed a b es → Placed c d fs → Distinct es → Distinct fs
    → ((q : ℕ) → coord_at es q ≡ coord_at fs q) → es ≡ fs
entries_same a b c d [] [] p r es_apart fs_apart same = refl
entries_same a b c d [] (f ∷ fs) p r es_apart fs_apart same = let some = r.1 in
    none_some f.coord (same f.child.lo ∙ coord_here f fs f.child.lo (omega arith) some)
entries_same a b c d (e ∷ es) [] p r es_apart fs_apart same = let some = p.1 in
    none_some e.coord (sym (same e.child.lo) ∙ coord_here e es e.child.lo (omega arith) some)
entries_same a b c d (e ∷ es) (f ∷ fs) p r es_apart fs_apart same =
    by_lo (λ n. entries_same e.child.hi b f.child.hi d es fs p.2 r.2 es_apart.1 fs_apart.1 n) (cases_order e.child.lo f.child.lo)
  where
    here : (q : ℕ) → e.child.lo ≤ q → q < e.child.hi → coord_at (e ∷ es) q ≡ Some e.coord
    here q from before = coord_here e es q from before

    there : (q : ℕ) → f.child.lo ≤ q → q < f.child.hi → coord_at (f ∷ fs) q ≡ Some f.coord
    there q from before = coord_here f fs q from before

    e_some : e.child.lo < e.child.hi
    e_some = p.1

    f_some : f.child.lo < f.child.hi
    f_some = r.1

    coords : e.child.lo ≡ f.child.lo → e.coord ≡ f.coord
    coords lo = same_some e.coord f.coord (sym (here e.child.lo (omega arith) e_some) ∙ same e.child.lo
        ∙ there e.child.lo (omega (arith, lo)) (let k = f_some in omega (arith, lo, k)))

    rest : e.child.lo ≡ f.child.lo → e.child.hi ≡ f.child.hi → (q : ℕ) → coord_at es q ≡ coord_at fs q
    rest lo hi q = by_side (cases_lt q e.child.hi)
      where
        by_side : (q < e.child.hi) ⊎ (e.child.hi ≤ q) → coord_at es q ≡ coord_at fs q
        by_side (inl before) = none_below e.child.hi b q es p.2 before ∙ sym (none_below f.child.hi d q fs r.2 (omega (arith, before, hi)))
        by_side (inr from) = sym (coord_past e es q from) ∙ same q ∙ coord_past f fs q (omega (arith, from, hi))

    by_hi : (((q : ℕ) → coord_at es q ≡ coord_at fs q) → es ≡ fs) → e.child.lo ≡ f.child.lo
        → (e.child.hi ≡ f.child.hi) ⊎ ((e.child.hi < f.child.hi) ⊎ (f.child.hi < e.child.hi)) → e ∷ es ≡ f ∷ fs
    by_hi again lo (inl hi) = ap (λ g. g ∷ es) (entry_is e f (coords lo) lo hi) ∙ ap (λ gs. f ∷ gs) (again (rest lo hi))
    by_hi again lo (inr (inl less)) =
        let some = e_some in
        absurd (lacks_coord e.coord e.child.hi es es_apart.0
        (sym (coord_past e es e.child.hi (omega arith)) ∙ same e.child.hi ∙ there e.child.hi (omega (arith, lo, some)) less
        ∙ ap Some (sym (coords lo))))
    by_hi again lo (inr (inr less)) =
        let some = f_some in
        absurd (lacks_coord f.coord f.child.hi fs fs_apart.0
        (sym (coord_past f fs f.child.hi (omega arith)) ∙ sym (same f.child.hi) ∙ here f.child.hi (omega (arith, lo, some)) less
        ∙ ap Some (coords lo)))

    by_lo : (((q : ℕ) → coord_at es q ≡ coord_at fs q) → es ≡ fs)
        → (e.child.lo ≡ f.child.lo) ⊎ ((e.child.lo < f.child.lo) ⊎ (f.child.lo < e.child.lo)) → e ∷ es ≡ f ∷ fs
    by_lo again (inl lo) = by_hi again lo (cases_order e.child.hi f.child.hi)
    by_lo again (inr (inl less)) =
        none_some e.coord (sym (none_below f.child.lo d e.child.lo (f ∷ fs) (omega arith, r.1, r.2) less) ∙ sym (same e.child.lo)
        ∙ here e.child.lo (omega arith) e_some)
    by_lo again (inr (inr less)) =
        none_some f.coord (sym (none_below e.child.lo b f.child.lo (e ∷ es) (omega arith, p.1, p.2) less) ∙ same f.child.lo
        ∙ there f.child.lo (omega arith) f_some)

-- where child spans follow one another, each position has a coordinate
pub tiles_coord : (lo hi q : ℕ) (es : List Entry) → Tiles lo hi es → lo ≤ q → q < hi → (x : ℕ) × (coord_at es q ≡ Some x)
tiles_coord lo hi q [] t from before = absurd (omega (arith, t, from, before))
tiles_coord lo hi q (e ∷ es) t from before = by_side (λ past. tiles_coord e.child.hi hi q es t.2 past before) (cases_lt q e.child.hi)
  where
    by_side : (e.child.hi ≤ q → (x : ℕ) × (coord_at es q ≡ Some x)) → (q < e.child.hi) ⊎ (e.child.hi ≤ q)
        → (x : ℕ) × (coord_at (e ∷ es) q ≡ Some x)
    by_side again (inl here) = let at = t.0 in (e.coord, coord_here e es q (omega (arith, at, from)) here)
    by_side again (inr past) = let k = again past in (k.0, coord_past e es q past ∙ k.1)

-- a coordinate stands at a position of the segment
pub coord_inside : (lo hi q x : ℕ) (es : List Entry) → Placed lo hi es → coord_at es q ≡ Some x → (lo ≤ q) × (q < hi)
coord_inside lo hi q x es p h =
    let k = coord_from q x es h in
    let s = stands_within lo hi k.entry.child.lo k.entry es p k.stands in
    let a = s.0 in let b = s.2 in let c = k.at.0 in let d = k.at.1 in
    (omega (arith, a, c), omega (arith, b, d))

-- so many coordinates in a row
abbrev pub upward : ℕ → ℕ → ℕ → List Entry
upward zero x pos = []
upward (suc n) x pos = entry_with x pos (pos + 1) ∷ upward n (x + 1) (pos + 1)

rising_lacks : (least x : ℕ) (es : List Entry) → Rising least es → x < least → Lacks x es
rising_lacks least x [] r h = tt
rising_lacks least x (e ∷ es) r h = let first = r.0 in
    ((λ same. omega (arith, first, h, same)), rising_lacks (e.coord + 1) x es r.1 (omega (arith, first, h)))

lacks_position : (x pos : ℕ) (es : List Entry) → Lacks x es → position_of es x ≡ Some pos → ⊥
lacks_position x pos [] l h = none_some pos h
lacks_position x pos (e ∷ es) l h = lacks_position x pos es l.1 (sym (other_position x e es l.0) ∙ h)

-- each coordinate from the least on and below n stands there once
pub full_is : (lo hi least n : ℕ) (es : List Entry) → Tiles lo hi es → Single es → Rising least es → AllBelow n es
    → ((x : ℕ) → least ≤ x → x < n → (pos : ℕ) × (position_of es x ≡ Some pos)) → least ≤ n
    → (es ≡ upward (n - least) least lo) × (hi ≡ lo + (n - least))
full_is lo hi least n [] t s r b all upto = by_order (cases_lt least n)
  where
    by_order : (least < n) ⊎ (n ≤ least) → ([] ≡ upward (n - least) least lo) × (hi ≡ lo + (n - least))
    by_order (inl less) = let k = all least (omega arith) less in none_some k.0 k.1
    by_order (inr from) = let zero_is : n - least ≡ 0 = omega (arith, from) in
        (ap (λ m. upward m least lo) (sym zero_is), omega (arith, t, zero_is))
full_is lo hi least n (e ∷ es) t s r b all upto =
    let first = r.0 in
    let below = b.0 in
    let is : e.coord ≡ least = by_order (cases_lt least e.coord) in
    let wide = s.0 in
    let at = t.0 in
    let next : e.child.hi ≡ lo + 1 = omega (arith, at, wide) in
    let k = full_is e.child.hi hi (e.coord + 1) n es t.2 s.1 r.1 b.1 (λ x from less. let q = all x (omega (arith, from, first)) less in
    (q.0, sym (other_position x e es (λ same. omega (arith, from, same))) ∙ q.1)) (omega (arith, below)) in
    let one_less : n - least ≡ suc (n - (e.coord + 1)) = omega (arith, below, is) in
    let ends = k.1 in (
      ap (λ g. g ∷ es) (entry_is e (entry_with least lo (lo + 1)) is at next)
          ∙ ap (λ gs. entry_with least lo (lo + 1) ∷ gs) (k.0 ∙ ap (λ x. upward (n - (e.coord + 1)) (x + 1) e.child.hi) is
          ∙ ap (λ q. upward (n - (e.coord + 1)) (least + 1) q) next)
          ∙ ap (λ m. upward m least lo) (sym one_less),
      omega (arith, ends, next, one_less),
    )
  where
    by_order : (least < e.coord) ⊎ (e.coord ≤ least) → e.coord ≡ least
    by_order (inl less) =
        let k = all least (omega arith) (let below = b.0 in omega (arith, less, below)) in
        absurd (lacks_position least k.0 (e ∷ es) (
          (λ same. omega (arith, less, same)),
          rising_lacks (e.coord + 1) least es r.1 (omega (arith, less)),
        ) k.1)
    by_order (inr from) = let first = r.0 in omega (arith, first, from)

-- two blocks of the same coordinates, each sought past smaller ones alone
module _ (segment : Span) (es fs : List Entry) (es_placed : Placed segment.lo segment.hi es) (fs_placed : Placed segment.lo segment.hi fs)
    (es_apart : Distinct es) (fs_apart : Distinct fs) (es_single : Single es) (fs_single : Single fs)
    (into : (x pos : ℕ) → position_of es x ≡ Some pos → (q : ℕ) × (position_of fs x ≡ Some q)) (es_order : (x pos : ℕ)
    → position_of es x ≡ Some pos → IsAfterSmaller segment es x pos) (fs_order : (x pos : ℕ) → position_of fs x ≡ Some pos
    → IsAfterSmaller segment fs x pos)
    (back : (x pos : ℕ) → position_of fs x ≡ Some pos → (q : ℕ) × (position_of es x ≡ Some q)) where
  positions_below : (n x pos : ℕ) → x < n → position_of es x ≡ Some pos → position_of fs x ≡ Some pos
  positions_below zero x pos less h = absurd (omega (arith, less))
  positions_below (suc n) x pos less h = by_steps (positions_below n) (into x pos h)
    where
      by_steps : ((y q : ℕ) → y < n → position_of es y ≡ Some q → position_of fs y ≡ Some q) → (q : ℕ) × (position_of fs x ≡ Some q)
          → position_of fs x ≡ Some pos
      by_steps again other = by_order (cases_order a.steps c.steps)
        where
          a : IsAfterSmaller segment es x pos
          a = es_order x pos h

          c : IsAfterSmaller segment fs x other.0
          c = fs_order x other.0 other.1

          by_order : (a.steps ≡ c.steps) ⊎ ((a.steps < c.steps) ⊎ (c.steps < a.steps)) → position_of fs x ≡ Some pos
          by_order (inl same) = other.1 ∙ ap Some (c.at ∙ ap (sought_at segment x) (sym same) ∙ sym a.at)
          by_order (inr (inl fewer)) =
              let k = c.smaller a.steps fewer in
              let there : position_of fs k.0 ≡ Some pos = coord_position k.0 pos fs fs_apart fs_single (ap (coord_at fs) a.at ∙ k.1) in
              let mine = back k.0 pos there in
              let again_there = again k.0 mine.0 (let lower = k.2 in omega (arith, lower, less)) mine.1 in
              let same_pos : mine.0 ≡ pos = same_some mine.0 pos (sym again_there ∙ there) in
              let here = (position_coord segment.lo segment.hi k.0 mine.0 es es_placed mine.1).0 in
              let own = (position_coord segment.lo segment.hi x pos es es_placed h).0 in
              let equal = same_some k.0 x (sym here ∙ ap (coord_at es) same_pos ∙ own) in
              let lower = k.2 in
              absurd (omega (arith, lower, equal))
          by_order (inr (inr fewer)) =
              let k = a.smaller c.steps fewer in
              let here : position_of es k.0 ≡ Some other.0 = coord_position k.0 other.0 es es_apart es_single
              (ap (coord_at es) c.at ∙ k.1) in
              let there = again k.0 other.0 (let lower = k.2 in omega (arith, lower, less)) here in
              let at = (position_coord segment.lo segment.hi k.0 other.0 fs fs_placed there).0 in
              let own = (position_coord segment.lo segment.hi x other.0 fs fs_placed other.1).0 in
              let equal = same_some k.0 x (sym at ∙ own) in
              let lower = k.2 in
              absurd (omega (arith, lower, equal))

  pub coord_into : (q x : ℕ) → coord_at es q ≡ Some x → coord_at fs q ≡ Some x
  coord_into q x h =
      (position_coord segment.lo segment.hi x q fs fs_placed
      (positions_below (suc x) x q (omega arith) (coord_position x q es es_apart es_single h))).0

-- a coordinate that stands in the one where it stands in the other, both ways
pub options_same : (o p : Option ℕ) → ((x : ℕ) → o ≡ Some x → p ≡ Some x) → ((x : ℕ) → p ≡ Some x → o ≡ Some x) → o ≡ p
options_same None None f g = refl
options_same None (Some y) f g = g y refl
options_same (Some x) p f g = sym (f x refl)
