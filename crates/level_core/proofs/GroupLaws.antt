-- Lemmas about what specs/GroupLaws.antt defines.
use Rattle.std.specs.Prelude.{◌≡◌, ◌≢◌, ℕ, suc, ◌+◌, ◌-◌, ◌≤◌, ◌<◌, nat_lt, ◌==◌, Bool, true, false, if◌then◌else◌, List, [], ◌∷◌, length}
use Rattle.std.specs.Prelude.{Some, slice_get, refl}
use Rattle.std.proofs.Common.{◌∙◌, sym, ap, subst, arith, inl, inr}
use Rattle.std.proofs.lemmas.Bool.Decides.{nat_tests, eqb_tells}
use Rattle.level_core.specs.Entries.{Entry, span, Tiles, Rising, AllBelow, Single, StandsAt, coord_at}
use Rattle.level_core.specs.Logs.{gap, Rises, join, groups}
use Rattle.level_core.proofs.EntryLaws.{rising_less, coord_here, coord_past}
use Rattle.level_core.specs.GroupLaws.{CoordsBelow, IsGroup}
use Rattle.std.proofs.lemmas.Option.{same_Some}

join_tiles : (p x hi : ℕ) (es : List Entry) → Tiles (p + 1) hi es → Tiles p hi (join p x es)
join_tiles p x hi [] t = (refl, omega arith, t)
join_tiles p x hi (e ∷ es) t =
    elim (e.coord == x) as
    (λ b. Tiles p hi (if b then record { coord = x; child = span p e.child.hi } ∷ es else record { coord = x; child = span p (p + 1) }
    ∷ e ∷ es)) [
      | true ↦ (refl, omega (arith, t.0, t.1), t.2)
      | false ↦ (refl, omega arith, t)
    ]

-- the groups follow one another with nothing between them
pub groups_tile : (p : ℕ) (xs : List ℕ) → Tiles p (p + length xs) (groups p xs)
groups_tile p [] = omega arith
groups_tile p (x ∷ xs) = let same : p + 1 + length xs ≡ p + length (x ∷ xs) =
    omega arith in join_tiles p x (p + length (x ∷ xs)) (groups (p + 1) xs)
    (subst (λ hi. Tiles (p + 1) hi (groups (p + 1) xs)) same (groups_tile (p + 1) xs))

join_rising : (least p x : ℕ) (es : List Entry) → least ≤ x → Rising x es → Rising least (join p x es)
join_rising least p x [] h r = (h, tt)
join_rising least p x (e ∷ es) h r = by_test (e.coord == x) refl
  where
    by_test : (b : Bool) → (e.coord == x) ≡ b
        → Rising least (if b then record { coord = x; child = span p e.child.hi } ∷ es else record { coord = x; child = span p (p + 1) }
        ∷ e ∷ es)
    by_test true is = let same : e.coord ≡ x = grind (arith, nat_tests, is) in (h, subst (λ n. Rising (n + 1) es) same r.1)
    by_test false is = let apart : e.coord ≢ x = grind (arith, nat_tests, is) in (h, (omega (arith, r.0, apart), r.1))

-- coordinates that never fall have groups whose coordinates rise
pub groups_rising : (unique : Bool) (least p : ℕ) (xs : List ℕ) → Rises unique least xs → Rising least (groups p xs)
groups_rising unique least p [] r = tt
groups_rising unique least p (x ∷ xs) r =
    join_rising least p x (groups (p + 1) xs) r.0
    (rising_less x (x + gap unique) (groups (p + 1) xs) (omega arith) (groups_rising unique (x + gap unique) (p + 1) xs r.1))

join_single : (p x : ℕ) (es : List Entry) → Rising (x + 1) es → Single es → Single (join p x es)
join_single p x [] r s = (refl, tt)
join_single p x (e ∷ es) r s = by_test (e.coord == x) refl
  where
    by_test : (b : Bool) → (e.coord == x) ≡ b
        → Single (if b then record { coord = x; child = span p e.child.hi } ∷ es else record { coord = x; child = span p (p + 1) } ∷ e ∷ es)
    by_test true is = let same : e.coord ≡ x = grind (arith, nat_tests, is) in absurd (omega (arith, same, r.0))
    by_test false is = (refl, s)

-- where the coordinates rise strictly, each group is one position
pub groups_single : (least p : ℕ) (xs : List ℕ) → Rises true least xs → Single (groups p xs)
groups_single least p [] r = tt
groups_single least p (x ∷ xs) r =
    join_single p x (groups (p + 1) xs) (groups_rising true (x + 1) (p + 1) xs r.1) (groups_single (x + 1) (p + 1) xs r.1)

join_below : (n p x : ℕ) (es : List Entry) → x < n → AllBelow n es → AllBelow n (join p x es)
join_below n p x [] h a = (h, tt)
join_below n p x (e ∷ es) h a =
    elim (e.coord == x) as
    (λ b. AllBelow n (if b then record { coord = x; child = span p e.child.hi } ∷ es else record { coord = x; child = span p (p + 1) }
    ∷ e ∷ es)) [
      | true ↦ (h, a.1)
      | false ↦ (h, a)
    ]

pub groups_below : (n p : ℕ) (xs : List ℕ) → CoordsBelow n xs → AllBelow n (groups p xs)
groups_below n p [] a = tt
groups_below n p (x ∷ xs) a = join_below n p x (groups (p + 1) xs) a.0 (groups_below n (p + 1) xs a.1)

-- the position after the first of a list is a position of the rest
pub get_next : (x : ℕ) (xs : List ℕ) (p q : ℕ) → p < q → slice_get (x ∷ xs) (q - p) ≡ slice_get xs (q - (p + 1))
get_next x xs p q h = let same : q - p ≡ suc (q - (p + 1)) = omega (arith, h) in ap (slice_get (x ∷ xs)) same

pub get_first : (x : ℕ) (xs : List ℕ) (p q : ℕ) → q ≡ p → slice_get (x ∷ xs) (q - p) ≡ Some x
get_first x xs p q h = let same : q - p ≡ 0 = omega (arith, h) in ap (slice_get (x ∷ xs)) same

-- the coordinate of a position is the one that stands there
join_coord : (p x hi q : ℕ) (es : List Entry) → Tiles (p + 1) hi es → p < q → q < hi → coord_at (join p x es) q ≡ coord_at es q
join_coord p x hi q [] t h g = absurd (omega (arith, t, h, g))
join_coord p x hi q (e ∷ es) t h g = by_test (e.coord == x) refl
  where
    in_or_past : (b : Bool) → nat_lt q e.child.hi ≡ b → e.coord ≡ x
        → coord_at (record { coord = x; child = span p e.child.hi } ∷ es) q ≡ coord_at (e ∷ es) q
    in_or_past true is same = let l : q < e.child.hi =
        grind (arith, nat_tests, is) in coord_here (record { coord = x; child = span p e.child.hi }) es q (omega (arith, h)) l
        ∙ ap Some (sym same) ∙ sym (coord_here e es q (omega (arith, t.0, h)) l)
    in_or_past false is same = let l : e.child.hi ≤ q =
        grind (arith, nat_tests, is) in coord_past (record { coord = x; child = span p e.child.hi }) es q l ∙ sym (coord_past e es q l)

    by_test : (b : Bool) → (e.coord == x) ≡ b
        → coord_at (if b then record { coord = x; child = span p e.child.hi } ∷ es else record { coord = x; child = span p (p + 1) } ∷ e
        ∷ es) q ≡ coord_at (e ∷ es) q
    by_test true is = in_or_past (nat_lt q e.child.hi) refl (grind (arith, nat_tests, is))
    by_test false is = coord_past (record { coord = x; child = span p (p + 1) }) (e ∷ es) q (omega (arith, h))

join_first : (p x hi : ℕ) (es : List Entry) → Tiles (p + 1) hi es → coord_at (join p x es) p ≡ Some x
join_first p x hi [] t = coord_here (record { coord = x; child = span p (p + 1) }) [] p (omega arith) (omega arith)
join_first p x hi (e ∷ es) t =
    elim (e.coord == x) as
    (λ b. coord_at (if b then record { coord = x; child = span p e.child.hi } ∷ es else record { coord = x; child = span p (p + 1) }
    ∷ e ∷ es) p ≡ Some x) [
      | true ↦ coord_here (record { coord = x; child = span p e.child.hi }) es p (omega arith) (omega (arith, t.0, t.1))
      | false ↦ coord_here (record { coord = x; child = span p (p + 1) }) (e ∷ es) p (omega arith) (omega arith)
    ]

pub groups_coord : (p : ℕ) (xs : List ℕ) (q : ℕ) → p ≤ q → q < p + length xs → coord_at (groups p xs) q ≡ slice_get xs (q - p)
groups_coord p [] q h g = absurd (omega (arith, h, g))
groups_coord p (x ∷ xs) q h g = elim (eqb_tells q p) [
  | inl k ↦ ap (coord_at (join p x (groups (p + 1) xs))) k.1
      ∙ join_first p x (p + 1 + length xs) (groups (p + 1) xs) (groups_tile (p + 1) xs) ∙ sym (get_first x xs p q k.1)
  | inr k ↦
      join_coord p x (p + 1 + length xs) q (groups (p + 1) xs) (groups_tile (p + 1) xs) (omega (arith, h, k.1)) (omega (arith, g))
      ∙ groups_coord (p + 1) xs q (omega (arith, h, k.1)) (omega (arith, g))
      ∙ sym (get_next x xs p q (omega (arith, h, k.1)))
]

abbrev AreGroups : ℕ → List ℕ → List Entry → Type 0
AreGroups p xs [] = Unit {0}
AreGroups p xs (e ∷ es) = IsGroup p xs e × AreGroups p xs es

group_more : (p x : ℕ) (xs : List ℕ) (e : Entry) → IsGroup (p + 1) xs e → IsGroup p (x ∷ xs) e
group_more p x xs e g = record {
  from = omega (arith, g.from);
  some = g.some;
  inside = omega (arith, g.inside);
  equal = λ q l h. get_next x xs p q (omega (arith, g.from, l)) ∙ g.equal q l h;
  whole = λ h same. g.whole (omega (arith, h)) (sym (get_next x xs p e.child.hi (omega (arith, g.from, g.some))) ∙ same);
}

groups_more : (p x : ℕ) (xs : List ℕ) (es : List Entry) → AreGroups (p + 1) xs es → AreGroups p (x ∷ xs) es
groups_more p x xs [] a = tt
groups_more p x xs (e ∷ es) a = (group_more p x xs e a.0, groups_more p x xs es a.1)

join_groups : (p x : ℕ) (xs : List ℕ) (es : List Entry) → Tiles (p + 1) (p + 1 + length xs) es → AreGroups (p + 1) xs es
    → AreGroups p (x ∷ xs) (join p x es)
join_groups p x xs [] t a = (
  record {
    from = omega arith;
    some = omega arith;
    inside = omega (arith, t);
    equal = λ q l h. get_first x xs p q (omega (arith, l, h));
    whole = λ h. absurd (omega (arith, h, t));
  },
  tt,
)
join_groups p x xs (e ∷ es) t a = by_test (e.coord == x) refl
  where
    joined : e.coord ≡ x → IsGroup p (x ∷ xs) (record { coord = x; child = span p e.child.hi })
    joined same = let g = group_more p x xs e a.0 in record {
      from = omega arith;
      some = omega (arith, t.0, t.1);
      inside = g.inside;
      equal = λ q l h. elim (eqb_tells q p) [
        | inl k ↦ get_first x xs p q k.1
        | inr k ↦ g.equal q (omega (arith, k.1, l, t.0)) h ∙ ap Some same
      ];
      whole = λ h again. g.whole h (again ∙ ap Some (sym same));
    }

    alone : e.coord ≢ x → IsGroup p (x ∷ xs) (record { coord = x; child = span p (p + 1) })
    alone apart = let g = group_more p x xs e a.0 in record {
      from = omega arith;
      some = omega arith;
      inside = omega arith;
      equal = λ q l h. get_first x xs p q (omega (arith, l, h));
      whole = λ h again. apart (same_Some e.coord x (sym (g.equal (p + 1) (omega (arith, t.0)) (omega (arith, t.0, t.1))) ∙ again));
    }

    by_test : (b : Bool) → (e.coord == x) ≡ b
        → AreGroups p (x ∷ xs) (if b then record { coord = x; child = span p e.child.hi }
        ∷ es else record { coord = x; child = span p (p + 1) } ∷ e ∷ es)
    by_test true is = (joined (grind (arith, nat_tests, is)), groups_more p x xs es a.1)
    by_test false is = (alone (grind (arith, nat_tests, is)), groups_more p x xs (e ∷ es) a)

groups_are : (p : ℕ) (xs : List ℕ) → AreGroups p xs (groups p xs)
groups_are p [] = tt
groups_are p (x ∷ xs) = join_groups p x xs (groups (p + 1) xs) (groups_tile (p + 1) xs) (groups_are (p + 1) xs)

one_of_groups : (p : ℕ) (xs : List ℕ) (es : List Entry) (e : Entry) (pos : ℕ) → AreGroups p xs es → StandsAt pos e es → IsGroup p xs e
one_of_groups p xs [] e pos a h = absurd h
one_of_groups p xs (f ∷ es) e pos a (inl h) = subst (IsGroup p xs) h.1 a.0
one_of_groups p xs (f ∷ es) e pos a (inr h) = one_of_groups p xs es e pos a.1 h

-- an entry of groups is such a group
pub group_is : (p : ℕ) (xs : List ℕ) (e : Entry) (pos : ℕ) → StandsAt pos e (groups p xs) → IsGroup p xs e
group_is p xs e pos h = one_of_groups p xs (groups p xs) e pos (groups_are p xs) h

-- an entry that stands there is of one position where all are
pub single_at : (es : List Entry) (e : Entry) (pos : ℕ) → Single es → StandsAt pos e es → e.child.hi ≡ e.child.lo + 1
single_at [] e pos s h = absurd h
single_at (f ∷ es) e pos s (inl h) = subst (λ g. g.child.hi ≡ g.child.lo + 1) h.1 s.0
single_at (f ∷ es) e pos s (inr h) = single_at es e pos s.1 h

-- its first position is where it stands
pub stands_where : (es : List Entry) (e : Entry) (pos : ℕ) → StandsAt pos e es → e.child.lo ≡ pos
stands_where [] e pos h = absurd h
stands_where (f ∷ es) e pos (inl h) = ap (λ g. g.child.lo) (sym h.1) ∙ h.0
stands_where (f ∷ es) e pos (inr h) = stands_where es e pos h
