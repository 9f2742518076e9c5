-- Lemmas about what specs/EntryLaws.antt defines.
use Rattle.std.specs.Prelude.{◌≡◌, ℕ, ◌+◌, ◌≤◌, ◌<◌, nat_le, nat_lt, ◌&&◌, Bool, true, false, if◌then◌else◌, List, [], ◌∷◌, ◌++◌, Some}
use Rattle.std.specs.Prelude.{None, refl}
use Rattle.std.proofs.Common.{◌∙◌, sym, ap, arith, inl, inr}
use Rattle.std.proofs.lemmas.Bool.Decides.{nat_tests}
use Rattle.level_core.specs.Entries.{Entry, Placed, Tiles, Rising, Lacks, Distinct, StandsAt, coord_at}
use Rattle.level_core.specs.EntryLaws.{Begins}
use Rattle.std.proofs.lemmas.Option.{same_Some}

-- spans that follow one another with nothing between them stand in order
pub tiles_placed : (pos hi : ℕ) (es : List Entry) → Tiles pos hi es → Placed pos hi es
tiles_placed pos hi [] t = omega (arith, t)
tiles_placed pos hi (e ∷ es) t = (omega (arith, t.0), omega (arith, t.0, t.1), tiles_placed e.child.hi hi es t.2)

pub placed_within : (pos hi : ℕ) (es : List Entry) → Placed pos hi es → pos ≤ hi
placed_within pos hi [] t = t
placed_within pos hi (e ∷ es) t = let k = placed_within e.child.hi hi es t.2 in omega (arith, t.0, t.1, k)

pub rising_less : (least more : ℕ) (es : List Entry) → least ≤ more → Rising more es → Rising least es
rising_less least more [] h r = tt
rising_less least more (e ∷ es) h r = (omega (arith, h, r.0), r.1)

rising_lacks : (least x : ℕ) (es : List Entry) → x < least → Rising least es → Lacks x es
rising_lacks least x [] h r = tt
rising_lacks least x (e ∷ es) h r = (λ same. omega (arith, h, r.0, same), rising_lacks (e.coord + 1) x es (omega (arith, h, r.0)) r.1)

-- coordinates that rise are distinct
pub rising_distinct : (least : ℕ) (es : List Entry) → Rising least es → Distinct es
rising_distinct least [] r = tt
rising_distinct least (e ∷ es) r = (rising_lacks (e.coord + 1) e.coord es (omega arith) r.1, rising_distinct (e.coord + 1) es r.1)

is_within : (lo hi pos : ℕ) → lo ≤ pos → pos < hi → (nat_le lo pos && nat_lt pos hi) ≡ true
is_within lo hi pos h g =
    let from : nat_le lo pos ≡ true = grind (arith, nat_tests) in
    let before : nat_lt pos hi ≡ true = grind (arith, nat_tests) in
    ap (λ b. b && nat_lt pos hi) from ∙ before

is_past : (lo hi pos : ℕ) → hi ≤ pos → (nat_le lo pos && nat_lt pos hi) ≡ false
is_past lo hi pos h = both (nat_le lo pos) (nat_lt pos hi) (grind (arith, nat_tests))
  where
    both : (a b : Bool) → b ≡ false → (a && b) ≡ false
    both true b h = h
    both false b h = refl

is_before : (lo hi pos : ℕ) → pos < lo → (nat_le lo pos && nat_lt pos hi) ≡ false
is_before lo hi pos h =
    let from : nat_le lo pos ≡ false = grind (arith, nat_tests) in
    ap (λ b. b && nat_lt pos hi) from

-- the coordinate of a position among the children of the first entry
pub coord_here : (e : Entry) (es : List Entry) (pos : ℕ) → e.child.lo ≤ pos → pos < e.child.hi → coord_at (e ∷ es) pos ≡ Some e.coord
coord_here e es pos h g = ap (λ b. if b then Some e.coord else coord_at es pos) (is_within e.child.lo e.child.hi pos h g)

-- past the first entry's children
pub coord_past : (e : Entry) (es : List Entry) (pos : ℕ) → e.child.hi ≤ pos → coord_at (e ∷ es) pos ≡ coord_at es pos
coord_past e es pos h = ap (λ b. if b then Some e.coord else coord_at es pos) (is_past e.child.lo e.child.hi pos h)

-- before the first entry's children
pub coord_before : (e : Entry) (es : List Entry) (pos : ℕ) → pos < e.child.lo → coord_at (e ∷ es) pos ≡ coord_at es pos
coord_before e es pos h = ap (λ b. if b then Some e.coord else coord_at es pos) (is_before e.child.lo e.child.hi pos h)

-- entries whose children end before a position don't tell its coordinate
pub coord_after : (lo pos q : ℕ) (done rest : List Entry) → Placed lo pos done → pos ≤ q → coord_at (done ++ rest) q ≡ coord_at rest q
coord_after lo pos q [] rest p h = refl
coord_after lo pos q (e ∷ done) rest p h =
    coord_past e (done ++ rest) q (let k = placed_within e.child.hi pos done p.2 in omega (arith, k, h))
    ∙ coord_after e.child.hi pos q done rest p.2 h

none_before : (pos lo hi : ℕ) (es : List Entry) → Placed lo hi es → pos < lo → coord_at es pos ≡ None
none_before pos lo hi [] p h = refl
none_before pos lo hi (e ∷ es) p h = coord_before e es pos (omega (arith, h, p.0))
    ∙ none_before pos e.child.hi hi es p.2 (omega (arith, h, p.0, p.1))

begins_by : (pos hi x : ℕ) (e : Entry) (es : List Entry) (b : Bool) → nat_le e.child.lo pos ≡ b → Placed pos hi (e ∷ es)
    → coord_at (e ∷ es) pos ≡ Some x → Begins pos x (e ∷ es)
begins_by pos hi x e es true is p h = record {
  entry = e;
  others = es;
  is = refl;
  at = grind (arith, nat_tests, is, p.0);
  coord = same_Some e.coord x
      (sym (coord_here e es pos (grind (arith, nat_tests, is)) (let k : e.child.lo ≤ pos =
      grind (arith, nat_tests, is) in omega (arith, k, p.0, p.1))) ∙ h);
}
begins_by pos hi x e es false is p h = let far : pos < e.child.lo =
    grind (arith, nat_tests, is) in
    absurd (none_is x (sym (coord_before e es pos far ∙ none_before pos e.child.hi hi es p.2 (omega (arith, far, p.1))) ∙ h))
  where
    none_is : (x : ℕ) → None ≡ Some x → ⊥
    none_is x h = cc

-- entries that stand from a position on begin with its coordinate, if it has one
pub begins : (pos hi x : ℕ) (es : List Entry) → Placed pos hi es → coord_at es pos ≡ Some x → Begins pos x es
begins pos hi x [] p h = absurd (none_is x h)
  where
    none_is : (x : ℕ) → None ≡ Some x → ⊥
    none_is x h = cc
begins pos hi x (e ∷ es) p h = begins_by pos hi x e es (nat_le e.child.lo pos) refl p h

next_by : (pos hi : ℕ) (e : Entry) (es : List Entry) (b : Bool) → nat_le e.child.lo pos ≡ b → Placed pos hi (e ∷ es)
    → coord_at (e ∷ es) pos ≡ None → Placed (pos + 1) hi (e ∷ es)
next_by pos hi e es true is p h = let near : e.child.lo ≤ pos =
    grind (arith, nat_tests, is) in absurd (none_is e.coord (sym h ∙ coord_here e es pos near (omega (arith, near, p.0, p.1))))
  where
    none_is : (x : ℕ) → None ≡ Some x → ⊥
    none_is x h = cc
next_by pos hi e es false is p h = let far : pos < e.child.lo = grind (arith, nat_tests, is) in (omega (arith, far), p.1, p.2)

-- they stand from the next position on, if it has none
pub none_here : (pos hi : ℕ) (es : List Entry) → pos < hi → Placed pos hi es → coord_at es pos ≡ None → Placed (pos + 1) hi es
none_here pos hi [] l p h = omega (arith, l)
none_here pos hi (e ∷ es) l p h = next_by pos hi e es (nat_le e.child.lo pos) refl p h

-- one more entry behind those that stand up to a position
pub placed_then : (lo pos : ℕ) (done : List Entry) (e : Entry) → Placed lo pos done → pos ≤ e.child.lo → e.child.lo < e.child.hi
    → Placed lo e.child.hi (done ++ e ∷ [])
placed_then lo pos [] e p h g = (omega (arith, p, h), g, omega arith)
placed_then lo pos (f ∷ done) e p h g = (p.0, p.1, placed_then f.child.hi pos done e p.2 h g)

-- a wider end
pub placed_wider : (lo pos more : ℕ) (es : List Entry) → pos ≤ more → Placed lo pos es → Placed lo more es
placed_wider lo pos more [] h p = omega (arith, h, p)
placed_wider lo pos more (e ∷ es) h p = (p.0, p.1, placed_wider e.child.hi pos more es h p.2)

pub stands_after : (done : List Entry) (e : Entry) (es : List Entry) → StandsAt e.child.lo e (done ++ e ∷ es)
stands_after [] e es = inl (refl, refl)
stands_after (f ∷ done) e es = inr (stands_after done e es)
