-- The children of a coordinate, sought among entries.
use Rattle.std.specs.Prelude.{◌≡◌, ◌≢◌, ℕ, ◌+◌, ◌≤◌, ◌<◌, ◌==◌, Bool, true, false, if◌then◌else◌, List, [], ◌∷◌, Option, Some, None, refl}
use Rattle.std.proofs.Common.{◌∙◌, sym, ap, subst, arith, inl, inr}
use Rattle.std.proofs.lemmas.Bool.Decides.{nat_tests}
use Rattle.level_core.specs.declared.span.Span.{Span}
use Rattle.level_core.specs.declared.span.Entry.{Entry}
use Rattle.level_core.specs.Entries.{Placed, Single, StandsAt, coord_at, position_of, span}
use Rattle.level_core.proofs.EntryLaws.{placed_within, begins, coord_past, none_here}
use Rattle.tensor_storage.specs.Children.{child_of}

-- the entry of a coordinate that has children
pub record Child (x : ℕ) (child : Span) (es : List Entry) : Type 0 where
  pub entry : Entry
  pub stands : StandsAt entry.child.lo entry es
  pub coord : entry.coord ≡ x
  pub is : entry.child ≡ child

none_some : {A : Type 0} (s : Span) → None ≡ Some s → A
none_some s h = absurd (apart h)
  where
    apart : None ≡ Some s → ⊥
    apart e = cc

same_some : (s t : Span) → Some s ≡ Some t → s ≡ t
same_some s t h = cc

pub child_is : (x : ℕ) (child : Span) (es : List Entry) → child_of es x ≡ Some child → Child x child es
child_is x child [] h = none_some child h
child_is x child (e ∷ es) h = by_test (child_is x child es) (e.coord == x) refl h
  where
    by_test : (child_of es x ≡ Some child → Child x child es) → (b : Bool) → (e.coord == x) ≡ b
        → (if b then Some e.child else child_of es x) ≡ Some child → Child x child (e ∷ es)
    by_test again true is h = record {
      entry = e;
      stands = inl (refl, refl);
      coord = grind (arith, nat_tests, is);
      is = same_some e.child child h;
    }
    by_test again false is h = let k = again h in record { entry = k.entry; stands = inr k.stands; coord = k.coord; is = k.is }

pub no_child : (x p : ℕ) (e : Entry) (es : List Entry) → child_of es x ≡ None → StandsAt p e es → e.coord ≡ x → ⊥
no_child x p e [] h s same = s
no_child x p e (f ∷ es) h s same = by_test (no_child x p e es) (f.coord == x) refl h s
  where
    by_test : (child_of es x ≡ None → StandsAt p e es → e.coord ≡ x → ⊥) → (b : Bool) → (f.coord == x) ≡ b
        → (if b then Some f.child else child_of es x) ≡ None → StandsAt p e (f ∷ es) → ⊥
    by_test again true is h s = none_some f.child (sym h)
    by_test again false is h (inl s) = let here : f.coord ≡ x = ap (λ y. y.coord) s.1 ∙ same in grind (arith, nat_tests, is, here)
    by_test again false is h (inr s) = again h s same

one_child : (x : ℕ) (e : Entry) (es : List Entry) → e.coord ≡ x → child_of (e ∷ es) x ≡ Some e.child
one_child x e es same = let is : (e.coord == x) ≡ true = grind (arith, nat_tests, same) in
    ap (λ b. if b then Some e.child else child_of es x) is

other_child : (x : ℕ) (e : Entry) (es : List Entry) → e.coord ≢ x → child_of (e ∷ es) x ≡ child_of es x
other_child x e es apart = let is : (e.coord == x) ≡ false = grind (arith, nat_tests, apart) in
    ap (λ b. if b then Some e.child else child_of es x) is

-- where each coordinate has one position
pub child_located : (x : ℕ) (es : List Entry) → Single es → (o : Option ℕ) → position_of es x ≡ o
    → child_of es x ≡ (elim o [ None ↦ None | Some p ↦ Some (span p (p + 1)) ])
child_located x [] s o h = subst (λ o. None ≡ (elim o [ None ↦ None | Some p ↦ Some (span p (p + 1)) ])) h refl
child_located x (e ∷ es) s o h = by_test (child_located x es s.1 o) (e.coord == x) refl h
  where
    by_test : (position_of es x ≡ o → child_of es x ≡ (elim o [ None ↦ None | Some p ↦ Some (span p (p + 1)) ])) → (b : Bool)
        → (e.coord == x) ≡ b → (if b then Some e.child.lo else position_of es x) ≡ o
        → (if b then Some e.child else child_of es x) ≡ (elim o [ None ↦ None | Some p ↦ Some (span p (p + 1)) ])
    by_test again true is h = subst (λ o. Some e.child ≡ (elim o [ None ↦ None | Some p ↦ Some (span p (p + 1)) ])) h
        (ap (λ hi. Some (span e.child.lo hi)) s.0)
    by_test again false is h = again h

-- up to a position no entry has the coordinate: those from there on are left
pub record Seeking (x pos hi : ℕ) (all : List Entry) : Type 0 where
  pub rest : List Entry
  pub child : child_of all x ≡ child_of rest x
  pub coords : (q : ℕ) → pos ≤ q → coord_at all q ≡ coord_at rest q
  pub stands : (p : ℕ) (e : Entry) → StandsAt p e rest → StandsAt p e all
  pub ahead : Placed pos hi rest

pub seek_begins : (x lo hi : ℕ) (all : List Entry) → Placed lo hi all → Seeking x lo hi all
seek_begins x lo hi all p = record { rest = all; child = refl; coords = λ q h. refl; stands = λ p e s. s; ahead = p }

pub seek_past : (x pos hi : ℕ) (all : List Entry) → pos < hi → Seeking x pos hi all → coord_at all pos ≡ None → Seeking x (pos + 1) hi all
seek_past x pos hi all l s h = record {
  rest = s.rest;
  child = s.child;
  coords = λ q from. s.coords q (omega (arith, from));
  stands = s.stands;
  ahead = none_here pos hi s.rest l s.ahead (sym (s.coords pos (omega arith)) ∙ h);
}

-- the entry of a position with a coordinate, and what is left behind it
pub record Met (x y pos hi : ℕ) (all : List Entry) : Type 0 where
  pub entry : Entry
  pub stands : StandsAt pos entry all
  pub coord : entry.coord ≡ y
  pub found : y ≡ x → child_of all x ≡ Some entry.child
  pub passed : y ≢ x → Seeking x entry.child.hi hi all
  pub more : pos < entry.child.hi
  pub within : entry.child.hi ≤ hi

pub seek_meets : (x y pos hi : ℕ) (all : List Entry) → Seeking x pos hi all → coord_at all pos ≡ Some y → Met x y pos hi all
seek_meets x y pos hi all s h =
    let b = begins pos hi y s.rest s.ahead (sym (s.coords pos (omega arith)) ∙ h) in
    let ahead : Placed pos hi (b.entry ∷ b.others) = subst (Placed pos hi) b.is s.ahead in
    let at = b.at in let some = ahead.1 in
    record {
      entry = b.entry;
      stands = s.stands pos b.entry (subst (StandsAt pos b.entry) (sym b.is) (inl (b.at, refl)));
      coord = b.coord;
      found = λ same. s.child ∙ ap (λ es. child_of es x) b.is ∙ one_child x b.entry b.others (b.coord ∙ same);
      passed = λ apart. record {
        rest = b.others;
        child = s.child ∙ ap (λ es. child_of es x) b.is ∙ other_child x b.entry b.others (λ same. apart (sym b.coord ∙ same));
        coords = λ q from. s.coords q (omega (arith, at, some, from)) ∙ ap (λ es. coord_at es q) b.is ∙ coord_past b.entry b.others q from;
        stands = λ p e t. s.stands p e (subst (StandsAt p e) (sym b.is) (inr t));
        ahead = ahead.2;
      };
      more = omega (arith, at, some);
      within = placed_within b.entry.child.hi hi b.others ahead.2;
    }

pub seek_found : (x y pos hi : ℕ) (all : List Entry) (child : Span) → Seeking x pos hi all → coord_at all pos ≡ Some y → y ≡ x
    → ((e : Entry) → StandsAt pos e all → child ≡ e.child) → Some child ≡ child_of all x
seek_found x y pos hi all child s h same tells = let m = seek_meets x y pos hi all s h in
    ap Some (tells m.entry m.stands) ∙ sym (m.found same)

-- past an entry with another coordinate
pub record Passed (x pos hi : ℕ) (child : Span) (all : List Entry) : Type 0 where
  pub seeks : Seeking x child.hi hi all
  pub more : pos < child.hi
  pub within : child.hi ≤ hi

pub seek_passes : (x y pos hi : ℕ) (all : List Entry) (child : Span) → Seeking x pos hi all → coord_at all pos ≡ Some y → y ≢ x
    → ((e : Entry) → StandsAt pos e all → child ≡ e.child) → Passed x pos hi child all
seek_passes x y pos hi all child s h apart tells =
    let m = seek_meets x y pos hi all s h in
    let passed : Passed x pos hi m.entry.child all = record { seeks = m.passed apart; more = m.more; within = m.within } in
    subst (λ c. Passed x pos hi c all) (sym (tells m.entry m.stands)) passed

nothing_left : (pos hi : ℕ) (es : List Entry) → hi ≤ pos → Placed pos hi es → es ≡ []
nothing_left pos hi [] l p = refl
nothing_left pos hi (e ∷ es) l p = let k = placed_within e.child.hi hi es p.2 in absurd (omega (arith, l, p.0, p.1, k))

pub seek_ends : (x pos hi : ℕ) (all : List Entry) → hi ≤ pos → Seeking x pos hi all → None ≡ child_of all x
seek_ends x pos hi all l s = sym (s.child ∙ ap (λ es. child_of es x) (nothing_left pos hi s.rest l s.ahead))
