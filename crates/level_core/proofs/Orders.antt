-- Inserting increasing coordinates keeps the order in a block, at levels of any kind.
use Rattle.std.specs.Prelude.{◌≡◌, ◌≢◌, ℕ, ◌≤◌, ◌<◌, nat_le, nat_lt, ◌==◌, ◌&&◌, Bool, true, false, if◌then◌else◌, List, [], ◌∷◌, Option}
use Rattle.std.specs.Prelude.{Some, None, refl}
use Rattle.std.proofs.Common.{◌∙◌, sym, ap, subst, arith, inl, inr}
use Rattle.std.proofs.lemmas.Bool.Decides.{nat_tests, eqb_tells}
use Rattle.level_core.specs.Entries.{Span, Entry, Placed, Lacks, Distinct, Single, FirstFree, Gains, one, coord_at, position_of, sought_at}
use Rattle.level_core.specs.Kinds.{Letter, properties}
use Rattle.level_core.specs.Meaning.{Meaning}
use Rattle.level_core.specs.Laws.{Laws}
use Rattle.level_core.specs.Orders.{IsAfterSmaller, KeepsOrder}
use Rattle.level_core.proofs.EntryLaws.{coord_here, coord_past}
use Rattle.level_core.proofs.KindLaws.{are_of_a_kind}

none_some : {A : Type 0} (q : ℕ) → None ≡ Some q → A
none_some q h = absurd (apart h)
  where
    apart : None ≡ Some q → ⊥
    apart e = cc

same_some : (x y : ℕ) → Some x ≡ Some y → x ≡ y
same_some x y h = cc

-- where a coordinate stands
pub position_coord : (lo hi x pos : ℕ) (es : List Entry) → Placed lo hi es → position_of es x ≡ Some pos
    → (coord_at es pos ≡ Some x) × (lo ≤ pos)
position_coord lo hi x pos [] p h = none_some pos h
position_coord lo hi x pos (e ∷ es) p h = by_test (position_coord e.child.hi hi x pos es p.2) (e.coord == x) refl h
  where
    by_test : (position_of es x ≡ Some pos → (coord_at es pos ≡ Some x) × (e.child.hi ≤ pos)) → (b : Bool) → (e.coord == x) ≡ b
        → (if b then Some e.child.lo else position_of es x) ≡ Some pos → (coord_at (e ∷ es) pos ≡ Some x) × (lo ≤ pos)
    by_test again true is h =
        let same : e.coord ≡ x = grind (arith, nat_tests, is) in
        let at = same_some e.child.lo pos h in
        let before = p.0 in
        let some = p.1 in
        (coord_here e es pos (omega (arith, at)) (omega (arith, at, some)) ∙ ap Some same, omega (arith, at, before))
    by_test again false is h =
        let k = again h in
        let before = p.0 in
        let some = p.1 in
        let past = k.1 in
        (coord_past e es pos past ∙ k.0, omega (arith, before, some, past))

lacks_position : (x : ℕ) (es : List Entry) → Lacks x es → position_of es x ≡ None
lacks_position x [] l = refl
lacks_position x (e ∷ es) l = by_test (lacks_position x es l.1) (e.coord == x) refl
  where
    by_test : position_of es x ≡ None → (b : Bool) → (e.coord == x) ≡ b → (if b then Some e.child.lo else position_of es x) ≡ None
    by_test again true is = absurd (l.0 (grind (arith, nat_tests, is)))
    by_test again false is = again

-- what stands at a position, where each coordinate has one
pub coord_position : (x pos : ℕ) (es : List Entry) → Distinct es → Single es → coord_at es pos ≡ Some x → position_of es x ≡ Some pos
coord_position x pos [] d s h = none_some x h
coord_position x pos (e ∷ es) d s h = by_lo (coord_position x pos es d.1 s.1) (nat_le e.child.lo pos) (nat_lt pos e.child.hi) refl refl h
  where
    later : position_of es x ≡ Some pos → position_of (e ∷ es) x ≡ Some pos
    later k = by_test (e.coord == x) refl
      where
        by_test : (b : Bool) → (e.coord == x) ≡ b → (if b then Some e.child.lo else position_of es x) ≡ Some pos
        by_test true is = let same : e.coord ≡ x = grind (arith, nat_tests, is) in none_some pos (sym (lacks_position e.coord es d.0)
            ∙ ap (position_of es) same ∙ k)
        by_test false is = k

    by_lo : (coord_at es pos ≡ Some x → position_of es x ≡ Some pos) → (a b : Bool) → nat_le e.child.lo pos ≡ a
        → nat_lt pos e.child.hi ≡ b → (if a && b then Some e.coord else coord_at es pos) ≡ Some x → position_of (e ∷ es) x ≡ Some pos
    by_lo again true true from before h =
        let same = same_some e.coord x h in
        let one_position = s.0 in
        let low : e.child.lo ≤ pos = grind (arith, nat_tests, from) in
        let high : pos < e.child.hi = grind (arith, nat_tests, before) in
        let here : e.child.lo ≡ pos = omega (arith, one_position, low, high) in
        let is : (e.coord == x) ≡ true = grind (arith, nat_tests, same) in
        ap (λ b. if b then Some e.child.lo else position_of es x) is ∙ ap Some here
    by_lo again true false from before h = later (again h)
    by_lo again false b from before h = later (again h)

-- a coordinate that is there, or none
there : (o : Option ℕ) → o ≢ None → (y : ℕ) × (o ≡ Some y)
there None h = absurd (h refl)
there (Some y) h = (y, refl)

unique_without_order : (letter : Letter) → (properties letter).ordered ≡ false → (properties letter).unique ≡ true
unique_without_order letter unordered =
    (are_of_a_kind letter).inserted_unique ((are_of_a_kind letter).unordered_inserted unordered)

-- what has a coordinate still has it where another is gained
still_there : (x slot y pos lo hi : ℕ) (es fs : List Entry) → Distinct es → Single es → Placed lo hi fs → Gains x slot es fs → y ≢ x
    → coord_at es pos ≡ Some y → coord_at fs pos ≡ Some y
still_there x slot y pos lo hi es fs d s p gains apart h =
    (position_coord lo hi y pos fs p (gains.others y apart ∙ coord_position y pos es d s h)).0

greater_by : (segment : Span) (es fs : List Entry) (x slot : ℕ) → Distinct es → Single es → Placed segment.lo segment.hi fs
    → FirstFree segment es x slot → Gains x slot es fs
    → ((y pos : ℕ) → position_of es y ≡ Some pos → y < x) → ((y pos : ℕ) → position_of es y ≡ Some pos → IsAfterSmaller segment es y pos)
    → (y pos : ℕ) → position_of fs y ≡ Some pos → IsAfterSmaller segment fs y pos
greater_by segment es fs x slot d s p first gains below old y pos h = elim (eqb_tells y x) [
  | inl k ↦
      let at : slot ≡ pos = same_some slot pos (sym gains.has ∙ ap (position_of fs) (sym k.1) ∙ h) in
      subst (λ z. IsAfterSmaller segment fs z pos) (sym k.1) (record {
        steps = first.steps;
        few = first.few;
        at = sym at ∙ first.at;
        smaller = λ j l.
            let q = sought_at segment x j in
            let z = there (coord_at es q) (first.taken j l) in
            let less = below z.0 q (coord_position z.0 q es d s z.1) in
            (z.0, still_there x slot z.0 q segment.lo segment.hi es fs d s p gains (λ e. omega (arith, e, less)) z.1, less);
      })
  | inr k ↦
      let was = sym (gains.others y k.1) ∙ h in
      let o = old y pos was in
      let less = below y pos was in
      record {
        steps = o.steps;
        few = o.few;
        at = o.at;
        smaller = λ j l.
            let z = o.smaller j l in
            let smaller = z.2 in (
              z.0,
              still_there x slot z.0 (sought_at segment y j) segment.lo segment.hi es fs d s p gains
                  (λ e. omega (arith, e, smaller, less)) z.1,
              smaller,
            );
      }
]

pub keeps_order : {L : Type 0} (means : Meaning L) → Laws means → KeepsOrder means
keeps_order {L} means laws = record {
  starts = λ l m parents most p prepares full inside x pos h. none_some pos
      (sym (ap (λ es. position_of es x) (prepares.empty full p inside)) ∙ h);
  greater = λ l m p x slot unordered ok below is old.
      let are = laws.entries l (one p) ok in
      let now = laws.entries m (one p) (is.allowed p ok) in
      let same = is.segments p ok in
      let single = are.properties.unique (unique_without_order (means.kind l) unordered) in
      subst (λ segment. (y pos : ℕ) → position_of (means.entries m (one p)) y ≡ Some pos
      → IsAfterSmaller segment (means.entries m (one p)) y pos) (sym same)
      (greater_by (means.segment_of l (one p)) (means.entries l (one p)) (means.entries m (one p)) x slot are.distinct single
      (subst (λ segment. Placed segment.lo segment.hi (means.entries m (one p))) same now.placed) (is.first unordered) is.gains below old);
  others = λ l m p q x slot ok apart is old.
      subst (λ segment. (y pos : ℕ) → position_of (means.entries m (one q)) y ≡ Some pos
      → IsAfterSmaller segment (means.entries m (one q)) y pos) (sym (is.segments q ok))
      (subst (λ es. (y pos : ℕ) → position_of es y ≡ Some pos
      → IsAfterSmaller (means.segment_of l (one q)) es y pos) (sym (is.others q ok apart)) old);
}
