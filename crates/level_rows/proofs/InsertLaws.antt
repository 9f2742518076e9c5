-- Laws of rows that are inserted.
use Rattle.std.specs.Prelude.{◌≡◌, ◌≢◌, ◌⊎◌, ℕ, zero, suc, ◌+◌, ◌-◌, ◌*◌, ◌≤◌, ◌<◌, ◌==◌, ◌&&◌, Bool, true, false, if◌then◌else◌, List, []}
use Rattle.std.specs.Prelude.{◌∷◌, length, Some, None, refl}
use Rattle.std.proofs.Common.{◌∙◌, sym, ap, subst, arith, inl, inr}
use Rattle.std.proofs.lemmas.Bool.{cases_lt, cases_order}
use Rattle.std.proofs.lemmas.Bool.Decides.{nat_tests}
use Rattle.std.proofs.lemmas.Option.{same_Some}
use Rattle.level_core.specs.declared.span.Span.{Span}
use Rattle.level_core.specs.declared.span.Entry.{Entry}
use Rattle.level_core.specs.declared.letter.Letter.{Letter}
use Rattle.level_core.specs.Entries.{IsIn, Lacks, Distinct, Single, StandsAt, Gains, AreInRow, one, span, coord_at, position_of}
use Rattle.level_core.proofs.EntryLaws.{placed_within}
use Rattle.level_core.specs.Kinds.{properties, capabilities, AreEntries, MayInsert}
use Rattle.level_core.specs.ParentLaws.{Askable}
use Rattle.level_core.proofs.ParentLaws.{segments_apart}
use Rattle.level_rows.specs.Rows.{Rows, begun_below, MayInsertRows, StandsFor}
use Rattle.level_rows.proofs.Entries.{coord_in, coord_from, stands_within}

-- the entries after n rows are those of the rows at their places
pub record Inserted (full : Bool) (parents n : ℕ) (rows : Rows) (place : ℕ → ℕ) (entries : Span → List Entry) : Type 0 where
  pub has : (i : ℕ) → i < n → position_of (entries (one (rows.parent i))) (rows.coord i) ≡ Some (place i)
  pub only : full ≡ false → (p x pos : ℕ) → p < parents → position_of (entries (one p)) x ≡ Some pos
      → (i : ℕ) × (i < n) × (rows.parent i ≡ p) × (rows.coord i ≡ x) × (place i ≡ pos)
  pub few : full ≡ false → (p : ℕ) → p < parents → length (entries (one p)) ≤ begun_below rows p n

-- a single position that is a parent
abbrev pub IsParent : ℕ → Span → Type 0
IsParent parents span = (p : ℕ) × (p < parents) × (span ≡ one p)

-- the entries without the one of a coordinate
without : ℕ → List Entry → List Entry
without y [] = []
without y (e ∷ es) = if e.coord == y then es else e ∷ without y es

none_some : (q : ℕ) → None ≡ Some q → ⊥
none_some q h = cc

without_length : (y q : ℕ) (es : List Entry) → position_of es y ≡ Some q → length (without y es) + 1 ≡ length es
unfolding without
without_length y q [] h = absurd (none_some q h)
without_length y q (e ∷ es) h = by_test (without_length y q es) (e.coord == y) refl h
  where
    by_test : (position_of es y ≡ Some q → length (without y es) + 1 ≡ length es) → (b : Bool) → (e.coord == y) ≡ b
        → (if b then Some e.child.lo else position_of es y) ≡ Some q → length (if b then es else e ∷ without y es) + 1 ≡ length (e ∷ es)
    by_test again true is h = omega arith
    by_test again false is h = let k = again h in omega (arith, k)

without_other : (y z q : ℕ) (es : List Entry) → z ≢ y → position_of es z ≡ Some q → position_of (without y es) z ≡ Some q
unfolding without
without_other y z q [] apart h = h
without_other y z q (e ∷ es) apart h = by_test (without_other y z q es apart) (e.coord == y) (e.coord == z) refl refl h
  where
    by_test : (position_of es z ≡ Some q → position_of (without y es) z ≡ Some q) → (a b : Bool) → (e.coord == y) ≡ a → (e.coord == z) ≡ b
        → (if b then Some e.child.lo else position_of es z) ≡ Some q → position_of (if a then es else e ∷ without y es) z ≡ Some q
    by_test again true true is at h = let k : e.coord ≡ y = grind (arith, nat_tests, is) in
        let j : e.coord ≡ z = grind (arith, nat_tests, at) in absurd (apart (sym j ∙ k))
    by_test again true false is at h = h
    by_test again false true is at h = ap (λ t. if t then Some e.child.lo else position_of (without y es) z) at ∙ h
    by_test again false false is at h = ap (λ t. if t then Some e.child.lo else position_of (without y es) z) at ∙ again h

lacks_none : (x : ℕ) (es : List Entry) → Lacks x es → position_of es x ≡ None
lacks_none x [] l = refl
lacks_none x (e ∷ es) l = by_test (lacks_none x es l.1) (e.coord == x) refl
  where
    by_test : position_of es x ≡ None → (b : Bool) → (e.coord == x) ≡ b → (if b then Some e.child.lo else position_of es x) ≡ None
    by_test again true is = absurd (l.0 (grind (arith, nat_tests, is)))
    by_test again false is = again

pub none_lacks : (x : ℕ) (es : List Entry) → ((pos : ℕ) → position_of es x ≡ Some pos → ⊥) → Lacks x es
none_lacks x [] h = tt
none_lacks x (e ∷ es) h = by_test (none_lacks x es) (e.coord == x) refl h
  where
    by_test : (((pos : ℕ) → position_of es x ≡ Some pos → ⊥) → Lacks x es) → (b : Bool) → (e.coord == x) ≡ b
        → ((pos : ℕ) → (if b then Some e.child.lo else position_of es x) ≡ Some pos → ⊥) → Lacks x (e ∷ es)
    by_test again true is h = absurd (h e.child.lo refl)
    by_test again false is h = (λ same. let apart : e.coord ≢ x = grind (arith, nat_tests, is) in apart same, again h)

first_position : (e : Entry) (es : List Entry) → position_of (e ∷ es) e.coord ≡ Some e.child.lo
first_position e es = let is : (e.coord == e.coord) ≡ true = grind (arith, nat_tests) in
    ap (λ b. if b then Some e.child.lo else position_of es e.coord) is

other_position : (e : Entry) (es : List Entry) (y : ℕ) → e.coord ≢ y → position_of (e ∷ es) y ≡ position_of es y
other_position e es y h = let is : (e.coord == y) ≡ false = grind (arith, nat_tests, h) in
    ap (λ b. if b then Some e.child.lo else position_of es y) is

-- distinct coordinates that all stand in other entries are no more than those
pub no_more : (fs es : List Entry) → Distinct fs → ((y pos : ℕ) → position_of fs y ≡ Some pos → (q : ℕ) × position_of es y ≡ Some q)
    → length fs ≤ length es
no_more [] es d h = omega arith
no_more (f ∷ fs) es d h =
    let k = h f.coord f.child.lo (first_position f fs) in
    let l = without_length f.coord k.0 es k.1 in
    let rest = no_more fs (without f.coord es) d.1 (λ y pos at.
    let apart : y ≢ f.coord = λ same. none_some pos (sym (lacks_none f.coord fs d.0) ∙ ap (position_of fs) (sym same) ∙ at) in
    let q = h y pos (other_position f fs y (λ same. apart (sym same)) ∙ at) in
    (q.0, without_other f.coord y q.0 es apart q.1)) in
    omega (arith, rest, l)

-- a coordinate that is gained makes the entries at most one longer
pub one_longer : (x slot : ℕ) (es fs : List Entry) → Distinct fs → Gains x slot es fs → length fs ≤ length es + 1
one_longer x slot es fs d g =
    let k = no_more fs (record { coord = x; child = one slot } ∷ es) d (λ y pos at. by_test y pos at (x == y) refl) in omega (arith, k)
  where
    by_test : (y pos : ℕ) → position_of fs y ≡ Some pos → (b : Bool) → (x == y) ≡ b
        → (q : ℕ) × (if x == y then Some slot else position_of es y) ≡ Some q
    by_test y pos at true is = (slot, ap (λ b. if b then Some slot else position_of es y) is)
    by_test y pos at false is =
        let apart : x ≢ y = grind (arith, nat_tests, is) in
        (pos, ap (λ b. if b then Some slot else position_of es y) is ∙ sym (g.others y (λ same. apart (sym same))) ∙ at)

below_yes : (rows : Rows) (n : ℕ) → rows.first n ≡ true → begun_below rows (rows.parent n) (suc n) ≡ begun_below rows (rows.parent n) n + 1
below_yes rows n h =
    let is : (rows.parent n == rows.parent n) ≡ true = grind (arith, nat_tests) in
    ap (λ b. if b && (rows.parent n == rows.parent n) then begun_below rows (rows.parent n) n + 1 else begun_below rows (rows.parent n) n) h
    ∙ ap (λ b. if b then begun_below rows (rows.parent n) n + 1 else begun_below rows (rows.parent n) n) is

below_by : (rows : Rows) (p n : ℕ) (b : Bool) → begun_below rows p n ≤ (if b then begun_below rows p n + 1 else begun_below rows p n)
below_by rows p n true = omega arith
below_by rows p n false = omega arith

below_step : (rows : Rows) (p n : ℕ) → begun_below rows p n ≤ begun_below rows p (suc n)
below_step rows p n = below_by rows p n (rows.first n && (rows.parent n == p))

below_far : (rows : Rows) (p n more : ℕ) → begun_below rows p n ≤ begun_below rows p (n + more)
below_far rows p n zero = let same : n + 0 ≡ n = omega arith in
    subst (λ m. begun_below rows p n ≤ begun_below rows p m) (sym same) (omega arith)
below_far rows p n (suc more) =
    let k = below_far rows p n more in
    let l = below_step rows p (n + more) in
    let same : n + suc more ≡ suc (n + more) = omega arith in
    subst (λ m. begun_below rows p n ≤ begun_below rows p m) (sym same) (omega (arith, k, l))

pub below_upto : (rows : Rows) (p n m : ℕ) → n ≤ m → begun_below rows p n ≤ begun_below rows p m
below_upto rows p n m h = let same : n + (m - n) ≡ m = omega (arith, h) in
    subst (λ k. begun_below rows p n ≤ begun_below rows p k) same (below_far rows p n (m - n))

-- a row that begins a position may be inserted
pub may_insert : (letter : Letter) (size parents most n : ℕ) (rows : Rows) (place : ℕ → ℕ) (segment : Span) (entries : Span → List Entry)
    → MayInsertRows size parents rows → n < rows.count → rows.first n ≡ true
    → Inserted (properties letter).full parents n rows place entries
    → ((properties letter).full ≡ false → begun_below rows (rows.parent n) rows.count ≤ most)
    → ((properties letter).full ≡ false → 2 * most ≤ segment.hi - segment.lo) → (capabilities letter).insert ≡ true
    → MayInsert letter size segment (entries (one (rows.parent n))) (rows.coord n)
may_insert letter size parents most n rows place segment entries o h is p within wide able = record {
  able = able;
  below = o.below n h;
  free = λ full. (
    none_lacks (rows.coord n) (entries (one (rows.parent n))) (λ pos at.
        let k = p.only full (rows.parent n) (rows.coord n) pos (o.within n h) at in
        let l = o.above k.0 n k.1 h is k.2 in
        let same = k.3 in omega (arith, l, same)),
    (let few = p.few full (rows.parent n) (o.within n h) in
        let one = below_yes rows n is in
        let more = below_upto rows (rows.parent n) (suc n) rows.count (omega (arith, h)) in
        let w = wide full in
        let upto = within full in omega (arith, few, one, more, upto, w)),
  );
}

-- a row is inserted
pub insert_first : (full : Bool) (size parents n slot : ℕ) (rows : Rows) (place then_place : ℕ → ℕ)
    (entries then_entries : Span → List Entry) → MayInsertRows size parents rows → n < rows.count → rows.first n ≡ true
    → Inserted full parents n rows place entries → ((i : ℕ) → i < n → then_place i ≡ place i) → then_place n ≡ slot
    → Gains (rows.coord n) slot (entries (one (rows.parent n))) (then_entries (one (rows.parent n)))
    → Distinct (then_entries (one (rows.parent n)))
    → ((p : ℕ) → p < parents → p ≢ rows.parent n → then_entries (one p) ≡ entries (one p))
    → Inserted full parents (suc n) rows then_place then_entries
insert_first full size parents n slot rows place then_place entries then_entries o h is p keeps here gains distinct others = record {
  has = λ i l. has i l (cases_lt i n);
  only = λ f q x pos l at. only f q x pos l at (q == rows.parent n) (x == rows.coord n) refl refl;
  few = λ f q l. few f q l (q == rows.parent n) refl;
}
  where
    has : (i : ℕ) → i < suc n → (i < n) ⊎ (n ≤ i) → position_of (then_entries (one (rows.parent i))) (rows.coord i) ≡ Some (then_place i)
    has i l (inl before) = by_parent (rows.parent i == rows.parent n) refl
      where
        by_parent : (b : Bool) → (rows.parent i == rows.parent n) ≡ b
            → position_of (then_entries (one (rows.parent i))) (rows.coord i) ≡ Some (then_place i)
        by_parent true e =
            let same : rows.parent i ≡ rows.parent n = grind (arith, nat_tests, e) in
            let less = o.above i n before h is same in
            ap (λ q. position_of (then_entries (one q)) (rows.coord i)) same ∙ gains.others (rows.coord i) (λ k. omega (arith, k, less))
            ∙ ap (λ q. position_of (entries (one q)) (rows.coord i)) (sym same) ∙ p.has i before ∙ ap Some (sym (keeps i before))
        by_parent false e =
            let apart : rows.parent i ≢ rows.parent n = grind (arith, nat_tests, e) in
            ap (λ es. position_of es (rows.coord i)) (others (rows.parent i) (o.within i (omega (arith, before, h))) apart) ∙ p.has i before
            ∙ ap Some (sym (keeps i before))
    has i l (inr from) =
        let same : i ≡ n = omega (arith, l, from) in
        subst (λ j. position_of (then_entries (one (rows.parent j))) (rows.coord j) ≡ Some (then_place j)) (sym same)
        (gains.has ∙ ap Some (sym here))

    earlier : (q x pos : ℕ) → (i : ℕ) × (i < n) × (rows.parent i ≡ q) × (rows.coord i ≡ x) × (place i ≡ pos)
        → (i : ℕ) × (i < suc n) × (rows.parent i ≡ q) × (rows.coord i ≡ x) × (then_place i ≡ pos)
    earlier q x pos k = let l = k.1 in (k.0, omega (arith, l), k.2, k.3, keeps k.0 k.1 ∙ k.4)

    only : full ≡ false → (q x pos : ℕ) → q < parents → position_of (then_entries (one q)) x ≡ Some pos → (a b : Bool)
        → (q == rows.parent n) ≡ a → (x == rows.coord n) ≡ b
        → (i : ℕ) × (i < suc n) × (rows.parent i ≡ q) × (rows.coord i ≡ x) × (then_place i ≡ pos)
    only f q x pos l at true true e d =
        let parent : q ≡ rows.parent n = grind (arith, nat_tests, e) in
        let coord : x ≡ rows.coord n = grind (arith, nat_tests, d) in
        let found_at : position_of (then_entries (one (rows.parent n))) (rows.coord n) ≡ Some pos =
        ap (λ y. position_of (then_entries (one (rows.parent n))) y) (sym coord)
        ∙ ap (λ r. position_of (then_entries (one r)) x) (sym parent) ∙ at in
        (n, omega arith, sym parent, sym coord, here ∙ same_Some slot pos (sym gains.has ∙ found_at))
    only f q x pos l at true false e d =
        let parent : q ≡ rows.parent n = grind (arith, nat_tests, e) in
        let apart : x ≢ rows.coord n = grind (arith, nat_tests, d) in
        earlier q x pos
        (p.only f q x pos l (ap (λ r. position_of (entries (one r)) x) parent ∙ sym (gains.others x apart)
        ∙ ap (λ r. position_of (then_entries (one r)) x) (sym parent) ∙ at))
    only f q x pos l at false b e d =
        let apart : q ≢ rows.parent n = grind (arith, nat_tests, e) in
        earlier q x pos (p.only f q x pos l (ap (λ es. position_of es x) (sym (others q l apart)) ∙ at))

    few : full ≡ false → (q : ℕ) → q < parents → (b : Bool) → (q == rows.parent n) ≡ b
        → length (then_entries (one q)) ≤ begun_below rows q (suc n)
    few f q l true e =
        let parent : q ≡ rows.parent n = grind (arith, nat_tests, e) in
        let k = one_longer (rows.coord n) slot (entries (one (rows.parent n))) (then_entries (one (rows.parent n))) distinct gains in
        let before = p.few f (rows.parent n) (o.within n h) in
        let more = below_yes rows n is in
        subst (λ r. length (then_entries (one r)) ≤ begun_below rows r (suc n)) (sym parent) (omega (arith, k, before, more))
    few f q l false e =
        let apart : q ≢ rows.parent n = grind (arith, nat_tests, e) in
        let same = ap length (others q l apart) in
        let before = p.few f q l in
        let step = below_step rows q n in
        omega (arith, same, before, step)

-- a row that begins none has the place of the row before
pub insert_again : (full : Bool) (size parents n : ℕ) (rows : Rows) (place then_place : ℕ → ℕ) (entries : Span → List Entry)
    → MayInsertRows size parents rows → suc n < rows.count → rows.first (suc n) ≡ false
    → Inserted full parents (suc n) rows place entries → ((i : ℕ) → i < suc n → then_place i ≡ place i) → then_place (suc n) ≡ place n
    → Inserted full parents (suc (suc n)) rows then_place entries
insert_again full size parents n rows place then_place entries o h is p keeps here = record {
  has = λ i l. has i l (cases_lt i (suc n));
  only = λ f q x pos l at. let k = p.only f q x pos l at in let less = k.1 in (k.0, omega (arith, less), k.2, k.3, keeps k.0 k.1 ∙ k.4);
  few = λ f q l. let k = p.few f q l in let m = below_step rows q (suc n) in omega (arith, k, m);
}
  where
    again : (rows.parent (suc n) ≡ rows.parent n) × (rows.coord (suc n) ≡ rows.coord n)
    again = o.again n h is

    has : (i : ℕ) → i < suc (suc n) → (i < suc n) ⊎ (suc n ≤ i)
        → position_of (entries (one (rows.parent i))) (rows.coord i) ≡ Some (then_place i)
    has i l (inl before) = p.has i before ∙ ap Some (sym (keeps i before))
    has i l (inr from) =
        let same : i ≡ suc n = omega (arith, l, from) in
        subst (λ j. position_of (entries (one (rows.parent j))) (rows.coord j) ≡ Some (then_place j)) (sym same)
        (ap (λ q. position_of (entries (one q)) (rows.coord (suc n))) again.0 ∙ ap (position_of (entries (one (rows.parent n)))) again.1
        ∙ p.has n (omega arith) ∙ ap Some (sym here))

-- nothing is inserted yet
pub insert_none : (full : Bool) (parents : ℕ) (rows : Rows) (place : ℕ → ℕ) (entries : Span → List Entry)
    → (full ≡ false → (p : ℕ) → p < parents → entries (one p) ≡ []) → Inserted full parents 0 rows place entries
insert_none full parents rows place entries none = record {
  has = λ i h. absurd (omega (arith, h));
  only = λ f p x pos h at. absurd (none_some pos (ap (λ es. position_of es x) (sym (none f p h)) ∙ at));
  few = λ f p h. let k = ap length (none f p h) in omega (arith, k);
}

-- the first position of a coordinate has it
position_stands : (x pos : ℕ) (es : List Entry) → position_of es x ≡ Some pos
    → (e : Entry) × StandsAt e.child.lo e es × (e.coord ≡ x) × (e.child.lo ≡ pos)
position_stands x pos [] h = absurd (none_some pos h)
position_stands x pos (e ∷ es) h = by_test (position_stands x pos es) (e.coord == x) refl h
  where
    by_test : (position_of es x ≡ Some pos → (f : Entry) × StandsAt f.child.lo f es × (f.coord ≡ x) × (f.child.lo ≡ pos)) → (b : Bool)
        → (e.coord == x) ≡ b → (if b then Some e.child.lo else position_of es x) ≡ Some pos
        → (f : Entry) × StandsAt f.child.lo f (e ∷ es) × (f.coord ≡ x) × (f.child.lo ≡ pos)
    by_test again true is h = (e, inl (refl, refl), grind (arith, nat_tests, is), same_Some e.child.lo pos h)
    by_test again false is h = let k = again h in (k.0, inr k.1, k.2, k.3)

single_stands : (p : ℕ) (e : Entry) (es : List Entry) → Single es → StandsAt p e es → e.child.hi ≡ e.child.lo + 1
single_stands p e [] s h = absurd h
single_stands p e (f ∷ es) s (inl h) = subst (λ g. g.child.hi ≡ g.child.lo + 1) h.1 s.0
single_stands p e (f ∷ es) s (inr h) = single_stands p e es s.1 h

stands_position : (p : ℕ) (e : Entry) (es : List Entry) → Distinct es → StandsAt p e es → position_of es e.coord ≡ Some e.child.lo
stands_position p e [] d h = absurd h
stands_position p e (f ∷ es) d (inl h) = subst (λ g. position_of (f ∷ es) g.coord ≡ Some g.child.lo) h.1 (first_position f es)
stands_position p e (f ∷ es) d (inr h) =
    other_position f es e.coord (λ same. none_some e.child.lo
    (sym (lacks_none e.coord es (subst (λ x. Lacks x es) same d.0)) ∙ stands_position p e es d.1 h)) ∙ stands_position p e es d.1 h

-- a level into which all rows are inserted stands for them, below each single parent
pub inserted_stands : (letter : Letter) (size parents : ℕ) (rows : Rows) (place : ℕ → ℕ) (allowed : Span → Type 0)
    (segment_of : Span → Span) (entries : Span → List Entry)
    → (properties letter).unique ≡ true → ((i : ℕ) → i < rows.count → rows.parent i < parents) → AreInRow allowed segment_of
    → ((p : ℕ) → p < parents → allowed (one p))
    → ((parent : Span) → allowed parent → AreEntries (properties letter) size parent (segment_of parent) (entries parent))
    → Inserted (properties letter).full parents rows.count rows place entries
    → StandsFor (properties letter).full (IsParent parents) segment_of entries rows place
inserted_stands letter size parents rows place allowed segment_of entries unique within row each are p = record {
  has = λ s i ok h in_it. subst (λ q. coord_at (entries q) (place i) ≡ Some (rows.coord i)) (sym (parent_is s i ok in_it)) (has i h);
  alone = λ s i ok h at.
      let same = by_order i h ok.0 ok.1 (subst (λ q. IsIn (place i) (segment_of q)) ok.2 at) (cases_order (rows.parent i) ok.0) in
      subst (IsIn (rows.parent i)) (sym ok.2) (omega (arith, same), omega (arith, same));
  only = λ f s pos x ok at is.
      let q = ok.0 in
      let a = are (one q) (each q ok.1) in
      let e = coord_from pos x (entries (one q)) (subst (λ r. coord_at (entries r) pos ≡ Some x) ok.2 is) in
      let single = single_stands e.entry.child.lo e.entry (entries (one q)) (a.properties.unique unique) e.stands in
      let lo = e.at.0 in let hi = e.at.1 in
      let k = p.only f q e.entry.coord e.entry.child.lo ok.1
      (stands_position e.entry.child.lo e.entry (entries (one q)) a.distinct e.stands) in
      let at_lo = k.4 in
      (k.0, k.1, omega (arith, at_lo, lo, hi, single));
}
  where
    parent_is : (s : Span) (i : ℕ) → IsParent parents s → IsIn (rows.parent i) s → s ≡ one (rows.parent i)
    parent_is s i ok in_it =
        let is = subst (IsIn (rows.parent i)) ok.2 in_it in let a = is.0 in let b = is.1 in
        let same : ok.0 ≡ rows.parent i = omega (arith, a, b) in ok.2 ∙ ap one same

    has : (i : ℕ) → i < rows.count → coord_at (entries (one (rows.parent i))) (place i) ≡ Some (rows.coord i)
    has i h =
        let a = are (one (rows.parent i)) (each (rows.parent i) (within i h)) in
        let e = position_stands (rows.coord i) (place i) (entries (one (rows.parent i))) (p.has i h) in
        let inside = stands_within (segment_of (one (rows.parent i))).lo (segment_of (one (rows.parent i))).hi e.0.child.lo e.0
        (entries (one (rows.parent i))) a.placed e.1 in
        let less = inside.1 in let at = e.3 in
        coord_in (segment_of (one (rows.parent i))).lo (segment_of (one (rows.parent i))).hi e.0.child.lo (place i) e.0
        (entries (one (rows.parent i))) a.placed e.1 (omega (arith, at), omega (arith, less, at)) ∙ ap Some e.2

    in_segment : (i : ℕ) → i < rows.count → IsIn (place i) (segment_of (one (rows.parent i)))
    in_segment i h =
        let a = are (one (rows.parent i)) (each (rows.parent i) (within i h)) in
        let e = position_stands (rows.coord i) (place i) (entries (one (rows.parent i))) (p.has i h) in
        let inside = stands_within (segment_of (one (rows.parent i))).lo (segment_of (one (rows.parent i))).hi e.0.child.lo e.0
        (entries (one (rows.parent i))) a.placed e.1 in
        let b = inside.0 in let less = inside.1 in let d = inside.2 in let at = e.3 in
        (omega (arith, b, at), omega (arith, less, d, at))

    asked : Askable allowed segment_of parents
    asked =
        record {
          row = row;
          each = each;
          rise = λ q h. placed_within (segment_of (one q)).lo (segment_of (one q)).hi (entries (one q))
              (are (one q) (each q h)).placed;
        }

    by_order : (i : ℕ) → i < rows.count → (q : ℕ) → q < parents → IsIn (place i) (segment_of (one q))
        → (rows.parent i ≡ q) ⊎ ((rows.parent i < q) ⊎ (q < rows.parent i)) → rows.parent i ≡ q
    by_order i h q l at (inl same) = same
    by_order i h q l at (inr (inl less)) = let k = segments_apart allowed segment_of parents (rows.parent i) q asked less l in
        let a = (in_segment i h).1 in let b = at.0 in absurd (omega (arith, k, a, b))
    by_order i h q l at (inr (inr more)) = let k = segments_apart allowed segment_of parents q (rows.parent i) asked more (within i h) in
        let a = (in_segment i h).0 in let b = at.1 in absurd (omega (arith, k, a, b))
