-- The loop that inserts rows: what holds of the level after each of them.
use Rattle.std.specs.Prelude.{◌≡◌, ◌≢◌, ℕ, zero, suc, ◌+◌, ◌-◌, ◌*◌, ◌≤◌, ◌<◌, ◌==◌, Bool, true, false, List, length, slice_index}
use Rattle.std.specs.Prelude.{slice_set, Some, refl}
use Rattle.std.proofs.Common.{◌∙◌, sym, ap, subst, arith}
use Rattle.std.proofs.lemmas.Bool.Decides.{nat_tests}
use Rattle.std.proofs.lemmas.List.{get_or-set_same, get_or-set_other, length-set}
use Rattle.limits.specs.Limits.{greatest_position_count}
use Rattle.kernel_code.specs.Widths.{slot_width}
use Rattle.level_core.specs.declared.span.Span.{Span}
use Rattle.level_core.specs.Entries.{one, span}
use Rattle.level_core.specs.Kinds.{properties, capabilities, positions_for, AreEntries, MayPrepare, MayInsert}
use Rattle.level_core.specs.Meaning.{Meaning, Inserts}
use Rattle.level_core.specs.Laws.{Laws}
use Rattle.level_core.specs.Orders.{InOrder}
use Rattle.level_core.proofs.KindLaws.{are_of_a_kind, unordered_stored}
use Rattle.level_core.proofs.Orders.{keeps_order}
use Rattle.level_rows.specs.Rows.{Rows, begun_below, MayInsertRows, StandsFor}
use Rattle.level_rows.specs.Taken.{Asked, InsertsRows}
use Rattle.level_rows.proofs.Finishing.{stands_along}
use Rattle.level_rows.proofs.InsertLaws.{Inserted, IsParent, may_insert, insert_first, insert_again, insert_none, inserted_stands}

apart : true ≡ false → ⊥
apart e = cc

-- while rows are inserted: the level, the last position and the list of positions after so many rows
pub record Inserting {L : Type 0} (means : Meaning L) (parents most done at : ℕ) (rows : Rows) (positions : List ℕ)
    (old new : L) : Type 0 where
  pub keeps : means.keeps new
  pub kind : means.kind new ≡ means.kind old
  pub size : means.size new ≡ means.size old
  pub has_parents : means.has_parents new parents
  pub able : (capabilities (means.kind old)).insert ≡ true
  pub ends : (p : ℕ) → p + 1 ≡ parents → (means.segment_of new (one p)).hi ≡ positions_for (means.kind old) (means.size old) parents most
  pub width : (properties (means.kind old)).full ≡ false → means.width new ≡ Some (slot_width most)
  pub room : (properties (means.kind old)).full ≡ false → (p : ℕ) → p < parents
      → 2 * most ≤ (means.segment_of new (one p)).hi - (means.segment_of new (one p)).lo
  pub inserted : Inserted (properties (means.kind old)).full parents done rows (slice_index positions) (means.entries new)
  pub order : (properties (means.kind old)).ordered ≡ false → (p : ℕ) → p < parents → InOrder means new p
  pub last : (i : ℕ) → done ≡ suc i → at ≡ slice_index positions i
  pub many : length positions ≡ rows.count
  pub ahead : (i : ℕ) → done ≤ i → i < rows.count → slice_index positions i ≡ rows.parent i
  pub upto : done ≤ rows.count

module _ {L : Type 0} (means : Meaning L) (laws : Laws means) (parents most : ℕ) (rows : Rows) (old : L)
    (may : MayInsertRows (means.size old) parents rows) (enough : (properties (means.kind old)).full ≡ false → (p : ℕ) → p < parents
    → begun_below rows p rows.count ≤ most) where
  pub begins : (positions : List ℕ) (l : L) → means.keeps old → MayPrepare (means.kind old) (means.width old) most
      → positions_for (means.kind old) (means.size old) parents most ≤ greatest_position_count
      → means.prepared old parents most l → length positions ≡ rows.count
      → ((i : ℕ) → i < rows.count → slice_index positions i ≡ rows.parent i) → Inserting means parents most 0 0 rows positions old l
  begins positions l keeps can within prepared many parents_are =
      let p = laws.prepares old l parents most keeps can within prepared in
      record {
        keeps = p.keeps;
        kind = p.kind;
        size = p.size;
        has_parents = p.has_parents;
        able = can.able;
        ends = p.positions;
        width = p.width;
        room = p.room;
        inserted = insert_none (properties (means.kind old)).full parents rows (slice_index positions) (means.entries l) p.empty;
        order = λ unordered q h. (keeps_order means laws).starts old l parents most q p (unordered_stored (means.kind old) unordered) h;
        last = λ i h. absurd (omega (arith, h));
        many = many;
        ahead = λ i from h. parents_are i h;
        upto = omega arith;
      }

  module _ (done at : ℕ) (positions : List ℕ) (l : L) (f : Inserting means parents most done at rows positions old l) where
    pub next_is : done < rows.count → slice_index positions done ≡ rows.parent done
    next_is h = f.ahead done (omega arith) h

    allowed_at : (p : ℕ) → p < parents → means.allowed l (one p)
    allowed_at p h = laws.parents l parents p f.has_parents h

    pub allowed_next : (parent : ℕ) → done < rows.count → parent ≡ rows.parent done → means.allowed l (one parent)
    allowed_next parent h is = allowed_at parent (let w = may.within done h in omega (arith, w, is))

    pub may_insert_next : (parent x : ℕ) (b : Bool) → done < rows.count → parent ≡ rows.parent done → x ≡ rows.coord done
        → b ≡ rows.first done → b ≡ true
        → MayInsert (means.kind l) (means.size l) (means.segment_of l (one parent)) (means.entries l (one parent)) x
    may_insert_next parent x b h parent_is coord first is =
        subst (λ p. MayInsert (means.kind l) (means.size l) (means.segment_of l (one p)) (means.entries l (one p)) x) (sym parent_is)
        (subst (λ y. MayInsert (means.kind l) (means.size l) (means.segment_of l (one (rows.parent done)))
        (means.entries l (one (rows.parent done))) y) (sym coord)
        (subst (λ k. MayInsert k (means.size l) (means.segment_of l (one (rows.parent done))) (means.entries l (one (rows.parent done)))
        (rows.coord done)) (sym f.kind)
        (subst (λ n. MayInsert (means.kind old) n (means.segment_of l (one (rows.parent done))) (means.entries l (one (rows.parent done)))
        (rows.coord done)) (sym f.size)
        (may_insert (means.kind old) (means.size old) parents most done rows (slice_index positions)
        (means.segment_of l (one (rows.parent done))) (means.entries l) may h (sym first ∙ is) f.inserted
        (λ full. enough full (rows.parent done) (may.within done h)) (λ full. f.room full (rows.parent done) (may.within done h)) f.able))))

    kept : (slot i : ℕ) → i < done → slice_index (slice_set positions done slot) i ≡ slice_index positions i
    kept slot i h = get_or-set_other positions done i slot 0 (λ same. omega (arith, same, h))

    here : (slot : ℕ) → done < rows.count → slice_index (slice_set positions done slot) done ≡ slot
    here slot h = let many = f.many in get_or-set_same positions done slot 0 (omega (arith, many, h))

    last_at : (slot : ℕ) → done < rows.count → (i : ℕ) → done + 1 ≡ suc i → slot ≡ slice_index (slice_set positions done slot) i
    last_at slot h i is = let same : done ≡ i = omega (arith, is) in
        sym (here slot h) ∙ ap (slice_index (slice_set positions done slot)) same

    then_ahead : (slot i : ℕ) → done + 1 ≤ i → i < rows.count → slice_index (slice_set positions done slot) i ≡ rows.parent i
    then_ahead slot i from h = get_or-set_other positions done i slot 0 (λ same. omega (arith, same, from))
        ∙ f.ahead i (omega (arith, from)) h

    next : suc done ≡ done + 1
    next = omega arith

    -- a row that begins a position
    pub inserts_one : (parent x slot : ℕ) (b : Bool) (m : L) → done < rows.count → parent ≡ rows.parent done → x ≡ rows.coord done
        → b ≡ rows.first done → b ≡ true → means.inserted l parent x slot m
        → Inserting means parents most (done + 1) slot rows (slice_set positions done slot) old m
    inserts_one parent x slot b m h parent_is coord first is inserted = record {
      keeps = k.keeps;
      kind = k.kind ∙ f.kind;
      size = k.size ∙ f.size;
      has_parents = k.has_parents parents f.has_parents;
      able = f.able;
      ends = λ p last. ap (λ s. s.hi) (k.segments p (allowed_at p (omega (arith, last)))) ∙ f.ends p last;
      width = λ full. k.width ∙ f.width full;
      room = λ full p inside. subst (λ s. 2 * most ≤ s.hi - s.lo) (sym (k.segments p (allowed_at p inside))) (f.room full p inside);
      inserted =
          subst (λ n. Inserted (properties (means.kind old)).full parents n rows (slice_index (slice_set positions done slot))
          (means.entries m)) next
          (insert_first (properties (means.kind old)).full (means.size old) parents done slot rows (slice_index positions)
          (slice_index (slice_set positions done slot)) (means.entries l) (means.entries m) may h (sym first ∙ is)
          f.inserted (kept slot) (here slot h) k.gains
          (laws.entries m (one (rows.parent done))
          (k.allowed (rows.parent done) (allowed_at (rows.parent done) (may.within done h)))).distinct
          (λ p inside other. k.others p (allowed_at p inside) other));
      order = λ unordered p inside. by_parent unordered p inside (p == rows.parent done) refl;
      last = last_at slot h;
      many = length-set positions done slot ∙ f.many;
      ahead = then_ahead slot;
      upto = omega (arith, h);
    }
      where
        k : Inserts means (rows.parent done) (rows.coord done) slot l m
        k =
            subst (λ p. Inserts means p (rows.coord done) slot l m) parent_is (subst (λ y. Inserts means parent y slot l m) coord
            (laws.inserts l m parent x slot (allowed_next parent h parent_is) (may_insert_next parent x b h parent_is coord first is)
            inserted))

        by_parent : (properties (means.kind old)).ordered ≡ false → (p : ℕ) → p < parents → (t : Bool) → (p == rows.parent done) ≡ t
            → InOrder means m p
        by_parent unordered p inside true same =
            let at_parent : p ≡ rows.parent done = grind (arith, nat_tests, same) in
            let full = unordered_stored (means.kind old) unordered in
            subst (InOrder means m) (sym at_parent)
            ((keeps_order means laws).greater l m (rows.parent done) (rows.coord done) slot
            (ap (λ j. (properties j).ordered) f.kind ∙ unordered) (allowed_at (rows.parent done) (may.within done h))
            (λ y pos there.
            let r = f.inserted.only full (rows.parent done) y pos (may.within done h) there in
            let less = may.above r.0 done r.1 h (sym first ∙ is) r.2 in
            let coord_is = r.3 in
            omega (arith, less, coord_is))
            k (f.order unordered (rows.parent done) (may.within done h)))
        by_parent unordered p inside false other =
            let away : p ≢ rows.parent done = grind (arith, nat_tests, other) in
            (keeps_order means laws).others l m (rows.parent done) p (rows.coord done) slot (allowed_at p inside) away k
            (f.order unordered p inside)

    -- a row that begins none
    pub inserts_none : (slot : ℕ) (b : Bool) (m : L) → done < rows.count → b ≡ rows.first done → b ≡ false → (m ≡ l) → slot ≡ at
        → Inserting means parents most (done + 1) slot rows (slice_set positions done slot) old m
    inserts_none slot b m h first is same slot_is =
        subst (Inserting means parents most (done + 1) slot rows (slice_set positions done slot) old) (sym same) (by_done done refl)
      where
        by_done : (n : ℕ) → done ≡ n → Inserting means parents most (done + 1) slot rows (slice_set positions done slot) old l
        by_done zero none = absurd (apart (sym (may.begins (omega (arith, h))) ∙ sym (ap rows.first none) ∙ sym first ∙ is))
        by_done (suc n) some = record {
          keeps = f.keeps;
          kind = f.kind;
          size = f.size;
          has_parents = f.has_parents;
          able = f.able;
          ends = f.ends;
          width = f.width;
          room = f.room;
          inserted =
              subst (λ j. Inserted (properties (means.kind old)).full parents j rows (slice_index (slice_set positions done slot))
              (means.entries l)) (sym (ap suc some) ∙ next)
              (insert_again (properties (means.kind old)).full (means.size old) parents n rows (slice_index positions)
              (slice_index (slice_set positions done slot)) (means.entries l) may (omega (arith, h, some))
              (sym (ap rows.first some) ∙ sym first ∙ is)
              (subst (λ j. Inserted (properties (means.kind old)).full parents j rows (slice_index positions) (means.entries l)) some
              f.inserted)
              (λ i less. kept slot i (omega (arith, less, some)))
              (sym (ap (slice_index (slice_set positions done slot)) some) ∙ here slot h ∙ slot_is ∙ f.last n some));
          order = f.order;
          last = last_at slot h;
          many = length-set positions done slot ∙ f.many;
          ahead = then_ahead slot;
          upto = omega (arith, h);
        }

    pub inserts_next : (parent x slot : ℕ) (b : Bool) (m : L) → done < rows.count → parent ≡ rows.parent done → x ≡ rows.coord done
        → b ≡ rows.first done
        → (b ≡ true → means.inserted l parent x slot m) → (b ≡ false → (m ≡ l) × (slot ≡ at))
        → Inserting means parents most (done + 1) slot rows (slice_set positions done slot) old m
    inserts_next parent x slot b m h parent_is coord first first_it again_it = by_case b refl
      where
        by_case : (t : Bool) → b ≡ t → Inserting means parents most (done + 1) slot rows (slice_set positions done slot) old m
        by_case true is = inserts_one parent x slot b m h parent_is coord first is (first_it is)
        by_case false is = let k = again_it is in inserts_none slot b m h first is k.0 k.1

  pub inserts : (at : ℕ) (positions : List ℕ) (l : L) → Inserting means parents most rows.count at rows positions old l
      → InsertsRows means parents most rows positions old l
  inserts at positions l f = record {
    takes = record {
      keeps = f.keeps;
      kind = f.kind;
      size = f.size;
      many = f.many;
      stored = record {
        has_parents = f.has_parents;
        stands =
            subst (λ k. StandsFor (properties k).full (Asked means l parents) (means.segment_of l) (means.entries l) rows
            (slice_index positions)) (sym f.kind)
            (stands_along (properties (means.kind old)).full (IsParent parents) (Asked means l parents) (means.segment_of l)
            (means.entries l) rows (slice_index positions) (slice_index positions) single (λ i h. refl)
            (inserted_stands (means.kind old) (means.size old) parents rows (slice_index positions) (means.allowed l) (means.segment_of l)
            (means.entries l) ((are_of_a_kind (means.kind old)).inserted_unique f.able) may.within (laws.in_row l) allowed_at
            (λ s ok. subst (λ k. AreEntries (properties k) (means.size old) s (means.segment_of l s) (means.entries l s)) f.kind
            (subst (λ n. AreEntries (properties (means.kind l)) n s (means.segment_of l s) (means.entries l s)) f.size
            (laws.entries l s ok)))
            f.inserted));
        ends = f.ends;
        groups =
            λ branches. absurd (apart (sym branches ∙ ap (λ k. (properties k).branchless) f.kind
            ∙ (are_of_a_kind (means.kind old)).inserted_branches f.able));
      };
    };
    width = f.width;
    order = f.order;
  }
    where
      allowed_at : (p : ℕ) → p < parents → means.allowed l (one p)
      allowed_at p h = laws.parents l parents p f.has_parents h

      single : (s : Span) → Asked means l parents s → IsParent parents s
      single s ok =
          let alone = laws.one_parent l s ok.0 (ap (λ k. (properties k).branchless) f.kind
          ∙ (are_of_a_kind (means.kind old)).inserted_branches f.able) in
          let within = ok.1 in
          (s.lo, omega (arith, alone, within), ap (span s.lo) alone)
