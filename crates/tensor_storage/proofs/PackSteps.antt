-- Levels are packed one below another: what holds after each.
use Rattle.std.specs.Prelude.{◌≡◌, ℕ, zero, suc, ◌+◌, ◌-◌, ◌≤◌, ◌<◌, ◌&&◌, not, Bool, true, false, if◌then◌else◌, List, [], ◌∷◌, ◌++◌}
use Rattle.std.specs.Prelude.{length, map, drop, replicate, slice_index, Some, Ok, Err, refl}
use Rattle.std.proofs.Common.{◌∙◌, sym, ap, subst, arith, get_or, add-one}
use Rattle.std.proofs.Math.Path.{fun_ext}
use Rattle.std.proofs.lemmas.List.{append_assoc, map-append, length-replicate, length-map, get_or-map}
use Rattle.std.proofs.lemmas.List.Elements.{All-nil, All-push}
use Rattle.limits.specs.Limits.{greatest_position_count}
use Rattle.kernel_code.specs.Widths.{slot_width}
use Rattle.level_core.specs.declared.letter.Letter.{Letter}
use Rattle.level_core.specs.Kinds.{properties, capabilities, positions_for}
use Rattle.level_core.specs.Meaning.{Meaning}
use Rattle.level_core.specs.Laws.{Laws}
use Rattle.level_core.specs.Orders.{InOrder}
use Rattle.level_core.proofs.KindLaws.{are_of_a_kind, inserted_else, appended_ordered, unordered_stored, never_inserted, full_positions}
use Rattle.level_rows.specs.Rows.{rows_at, begun, place, IsGreatestBelow, MayAppendRows, MayInsertRows}
use Rattle.level_rows.specs.Taken.{Takes}
use Rattle.level_rows.specs.declared.filling.FillRefusal.TheVariants.{TooMany}
use Rattle.level_rows.specs.Filling.{AreNeeded, MayFill, FillsRows, FillAnswer}
use Rattle.level_rows.specs.Stacks.{Column, last_place, last_positions}
use Rattle.level_rows.specs.Tables.{Increase, ShareBy, AreRowsOf}
use Rattle.level_rows.specs.Growing.{column_of, Growing, IsNext, Grows}
use Rattle.level_rows.proofs.Growing.{levels_grow}
use Rattle.format_spec.specs.declared.format.FormatLevel.{FormatLevel}
use Rattle.format_spec.specs.Formats.{letters_of, Chained, InsertedBelowUnordered, IsFormat}
use Rattle.tensor_storage.specs.Storages.{in_level_order}
use Rattle.tensor_storage.specs.Built.{counts_of, IsBuilt, AreBuilt}
use Rattle.tensor_storage.specs.Chains.{chain_length}
use Rattle.tensor_storage.specs.Counts.{different, greatest_below, positions_at, positions_from, positions_of, last_of, AreFew}
use Rattle.tensor_storage.specs.New.{IsNew}
use Rattle.tensor_storage.specs.Packed.{MayFollow, ArePacked, IsFirstAbove}
use Rattle.tensor_storage.specs.Tables.{Table, AreBelow, keys_of}
use Rattle.tensor_storage.proofs.Chains.{chain_of_unique, chain_of_groups, chain_some, letter_left}
use Rattle.tensor_storage.proofs.Counts.{begun_is, most_is}
use Rattle.tensor_storage.proofs.Paths.{coordinate_left}
use Rattle.tensor_storage.proofs.Tables.{apart, both, joined, rows_are}

one_more : {A B : Type 0} (f : A → B) (xs : List A) (x : A) (y : B) (rest left all : List B) → map f xs ++ left ≡ all → left ≡ y ∷ rest
    → f x ≡ y → map f (xs ++ x ∷ []) ++ rest ≡ all
one_more f xs x y rest left all h l is =
    ap (λ m. m ++ rest) (map-append f xs (x ∷ [])) ∙ append_assoc (map f xs) (f x ∷ []) rest ∙ ap (λ z. map f xs ++ z ∷ rest) is
    ∙ ap (λ m. map f xs ++ m) (sym l) ∙ h

-- a full level has as many positions whatever is the greatest number below one parent
full_any : (letter : Letter) (size parents most other : ℕ) → (properties letter).full ≡ true
    → positions_for letter size parents most ≡ positions_for letter size parents other
full_any letter size parents most other is = full_positions letter size parents most is ∙ sym (full_positions letter size parents other is)

yes_is : (b : Bool) (x y : ℕ) → b ≡ true → x ≡ (if b then x else y)
yes_is true x y h = refl
yes_is false x y h = apart (sym h)

no_is : (b : Bool) (x y : ℕ) → b ≡ false → y ≡ (if b then x else y)
no_is true x y h = apart h
no_is false x y h = refl

pub last_is : (columns : List Column) (parents : ℕ) → last_of parents (counts_of columns) ≡ last_positions columns parents
last_is [] parents = refl
last_is (column ∷ columns) parents = last_is columns column.positions

built_push : {L : Type 0} (means : Meaning L) (table : Table) (letters : List Letter) (ls : List L) (columns : List Column) (d e : ℕ)
    (parent : ℕ → ℕ) (parents : ℕ) (l : L) (column : Column) (letter : Letter) (rest : List Letter)
    → AreBuilt means table d parent parents letters ls columns → length ls ≡ e → drop e letters ≡ letter ∷ rest
    → IsBuilt means table (d + e) ((d + e) + chain_length (letter ∷ rest)) (last_place columns parent) (last_positions columns parents)
    column l
    → AreBuilt means table d parent parents letters (ls ++ l ∷ []) (columns ++ column ∷ [])
built_push means table letters [] [] d e parent parents l column letter rest are long left is =
    let none : e ≡ 0 = omega (arith, long) in
    let here : letters ≡ letter ∷ rest = subst (λ n. drop n letters ≡ letter ∷ rest) none left in
    let same : d + e ≡ d = omega (arith, none) in
    subst (λ ks. AreBuilt means table d parent parents ks (l ∷ []) (column ∷ [])) (sym here)
    (subst (λ m. IsBuilt means table m (m + chain_length (letter ∷ rest)) parent parents column l) same is, tt)
built_push means table letters [] (c ∷ columns) d e parent parents l column letter rest are long left is = absurd are
built_push means table letters (k ∷ ls) [] d e parent parents l column letter rest are long left is = absurd are
built_push means table [] (k ∷ ls) (c ∷ columns) d e parent parents l column letter rest are long left is = absurd are
built_push means table (first ∷ letters) (k ∷ ls) (c ∷ columns) d e parent parents l column letter rest are long left is =
    let one_less : length ls ≡ e - 1 = omega (arith, long) in
    let deeper : e ≡ suc (e - 1) = omega (arith, long) in
    let same : d + e ≡ suc d + (e - 1) = omega (arith, long) in (
      are.0,
      built_push means table letters ls columns (suc d) (e - 1) c.place c.positions l column letter rest are.1 one_less
          (subst (λ n. drop n (first ∷ letters) ≡ letter ∷ rest) deeper left)
          (subst (λ q. IsBuilt means table q (q + chain_length (letter ∷ rest)) (last_place columns c.place)
          (last_positions columns c.positions) column l) same is),
    )

as_many_built : {L : Type 0} (means : Meaning L) (table : Table) (letters : List Letter) (ls : List L) (columns : List Column) (d : ℕ)
    (parent : ℕ → ℕ) (parents : ℕ) → AreBuilt means table d parent parents letters ls columns → length columns ≡ length ls
as_many_built means table letters [] [] d parent parents are = refl
as_many_built means table letters [] (c ∷ columns) d parent parents are = absurd are
as_many_built means table letters (l ∷ ls) [] d parent parents are = absurd are
as_many_built means table [] (l ∷ ls) (c ∷ columns) d parent parents are = absurd are
as_many_built means table (letter ∷ letters) (l ∷ ls) (c ∷ columns) d parent parents are =
    ap suc (as_many_built means table letters ls columns (suc d) c.place c.positions are.1)

inserted_unique : (letter : Letter) → (capabilities letter).append ≡ false
    → ((properties letter).unique ≡ true) × ((properties letter).branchless ≡ false)
inserted_unique letter is =
    let able = inserted_else letter is in
    ((are_of_a_kind letter).inserted_unique able, (are_of_a_kind letter).inserted_branches able)

module _ {L : Type 0} (means : Meaning L) (laws : Laws means) (letters : List Letter) (sizes : List ℕ) (order : ℕ) (table : Table)
    (up : Increase table.coords order table.count)
    (d n : ℕ) (levels : List L) (ps : List ℕ) (parents size : ℕ) (old : L) (rest : List Letter)
    (p : ArePacked means letters sizes table d levels ps parents)
    (left : drop d letters ≡ means.kind old ∷ rest) (through : n ≡ d + chain_length (means.kind old ∷ rest))
    (below : (i : ℕ) → i < table.count → table.coords d i < size) where
  grows : Grows means table.coords (keys_of table d n) d p.above parents p.groups p.ordered levels p.columns ps
  grows = (levels_grow means laws).next table.coords order (keys_of table d n) d p.above parents p.groups p.ordered levels p.columns ps up
      p.growing

  chained_here : Chained p.groups (means.kind old ∷ rest)
  chained_here = subst (Chained p.groups) left p.chained

  follow_here : MayFollow p.ordered (means.kind old ∷ rest)
  follow_here = subst (MayFollow p.ordered) left p.follow

  next : IsNext (means.kind old) d n p.above p.groups
  next = record {
    branchless = chained_here.0;
    unique = λ u. let k = chain_of_unique (means.kind old) rest u in omega (arith, through, k);
    chained = λ g. p.deep g ∙ ap (λ ls. d + chain_length ls) left ∙ sym through;
    more = λ u. let k = chain_of_groups (means.kind old) rest u in let s = chain_some rest in omega (arith, through, k, s);
  }

  are : AreRowsOf table.coords d n size (rows_at (keys_of table d n) ps)
  are = rows_are table d n size ps below

  groups_none : (capabilities (means.kind old)).append ≡ false → p.groups ≡ false
  groups_none is = sym chained_here.0 ∙ (inserted_unique (means.kind old) is).1

  -- the level may be given the rows
  pub may_fill : IsNew means (means.kind old) size old → MayFill means parents (rows_at (keys_of table d n) ps) old
  may_fill new = record {
    appends =
        λ is. (
          subst (λ s. MayAppendRows (means.kind old) s parents (rows_at (keys_of table d n) ps)) (sym new.size_is)
              (grows.may_append (means.kind old) n size next (follow_here.0 is) are),
          new.log is,
        );
    inserts =
        λ is. (
          subst (λ s. MayInsertRows s parents (rows_at (keys_of table d n) ps)) (sym new.size_is)
              (grows.may_insert size (groups_none is)
              (subst (λ m. AreRowsOf table.coords d m size (rows_at (keys_of table d n) ps))
              (next.unique (inserted_unique (means.kind old) is).0)
              are)),
          grows.together,
          new.width is,
        );
  }

  module _ (most needed : ℕ) (kept : means.size old ≡ size)
      (need : AreNeeded (means.kind old) (means.size old) parents (rows_at (keys_of table d n) ps) needed most) where
    greatest_is : (capabilities (means.kind old)).append ≡ false → (properties (means.kind old)).full ≡ false
        → most ≡ greatest_below table.coords d table.count table.count
    greatest_is is sparse = most_is table order d parents ps up
        (subst (λ a. ShareBy table.coords a table.count parents (slice_index ps)) (p.growing.level (groups_none is)) p.growing.share) most
        (subst (λ m. IsGreatestBelow (rows_at (keys_of table d m) ps) most) (next.unique (inserted_unique (means.kind old) is).0)
        (need.greatest is sparse))

    -- the positions that are needed are those that the table tells
    pub needed_is : needed ≡ positions_at table d parents (means.kind old) rest size
    needed_is = by_append (capabilities (means.kind old)).append refl
      where
        by_full : (b : Bool) → (capabilities (means.kind old)).append ≡ false → (properties (means.kind old)).full ≡ b
            → positions_for (means.kind old) size parents most
            ≡ positions_for (means.kind old) size parents (greatest_below table.coords d table.count table.count)
        by_full true is full = full_any (means.kind old) size parents most (greatest_below table.coords d table.count table.count) full
        by_full false is sparse = ap (positions_for (means.kind old) size parents) (greatest_is is sparse)

        by_append : (b : Bool) → (capabilities (means.kind old)).append ≡ b
            → needed ≡ positions_at table d parents (means.kind old) rest size
        by_append true is =
            (need.appended is).0 ∙ begun_is table.coords order table.count n table.count up (omega arith)
            ∙ ap (λ m. different table.coords m table.count) through
            ∙ yes_is (capabilities (means.kind old)).append (different table.coords (d + chain_length (means.kind old ∷ rest)) table.count)
            (positions_for (means.kind old) size parents (greatest_below table.coords d table.count table.count)) is
        by_append false is =
            need.inserted is ∙ ap (λ m. positions_for (means.kind old) m parents most) kept
            ∙ by_full (properties (means.kind old)).full is refl
            ∙ no_is (capabilities (means.kind old)).append (different table.coords (d + chain_length (means.kind old ∷ rest)) table.count)
            (positions_for (means.kind old) size parents (greatest_below table.coords d table.count table.count)) is

    -- what the table tells of the levels from here on
    pub left_from : drop d sizes ≡ size ∷ drop (suc d) sizes → rest ≡ drop (suc d) letters
        → positions_from table d parents (drop d letters) (drop d sizes)
        ≡ needed ∷ positions_from table (suc d) needed (drop (suc d) letters) (drop (suc d) sizes)
    left_from ranges_left rest_is =
        ap (λ ls. positions_from table d parents ls (drop d sizes)) left
        ∙ ap (positions_from table d parents (means.kind old ∷ rest)) ranges_left
        ∙ ap (λ m. m ∷ positions_from table (suc d) m rest (drop (suc d) sizes)) (sym needed_is)
        ∙ ap (λ ls. needed ∷ positions_from table (suc d) needed ls (drop (suc d) sizes)) rest_is

    module _ (places : List ℕ) (new : L) (fits : needed ≤ greatest_position_count)
        (fills : FillsRows means parents most (rows_at (keys_of table d n) ps) places old new) (ranges_left : drop d sizes
        ≡ size ∷ drop (suc d) sizes)
        (rest_is : rest ≡ drop (suc d) letters) where
      packed : (ordered_then : Bool) → ordered_then ≡ (p.ordered && (properties (means.kind old)).ordered)
          → Growing means table.coords table.count (suc d) n (not (properties (means.kind old)).unique) ordered_then (levels ++ new ∷ [])
          (p.columns ++ column_of (keys_of table d n) places needed ∷ []) (slice_index places) needed
          → Takes means parents needed (rows_at (keys_of table d n) ps) places old new
          → IsBuilt means table d n (slice_index ps) parents (column_of (keys_of table d n) places needed) new
          → ArePacked means letters sizes table (suc d) (levels ++ new ∷ []) places needed
      packed ordered_then o growing t built = record {
        columns = p.columns ++ column_of (keys_of table d n) places needed ∷ [];
        above = n;
        groups = not (properties (means.kind old)).unique;
        ordered = ordered_then;
        growing = growing;
        chained = subst (Chained (not (properties (means.kind old)).unique)) rest_is chained_here.1;
        deep = λ g. deep_by (properties (means.kind old)).unique refl g;
        follow = subst (λ b. MayFollow b (drop (suc d) letters)) (sym o)
            (subst (MayFollow (p.ordered && (properties (means.kind old)).ordered)) rest_is follow_here.1);
        many = t.many;
        kinds = subst (λ ls. map means.kind (levels ++ new ∷ []) ++ ls ≡ letters) rest_is
            (one_more means.kind levels new (means.kind old) rest (drop d letters) letters p.kinds left t.kind);
        ranges = one_more means.size levels new size (drop (suc d) sizes) (drop d sizes) sizes p.ranges ranges_left (t.size ∙ kept);
        counts = one_more (λ column. column.positions) p.columns (column_of (keys_of table d n) places needed) needed
            (positions_from table (suc d) needed (drop (suc d) letters) (drop (suc d) sizes))
            (positions_from table d parents (drop d letters) (drop d sizes)) (positions_from table 0 1 letters sizes) p.counts
            (left_from ranges_left rest_is) refl;
        few = subst AreFew (sym pushed) (All-push (λ count. count ≤ greatest_position_count) (counts_of p.columns) needed p.few fits);
        built = built_push means table letters levels p.columns 0 d (λ i. 0) 1 new (column_of (keys_of table d n) places needed)
            (means.kind old) rest p.built p.growing.depth left
            (subst (λ m. IsBuilt means table m (m + chain_length (means.kind old ∷ rest)) (last_place p.columns (λ i. 0))
            (last_positions p.columns 1) (column_of (keys_of table d n) places needed) new) (sym zero_more)
            (subst (λ m. IsBuilt means table d (d + chain_length (means.kind old ∷ rest)) (last_place p.columns (λ i. 0)) m
            (column_of (keys_of table d n) places needed) new) (sym p.growing.parents_are)
            (subst (λ f. IsBuilt means table d (d + chain_length (means.kind old ∷ rest)) f parents
            (column_of (keys_of table d n) places needed) new) (sym p.growing.place_is)
            (subst (λ m. IsBuilt means table d m (slice_index ps) parents (column_of (keys_of table d n) places needed) new) through
            built))));
      }
        where
          zero_more : 0 + d ≡ d
          zero_more = omega arith

          pushed : counts_of (p.columns ++ column_of (keys_of table d n) places needed ∷ []) ≡ counts_of p.columns ++ needed ∷ []
          pushed = map-append (λ column. column.positions) p.columns (column_of (keys_of table d n) places needed ∷ [])

          deep_by : (b : Bool) → (properties (means.kind old)).unique ≡ b → not (properties (means.kind old)).unique ≡ true
              → n ≡ suc d + chain_length (drop (suc d) letters)
          deep_by true is g = apart (sym g ∙ ap not is)
          deep_by false is g = let k = chain_of_groups (means.kind old) rest is in let r = ap chain_length rest_is in
              omega (arith, through, k, r)

      built_here : (t : Takes means parents needed (rows_at (keys_of table d n) ps) places old new)
          → ((capabilities (means.kind new)).append ≡ true → (i : ℕ) → i < table.count
          → slice_index places i ≡ place (keys_of table d n).first i)
          → ((properties (means.kind new)).ordered ≡ false → means.width new
          ≡ Some (slot_width (greatest_below table.coords d table.count table.count)))
          → ((properties (means.kind new)).ordered ≡ false → (q : ℕ) → q < parents → InOrder means new q)
          → IsBuilt means table d n (slice_index ps) parents (column_of (keys_of table d n) places needed) new
      built_here t numbered width order_is =
          record { coord = refl; first = refl; keeps = t.keeps; stores = t.stored; numbered = numbered; width = width; order = order_is }

      -- one level more is packed
      pub packed_next : ArePacked means letters sizes table (suc d) (levels ++ new ∷ []) places needed
      packed_next = by_append (capabilities (means.kind old)).append refl
        where
          by_append : (b : Bool) → (capabilities (means.kind old)).append ≡ b
              → ArePacked means letters sizes table (suc d) (levels ++ new ∷ []) places needed
          by_append true is =
              let a = fills.appended is in
              let count : begun (keys_of table d n).first table.count ≡ needed = sym (need.appended is).0 in
              let both_true = joined p.ordered (properties (means.kind old)).ordered (follow_here.0 is)
              (appended_ordered (means.kind old) is) in
              let t = subst (λ m. Takes means parents m (rows_at (keys_of table d n) ps) places old new) count a.takes in
              let never = λ (o : (properties (means.kind new)).ordered ≡ false). sym (appended_ordered (means.kind old) is)
              ∙ sym (ap (λ k. (properties k).ordered) t.kind) ∙ o in
              packed p.ordered (follow_here.0 is ∙ sym both_true)
              (subst (λ m. Growing means table.coords table.count (suc d) n (not (properties (means.kind old)).unique) p.ordered
              (levels ++ new ∷ []) (p.columns ++ column_of (keys_of table d n) places m ∷ []) (slice_index places) m) count
              (grows.appended n size places old new next are a))
              t (built_here t (λ _. a.numbered) (λ o. apart (never o)) (λ o. apart (never o)))
          by_append false is =
              let f = fills.inserted is in
              let count : positions_for (means.kind old) (means.size old) parents most ≡ needed = sym (need.inserted is) in
              let t = subst (λ m. Takes means parents m (rows_at (keys_of table d n) ps) places old new) count f.takes in
              let before = λ (o : (properties (means.kind new)).ordered ≡ false). sym (ap (λ k. (properties k).ordered) t.kind) ∙ o in
              packed (p.ordered && (properties (means.kind old)).ordered) refl
              (grows.inserted n size needed places old new (p.ordered && (properties (means.kind old)).ordered) next (groups_none is)
              (inserted_unique (means.kind old) is).0 (both p.ordered (properties (means.kind old)).ordered) are t)
              t
              (built_here t (λ yes. apart (sym yes ∙ ap (λ k. (capabilities k).append) t.kind ∙ is))
              (λ o. let sparse = unordered_stored (means.kind old) (before o) in
              f.width sparse ∙ ap (λ m. Some (slot_width m)) (greatest_is is sparse))
              (λ o. f.order (before o)))

follows : (ordered : Bool) (letters : List Letter) → InsertedBelowUnordered letters
    → (ordered ≡ false → (k : ℕ) (d : Letter) → k < length letters → (capabilities (get_or letters k d)).insert ≡ true)
    → MayFollow ordered letters
follows ordered [] pairs none = tt
follows ordered (letter ∷ letters) pairs none = (
  first ordered refl,
  follows (ordered && (properties letter).ordered) letters
      (λ i j d less within. pairs (suc i) (suc j) d (omega (arith, less)) (omega (arith, within))) (λ is k d within. later ordered
      (properties letter).ordered refl refl is k d within),
)
  where
    first : (b : Bool) → ordered ≡ b → (capabilities letter).append ≡ true → ordered ≡ true
    first true is a = is
    first false is a = absurd (never_inserted letter a (none is 0 letter (omega arith)))

    later : (b c : Bool) → ordered ≡ b → (properties letter).ordered ≡ c → (ordered && (properties letter).ordered) ≡ false
        → (k : ℕ) (d : Letter) → k < length letters → (capabilities (get_or letters k d)).insert ≡ true
    later false c is po h k d within = none is (suc k) d (omega (arith, within))
    later true false is po h k d within = pairs 0 (suc k) d (omega arith) (omega (arith, within)) po
    later true true is po h k d within = apart (sym (joined ordered (properties letter).ordered is po) ∙ h)

pub all_same : (n i x : ℕ) → i < n → slice_index (replicate n x) i ≡ x
all_same zero i x h = absurd (omega (arith, h))
all_same (suc n) zero x h = refl
all_same (suc n) (suc i) x h = all_same n i x (omega (arith, h))

zeros : (n i : ℕ) → slice_index (replicate n 0) i ≡ 0
zeros zero i = refl
zeros (suc n) zero = refl
zeros (suc n) (suc i) = zeros n i

-- before the first level
pub none_packed : {L : Type 0} (means : Meaning L) (laws : Laws means) (format : List FormatLevel) (sizes : List ℕ) (table : Table)
    (levels : List L) (ps : List ℕ) → IsFormat format → levels ≡ [] → ps ≡ replicate table.count 0
    → ArePacked means (letters_of format) sizes table 0 levels ps 1
none_packed {L} means laws format sizes table levels ps is none places =
    subst (λ ls. ArePacked means (letters_of format) sizes table 0 ls ps 1) (sym none) begun_here
  where
    same : (λ (i : ℕ). 0) ≡ slice_index ps
    same = fun_ext (λ i. sym (ap (λ qs. slice_index qs i) places ∙ zeros table.count i))

    begun_here : ArePacked means (letters_of format) sizes table 0 [] ps 1
    begun_here = record {
      columns = [];
      above = 0;
      groups = false;
      ordered = true;
      growing = subst (λ f. Growing means table.coords table.count 0 0 false true [] [] f 1) same
          ((levels_grow means laws).none table.coords table.count);
      chained = is.chained;
      deep = λ e. apart (sym e);
      follow = follows true (letters_of format) is.inserted (λ e. apart e);
      many = ap length places ∙ length-replicate table.count 0;
      kinds = refl;
      ranges = refl;
      counts = refl;
      few = All-nil (λ count. count ≤ greatest_position_count);
      built = tt;
    }

module _ {L : Type 0} (means : Meaning L) (laws : Laws means) (format : List FormatLevel) (ranges : List ℕ) (table : Table)
    (up : Increase table.coords (length format) table.count) (below : AreBelow table (in_level_order format ranges))
    (level : ℕ) (d : FormatLevel) (within : level < length format) (levels : List L) (ps : List ℕ) (parents : ℕ)
    (p : ArePacked means (letters_of format) (in_level_order format ranges) table level levels ps parents)
    (old : L) (n : ℕ) (is_new : IsNew means (get_or format level d).letter (slice_index ranges (get_or format level d).mode) old)
    (n_is : n ≡ level + chain_length (drop level (letters_of format))) where
  left_here : drop level (letters_of format) ≡ means.kind old ∷ drop (suc level) (letters_of format)
  left_here = letter_left format level d within ∙ ap (λ k. k ∷ drop (suc level) (letters_of format)) (sym is_new.kind)

  through_here : n ≡ level + chain_length (means.kind old ∷ drop (suc level) (letters_of format))
  through_here = n_is ∙ ap (λ ls. level + chain_length ls) left_here

  below_here : (i : ℕ) → i < table.count → table.coords level i < slice_index ranges (get_or format level d).mode
  below_here i h =
      let long : length (in_level_order format ranges) ≡ length format = length-map format (λ l. slice_index ranges l.mode) in
      subst (λ s. table.coords level i < s) (get_or-map (λ l. slice_index ranges l.mode) format level d 0 within)
      (below level i (omega (arith, long, within)) h)

  new_here : IsNew means (means.kind old) (slice_index ranges (get_or format level d).mode) old
  new_here = subst (λ k. IsNew means k (slice_index ranges (get_or format level d).mode) old) (sym is_new.kind) is_new

  pub fill_may : MayFill means parents (rows_at (keys_of table level n) ps) old
  fill_may = may_fill means laws (letters_of format) (in_level_order format ranges) (length format) table up level n levels ps parents
      (slice_index ranges (get_or format level d).mode) old (drop (suc level) (letters_of format)) p left_here through_here below_here
      new_here

  pub fill_next : (places : List ℕ) (new : L) (count : ℕ) (pushed : List L) → pushed ≡ levels ++ new ∷ []
      → (needed : ℕ) × (most : ℕ) × AreNeeded (means.kind old) (means.size old) parents (rows_at (keys_of table level n) ps) needed most
      × FillAnswer means parents (rows_at (keys_of table level n) ps) needed most ps places old new (Ok count)
      → ArePacked means (letters_of format) (in_level_order format ranges) table (level + 1) pushed places count
      × (count ≤ greatest_position_count)
  fill_next places new count pushed are e =
      let a = e.3 in
      let few = a.0 in let same = a.1 in
      let packed = packed_next means laws (letters_of format) (in_level_order format ranges) (length format) table up level n levels ps
      parents (slice_index ranges (get_or format level d).mode) old (drop (suc level) (letters_of format)) p left_here through_here
      below_here
      e.1 e.0 is_new.size_is e.2 places new a.0 a.2 (coordinate_left format ranges level d within) refl in (
        subst (λ m. ArePacked means (letters_of format) (in_level_order format ranges) table m pushed places count) (sym (add-one level))
            (subst (λ ls. ArePacked means (letters_of format) (in_level_order format ranges) table (suc level) ls places count) (sym are)
            (subst (λ m. ArePacked means (letters_of format) (in_level_order format ranges) table (suc level) (levels ++ new ∷ []) places m)
            (sym same) packed)),
        omega (arith, few, same),
      )

  -- the level is the first that would have more positions than may be
  pub refused_here : (places : List ℕ) (new : L) (count : ℕ)
      → (needed : ℕ) × (most : ℕ) × AreNeeded (means.kind old) (means.size old) parents (rows_at (keys_of table level n) ps) needed most
      × FillAnswer means parents (rows_at (keys_of table level n) ps) needed most ps places old new (Err (TooMany count))
      → IsFirstAbove (positions_of format ranges table) (level + 1) count
  refused_here places new count e =
      let passes = e.3.0 in let told = e.3.1 in
      let depth = p.growing.depth in
      let long = counts_long in
      let here = left_from means laws (letters_of format) (in_level_order format ranges) (length format) table up level n levels ps parents
      (slice_index ranges (get_or format level d).mode) old (drop (suc level) (letters_of format)) p left_here through_here below_here
      e.1 e.0 is_new.size_is e.2 (coordinate_left format ranges level d within) refl in
      record {
        above = counts_of p.columns;
        below = positions_from table (suc level) e.0 (drop (suc level) (letters_of format))
            (drop (suc level) (in_level_order format ranges));
        all = subst (λ m. positions_of format ranges table
            ≡ counts_of p.columns ++ (m ∷ positions_from table (suc level) e.0 (drop (suc level) (letters_of format))
            (drop (suc level) (in_level_order format ranges)))) (sym told)
            (sym p.counts ∙ ap (λ ns. counts_of p.columns ++ ns) here);
        at = omega (arith, depth, long);
        few = p.few;
        passes = omega (arith, passes, told);
      }
    where
      counts_long : length (counts_of p.columns) ≡ length levels
      counts_long = length-map p.columns (λ column. column.positions)
          ∙ as_many_built means table (letters_of format) levels p.columns 0 (λ i. 0) 1 p.built
