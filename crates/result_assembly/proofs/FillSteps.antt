-- The loop that inserts the rows of a workspace into a hashed level, each at a position of its own, and stores their values.
use Rattle.std.specs.Prelude.{◌≡◌, ℕ, zero, suc, ◌+◌, ◌-◌, ◌≤◌, ◌<◌, ◌^◌, Bool, true, false, if◌then◌else◌, List}
use Rattle.std.specs.Prelude.{[], ◌∷◌, length, replicate, Some}
use Rattle.std.specs.Prelude.{slice_index, slice_set, refl}
use Rattle.std.proofs.Common.{◌∙◌, sym, ap, subst, arith}
use Rattle.std.proofs.lemmas.List.{get_or-set_same, get_or-set_other, length-replicate}
use Rattle.std.proofs.lemmas.Option.{slice_get-get_or, same_Some}
use Rattle.kernel_code.specs.Does.{Does, Never, Goes}
use Rattle.kernel_code.proofs.Does.{does_append, does_nothing, does_put, does_set, does_while}
use Rattle.kernel_code.specs.Keeps.{Leaves, NoVariable, no_turns}
use Rattle.kernel_code.proofs.ArrayNames.{same_arr_self}
use Rattle.kernel_code.proofs.Keeps.{this_var, other_var, this_array, other_array}
use Rattle.kernel_code.proofs.Words.{word_is, sum_is, less_yes, less_no}
use Rattle.kernel_code.specs.Meaning.{Setting, State, value, length_of, set_var, set_array, one_turn}
use Rattle.kernel_code.specs.Widths.{slot_width}
use Rattle.kernel_code.specs.declared.syntax.Arr.{Arr}
use Rattle.kernel_code.specs.declared.syntax.Arr.TheVariants.{Values, Key, Sums, ListPositions}
use Rattle.kernel_code.specs.declared.syntax.KExpr.{KExpr, Num, Var, At, Len, Bin}
use Rattle.kernel_code.specs.declared.syntax.KStmt.{KStmt, Set, Put}
use Rattle.kernel_code.specs.declared.syntax.LoopKind.{LoopKind}
use Rattle.kernel_code.specs.declared.syntax.LoopKind.TheVariants.{Drain, Probe}
use Rattle.kernel_code.specs.declared.syntax.Op.TheVariants.{Add, Less}
use Rattle.level_core.specs.declared.letter.Letter.{Letter}
use Rattle.level_core.specs.Codes.{InsertCode, HoldsInserted}
use Rattle.level_core.specs.Entries.{one}
use Rattle.level_core.specs.Fragments.{IsOutside, probe_turns, turns_of}
use Rattle.level_core.specs.Kinds.{properties, positions_for, MayInsert}
use Rattle.level_rows.specs.Rows.{Rows, begun_below, MayInsertRows}
use Rattle.level_rows.specs.Draining.{Stays}
use Rattle.level_rows.specs.Placing.{insert_turns}
use Rattle.level_rows.specs.Taken.{InsertsRows}
use Rattle.level_rows.proofs.InsertLoop.{Inserting, allowed_next, may_insert_next, inserts_next, inserts}
use Rattle.tensor_storage.specs.declared.level.StorageLevel.{StorageLevel}
use Rattle.tensor_storage.specs.Laws.{laws}
use Rattle.tensor_storage.specs.Levels.{meaning}
use Rattle.result_assembly.specs.Drained.{HasWords, IsCounted}
use Rattle.result_assembly.specs.Filling.{fill_row_code, fill_rows_code}
use Rattle.result_assembly.specs.Stored.{IsNoValue}
use Rattle.result_assembly.proofs.Holding.{level_beside}
use Rattle.result_assembly.proofs.Stepwise.{values_upto, upto_long, upto_same, row_made, no_row}

-- arrays that the loop leaves
abbrev pub IsLeftAlone : ℕ → ℕ → Arr → Type 0
IsLeftAlone level g a = Stays level g a × IsNoValue a

-- a state in which the first rows are inserted and their values stored, and so many rows are left
pub record Filling (old : StorageLevel) (level g base parents most nothing total : ℕ) (rows : Rows) (value_of : ℕ → ℕ) (s0 : State)
    (left : ℕ) (s : State) : Type 0 where
  pub done : ℕ
  pub slot : ℕ
  pub l : StorageLevel
  pub ps : List ℕ
  pub rest : done + left ≡ rows.count
  pub inserting : Inserting meaning parents most done slot rows ps old l
  pub held : meaning.holds l 0 level s.arrays
  pub at : s.vars base ≡ Some done
  pub places : s.arrays (ListPositions g) ≡ Some ps
  pub values_held : s.arrays (Values 0) ≡ Some (values_upto (slice_index ps) value_of (replicate total nothing) done)
  pub leaves : Leaves NoVariable (IsLeftAlone level g) base (insert_turns (slot_width most) done) s0 s

-- all rows are inserted and all values stored
pub record LeavesRows (old : StorageLevel) (level g base parents most nothing total : ℕ) (rows : Rows) (value_of : ℕ → ℕ) (s0 s : State)
    : Type 0 where
  pub left : StorageLevel
  pub held : meaning.holds left 0 level s.arrays
  pub positions : List ℕ
  pub places : s.arrays (ListPositions g) ≡ Some positions
  pub inserted : InsertsRows meaning parents most rows positions old left
  pub width : meaning.width left ≡ Some (slot_width most)
  pub values_held : s.arrays (Values 0) ≡ Some (values_upto (slice_index positions) value_of (replicate total nothing) rows.count)
  pub leaves : Leaves NoVariable (IsLeftAlone level g) base (insert_turns (slot_width most) rows.count) s0 s

apart : true ≡ false → ⊥
apart e = cc

module _ (c : Setting) (level d base w g parents most nothing total : ℕ) (insert : List KStmt) (rows : Rows) (value_of : ℕ → ℕ)
    (old : StorageLevel) (s0 : State)
    (letter : Letter) (slotted : IsCounted letter) (code : InsertCode meaning letter 0 level
    (Var (base + 4) ∷ At (Key w d) (Var base) ∷ []) (base + 6) insert)
    (kind : meaning.kind old ≡ letter) (may : MayInsertRows (meaning.size old) parents rows)
    (enough : (properties (meaning.kind old)).full ≡ false → (p : ℕ) → p < parents → begun_below rows p rows.count ≤ most)
    (first : (i : ℕ) → i < rows.count → rows.first i ≡ true) (key : HasWords (Key w d) rows.count rows.coord s0.arrays)
    (sums : HasWords (Sums w) rows.count value_of s0.arrays) (few : rows.count < 2 ^ 63)
    (total_is : total ≡ positions_for (meaning.kind old) (meaning.size old) parents most) where
  abbrev test : KExpr
  test = Bin Less (Var base) (Len (Sums w))

  abbrev At_row : ℕ → State → Type 0
  At_row n s = Filling old level g base parents most nothing total rows value_of s0 n s

  not_full : (properties (meaning.kind old)).full ≡ false
  not_full = ap (λ k. (properties k).full) kind ∙ slotted.stored

  rows_told : (n : ℕ) (t : State) → At_row n t → value (Len (Sums w)) t ≡ Some rows.count
  rows_told n t i = ap length_of (i.leaves.arrays (Sums w) ((λ of. of, refl), refl) ∙ sums.held) ∙ ap Some sums.many

  goes_on : (n : ℕ) (t : State) → At_row (suc n) t → value test t ≡ Some 1
  goes_on n t i =
      let rest = i.rest in
      less_yes (Var base) (Len (Sums w)) i.done rows.count t i.at (rows_told (suc n) t i) (omega (arith, rest))

  stops : (t : State) → At_row 0 t → value test t ≡ Some 0
  stops t i =
      let rest = i.rest in
      less_no (Var base) (Len (Sums w)) i.done rows.count t i.at (rows_told 0 t i) (omega (arith, rest))

  ends : (n : ℕ) (t : State) → At_row n t → value test t ≡ Some 0
      → LeavesRows old level g base parents most nothing total rows value_of s0 t
  ends zero t i no_more =
      let rest = i.rest in
      let all : i.done ≡ rows.count = omega (arith, rest) in
      record {
        left = i.l;
        held = i.held;
        positions = i.ps;
        places = i.places;
        inserted = inserts meaning laws parents most rows old may enough i.slot i.ps i.l
            (subst (λ n. Inserting meaning parents most n i.slot rows i.ps old i.l) all i.inserting);
        width = i.inserting.width not_full;
        values_held = i.values_held
            ∙ ap (λ n. Some (values_upto (slice_index i.ps) value_of (replicate total nothing) n)) all;
        leaves = subst (λ n. Leaves NoVariable (IsLeftAlone level g) base (insert_turns (slot_width most) n) s0 t) all i.leaves;
      }
  ends (suc n) t i no_more =
      let one_none : 1 ≡ 0 = same_Some 1 0 (sym (goes_on n t i) ∙ no_more) in absurd (omega (arith, one_none))

  module _ (n : ℕ) (t : State) (i : Filling old level g base parents most nothing total rows value_of s0 (suc n) t) where
    inside : i.done < rows.count
    inside = let rest = i.rest in omega (arith, rest)

    abbrev parent : ℕ
    parent = rows.parent i.done

    abbrev coord : ℕ
    coord = rows.coord i.done

    abbrev turned : State
    turned = one_turn t Drain

    abbrev asked : State
    asked = set_var turned (base + 4) parent

    parent_told : value (At (ListPositions g) (Var base)) turned ≡ Some parent
    parent_told =
        let less = inside in
        let many = i.inserting.many in
        word_is (ListPositions g) (Var base) i.ps i.done parent turned i.places i.at
        (slice_get-get_or i.ps i.done 0 (omega (arith, less, many)) ∙ ap Some (i.inserting.ahead i.done (omega arith) inside))

    at_asked : asked.vars base ≡ Some i.done
    at_asked = other_var turned (base + 4) base parent (λ e. omega (arith, e)) ∙ i.at

    coord_told : value (At (Key w d) (Var base)) asked ≡ Some coord
    coord_told =
        let less = inside in
        let many = key.many in
        word_is (Key w d) (Var base) key.words i.done coord asked (i.leaves.arrays (Key w d) ((λ of. of, refl), refl) ∙ key.held) at_asked
        (slice_get-get_or key.words i.done 0 (omega (arith, less, many)) ∙ ap Some (key.are i.done inside))

    allowed : meaning.allowed i.l (one parent)
    allowed = allowed_next meaning laws parents most rows old may enough i.done i.slot i.ps i.l i.inserting parent inside refl

    may_here : MayInsert (meaning.kind i.l) (meaning.size i.l) (meaning.segment_of i.l (one parent)) (meaning.entries i.l (one parent))
        coord
    may_here =
        may_insert_next meaning laws parents most rows old may enough i.done i.slot i.ps i.l i.inserting parent coord true inside refl refl
        (sym (first i.done inside)) refl

    wide : (p : ℕ) → p < parents → (meaning.segment_of i.l (one p)).hi ≡ (meaning.segment_of i.l (one p)).lo + slot_width most
    wide p h =
        laws.wide i.l (slot_width most) (one p) (i.inserting.width not_full) (laws.parents i.l parents p i.inserting.has_parents h)

    -- the positions below each parent are among all
    ends_by : (gap p : ℕ) → p + suc gap ≡ parents → (meaning.segment_of i.l (one p)).hi ≤ total
    ends_by zero p last =
        let end = i.inserting.ends p (omega (arith, last)) in omega (arith, end, total_is)
    ends_by (suc gap) p last =
        let next = (laws.in_row i.l).next (one p) (one (p + 1)) (laws.parents i.l parents p i.inserting.has_parents (omega (arith, last)))
        (laws.parents i.l parents (p + 1) i.inserting.has_parents (omega (arith, last))) refl in
        let again = ends_by gap (p + 1) (omega (arith, last)) in
        let grows = wide (p + 1) (omega (arith, last)) in
        omega (arith, next, again, grows)

    probes : (k : LoopKind) → probe_turns (meaning.kind i.l) (meaning.segment_of i.l (one parent)) k ≤ turns_of Probe (slot_width most) k
    probes k =
        let w_here = wide parent (may.within i.done inside) in
        let same : (meaning.segment_of i.l (one parent)).hi - (meaning.segment_of i.l (one parent)).lo ≡ slot_width most =
        omega (arith, w_here) in
        subst (λ m. probe_turns (meaning.kind i.l) (meaning.segment_of i.l (one parent)) k ≤ turns_of Probe m k) same
        (at_most ((meaning.segment_of i.l (one parent)).hi - (meaning.segment_of i.l (one parent)).lo)
        (properties (meaning.kind i.l)).ordered)
      where
        at_most : (slots : ℕ) (ordered : Bool) → (if ordered then no_turns else turns_of Probe slots) k ≤ turns_of Probe slots k
        at_most slots true = omega arith
        at_most slots false = omega arith

    module _ (u : State) (kept : Leaves NoVariable (IsOutside 0 level) (base + 6)
        (probe_turns (meaning.kind i.l) (meaning.segment_of i.l (one parent))) asked u)
        (h : HoldsInserted meaning i.l parent coord 0 level (base + 6) u) where
      slot_inside : h.slot < total
      slot_inside =
          let below = (laws.inserts i.l h.left parent coord h.slot allowed may_here h.inserted).inside.1 in
          let less = may.within i.done inside in
          let end = ends_by (parents - suc parent) parent (omega (arith, less)) in
          omega (arith, below, end)

      abbrev stored : List ℕ
      stored = values_upto (slice_index i.ps) value_of (replicate total nothing) i.done

      abbrev places_then : List ℕ
      places_then = slice_set i.ps i.done h.slot

      abbrev placed : State
      placed = set_array u (ListPositions g) (slice_set i.ps i.done h.slot)

      abbrev put : State
      put = set_array placed (Values 0) (slice_set stored h.slot (value_of i.done))

      abbrev next : State
      next = set_var put base (i.done + 1)

      at_u : u.vars base ≡ Some i.done
      at_u = kept.below base (omega arith) (λ no. no) ∙ at_asked

      stored_there : placed.arrays (Values 0) ≡ Some stored
      stored_there =
          other_array u (ListPositions g) (Values 0) (slice_set i.ps i.done h.slot) refl ∙ kept.arrays (Values 0) (λ of. of) ∙ i.values_held

      value_told : value (At (Sums w) (Var base)) placed ≡ Some (value_of i.done)
      value_told =
          let less = inside in
          let long = sums.many in
          word_is (Sums w) (Var base) sums.words i.done (value_of i.done) placed
          (other_array u (ListPositions g) (Sums w) (slice_set i.ps i.done h.slot) refl ∙ kept.arrays (Sums w) (λ of. of)
          ∙ i.leaves.arrays (Sums w) ((λ of. of, refl), refl) ∙ sums.held) at_u
          (slice_get-get_or sums.words i.done 0 (omega (arith, less, long)) ∙ ap Some (sums.are i.done inside))

      room : h.slot < length stored
      room =
          let long = upto_long (slice_index i.ps) value_of (replicate total nothing) i.done in
          let all = length-replicate total nothing in
          let less = slot_inside in
          omega (arith, long, all, less)

      here : slice_index places_then i.done ≡ h.slot
      here = let many = i.inserting.many in let less = inside in get_or-set_same i.ps i.done h.slot 0 (omega (arith, many, less))

      -- the values stored so far are those of the rows so far
      stored_then : slice_set stored h.slot (value_of i.done)
          ≡ values_upto (slice_index places_then) value_of (replicate total nothing) (i.done + 1)
      stored_then =
          let same = upto_same (slice_index i.ps) (slice_index places_then) value_of (replicate total nothing) i.done
          (λ j less. sym (get_or-set_other i.ps i.done j h.slot 0 (λ e. omega (arith, e, less)))) in
          let more : suc i.done ≡ i.done + 1 = omega arith in
          ap (λ xs. slice_set xs h.slot (value_of i.done)) same
          ∙ ap (λ p. slice_set (values_upto (slice_index places_then) value_of (replicate total nothing) i.done) p (value_of i.done))
          (sym here)
          ∙ ap (values_upto (slice_index places_then) value_of (replicate total nothing)) more

      made : (k : LoopKind) → next.turns k ≤ s0.turns k + insert_turns (slot_width most) (i.done + 1) k
      made k =
          let more : suc i.done ≡ i.done + 1 = omega arith in
          let probed = kept.turns k in
          let few_probes = probes k in
          subst (λ m. next.turns k ≤ s0.turns k + insert_turns (slot_width most) m k) more
          (row_made (s0.turns k) (t.turns k) (next.turns k) i.done (slot_width most) k (i.leaves.turns k)
          (omega (arith, probed, few_probes)))

      level_held : meaning.holds h.left 0 level next.arrays
      level_held =
          laws.held_there h.left 0 level u.arrays next.arrays
          (λ x of. other_array placed (Values 0) x (slice_set stored h.slot (value_of i.done)) (level_beside x level g of).1
          ∙ other_array u (ListPositions g) x (slice_set i.ps i.done h.slot) (level_beside x level g of).0) h.held

      one_more : Filling old level g base parents most nothing total rows value_of s0 n next
      one_more = record {
        done = i.done + 1;
        slot = h.slot;
        l = h.left;
        ps = places_then;
        rest = (let rest = i.rest in omega (arith, rest));
        inserting = inserts_next meaning laws parents most rows old may enough i.done i.slot i.ps i.l i.inserting parent coord h.slot
            true h.left inside refl refl (sym (first i.done inside)) (λ yes. h.inserted) (λ no. absurd (apart no));
        held = level_held;
        at = this_var put base (i.done + 1);
        places = other_array placed (Values 0) (ListPositions g) (slice_set stored h.slot (value_of i.done)) refl
            ∙ this_array u (ListPositions g) (ListPositions g) places_then (same_arr_self (ListPositions g));
        values_held = this_array placed (Values 0) (Values 0) (slice_set stored h.slot (value_of i.done)) (same_arr_self (Values 0))
            ∙ ap Some stored_then;
        leaves = record {
          below = λ y less no. other_var put base y (i.done + 1) (λ e. absurd (omega (arith, e, less)))
              ∙ kept.below y (omega (arith, less)) no ∙ other_var turned (base + 4) y parent (λ e. absurd (omega (arith, e, less)))
              ∙ i.leaves.below y less no;
          arrays = λ a st. other_array placed (Values 0) a (slice_set stored h.slot (value_of i.done)) st.1
              ∙ other_array u (ListPositions g) a (slice_set i.ps i.done h.slot) st.0.1 ∙ kept.arrays a st.0.0 ∙ i.leaves.arrays a st;
          turns = made;
        };
      }

      stores_row : Does c (Put (ListPositions g) (Var base) (Var (base + 6)) ∷ Put (Values 0) (Var (base + 6)) (At (Sums w) (Var base))
          ∷ Set base (Bin Add (Var base) (Num 1)) ∷ []) u (At_row n) Never
      stores_row =
          let less = inside in
          let many = i.inserting.many in
          does_put c (ListPositions g) (Var base) (Var (base + 6)) _ u i.done h.slot i.ps (At_row n) Never at_u h.answer refl
          (kept.arrays (ListPositions g) (λ of. of) ∙ i.places) (omega (arith, less, many))
          (does_put c (Values 0) (Var (base + 6)) (At (Sums w) (Var base)) _ placed h.slot (value_of i.done) stored (At_row n) Never
          h.answer value_told refl stored_there room
          (does_set c base (Bin Add (Var base) (Num 1)) [] put (i.done + 1) (At_row n) Never
          (sum_is (Var base) (Num 1) i.done 1 put at_u refl (omega (arith, less, few)))
          (does_nothing c next (At_row n) Never one_more)))

    steps : Does c (fill_row_code base w g insert) turned (At_row n) Never
    steps =
        does_set c (base + 4) (At (ListPositions g) (Var base)) _ turned parent (At_row n) Never parent_told
        (does_append c insert _ asked _ (At_row n) Never
        (code c i.l (i.inserting.kind ∙ kind) i.inserting.keeps parent coord allowed may_here asked i.held
        (this_var turned (base + 4) parent, (coord_told, tt)))
        (λ u z. stores_row u z.0 z.1))

  -- all rows
  pub rows_filled : (l : StorageLevel) (ps : List ℕ) → Inserting meaning parents most 0 0 rows ps old l → meaning.holds l 0 level s0.arrays
      → s0.arrays (ListPositions g) ≡ Some ps → s0.arrays (Values 0) ≡ Some (replicate total nothing)
      → Does c (fill_rows_code base w g insert) s0 (LeavesRows old level g base parents most nothing total rows value_of s0) Never
  rows_filled l ps begins held places values_there =
      does_set c base (Num 0) _ s0 0 _ Never refl
      (does_while c Drain test (fill_row_code base w g insert) [] At_row
      (LeavesRows old level g base parents most nothing total rows value_of s0) _ Never stops ends
      (λ n t i. Goes 0 (goes_on n t i) (steps n t i)) rows.count (set_var s0 base 0)
      (record {
        done = 0;
        slot = 0;
        l = l;
        ps = ps;
        rest = omega arith;
        inserting = begins;
        held = held;
        at = this_var s0 base 0;
        places = places;
        values_held = values_there;
        leaves = record {
          below = λ y less no. other_var s0 base y 0 (λ e. absurd (omega (arith, e, less)));
          arrays = λ a st. refl;
          turns = λ k. no_row (s0.turns k) (slot_width most) k;
        };
      })
      (λ t l. does_nothing c t _ _ l))
