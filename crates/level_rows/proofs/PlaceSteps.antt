-- What the code does that inserts the rows of a workspace.
use Rattle.std.specs.Prelude.{◌≡◌, ℕ, zero, suc, ◌+◌, ◌-◌, ◌≤◌, ◌<◌, ◌^◌, Bool, true, false, if◌then◌else◌, List, [], ◌∷◌, ◌++◌, length}
use Rattle.std.specs.Prelude.{slice_set, slice_get, Option, Some, refl}
use Rattle.std.proofs.Common.{◌∙◌, sym, ap, subst, arith}
use Rattle.std.proofs.lemmas.Option.{slice_get-get_or, same_Some}
use Rattle.limits.specs.Limits.{greatest_position_count}
use Rattle.kernel_code.specs.Widths.{slot_width}
use Rattle.kernel_code.proofs.ArrayNames.{same_arr_self}
use Rattle.kernel_code.specs.Meaning.{Setting, State, value, word_of, set_var, set_array, one_turn, same_kind, length_of}
use Rattle.kernel_code.specs.Does.{Does, Never, Goes}
use Rattle.kernel_code.proofs.Does.{does_weaker, does_nothing, does_append, does_set, does_put, does_if_yes, does_if_no, does_while}
use Rattle.kernel_code.specs.Keeps.{Leaves, NoVariable, no_turns}
use Rattle.kernel_code.proofs.Keeps.{this_var, other_var, this_array, other_array, leaves_set, leaves_array}
use Rattle.kernel_code.specs.declared.syntax.Arr.{Arr}
use Rattle.kernel_code.specs.declared.syntax.Arr.TheVariants.{Sums, ListPositions}
use Rattle.kernel_code.specs.declared.syntax.LoopKind.{LoopKind}
use Rattle.kernel_code.specs.declared.syntax.LoopKind.TheVariants.{Drain, Probe}
use Rattle.kernel_code.specs.declared.syntax.Op.TheVariants.{Add, Less}
use Rattle.kernel_code.specs.declared.syntax.KExpr.{KExpr, Num, Var, At, Len, Bin}
use Rattle.kernel_code.specs.declared.syntax.KStmt.{KStmt, Set, If}
use Rattle.kernel_code.proofs.Words.{word_is, sum_is, less_yes, less_no}
use Rattle.level_core.specs.declared.letter.Letter.{Letter}
use Rattle.level_core.specs.Entries.{one}
use Rattle.level_core.specs.Kinds.{properties, positions_for}
use Rattle.level_core.specs.Fragments.{turns_of, probe_turns}
use Rattle.level_core.specs.Codes.{PrepareCode, InsertCode}
use Rattle.level_core.specs.Meaning.{Meaning}
use Rattle.level_core.specs.Laws.{Laws}
use Rattle.level_core.proofs.KindLaws.{unordered_stored}
use Rattle.level_rows.specs.Rows.{Rows, begun_below, MayInsertRows}
use Rattle.level_rows.specs.Draining.{Stays, TellsFirst, TellsCoord}
use Rattle.level_rows.specs.Placing.{insert_code, store_code, insert_row_code, insert_rows_code, times, insert_turns, probes_each}
use Rattle.level_rows.specs.Placing.{LeavesPlaced}
use Rattle.level_rows.specs.Placing.{PlacesRows}
use Rattle.level_rows.proofs.DrainSteps.{list_apart}
use Rattle.level_rows.proofs.InsertLoop.{Inserting, begins, allowed_next, may_insert_next, inserts_next, inserts}

-- a drain turn more than probes were sought for
abbrev turned_turns : ℕ → ℕ → LoopKind → ℕ
turned_turns width n k = turns_of Drain (n + 1) k + turns_of Probe (times n width) k

one_more : (b : Bool) (n x y z : ℕ) → y ≤ x + ((if b then n else 0) + z) → (if b then y + 1 else y) ≤ x + ((if b then n + 1 else 0) + z)
one_more true n x y z h = omega (arith, h)
one_more false n x y z h = omega (arith, h)

probe_more : (b : Bool) (n width x y z u : ℕ) → y ≤ x + (z + (if b then n else 0)) → u ≤ y + (if b then width else 0)
    → u ≤ x + (z + (if b then n + width else 0))
probe_more true n width x y z u h g = omega (arith, h, g)
probe_more false n width x y z u h g = omega (arith, h, g)

suc_more : (b : Bool) (n m x z u : ℕ) → n + 1 ≡ m → u ≤ x + ((if b then n + 1 else 0) + z) → u ≤ x + ((if b then m else 0) + z)
suc_more true n m x z u e h = omega (arith, h, e)
suc_more false n m x z u e h = omega (arith, h, e)

none_more : (b : Bool) (u width : ℕ) → u ≤ u + (if b then width else 0)
none_more b u width = omega arith

-- one row more, which was sought for in at most so many probe turns
row_turns : (width done : ℕ) (s0 s t : State) → ((k : LoopKind) → s.turns k ≤ s0.turns k + turned_turns width done k)
    → ((k : LoopKind) → t.turns k ≤ s.turns k + turns_of Probe width k)
    → (k : LoopKind) → t.turns k ≤ s0.turns k + insert_turns width (suc done) k
row_turns width done s0 s t before more k =
    let next : done + 1 ≡ suc done = omega arith in
    suc_more (same_kind Drain k) done (suc done) (s0.turns k) (turns_of Probe (times (suc done) width) k) (t.turns k) next
    (probe_more (same_kind Probe k) (times done width) width (s0.turns k) (s.turns k) (turns_of Drain (done + 1) k) (t.turns k) (before k)
    (more k))

-- a state while rows are placed
pub record Placed {L : Type 0} (means : Meaning L) (level g base : ℕ) (s0 : State) (most : LoopKind → ℕ) (done slot last : ℕ) (l : L)
    (ps : List ℕ) (s : State) : Type 0 where
  pub held : means.holds l 0 level s.arrays
  pub at : s.vars base ≡ Some done
  pub slot_is : s.vars (base + 1) ≡ Some slot
  pub parent : s.vars (base + 3) ≡ Some last
  pub places : s.arrays (ListPositions g) ≡ Some ps
  pub leaves : Leaves NoVariable (Stays level g) base most s0 s

-- a state before a turn, with so many rows left
pub record Placings {L : Type 0} (means : Meaning L) (old : L) (level g base parents most : ℕ) (rows : Rows) (s0 : State) (left : ℕ)
    (s : State) : Type 0 where
  pub done : ℕ
  pub slot : ℕ
  pub last : ℕ
  pub l : L
  pub ps : List ℕ
  pub rest : done + left ≡ rows.count
  pub inserting : Inserting means parents most done slot rows ps old l
  pub last_at : (i : ℕ) → done ≡ suc i → last ≡ rows.parent i
  pub placed : Placed means level g base s0 (insert_turns (probes_each (means.kind old) most) done) done slot last l ps s

-- after the test whether the row begins a position
pub record Slotted {L : Type 0} (means : Meaning L) (old : L) (level g base parents most : ℕ) (rows : Rows) (s0 : State) (done : ℕ)
    (ps : List ℕ) (s : State) : Type 0 where
  pub slot : ℕ
  pub l : L
  pub inserting : Inserting means parents most (done + 1) slot rows (slice_set ps done slot) old l
  pub placed : Placed means level g base s0 (insert_turns (probes_each (means.kind old) most) (suc done)) done slot
      (rows.parent done) l ps s

-- a variable that isn't read again is set
set_other : {L : Type 0} (means : Meaning L) (level g base : ℕ) (s0 : State) (most : LoopKind → ℕ) (done slot last : ℕ) (l : L)
    (ps : List ℕ) (s : State) (x v : ℕ) → base + 4 ≤ x
    → Placed means level g base s0 most done slot last l ps s → Placed means level g base s0 most done slot last l ps (set_var s x v)
set_other means level g base s0 most done slot last l ps s x v h d = record {
  held = d.held;
  at = other_var s x base v (λ e. omega (arith, h, e)) ∙ d.at;
  slot_is = other_var s x (base + 1) v (λ e. omega (arith, h, e)) ∙ d.slot_is;
  parent = other_var s x (base + 3) v (λ e. omega (arith, h, e)) ∙ d.parent;
  places = d.places;
  leaves = leaves_set NoVariable (Stays level g) base most s0 s x v (λ y l e. omega (arith, h, l, e)) d.leaves;
}

set_last : {L : Type 0} (means : Meaning L) (level g base : ℕ) (s0 : State) (most : LoopKind → ℕ) (done slot last : ℕ) (l : L) (ps : List ℕ)
    (s : State) (v : ℕ)
    → Placed means level g base s0 most done slot last l ps s → Placed means level g base s0 most done slot v l ps (set_var s (base + 3) v)
set_last means level g base s0 most done slot last l ps s v d = record {
  held = d.held;
  at = other_var s (base + 3) base v (λ e. omega (arith, e)) ∙ d.at;
  slot_is = other_var s (base + 3) (base + 1) v (λ e. omega (arith, e)) ∙ d.slot_is;
  parent = this_var s (base + 3) v;
  places = d.places;
  leaves = leaves_set NoVariable (Stays level g) base most s0 s (base + 3) v (λ y l e. omega (arith, l, e)) d.leaves;
}

module _ {L : Type 0} (means : Meaning L) (laws : Laws means) (c : Setting) (letter : Letter) (level base w g parents most : ℕ)
    (test coord : KExpr) (insert : List KStmt) (rows : Rows) (old : L) (s0 : State)
    (code : InsertCode means letter 0 level (Var (base + 4) ∷ coord ∷ []) (base + 6) insert) (kind : means.kind old ≡ letter)
    (may : MayInsertRows (means.size old) parents rows) (enough : (properties (means.kind old)).full ≡ false → (p : ℕ) → p < parents
    → begun_below rows p rows.count ≤ most)
    (tells : TellsFirst base level g test rows s0) (reads : TellsCoord base level g coord rows s0)
    (values : List ℕ) (values_are : s0.arrays (Sums w) ≡ Some values) (many : length values ≡ rows.count) (few : rows.count < 2 ^ 63) where
  -- a coordinate is sought in at most so many probe turns
  probes : (l : L) (done slot : ℕ) (ps : List ℕ) → Inserting means parents most done slot rows ps old l → (p : ℕ) → means.allowed l (one p)
      → (k : LoopKind)
      → probe_turns (means.kind l) (means.segment_of l (one p)) k ≤ turns_of Probe (probes_each (means.kind old) most) k
  probes l done slot ps f p ok k = by_order (properties (means.kind old)).ordered refl
    where
      kind_same : means.kind l ≡ means.kind old
      kind_same = f.kind

      slots : ℕ
      slots = (means.segment_of l (one p)).hi - (means.segment_of l (one p)).lo

      at_most : Bool → Bool → Type 0
      at_most now before =
          (let most_turns : LoopKind → ℕ = if now then no_turns else turns_of Probe slots in most_turns k)
          ≤ turns_of Probe (if before then 0 else slot_width most) k

      by_order : (b : Bool) → (properties (means.kind old)).ordered ≡ b
          → probe_turns (means.kind l) (means.segment_of l (one p)) k ≤ turns_of Probe (probes_each (means.kind old) most) k
      by_order b is =
          subst (λ j. at_most (properties j).ordered (properties (means.kind old)).ordered) (sym kind_same)
          (subst (λ o. at_most o o) (sym is) (by b is))
        where
          by : (b : Bool) → (properties (means.kind old)).ordered ≡ b → at_most b b
          by true is = omega arith
          by false is =
              let wide = laws.wide l (slot_width most) (one p) (f.width (unordered_stored (means.kind old) is)) ok in
              let same : slots ≡ slot_width most = omega (arith, wide) in
              subst (λ n. turns_of Probe n k ≤ turns_of Probe (slot_width most) k) (sym same) (omega arith)

  -- the row's coordinate is inserted
  does_insert : (done slot : ℕ) (l : L) (ps : List ℕ) (s : State) → done < rows.count → rows.first done ≡ true
      → Inserting means parents most done slot rows ps old l
      → Placed means level g base s0 (turned_turns (probes_each (means.kind old) most) done) done slot (rows.parent done) l ps s
      → s.vars (base + 4) ≡ Some (rows.parent done)
      → Does c (insert_code base insert) s (Slotted means old level g base parents most rows s0 done ps) Never
  does_insert done slot l ps s h is f d parent =
      does_append c insert (Set (base + 1) (Var (base + 6)) ∷ []) s _ _ _
      (code c l (f.kind ∙ kind) f.keeps (rows.parent done) (rows.coord done) ok
      (may_insert_next means laws parents most rows old may enough done slot ps l f (rows.parent done) (rows.coord done) (rows.first done) h
      refl refl refl is)
      s d.held (parent, (reads s done h d.at d.leaves.arrays, tt)))
      (λ t k.
      let v = k.1.slot in
      does_set c (base + 1) (Var (base + 6)) [] t v _ _ k.1.answer
      (does_nothing c (set_var t (base + 1) v) _ _ (record {
        slot = v;
        l = k.1.left;
        inserting = inserts_next means laws parents most rows old may enough done slot ps l f (rows.parent done) (rows.coord done) v
            (rows.first done) k.1.left h refl refl refl (λ _. k.1.inserted) (λ no_first. absurd (apart (sym is ∙ no_first)));
        placed = record {
          held = k.1.held;
          at = other_var t (base + 1) base v (λ e. omega (arith, e)) ∙ k.0.below base (omega arith) (λ m. m) ∙ d.at;
          slot_is = this_var t (base + 1) v;
          parent = other_var t (base + 1) (base + 3) v (λ e. omega (arith, e)) ∙ k.0.below (base + 3) (omega arith) (λ m. m) ∙ d.parent;
          places = k.0.arrays (ListPositions g) (λ of. of) ∙ d.places;
          leaves = record {
            below = λ y b m. other_var t (base + 1) y v (λ e. omega (arith, e, b)) ∙ k.0.below y (omega (arith, b)) m
                ∙ d.leaves.below y b m;
            arrays = λ x st. k.0.arrays x st.0 ∙ d.leaves.arrays x st;
            turns = row_turns (probes_each (means.kind old) most) done s0 s t d.leaves.turns
                (λ j. let a = k.0.turns j in let b = probes l done slot ps f (rows.parent done) ok j in omega (arith, a, b));
          };
        };
      })))
    where
      apart : true ≡ false → ⊥
      apart e = cc

      ok : means.allowed l (one (rows.parent done))
      ok = allowed_next means laws parents most rows old may enough done slot ps l f (rows.parent done) h refl

  -- the row has the position of the row before
  same_slot : (done slot : ℕ) (l : L) (ps : List ℕ) (s : State) → done < rows.count → rows.first done ≡ false
      → Inserting means parents most done slot rows ps old l
      → Placed means level g base s0 (turned_turns (probes_each (means.kind old) most) done) done slot (rows.parent done) l ps s
      → Slotted means old level g base parents most rows s0 done ps s
  same_slot done slot l ps s h is f d = record {
    slot = slot;
    l = l;
    inserting = inserts_next means laws parents most rows old may enough done slot ps l f (rows.parent done) (rows.coord done) slot
        (rows.first done) l h refl refl refl (λ first. absurd (apart (sym first ∙ is))) (λ _. (refl, refl));
    placed = record {
      held = d.held;
      at = d.at;
      slot_is = d.slot_is;
      parent = d.parent;
      places = d.places;
      leaves = record {
        below = d.leaves.below;
        arrays = d.leaves.arrays;
        turns = row_turns (probes_each (means.kind old) most) done s0 s s d.leaves.turns
            (λ k. none_more (same_kind Probe k) (s.turns k) (probes_each (means.kind old) most));
      };
    };
  }
    where
      apart : true ≡ false → ⊥
      apart e = cc

  -- the row's position is stored, and the next row is due
  does_store : (left done : ℕ) (ps : List ℕ) (s : State) → done + suc left ≡ rows.count → length ps ≡ rows.count
      → Slotted means old level g base parents most rows s0 done ps s
      → Does c (store_code base g) s (Placings means old level g base parents most rows s0 left) Never
  does_store left done ps s rest long a =
      does_put c (ListPositions g) (Var base) (Var (base + 1)) (Set base (Bin Add (Var base) (Num 1)) ∷ []) s done a.slot ps _ _ a.placed.at
      a.placed.slot_is refl a.placed.places (omega (arith, long, rest))
      (does_set c base (Bin Add (Var base) (Num 1)) [] s2 (done + 1) _ _
      (sum_is (Var base) (Num 1) done 1 s2 a.placed.at refl (omega (arith, rest, few)))
      (does_nothing c s3 _ _ (record {
        done = done + 1;
        slot = a.slot;
        last = rows.parent done;
        l = a.l;
        ps = slice_set ps done a.slot;
        rest = omega (arith, rest);
        inserting = a.inserting;
        last_at = λ i e. let same : i ≡ done = omega (arith, e) in ap rows.parent (sym same);
        placed =
            subst (λ n. Placed means level g base s0 (insert_turns (probes_each (means.kind old) most) n) (done + 1) a.slot
            (rows.parent done) a.l
            (slice_set ps done a.slot) s3) next (record {
              held = laws.held_there a.l 0 level s.arrays s3.arrays
                  (λ x of. other_array s (ListPositions g) x (slice_set ps done a.slot) (list_apart level g x of)) a.placed.held;
              at = this_var s2 base (done + 1);
              slot_is = other_var s2 base (base + 1) (done + 1) (λ e. omega (arith, e)) ∙ a.placed.slot_is;
              parent = other_var s2 base (base + 3) (done + 1) (λ e. omega (arith, e)) ∙ a.placed.parent;
              places = this_array s (ListPositions g) (ListPositions g) (slice_set ps done a.slot) (same_arr_self (ListPositions g));
              leaves = leaves_set NoVariable (Stays level g) base (insert_turns (probes_each (means.kind old) most) (suc done)) s0
                  s2 base (done + 1)
                  (λ y l e. omega (arith, l, e))
                  (leaves_array NoVariable (Stays level g) base (insert_turns (probes_each (means.kind old) most) (suc done)) s0 s
                  (ListPositions g)
                  (slice_set ps done a.slot) (λ b k. k.1) a.placed.leaves);
            });
      })))
    where
      s2 : State
      s2 = set_array s (ListPositions g) (slice_set ps done a.slot)

      s3 : State
      s3 = set_var s2 base (done + 1)

      next : suc done ≡ done + 1
      next = omega arith

  -- what follows the test whether the row begins a position
  does_slot : (done slot : ℕ) (l : L) (ps : List ℕ) (rest : List KStmt) (s : State) (Q : State → Type 0) → done < rows.count
      → Inserting means parents most done slot rows ps old l
      → Placed means level g base s0 (turned_turns (probes_each (means.kind old) most) done) done slot (rows.parent done) l ps s
      → s.vars (base + 4) ≡ Some (rows.parent done) → s.vars (base + 5) ≡ Some (word_of (rows.first done))
      → ((t : State) → Slotted means old level g base parents most rows s0 done ps t → Does c rest t Q Never)
      → Does c (If (Var (base + 5)) (insert_code base insert) [] ∷ rest) s Q Never
  does_slot done slot l ps rest s Q h f d parent first next = by_first (rows.first done) refl
    where
      by_first : (b : Bool) → rows.first done ≡ b → Does c (If (Var (base + 5)) (insert_code base insert) [] ∷ rest) s Q Never
      by_first true is = does_if_yes c (Var (base + 5)) (insert_code base insert) [] rest s 0
          (Slotted means old level g base parents most rows s0 done ps) Q _ (first ∙ ap (λ b. Some (word_of b)) is)
          (does_insert done slot l ps s h is f d parent) next
      by_first false is = does_if_no c (Var (base + 5)) (insert_code base insert) [] rest s
          (Slotted means old level g base parents most rows s0 done ps) Q _ (first ∙ ap (λ b. Some (word_of b)) is)
          (does_nothing c s _ _ (same_slot done slot l ps s h is f d)) next

  turned : (n done slot last : ℕ) (l : L) (ps : List ℕ) (s : State)
      → Placed means level g base s0 (insert_turns (probes_each (means.kind old) most) n) done slot last l ps s
      → Placed means level g base s0 (turned_turns (probes_each (means.kind old) most) n) done slot last l ps (one_turn s Drain)
  turned n done slot last l ps s d = record {
    held = d.held;
    at = d.at;
    slot_is = d.slot_is;
    parent = d.parent;
    places = d.places;
    leaves = record {
      below = d.leaves.below;
      arrays = d.leaves.arrays;
      turns = λ k. one_more (same_kind Drain k) n (s0.turns k) (s.turns k) (turns_of Probe (times n (probes_each (means.kind old) most)) k)
          (d.leaves.turns k);
    };
  }

  -- one row
  does_one : (left : ℕ) (s : State) → Placings means old level g base parents most rows s0 (suc left) s
      → Does c (insert_row_code base g test insert) (one_turn s Drain) (Placings means old level g base parents most rows s0 left) Never
  does_one left s d =
      let h : d.done < rows.count = let r = d.rest in omega (arith, r) in
      let s1 = one_turn s Drain in
      let long = d.inserting.many in
      let most1 : LoopKind → ℕ = turned_turns (probes_each (means.kind old) most) d.done in
      let d1 = turned d.done d.done d.slot d.last d.l d.ps s d.placed in
      let there : slice_get d.ps d.done ≡ Some (rows.parent d.done) = slice_get-get_or d.ps d.done 0 (omega (arith, h, long))
      ∙ ap Some (d.inserting.ahead d.done (omega arith) h) in
      let s2 = set_var s1 (base + 4) (rows.parent d.done) in
      let d2 = set_other means level g base s0 most1 d.done d.slot d.last d.l d.ps s1 (base + 4) (rows.parent d.done) (omega arith) d1 in
      let parent = this_var s1 (base + 4) (rows.parent d.done) in
      let s3 = set_var s2 (base + 5) (word_of (rows.first d.done)) in
      let d3 = set_other means level g base s0 most1 d.done d.slot d.last d.l d.ps s2 (base + 5) (word_of (rows.first d.done))
      (omega arith) d2 in
      let parent3 = other_var s2 (base + 5) (base + 4) (word_of (rows.first d.done)) (λ e. omega (arith, e)) ∙ parent in
      let s4 = set_var s3 (base + 3) (rows.parent d.done) in
      let d4 = set_last means level g base s0 most1 d.done d.slot d.last d.l d.ps s3 (rows.parent d.done) d3 in
      does_set c (base + 4) (At (ListPositions g) (Var base)) _ s1 (rows.parent d.done) _ _
      (word_is (ListPositions g) (Var base) d.ps d.done (rows.parent d.done) s1 d1.places d1.at there)
      (does_set c (base + 5) test _ s2 (word_of (rows.first d.done)) _ _
      (tells s2 d.done d.last h d2.at d2.parent parent d.last_at d2.leaves.arrays)
      (does_set c (base + 3) (Var (base + 4)) _ s3 (rows.parent d.done) _ _ parent3
      (does_slot d.done d.slot d.l d.ps _ s4 _ h d.inserting d4
      (other_var s3 (base + 3) (base + 4) (rows.parent d.done) (λ e. omega (arith, e))
      ∙ parent3) (other_var s3 (base + 3) (base + 5) (rows.parent d.done) (λ e. omega (arith, e))
      ∙ this_var s2 (base + 5) (word_of (rows.first d.done)))
      (λ t a. does_store left d.done d.ps t d.rest long a))))

  long_is : (s : State) → ((a : Arr) → Stays level g a → s.arrays a ≡ s0.arrays a) → value (Len (Sums w)) s ≡ Some (length values)
  long_is s k = ap length_of (k (Sums w) (λ of. of, refl) ∙ values_are)

  test_yes : (s : State) (left : ℕ) → Placings means old level g base parents most rows s0 (suc left) s
      → value (Bin Less (Var base) (Len (Sums w))) s ≡ Some 1
  test_yes s left d = let r = d.rest in less_yes (Var base) (Len (Sums w)) d.done (length values) s d.placed.at
      (long_is s d.placed.leaves.arrays) (omega (arith, r, many))

  test_no : (s : State) → Placings means old level g base parents most rows s0 0 s → value (Bin Less (Var base) (Len (Sums w))) s ≡ Some 0
  test_no s d = let r = d.rest in less_no (Var base) (Len (Sums w)) d.done (length values) s d.placed.at (long_is s d.placed.leaves.arrays)
      (omega (arith, r, many))

  ends : (n : ℕ) (s : State) → Placings means old level g base parents most rows s0 n s
      → value (Bin Less (Var base) (Len (Sums w))) s ≡ Some 0 → LeavesPlaced means old level g base parents most rows s0 s
  ends zero s d z =
      let r = d.rest in
      let all : d.done ≡ rows.count = omega (arith, r) in
      record {
        left = d.l;
        held = d.placed.held;
        positions = d.ps;
        places = d.placed.places;
        inserted = inserts means laws parents most rows old may enough d.slot d.ps d.l
            (subst (λ n. Inserting means parents most n d.slot rows d.ps old d.l) all d.inserting);
        width = d.inserting.width;
        leaves = subst (λ n. Leaves NoVariable (Stays level g) base (insert_turns (probes_each (means.kind old) most) n) s0 s) all
            d.placed.leaves;
      }
  ends (suc n) s d z = absurd (apart (sym (test_yes s n d) ∙ z))
    where
      never : (x y : ℕ) → x ≡ y + 1 → y ≡ 0 → x ≡ 0 → ⊥
      never x y e f z = omega (arith, e, f, z)

      apart : ◌≡◌ {A = Option ℕ} (Some 1) (Some 0) → ⊥
      apart e = never 1 0 (omega arith) (omega arith) (same_Some 1 0 e)

  -- all rows are inserted, and nothing is refused
  does_inserts : (l : L) (ps : List ℕ) → Inserting means parents most 0 0 rows ps old l → means.holds l 0 level s0.arrays
      → s0.arrays (ListPositions g) ≡ Some ps
      → Does c (insert_rows_code base w g test insert) s0 (LeavesPlaced means old level g base parents most rows s0) Never
  does_inserts l ps f held places =
      let s1 = set_var s0 base 0 in
      let s2 = set_var s1 (base + 1) 0 in
      let s3 = set_var s2 (base + 3) 0 in
      does_set c base (Num 0) _ s0 0 _ _ refl
      (does_set c (base + 1) (Num 0) _ s1 0 _ _ refl
      (does_set c (base + 3) (Num 0) _ s2 0 _ _ refl
      (does_while c Drain (Bin Less (Var base) (Len (Sums w))) (insert_row_code base g test insert) []
      (Placings means old level g base parents most rows s0) (LeavesPlaced means old level g base parents most rows s0) _ _
      test_no ends (λ n s d. Goes 0 (test_yes s n d) (does_one n s d)) rows.count s3
      (record {
        done = 0;
        slot = 0;
        last = 0;
        l = l;
        ps = ps;
        rest = omega arith;
        inserting = f;
        last_at = λ i e. absurd (omega (arith, e));
        placed = record {
          held = held;
          at = other_var s2 (base + 3) base 0 (λ e. omega (arith, e)) ∙ other_var s1 (base + 1) base 0 (λ e. omega (arith, e))
              ∙ this_var s0 base 0;
          slot_is = other_var s2 (base + 3) (base + 1) 0 (λ e. omega (arith, e)) ∙ this_var s1 (base + 1) 0;
          parent = this_var s2 (base + 3) 0;
          places = places;
          leaves = record {
            below = λ y l m. other_var s2 (base + 3) y 0 (λ e. omega (arith, l, e)) ∙ other_var s1 (base + 1) y 0 (λ e. omega (arith, l, e))
                ∙ other_var s0 base y 0 (λ e. omega (arith, l, e));
            arrays = λ a k. refl;
            turns = λ k. omega arith;
          };
        };
      })
      (λ t a. does_nothing c t _ _ a))))

-- the parents are prepared, and then all rows are inserted
pub placed_all : {L : Type 0} (means : Meaning L) → Laws means
    → (letter : Letter) (level base w g : ℕ) (parents_is most_is test coord : KExpr) (prepare insert : List KStmt)
    → PrepareCode means letter 0 level (parents_is ∷ most_is ∷ []) (base + 6) prepare
    → InsertCode means letter 0 level (Var (base + 4) ∷ coord ∷ []) (base + 6) insert
    → PlacesRows means letter level base w g parents_is most_is test coord (prepare ++ insert_rows_code base w g test insert)
placed_all {L} means laws letter level base w g parents_is most_is test coord prepare insert prepares code c l kind keeps rows parents most
    can code_may may enough s held given =
    does_append c prepare (insert_rows_code base w g test insert) s _ _ _
    (does_weaker c prepare s _ _ _ _
    (prepares c l kind keeps parents most can code_may s held (given.parents_value, (given.most_value, tt))) (λ t k. k)
    (λ made a n z. ((λ k. let x = z.0 k in omega (arith, x)), z.1)))
    (λ t k. does_weaker c (insert_rows_code base w g test insert) t _ _ _ _
    (does_inserts means laws c letter level base w g parents most test coord insert rows l t code kind may enough
    (λ u i last inside at parent own before same. given.first u i last inside at parent own before (λ a st. same a st ∙ k.0.arrays a st.0))
    (λ u i inside at same. given.coord_value u i inside at (λ a st. same a st ∙ k.0.arrays a st.0))
    given.values (k.0.arrays (Sums w) (λ of. of) ∙ given.values_are) given.many given.few
    k.1.0.left given.positions
    (begins_all k.1.0.left k.1.1 k.1.0.prepared)
    k.1.0.held (k.0.arrays (ListPositions g) (λ of. of) ∙ given.places))
    (λ u d. record {
      left = d.left;
      held = d.held;
      positions = d.positions;
      places = d.places;
      inserted = d.inserted;
      width = d.width;
      leaves = record {
        below = λ y h m. d.leaves.below y h m ∙ k.0.below y (omega (arith, h)) m;
        arrays = λ a st. d.leaves.arrays a st ∙ k.0.arrays a st.0;
        turns = λ j. let x = d.leaves.turns j in let y = k.0.turns j in omega (arith, x, y);
      };
    })
    (λ made a n z. absurd z))
  where
    begins_all : (m : L) → positions_for (means.kind l) (means.size l) parents most ≤ greatest_position_count
        → means.prepared l parents most m → Inserting means parents most 0 0 rows given.positions l m
    begins_all m within prepared = begins means laws parents most rows l may enough given.positions m keeps can within prepared
        given.length_is given.parents_are
