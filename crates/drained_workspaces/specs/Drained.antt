-- A workspace drained into a sink: each row of its sums is added to the sink, with the same coordinates before its own.
use Rattle.std.specs.Prelude.{◌≡◌, ℕ, ◌<◌, true, false, List, [], ◌∷◌, ◌++◌, length, map}
use Rattle.numbers.specs.Arithmetic.{Arithmetic, Laws}
use Rattle.lists.specs.Each.{Each}
use Rattle.kernel_code.specs.declared.syntax.Arr.{Arr}
use Rattle.kernel_code.specs.declared.syntax.Arr.TheVariants.{Range}
use Rattle.kernel_code.specs.declared.syntax.LoopKind.TheVariants.{Drain}
use Rattle.kernel_code.specs.declared.syntax.Op.TheVariants.{Add}
use Rattle.kernel_code.specs.declared.syntax.KExpr.{KExpr, Num, Var, Bin}
use Rattle.kernel_code.specs.declared.syntax.KStmt.{KStmt, Set, While}
use Rattle.kernel_code.specs.Does.{Does}
use Rattle.kernel_code.specs.Keeps.{Leaves}
use Rattle.kernel_code.specs.Meaning.{Setting, State}
use Rattle.level_core.specs.Fragments.{RefusedWithin, turns_of}
use Rattle.tensor_map.specs.Entries.{Entry}
use Rattle.workspaces.specs.Workspaces.{AreSums}
use Rattle.result_targets.specs.Scratch.{is_of_some_list, IsThere}
use Rattle.result_targets.specs.Sinks.{Sink, VarsAre, TakesAll}
use Rattle.drained_workspaces.specs.Draining.{Draining, AreWords}

-- a row with coordinates before its own
abbrev pub prefixed_row : List ℕ → Entry → Entry
prefixed_row coords row = record { coords = coords ++ row.coords; value = row.value }

abbrev pub prefixed : List ℕ → List Entry → List Entry
prefixed coords rows = map (prefixed_row coords) rows

-- the second state has the arrays of the first, but those of a workspace, and that scratch lists which are there may have other rows
pub record SameBeside {W : Type 0} (inner : Sink W) (w : W) (s t : State) : Type 0 where
  pub same : (b : Arr) → is_of_some_list b ≡ false → inner.kept w b → t.arrays b ≡ s.arrays b
  pub there : (b : Arr) → is_of_some_list b ≡ true → IsThere (s.arrays b) → IsThere (t.arrays b)

-- what a sink holds stays then, while its variables do
abbrev pub StaysBeside : {K W : Type 0} → Sink K → K → Sink W → W → Type 0
StaysBeside outer k inner w =
    (a : Arithmetic) (ranges : List ℕ) (rows : List Entry) (s t : State) → ((y : ℕ) → outer.mine k y → t.vars y ≡ s.vars y)
    → SameBeside inner w s t → outer.holds k a ranges rows s → outer.holds k a ranges rows t

-- a sink and a workspace leave each other what they hold, and the sink leaves the ranges
pub record AreBeside {K W : Type 0} (outer : Sink K) (k : K) (inner : Sink W) (w : W) : Type 0 where
  pub stays : StaysBeside outer k inner w
  pub leaves : (b : Arr) → (inner.kept w b → ⊥) → outer.kept k b
  pub ranges : outer.kept k Range

-- so the arrays are that are left by both
abbrev pub KeptByBoth : {K W : Type 0} → Sink K → K → Sink W → W → Arr → Type 0
KeptByBoth outer k inner w b = outer.kept k b × inner.kept w b

-- a variable of a coordinate that is put before rows
pub record IsOfHead {K : Type 0} (outer : Sink K) (k : K) (free y : ℕ) : Type 0 where
  pub below : y < free
  pub other : outer.mine k y → ⊥

-- A workspace is to be drained of rows that have these sums: the sink holds some rows, and takes each of the sums in turn, with the numbers
-- of the head's variables before its coordinates.
pub record MayDrain {K W : Type 0} (outer : Sink K) (k : K) (inner : Sink W) (drains : Draining W) (w : W) (head : List ℕ) (free : ℕ)
    (c : Setting) (ranges : List ℕ) (rows sums before : List Entry) (coords : List ℕ) (s : State) : Type 0 where
  pub laws : Laws c.arithmetic
  pub suits : drains.suits w c.workspaces
  pub beside : AreBeside outer k inner w
  pub mine_below : (y : ℕ) → outer.mine k y → y < free
  pub head_is : Each (IsOfHead outer k free) head
  pub coords_are : VarsAre head coords s
  pub are_sums : AreSums c.arithmetic rows sums
  pub are_words : AreWords sums
  pub held : outer.holds k c.arithmetic ranges before s
  pub takes : TakesAll outer k ranges before (prefixed coords sums)

-- the sums were drained: the sink holds them behind those that it held, the workspace none, and all else below free stays, with a drain
-- turn for each at most
pub record HasDrained {K W : Type 0} (outer : Sink K) (k : K) (inner : Sink W) (w : W) (free : ℕ) (a : Arithmetic)
    (ranges inner_ranges : List ℕ) (sums before : List Entry) (coords : List ℕ) (s t : State) : Type 0 where
  pub leaves : Leaves (outer.mine k) (KeptByBoth outer k inner w) free (turns_of Drain (length sums)) s t
  pub held : outer.holds k a ranges (before ++ prefixed coords sums) t
  pub empty : inner.holds w a inner_ranges [] t

-- the code drains a workspace into a sink, or is refused a growth as the sink may be; the workspace is told these ranges, the sink those
abbrev pub DrainsInto : {K W : Type 0} → Sink K → K → Sink W → Draining W → W → List ℕ → ℕ → List KStmt → Type 0
DrainsInto outer k inner drains w head free code =
    (c : Setting) (ranges inner_ranges : List ℕ) (rows sums before : List Entry) (coords : List ℕ) (s : State)
    → MayDrain outer k inner drains w head free c ranges rows sums before coords s → inner.holds w c.arithmetic inner_ranges rows s
    → Does c code s (HasDrained outer k inner w free c.arithmetic ranges inner_ranges sums before coords s)
    (RefusedWithin (turns_of Drain (length sums)) s (outer.refused k ranges (before ++ prefixed coords sums)))

-- one turn: the next row, whose place stands in a variable, is taken and added
abbrev pub turn_code : ℕ → List KStmt → List KStmt → List KStmt
turn_code at take add = take ++ (add ++ Set at (Bin Add (Var at) (Num 1)) ∷ [])

abbrev pub drain_code : ℕ → KExpr → List KStmt → List KStmt → List KStmt → List KStmt
drain_code at test sort turn empty = sort ++ Set at (Num 0) ∷ While Drain test turn ∷ empty
