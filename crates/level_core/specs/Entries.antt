-- The entries below a parent of a level: its coordinates, each with the span of positions that are its children.
use Rattle.std.specs.Prelude.{◌≡◌, ◌≢◌, ◌⊎◌, ℕ, ◌+◌, ◌-◌, ◌%◌, ◌≤◌, ◌<◌}
use Rattle.std.specs.Prelude.{nat_le, nat_lt, ◌==◌, ◌&&◌, if◌then◌else◌, List, [], ◌∷◌}
use Rattle.std.specs.Prelude.{Option, Some, None}
pub use Rattle.level_core.specs.declared.span.Span.{Span}
pub use Rattle.level_core.specs.declared.span.Entry.{Entry}

abbrev pub span : ℕ → ℕ → Span
span lo hi = record { lo = lo; hi = hi }

-- one position
abbrev pub one : ℕ → Span
one p = span p (p + 1)

-- the position is in the span
abbrev pub IsIn : ℕ → Span → Type 0
IsIn pos s = (s.lo ≤ pos) × (pos < s.hi)

-- the child spans stand in order from pos to hi, none empty and none over another
abbrev pub Placed : ℕ → ℕ → List Entry → Type 0
Placed pos hi [] = pos ≤ hi
Placed pos hi (e ∷ es) = (pos ≤ e.child.lo) × (e.child.lo < e.child.hi) × Placed e.child.hi hi es

-- from pos to hi the child spans follow one another with nothing between them
abbrev pub Tiles : ℕ → ℕ → List Entry → Type 0
Tiles pos hi [] = pos ≡ hi
Tiles pos hi (e ∷ es) = (e.child.lo ≡ pos) × (pos < e.child.hi) × Tiles e.child.hi hi es

-- parents in a row have segments in a row: the first parent's starts at 0, and where one's ends the next one's starts
pub record AreInRow (allowed : Span → Type 0) (segment_of : Span → Span) : Type 0 where
  pub first : (p : Span) → allowed p → p.lo ≡ 0 → (segment_of p).lo ≡ 0
  pub next : (p q : Span) → allowed p → allowed q → p.hi ≡ q.lo → (segment_of p).hi ≡ (segment_of q).lo

-- so many parents share out so many positions: each position is below exactly one of them
pub record ShareOut (segment_of : Span → Span) (parents positions : ℕ) : Type 0 where
  pub within : (p : ℕ) → p < parents → (segment_of (one p)).hi ≤ positions
  pub found : (pos : ℕ) → pos < positions → (p : ℕ) × (p < parents) × IsIn pos (segment_of (one p))
  pub alone : (pos p q : ℕ) → p < parents → q < parents → IsIn pos (segment_of (one p)) → IsIn pos (segment_of (one q)) → p ≡ q

-- the coordinates rise, from at least `least` on
abbrev pub Rising : ℕ → List Entry → Type 0
Rising least [] = Unit {0}
Rising least (e ∷ es) = (least ≤ e.coord) × Rising (e.coord + 1) es

-- each coordinate is below n
abbrev pub AllBelow : ℕ → List Entry → Type 0
AllBelow n [] = Unit {0}
AllBelow n (e ∷ es) = (e.coord < n) × AllBelow n es

-- no entry has the coordinate
abbrev pub Lacks : ℕ → List Entry → Type 0
Lacks x [] = Unit {0}
Lacks x (e ∷ es) = (e.coord ≢ x) × Lacks x es

-- no coordinate stands twice
abbrev pub Distinct : List Entry → Type 0
Distinct [] = Unit {0}
Distinct (e ∷ es) = Lacks e.coord es × Distinct es

-- each coordinate has one child position
abbrev pub Single : List Entry → Type 0
Single [] = Unit {0}
Single (e ∷ es) = (e.child.hi ≡ e.child.lo + 1) × Single es

-- the entry stands in the list, and its first position is pos
abbrev pub StandsAt : ℕ → Entry → List Entry → Type 0
StandsAt pos e [] = ⊥
StandsAt pos e (f ∷ es) = ((f.child.lo ≡ pos) × (f ≡ e)) ⊎ StandsAt pos e es

-- the coordinate that has the position as a child, if there is one
abbrev pub coord_at : List Entry → ℕ → Option ℕ
coord_at [] pos = None
coord_at (e ∷ es) pos = if nat_le e.child.lo pos && nat_lt pos e.child.hi then Some e.coord else coord_at es pos

-- the first child position of the coordinate, if it is there
abbrev pub position_of : List Entry → ℕ → Option ℕ
position_of [] x = None
position_of (e ∷ es) x = if e.coord == x then Some e.child.lo else position_of es x

-- the second list has the coordinate x with the child position slot, and else what the first has
pub record Gains (x slot : ℕ) (es fs : List Entry) : Type 0 where
  pub has : position_of fs x ≡ Some slot
  pub others : (y : ℕ) → y ≢ x → position_of fs y ≡ position_of es y

-- the position where a coordinate is sought after k steps: by one, from the one that it stands for on, going round the segment
abbrev pub sought_at : Span → ℕ → ℕ → ℕ
sought_at segment x k = segment.lo + (x + k) % (segment.hi - segment.lo)

-- the position is the first without a coordinate from where x is sought on
pub record FirstFree (segment : Span) (es : List Entry) (x slot : ℕ) : Type 0 where
  pub steps : ℕ
  pub few : steps < segment.hi - segment.lo
  pub at : slot ≡ sought_at segment x steps
  pub free : coord_at es slot ≡ None
  pub taken : (k : ℕ) → k < steps → coord_at es (sought_at segment x k) ≢ None
