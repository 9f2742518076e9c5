-- The slots of a statement, told by its groups of terms alone, and of loops. As in Chou and others, 'Format Abstraction for Sparse Tensor
-- Algebra Compilers' (OOPSLA 2018): a level that has its coordinates in no order has to be gathered and sorted before a loop can go through
-- them beside others, and each position of the segment is looked at once.
use Rattle.std.specs.Prelude.{ℕ, ◌+◌, if◌then◌else◌, List, [], ◌∷◌, slice_get}
use Rattle.level_core.specs.Kinds.{properties}
use Rattle.format_spec.specs.declared.format.FormatLevel.{FormatLevel}
use Rattle.index_notation.specs.declared.syntax.Statement.{Statement}
use Rattle.concrete_notation.specs.Nests.{Nest}
use Rattle.loop_code.specs.declared.loops.LoopCode.{LoopCode, Add, Both', Loop', Sum', Row_of-LoopCode, end_of-LoopCode, more_of-LoopCode}
use Rattle.loop_code.specs.declared.loops.Seek.{Seek}
use Rattle.loop_code.specs.Loops.{Layout, Stored, Env, moved}
use Rattle.loop_code.specs.Parts.{here}
use Rattle.loop_code.specs.Turns.{count_below, if_live, if_remains, summed}
use Rattle.lowering.specs.Layouts.{letter_at, levels_of}
use Rattle.statement_costs.specs.Costs.{next_level, sum_walked, whole_total}

module _ (s : Statement) (formats : List (List FormatLevel)) (widths : ℕ → ℕ → ℕ) where
  -- the slots of an access's level: its width, where it has its coordinates in no order
  abbrev pub level_slots : ℕ → ℕ → ℕ
  level_slots k level =
      if (properties (letter_at (levels_of formats (slice_get s.accesses k)) level)).ordered then 0 else widths k level

  -- the slots of a group's loop over a variable
  abbrev pub group_slots : Stored → (ranges : ℕ → ℕ) → List Nest → List ℕ → (ℕ → ℕ) → ℕ → ℕ
  group_slots stored ranges group bound point v =
      sum_walked s formats stored ranges (λ k. level_slots k (next_level s formats bound k)) group bound point v

-- over all groups of a statement in a loop order
abbrev pub statement_slots : Statement → List (List FormatLevel) → List ℕ → Stored → (widths : ℕ → ℕ → ℕ) → (ranges : ℕ → ℕ) → ℕ
statement_slots s formats order stored widths ranges =
    whole_total s formats stored ranges (group_slots s formats widths stored ranges) order

-- the slots of the levels that are gone through at a loop, of the accesses that are present
abbrev pub slots_here : (ℕ → ℕ → ℕ) → List Seek → Env → ℕ
slots_here of_level [] env = 0
slots_here of_level (x ∷ seeks) env =
    (if x.full then 0 else if here env x.access then of_level x.access x.level else 0) + slots_here of_level seeks env

module _ (layout : Layout) (stored : Stored) (ranges : ℕ → ℕ) (of_level : ℕ → ℕ → ℕ) where
  abbrev mutual
    -- the slots of loops: where a part of a loop remains, those of its levels, and those of its body at each coordinate
    pub slots : LoopCode → Env → ℕ
    slots (Loop' v seeks p body) env =
        if_remains layout stored ranges body env
        (λ e. slots_here of_level seeks e + count_below (ranges v) (λ x. slots_in body (moved layout stored v seeks e x)))
    slots (Both' p f q g) env = slots_in f env + slots_in g env
    slots (Add t) env = 0
    slots (Sum' k p inside q body) env =
        if_live layout stored ranges k inside body env (slots_in inside env) + slots_in body (summed layout stored ranges k inside env)

    -- the same of the one loop code in a box
    pub slots_in : {m : _} → Row_of-LoopCode m → Env → ℕ
    slots_in end_of-LoopCode env = 0
    slots_in (more_of-LoopCode c rest) env = slots c env
