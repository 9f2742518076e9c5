-- The probes of loops. As in Chou and others, 'Format Abstraction for Sparse Tensor Algebra Compilers' (OOPSLA 2018): a coordinate is
-- located in a level without order by looking at the positions of a segment one after another, each once at most.
use Rattle.std.specs.Prelude.{ℕ, ◌+◌, if◌then◌else◌}
use Rattle.loop_code.specs.declared.loops.LoopCode.{LoopCode, Add, Both', Loop', Sum', Row_of-LoopCode, end_of-LoopCode, more_of-LoopCode}
use Rattle.loop_code.specs.Loops.{Layout, Stored, Env, moved}
use Rattle.loop_code.specs.Turns.{count_below, if_live, if_remains, summed, turns_at}
use Rattle.statement_costs.specs.Slots.{slots_here}

module _ (layout : Layout) (stored : Stored) (ranges : ℕ → ℕ) (of_level : ℕ → ℕ → ℕ) where
  abbrev mutual
    -- the probes of loops: where a part of a loop remains, at each coordinate at which the loop turns the slots of its levels, and those
    -- of its body
    pub probes : LoopCode → Env → ℕ
    probes (Loop' v seeks p body) env =
        if_remains layout stored ranges body env
        (λ e. count_below (ranges v) (λ x. if turns_at layout stored ranges seeks body e x
        then slots_here of_level seeks e + probes_in body (moved layout stored v seeks e x) else 0))
    probes (Both' p f q g) env = probes_in f env + probes_in g env
    probes (Add t) env = 0
    probes (Sum' k p inside q body) env =
        if_live layout stored ranges k inside body env (probes_in inside env) + probes_in body (summed layout stored ranges k inside env)

    -- the same of the one loop code in a box
    pub probes_in : {m : _} → Row_of-LoopCode m → Env → ℕ
    probes_in end_of-LoopCode env = 0
    probes_in (more_of-LoopCode c rest) env = probes c env
