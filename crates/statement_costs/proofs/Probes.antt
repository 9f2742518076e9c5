-- Loops that are well placed look at each of their turns for no more than one level of each access.
use Rattle.std.specs.Prelude.{◌≡◌, ℕ, zero, suc, ◌+◌, ◌*◌, ◌≤◌, Bool, true, false, if◌then◌else◌, List, [], ◌∷◌, refl}
use Rattle.std.proofs.Common.{◌∙◌, ap, arith}
use Rattle.std.proofs.Math.Nat.{add-mul, mul-add}
use Rattle.lists.specs.Each.{Each}
use Rattle.loop_code.specs.declared.loops.Seek.{Seek}
use Rattle.loop_code.specs.declared.loops.LoopCode.{LoopCode, Add, Both', Loop', Sum', Row_of-LoopCode, end_of-LoopCode, more_of-LoopCode}
use Rattle.loop_code.specs.Loops.{Layout, Stored, Env, moved}
use Rattle.loop_code.specs.Parts.{given, here, is_live_below_in, remains_below_in}
use Rattle.loop_code.specs.Places.{AreSeeks, IsWellPlaced, IsWellPlaced_in, depth_after}
use Rattle.loop_code.specs.Turns.{count_below, merge_turns, merge_turns_in, pruned_in, summed, turns_at}
use Rattle.statement_costs.specs.Probes.{probes, probes_in}
use Rattle.statement_costs.specs.Slots.{slots_here}
use Rattle.statement_costs.proofs.Lengths.{seeks_most}

count_alike : (n width : ℕ) → count_below n (λ k. width) ≡ n * width
count_alike zero width = let none : 0 ≡ 0 * width = omega arith in none
count_alike (suc n) width =
    let more = count_alike n width in
    let next : suc n ≡ n + 1 = omega arith in
    let product = ap (λ m. m * width) next ∙ add-mul n 1 width in
    omega (arith, more, product)

all_used : (seeks : List Seek) → Each (λ (x : Seek). true ≡ true) seeks
all_used [] = tt
all_used (x ∷ seeks) = (refl, all_used seeks)

-- the slots of the levels at one loop
seeks_narrow : (layout : Layout) (count v : ℕ) (bound : List ℕ) (depth : ℕ → ℕ) (of_level : ℕ → ℕ → ℕ) (width : ℕ)
    → ((k level : ℕ) → of_level k level ≤ width) → (seeks : List Seek) → AreSeeks layout count v bound depth depth seeks → (env : Env)
    → slots_here of_level seeks env ≤ count * width
seeks_narrow layout count v bound depth of_level width narrow seeks are env =
    let most = seeks_most layout count v bound depth (λ k. true)
    (λ x. if here env x.access then of_level x.access x.level else 0) (λ k. width)
    (λ x used below level part own within. by (here env x.access) (of_level x.access x.level) (narrow x.access x.level))
    (λ xs. slots_here of_level xs env) refl (λ x xs. refl) seeks are (all_used seeks) in
    let all = count_alike count width in
    omega (arith, most, all)
  where
    by : (b : Bool) (n : ℕ) → n ≤ width → (if b then n else 0) ≤ width
    by true n l = l
    by false n l = omega arith

count_times : (b n : ℕ) (f g : ℕ → ℕ) → ((x : ℕ) → f x ≤ b * g x) → count_below n f ≤ b * count_below n g
count_times b zero f g h = omega arith
count_times b (suc n) f g h =
    let more = count_times b n f g h in
    let here = h n in
    let sum = mul-add b (count_below n g) (g n) in
    omega (arith, more, here, sum)

where_times : (r : Bool) (b m n : ℕ) → m ≤ b * n → (if r then m else 0) ≤ b * (if r then n else 0)
where_times true b m n l = l
where_times false b m n l = omega arith

turn_times : (r : Bool) (b own inner turns : ℕ) → own ≤ b → inner ≤ b * turns
    → (if r then own + inner else 0) ≤ b * (if r then 1 + turns else 0)
turn_times true b own inner turns l m = let sum = mul-add b 1 turns in omega (arith, l, m, sum)
turn_times false b own inner turns l m = omega arith

module _ (layout : Layout) (count : ℕ) (stored : Stored) (ranges : ℕ → ℕ) (of_level : ℕ → ℕ → ℕ) (width : ℕ)
    (narrow : (k level : ℕ) → of_level k level ≤ width) where
  mutual
    -- each turn of a loop has the probes of one level of each access at most
    pub probes_within : (loops : LoopCode) (bound : List ℕ) (depth : ℕ → ℕ) → IsWellPlaced layout count bound depth loops → (env : Env)
        → probes layout stored ranges of_level loops env ≤ count * width * merge_turns layout stored ranges loops env
    probes_within (Loop' v seeks p body) bound depth placed env =
        where_times (remains_below_in (here env) body) (count * width)
        (count_below (ranges v) (λ x. if turns_at layout stored ranges seeks body e x
        then slots_here of_level seeks e + probes_in layout stored ranges of_level body (moved layout stored v seeks e x) else 0))
        (count_below (ranges v) (λ x. if turns_at layout stored ranges seeks body e x
        then 1 + merge_turns_in layout stored ranges body (moved layout stored v seeks e x) else 0))
        (count_times (count * width) (ranges v)
        (λ x. if turns_at layout stored ranges seeks body e x
        then slots_here of_level seeks e + probes_in layout stored ranges of_level body (moved layout stored v seeks e x) else 0)
        (λ x. if turns_at layout stored ranges seeks body e x
        then 1 + merge_turns_in layout stored ranges body (moved layout stored v seeks e x) else 0)
        (λ x. turn_times (turns_at layout stored ranges seeks body e x) (count * width) (slots_here of_level seeks e)
        (probes_in layout stored ranges of_level body (moved layout stored v seeks e x))
        (merge_turns_in layout stored ranges body (moved layout stored v seeks e x))
        (seeks_narrow layout count v bound depth of_level width narrow seeks placed.1 e)
        (probes_within_in body (v ∷ bound) (depth_after seeks depth) placed.2 (moved layout stored v seeks e x))))
      where
        e : Env
        e = pruned_in layout stored ranges body env
    probes_within (Both' p f q g) bound depth placed env =
        let a = probes_within_in f bound depth placed.0 env in
        let b = probes_within_in g bound depth placed.1 env in
        let sum = mul-add (count * width) (merge_turns_in layout stored ranges f env) (merge_turns_in layout stored ranges g env) in
        omega (arith, a, b, sum)
    probes_within (Add t) bound depth placed env = omega arith
    probes_within (Sum' k p inside q body) bound depth placed env =
        let e = summed layout stored ranges k inside env in
        let live = is_live_below_in (given (here env) k (remains_below_in (here env) inside)) body k in
        let own = where_times live (count * width) (probes_in layout stored ranges of_level inside env)
        (merge_turns_in layout stored ranges inside env) (probes_within_in inside bound depth placed.2 env) in
        let rest = probes_within_in body bound depth placed.3 e in
        let sum = mul-add (count * width) (if live then merge_turns_in layout stored ranges inside env else 0)
        (merge_turns_in layout stored ranges body e) in
        omega (arith, own, rest, sum)

    pub probes_within_in : {m : _} (row : Row_of-LoopCode m) (bound : List ℕ) (depth : ℕ → ℕ)
        → IsWellPlaced_in layout count bound depth row → (env : Env)
        → probes_in layout stored ranges of_level row env ≤ count * width * merge_turns_in layout stored ranges row env
    probes_within_in end_of-LoopCode bound depth placed env = omega arith
    probes_within_in (more_of-LoopCode c rest) bound depth placed env = probes_within c bound depth placed env
