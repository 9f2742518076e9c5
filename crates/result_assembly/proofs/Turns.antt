-- Turns and counts, of whatever kind.
use Rattle.std.specs.Prelude.{◌≡◌, ◌⊎◌, ◌*◌, ℕ, zero, suc, ◌+◌, ◌-◌, ◌≤◌, ◌<◌, Bool, true, false}
use Rattle.std.specs.Prelude.{if◌then◌else◌, List, [], ◌∷◌, length, drop}
use Rattle.std.specs.Prelude.{None, refl}
use Rattle.std.proofs.Common.{◌∙◌, sym, ap, subst, arith, inl, inr}
use Rattle.std.proofs.Math.Nat.{add-mul, mul-add}
use Rattle.std.proofs.lemmas.Bool.{cases_lt}
use Rattle.kernel_code.specs.declared.syntax.LoopKind.{LoopKind}
use Rattle.kernel_code.specs.declared.syntax.LoopKind.TheVariants.{Merge, Skip, Gather, Drain, Probe}
use Rattle.level_core.specs.declared.letter.Letter.{Letter}
use Rattle.level_core.specs.Fragments.{turns_of}
use Rattle.level_core.specs.Kinds.{properties}
use Rattle.level_rows.specs.Placing.{times, insert_turns}
use Rattle.result_assembly.specs.Drained.{passes, passes_at, passes_of, most_passes, drain_turns, IsAboveLast}
use Rattle.result_assembly.specs.Filling.{counting_passes}

-- the passes of a level by its kind
pub passes_here : (letters rest : List Letter) (letter : Letter) (d : ℕ) → drop d letters ≡ letter ∷ rest
    → passes_at letters d ≡ passes letter
passes_here [] rest letter zero h = let long = ap length h in absurd (omega (arith, long))
passes_here [] rest letter (suc d) h = let long = ap length h in absurd (omega (arith, long))
passes_here (first ∷ letters) rest letter zero h = ap (λ ls. passes_at ls 0) h
passes_here (first ∷ letters) rest letter (suc d) h = passes_here letters rest letter d h

one_pass : (letter : Letter) (rows : ℕ) → rows ≤ times (passes letter) rows
one_pass letter rows = by (properties letter).ordered
  where
    by : (ordered : Bool) → rows ≤ times (if ordered then 1 else 2) rows
    by true = omega arith
    by false = omega arith

-- each level has a pass
pub pass_here : (letters rest : List Letter) (letter : Letter) (d rows : ℕ) → drop d letters ≡ letter ∷ rest
    → rows ≤ times (passes_at letters d) rows
pass_here letters rest letter d rows left =
    subst (λ p. rows ≤ times p rows) (sym (passes_here letters rest letter d left)) (one_pass letter rows)

-- one without order has two
pub two_here : (letters rest : List Letter) (letter : Letter) (d rows : ℕ) → (properties letter).ordered ≡ false
    → drop d letters ≡ letter ∷ rest → rows + rows ≤ times (passes_at letters d) rows
two_here letters rest letter d rows unordered left =
    subst (λ p. rows + rows ≤ times p rows) (sym (passes_here letters rest letter d left))
    (subst (λ ordered. rows + rows ≤ times (if ordered then 1 else 2) rows) (sym unordered) two)
  where
    two : rows + rows ≤ times 2 rows
    two = omega arith

-- a drain turn for each row is within what a level may take
pub counted_at_most : (before after each rows probes : ℕ) (k : LoopKind) → rows ≤ times each rows → after ≤ before + turns_of Drain rows k
    → after ≤ before + drain_turns each rows probes k
counted_at_most before after each rows probes Merge m h = omega (arith, h)
counted_at_most before after each rows probes Skip m h = omega (arith, h)
counted_at_most before after each rows probes Gather m h = omega (arith, h)
counted_at_most before after each rows probes Drain m h = omega (arith, h, m)
counted_at_most before after each rows probes Probe m h = omega (arith, h)

-- so many probe turns where each of so many rows takes as many as a block is wide
abbrev pub times_of : ℕ → ℕ → ℕ
times_of width rows = times rows width

-- where each row takes no more than that
pub times_most : (rows each width : ℕ) → each ≤ width → times_of each rows ≤ width * rows
times_most zero each width l = omega arith
times_most (suc n) each width l =
    let more = times_most n each width l in
    let next : suc n ≡ n + 1 = omega arith in
    let product = ap (λ m. width * m) next ∙ mul-add width n 1 in
    omega (arith, more, l, product)

-- of levels and one more, each with so many at most
pub probes_more : (d each probes more : ℕ) → probes ≤ d * each → more ≤ each → probes + more ≤ suc d * each
probes_more d each probes more l m =
    let next : suc d ≡ d + 1 = omega arith in
    let product = ap (λ n. n * each) next ∙ add-mul d 1 each in
    omega (arith, l, m, product)

-- rows that are counted and then inserted take two drain turns each
pub counted_then_placed : (before between after each rows width : ℕ) (k : LoopKind) → rows + rows ≤ times each rows
    → between ≤ before + turns_of Drain rows k
    → after ≤ between + insert_turns width rows k → after ≤ before + drain_turns each rows (times_of width rows) k
counted_then_placed before between after each rows width Merge m h g = omega (arith, h, g)
counted_then_placed before between after each rows width Skip m h g = omega (arith, h, g)
counted_then_placed before between after each rows width Gather m h g = omega (arith, h, g)
counted_then_placed before between after each rows width Drain m h g = omega (arith, h, g, m)
counted_then_placed before between after each rows width Probe m h g = omega (arith, h, g)

pub none_then_placed : (before after each rows width : ℕ) (k : LoopKind) → rows ≤ times each rows
    → after ≤ before + insert_turns width rows k → after ≤ before + drain_turns each rows (times_of width rows) k
none_then_placed before after each rows width Merge m h = omega (arith, h)
none_then_placed before after each rows width Skip m h = omega (arith, h)
none_then_placed before after each rows width Gather m h = omega (arith, h)
none_then_placed before after each rows width Drain m h = omega (arith, h, m)
none_then_placed before after each rows width Probe m h = omega (arith, h)

times_add : (p q rows : ℕ) → times (p + q) rows ≡ times p rows + times q rows
times_add zero q rows = let same : 0 + q ≡ q = omega arith in let none : times q rows ≡ 0 + times q rows = omega arith in
    ap (λ m. times m rows) same ∙ none
times_add (suc p) q rows =
    let same : suc p + q ≡ suc (p + q) = omega arith in
    let i = times_add p q rows in
    let step : times (p + q) rows + rows ≡ times p rows + rows + times q rows = omega (arith, i) in
    ap (λ m. times m rows) same ∙ step

-- rows that are gone over so often, and then placed
pub passes_then_placed : (before between after each rows width : ℕ) (k : LoopKind) → between ≤ before + turns_of Drain (times each rows) k
    → after ≤ between + insert_turns width rows k → after ≤ before + drain_turns (each + 1) rows (times_of width rows) k
passes_then_placed before between after each rows width Merge h g = omega (arith, h, g)
passes_then_placed before between after each rows width Skip h g = omega (arith, h, g)
passes_then_placed before between after each rows width Gather h g = omega (arith, h, g)
passes_then_placed before between after each rows width Drain h g =
    let t = times_add each 1 rows in let once : times 1 rows ≡ rows = omega arith in omega (arith, h, g, t, once)
passes_then_placed before between after each rows width Probe h g = omega (arith, h, g)

-- the turns of levels and of one more
pub more_turns : (before between after each also rows probes more : ℕ) (k : LoopKind) → between ≤ before + drain_turns each rows probes k
    → after ≤ between + drain_turns also rows more k → after ≤ before + drain_turns (each + also) rows (probes + more) k
more_turns before between after each also rows probes more Merge h g = omega (arith, h, g)
more_turns before between after each also rows probes more Skip h g = omega (arith, h, g)
more_turns before between after each also rows probes more Gather h g = omega (arith, h, g)
more_turns before between after each also rows probes more Drain h g = let t = times_add each also rows in omega (arith, h, g, t)
more_turns before between after each also rows probes more Probe h g = omega (arith, h, g)

pub fewer_turns : (before after each also rows probes : ℕ) (k : LoopKind) → after ≤ before + drain_turns each rows probes k
    → after ≤ before + drain_turns (each + also) rows probes k
fewer_turns before after each also rows probes Merge h = omega (arith, h)
fewer_turns before after each also rows probes Skip h = omega (arith, h)
fewer_turns before after each also rows probes Gather h = omega (arith, h)
fewer_turns before after each also rows probes Drain h = let t = times_add each also rows in omega (arith, h, t)
fewer_turns before after each also rows probes Probe h = omega (arith, h)

two_at_most : (letters : List Letter) (d : ℕ) → passes_at letters d ≤ 2
two_at_most [] d = omega arith
two_at_most (letter ∷ letters) zero = by (properties letter).ordered
  where
    by : (ordered : Bool) → (if ordered then 1 else 2) ≤ 2
    by true = omega arith
    by false = omega arith
two_at_most (letter ∷ letters) (suc d) = two_at_most letters d

pub passes_at_most : (letters : List Letter) (d : ℕ) → passes_of letters d ≤ 2 * d
passes_at_most letters zero = omega arith
passes_at_most letters (suc d) = let i = passes_at_most letters d in let two = two_at_most letters d in omega (arith, i, two)

-- where one of the first d levels is gone over once alone, the values may take one pass more within two passes a level
pub few_passes : (letters : List Letter) (k d : ℕ) → k < d → passes_at letters k ≤ 1 → passes_of letters d + 1 ≤ 2 * d
few_passes letters k zero less one = absurd (omega (arith, less))
few_passes letters k (suc d) less one = by_place (cases_lt k d) (few_passes letters k d)
  where
    by_place : (k < d) ⊎ (d ≤ k) → (k < d → passes_at letters k ≤ 1 → passes_of letters d + 1 ≤ 2 * d)
        → passes_of letters (suc d) + 1 ≤ 2 * suc d
    by_place (inl before) again = let i = again before one in let two = two_at_most letters d in omega (arith, i, two)
    by_place (inr from) again =
        let last : k ≡ d = omega (arith, less, from) in
        let here : passes_at letters d ≤ 1 = subst (λ n. passes_at letters n ≤ 1) last one in
        let i = passes_at_most letters d in omega (arith, here, i)

pub values_within : (letters : List Letter) → IsAboveLast letters None
    → passes_of letters (length letters) + 1 ≤ most_passes (length letters)
values_within letters once = by (length letters) refl
  where
    by : (n : ℕ) → length letters ≡ n → passes_of letters n + 1 ≤ most_passes n
    by zero none = omega arith
    by (suc d) many = few_passes letters d (suc d) (omega arith) (once d (sym many))

-- fewer turns are within more passes
pub fewer_passes : (before after each most rows probes : ℕ) (k : LoopKind) → each ≤ most → after ≤ before + drain_turns each rows probes k
    → after ≤ before + drain_turns most rows probes k
fewer_passes before after each most rows probes k le h =
    let all : each + (most - each) ≡ most = omega (arith, le) in
    subst (λ n. after ≤ before + drain_turns n rows probes k) all (fewer_turns before after each (most - each) rows probes k h)

-- a pass more
pub one_pass_more : (before after each rows probes : ℕ) (k : LoopKind)
    → after ≤ before + (drain_turns each rows probes k + turns_of Drain rows k) → after ≤ before + drain_turns (each + 1) rows probes k
one_pass_more before after each rows probes Merge h = omega (arith, h)
one_pass_more before after each rows probes Skip h = omega (arith, h)
one_pass_more before after each rows probes Gather h = omega (arith, h)
one_pass_more before after each rows probes Drain h =
    let t = times_add each 1 rows in let once : times 1 rows ≡ rows = omega arith in omega (arith, h, t, once)
one_pass_more before after each rows probes Probe h = omega (arith, h)

-- rows are gone over once at most to count them, and not at all below no level
pub counting_few : (d : ℕ) → counting_passes d ≤ 1
counting_few zero = omega arith
counting_few (suc d) = omega arith

-- they are gone over once below a level
pub once_counted : (d : ℕ) → 0 < d → (before after rows : ℕ) (k : LoopKind) → after ≤ before + turns_of Drain rows k
    → after ≤ before + turns_of Drain (times (counting_passes d) rows) k
once_counted zero some before after rows k h = absurd (omega (arith, some))
once_counted (suc d) some before after rows k h =
    let once : times 1 rows ≡ rows = omega arith in subst (λ n. after ≤ before + turns_of Drain n k) (sym once) h

-- so many passes for the levels above the last one, and those of the last
pub last_within : (letters : List Letter) (d many : ℕ) → suc d ≡ many → passes_of letters d + (counting_passes d + 1) ≤ most_passes many
last_within letters d many is =
    let above = passes_at_most letters d in
    let few = counting_few d in
    subst (λ n. passes_of letters d + (counting_passes d + 1) ≤ most_passes n) is (omega (arith, above, few))

-- the last level alone
pub alone_once : (letters : List Letter) (d : ℕ) → d ≡ 0 → passes_of letters d + (counting_passes d + 1) ≤ 1
alone_once letters d none = subst (λ n. passes_of letters n + (counting_passes n + 1) ≤ 1) (sym none) (omega arith)

-- an ordered level is gone over once
pub once_ordered : (letter : Letter) → (properties letter).ordered ≡ true → passes letter ≤ 1
once_ordered letter is = subst (λ b. (if b then 1 else 2) ≤ 1) (sym is) (omega arith)
