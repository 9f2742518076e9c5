-- How many levels the head has.
use Rattle.std.specs.Prelude.{◌≡◌, ℕ, suc, ◌+◌, ◌≤◌, Bool, true, false, ◌&&◌, if◌then◌else◌}
use Rattle.std.specs.Prelude.{List, [], ◌∷◌, ◌++◌, length, take, slice_index, refl}
use Rattle.std.specs.List.{list_all}
use Rattle.std.proofs.Common.{◌∙◌, ap, subst, arith}
use Rattle.std.proofs.lemmas.List.Folds.{list_all-append}
use Rattle.format_spec.specs.declared.format.FormatLevel.{FormatLevel}
use Rattle.iteration_graph.specs.Edges.{by_level}
use Rattle.row_orders.specs.Heads.{is_dense, head_levels, tail_levels}

-- a format has the levels of its head, and the dense ones below
pub levels_parted : (levels : List FormatLevel) → head_levels levels ++ tail_levels levels ≡ levels
levels_parted [] = refl
levels_parted (level ∷ levels) = by (list_all is_dense (level ∷ levels)) (levels_parted levels)
  where
    by : (b : Bool) → head_levels levels ++ tail_levels levels ≡ levels
        → (if b then [] else (level ∷ head_levels levels)) ++ (if b then (level ∷ levels) else tail_levels levels) ≡ level ∷ levels
    by true more = refl
    by false more = ap (λ ls. level ∷ ls) more

taken : (first second : List FormatLevel) → take (length first) (first ++ second) ≡ first
taken [] second = refl
taken (level ∷ first) second = ap (λ ls. level ∷ ls) (taken first second)

pub head_taken : (levels : List FormatLevel) → take (length (head_levels levels)) levels ≡ head_levels levels
head_taken levels =
    subst (λ ls. take (length (head_levels levels)) ls ≡ head_levels levels) (levels_parted levels)
    (taken (head_levels levels) (tail_levels levels))

both_long : (first second : List FormatLevel) → length first ≤ length (first ++ second)
both_long [] second = omega arith
both_long (level ∷ first) second = let more = both_long first second in omega (arith, more)

pub head_within : (levels : List FormatLevel) → length (head_levels levels) ≤ length levels
head_within levels =
    subst (λ ls. length (head_levels levels) ≤ length ls) (levels_parted levels) (both_long (head_levels levels) (tail_levels levels))

all_more : (levels : List FormatLevel) (level : FormatLevel) (b : Bool) → is_dense level ≡ b
    → list_all is_dense (levels ++ level ∷ []) ≡ (list_all is_dense levels && b)
all_more levels level b e =
    list_all-append is_dense levels (level ∷ []) ∙ ap (λ c. list_all is_dense levels && (c && true)) e
    ∙ ap (λ c. list_all is_dense levels && c) (and_true b)
  where
    and_true : (c : Bool) → (c && true) ≡ c
    and_true true = refl
    and_true false = refl

pub dense_more : (levels : List FormatLevel) (level : FormatLevel) → is_dense level ≡ true
    → length (head_levels (levels ++ level ∷ [])) ≡ length (head_levels levels)
dense_more [] level e = ap (λ b. length (if b && true then [] else (level ∷ []))) e
dense_more (first ∷ levels) level e =
    ap (λ b. length (if b then [] else (first ∷ head_levels (levels ++ level ∷ []))))
    (all_more (first ∷ levels) level true e ∙ and_true (list_all is_dense (first ∷ levels)))
    ∙ by (list_all is_dense (first ∷ levels)) (dense_more levels level e)
  where
    and_true : (c : Bool) → (c && true) ≡ c
    and_true true = refl
    and_true false = refl

    by : (b : Bool) → length (head_levels (levels ++ level ∷ [])) ≡ length (head_levels levels)
        → length (if b then [] else (first ∷ head_levels (levels ++ level ∷ [])))
        ≡ length (if b then [] else (first ∷ head_levels levels))
    by true more = refl
    by false more = ap suc more

pub sparse_more : (levels : List FormatLevel) (level : FormatLevel) → is_dense level ≡ false
    → length (head_levels (levels ++ level ∷ [])) ≡ length levels + 1
sparse_more [] level e = ap (λ b. length (if b && true then [] else (level ∷ []))) e
sparse_more (first ∷ levels) level e =
    let more : length (head_levels (levels ++ level ∷ [])) ≡ length levels + 1 = sparse_more levels level e in
    let here : suc (length (head_levels (levels ++ level ∷ []))) ≡ suc (length levels) + 1 = omega (arith, more) in
    ap (λ b. length (if b then [] else (first ∷ head_levels (levels ++ level ∷ []))))
    (all_more (first ∷ levels) level false e ∙ and_false (list_all is_dense (first ∷ levels))) ∙ here
  where
    and_false : (c : Bool) → (c && false) ≡ false
    and_false true = refl
    and_false false = refl

-- the variables of levels one below another
pub by_level_parts : (first second : List FormatLevel) (vars : List ℕ)
    → by_level (first ++ second) vars ≡ by_level first vars ++ by_level second vars
by_level_parts [] second vars = refl
by_level_parts (level ∷ first) second vars = ap (λ vs. slice_index vars level.mode ∷ vs) (by_level_parts first second vars)
