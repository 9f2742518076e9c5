-- Edges so far of an access.
use Rattle.std.specs.Prelude.{◌≡◌, ℕ, zero, suc, ◌+◌, ◌-◌, ◌≤◌, ◌<◌, Bool, true, false, if◌then◌else◌, List, [], ◌∷◌, ◌++◌, length, take}
use Rattle.std.specs.Prelude.{All, slice_get, slice_index, slice_index_or, Some, None, refl}
use Rattle.std.specs.List.{list_all}
use Rattle.std.proofs.Common.{◌∙◌, sym, ap, arith}
use Rattle.std.proofs.lemmas.List.{length-map}
use Rattle.std.proofs.lemmas.List.Sums.{AllPass-from_list_all, list_all-from_AllPass}
use Rattle.level_core.specs.Kinds.{properties}
use Rattle.level_core.specs.declared.letter.Letter.TheVariants.{Dense}
use Rattle.level_core.proofs.KindLaws.{full_is_dense}
use Rattle.format_spec.specs.declared.format.FormatLevel.{FormatLevel}
use Rattle.format_spec.specs.Formats.{modes_of}
use Rattle.iteration_graph.specs.Edges.{neighbours, by_level, access_edges}

-- one neighbour more
more : (vars : List ℕ) (k d : ℕ) → suc k < length vars
    → neighbours (take (suc (suc k)) vars) ≡ neighbours (take (suc k) vars) ++ (slice_index_or vars k d, slice_index_or vars (suc k) d) ∷ []
more [] k d h = absurd (omega (arith, h))
more (v ∷ []) k d h = absurd (omega (arith, h))
more (v ∷ w ∷ rest) zero d h = refl
more (v ∷ w ∷ rest) (suc k) d h = ap (λ es. (v, w) ∷ es) (more (w ∷ rest) k d (omega (arith, h)))

-- the edges so far, and with the next level
pub next_edge : (levels : List FormatLevel) (vars : List ℕ) (level upper lower : ℕ) → 1 ≤ level → level < length levels
    → slice_get (modes_of levels) (level - 1) ≡ Some upper → slice_get (modes_of levels) level ≡ Some lower
    → neighbours (take (level + 1) (by_level levels vars)) ≡ neighbours (take level (by_level levels vars))
    ++ (slice_index vars upper, slice_index vars lower) ∷ []
next_edge levels vars level upper lower first last above below =
    let k = level - 1 in
    let here : level ≡ suc k = omega (arith, first) in
    let next : level + 1 ≡ suc (suc k) = omega (arith, first) in
    let count = length-map (modes_of levels) (slice_index vars) ∙ length-map levels (λ l. l.mode) in
    let there = more (by_level levels vars) k 0 (omega (arith, here, last, count)) in
    let top = stands levels vars k upper above in
    let bottom = stands levels vars (suc k) lower (ap (slice_get (modes_of levels)) (sym here) ∙ below) in
    ap (λ n. neighbours (take n (by_level levels vars))) next ∙ there
    ∙ ap (λ es. es ++ (slice_index_or (by_level levels vars) k 0, slice_index_or (by_level levels vars) (suc k) 0)
    ∷ []) (ap (λ n. neighbours (take n (by_level levels vars))) (sym here))
    ∙ ap (λ u. neighbours (take level (by_level levels vars)) ++ (u, slice_index_or (by_level levels vars) (suc k) 0) ∷ []) top
    ∙ ap (λ w. neighbours (take level (by_level levels vars)) ++ (slice_index vars upper, w) ∷ []) bottom
  where
    stands : (ls : List FormatLevel) (vs : List ℕ) (i mode : ℕ) → slice_get (modes_of ls) i ≡ Some mode
        → slice_index_or (by_level ls vs) i 0 ≡ slice_index vs mode
    stands [] vs i mode h = absurd (none_is_some h)
      where
        none_is_some : None ≡ Some mode → ⊥
        none_is_some h = cc
    stands (l ∷ ls) vs zero mode h = let same : l.mode ≡ mode = cc in ap (slice_index vs) same
    stands (l ∷ ls) vs (suc i) mode h = stands ls vs i mode h

-- all are dense, or not all
pub dense_gives_none : (levels : List FormatLevel) (vars : List ℕ) → All (λ level. level.letter ≡ Dense) levels
    → access_edges levels vars ≡ []
dense_gives_none levels vars all =
    ap (λ t. if t then [] else neighbours (by_level levels vars))
    (list_all-from_AllPass (λ level. (properties level.letter).full) levels
    (λ k d h. ap (λ letter. (properties letter).full) (all k d h)))

pub sparse_gives_all : (levels : List FormatLevel) (vars : List ℕ) → (All (λ level. level.letter ≡ Dense) levels → ⊥)
    → access_edges levels vars ≡ neighbours (by_level levels vars)
sparse_gives_all levels vars some = by_test (list_all (λ level. (properties level.letter).full) levels) refl
  where
    by_test : (t : Bool) → list_all (λ level. (properties level.letter).full) levels ≡ t
        → access_edges levels vars ≡ neighbours (by_level levels vars)
    by_test true is = absurd
        (some (λ k d h. full_is_dense (slice_index_or levels k d).letter
        (AllPass-from_list_all (λ level. (properties level.letter).full) levels is k d h)))
    by_test false is = ap (λ t. if t then [] else neighbours (by_level levels vars)) is
