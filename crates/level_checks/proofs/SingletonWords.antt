-- The singleton level that has some words, what such words are, and its coordinates one after another.
use Rattle.std.specs.Prelude.{◌≡◌, ℕ, zero, suc, ◌+◌, ◌-◌, ◌≤◌, ◌<◌, Bool, true, false, List, [], ◌∷◌, length, take}
use Rattle.std.specs.Prelude.{drop, slice_index, Some, None, slice_get, refl}
use Rattle.std.proofs.Common.{◌∙◌, sym, ap, subst, arith, add-one}
use Rattle.limits.specs.Limits.{greatest_position_count}
use Rattle.level_core.specs.declared.stage.Stage.TheVariants.{Finished}
use Rattle.level_core.specs.Entries.{span}
use Rattle.level_core.specs.GroupLaws.{CoordsBelow}
use Rattle.level_core.specs.Kinds.{properties}
use Rattle.level_core.specs.Logs.{Rises, slice}
use Rattle.singleton_level.specs.Singleton.{SingletonLevel, letter_of, stored}
use Rattle.singleton_level.specs.Handed.{HasWords}
use Rattle.level_checks.specs.Orders.{least_behind}
use Rattle.level_checks.proofs.Loops.{Same, same_is, left_is}

module _ (size : ℕ) (unique : Bool) (parents : ℕ) (coords : List ℕ) where
  abbrev Made : Type 0
  Made = (l : SingletonLevel) × HasWords size unique parents coords l

  pub good_words : Made → (length coords ≡ parents) × CoordsBelow size coords
  good_words (l, h) =
      let keeps = h.has_parents.keeps in (
        ap length (sym h.coords_are) ∙ keeps.given h.has_parents.finished ∙ h.has_parents.count,
        subst (λ n. CoordsBelow n coords) h.size_is (subst (CoordsBelow l.size) h.coords_are keeps.below),
      )

  pub made_of : size ≤ greatest_position_count → parents ≤ greatest_position_count → length coords ≡ parents
      → CoordsBelow size coords → Made
  made_of small few count below = (
    stored size unique Finished (length coords) coords 0,
    record {
      size_is = refl;
      unique_is = refl;
      has_parents = record {
        keeps = record { small = small; few = omega (arith, count, few); below = below; given = λ _. refl };
        finished = refl;
        count = count;
      };
      coords_are = refl;
    },
  )

-- one position more
slice_next : (xs : List ℕ) (lo hi : ℕ) → lo < hi → lo < length xs
    → slice xs (span lo hi) ≡ slice_index xs lo ∷ slice xs (span (lo + 1) hi)
slice_next xs lo hi less inside =
    let count : hi - lo ≡ (hi - (lo + 1)) + 1 = omega (arith, less) in
    ap (λ ys. take (hi - lo) ys) (left_is xs lo inside)
    ∙ ap (λ n. take n (slice_index xs lo ∷ drop (lo + 1) xs)) count
    ∙ take_one (slice_index xs lo) (drop (lo + 1) xs) (hi - (lo + 1))
  where
    take_one : (x : ℕ) (ys : List ℕ) (n : ℕ) → take (n + 1) (x ∷ ys) ≡ x ∷ take n ys
    take_one x ys n = ap (λ m. take m (x ∷ ys)) (add-one n)

-- what is left rises where the next one may follow and those behind it rise
pub slice_rises : (unique : Bool) (least : ℕ) (xs : List ℕ) (lo hi x : ℕ) → lo < hi → lo < length xs → slice_index xs lo ≡ x
    → Same (Rises unique least (slice xs (span lo hi)))
    ((least ≤ x) × Rises unique (least_behind unique (Some x)) (slice xs (span (lo + 1) hi)))
slice_rises unique least xs lo hi x less inside is =
    same_is (Rises unique least) _ _ (slice_next xs lo hi less inside ∙ ap (λ y. y ∷ slice xs (span (lo + 1) hi)) is)

pub none_between : (unique : Bool) (least : ℕ) (xs : List ℕ) (lo hi : ℕ) → hi ≤ lo → Rises unique least (slice xs (span lo hi))
none_between unique least xs lo hi h = subst (λ n. Rises unique least (take n (drop lo xs))) none tt
  where
    none : 0 ≡ hi - lo
    none = omega (arith, h)

-- the coordinate that was read
pub got : (xs : List ℕ) (i x : ℕ) → slice_get xs i ≡ Some x → (i < length xs) × (slice_index xs i ≡ x)
got [] i x h = absurd (cc)
got (y ∷ xs) zero x h = (omega arith, cc)
got (y ∷ xs) (suc i) x h = let r = got xs i x h in let less = r.0 in (omega (arith, less), r.1)

pub got_none : (xs : List ℕ) (i : ℕ) → slice_get xs i ≡ None → length xs ≤ i
got_none [] i h = omega arith
got_none (y ∷ xs) zero h = absurd (cc)
got_none (y ∷ xs) (suc i) h = let less = got_none xs i h in omega (arith, less)

pub letter_unique : (b : Bool) → (properties (letter_of b)).unique ≡ b
letter_unique true = refl
letter_unique false = refl
