-- A level to which rows are appended is one to which finer rows are.
use Rattle.std.specs.Prelude.{◌≡◌, ◌⊎◌, ℕ, zero, suc, ◌+◌, ◌-◌, ◌<◌, Bool, false, if◌then◌else◌, slice_index, refl}
use Rattle.std.proofs.Common.{◌∙◌, sym, ap, subst, arith, inl, inr}
use Rattle.level_core.specs.Entries.{IsIn, one}
use Rattle.level_core.specs.Logs.{Log, segment_in}
use Rattle.level_rows.specs.Rows.{Rows, begun, place}
use Rattle.level_rows.proofs.Progress.{Filled}
use Rattle.level_appends.specs.Refined.{Refines}

step_is : (first : ℕ → Bool) (n : ℕ) (b : Bool) → first n ≡ b → begun first (suc n) ≡ (if b then begun first n + 1 else begun first n)
step_is first n b is = ap (λ t. if t then begun first n + 1 else begun first n) is

module _ (rows finer : Rows) (to : ℕ → ℕ) (r : Refines rows finer to) where
  -- as many positions are begun up to a row as up to the one that it stands for
  pub begun_there : (i : ℕ) → i < finer.count → begun finer.first (suc i) ≡ begun rows.first (suc (to i))
  begun_there zero h =
      let s = r.start h in
      step_is finer.first 0 (rows.first 0) s.1 ∙ ap (λ k. begun rows.first (suc k)) (sym s.0)
  begun_there (suc i) h = by_step (begun_there i (omega (arith, h))) (r.step i h)
    where
      by_step : begun finer.first (suc i) ≡ begun rows.first (suc (to i))
          → ((to (suc i) ≡ to i) × (finer.first (suc i) ≡ false))
          ⊎ ((to (suc i) ≡ suc (to i)) × (finer.first (suc i) ≡ rows.first (suc (to i))))
          → begun finer.first (suc (suc i)) ≡ begun rows.first (suc (to (suc i)))
      by_step before (inl same) =
          step_is finer.first (suc i) false same.1 ∙ before ∙ ap (λ k. begun rows.first (suc k)) (sym same.0)
      by_step before (inr next) =
          step_is finer.first (suc i) (rows.first (suc (to i))) next.1
          ∙ ap (λ k. if rows.first (suc (to i)) then k + 1 else k) before
          ∙ ap (λ k. begun rows.first (suc k)) (sym next.0)

  pub place_there : (i : ℕ) → i < finer.count → place finer.first i ≡ place rows.first (to i)
  place_there i h = ap (λ k. k - 1) (begun_there i h)

  pub all_begun_there : begun finer.first finer.count ≡ begun rows.first rows.count
  all_begun_there = by_count finer.count refl
    where
      by_count : (n : ℕ) → finer.count ≡ n → begun finer.first finer.count ≡ begun rows.first rows.count
      by_count zero none = ap (begun finer.first) none ∙ ap (begun rows.first) (sym (r.none none))
      by_count (suc i) some =
          ap (begun finer.first) some ∙ begun_there i (omega (arith, some)) ∙ ap (begun rows.first) (sym (r.ends i some))

  pub refined_filled : (parents : ℕ) (log : Log) → Filled parents rows log → Filled parents finer log
  refined_filled parents log f = record {
    stage = f.stage;
    reserved = f.reserved;
    given = f.given;
    appended = record {
      many = f.appended.many ∙ sym all_begun_there;
      at = λ i h. ap (slice_index log.coords) (place_there i h) ∙ f.appended.at (to i) (r.within i h) ∙ sym (r.coord i h);
    };
    below = λ i h.
        subst (λ p. IsIn p (segment_in log.counts (one (finer.parent i)))) (sym (place_there i h))
        (subst (λ p. IsIn (place rows.first (to i)) (segment_in log.counts (one p))) (sym (r.parent i h)) (f.below (to i) (r.within i h)));
  }
