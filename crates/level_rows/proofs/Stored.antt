-- A level that is finished after its rows were appended stores them.
use Rattle.std.specs.Prelude.{◌≡◌, ℕ, suc, ◌+◌, ◌≤◌, ◌<◌, true, take}
use Rattle.std.proofs.Common.{◌∙◌, sym, ap, subst, arith}
use Rattle.std.proofs.lemmas.List.{take_all}
use Rattle.level_core.specs.declared.letter.Letter.{Letter}
use Rattle.level_core.specs.declared.span.Span.{Span}
use Rattle.level_core.specs.Entries.{IsIn, one}
use Rattle.level_core.specs.Kinds.{properties}
use Rattle.level_core.specs.Logs.{total, Rises, slice}
use Rattle.level_core.specs.Meaning.{Meaning, Finishes}
use Rattle.level_core.specs.Laws.{Laws}
use Rattle.level_rows.specs.Rows.{Rows, begun, place, MayAppendRows, StandsFor, RiseIn}
use Rattle.level_rows.specs.Taken.{Asked, Stores}
use Rattle.level_rows.proofs.Progress.{Filled}
use Rattle.level_rows.proofs.Branchless.{place_is, all_begun}
use Rattle.level_rows.proofs.Groups.{group_rises}
use Rattle.level_rows.proofs.Finishing.{stands_for, stands_along}

module _ {L : Type 0} (means : Meaning L) (laws : Laws means) (letter : Letter) (size parents : ℕ) (rows : Rows) (place_of : ℕ → ℕ)
    (given new : L)
    (may : MayAppendRows letter size parents rows) (kind : means.kind given ≡ letter) (all : Filled parents rows (means.log given))
    (finishes : Finishes means parents given new)
    (numbered : (i : ℕ) → i < rows.count → place_of i ≡ place rows.first i) where
  kind_new : means.kind new ≡ letter
  kind_new = finishes.kind ∙ kind

  groups : (properties letter).branchless ≡ true → (s : Span) → s.lo ≤ s.hi → s.hi ≤ parents → RiseIn (properties letter).unique rows s
      → means.allowed new s
  groups b s up within rise =
      let branches = ap (λ k. (properties k).branchless) kind ∙ b in
      let many = all.appended.many in
      let begun_all = all_begun (properties letter).unique size parents rows may.order (may.each b) in
      let at : (i : ℕ) → i < rows.count → place rows.first i ≡ rows.parent i =
      λ i h. place_is (properties letter).unique size parents rows i may.order (may.each b) h in
      finishes.groups branches s up within
      (subst (λ k. Rises (properties k).unique 0 (slice (means.log given).coords s)) (sym kind)
      (group_rises (properties letter).unique rows (means.log given).coords s may.order.begins all.appended up
      (omega (arith, many, begun_all, within))
      (λ i h first here there. rise i h first (subst (λ p. IsIn p s) (at i (omega (arith, h))) here)
      (subst (λ p. IsIn p s) (at (suc i) h) there))))

  pub filled_stores : Stores means parents (begun rows.first rows.count) rows place_of new
  filled_stores = record {
    has_parents = finishes.has_parents;
    stands = subst (λ k. StandsFor (properties k).full (Asked means new parents) (means.segment_of new) (means.entries new) rows place_of)
        (sym kind_new)
        (stands_along (properties letter).full (means.allowed new) (Asked means new parents) (means.segment_of new) (means.entries new) rows
        (place rows.first) place_of (λ s ok. ok.0) numbered
        (stands_for (properties letter).full parents rows (means.log given) (means.allowed new) (means.segment_of new) (means.entries new)
        may.order.begins all
        (record { segments = finishes.segments; entries_are = finishes.entries })));
    ends = λ p last.
        let counts = (means.log given).counts in
        let reserved = all.reserved in
        let whole : take (p + 1) counts ≡ counts = take_all (p + 1) counts (omega (arith, reserved, last)) in
        ap (λ s. s.hi) (finishes.segments (one p) (laws.parents new parents p finishes.has_parents (omega (arith, last)))) ∙ ap total whole
        ∙ all.given ∙ all.appended.many;
    groups = λ branches s up within rise. groups (sym (ap (λ k. (properties k).branchless) kind_new) ∙ branches) s up within
        (subst (λ k. RiseIn (properties k).unique rows s) kind_new rise);
  }
