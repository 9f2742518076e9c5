-- Coordinates that a level locates.
use Rattle.std.specs.Prelude.{◌≡◌, ℕ, ◌+◌, ◌<◌, ◌^◌, true, false, Option, Some, None}
use Rattle.std.proofs.Common.{◌∙◌, sym, ap, subst, arith}
use Rattle.level_core.specs.declared.span.Span.{Span}
use Rattle.level_core.specs.Entries.{one, span, position_of}
use Rattle.level_core.specs.Kinds.{capabilities}
use Rattle.level_core.specs.Meaning.{Meaning}
use Rattle.level_core.specs.Laws.{Laws}
use Rattle.level_core.proofs.KindLaws.{are_of_a_kind}
use Rattle.level_core.proofs.Orders.{position_coord}
use Rattle.level_rows.proofs.Entries.{coord_from, stands_within}
use Rattle.limits.proofs.Limits.{positions_are_small}
use Rattle.tensor_storage.specs.Children.{child_of}
use Rattle.tensor_storage.proofs.Children.{child_located}

apart : {A : Type 0} → true ≡ false → A
apart {A} e = absurd (no_way e)
  where
    no_way : true ≡ false → ⊥
    no_way e = cc

module _ {L : Type 0} (means : Meaning L) (laws : Laws means) (l : L) (parent : Span) (ok : means.allowed l parent)
    (locates : (capabilities (means.kind l)).locate ≡ true) where
  pub parent_is : parent ≡ one parent.lo
  parent_is = ap (λ hi. span parent.lo hi) (laws.one_parent l parent ok ((are_of_a_kind (means.kind l)).located_branches locates))

  pub parent_asked : means.allowed l (one parent.lo)
  parent_asked = subst (means.allowed l) parent_is ok

  pub located_is : (x : ℕ) (o : Option ℕ) → o ≡ position_of (means.entries l (one parent.lo)) x
      → child_of (means.entries l parent) x ≡ (elim o [ None ↦ None | Some p ↦ Some (span p (p + 1)) ])
  located_is x o is = ap (λ s. child_of (means.entries l s) x) parent_is
      ∙ child_located x (means.entries l (one parent.lo))
      ((laws.entries l (one parent.lo) parent_asked).properties.unique ((are_of_a_kind (means.kind l)).located_unique locates)) o (sym is)

  pub located_within : (x p : ℕ) → Some p ≡ position_of (means.entries l (one parent.lo)) x → p < 2 ^ 62
  located_within x p is =
      let are = laws.entries l (one parent.lo) parent_asked in
      let c = position_coord (means.segment_of l (one parent.lo)).lo (means.segment_of l (one parent.lo)).hi x p
      (means.entries l (one parent.lo)) are.placed (sym is) in
      let e = coord_from p x (means.entries l (one parent.lo)) c.0 in
      let s = stands_within (means.segment_of l (one parent.lo)).lo (means.segment_of l (one parent.lo)).hi e.entry.child.lo e.entry
      (means.entries l (one parent.lo)) are.placed e.stands in
      let inside = e.at.1 in let below = s.2 in let all = are.positions in
      omega (arith, inside, below, all, positions_are_small)
