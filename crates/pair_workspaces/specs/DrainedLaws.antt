-- What is true of a workspace of pairs that is drained: all that it holds is in its arrays.
use Rattle.std.specs.Prelude.{◌≡◌, ℕ, true, false, List, refl}
use Rattle.std.proofs.Common.{◌∙◌, sym}
use Rattle.kernel_code.specs.declared.syntax.Arr.{Arr}
use Rattle.kernel_code.specs.declared.syntax.Arr.TheVariants.{Range, Values, Dimension, Ends, Coordinates, Width, Key, Sums}
use Rattle.kernel_code.specs.declared.syntax.Arr.TheVariants.{ListCoordinates, ListPositions}
use Rattle.kernel_code.specs.Meaning.{State}
use Rattle.tensor_map.specs.Entries.{Entry}
use Rattle.term_code.specs.WorkspaceSinks.{HoldsRows, IsOfWorkspace}
use Rattle.result_targets.specs.Scratch.{is_of_some_list}
use Rattle.drained_workspaces.specs.Draining.{DrainingLaws}
use Rattle.pair_workspaces.specs.Drained.{pair_draining}
use Rattle.pair_workspaces.specs.Sinks.{PairSink, IsOther, pair_sink}

-- no array of a workspace is a scratch list's
not_list : (w : ℕ) (b : Arr) → IsOfWorkspace w b → is_of_some_list b ≡ false
not_list w Range of = refl
not_list w (Values n) of = refl
not_list w (Dimension n k) of = refl
not_list w (Ends n k) of = refl
not_list w (Coordinates n k) of = refl
not_list w (Width n k) of = refl
not_list w (Key n k) of = refl
not_list w (Sums n) of = refl
not_list w (ListCoordinates n) of = absurd of
not_list w (ListPositions n) of = absurd of

rows_stay : (k : PairSink) (rows : List Entry) (s t : State) → ((b : Arr) → (IsOther k b → ⊥) → t.arrays b ≡ s.arrays b)
    → HoldsRows k.number k.keys rows s.arrays → HoldsRows k.number k.keys rows t.arrays
rows_stay k rows s t stay h = record {
  key = λ j l. stay (Key k.number j) (λ other. other refl) ∙ h.key j l;
  sums = stay (Sums k.number) (λ other. other refl) ∙ h.sums;
  few = h.few;
}

pub pair_draining_laws : DrainingLaws pair_sink pair_draining
pair_draining_laws = record {
  stays = λ k a ranges taken waiting s t stay range h. record { held = rows_stay k _ s t stay h.held; each = h.each };
  holds_on = λ k a ranges rows s t stay range h. record { held = rows_stay k rows s t stay h.held; each = h.each };
  plain = λ k y none. none;
  lists = λ k b is of. absurd (let both : true ≡ false = sym is ∙ not_list k.number b of in cc both);
  few = λ k a ranges taken waiting s h. h.held.few;
}
