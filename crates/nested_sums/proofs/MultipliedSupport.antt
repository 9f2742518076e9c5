-- A statement that is multiplied out has the support that it had.
use Rattle.std.specs.Prelude.{◌≡◌, ℕ, Bool, true, false, if◌then◌else◌, List, length, map, refl}
use Rattle.std.specs.List.{list_all, list_any}
use Rattle.std.proofs.Common.{◌∙◌, sym, ap}
use Rattle.numbers.specs.Sums.{total_of}
use Rattle.index_notation.specs.Statement.{IsNumberedWithSums, numbers_from}
use Rattle.index_notation.specs.declared.syntax.Statement.{Statement}
use Rattle.expr_terms.specs.Nested.{flat}
use Rattle.expr_terms.specs.Points.{point_of}
use Rattle.expr_terms.specs.Signs.{signed_value}
use Rattle.expr_terms.specs.Terms.{terms, own_variables}
use Rattle.expr_terms.specs.declared.term.Term.{Term}
use Rattle.expr_terms.proofs.PointLaws.{sum_over_same}
use Rattle.expr_terms.proofs.TermLaws.{map_equal}
use Rattle.workspaces.specs.Nested.{flat_paths}
use Rattle.workspaces.specs.Presence.{is_present}
use Rattle.nested_sums.specs.Bound.{HasNoBadSum}
use Rattle.nested_sums.specs.Inner.{is_inner}
use Rattle.nested_sums.specs.Multiplied.{multiplied_out, multiplied}
use Rattle.nested_sums.specs.Support.{term_is_there, in_support, KeepsSupport}
use Rattle.nested_sums.proofs.CutTerms.{term_meaning}
use Rattle.nested_sums.proofs.FinalTerms.{term_total}
use Rattle.nested_sums.proofs.MultipliedValue.{out_total}
use Rattle.nested_sums.proofs.PresenceTelling.{marks, mark, mark_tells, mark_signed, mark_squares, mark_over, mark_total, means_presence}
use Rattle.nested_sums.proofs.PresenceTelling.{presence_telling, presence_tells}
use Rattle.nested_sums.proofs.Tellings.{meaning_at}

module _ (paths : ℕ → List ℕ → Bool) (ranges : ℕ → ℕ) (s : Statement) (point : ℕ → ℕ) where
  term_told : (t : Term) → term_total (meaning_at (presence_telling paths ranges) s) (own_variables (flat s)) point t
      ≡ mark (term_is_there s paths ranges point t)
  term_told t =
      sum_over_same marks ranges (own_variables (flat s) t) (λ q. term_meaning (meaning_at (presence_telling paths ranges) s) q t)
      (λ q. mark (is_present (flat_paths s paths ranges) (flat s).accesses q t.expr))
      (λ q. ap (signed_value marks t.negated) (means_presence paths ranges s q t.expr)
      ∙ mark_signed t.negated (is_present (flat_paths s paths ranges) (flat s).accesses q t.expr)) point
      ∙ mark_over ranges (own_variables (flat s) t) (λ q. is_present (flat_paths s paths ranges) (flat s).accesses q t.expr) point

  support_told : total_of marks
      (map (term_total (meaning_at (presence_telling paths ranges) s) (own_variables (flat s)) point) (terms s.expr))
      ≡ mark (list_any (term_is_there s paths ranges point) (terms s.expr))
  support_told =
      ap (total_of marks) (map_equal (term_total (meaning_at (presence_telling paths ranges) s) (own_variables (flat s)) point)
      (λ t. mark (term_is_there s paths ranges point t)) (terms s.expr) term_told)
      ∙ mark_total (term_is_there s paths ranges point) (terms s.expr)

out_support : (one : ℕ) (s : Statement) (order : List ℕ) → IsNumberedWithSums s → HasNoBadSum s
    → KeepsSupport s (multiplied_out one s order)
out_support one s order numbered clear = λ paths ranges coords.
    let point = point_of s.left.vars coords in
    mark_tells (in_support (multiplied_out one s order) paths ranges coords) (in_support s paths ranges coords)
    (sym (support_told paths ranges (multiplied_out one s order) point)
    ∙ out_total one s order numbered clear (presence_telling paths ranges) (presence_tells paths ranges) refl (λ h. mark_squares) point
    ∙ support_told paths ranges s point)

pub keeps_support : (one : ℕ) (s : Statement) (order : List ℕ) → IsNumberedWithSums s → HasNoBadSum s
    → KeepsSupport s (multiplied one s order)
keeps_support one s order numbered clear = by (list_all (is_inner s order) (numbers_from 0 (length s.sums)))
  where
    by : (b : Bool) → KeepsSupport s (if b then s else multiplied_out one s order)
    by true = λ paths ranges coords. refl
    by false = out_support one s order numbered clear
