-- A text stands for one statement at most, and if it does its names aren't refused.
use Rattle.std.specs.Prelude.{◌≡◌, ℕ, Bool, true, false, List, [], ◌∷◌, ◌++◌}
use Rattle.std.proofs.Common.{◌∙◌, sym, ap, subst, true≢false}
use Rattle.lists.specs.Each.{Each}
use Rattle.notation_reader.proofs.NotationLaws as notations
use Rattle.notation_grammar.specs.Notation.{IsNotationOf}
use Rattle.index_notation.specs.declared.syntax.Statement.{Statement}
use Rattle.expr_terms.specs.Expanded.{expanded}
use Rattle.expr_terms.specs.Names.{HasNoNameFault, IsFirstNameFault}
use Rattle.expr_terms.specs.declared.names.NameFault.{NameFault}
use Rattle.expr_terms.specs.declared.names.NameFault.TheVariants.{ResultRead, Arity, RepeatedVariable, BadSum}
use Rattle.expr_terms.proofs.NameOnce.{names_never_both}
use Rattle.nested_sums.specs.Bad.{AreFine, IsFirstBad, IsFirstBadSum, is_bad}
use Rattle.refusals.specs.declared.fault.NamedFault.TheVariants as named
use Rattle.refusals.specs.declared.fault.Fault.TheVariants as fault
use Rattle.taco_top.specs.Asked.{AreNamed, IsNameRefused, IsStatementRefused}

pub named_once : (text : List ℕ) (s t : Statement) → AreNamed text s → AreNamed text t → s ≡ t
named_once text s t is be =
    is.stands_for ∙ ap expanded (notations.statement_once text is.written be.written is.notation be.notation) ∙ sym be.stands_for

each_in : (P : ℕ → Type 0) (front : List ℕ) (v : ℕ) (behind : List ℕ) → Each P (front ++ (v ∷ behind)) → P v
each_in P [] v behind h = h.0
each_in P (x ∷ front) v behind h = each_in P front v behind h.1

clash : (b : Bool) → b ≡ true → b ≡ false → ⊥
clash b is none = true≢false (sym is ∙ none)

fine_never_bad : (s : Statement) (var : ℕ) → AreFine s → IsFirstBad s var → ⊥
fine_never_bad s var fine first =
    clash (is_bad s var) first.is
    (each_in (λ v. is_bad s v ≡ false) first.front var first.behind (subst (Each (λ v. is_bad s v ≡ false)) first.all fine))

module _ (text : List ℕ) (s : Statement) (is : AreNamed text s) (t : Statement) where
  by_access : (why : NameFault) → IsNotationOf text t → IsFirstNameFault t why → ⊥
  by_access why notation first =
      names_never_both t why (subst HasNoNameFault (notations.statement_once text is.written t is.notation notation) is.names) first

  pub named_never_refused : (why : NameFault) → IsNameRefused text t why → ⊥
  named_never_refused (ResultRead tensor) (notation, first) = by_access (ResultRead tensor) notation first
  named_never_refused (Arity tensor) (notation, first) = by_access (Arity tensor) notation first
  named_never_refused (RepeatedVariable tensor var) (notation, first) = by_access (RepeatedVariable tensor var) notation first
  named_never_refused (BadSum var) (written, notation, names, stands_for, first) =
      fine_never_bad t var
      (subst AreFine (is.stands_for ∙ ap expanded (notations.statement_once text is.written written is.notation notation) ∙ sym stands_for)
      is.fine) first

-- ---- refusals of a text, as those of a statement of it
pub access_refused : (text : List ℕ) (s : Statement) (why : NameFault) → IsNotationOf text s → IsFirstNameFault s why
    → IsStatementRefused text (fault.Named s (named.Name why))
access_refused text s (ResultRead tensor) notation first = (notation, first)
access_refused text s (Arity tensor) notation first = (notation, first)
access_refused text s (RepeatedVariable tensor var) notation first = (notation, first)
access_refused text s (BadSum var) notation first = absurd first.is

pub sum_refused : (text : List ℕ) (written s : Statement) (why : NameFault) → IsNotationOf text written → HasNoNameFault written
    → s ≡ expanded written → IsFirstBadSum s why → IsStatementRefused text (fault.Named s (named.Name why))
sum_refused text written s (BadSum var) notation names same first = (written, notation, names, same, first)
sum_refused text written s (ResultRead tensor) notation names same first = absurd first
sum_refused text written s (Arity tensor) notation names same first = absurd first
sum_refused text written s (RepeatedVariable tensor var) notation names same first = absurd first
