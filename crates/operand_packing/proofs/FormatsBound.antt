-- The formats that words bind are of the orders of a statement's accesses.
use Rattle.std.specs.Prelude.{◌≡◌, ℕ, zero, suc, ◌<◌, Bool, true, false, ◌==◌, if◌then◌else◌, List, [], ◌∷◌, length, Option, None, Some, Ok}
use Rattle.std.specs.Prelude.{slice_get, refl}
use Rattle.std.proofs.Common.{◌∙◌, sym, ap, subst, arith}
use Rattle.std.proofs.lemmas.Bool.{eqb-true, eq-eqb}
use Rattle.std.proofs.lemmas.List.{length-map}
use Rattle.lists.specs.Each.{Each}
use Rattle.lists.proofs.Each.{each_get, each_from}
use Rattle.format_spec.specs.declared.format.FormatLevel.{FormatLevel}
use Rattle.format_spec.specs.Formats.{IsOrder, modes_of}
use Rattle.format_spec.specs.Words.{HasOrder}
use Rattle.format_spec.proofs.Counting.{standing_is_order}
use Rattle.index_notation.specs.declared.syntax.Access.{Access}
use Rattle.index_notation.specs.declared.syntax.Statement.{Statement}
use Rattle.index_notation.specs.Statement.{IsAccess, IsNumberedWithSums, IsWellNamed, HaveOneOrder, HaveOrders}
use Rattle.iteration_graph.specs.Edges as edges
use Rattle.iteration_graph.specs.Edges.{format_of}
use Rattle.bindings.specs.Words.{FormatText}
use Rattle.bindings.specs.Bindings.{first_in, format_in, order_in, order_of}
use Rattle.bindings.specs.Outcome.{AnswersFormat, AreFormats, Binds, first_named}

-- ---- orders of accesses
pub order_is : (accesses : List Access) (j : ℕ) (access : Access) → HaveOrders accesses → slice_get accesses j ≡ Some access
    → order_in accesses access.tensor ≡ length access.vars
order_is [] j access have is = absurd cc
order_is (first ∷ accesses) j access have is = by (first.tensor == access.tensor) refl j is (λ j is. order_is accesses j access have.1 is)
  where
    by : (b : Bool) → (first.tensor == access.tensor) ≡ b → (j : ℕ) → slice_get (first ∷ accesses) j ≡ Some access
        → ((j : ℕ) → slice_get accesses j ≡ Some access → order_in accesses access.tensor ≡ length access.vars)
        → (if b then length first.vars else order_in accesses access.tensor) ≡ length access.vars
    by true t zero is rest = let same : first ≡ access = cc in ap (λ (x : Access). length x.vars) same
    by true t (suc j) is rest = each_get (HaveOneOrder first) accesses j access have.0 is (eqb-true first.tensor access.tensor t)
    by false t zero is rest =
        let same : first ≡ access = cc in
        let also : (first.tensor == access.tensor) ≡ true = eq-eqb first.tensor access.tensor (ap (λ (x : Access). x.tensor) same) in
        absurd cc
    by false t (suc j) is rest = rest j is

-- ---- formats
some_order : (order : Option (List ℕ)) (n : ℕ) (modes : List ℕ) → HasOrder order n modes → IsOrder n modes
some_order None n modes is = subst (IsOrder n) (sym is) (standing_is_order n)
some_order (Some text) n modes is = is.0

format_order : (text : Option FormatText) (n : ℕ) (levels : List FormatLevel) → AnswersFormat text n (Ok levels)
    → IsOrder n (modes_of levels)
format_order None n levels is = subst (IsOrder n) (sym is.1) (standing_is_order n)
format_order (Some text) n levels is = some_order text.order n (modes_of levels) is.0.modes_are

format_long : (s : Statement) (words : List (List ℕ)) (formats : List (List FormatLevel))
    → AreFormats s words formats → (tensor : ℕ) → tensor < length s.tensors → length (format_of formats tensor) ≡ order_of s tensor
format_long s words formats are tensor h =
    let order = format_order (first_in (format_in s (first_named s.tensors tensor)) words) (order_of s tensor) (format_of formats tensor)
    (are.are tensor [] h) in
    sym (length-map (format_of formats tensor) (λ (level : FormatLevel). level.mode)) ∙ order.count

pub formats_fit : (s : Statement) (words : List (List ℕ)) (need : Bool) (formats : List (List FormatLevel))
    (files : List (ℕ × List ℕ)) (given : List (Option ℕ)) → Binds s words need formats files given → IsNumberedWithSums s → IsWellNamed s
    → edges.HasFormat formats s.left × Each (edges.HasFormat formats) s.accesses
formats_fit s words need formats files given binds numbered named = (
  fit 0 s.left refl numbered.left,
  each_from (edges.HasFormat formats) s.accesses (λ j access is. fit (suc j) access is
      (each_get (IsAccess (length s.tensors) (length s.vars)) s.accesses j access numbered.right is)),
)
  where
    fit : (j : ℕ) (access : Access) → slice_get (s.left ∷ s.accesses) j ≡ Some access
        → IsAccess (length s.tensors) (length s.vars) access → edges.HasFormat formats access
    fit j access is at = record {
      tensor = let below = at.tensor in let many = binds.formats_are.tensors in omega (arith, below, many);
      order = format_long s words formats binds.formats_are access.tensor at.tensor
          ∙ order_is (s.left ∷ s.accesses) j access named.orders is;
    }
