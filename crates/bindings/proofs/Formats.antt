-- The formats of tensors one after another.
use Rattle.std.specs.Prelude.{◌≡◌, ℕ, ◌+◌, ◌<◌, ◌≤◌, ◌==◌, Bool, true, false, List, [], ◌∷◌, ◌++◌, length, Ok, slice_index_or, refl}
use Rattle.std.proofs.Common.{sym, ◌∙◌, ap, subst, arith, cond}
use Rattle.std.proofs.lemmas.Grind.{common_steps}
use Rattle.limits.specs.Limits.{greatest_order}
use Rattle.lists.specs.Each.{Each}
use Rattle.lists.proofs.Tests.{same_number, number_same}
use Rattle.format_spec.specs.declared.format.FormatLevel.{FormatLevel}
use Rattle.index_notation.specs.declared.syntax.Access.{Access}
use Rattle.index_notation.specs.declared.syntax.Statement.{Statement}
use Rattle.index_notation.specs.Statement.{IsAccess, IsNumberedWithSums}
use Rattle.bindings.specs.Bindings.{order_in, order_of}
use Rattle.bindings.specs.Bindings.{first_in, format_in}
use Rattle.bindings.specs.Outcome.{AnswersFormat, FormatIs, first_named}
use Rattle.bindings.proofs.FirstNamed.{first_within}
use Rattle.bindings.specs.Tables.{IsBound}
use Rattle.bindings.specs.Views.{text_in}
use Rattle.bindings.specs.declared.bound.Bound.{Bound}
use Rattle.bindings.specs.declared.word.FormatText.{FormatText}
use Rattle.format_spec.specs.declared.fault.FormatFault.{FormatFault}
use Rattle.std.specs.Option.{option_map}
use Rattle.std.specs.Prelude.{Option, Result}

orders_small : (tensors vars : ℕ) (accesses : List Access) → Each (IsAccess tensors vars) accesses → (tensor : ℕ)
    → order_in accesses tensor ≤ greatest_order
orders_small tensors vars [] each tensor = omega arith
orders_small tensors vars (access ∷ accesses) each tensor =
    by_tensor (access.tensor == tensor) (orders_small tensors vars accesses each.1 tensor)
  where
    by_tensor : (b : Bool) → order_in accesses tensor ≤ greatest_order
        → cond b (length access.vars) (order_in accesses tensor) ≤ greatest_order
    by_tensor true later = each.0.order
    by_tensor false later = later

pub order_small : (s : Statement) → IsNumberedWithSums s → (tensor : ℕ) → order_of s tensor ≤ greatest_order
order_small s is tensor = orders_small (length s.tensors) (length s.vars) (s.left ∷ s.accesses) (is.left, is.right) tensor

-- the formats of the first so many tensors
pub record FormatsSoFar (s : Statement) (words : List (List ℕ)) (count : ℕ)
    (formats : List (List FormatLevel)) : Type 0 where
  pub long : length formats ≡ count
  pub are : (tensor : ℕ) (d : List FormatLevel) → tensor < count → FormatIs s words tensor (Ok (slice_index_or formats tensor d))

pub no_formats : (s : Statement) (words : List (List ℕ)) → FormatsSoFar s words 0 []
no_formats s words = record { long = refl; are = λ tensor d lt. absurd (omega (arith, lt)) }

pub formats_on : (s : Statement) (words : List (List ℕ)) (count : ℕ) (formats : List (List FormatLevel))
    (format : List FormatLevel)
    → FormatsSoFar s words count formats → FormatIs s words count (Ok format)
    → FormatsSoFar s words (count + 1) (formats ++ format ∷ [])
formats_on s words count formats format before here = record {
  long = let long : length (formats ++ format ∷ []) ≡ length formats + 1 = grind (arith, common_steps) in omega (arith, long, before.long);
  are = λ tensor d lt. by_place tensor d lt (tensor == count) refl;
}
  where
    by_place : (tensor : ℕ) (d : List FormatLevel) → tensor < count + 1 → (b : Bool) → (tensor == count) ≡ b
        → FormatIs s words tensor (Ok (slice_index_or (formats ++ format ∷ []) tensor d))
    by_place tensor d lt true same =
        let at : tensor ≡ count = same_number tensor count same in
        let long : length formats ≡ count = before.long in
        let there : slice_index_or (formats ++ format ∷ []) tensor d ≡ format = grind (arith, common_steps) in
        subst (λ f. FormatIs s words tensor (Ok f)) (sym there) (subst (λ n. FormatIs s words n (Ok format)) (sym at) here)
    by_place tensor d lt false apart =
        let other : tensor ≡ count
        → ⊥ = λ same. let yes : (tensor == count) ≡ true = ap (λ n. tensor == n) (sym same) ∙ number_same tensor in cc in
        let long : length formats ≡ count = before.long in
        let below : tensor < count = omega (arith, lt, other) in
        let there : slice_index_or (formats ++ format ∷ []) tensor d ≡ slice_index_or formats tensor d = grind (arith, common_steps) in
        subst (λ f. FormatIs s words tensor (Ok f)) (sym there) (before.are tensor d below)

-- the answer for the text that is bound to a tensor
pub format_here : (s : Statement) (words : List (List ℕ)) (bound : Bound) (tensor order : ℕ) (text d : Option FormatText)
    (answer : Result (List FormatLevel) FormatFault) → IsBound s words bound → tensor < length s.tensors
    → (items : List (Option FormatText))
    → items ≡ bound.texts.items → text ≡ slice_index_or items (first_named s.tensors tensor) d → order ≡ order_of s tensor
    → AnswersFormat (option_map text_in text) order answer
    → FormatIs s words tensor answer
format_here s words bound tensor order text d answer is within items same there orders has =
    let first : ℕ = first_named s.tensors tensor in
    let says : option_map text_in text ≡ first_in (format_in s first) words = ap (option_map text_in) (there
    ∙ ap (λ l. slice_index_or l first d) same)
    ∙ is.texts first d (first_within s.tensors tensor within) in
    subst (λ n. AnswersFormat (first_in (format_in s first) words) n answer) orders
    (subst (λ t. AnswersFormat t order answer) says has)
