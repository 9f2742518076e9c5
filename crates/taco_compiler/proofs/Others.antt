-- Loops find levels of accesses of tensors alone: a sum has none.
use Rattle.std.specs.Prelude.{◌≡◌, ℕ, ◌+◌, ◌-◌, ◌≤◌, ◌<◌, nat_lt, not, Bool, true, false, List, [], ◌∷◌, length}
use Rattle.std.specs.Prelude.{Option, None, Some, slice_get, refl}
use Rattle.std.proofs.Common.{◌∙◌, sym, ap, arith}
use Rattle.std.proofs.lemmas.Bool.Decides.{nat_tests}
use Rattle.format_spec.specs.declared.format.FormatLevel.{FormatLevel}
use Rattle.index_notation.specs.declared.syntax.Access.{Access}
use Rattle.index_notation.specs.declared.syntax.Statement.{Statement}
use Rattle.iteration_graph.specs.Edges.{by_level}
use Rattle.lists.specs.Each.{Each}
use Rattle.loop_code.specs.Alike.{SeeksOthers, SeeksOthers_in}
use Rattle.loop_code.specs.declared.loops.LoopCode.{LoopCode, Add, Both', Loop', Sum', Row_of-LoopCode, end_of-LoopCode, more_of-LoopCode}
use Rattle.loop_code.specs.declared.loops.Seek.{Seek}
use Rattle.loop_code.specs.Parts.{given}
use Rattle.loop_code.specs.Places.{AreSeeks, IsSeek, IsWellPlaced, IsWellPlaced_in, deeper, depth_after}
use Rattle.lowering.specs.Layouts.{layout_of, levels_of, variables_of}
use Rattle.lowering.specs.Shapes.{HasStarts, HasStarts_in}
use Rattle.lowering.specs.Sums.{HasSums, first_sum}
use Rattle.kernel_emit.specs.Given.{is_sum}

none_of : (formats : List (List FormatLevel)) (o : Option Access) → levels_of formats o ≡ [] → length (variables_of formats o) ≡ 0
none_of formats None h = refl
none_of formats (Some access) h = ap (λ format. length (by_level format access.vars)) h

not_before : (k n : ℕ) → n ≤ k → not (nat_lt k n) ≡ true
not_before k n h = grind (arith, nat_tests, h)

before_not : (k n : ℕ) → nat_lt k n ≡ false → n ≤ k
before_not k n h = grind (arith, nat_tests, h)

module _ (s : Statement) (formats : List (List FormatLevel)) (sums : HasSums s formats) where
  no_levels_at : (k : ℕ) → first_sum s ≤ k → k < length s.accesses → (layout_of s formats).levels k ≡ 0
  no_levels_at k behind below =
      let count = sums.count in
      let number : first_sum s + (k - first_sum s) ≡ k = omega (arith, behind) in
      ap (λ j. (layout_of s formats).levels j) (sym number)
      ∙ none_of formats (slice_get s.accesses (first_sum s + (k - first_sum s)))
      (sums.levels (k - first_sum s) (omega (arith, behind, below, count)))

  other : (v : ℕ) (bound : List ℕ) (above depth : ℕ → ℕ) (x : Seek)
      → IsSeek (layout_of s formats) (length s.accesses) v bound above depth x → is_sum s x.access ≡ false
  other v bound above depth x h = by (nat_lt x.access (first_sum s)) refl
    where
      by : (b : Bool) → nat_lt x.access (first_sum s) ≡ b → not (nat_lt x.access (first_sum s)) ≡ false
      by true e = ap not e
      by false e =
          let none = no_levels_at x.access (before_not x.access (first_sum s) e) h.access in
          let next = h.next in
          let within = h.within in absurd (omega (arith, none, next, within))

  others : (v : ℕ) (bound : List ℕ) (above depth : ℕ → ℕ) (seeks : List Seek)
      → AreSeeks (layout_of s formats) (length s.accesses) v bound above depth seeks → Each (λ (x : Seek). is_sum s x.access ≡ false) seeks
  others v bound above depth [] h = tt
  others v bound above depth (x ∷ seeks) h =
      (other v bound above depth x h.0, others v bound above (deeper depth x.access) seeks h.1)

  mutual
    pub seeks_others : (bound around : List ℕ) (depth : ℕ → ℕ) (started : ℕ → Bool) (loops : LoopCode)
        → IsWellPlaced (layout_of s formats) (length s.accesses) bound depth loops → HasStarts s around started loops
        → SeeksOthers (is_sum s) loops
    seeks_others bound around depth started (Loop' v seeks p body) h k =
        (others v bound depth depth seeks h.1, seeks_others_in (v ∷ bound) (v ∷ around) (depth_after seeks depth) started body h.2 k)
    seeks_others bound around depth started (Both' p f q g) h k =
        (seeks_others_in bound around depth started f h.0 k.0, seeks_others_in bound around depth started g h.1 k.1)
    seeks_others bound around depth started (Add t) h k = tt
    seeks_others bound around depth started (Sum' n p inside q body) h k = (
      (let number = k.0.access in not_before n (first_sum s) (omega (arith, number))),
      seeks_others_in bound around depth started inside h.2 k.1,
      seeks_others_in bound around depth (given started n true) body h.3 k.2,
    )

    seeks_others_in : {m : _} (bound around : List ℕ) (depth : ℕ → ℕ) (started : ℕ → Bool) (row : Row_of-LoopCode m)
        → IsWellPlaced_in (layout_of s formats) (length s.accesses) bound depth row → HasStarts_in s around started row
        → SeeksOthers_in (is_sum s) row
    seeks_others_in bound around depth started end_of-LoopCode h k = tt
    seeks_others_in bound around depth started (more_of-LoopCode c rest) h k = seeks_others bound around depth started c h k
