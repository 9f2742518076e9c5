-- What the code that locates a coordinate does.
use Rattle.std.specs.Prelude.{◌≡◌, ℕ, ◌+◌, ◌^◌, ◌<◌, true, List, [], ◌∷◌, ◌++◌, Option, Some, None, refl}
use Rattle.std.proofs.Common.{◌∙◌, sym, ap, subst, arith}
use Rattle.limits.proofs.Limits.{positions_are_small}
use Rattle.kernel_code.specs.declared.syntax.LoopKind.{LoopKind}
use Rattle.kernel_code.specs.declared.syntax.Op.TheVariants.{Add}
use Rattle.kernel_code.specs.declared.syntax.KExpr.{KExpr, Num, Var, Bin}
use Rattle.kernel_code.specs.declared.syntax.KStmt.{KStmt, Set, If}
use Rattle.kernel_code.specs.Meaning.{Setting, State, set_var}
use Rattle.kernel_code.specs.Does.{Does, Never}
use Rattle.kernel_code.proofs.Does.{does_append, does_set, does_nothing, does_if_yes, does_if_no}
use Rattle.kernel_code.specs.Keeps.{Leaves, NoVariable, EveryArray, no_turns}
use Rattle.kernel_code.proofs.Keeps.{this_var, other_var}
use Rattle.kernel_code.proofs.Words.{sum_is}
use Rattle.level_core.specs.Entries.{one, position_of}
use Rattle.level_core.specs.declared.letter.Letter.{Letter}
use Rattle.level_core.specs.Kinds.{properties, capabilities}
use Rattle.level_core.specs.Fragments.{Reads, OptionLeft, probe_turns}
use Rattle.level_core.specs.Codes.{LocateCode}
use Rattle.level_core.specs.Meaning.{Meaning}
use Rattle.level_core.specs.Laws.{Laws}
use Rattle.level_core.proofs.KindLaws.{are_of_a_kind}
use Rattle.tensor_storage.specs.Children.{child_of}
use Rattle.level_cursors.specs.Children.{ChildLeft, one_of}
use Rattle.level_cursors.specs.Located.{Locates, locate_code}
use Rattle.level_cursors.proofs.Children.{child_is_one, position_below}

abbrev rest_code : ℕ → List KStmt
rest_code base =
    Set base (Var (base + 3)) ∷ If (Var base) (Set (base + 1) (Var (base + 3 + 1))
    ∷ Set (base + 1 + 1) (Bin Add (Var (base + 3 + 1)) (Num 1)) ∷ []) [] ∷ []

-- an option that was located, left as a span
leave : (base : ℕ) (c : Setting) (s t : State) (most : LoopKind → ℕ) (o : Option ℕ) → ((p : ℕ) → o ≡ Some p → p + 1 < 2 ^ 64)
    → Leaves NoVariable EveryArray (base + 3) most s t → OptionLeft (base + 3) o t
    → Does c (rest_code base) t (λ u. Leaves NoVariable EveryArray base most s u × ChildLeft base (one_of o) u) Never
leave base c s t most None small k h =
    does_set c base (Var (base + 3)) _ t 0 _ Never h
    (does_if_no c (Var base) _ [] [] (set_var t base 0) (λ u. Leaves NoVariable EveryArray base most s u × (u.vars base ≡ Some 0))
    (λ u. Leaves NoVariable EveryArray base most s u × (u.vars base ≡ Some 0)) Never (this_var t base 0)
    (does_nothing c (set_var t base 0) _ Never (
      record {
        below = λ y b z. other_var t base y 0 (λ q. omega (arith, b, q))
            ∙ k.below y (omega (arith, b)) (λ q. q);
        arrays = λ a z. k.arrays a tt;
        turns = k.turns;
      },
      this_var t base 0,
    ))
    (λ u h. does_nothing c u _ Never h))
leave base c s t most (Some p) small k h =
    let t1 = set_var t base 1 in
    let t2 = set_var t1 (base + 1) p in
    let t3 = set_var t2 (base + 1 + 1) (p + 1) in
    does_set c base (Var (base + 3)) _ t 1 _ Never h.0
    (does_if_yes c (Var base) _ [] [] t1 0 (λ u. Leaves NoVariable EveryArray base most s u × ChildLeft base (Some (one p)) u)
    (λ u. Leaves NoVariable EveryArray base most s u × ChildLeft base (Some (one p)) u) Never (this_var t base 1)
    (does_set c (base + 1) (Var (base + 3 + 1)) _ t1 p _ Never (other_var t base (base + 3 + 1) 1 (λ z. omega (arith, z)) ∙ h.1)
    (does_set c (base + 1 + 1) (Bin Add (Var (base + 3 + 1)) (Num 1)) [] t2 (p + 1) _ Never
    (sum_is (Var (base + 3 + 1)) (Num 1) p 1 t2 (other_var t1 (base + 1) (base + 3 + 1) p (λ z. omega (arith, z))
    ∙ other_var t base (base + 3 + 1) 1 (λ z. omega (arith, z)) ∙ h.1) refl (small p refl))
    (does_nothing c t3 _ Never (
      record {
        below = λ y b z. other_var t2 (base + 1 + 1) y (p + 1) (λ q. omega (arith, b, q))
            ∙ other_var t1 (base + 1) y p (λ q. omega (arith, b, q)) ∙ other_var t base y 1 (λ q. omega (arith, b, q))
            ∙ k.below y (omega (arith, b)) (λ q. q);
        arrays = λ a z. k.arrays a tt;
        turns = k.turns;
      },
      (
        other_var t2 (base + 1 + 1) base (p + 1) (λ z. omega (arith, z)) ∙ other_var t1 (base + 1) base p (λ z. omega (arith, z))
            ∙ this_var t base 1,
        record {
          lo = other_var t2 (base + 1 + 1) (base + 1) (p + 1) (λ z. omega (arith, z))
              ∙ this_var t1 (base + 1) p;
          hi = this_var t2 (base + 1 + 1) (p + 1);
        },
      ),
    ))))
    (λ u h. does_nothing c u _ Never h))

pub located : {L : Type 0} (means : Meaning L) → Laws means
    → (letter : Letter) (tensor level base : ℕ) (flag : KExpr) (args : List KExpr) (locate : List KStmt)
    → (capabilities letter).locate ≡ true → LocateCode means letter tensor level args (base + 3) locate
    → Locates means letter tensor level base flag args (locate_code base flag locate)
located means laws letter tensor level base flag args locate able law = record {
  off = λ c s is. does_if_no c flag _ (Set base (Num 0) ∷ []) [] s
      (λ u. Leaves NoVariable EveryArray base no_turns s u × (u.vars base ≡ Some 0)) _ Never is
      (does_set c base (Num 0) [] s 0 _ Never refl (does_nothing c (set_var s base 0) _ Never (
        record { below = λ y b z. other_var s base y 0 (λ q. omega (arith, b, q)); arrays = λ a z. refl; turns = λ j. omega arith },
        this_var s base 0,
      )))
      (λ t h. does_nothing c t _ Never h);
  on = λ c s n is l kind p ok held x values.
      let es = means.entries l (one p) in
      let segment = means.segment_of l (one p) in
      let are = laws.entries l (one p) ok in
      let single = are.properties.unique (ap (λ k. (properties k).unique) kind ∙ (are_of_a_kind letter).located_unique able) in
      let turns : LoopKind → ℕ = probe_turns letter segment in
      let found = subst (λ k. Reads c locate (base + 3) (probe_turns k segment) s (OptionLeft (base + 3) (position_of es x))) kind
      (law able c l kind p ok x s held values) in
      does_if_yes c flag (locate ++ rest_code base) (Set base (Num 0) ∷ []) [] s n
      (λ u. Leaves NoVariable EveryArray base turns s u × ChildLeft base (child_of es x) u) _ Never is
      (subst (λ o. Does c (locate ++ rest_code base) s (λ u. Leaves NoVariable EveryArray base turns s u × ChildLeft base o u) Never)
      (sym (child_is_one es x single))
      (does_append c locate (rest_code base) s _ _ Never found
      (λ t k. leave base c s t turns (position_of es x)
      (λ q h. let inside = position_below segment.lo segment.hi es x q are.placed h in let few = are.positions in
      omega (arith, inside, few, positions_are_small)) k.0 k.1)))
      (λ t h. does_nothing c t _ Never h);
}
