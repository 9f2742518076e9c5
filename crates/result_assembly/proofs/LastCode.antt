-- The code of the last level where its coordinates are counted, as a function makes it, from pieces.
use Rattle.std.specs.Prelude.{◌≡◌, ℕ, suc, ◌+◌, ◌-◌, List, [], ◌∷◌, ◌++◌, drop}
use Rattle.std.proofs.Common.{◌∙◌, sym, ap, subst, arith}
use Rattle.std.proofs.lemmas.List.{append_assoc}
use Rattle.kernel_code.specs.Does.{Does}
use Rattle.kernel_code.specs.Keeps.{Below}
use Rattle.kernel_code.specs.declared.syntax.Arr.TheVariants.{Values, Key}
use Rattle.kernel_code.specs.declared.syntax.KExpr.{KExpr, Num, Var, At, Width}
use Rattle.kernel_code.specs.declared.syntax.KStmt.{KStmt, Set, Extend}
use Rattle.level_core.specs.declared.letter.Letter.{Letter}
use Rattle.level_core.specs.Codes.{PrepareCode, InsertCode}
use Rattle.level_core.specs.GuardedProducts.{guarded_product}
use Rattle.level_rows.specs.declared.emitting.DrainSite.{DrainSite}
use Rattle.tensor_storage.specs.Levels.{meaning}
use Rattle.result_assembly.specs.Drained.{IsCounted, RefusesLevel}
use Rattle.result_assembly.specs.Filling.{fill_rows_code, FillsLast, FindsLast, LeavesFilled}
use Rattle.result_assembly.specs.Tests.{begins_test}
use Rattle.result_assembly.proofs.Codes.{rows_of}
use Rattle.result_assembly.proofs.FillCode.{last_filled, one_chain}
use Rattle.result_assembly.proofs.KindLaws.{one_counted}

one_less : (level d : ℕ) → level ≡ suc d → level - 1 ≡ d
one_less level d is = omega (arith, is)

-- pieces that are appended one by one
in_row : (a b c e f : List KStmt) → (((a ++ b) ++ c) ++ e) ++ f ≡ a ++ (b ++ (c ++ (e ++ f)))
in_row a b c e f =
    append_assoc ((a ++ b) ++ c) e f ∙ append_assoc (a ++ b) c (e ++ f) ∙ append_assoc a b (c ++ (e ++ f))

pub filled_of : (kind : Letter) (slotted : IsCounted kind) (at site : DrainSite) (count test coord : KExpr) (nothing : ℕ) (total : KStmt)
    (greatest prepare insert fill code : List KStmt) → Below at.base count → site ≡ rows_of at
    → test ≡ begins_test site.base site.workspace at.level → coord ≡ At (Key at.workspace (at.level - 1)) (Var site.base)
    → total ≡ Set at.base (guarded_product count (Width (Var (site.base + 2))))
    → FindsLast site.base site.workspace site.list site.level test greatest
    → PrepareCode meaning kind 0 at.level (count ∷ Var (site.base + 2) ∷ []) (site.base + 6) prepare
    → InsertCode meaning kind 0 at.level (Var (site.base + 4) ∷ coord ∷ []) (site.base + 6) insert
    → fill ≡ fill_rows_code site.base site.workspace site.list insert
    → code ≡ (((greatest ++ total ∷ []) ++ prepare) ++ Extend (Values 0) (Var at.base) (Num nothing) ∷ []) ++ fill
    → FillsLast nothing at.level at.workspace at.list at.base count code
filled_of kind slotted at site count test coord nothing total greatest prepare insert fill code bounded is =
    subst (λ (s : DrainSite). test ≡ begins_test s.base s.workspace at.level → coord ≡ At (Key at.workspace (at.level - 1)) (Var s.base)
    → total ≡ Set at.base (guarded_product count (Width (Var (s.base + 2))))
    → FindsLast s.base s.workspace s.list s.level test greatest
    → PrepareCode meaning kind 0 at.level (count ∷ Var (s.base + 2) ∷ []) (s.base + 6) prepare
    → InsertCode meaning kind 0 at.level (Var (s.base + 4) ∷ coord ∷ []) (s.base + 6) insert
    → fill ≡ fill_rows_code s.base s.workspace s.list insert
    → code ≡ (((greatest ++ total ∷ []) ++ prepare) ++ Extend (Values 0) (Var at.base) (Num nothing) ∷ []) ++ fill
    → FillsLast nothing at.level at.workspace at.list at.base count code) (sym is) here
  where
    here : test ≡ begins_test (at.base + 1) at.workspace at.level → coord ≡ At (Key at.workspace (at.level - 1)) (Var (at.base + 1))
        → total ≡ Set at.base (guarded_product count (Width (Var (at.base + 1 + 2))))
        → FindsLast (at.base + 1) at.workspace at.list at.level test greatest
        → PrepareCode meaning kind 0 at.level (count ∷ Var (at.base + 1 + 2) ∷ []) (at.base + 1 + 6) prepare
        → InsertCode meaning kind 0 at.level (Var (at.base + 1 + 4) ∷ coord ∷ []) (at.base + 1 + 6) insert
        → fill ≡ fill_rows_code (at.base + 1) at.workspace at.list insert
        → code ≡ (((greatest ++ total ∷ []) ++ prepare) ++ Extend (Values 0) (Var at.base) (Num nothing) ∷ []) ++ fill
        → FillsLast nothing at.level at.workspace at.list at.base count code
    here tests coords totals finds prepares inserts fills codes letters letter d number left counted c sizes table may s dr =
        let w = at.workspace in let g = at.list in let base = at.base in
        let left_here : drop d letters ≡ kind ∷ [] = subst (λ k. drop d letters ≡ k ∷ []) (one_counted letter kind counted slotted) left in
        let finds_here : FindsLast (base + 1) w g (suc d) (begins_test (base + 1) w at.level) greatest =
        subst (λ k. FindsLast (base + 1) w g k (begins_test (base + 1) w at.level) greatest) number
        (subst (λ t. FindsLast (base + 1) w g at.level t greatest) tests finds) in
        let prepares_here : PrepareCode meaning kind 0 (suc d) (count ∷ Var (base + 1 + 2) ∷ []) (base + 1 + 6) prepare =
        subst (λ k. PrepareCode meaning kind 0 k (count ∷ Var (base + 1 + 2) ∷ []) (base + 1 + 6) prepare) number prepares in
        let inserts_here : InsertCode meaning kind 0 (suc d) (Var (base + 1 + 4) ∷ At (Key w d) (Var (base + 1)) ∷ []) (base + 1 + 6)
        insert =
        subst (λ k. InsertCode meaning kind 0 k (Var (base + 1 + 4) ∷ At (Key w d) (Var (base + 1)) ∷ []) (base + 1 + 6) insert) number
        (subst (λ e. InsertCode meaning kind 0 at.level (Var (base + 1 + 4) ∷ e ∷ []) (base + 1 + 6) insert)
        (coords ∙ ap (λ k. At (Key w k) (Var (base + 1))) (one_less at.level d number)) inserts) in
        let code_is : code ≡ greatest ++ Set base (guarded_product count (Width (Var (base + 1 + 2))))
        ∷ (prepare ++ Extend (Values 0) (Var base) (Num nothing) ∷ fill_rows_code (base + 1) w g insert) =
        codes
        ∙ ap (λ t. (((greatest ++ t ∷ []) ++ prepare) ++ Extend (Values 0) (Var base) (Num nothing) ∷ []) ++ fill) totals
        ∙ ap (λ r. (((greatest ++ Set base (guarded_product count (Width (Var (base + 1 + 2)))) ∷ []) ++ prepare)
        ++ Extend (Values 0) (Var base) (Num nothing) ∷ []) ++ r) fills
        ∙ in_row greatest (Set base (guarded_product count (Width (Var (base + 1 + 2)))) ∷ []) prepare
        (Extend (Values 0) (Var base) (Num nothing) ∷ []) (fill_rows_code (base + 1) w g insert) in
        subst (λ k. Does c k s (LeavesFilled nothing letters sizes table w g d base s) (RefusesLevel letters sizes table d s)) (sym code_is)
        (last_filled letters kind slotted w g d at.level base count bounded left_here
        (number ∙ next d ∙ ap (λ n. d + n) (sym (one_chain kind slotted))) nothing sizes table may s dr greatest prepare
        insert
        finds_here prepares_here inserts_here c)
      where
        next : (d : ℕ) → suc d ≡ d + 1
        next d = omega arith
