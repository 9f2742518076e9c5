-- The code of a level as functions make it, from pieces.
use Rattle.std.specs.Prelude.{◌≡◌, ℕ, suc, ◌+◌, ◌-◌, ◌≤◌, ◌<◌, true, List, [], ◌∷◌, ◌++◌}
use Rattle.std.proofs.Common.{◌∙◌, sym, ap, subst, arith}
use Rattle.std.proofs.lemmas.List.{append_assoc}
use Rattle.kernel_code.specs.Keeps.{Below, EveryArray}
use Rattle.kernel_code.proofs.Keeps.{mentions_at, mentions_more}
use Rattle.kernel_code.specs.declared.syntax.Arr.TheVariants.{Key, Dimension}
use Rattle.kernel_code.specs.declared.syntax.KExpr.{KExpr, Num, Var, At, Width}
use Rattle.kernel_code.specs.declared.syntax.KStmt.{KStmt, Set}
use Rattle.level_core.specs.declared.letter.Letter.{Letter}
use Rattle.level_core.specs.Kinds.{properties, capabilities}
use Rattle.level_core.specs.GuardedProducts.{guarded_product}
use Rattle.level_rows.specs.declared.emitting.DrainSite.{DrainSite}
use Rattle.level_rows.specs.Counting.{FindsGreatest}
use Rattle.level_rows.specs.Draining.{DrainsRows}
use Rattle.level_rows.specs.Placing.{PlacesRows}
use Rattle.tensor_storage.specs.Levels.{meaning}
use Rattle.kernel_code.specs.Does.{Does}
use Rattle.result_assembly.specs.Drained.{IsCounted, LeavesLevel, RefusesLevel, DrainsOf}
use Rattle.result_assembly.specs.Tests.{begins_test, guard_code}
use Rattle.result_assembly.proofs.Appended.{appended}
use Rattle.result_assembly.proofs.FullCode.{full_level}
use Rattle.result_assembly.proofs.CountedCode.{counted_level}

pub below_more : (base free : ℕ) (e : KExpr) → base ≤ free → Below base e → Below free e
below_more base free e le below =
    mentions_more (λ y. y < base) (λ y. y < free) EveryArray EveryArray e (λ y h. omega (arith, h, le)) (λ a h. h) below

pub key_below : (free w k x : ℕ) → x < free → Below free (At (Key w k) (Var x))
key_below free w k x less = mentions_at (λ y. y < free) EveryArray (Key w k) (Var x) tt less

-- where the rows of a level are gone over
abbrev pub rows_of : DrainSite → DrainSite
rows_of at = record { level = at.level; base = at.base + 1; workspace = at.workspace; list = at.list }

one_less : (level d : ℕ) → level ≡ suc d → level - 1 ≡ d
one_less level d is = omega (arith, is)

pub appended_of : (letter : Letter) (at site : DrainSite) (through : ℕ) (count test coord : KExpr) (emitted code : List KStmt)
    → (capabilities letter).append ≡ true → site ≡ rows_of at → test ≡ begins_test site.base site.workspace through
    → coord ≡ At (Key at.workspace (at.level - 1)) (Var site.base)
    → DrainsRows meaning letter site.level site.base site.workspace site.list count test coord emitted
    → code ≡ emitted ++ Set at.base (Var (site.base + 1)) ∷ []
    → DrainsOf letter at.level through at.workspace at.list at.base count code
appended_of letter at site through count test coord emitted code able is =
    subst (λ (s : DrainSite). test ≡ begins_test s.base s.workspace through → coord ≡ At (Key at.workspace (at.level - 1)) (Var s.base)
    → DrainsRows meaning letter s.level s.base s.workspace s.list count test coord emitted
    → code ≡ emitted ++ Set at.base (Var (s.base + 1)) ∷ []
    → DrainsOf letter at.level through at.workspace at.list at.base count code) (sym is) here
  where
    here : test ≡ begins_test (at.base + 1) at.workspace through → coord ≡ At (Key at.workspace (at.level - 1)) (Var (at.base + 1))
        → DrainsRows meaning letter at.level (at.base + 1) at.workspace at.list count test coord emitted
        → code ≡ emitted ++ Set at.base (Var (at.base + 1 + 1)) ∷ []
        → DrainsOf letter at.level through at.workspace at.list at.base count code
    here tests coords drains codes letters rest d number left chain c nothing sizes table may s dr =
        let w = at.workspace in let g = at.list in let base = at.base in
        let drains_here : DrainsRows meaning letter (suc d) (base + 1) w g count (begins_test (base + 1) w through)
        (At (Key w d) (Var (base + 1))) emitted =
        subst (λ k. DrainsRows meaning letter k (base + 1) w g count (begins_test (base + 1) w through)
        (At (Key w d) (Var (base + 1))) emitted) number
        (subst (λ t. DrainsRows meaning letter at.level (base + 1) w g count t (At (Key w d) (Var (base + 1))) emitted) tests
        (subst (λ e. DrainsRows meaning letter at.level (base + 1) w g count test e emitted)
        (coords ∙ ap (λ k. At (Key w k) (Var (base + 1))) (one_less at.level d number)) drains)) in
        subst (λ k. Does c k s (LeavesLevel nothing letters sizes table w g d base s) (RefusesLevel letters sizes table d s)) (sym codes)
        (appended letters rest letter w g d through base count emitted left chain able drains_here c nothing sizes table may s dr)

-- the code that inserts, at its place
places_as : (letter : Letter) (level d base w g through : ℕ) (count most test coord : KExpr) (insert : List KStmt) → level ≡ suc d
    → test ≡ begins_test base w through → coord ≡ At (Key w (level - 1)) (Var base)
    → PlacesRows meaning letter level base w g count most test coord insert
    → PlacesRows meaning letter (suc d) base w g count most (begins_test base w through) (At (Key w d) (Var base)) insert
places_as letter level d base w g through count most test coord insert number tests coords places =
    subst (λ k. PlacesRows meaning letter k base w g count most (begins_test base w through) (At (Key w d) (Var base)) insert) number
    (subst (λ t. PlacesRows meaning letter level base w g count most t (At (Key w d) (Var base)) insert) tests
    (subst (λ e. PlacesRows meaning letter level base w g count most test e insert)
    (coords ∙ ap (λ k. At (Key w k) (Var base)) (one_less level d number)) places))

pub counted_of : (letter : Letter) (slotted : IsCounted letter) (at site : DrainSite) (through : ℕ) (count test again coord : KExpr)
    (total : KStmt) (greatest insert code : List KStmt)
    → Below at.base count → site ≡ rows_of at → test ≡ begins_test site.base site.workspace through
    → again ≡ begins_test site.base site.workspace through → coord ≡ At (Key at.workspace (at.level - 1)) (Var site.base)
    → total ≡ Set at.base (guarded_product count (Width (Var (site.base + 2))))
    → FindsGreatest site.base site.workspace site.list site.level test greatest
    → PlacesRows meaning letter site.level site.base site.workspace site.list count (Var (site.base + 2)) again coord insert
    → code ≡ (greatest ++ total ∷ []) ++ insert
    → DrainsOf letter at.level through at.workspace at.list at.base count code
counted_of letter slotted at site through count test again coord total greatest insert code bounded is =
    subst (λ (s : DrainSite). test ≡ begins_test s.base s.workspace through → again ≡ begins_test s.base s.workspace through
    → coord ≡ At (Key at.workspace (at.level - 1)) (Var s.base) → total ≡ Set at.base (guarded_product count (Width (Var (s.base + 2))))
    → FindsGreatest s.base s.workspace s.list s.level test greatest
    → PlacesRows meaning letter s.level s.base s.workspace s.list count (Var (s.base + 2)) again coord insert
    → code ≡ (greatest ++ total ∷ []) ++ insert
    → DrainsOf letter at.level through at.workspace at.list at.base count code) (sym is) here
  where
    here : test ≡ begins_test (at.base + 1) at.workspace through → again ≡ begins_test (at.base + 1) at.workspace through
        → coord ≡ At (Key at.workspace (at.level - 1)) (Var (at.base + 1))
        → total ≡ Set at.base (guarded_product count (Width (Var (at.base + 1 + 2))))
        → FindsGreatest (at.base + 1) at.workspace at.list at.level test greatest
        → PlacesRows meaning letter at.level (at.base + 1) at.workspace at.list count (Var (at.base + 1 + 2)) again coord insert
        → code ≡ (greatest ++ total ∷ []) ++ insert
        → DrainsOf letter at.level through at.workspace at.list at.base count code
    here tests agains coords totals finds places codes letters rest d number left chain c nothing sizes table may s dr =
        let w = at.workspace in let g = at.list in let base = at.base in
        let finds_here : FindsGreatest (base + 1) w g (suc d) (begins_test (base + 1) w through) greatest =
        subst (λ k. FindsGreatest (base + 1) w g k (begins_test (base + 1) w through) greatest) number
        (subst (λ t. FindsGreatest (base + 1) w g at.level t greatest) tests finds) in
        let places_here = places_as letter at.level d (base + 1) w g through count (Var (base + 1 + 2)) again coord insert number agains
        coords places in
        let code_is : code ≡ greatest ++ Set base (guarded_product count (Width (Var (base + 1 + 2)))) ∷ insert =
        codes ∙ ap (λ t. (greatest ++ t ∷ []) ++ insert) totals
        ∙ append_assoc greatest (Set base (guarded_product count (Width (Var (base + 1 + 2)))) ∷ []) insert in
        subst (λ k. Does c k s (LeavesLevel nothing letters sizes table w g d base s) (RefusesLevel letters sizes table d s)) (sym code_is)
        (counted_level letters rest letter slotted w g d through base count bounded left chain nothing sizes table may s dr greatest
        insert finds_here places_here
        c)

pub full_of : (letter : Letter) (full : (properties letter).full ≡ true) (at site : DrainSite) (through : ℕ)
    (count test coord : KExpr) (total : KStmt) (refuse insert code : List KStmt)
    → Below at.base count → site ≡ rows_of at → test ≡ begins_test site.base site.workspace through
    → coord ≡ At (Key at.workspace (at.level - 1)) (Var site.base)
    → total ≡ Set at.base (guarded_product count (At (Dimension 0 at.level) (Num 0))) → refuse ≡ guard_code at.base
    → PlacesRows meaning letter site.level site.base site.workspace site.list count (Num 0) test coord insert
    → code ≡ ((total ∷ []) ++ refuse) ++ insert
    → DrainsOf letter at.level through at.workspace at.list at.base count code
full_of letter full at site through count test coord total refuse insert code bounded is =
    subst (λ (s : DrainSite). test ≡ begins_test s.base s.workspace through
    → coord ≡ At (Key at.workspace (at.level - 1)) (Var s.base)
    → total ≡ Set at.base (guarded_product count (At (Dimension 0 at.level) (Num 0))) → refuse ≡ guard_code at.base
    → PlacesRows meaning letter s.level s.base s.workspace s.list count (Num 0) test coord insert
    → code ≡ ((total ∷ []) ++ refuse) ++ insert
    → DrainsOf letter at.level through at.workspace at.list at.base count code) (sym is) here
  where
    here : test ≡ begins_test (at.base + 1) at.workspace through → coord ≡ At (Key at.workspace (at.level - 1)) (Var (at.base + 1))
        → total ≡ Set at.base (guarded_product count (At (Dimension 0 at.level) (Num 0))) → refuse ≡ guard_code at.base
        → PlacesRows meaning letter at.level (at.base + 1) at.workspace at.list count (Num 0) test coord insert
        → code ≡ ((total ∷ []) ++ refuse) ++ insert
        → DrainsOf letter at.level through at.workspace at.list at.base count code
    here tests coords totals refuses places codes letters rest d number left chain c nothing sizes table may s dr =
        let w = at.workspace in let g = at.list in let base = at.base in
        let places_here = places_as letter at.level d (base + 1) w g through count (Num 0) test coord insert number tests coords places in
        let code_is : code ≡ Set base (guarded_product count (At (Dimension 0 (suc d)) (Num 0))) ∷ (guard_code base ++ insert) =
        codes ∙ ap (λ t. ((t ∷ []) ++ refuse) ++ insert)
        (totals ∙ ap (λ k. Set base (guarded_product count (At (Dimension 0 k) (Num 0)))) number)
        ∙ ap (λ r. ((Set base (guarded_product count (At (Dimension 0 (suc d)) (Num 0))) ∷ []) ++ r) ++ insert) refuses in
        subst (λ k. Does c k s (LeavesLevel nothing letters sizes table w g d base s) (RefusesLevel letters sizes table d s)) (sym code_is)
        (full_level letters rest letter full w g d through base count insert bounded left chain places_here c nothing sizes table may s dr)
