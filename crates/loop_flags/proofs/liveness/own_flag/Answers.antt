use Rattle.std.specs.Prelude.{◌≡◌, nat_eq, false, [], Some, slice_get, slice_index_or}
use Rattle.std.proofs.Common.{◌∙◌, sym, subst, arith}
use Rattle.std.proofs.lemmas.Bool.Decides.{nat_tests}
use Rattle.std.proofs.lemmas.Option.{slice_get-get_or}
use Rattle.kernel_code.specs.declared.syntax.KExpr.{Var}
use Rattle.index_notation.specs.declared.syntax.Expr.{Access}
use Rattle.loop_code.specs.Parts.{is_live}
use Rattle.term_code.specs.declared.places.AccessPlace.{AccessPlace}
use Rattle.term_code.specs.Places.{no_access}
use Rattle.term_code.proofs.PresenceLaws.{tells_flag}
use Rattle.loop_flags.specs.Told.{TellsOf}
use Rattle.loop_flags.proofs.FlagParts.{live_apart, live_given, live_there}
use Rattle.loop_flags.proofs.liveness.own_flag.Goals as goal

pub returns-then-found-access : goal.returns-then-found-access
returns-then-found-access c =
    let apart : nat_eq c.args.found c.args.access ≡ false = grind (arith, nat_tests) in
    live_apart c.args.places.now c.args.told.now c.args.found c.args.access apart

pub returns-in-Some : goal.returns-in-Some
returns-in-Some c =
    let same : c.args.found ≡ c.args.access = omega arith in
    subst (λ k. TellsOf c.args.places.now c.args.told.now [] (λ P. is_live P (Access c.args.found) k) c.in-Some.flag) same
    (live_given c.args.places.now c.args.told.now c.args.found c.in-Some.flag (sym c.in_ok-flag.ensures ∙ c.in-Some.is))

pub returns-in-None : goal.returns-in-None
returns-in-None c =
    let places = c.args.places.now in
    let told = c.args.told.now in
    let j = c.args.found in
    let p : AccessPlace = slice_index_or c.as_slice.result.now j no_access in
    let at : slice_get places.accesses j ≡ Some p =
    subst (λ ps. slice_get places.accesses j ≡ Some (slice_index_or ps j no_access)) (sym c.as_slice.ensures)
    (slice_get-get_or places.accesses j no_access c.requires) in
    let same : j ≡ c.args.access = omega arith in
    subst (λ k. TellsOf places told [] (λ P. is_live P (Access j) k) (Var p.cursor)) same
    (live_there places told j (Var p.cursor) (sym c.in_ok-flag.ensures ∙ c.in-None.is) (tells_flag places j p at))
