use Rattle.std.specs.Prelude.{◌≡◌, ◌&&◌, not, false, Some, slice_get, slice_index_or}
use Rattle.std.proofs.Common.{◌∙◌, sym, ap, subst}
use Rattle.std.proofs.lemmas.Option.{slice_get-get_or}
use Rattle.loop_code.specs.Parts.{here, is_full, is_iterator, is_other, is_some}
use Rattle.index_notation.specs.declared.syntax.Expr.{Access}
use Rattle.term_code.specs.Places.{AccessPlace, no_access}
use Rattle.term_code.proofs.PresenceLaws.{tells_flag, tells_same}
use Rattle.term_code.proofs.presence.full_flag.Goals as goal

pub returns : goal.returns
returns c =
    let places = c.args.places.now in
    let seeks = c.args.seeks.now in
    let k = c.args.access in
    let d : AccessPlace = no_access in
    let p : AccessPlace = slice_index_or c.as_slice.result.now k d in
    let at : slice_get places.accesses k ≡ Some p =
    subst (λ ps. slice_get places.accesses k ≡ Some (slice_index_or ps k d)) (sym c.as_slice.ensures)
    (slice_get-get_or places.accesses k d c.requires) in
    let no : false ≡ is_iterator seeks k = sym c.if-is_iterator.false ∙ c.is_iterator.ensures in
    tells_same places (λ env. is_some (env.cursor k)) (λ env. is_full (is_other seeks) (here env) (Access k)) _
    (λ env. ap (λ b. not b && is_some (env.cursor k)) no) (tells_flag places k p at)
