use Rattle.std.specs.Prelude.{ℕ, List, ◌++◌, codes}
use Rattle.std.specs.Fmt.{decimal}
use Rattle.text_lines.proofs.PutPieces.{printed, refused, then_printed}
use Rattle.storage_text.proofs.store.put_title.Goals as goal

pub returns-in_err-put_all : goal.returns-in_err-put_all
returns-in_err-put_all g c =
    let w : List ℕ = c.args.name.now in
    refused c.from_residual.result c.in_err-put_all.field-0.0 _ _ (codes "T") (decimal c.args.number ++ (codes " = " ++ w))
    c.from_residual.ensures.1 c.in_err-put_all.ensures.part

pub returns-in_err-put_u64 : goal.returns-in_err-put_u64
returns-in_err-put_u64 g c =
    let w : List ℕ = c.args.name.now in
    then_printed _ _ _ _ (codes "T") (decimal c.args.number ++ (codes " = " ++ w)) c.in_ok-put_all.ensures.whole
    (refused c.from_residual-in_err-put_u64.result c.in_err-put_u64.field-0.0 _ _ (decimal c.args.number) (codes " = " ++ w)
    c.from_residual-in_err-put_u64.ensures.1 c.in_err-put_u64.ensures.part)

pub returns-in_err-put_all-2 : goal.returns-in_err-put_all-2
returns-in_err-put_all-2 g c =
    let w : List ℕ = c.args.name.now in
    then_printed _ _ _ _ (codes "T") (decimal c.args.number ++ (codes " = " ++ w)) c.in_ok-put_all.ensures.whole
    (then_printed _ _ _ _ (decimal c.args.number) (codes " = " ++ w) c.in_ok-put_u64.ensures.whole
    (refused c.from_residual-in_err-put_all-2.result c.in_err-put_all-2.field-0.0 _ _ (codes " = ") w
    c.from_residual-in_err-put_all-2.ensures.1 c.in_err-put_all-2.ensures.part))

pub returns : goal.returns
returns g c =
    let w : List ℕ = c.args.name.now in
    then_printed _ _ _ _ (codes "T") (decimal c.args.number ++ (codes " = " ++ w)) c.in_ok-put_all.ensures.whole
    (then_printed _ _ _ _ (decimal c.args.number) (codes " = " ++ w) c.in_ok-put_u64.ensures.whole
    (then_printed _ _ _ _ (codes " = ") w c.in_ok-put_all-2.ensures.whole
    (printed _ _ _ _ c.put_all-3.ensures.whole c.put_all-3.ensures.part)))
