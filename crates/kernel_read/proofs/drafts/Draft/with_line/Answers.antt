use Rattle.std.specs.Prelude.{◌≡◌, Bool, true, false}
use Rattle.kernel_read.proofs.DraftLines.{NoFront, list_follows, ok_follows, workspace_follows}
use Rattle.kernel_read.proofs.drafts.Draft.with_line.Goals as goal
use Rattle.kernel_read.proofs.drafts.Draft.with_line.Goals.{then-is_front+in_default+in_default-lists_in, else-is_front}

pub returns-in-Some : goal.returns-in-Some
returns-in-Some c =
    let found = c.in-Some.ensures in
    workspace_follows c.args.self c.args.line.now c.in-Some.keys c.push.new.self c.requires.fits (c.is_front.ensures.0 c.if-is_front.true)
    found.0 found.1.0 found.1.1.0 found.1.1.1.0 found.1.1.1.1 c.in_ok-push.ensures.ok

pub returns-in-Some-lists_in : goal.returns-in-Some-lists_in
returns-in-Some-lists_in c =
    let found = c.in-Some-lists_in.ensures in
    list_follows c.args.self c.args.line.now c.in-Some-lists_in.lists c.requires.fits (c.is_front.ensures.0 c.if-is_front.true) found.0
    found.1.0 found.1.1

pub returns : goal.returns
returns c =
    ok_follows c.args.self c.args.line.now c.with_body_line.result c.requires.fits c.requires.line
    (elim c.if-is_front.branch as (λ b. NoFront c.args.self c.args.line.now) [
      | then-is_front+in_default+in_default-lists_in w ↦
          record { workspace = λ at_front. w.in_default.ensures; list = λ at_front. w.in_default-lists_in.ensures }
      | else-is_front w ↦
          record {
            workspace = λ at_front. absurd (apart (c.is_front.ensures.1 at_front) w.if-is_front.false);
            list = λ at_front. absurd (apart (c.is_front.ensures.1 at_front) w.if-is_front.false);
          }
    ]) c.with_body_line.ensures
  where
    apart : {b : Bool} → b ≡ true → b ≡ false → ⊥
    apart is isnt = cc
