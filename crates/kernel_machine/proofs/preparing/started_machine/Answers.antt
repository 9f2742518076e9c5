use Rattle.std.proofs.Common.{◌∙◌, ap, refl, map}
use Rattle.format_spec.specs.Formats.{letters_of}
use Rattle.kernel_code.specs.Meaning.{State}
use Rattle.lent_arrays.specs.declared.lent.LentArrays.{LentArrays}
use Rattle.machine_starts.specs.Begun.{begun_result, sizes_lent, with_workspaces, with_lists}
use Rattle.machine_starts.specs.Lending.{lent_of}
use Rattle.kernel_interpreter.specs.Store.{state_of}
use Rattle.kernel_machine.proofs.Starts.{starts_on}
use Rattle.kernel_machine.proofs.preparing.started_machine.Goals as goal

pub returns-clause-starts : goal.returns-clause-starts
returns-clause-starts g c =
    let m = c.new-machine.result in
    let zero = g.S.Semiring.arithmetic.zero in
    let kernel = c.args.kernel.now in
    let letters = letters_of c.args.format.now in
    let lent = c.new-machine.ensures.lent in
    starts_on m c.make_room.new.machine m.lent kernel zero c.args.format.now c.args.ranges.now c.args.operands.now
    (record {
      vars = c.new-machine.ensures.vars;
      own = c.new-machine.ensures.own;
      lent_is = refl;
      turns = c.new-machine.ensures.turns;
    })
    (ap (λ (l : LentArrays). l.ranges.now) lent)
    (ap (λ (l : LentArrays). l.sizes.items) lent ∙ c.in_ok-sizes_lent.ensures ∙ ap (sizes_lent letters) c.requires.sizes)
    (ap (λ (l : LentArrays). map lent_of l.operands.items) lent ∙ c.in_ok-lent_operands.ensures)
    (c.in_ok-make_room.ensures.state ∙ c.in_ok-begin_scratch.ensures
    ∙ ap (λ ws. with_lists kernel.lists (with_workspaces ws 0 (state_of c.begin_result.new.machine))) c.as_slice.ensures
    ∙ ap (λ (s : State). with_lists kernel.lists (with_workspaces kernel.workspaces 0 s)) (c.in_ok-begin_result.ensures
    ∙ ap (λ n. begun_result n letters c.args.sizes.now 1 1 (state_of m)) c.zero.ensures
    ∙ ap (λ ns. begun_result zero letters ns 1 1 (state_of m)) c.requires.sizes))
