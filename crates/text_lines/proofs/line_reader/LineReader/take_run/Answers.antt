use Rattle.std.specs.Prelude.{◌≡◌, ℕ, true, not, List, ◌++◌}
use Rattle.std.specs.Str.Lines.{strip_carriage_return}
use Rattle.std.proofs.Common.{arith, ap, sym, ◌∙◌}
use Rattle.text_lines.specs.Buffered.{count_of}
use Rattle.text_lines.specs.Cutting.{begun_line, has_long_line, is_long, told_lines}
use Rattle.text_lines.proofs.Buffering.{not_not, true_of_not}
use Rattle.text_lines.proofs.CuttingLaws.{IsFree, begun_run, free_run, long_run, long_stays, told_run}
use Rattle.text_lines.proofs.line_reader.LineReader.take_run.Goals as goal

pub invariant_of-self : goal.invariant_of-self
invariant_of-self c =
    let long : has_long_line c.self.inside.fed.bytes ≡ true = sym c.self.invariant.long ∙ c.if-self.true in
    let stays = long_stays c.self.inside.fed.bytes c.args.run.now long in
    record {
      room = c.self.invariant.room;
      fits = c.self.invariant.fits;
      count = c.self.invariant.count ∙ ap count_of (sym stays.1) ∙ ap (λ bytes. count_of (told_lines bytes)) (sym c.extend.ensures);
      long = c.self.invariant.long ∙ long ∙ sym (ap has_long_line c.extend.ensures ∙ stays.0);
      begun = λ short. absurd (cc (short));
    }

pub returns-then-self-clause-told : goal.returns-then-self-clause-told
returns-then-self-clause-told c =
    ap told_lines c.extend.ensures
    ∙ (long_stays c.self.inside.fed.bytes c.args.run.now (sym c.self.invariant.long ∙ c.if-self.true)).1
    ∙ ap (λ v. told_lines v.text) c.self.view_is

pub returns-then-self-clause-short : goal.returns-then-self-clause-short
returns-then-self-clause-short c =
    sym (ap (λ bytes. not (has_long_line bytes)) c.extend.ensures ∙ ap not
    (long_stays c.self.inside.fed.bytes c.args.run.now (sym c.self.invariant.long ∙ c.if-self.true)).0)

pub invariant_of-self-2 : goal.invariant_of-self-2
invariant_of-self-2 c =
    let text : List ℕ = c.self.inside.fed.bytes in
    let run : List ℕ = c.args.run.now in
    let free : IsFree run = free_run run c.requires in
    let begun : c.start_line.new.buffer.items ≡ begun_line text = c.start_line.ensures.kept ∙ c.self.invariant.begun c.if-self.false in
    let long : has_long_line c.extend.new.self.bytes ≡ is_long (strip_carriage_return (begun_line text ++ run)) =
    ap has_long_line c.extend.ensures ∙ long_run text run free (sym c.self.invariant.long ∙ c.if-self.false) in
    record {
      room = c.append.ensures.room;
      fits = c.append.ensures.fits;
      count =
          c.self.invariant.count
          ∙ ap count_of (sym (told_run text run free))
          ∙ ap (λ bytes. count_of (told_lines bytes)) (sym c.extend.ensures);
      long = ap not c.append.ensures.short ∙ not_not _ ∙ ap (λ bytes. is_long (strip_carriage_return (bytes ++ run))) begun ∙ sym long;
      begun =
          λ short. c.append.ensures.appended (true_of_not _ short)
          ∙ ap (λ bytes. bytes ++ run) begun
          ∙ sym (ap begun_line c.extend.ensures ∙ begun_run text run free);
    }

pub returns-clause-told : goal.returns-clause-told
returns-clause-told c =
    ap told_lines c.extend.ensures
    ∙ told_run c.self.inside.fed.bytes c.args.run.now (free_run c.args.run.now c.requires)
    ∙ ap (λ v. told_lines v.text) c.self.view_is

pub returns-clause-short : goal.returns-clause-short
returns-clause-short c =
    let text : List ℕ = c.self.inside.fed.bytes in
    let begun : c.start_line.new.buffer.items ≡ begun_line text = c.start_line.ensures.kept ∙ c.self.invariant.begun c.if-self.false in
    not_not _
    ∙ c.append.ensures.short
    ∙ ap (λ bytes. not (is_long (strip_carriage_return (bytes ++ c.args.run.now)))) begun
    ∙ sym (ap (λ bytes. not (has_long_line bytes)) c.extend.ensures ∙ ap not
    (long_run text c.args.run.now (free_run c.args.run.now c.requires) (sym c.self.invariant.long ∙ c.if-self.false)))

pub returns-clause-line : goal.returns-clause-line
returns-clause-line c =
    let text : List ℕ = c.self.inside.fed.bytes in
    let begun : c.start_line.new.buffer.items ≡ begun_line text = c.start_line.ensures.kept ∙ c.self.invariant.begun c.if-self.false in
    λ short. c.append.ensures.appended (grind (arith, short))
    ∙ ap (λ bytes. bytes ++ c.args.run.now) begun
    ∙ sym (ap begun_line c.extend.ensures ∙ begun_run text c.args.run.now (free_run c.args.run.now c.requires))
