use Rattle.std.specs.Prelude.{◌≡◌, ℕ, ◌+◌, min, false, ◌∷◌, [], ◌++◌}
use Rattle.std.specs.Str.Lines.{strip_carriage_return}
use Rattle.std.proofs.Common.{ap, sym, ◌∙◌}
use Rattle.text_lines.specs.Buffered.{count_of}
use Rattle.text_lines.specs.Cutting.{begun_line, has_long_line, told_lines}
use Rattle.text_lines.proofs.Buffering.{count_more}
use Rattle.text_lines.proofs.CuttingLaws.{begun_feed, free_run}
use Rattle.text_lines.proofs.WholeLines.{short_whole, told_whole}
use Rattle.text_lines.proofs.line_reader.LineReader.pass_line.Goals as goal

begun : (c : goal.After-extend-2) → begun_line c.self.inside.fed.bytes ≡ []
begun c = ap (λ v. begun_line v.text) c.self.view_is ∙ c.requires.between.begun

short : (c : goal.After-extend-2) → has_long_line c.self.inside.fed.bytes ≡ false
short c = ap (λ v. has_long_line v.text) c.self.view_is ∙ c.requires.between.short

text_is : (c : goal.After-extend-2) → c.extend-2.new.self.bytes ≡ (c.self.inside.fed.bytes ++ c.args.whole.now) ++ 10 ∷ []
text_is c = c.extend-2.ensures ∙ ap (λ bytes. bytes ++ 10 ∷ []) c.extend.ensures

told : (c : goal.After-extend-2)
    → told_lines c.extend-2.new.self.bytes ≡ told_lines c.self.inside.fed.bytes ++ strip_carriage_return c.args.whole.now ∷ []
told c =
    ap told_lines (text_is c)
    ∙ told_whole c.self.inside.fed.bytes c.args.whole.now (begun c) (short c) (free_run c.args.whole.now c.requires.free) c.requires.short

still_short : (c : goal.After-extend-2) → has_long_line c.extend-2.new.self.bytes ≡ false
still_short c =
    ap has_long_line (text_is c)
    ∙ short_whole c.self.inside.fed.bytes c.args.whole.now (begun c) (short c) (free_run c.args.whole.now c.requires.free) c.requires.short

ended : (c : goal.After-extend-2) → begun_line c.extend-2.new.self.bytes ≡ []
ended c = ap begun_line (text_is c) ∙ begun_feed (c.self.inside.fed.bytes ++ c.args.whole.now)

pub invariant_of-self : goal.invariant_of-self
invariant_of-self c = record {
  room = c.self.invariant.room;
  fits = c.self.invariant.fits;
  count =
      c.saturating_add-self-inside.ensures
      ∙ ap (λ (n : ℕ). min (n + 1) 18446744073709551615) c.self.invariant.count
      ∙ count_more (told_lines c.self.inside.fed.bytes) (strip_carriage_return c.args.whole.now)
      ∙ ap count_of (sym (told c));
  long = c.self.invariant.long ∙ short c ∙ sym (still_short c);
  begun = λ e. c.self.invariant.begun e ∙ begun c ∙ sym (ended c);
}

pub returns-clause-tells : goal.returns-clause-tells
returns-clause-tells c = record {
  told = told c ∙ ap (λ v. told_lines v.text ++ strip_carriage_return c.args.whole.now ∷ []) c.self.view_is;
  ended = ended c;
  short = still_short c;
}
