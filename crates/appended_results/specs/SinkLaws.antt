-- The laws of the sink.
use Rattle.std.specs.Prelude.{◌≡◌, ℕ, suc, false, List, ◌++◌, length, slice_index, refl}
use Rattle.std.proofs.Common.{◌∙◌, ap, arith}
use Rattle.std.proofs.lemmas.List.{length-map, append_assoc}
use Rattle.kernel_code.specs.Meaning.{State}
use Rattle.kernel_code.specs.declared.syntax.Arr.{Arr}
use Rattle.kernel_code.specs.declared.syntax.Arr.TheVariants.{Range, Values, Dimension, Ends, Coordinates, Width, Key, Sums}
use Rattle.kernel_code.specs.declared.syntax.Arr.TheVariants.{ListCoordinates, ListPositions}
use Rattle.level_core.specs.declared.letter.Letter.{Letter}
use Rattle.level_core.specs.Fragments.{IsOf}
use Rattle.format_spec.specs.declared.format.FormatLevel.{FormatLevel}
use Rattle.format_spec.specs.Formats.{letters_of}
use Rattle.tns_io.proofs.PositionLaws.{below_long}
use Rattle.tensor_storage.specs.Laws.{laws}
use Rattle.tensor_storage.specs.Levels.{meaning}
use Rattle.tensor_storage.specs.Storages.{in_level_order}
use Rattle.level_appends.specs.Appended.{IsOfCursor}
use Rattle.level_appends.proofs.Keeping.{level_there}
use Rattle.result_targets.specs.Scratch.{is_of_some_list}
use Rattle.result_targets.specs.Sinks.{SinkLaws}
use Rattle.appended_results.specs.Heads.{letter_at, key_in}
use Rattle.appended_results.specs.Places.{positions_above, rows_above}
use Rattle.appended_results.specs.Levels.{cursor_at, key_at, LevelHolds}
use Rattle.appended_results.specs.Sink.{letters_in, appended_sink}
pub use Rattle.appended_results.specs.declared.sink.AppendedSink.{AppendedSink}

-- a level stays while its variables and its arrays do
pub holds_there : (letters : List Letter) (sizes : List ℕ) (heads : List (List ℕ)) (base e : ℕ) (s t : State)
    → ((y : ℕ) → IsOfCursor (cursor_at base e) y → t.vars y ≡ s.vars y) → ((a : Arr) → IsOf 0 (suc e) a → t.arrays a ≡ s.arrays a)
    → LevelHolds letters sizes heads base e s → LevelHolds letters sizes heads base e t
holds_there letters sizes heads base e s t vars arrays h = record {
  size = λ full. arrays (Dimension 0 (suc e)) (refl, refl) ∙ h.size full;
  appended = λ sparse. level_there meaning laws (letter_at letters e) (slice_index sizes e) (suc e) (cursor_at base e)
      (positions_above letters sizes (key_in heads) (length heads) e) (length heads)
      (rows_above letters sizes (key_in heads) (length heads) e) s t vars arrays (h.appended sparse);
}

not_scratch : (k : ℕ) (a : Arr) → IsOf 0 k a → is_of_some_list a ≡ false
not_scratch k Range h = absurd h
not_scratch k (Values n) h = absurd h
not_scratch k (Dimension n j) h = refl
not_scratch k (Ends n j) h = refl
not_scratch k (Coordinates n j) h = refl
not_scratch k (Width n j) h = refl
not_scratch k (Key n j) h = absurd h
not_scratch k (Sums n) h = absurd h
not_scratch k (ListCoordinates n) h = absurd h
not_scratch k (ListPositions n) h = absurd h

-- there is a kind for each level, and a range
pub many_letters : (levels : List FormatLevel) → length (letters_of levels) ≡ length levels
many_letters levels = length-map levels (λ (level : FormatLevel). level.letter)

pub many_sizes : (levels : List FormatLevel) (ranges : List ℕ) → length (in_level_order levels ranges) ≡ length levels
many_sizes levels ranges = length-map levels (λ (level : FormatLevel). slice_index ranges level.mode)

pub appended_laws : SinkLaws appended_sink
appended_laws = record {
  long = λ k ranges rows row h. below_long (in_level_order k.levels ranges) row.coords h.below ∙ many_sizes k.levels ranges;
  same = λ k a ranges rows s t f g h.
      let many = many_letters k.levels in
      record {
        heads = h.heads;
        are = h.are;
        may = h.may;
        holds = record {
          levels = λ e l.
              holds_there (letters_in k) (in_level_order k.levels ranges) h.heads k.base e s t
              (λ y cursor. f y (record {
                from = (let p = cursor.from in omega (arith, p));
                before = (let p = cursor.before in omega (arith, p, l, many));
              }))
              (λ b of. g.same b (not_scratch (suc e) b of)) (h.holds.levels e l);
          few = h.holds.few;
          last = λ e j l is.
              let w = h.may.is_head.within in
              f (key_at k.base e) (record { from = omega arith; before = omega (arith, l, w, many) }) ∙ h.holds.last e j l is;
        };
        words = h.words;
        held = g.same (Values 0) refl ∙ h.held;
        sums = h.sums;
        zeros = h.zeros;
      };
  more = λ k ranges rows others b count r. record {
    front = r.front;
    rest = r.rest ++ others;
    is = ap (λ rs. rs ++ others) r.is ∙ append_assoc r.front r.rest others;
    refuses = r.refuses;
  };
}
