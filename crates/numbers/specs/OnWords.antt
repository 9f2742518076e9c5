-- What is proved of words holds of every number taken by its remainder: what the ghost members of an arithmetic of words cite.
use Rattle.std.specs.Prelude.{◌≡◌, ℕ, ◌%◌, ◌<◌, ◌^◌}
use Rattle.std.proofs.Common.{◌∙◌, sym, ap, lit<}
use Rattle.std.proofs.Math.Nat.{mod-eq_of_lt}
use Rattle.std.proofs.lemmas.Nat.{mod_below}
use Rattle.numbers.specs.Arithmetic.{Arithmetic, WordLaws, Laws, MinusLaws, on_words}

-- a remainder is a word, and a word is its own
fits : (x : ℕ) → x % 2 ^ 64 < 2 ^ 64
fits x = mod_below x (2 ^ 64) (lit< tt)

own : (x : ℕ) → x < 2 ^ 64 → x % 2 ^ 64 ≡ x
own x h = mod-eq_of_lt h

pub laws_on_words : (a : Arithmetic) → WordLaws a → Laws (on_words a)
laws_on_words a laws = record {
  zero_fits = laws.zero_fits;
  one_fits = laws.one_fits;
  plus_fits = λ x y. laws.plus_fits (x % 2 ^ 64) (y % 2 ^ 64) (fits x) (fits y);
  times_fits = λ x y. laws.times_fits (x % 2 ^ 64) (y % 2 ^ 64) (fits x) (fits y);
  plus_comm = λ x y. laws.plus_comm (x % 2 ^ 64) (y % 2 ^ 64) (fits x) (fits y);
  plus_assoc = λ x y z.
      ap (λ n. a.plus n (z % 2 ^ 64)) (own _ (laws.plus_fits (x % 2 ^ 64) (y % 2 ^ 64) (fits x) (fits y)))
      ∙ laws.plus_assoc (x % 2 ^ 64) (y % 2 ^ 64) (z % 2 ^ 64) (fits x) (fits y) (fits z)
      ∙ sym (ap (a.plus (x % 2 ^ 64)) (own _ (laws.plus_fits (y % 2 ^ 64) (z % 2 ^ 64) (fits y) (fits z))));
  times_comm = λ x y. laws.times_comm (x % 2 ^ 64) (y % 2 ^ 64) (fits x) (fits y);
  times_assoc = λ x y z.
      ap (λ n. a.times n (z % 2 ^ 64)) (own _ (laws.times_fits (x % 2 ^ 64) (y % 2 ^ 64) (fits x) (fits y)))
      ∙ laws.times_assoc (x % 2 ^ 64) (y % 2 ^ 64) (z % 2 ^ 64) (fits x) (fits y) (fits z)
      ∙ sym (ap (a.times (x % 2 ^ 64)) (own _ (laws.times_fits (y % 2 ^ 64) (z % 2 ^ 64) (fits y) (fits z))));
  plus_zero = λ x h. ap (a.plus (x % 2 ^ 64)) (own a.zero laws.zero_fits) ∙ ap (λ n. a.plus n a.zero) (own x h) ∙ laws.plus_zero x h;
  times_one = λ x h. ap (a.times (x % 2 ^ 64)) (own a.one laws.one_fits) ∙ ap (λ n. a.times n a.one) (own x h) ∙ laws.times_one x h;
  times_zero = λ x. ap (a.times (x % 2 ^ 64)) (own a.zero laws.zero_fits) ∙ laws.times_zero (x % 2 ^ 64) (fits x);
  distributes = λ x y z.
      ap (a.times (x % 2 ^ 64)) (own _ (laws.plus_fits (y % 2 ^ 64) (z % 2 ^ 64) (fits y) (fits z)))
      ∙ laws.distributes (x % 2 ^ 64) (y % 2 ^ 64) (z % 2 ^ 64) (fits x) (fits y) (fits z)
      ∙ sym (ap (λ n. a.plus n ((on_words a).times x z % 2 ^ 64)) (own _ (laws.times_fits (x % 2 ^ 64) (y % 2 ^ 64) (fits x) (fits y)))
      ∙ ap (a.plus ((on_words a).times x y)) (own _ (laws.times_fits (x % 2 ^ 64) (z % 2 ^ 64) (fits x) (fits z))));
}

pub minus_laws_on_words : (a : Arithmetic) → WordLaws a → MinusLaws a → MinusLaws (on_words a)
minus_laws_on_words a laws minus = record {
  minus_one_fits = minus.minus_one_fits;
  cancels = ap (λ n. a.plus n (a.minus_one % 2 ^ 64)) (own a.one laws.one_fits)
      ∙ ap (a.plus a.one) (own a.minus_one minus.minus_one_fits) ∙ minus.cancels;
}

-- of words both say the same
pub plus_of_words : (a : Arithmetic) (x y : ℕ) → x < 2 ^ 64 → y < 2 ^ 64 → (on_words a).plus x y ≡ a.plus x y
plus_of_words a x y fits_x fits_y = ap (λ n. a.plus n (y % 2 ^ 64)) (own x fits_x) ∙ ap (a.plus x) (own y fits_y)

pub times_of_words : (a : Arithmetic) (x y : ℕ) → x < 2 ^ 64 → y < 2 ^ 64 → (on_words a).times x y ≡ a.times x y
times_of_words a x y fits_x fits_y = ap (λ n. a.times n (y % 2 ^ 64)) (own x fits_x) ∙ ap (a.times x) (own y fits_y)
