use Rattle.std.proofs.Common.{◌≡◌, ◌∙◌, ◌<◌, ◌^◌, ℕ, ℤ, pos, Less, nat_cmp, Some, refl, sym, ap, subst, arith, w64}
use Rattle.std.specs.Ordering.{ord_min}
use Rattle.std.specs.Cmp.{nat_cmp_is}
use Rattle.std.proofs.Math.Facts.{to_z_pos}
use Rattle.clap.specs.Words.{NarrowsTo}
use Rattle.clap.specs.declared.builder.value_parser.ValueParser.{ValueParser}
use Rattle.clap.specs.declared.builder.value_parser.ValueParser.TheVariants.{Unsigned}
use Rattle.command_line.proofs.number_parser.Goals as goal

-- the limit is below the greatest number of the type
narrowed : (n : ℕ) → n < 2 ^ 63 → ord_min nat_cmp 18446744073709551615 n ≡ n
narrowed n small = rw (sym (nat_cmp_is n 18446744073709551615 Less (omega (arith, small)))) refl

limited : (n : ℕ) → n < 2 ^ 63 → (p r : ValueParser) (low high : ℤ) → p ≡ Unsigned 0 18446744073709551615 → low ≡ pos 0 → high ≡ pos n
    → NarrowsTo p (Some low) (Some high) r → r ≡ Unsigned 0 n
limited limit small p r low high a b c n =
    let q : NarrowsTo (Unsigned 0 18446744073709551615) (Some low) (Some high) r = subst (λ x. NarrowsTo x (Some low) (Some high) r) a n in
    let s : NarrowsTo (Unsigned 0 18446744073709551615) (Some (pos 0)) (Some high) r =
    subst (λ x. NarrowsTo (Unsigned 0 18446744073709551615) (Some x) (Some high) r) b q in
    let t : NarrowsTo (Unsigned 0 18446744073709551615) (Some (pos 0)) (Some (pos limit)) r =
    subst (λ x. NarrowsTo (Unsigned 0 18446744073709551615) (Some (pos 0)) (Some x) r) c s in
    t ∙ ap (Unsigned 0) (narrowed limit small)

pub returns : goal.returns
returns c =
    let small : c.args.greatest < 2 ^ 63 = c.requires in
    let high = c.new.ensures.end ∙ to_z_pos w64 (omega (arith, small)) in
    limited c.args.greatest small _ _ _ _ c.value_parser.ensures c.new.ensures.start high c.range.ensures
