-- `product::times` meets its contract: its columns are those of `Columns`, and so is their sum.
use Prim.Native.Nat.{ℕ, ◌+◌, ◌*◌, ◌/◌, ◌%◌, ◌^◌}
use mathlib.Core.Path.{◌≡◌, ◌∙◌}
use Rattle.product.specs.Wide.{number}
use Rattle.product.proofs.Columns.{first, second, third, carried, product, times_is, fits_as, second_fits, third_fits, carried_fits, fourth_fits}
use Rattle.product.proofs.times.Goals as goal

abbrev B : ℕ
B = 4294967296

pub overflow_add-t : goal.overflow_add-t
overflow_add-t c =
    let second_is : c.pairs.result + c.pairs-w.result / B ≡ second B c.args.a c.args.b =
    let low-b = c.low_pair-b0.ensures in
    λ i. times_is c.pairs.ensures c.high_pair-a1.ensures low-b i
    + times_is c.pairs-w.ensures c.low_pair-a0.ensures low-b i / B in
    let start = c.ranges in
    record { fits = fits_as second_is (second_fits 4294967295 start.a.fits start.b.fits) }

pub overflow_add-u : goal.overflow_add-u
overflow_add-u c =
    let second_is : c.pairs.result + c.pairs-w.result / B ≡ second B c.args.a c.args.b =
    let low-b = c.low_pair-b0.ensures in
    λ i. times_is c.pairs.ensures c.high_pair-a1.ensures low-b i
    + times_is c.pairs-w.ensures c.low_pair-a0.ensures low-b i / B in
    let third-is : c.low_pair.result + c.pairs-2.result ≡ third B c.args.a c.args.b =
    λ i. (c.low_pair.ensures ∙ (λ j. second_is j % B)) i
    + times_is c.pairs-2.ensures c.low_pair-a0.ensures c.high_pair-b1.ensures i in
    let start = c.ranges in
    record { fits = fits_as third-is (third_fits 4294967295 start.a.fits start.b.fits) }

pub overflow_add-result : goal.overflow_add-result
overflow_add-result c =
    let second_is : c.pairs.result + c.pairs-w.result / B ≡ second B c.args.a c.args.b =
    let low-b = c.low_pair-b0.ensures in
    λ i. times_is c.pairs.ensures c.high_pair-a1.ensures low-b i
    + times_is c.pairs-w.ensures c.low_pair-a0.ensures low-b i / B in
    let carried-is : c.pairs-3.result + (c.pairs.result + c.pairs-w.result / B) / B
    ≡ carried B c.args.a c.args.b =
    λ i. times_is c.pairs-3.ensures c.high_pair-a1.ensures c.high_pair-b1.ensures i
    + second_is i / B in
    let start = c.ranges in
    record { fits = fits_as carried-is (carried_fits 4294967295 start.a.fits start.b.fits) }

pub overflow_add-result-2 : goal.overflow_add-result-2
overflow_add-result-2 c =
    let second_is : c.pairs.result + c.pairs-w.result / B ≡ second B c.args.a c.args.b =
    let low-b = c.low_pair-b0.ensures in
    λ i. times_is c.pairs.ensures c.high_pair-a1.ensures low-b i
    + times_is c.pairs-w.ensures c.low_pair-a0.ensures low-b i / B in
    let third-is : c.low_pair.result + c.pairs-2.result ≡ third B c.args.a c.args.b =
    λ i. (c.low_pair.ensures ∙ (λ j. second_is j % B)) i
    + times_is c.pairs-2.ensures c.low_pair-a0.ensures c.high_pair-b1.ensures i in
    let carried-is : c.pairs-3.result + (c.pairs.result + c.pairs-w.result / B) / B
    ≡ carried B c.args.a c.args.b =
    λ i. times_is c.pairs-3.ensures c.high_pair-a1.ensures c.high_pair-b1.ensures i
    + second_is i / B in
    let start = c.ranges in
    record { fits = fits_as (λ i. carried-is i + third-is i / B) (fourth_fits 4294967295 start.a.fits start.b.fits) }

pub returns : goal.returns
unfolding number
returns c =
    let second_is : c.pairs.result + c.pairs-w.result / B ≡ second B c.args.a c.args.b =
    let low-b = c.low_pair-b0.ensures in
    λ i. times_is c.pairs.ensures c.high_pair-a1.ensures low-b i
    + times_is c.pairs-w.ensures c.low_pair-a0.ensures low-b i / B in
    let third-is : c.low_pair.result + c.pairs-2.result ≡ third B c.args.a c.args.b =
    λ i. (c.low_pair.ensures ∙ (λ j. second_is j % B)) i
    + times_is c.pairs-2.ensures c.low_pair-a0.ensures c.high_pair-b1.ensures i in
    let carried-is : c.pairs-3.result + (c.pairs.result + c.pairs-w.result / B) / B
    ≡ carried B c.args.a c.args.b =
    λ i. times_is c.pairs-3.ensures c.high_pair-a1.ensures c.high_pair-b1.ensures i
    + second_is i / B in
    let first_is : c.low_pair-2.result ≡ first B c.args.a c.args.b % B =
    c.low_pair-2.ensures
    ∙ (λ i. times_is c.pairs-w.ensures c.low_pair-a0.ensures c.low_pair-b0.ensures i % B) in
    let start = c.args in
    (λ i. (carried-is i + third-is i / B) * 2 ^ 64 + (third-is i * B % 2 ^ 64 + first_is i))
    ∙ product 4294967295 start.a start.b
