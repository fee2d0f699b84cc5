-- `product::pairs` meets its contract: its columns are those of `Columns`, and so is their sum.
use Prim.Native.Nat.{ℕ, ◌+◌, ◌*◌, ◌/◌, ◌%◌, ◌^◌}
use mathlib.Core.Path.{◌≡◌, ◌∙◌}
use native.Mathlib.Omega.{arith}
use lib.Pow.{shl_exact}
use Rattle.product.proofs.Columns.{first, second, third, carried, fourth, product, times_is, fits_as, second_fits, third_fits, carried_fits, fourth_fits}
use Rattle.product.proofs.pairs.Goals as goal

abbrev B : ℕ
B = 65536

pub overflow_add-t : goal.overflow_add-t
overflow_add-t c =
    let second_is : c.halves.result + c.halves-w.result / B ≡ second B c.args.a c.args.b =
    let low-b = c.low_half-b0.ensures in
    λ i. times_is c.halves.ensures c.high_half-a1.ensures low-b i
    + times_is c.halves-w.ensures c.low_half-a0.ensures low-b i / B in
    let start = c.ranges in
    record { fits = fits_as second_is (second_fits 65535 start.a.fits start.b.fits) }

pub overflow_add-u : goal.overflow_add-u
overflow_add-u c =
    let second_is : c.halves.result + c.halves-w.result / B ≡ second B c.args.a c.args.b =
    let low-b = c.low_half-b0.ensures in
    λ i. times_is c.halves.ensures c.high_half-a1.ensures low-b i
    + times_is c.halves-w.ensures c.low_half-a0.ensures low-b i / B in
    let third-is : c.low_half.result + c.halves-2.result ≡ third B c.args.a c.args.b =
    λ i. (c.low_half.ensures ∙ (λ j. second_is j % B)) i
    + times_is c.halves-2.ensures c.low_half-a0.ensures c.high_half-b1.ensures i in
    let start = c.ranges in
    record { fits = fits_as third-is (third_fits 65535 start.a.fits start.b.fits) }

pub overflow_add-hi : goal.overflow_add-hi
overflow_add-hi c =
    let second_is : c.halves.result + c.halves-w.result / B ≡ second B c.args.a c.args.b =
    let low-b = c.low_half-b0.ensures in
    λ i. times_is c.halves.ensures c.high_half-a1.ensures low-b i
    + times_is c.halves-w.ensures c.low_half-a0.ensures low-b i / B in
    let carried-is : c.halves-3.result + (c.halves.result + c.halves-w.result / B) / B
    ≡ carried B c.args.a c.args.b =
    λ i. times_is c.halves-3.ensures c.high_half-a1.ensures c.high_half-b1.ensures i
    + second_is i / B in
    let start = c.ranges in
    record { fits = fits_as carried-is (carried_fits 65535 start.a.fits start.b.fits) }

pub overflow_add-hi-2 : goal.overflow_add-hi-2
overflow_add-hi-2 c =
    let second_is : c.halves.result + c.halves-w.result / B ≡ second B c.args.a c.args.b =
    let low-b = c.low_half-b0.ensures in
    λ i. times_is c.halves.ensures c.high_half-a1.ensures low-b i
    + times_is c.halves-w.ensures c.low_half-a0.ensures low-b i / B in
    let third-is : c.low_half.result + c.halves-2.result ≡ third B c.args.a c.args.b =
    λ i. (c.low_half.ensures ∙ (λ j. second_is j % B)) i
    + times_is c.halves-2.ensures c.low_half-a0.ensures c.high_half-b1.ensures i in
    let carried-is : c.halves-3.result + (c.halves.result + c.halves-w.result / B) / B
    ≡ carried B c.args.a c.args.b =
    λ i. times_is c.halves-3.ensures c.high_half-a1.ensures c.high_half-b1.ensures i
    + second_is i / B in
    let start = c.ranges in
    record { fits = fits_as (λ i. carried-is i + third-is i / B) (fourth_fits 65535 start.a.fits start.b.fits) }

pub returns : goal.returns
returns c =
    let second_is : c.halves.result + c.halves-w.result / B ≡ second B c.args.a c.args.b =
    let low-b = c.low_half-b0.ensures in
    λ i. times_is c.halves.ensures c.high_half-a1.ensures low-b i
    + times_is c.halves-w.ensures c.low_half-a0.ensures low-b i / B in
    let third-is : c.low_half.result + c.halves-2.result ≡ third B c.args.a c.args.b =
    λ i. (c.low_half.ensures ∙ (λ j. second_is j % B)) i
    + times_is c.halves-2.ensures c.low_half-a0.ensures c.high_half-b1.ensures i in
    let carried-is : c.halves-3.result + (c.halves.result + c.halves-w.result / B) / B
    ≡ carried B c.args.a c.args.b =
    λ i. times_is c.halves-3.ensures c.high_half-a1.ensures c.high_half-b1.ensures i
    + second_is i / B in
    let first_is : c.low_half-2.result ≡ first B c.args.a c.args.b % B =
    c.low_half-2.ensures
    ∙ (λ i. times_is c.halves-w.ensures c.low_half-a0.ensures c.low_half-b0.ensures i % B) in
    (λ i. (carried-is i + third-is i / B) * 2 ^ 32 % 2 ^ 64
    + (third-is i * B % 2 ^ 32 + first_is i))
    ∙ (λ i. shl_exact {a = fourth B c.args.a c.args.b} 32 32 64 (fourth_fits 65535 c.ranges.a.fits c.ranges.b.fits) (omega arith) i
    + (third B c.args.a c.args.b * B % 2 ^ 32 + first B c.args.a c.args.b % B))
    ∙ product 65535 c.args.a c.args.b
