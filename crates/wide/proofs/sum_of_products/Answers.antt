-- `wide::sum_of_products` meets its contract: the products are exact, and small enough to be added.
use mathlib.Core.Path.{◌≡◌, ◌∙◌}
use native.Mathlib.Omega.{arith}
use lib.IntN.{◌+ℤ◌, ◌*ℤ◌}
use mir.Facts.{to_z-of_z}
use Rattle.wide.specs.Whole.{whole}
use Rattle.wide.proofs.Sizes.{product_small}
use Rattle.wide.proofs.sum_of_products.Goals as goal

pub sum-requires : goal.sum-requires
sum-requires c =
    let first : whole c.times.result ≡ c.args.a *ℤ c.args.b =
    let f = c.ranges in c.times.ensures ∙ (λ i. to_z-of_z f.a i *ℤ to_z-of_z f.b i) in
    let second : whole c.times-2.result ≡ c.args.c *ℤ c.args.d =
    let f = c.ranges in c.times-2.ensures ∙ (λ i. to_z-of_z f.c i *ℤ to_z-of_z f.d i) in
    record {
      x_bound = rw first (omega (arith, product_small c.args.a c.args.b c.requires.a_bound.0 c.requires.a_bound.1));
      y_bound = rw second (omega (arith, product_small c.args.c c.args.d c.requires.c_bound.0 c.requires.c_bound.1));
    }

pub returns : goal.returns
returns c =
    let first : whole c.times.result ≡ c.args.a *ℤ c.args.b =
    let f = c.ranges in c.times.ensures ∙ (λ i. to_z-of_z f.a i *ℤ to_z-of_z f.b i) in
    let second : whole c.times-2.result ≡ c.args.c *ℤ c.args.d =
    let f = c.ranges in c.times-2.ensures ∙ (λ i. to_z-of_z f.c i *ℤ to_z-of_z f.d i) in
    c.sum.ensures ∙ (λ i. first i +ℤ second i)
