-- `inspect::containers_ok` meets its contract: each test is a part of `ok_containers`, in its order.
use Rattle.sheet.proofs.Conditions.{container_ok}
use Rattle.sheet.specs.Valid.{ok_containers}
use Rattle.base.proofs.And.{ands}
use Rattle.std.proofs.Common.{is_some, Some, sym, ap, ◌∙◌}
use mathlib.Core.Bool.{true≢false}
use Rattle.inspect.proofs.containers_ok.Goals.{then-lengths_ok, else-lengths_ok}
use Rattle.inspect.proofs.containers_ok.Goals as goal

pub flat_ok-requires : goal.flat_ok-requires
flat_ok-requires c =
    let p = c.requires in
    let s = c.in-Some-true in
    let r = c.container_ok.ensures in
    (p.0, p.1, (container_ok _ _ _ _ _ (sym r.0 ∙ ap is_some s.is)).inside, r.1 (s.is ∙ ap Some s.field-0-test))

pub lengths_ok-requires : goal.lengths_ok-requires
lengths_ok-requires c = let p = c.requires in (p.0, p.1, (container_ok _ _ _ _ _ (sym c.container_ok.ensures.0 ∙ ap is_some c.in-Some-false.is)).inside)

pub bodies_ok-requires : goal.bodies_ok-requires
bodies_ok-requires c = let p = c.requires in (p.0, p.1, (container_ok _ _ _ _ _ (sym c.container_ok.ensures.0 ∙ ap is_some c.in-Some-false.is)).inside)

pub returns-in-None : goal.returns-in-None
unfolding ok_containers
returns-in-None c = let k = sym c.container_ok.ensures.0 ∙ ap is_some c.in-None.is in simp (k, ands)

pub returns-in-Some-true : goal.returns-in-Some-true
unfolding ok_containers
returns-in-Some-true c = let k = sym c.container_ok.ensures.0 ∙ ap is_some c.in-Some-true.is in simp (k, ands) c.flat_ok.ensures

pub returns-then-blocks_ok : goal.returns-then-blocks_ok
unfolding ok_containers
returns-then-blocks_ok c =
    let k = sym c.container_ok.ensures.0 ∙ ap is_some c.in-Some-false.is in
    elim c.if-lengths_ok.branch [
      | then-lengths_ok w ↦
          let l = sym c.lengths_ok.ensures ∙ w.if-lengths_ok.true in
          let b = sym w.blocks_ok.ensures ∙ sym w.value-is ∙ c.if-blocks_ok.true in
          simp (k, l, b, ands) c.bodies_ok.ensures
      | else-lengths_ok w ↦ absurd (true≢false (sym c.if-blocks_ok.true ∙ w.value-is ∙ w.if-lengths_ok.false))
    ]

pub returns-else-blocks_ok : goal.returns-else-blocks_ok
unfolding ok_containers
returns-else-blocks_ok c =
    let k = sym c.container_ok.ensures.0 ∙ ap is_some c.in-Some-false.is in
    elim c.if-lengths_ok.branch [
      | then-lengths_ok w ↦
          let l = sym c.lengths_ok.ensures ∙ w.if-lengths_ok.true in
          let b = sym w.blocks_ok.ensures ∙ sym w.value-is ∙ c.if-blocks_ok.false in
          simp (k, l, b, ands) c.if-blocks_ok.false
      | else-lengths_ok w ↦ let l = sym c.lengths_ok.ensures ∙ w.if-lengths_ok.false in simp (k, l, ands) (w.value-is ∙ w.if-lengths_ok.false)
    ]
