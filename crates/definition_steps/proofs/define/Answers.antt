-- `definition_steps::define` meets its contract: the template and the parameters are parts of the text; each way out is one case of reading's step.
use Rattle.std.specs.Prelude.{Err}
use Rattle.faults.proofs.Rules.{broken, kept}
use Rattle.command_rules.proofs.Taken.{taken_within, taken_outside}
use mathlib.Core.Path.{◌≡◌, refl, sym, ap, ◌∙◌}
use native.Mathlib.Omega.{arith}
use Rattle.templates.specs.Templates.{kind_of}
use Rattle.definition_steps.proofs.Texts.{text_end, part_of_file}
use Rattle.definition_steps.proofs.Kept.{works_on}
use Rattle.definition_steps.proofs.Working.{works_text}
use Rattle.definition_steps.proofs.Defining.{aperture_taken, aperture_refused, aperture_goes}
use borrow.Author.Rules.{rules}
use Rattle.definition_steps.proofs.define.Goals as goal

pub search_number-found-requires : goal.search_number-found-requires
search_number-found-requires c = rw c.requires.0.is.apertures_are at c.requires.0.knows.apertures.indexed

pub returns-in_err-region_fault : goal.returns-in_err-region_fault
returns-in_err-region_fault c = let a = c.args in (
  refl,
  refl,
  λ w s is k. let r : c.from_residual.result ≡ Err c.in_err-region_fault.field-0.0 = search rules in rw r (aperture_taken w a.p s k a.file.now a.a.now a.m.now a.numbers.now is a.n _ _ _
      (sym c.search_number-found.ensures ∙ c.in_default.is) _ _ (taken_within c.args.p.graphics c.region_fault.ensures _ (broken c.in_err-region_fault.was))),
)

pub returns-in_default : goal.returns-in_default
returns-in_default c = let a = c.args in (
  refl,
  refl,
  λ w s is k. aperture_taken w a.p s k a.file.now a.a.now a.m.now a.numbers.now is a.n _ _ _
      (sym c.search_number-found.ensures ∙ c.in_default.is) _ _ (taken_outside c.args.p.graphics c.region_fault.ensures (kept c.in_ok-region_fault.was)),
)

pub overflow_add-template : goal.overflow_add-template
overflow_add-template c =
    let a = c.args in
    let p = c.requires in
    omega (arith, text_end a.file.now a.from a.end p.1 p.2 a.name.to p.3.named.inside, p.2, p.3.named.ordered)

pub overflow_add-template-2 : goal.overflow_add-template-2
overflow_add-template-2 c =
    let a = c.args in
    let p = c.requires in
    omega (arith, text_end a.file.now a.from a.end p.1 p.2 a.name.to p.3.named.inside, p.2)

pub overflow_add-from : goal.overflow_add-from
overflow_add-from c =
    let a = c.args in
    let p = c.requires in
    omega (arith, text_end a.file.now a.from a.end p.1 p.2 a.parameters.to p.3.given.inside, p.2, p.3.given.ordered)

pub overflow_add-from-2 : goal.overflow_add-from-2
overflow_add-from-2 c =
    let a = c.args in
    let p = c.requires in
    omega (arith, text_end a.file.now a.from a.end p.1 p.2 a.parameters.to p.3.given.inside, p.2)

pub worked-o-requires : goal.worked-o-requires
worked-o-requires c =
    let a = c.args in
    let p = c.requires in
    let l = text_end a.file.now a.from a.end p.1 p.2 a.name.to p.3.named.inside in
    (c.kind_of-kind.ensures ∙ ap kind_of c.part.ensures, rw (p.0.is.file_is, p.0.is.macros_are) at p.0.knows.macros.indexed, omega (arith, p.3.named.ordered), omega (arith, l, p.2))

pub overflow_sub-r : goal.overflow_sub-r
overflow_sub-r c =
    let p = c.requires.0 in
    works_on _ _ _ _ _ _ (c.worked-o.ensures p.state.macros (rw (p.is.file_is, p.is.macros_are) at p.knows.macros)) (rw p.is.numbers_are at p.knows.numbers.fits)

pub returns-in_err-aperture_fault : goal.returns-in_err-aperture_fault
returns-in_err-aperture_fault c =
    let a = c.args in
    let p = c.requires in
    let t = part_of_file a.file.now a.from a.end p.1 p.2 a.name.from a.name.to p.3.named.inside in
    let u = part_of_file a.file.now a.from a.end p.1 p.2 a.parameters.from a.parameters.to p.3.given.inside in
    let k = works_text a.file.now a.m.now a.p.macros _ _ _ _ _ _ a.p.numbers _ (sym t) (c.part-given.ensures ∙ sym u) c.worked-o.ensures in (
      search rules,
      search rules,
      λ w s is knows. let r : c.from_residual-in_err-aperture_fault.result ≡ Err c.in_err-aperture_fault.field-0.0 = search rules in rw r (aperture_refused w a.p s knows a.file.now a.a.now a.m.now a.numbers.now is a.n _ _ _
          (sym c.search_number-found.ensures ∙ c.in-Err.is) _ _ k _ c.put_aperture-room.ensures.0 _ c.aperture_fault.ensures _ _ (broken c.in_err-aperture_fault.was)),
    )

pub overflow_add-p : goal.overflow_add-p
overflow_add-p c =
    let p = c.requires.0 in
    let i = p.knows.apertures.indexed.tree.inside in
    omega (arith, rw p.is.apertures_are at i)

pub returns : goal.returns
returns c =
    let a = c.args in
    let p = c.requires in
    let t = part_of_file a.file.now a.from a.end p.1 p.2 a.name.from a.name.to p.3.named.inside in
    let u = part_of_file a.file.now a.from a.end p.1 p.2 a.parameters.from a.parameters.to p.3.given.inside in
    let k = works_text a.file.now a.m.now a.p.macros _ _ _ _ _ _ a.p.numbers _ (sym t) (c.part-given.ensures ∙ sym u) c.worked-o.ensures in (
      search rules,
      search rules,
      λ w s is knows. aperture_goes w a.p s knows a.file.now a.a.now a.m.now a.numbers.now is a.n _ _ _
          (sym c.search_number-found.ensures ∙ c.in-Err.is) _ _ k _ c.put_aperture-room.ensures.0 _ c.aperture_fault.ensures (kept c.in_ok-aperture_fault.was)
          _ (c.kind_of-kind.ensures ∙ ap kind_of (c.part.ensures ∙ sym t)) _ c.put_aperture-room.ensures.1 (rw c.with_numbers.ensures at c.with_apertures.ensures),
    )
