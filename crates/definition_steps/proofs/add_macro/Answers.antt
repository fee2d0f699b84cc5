-- `definition_steps::add_macro` meets its contract: the name that the search sought is the text's, and so are the parts that are put.
use Rattle.std.specs.Prelude.{Err}
use Rattle.faults.proofs.Rules.{broken, kept}
use Rattle.command_rules.proofs.Taken.{taken_within, taken_outside}
use Prim.Native.Nat.{◌≤◌}
use mathlib.Core.Path.{◌≡◌, refl, sym, ap, ◌∙◌}
use native.Mathlib.Omega.{arith}
use lib.ListN.{length}
use lib.Seq.{slice}
use Rattle.index.specs.Names.{named}
use Rattle.templates.specs.Templates.{kind_of}
use Rattle.definition_steps.proofs.Texts.{text_end, part_of_file}
use Rattle.definition_steps.proofs.Modelling.{macro_taken, macro_refused, macro_goes}
use borrow.Author.Rules.{rules}
use Rattle.definition_steps.proofs.add_macro.Goals as goal

pub overflow_add-first : goal.overflow_add-first
overflow_add-first c = let a = c.args in
    let p = c.requires in
    omega (arith, text_end a.file.now a.from a.end p.1 p.2 a.name.to (omega (arith, p.3.behind, p.3.inside)), p.2, p.3.ordered)

pub overflow_add-last : goal.overflow_add-last
overflow_add-last c = let a = c.args in
    let p = c.requires in
    omega (arith, text_end a.file.now a.from a.end p.1 p.2 a.name.to (omega (arith, p.3.behind, p.3.inside)), p.2)

pub search_name-found-requires : goal.search_name-found-requires
search_name-found-requires c =
    let a = c.args in
    let p = c.requires in
    let l = text_end a.file.now a.from a.end p.1 p.2 a.name.to (omega (arith, p.3.behind, p.3.inside)) in
    (rw (p.0.is.0, p.0.is.1) at p.0.knows.macros.indexed, omega (arith, p.3.ordered), omega (arith, l, p.2))

pub returns-in_err-region_fault : goal.returns-in_err-region_fault
returns-in_err-region_fault c =
    let a = c.args in
    let p = c.requires in
    let t = part_of_file a.file.now a.from a.end p.1 p.2 a.name.from a.name.to (omega (arith, p.3.behind, p.3.inside)) in (
      refl,
      λ w s is k. let r : c.from_residual.result ≡ Err c.in_err-region_fault.field-0.0 = search rules in rw r (macro_taken w a.p s k a.file.now a.m.now is.0 is.1 _ _ a.deep _
          (ap (named a.file.now a.m.now a.p.macros) t ∙ sym c.search_name-found.ensures ∙ c.in_default.is) _ _ (taken_within c.args.p.graphics c.region_fault.ensures _ (broken c.in_err-region_fault.was))),
    )

pub returns-in_default : goal.returns-in_default
returns-in_default c =
    let a = c.args in
    let p = c.requires in
    let t = part_of_file a.file.now a.from a.end p.1 p.2 a.name.from a.name.to (omega (arith, p.3.behind, p.3.inside)) in (
      refl,
      λ w s is k. macro_taken w a.p s k a.file.now a.m.now is.0 is.1 _ _ a.deep _
          (ap (named a.file.now a.m.now a.p.macros) t ∙ sym c.search_name-found.ensures ∙ c.in_default.is) _ _ (taken_outside c.args.p.graphics c.region_fault.ensures (kept c.in_ok-region_fault.was)),
    )

pub overflow_add-r : goal.overflow_add-r
overflow_add-r c =
    let a = c.args in
    let p = c.requires in
    omega (arith, text_end a.file.now a.from a.end p.1 p.2 a.blocks.to p.3.inside, p.2)

pub returns-in_err-macro_fault : goal.returns-in_err-macro_fault
returns-in_err-macro_fault c =
    let a = c.args in
    let p = c.requires in
    let t = part_of_file a.file.now a.from a.end p.1 p.2 a.name.from a.name.to (omega (arith, p.3.behind, p.3.inside)) in (
      search rules,
      λ w s is k. let r : c.from_residual-in_err-macro_fault.result ≡ Err c.in_err-macro_fault.field-0.0 = search rules in rw r (macro_refused w a.p s k a.file.now a.m.now is.0 is.1 _ _ a.deep _
          (ap (named a.file.now a.m.now a.p.macros) t ∙ sym c.search_name-found.ensures ∙ c.in-Err.is)
          _ (c.kind_of-kind.ensures ∙ ap kind_of (c.part.ensures ∙ sym t)) _ c.put_macro-room.ensures.0 _ c.macro_fault.ensures _ _ (broken c.in_err-macro_fault.was)),
    )

pub overflow_add-p : goal.overflow_add-p
overflow_add-p c =
    let p = c.requires in
    let i = p.0.knows.macros.indexed.tree.inside in
    omega (arith, rw p.0.is.1 at i)

pub returns : goal.returns
returns c =
    let a = c.args in
    let p = c.requires in
    let l : a.name.to ≤ length (slice a.from a.end a.file.now) = omega (arith, p.3.behind, p.3.inside) in
    let t = part_of_file a.file.now a.from a.end p.1 p.2 a.name.from a.name.to l in
    let b = part_of_file a.file.now a.from a.end p.1 p.2 a.name.to a.blocks.to p.3.inside in
    let e = text_end a.file.now a.from a.end p.1 p.2 a.blocks.to p.3.inside in (
      search rules,
      λ w s is k. macro_goes w a.p s k a.file.now a.m.now is.0 is.1 _ _ a.deep _
          (ap (named a.file.now a.m.now a.p.macros) t ∙ sym c.search_name-found.ensures ∙ c.in-Err.is)
          _ (c.kind_of-kind.ensures ∙ ap kind_of (c.part.ensures ∙ sym t)) _ c.put_macro-room.ensures.0 _ c.macro_fault.ensures (kept c.in_ok-macro_fault.was)
          _ (sym t) (sym b) (omega (arith, p.3.behind)) (omega (arith, e, p.2)) _ c.put_macro-room.ensures.1 c.with_macros.ensures,
    )
