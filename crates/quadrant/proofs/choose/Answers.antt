-- `quadrant::choose` meets its contract: the rule's only least candidate is the first that wins over all four.
use mathlib.Core.Path.{sym, ap, ◌∙◌}
use mathlib.Core.List.{[], ◌∷◌}
use denote.Ref.{Bor}
use Rattle.std.proofs.Common.{rules, Some, None}
use Rattle.std.specs.Option.{option_map}
use Rattle.std.proofs.lemmas.Iterator.{YieldsList-from_slice}
use Rattle.std.proofs.lemmas.Iterator.Search.{find_from_yields_List}
use Rattle.quadrant.specs.Candidates.{wins}
use Rattle.quadrant.specs.declared.Candidate.{Candidate}
use Rattle.quadrant.proofs.Chosen.{Four, found}
use Rattle.quadrant.proofs.choose.Goals as goal

pub returns-in_err-chosen : goal.returns-in_err-chosen
returns-in_err-chosen c =
    let l = c.meant.result ∷ c.meant-2.result ∷ c.meant-3.result ∷ c.meant-4.result ∷ [] in
    let test = λ (d : Candidate). wins d l in
    let first = find_from_yields_List test c.find.new.self _ _ c.find.ensures.ran (YieldsList-from_slice l cc) (λ x b q k. search rules) in
    let a = c.args in
    let four : Four a.clockwise a.start a.end a.i a.j c.meant.result c.meant-2.result c.meant-3.result c.meant-4.result =
    record { first = c.meant.ensures; second = c.meant-2.ensures; third = c.meant-3.ensures; fourth = c.meant-4.ensures } in
    c.from_residual.ensures ∙ found four None (sym (ap (option_map (λ (x : Bor Candidate). x.now)) c.in_err-chosen.was) ∙ first)

pub returns : goal.returns
returns c =
    let l = c.meant.result ∷ c.meant-2.result ∷ c.meant-3.result ∷ c.meant-4.result ∷ [] in
    let test = λ (d : Candidate). wins d l in
    let first = find_from_yields_List test c.find.new.self _ _ c.find.ensures.ran (YieldsList-from_slice l cc) (λ x b q k. search rules) in
    let a = c.args in
    let four : Four a.clockwise a.start a.end a.i a.j c.meant.result c.meant-2.result c.meant-3.result c.meant-4.result =
    record { first = c.meant.ensures; second = c.meant-2.ensures; third = c.meant-3.ensures; fourth = c.meant-4.ensures } in
    found four (Some c.in_ok-chosen.chosen.now) (sym (ap (option_map (λ (x : Bor Candidate). x.now)) c.in_ok-chosen.was) ∙ first)
