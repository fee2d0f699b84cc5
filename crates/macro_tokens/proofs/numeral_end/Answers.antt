-- `macro_tokens::numeral_end` meets its contract: the place in the rest that `position` finds, counted from the start.
use mathlib.Core.Bool.{not}
use Prim.Native.Nat.{ℕ}
use Rattle.std.proofs.Common.{rules}
use Rattle.std.proofs.lemmas.Iterator.{YieldsList-from_slice}
use Rattle.std.proofs.lemmas.Iterator.Search.{position_from_yields_List}
use Rattle.text.proofs.First.{first_found}
use Rattle.macro_tokens.specs.Words.{numeral}
use Rattle.macro_tokens.proofs.numeral_end.Goals as goal

pub returns : goal.returns
returns c =
    let test = λ (x : ℕ). not (numeral x) in
    let found = position_from_yields_List test _ _ _ c.position.ensures.ran (YieldsList-from_slice c.from_on-rest.result.now cc) (λ x b q k. search rules) in
    first_found test c.args.s.now c.args.from c.from_on-rest.ensures found c.unwrap_or.ensures
