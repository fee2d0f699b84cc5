-- `digits::all_digits` meets its contract: what `all` says of each byte.
use Rattle.std.proofs.Common.{◌∙◌, rules}
use Rattle.std.proofs.lemmas.Iterator.{YieldsList-from_slice}
use Rattle.std.proofs.lemmas.Iterator.Search.{all_from_yields_List}
use Rattle.digits.specs.Digits.{is_digit}
use Rattle.digits.proofs.Strings.{digits_all}
use Rattle.digits.proofs.all_digits.Goals as goal

pub returns : goal.returns
returns c =
    all_from_yields_List is_digit _ _ _ c.all.ensures.ran (YieldsList-from_slice c.args.t.now cc) (λ x b q k. search rules) ∙ digits_all c.args.t.now
