-- What the rules ask of a primitive's parameters, in millionths: how many there are, the first five and the last three of them.
use Rattle.std.specs.Prelude.{ℕ, ◌+◌, cond, List, reverse, eqb, ℤ, pos, length, get_or}
use Rattle.decimal.specs.declared.answers.Amount.{Amount}
use Rattle.primitives.specs.declared.Asked.{Asked}

abbrev pub amount : ℤ → Amount
amount z = record { millionths = z }

-- a parameter that is not there
unfoldable pub none : Amount
none = amount (pos 0)

unfoldable pub asked : Amount → List ℤ → Asked
asked absent zs =
    let nth : List ℤ → ℕ → Amount = λ l i. amount (get_or l i absent.millionths) in
    record {
      count = length zs;
      first = nth zs 0;
      second = nth zs 1;
      third = nth zs 2;
      fourth = nth zs 3;
      fifth = nth zs 4;
      antepenult = nth (reverse zs) 2;
      penult = nth (reverse zs) 1;
      last = nth (reverse zs) 0;
    }

-- with one parameter more after them (`added_last`)
unfoldable pub added : Asked → Amount → Asked
added q a =
    record {
      count = q.count + 1;
      first = cond (eqb q.count 0) a q.first;
      second = cond (eqb q.count 1) a q.second;
      third = cond (eqb q.count 2) a q.third;
      fourth = cond (eqb q.count 3) a q.fourth;
      fifth = cond (eqb q.count 4) a q.fifth;
      antepenult = q.penult;
      penult = q.last;
      last = a;
    }
