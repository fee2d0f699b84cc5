-- The pass over the commands: what is found at the command asked, once it is met, and what is answered at the end.
use Rattle.std.specs.Prelude.{None, Option, Some}
use Rattle.std.specs.Prelude.{ℕ, List, eqb}
use Rattle.base.specs.Choose.{pick}
use Rattle.book.specs.declared.Book.{Book}
use Rattle.sequence.specs.declared.Placed.{Placed}
use Rattle.attribute_call.specs.Attribute.{refused, answer_at}
use Rattle.attribute_call.specs.declared.Answer.{Answer}
use Rattle.attribute_call.specs.declared.Heard.{Heard}
use Rattle.attribute_call.specs.declared.Kind.{Kind}

-- a command more, h being what is heard before it
unfoldable pub met : Book → List ℕ → Kind → ℕ → Heard → Placed → Option Answer → Option Answer
met book file kind place h c (Some a) = Some a
met book file kind place h c None = pick (eqb c.place place) (Some (answer_at book file kind c h)) None

-- no command more: 22 where none was asked
unfoldable pub closing : Option Answer → Answer
closing None = refused 22
closing (Some a) = a

unfoldable pub judged : ℕ → Option Answer → Answer
judged number found = pick (eqb number 0) (closing found) (refused number)
