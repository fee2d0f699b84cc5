-- The outcome of the calls on a file by the book that is named: those of the book; or 101, a number of ours, before all else (decision 420).
use Rattle.std.specs.Prelude.{ℕ, List, None, Option, Some}
use Rattle.sequence.specs.Rounded.{rounded_in}
use Rattle.attribute_call.specs.declared.Kind.{Kind}
use Rattle.attribute_call.specs.Attribute as attribute
use Rattle.attribute_call.specs.declared.Answer as attribute-answer
use Rattle.signature.specs.Signature as signature
use Rattle.signature.specs.declared.Answer as signature-answer
use Rattle.labels.specs.Labels as labels
use Rattle.labels.specs.declared.Answer as labels-answer
use Rattle.law_reading.specs.State.{Room}
use Rattle.law_reading.specs.Reading.{Answer, refused, reading}
use Rattle.book.specs.declared.Book.{Book}

unfoldable pub attribute_by : Option Book → List ℕ → Kind → ℕ → List ℕ → attribute-answer.Answer
attribute_by (Some book) file kind place name = attribute.attribute_of book file kind place name
attribute_by None file kind place name = attribute.refused 101

unfoldable pub signature_by : Option Book → List ℕ → signature-answer.Answer
signature_by (Some book) file = signature.signature_of book file
signature_by None file = signature.refused 101 0

unfoldable pub reading_by : Option Book → Room → List ℕ → Answer
reading_by (Some book) room file = reading book room file
reading_by None room file = refused 101 0

-- how many decimals an accepted reading reports
unfoldable pub rounded_by : Option Book → List ℕ → ℕ
rounded_by (Some book) file = rounded_in book file
rounded_by None file = 0

unfoldable pub label_named_by : Option Book → List ℕ → List ℕ → labels-answer.Answer
label_named_by (Some book) file name = labels.label_named book file name
label_named_by None file name = labels.refused 101

unfoldable pub label_at_by : Option Book → List ℕ → ℕ → labels-answer.Answer
label_at_by (Some book) file i = labels.label_at book file i
label_at_by None file i = labels.refused 101
