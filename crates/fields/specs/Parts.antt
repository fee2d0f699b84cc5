-- How much of a command's text is known, byte by byte: as much as tells where its field is, and whether it is a macro's.
use Rattle.std.specs.Prelude.{ℕ, Bool, true, false, cond, not, eqb}
use Prim.Native.Char.{code}
use Rattle.base.specs.And.{◌and◌}
use Rattle.base.specs.Or.{◌or◌}
use Rattle.digits.specs.Digits.{is_digit}
use Rattle.book.specs.Books.{is_old}
use Rattle.book.specs.declared.Book.{Book}
use Rattle.fields.specs.declared.Part.{Part}
use Rattle.fields.specs.declared.Part.TheVariants.{Start, CodeG, CodeG0, CodeG4, Mark, MarkA, MarkT, Named, Field, Over}

-- after `G4` G04's text begins with this byte: with a digit the code is another one, with `*` there is no text
unfoldable pub begins_text : ℕ → Bool
begins_text b = not (is_digit b or eqb b (code "*"))

-- this byte, which comes next, is in the field
unfoldable pub is_field : Part → ℕ → Bool
is_field Start b = false
is_field CodeG b = false
is_field CodeG0 b = false
is_field CodeG4 b = begins_text b
is_field Mark b = false
is_field MarkA b = false
is_field MarkT b = false
is_field Named b = false
is_field Field b = not (eqb b (code "*"))
is_field Over b = false

unfoldable pub is_over : Part → Bool
is_over Start = false
is_over CodeG = false
is_over CodeG0 = false
is_over CodeG4 = false
is_over Mark = false
is_over MarkA = false
is_over MarkT = false
is_over Named = false
is_over Field = false
is_over Over = true

-- the part after a byte
unfoldable pub part_after : Book → Part → ℕ → Part
part_after book Start b = cond (eqb b (code "G")) CodeG Over
part_after book CodeG b = cond (eqb b (code "0")) CodeG0 (cond (is_old book and eqb b (code "4")) CodeG4 Over)
part_after book CodeG0 b = cond (eqb b (code "4")) Field Over
part_after book CodeG4 b = cond (begins_text b) Field Over
part_after book Mark b = cond (eqb b (code "A")) MarkA (cond (eqb b (code "T")) MarkT Over)
part_after book MarkA b = Over
part_after book MarkT b = cond (eqb b (code "F") or eqb b (code "A") or eqb b (code "O")) Named Over
part_after book Named b = cond (eqb b (code "*")) Over (cond (eqb b (code ",")) Field Named)
part_after book Field b = cond (eqb b (code "*")) Over Field
part_after book Over b = Over

-- the byte is the M of `%AM`
unfoldable pub opens_macro : Part → ℕ → Bool
opens_macro Start b = false
opens_macro CodeG b = false
opens_macro CodeG0 b = false
opens_macro CodeG4 b = false
opens_macro Mark b = false
opens_macro MarkA b = eqb b (code "M")
opens_macro MarkT b = false
opens_macro Named b = false
opens_macro Field b = false
opens_macro Over b = false
