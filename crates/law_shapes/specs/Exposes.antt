-- What a lookup answers of an AD of the file, in the words that a reading left: the AD's number, its template's kind and the numbers that AD's rules
-- keep; of a macro's aperture the primitives that the macro's blocks make, one by one.
use Rattle.std.specs.Prelude.{ℕ, ◌+◌, ◌≡◌, false, List, map, ℤ, Ok}
use Rattle.std.proofs.Math.Seq.{slice}
use Rattle.macros.specs.Given.{variables_of}
use Rattle.macros.specs.Work.{blocks_in}
use Rattle.templates.specs.Templates.{kind_of}
use Rattle.law_reading.specs.State.{Template}
use Rattle.law_reading.specs.Apertures.{is_standard, blocks_of, outcome_of}
use Rattle.shapes.specs.Shapes.{lookup_of}
use Rattle.shapes.specs.declared.Shape.{Shape}
use Rattle.shapes.specs.Runs.{primitives_by}
use Rattle.law_shapes.specs.Figures.{figures_of, figure_at}

-- an AD with this number, its template's name and its parameters, where these macros are known
pub record Exposes (head a : List ℕ) (n : List ℤ) (number : ℕ) (name parameters : List ℕ) (ms : List Template) : Type 0 where
  pub shape : Shape
  pub found : lookup_of head a n number ≡ Ok shape
  pub numbered : shape.number ≡ number
  pub kind : shape.kind ≡ kind_of name
  pub kept : slice shape.first (shape.first + shape.count) n ≡ (outcome_of name parameters ms).kept
  pub figures : is_standard name ≡ false → map (figure_at n) (primitives_by n (Ok shape)) ≡ figures_of (variables_of parameters) (blocks_in (blocks_of name ms))
