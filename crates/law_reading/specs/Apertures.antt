-- Apertures and macros found, and the outcome of an AD (01, Form and Macros; decisions 77 to 80).
use Rattle.std.specs.Prelude.{ℕ, suc, Bool, false, cond, not, List, [], ◌∷◌, map, eqb, leb, ℤ, length}
use Prim.Native.Char.{code}
use Rattle.base.specs.And.{◌and◌}
use Rattle.base.specs.Or.{◌or◌}
use Rattle.base.specs.Bytes.{same_bytes}
use Rattle.command.specs.Numbers.{size_of}
use Rattle.text.specs.Pieces.{pieces}
use Rattle.primitives.specs.Asked.{none, asked}
use Rattle.macros.specs.Given.{variables_of}
use Rattle.macros.specs.Work.{Effect, blocks_in, worked_out}
use Rattle.templates.specs.Templates.{kind_of, keeps}
use Rattle.graphics.specs.Graphics.{no_aperture}
use Rattle.graphics.specs.declared.Selected.{Selected}
use Rattle.law_reading.specs.State.{Aperture, Template}

-- the kinds of the records (docs/SHEET.md) that are no template's
abbrev pub open_block : ℕ
open_block = 0

abbrev pub block : ℕ
block = 6

unfoldable pub is_taken : ℕ → List Aperture → Bool
is_taken n [] = false
is_taken n (a ∷ rest) = eqb n a.number or is_taken n rest

-- the aperture of record i as Dn selects it: "An open block's number is taken, but selecting it is 8"; a brush is "a C aperture
-- without hole", of one parameter, in the old edition also "a solid rectangle", an R of two
unfoldable pub selected : ℕ → Aperture → Selected
selected i a = record {
  set = not (eqb a.kind open_block);
  number = a.number;
  slot = i;
  circle = eqb a.kind 1 and eqb a.len 1;
  rectangle = eqb a.kind 2 and eqb a.len 2;
  block = eqb a.kind block;
  items = a.items;
  height = a.height;
}

-- the aperture with a number, where the first is record i; `no_aperture`, which is not set, where there is none
unfoldable pub aperture_from : ℕ → ℕ → List Aperture → Selected
aperture_from i n [] = no_aperture
aperture_from i n (a ∷ rest) = cond (eqb n a.number) (selected i a) (aperture_from (suc i) n rest)

unfoldable pub aperture_with : ℕ → List Aperture → Selected
aperture_with n known = aperture_from 0 n known

-- one of these names
unfoldable pub is_among : List ℕ → List (List ℕ) → Bool
is_among name [] = false
is_among name (n ∷ ns) = same_bytes n name or is_among name ns

unfoldable pub names_of : List Template → List (List ℕ)
names_of [] = []
names_of (m ∷ ms) = m.name ∷ names_of ms

unfoldable pub blocks_of : List ℕ → List Template → List ℕ
blocks_of name [] = []
blocks_of name (m ∷ ms) = cond (same_bytes m.name name) m.blocks (blocks_of name ms)

-- "AM cannot take C, R, O or P (8)"
unfoldable pub is_standard : List ℕ → Bool
is_standard name = leb (kind_of name) 4

-- the parameters of an AD, from their comma on
unfoldable pub values_of : List ℕ → List ℤ
values_of s = map (λ t. (size_of t).value.millionths) (pieces (code "X") s)

-- the outcome of an AD: its fault, 0 for none, and the numbers that it keeps: "its parameters for a standard template, or for a macro
-- one and the parameter count for each primitive"
pub record Outcome : Type 0 where
  pub fault : ℕ
  pub kept : List ℤ

unfoldable pub outcome_of : List ℕ → List ℕ → List Template → Outcome
outcome_of name s ms =
    cond (is_standard name)
    (record { fault = cond (keeps (kind_of name) (asked none (values_of s))) 0 10; kept = values_of s })
    (let e : Effect = worked_out (variables_of s) (blocks_in (blocks_of name ms)) in record { fault = e.fault; kept = e.written })

-- the aperture that an AD adds: its numbers stand after those of the apertures before it
unfoldable pub defined : ℕ → List ℕ → ℕ → List ℤ → Aperture
defined n name first kept = record { number = n; kind = kind_of name; first = first; len = length kept; items = 0; height = 0 }

-- a block that opens, and one that has closed with so many items and this height; where its entries lie is the store's matter
unfoldable pub opening : ℕ → Aperture
opening n = record { number = n; kind = open_block; first = 0; len = 0; items = 0; height = 0 }

unfoldable pub block_of : ℕ → ℕ → ℕ → Aperture
block_of n items height = record { number = n; kind = block; first = 0; len = 0; items = items; height = height }

unfoldable pub closing : ℕ → ℕ → ℕ → List Aperture → List Aperture
closing n items height [] = []
closing n items height (a ∷ rest) = cond (eqb n a.number) (block_of n items height) a ∷ closing n items height rest
