-- The outcome of the list of a component layer, after 34 and the room for the notes (02, [4]; decisions 589 to 591).
use Rattle.std.specs.Prelude.{ℕ, ◌≡◌, cond, not, List, ltb, length, replicate}
use Rattle.sheet.specs.declared.Container.{Container}
use Rattle.law_components.specs.Parts.{Part}
use Rattle.law_components.specs.Placements.{list_of}
use Rattle.law_components.specs.Faults.{fault, fault_of}
use Rattle.law_components.specs.Answer.{listed_pins, is_sound, output_of}
use Rattle.law_components.specs.declared.Fault.{Fault}
use Rattle.mending.specs.Mended.{written}
use Rattle.noting.specs.declared.Noting.{Noting}
use Rattle.seeing.specs.Layer.{Layer}
use Rattle.passes.specs.Marks.{Marked}
use Rattle.placement_list.specs.declared.Answer.{Answer}

abbrev pub answered : ℕ → ℕ → ℕ → Answer
answered number place bytes = record { number = number; place = place; bytes = bytes }

-- the first item at fault; 17 where there is no room for the links of so many pins; 17 where the list does not fit
unfoldable pub judged_of : ℕ → ℕ → List Part → Fault
judged_of pins room ps =
    cond (not (is_sound ps)) (fault_of ps)
    (cond (ltb pins (listed_pins ps)) (fault 17 0)
    (cond (ltb room (length (list_of ps))) (fault 17 0) (fault 0 0)))

-- the answer, and the output: the list, and zeros after it; a refusal leaves zeros alone
pub record Lists (f : Fault) (ps : List Part) (room : ℕ) (out : List ℕ) (r : Answer) : Type 0 where
  pub number : r.number ≡ f.number
  pub place : r.place ≡ f.place
  pub bytes : r.bytes ≡ length (output_of f ps)
  pub left : out ≡ written room (output_of f ps)

-- a component layer as it stands before the list: no designator has a main or a pin yet, and the output is zeros
pub record Layered (file e a : List ℕ) (top : Container) (n : Noting) (notes names roles out : List ℕ) : Type 0 where
  pub layer : Layer e a top notes n.operations roles n.roles
  pub of : layer.file ≡ file
  pub marked : Marked layer names 0
  pub clear : out ≡ replicate (length out) 0
